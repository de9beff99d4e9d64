-- A sheet checked and laid out by kind: what refuses it, what is answered, and what the lent slice then holds.
use Rattle.std.specs.Prelude.{List, [], ◌∷◌, ◌++◌, ℕ, ltb, length, Float}
use Rattle.laws.specs.Put.{put}
use Rattle.laws.specs.Refusals.{Refusal, refusal, decide}
use Rattle.shape.specs.declared.«V».{«V»}
use Rattle.shape.specs.Centres.{centres}
use Rattle.sheet.specs.Sheet.{Graph, meaning}
use Rattle.sheet.specs.Refusals.{refusals}
use Rattle.sheet.specs.declared.Limits.{Limits}
use Rattle.fit.specs.declared.Size.{Size}
use Rattle.layout.specs.Layout.{plan_of, Layout, last_kind, layout_of}
use Rattle.plan.specs.Measured.{layout_beyond}
use Rattle.refusal.specs.Refused.{Outcome, values, number}

-- ---- the order: 'Order: 11, 1, 2, 4, 3, 5, 6, .. 9'

-- 'A layout is refused by 9 if any drawing it measures is.'
abbrev pub measured_refusals : ℕ → Graph → List Refusal
measured_refusals kind g = refusal 9 (layout_beyond kind (plan_of g)) ∷ []

-- of a sheet, by a kind that is one
abbrev pub sheet_refusals : Limits → ℕ → List ℕ → List Refusal
sheet_refusals m kind s = refusals m s ++ measured_refusals kind (meaning s)

-- 'layout kind not 0 Auto, 1 Layered, 2 Circular'
abbrev pub plan_refusals : Limits → ℕ → List ℕ → List Refusal
plan_refusals m kind s = refusal 11 (ltb last_kind kind) ∷ sheet_refusals m kind s

-- ---- the call

-- the layout of a graph by kind
abbrev pub laid_out : ℕ → Graph → Layout
laid_out kind g = layout_of kind (plan_of g)

-- its width and height
abbrev pub size_by : Float → Float → Size
size_by w h = record { width = w; height = h }

abbrev pub size_of : ℕ → Graph → Size
size_of kind g = size_by (laid_out kind g).width (laid_out kind g).height

-- how many states there are, width and height; or the number of the refusal
abbrev pub plan_answer : List Refusal → ℕ → Graph → Outcome (ℕ × Size)
plan_answer rs kind g = decide rs number (values (length g.states, size_of kind g))

-- the centres from the front on, and behind them what stood there; a refused call leaves all as before
abbrev pub centres_by : List Refusal → ℕ → Graph → List «V» → List «V»
centres_by rs kind g cs = decide rs (λ n. cs) (put cs 0 (centres (laid_out kind g).xs (laid_out kind g).ys))

abbrev pub planned : Limits → ℕ → List ℕ → Outcome (ℕ × Size)
planned m kind s = plan_answer (plan_refusals m kind s) kind (meaning s)

abbrev pub centres_planned : Limits → ℕ → List ℕ → List «V» → List «V»
centres_planned m kind s cs = centres_by (plan_refusals m kind s) kind (meaning s) cs
