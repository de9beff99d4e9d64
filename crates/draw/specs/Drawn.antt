-- A sheet checked and routed at given centres: what refuses it, what is answered, and what the lent slice then holds.
use Rattle.std.specs.Prelude.{Bool, ◌&&◌, ◌||◌, ℕ, length, take, Float}
use mathlib.Core.List.{List, [], ◌∷◌, ◌++◌, map}
use Rattle.std.specs.Float.Ieee.Scale.{finite}
use Rattle.laws.specs.Put.{put}
use Rattle.laws.specs.Refusals.{Refusal, refusal, decide}
use Rattle.laws.specs.Any.{any_of}
use Rattle.float.specs.Ops.{lt}
use Rattle.float.specs.Constants.{f2e20}
use Rattle.float.specs.Standins.{abs}
use Rattle.shape.specs.declared.«V».{«V»}
use Rattle.sheet.specs.Sheet.{Graph, meaning}
use Rattle.sheet.specs.Refusals.{refusals}
use Rattle.sheet.specs.declared.Limits.{Limits}
use Rattle.label_spots.specs.declared.Geometry.{Geometry}
use Rattle.routing.specs.Sheets.{frame_of, records_of}
use Rattle.beyond.specs.Beyond.{beyond}
use Rattle.refusal.specs.Refused.{Outcome, values, number}

-- the x and the y of each centre
abbrev pub xs_of : List «V» → List Float
xs_of cs = map (λ c. c.x) cs

abbrev pub ys_of : List «V» → List Float
ys_of cs = map (λ c. c.y) cs

-- ---- 8: 'a finite x or y of an existing state's centre beyond 2^20 in size'

abbrev pub far : Float → Bool
far v = finite v && lt f2e20 (abs v)

-- one of the first n; a missing one is not far
abbrev pub some_far : ℕ → List Float → Bool
some_far n l = any_of far (take n l)

unfoldable pub far_centre : ℕ → List Float → List Float → Bool
far_centre n xs ys = some_far n xs || some_far n ys

-- ---- 'Order: 11, 1, 2, 4, 3, 5, 6, 8, 9, 10, 7', of which 11, 10 and 7 are not met here

-- 'a two-way pair whose first free bow exceeds 10^9'
abbrev pub bow_refusals : Graph → List Float → List Float → List Refusal
bow_refusals g xs ys = refusal 9 (beyond (frame_of g xs ys)) ∷ []

abbrev pub centre_refusals : Graph → List Float → List Float → List Refusal
centre_refusals g xs ys = refusal 8 (far_centre (length g.states) xs ys) ∷ bow_refusals g xs ys

abbrev pub draw_refusals : Limits → List ℕ → List Float → List Float → List Refusal
draw_refusals m s xs ys = refusals m s ++ centre_refusals (meaning s) xs ys

-- ---- the call

-- how many records there are, or the number of the refusal
abbrev pub draw_answer : List Refusal → Graph → List Float → List Float → Outcome ℕ
draw_answer rs g xs ys = decide rs number (values (length (records_of g xs ys)))

-- the records from the front on, and behind them what stood there; a refused call leaves all as before
abbrev pub left_by : List Refusal → Graph → List Float → List Float → List Geometry → List Geometry
left_by rs g xs ys l = decide rs (λ n. l) (put l 0 (records_of g xs ys))

abbrev pub draw_of : Limits → List ℕ → List Float → List Float → Outcome ℕ
draw_of m s xs ys = draw_answer (draw_refusals m s xs ys) (meaning s) xs ys

abbrev pub draw_after : Limits → List ℕ → List Float → List Float → List Geometry → List Geometry
draw_after m s xs ys l = left_by (draw_refusals m s xs ys) (meaning s) xs ys l
