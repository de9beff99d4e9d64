-- What is read of a sheet is the plan of its graph; refusals one after another; what a layout answers. Assumes nothing.
use Rattle.std.specs.Prelude.{◌≡◌, true, List, [], ◌++◌, map, drop, ℕ, ◌≤◌, ◌<◌, ltb, length}
use Rattle.std.proofs.Math.Path.{refl, sym, ap, ap₂}
use Rattle.std.proofs.Common.{◌∙◌, arith, lt-ltb, le-ltb}
use Rattle.std.proofs.Math.Bool.{false}
use Rattle.std.proofs.Math.ListN.{length-map}
use Rattle.laws.specs.Put.{put, put_front}
use Rattle.laws.specs.Refusals.{Refusal, decide, decide-first, decide-rest}
use Rattle.shape.specs.declared.«V».{«V»}
use Rattle.shape.specs.Centres.{centres}
use Rattle.sheet.specs.Sheet.{Graph, meaning, flags_of}
use Rattle.sheet.specs.Refusals.{check_of}
use Rattle.sheet.specs.Order.{check-refused, check_accepted}
use Rattle.sheet.specs.declared.Limits.{Limits}
use Rattle.routing.specs.Routing.{Ends, BlockSize}
use Rattle.routing.specs.Sheets.{ends_of, sizes_of, SameFrame}
use Rattle.fit.specs.declared.Size.{Size}
use Rattle.layout.specs.Layout.{Plan, plan_of, last_kind, kind_number, layout_of}
use Rattle.layout.specs.declared.Kind.{Kind}
use Rattle.layout.specs.declared.Kind.TheVariants.{Auto, Layered, Circular}
use Rattle.layout.specs.Lent as Layout
use Rattle.layout.specs.Alike.{same-plan}
use Rattle.plan.specs.Measured.{layout_beyond}
use Rattle.refusal.specs.Refused.{Outcome, values, number}
use Rattle.plan.specs.Planned.{measured_refusals, sheet_refusals, plan_refusals, laid_out, size_by, size_of, plan_answer, centres_by}

-- ---- what is read

-- the plan that slices hold
abbrev plan_by : List ℕ → List Ends → List BlockSize → Plan
plan_by flags arrows sizes = record { flags = flags; arrows = arrows; sizes = sizes }

pub plan-read : (g : Graph) {flags : List ℕ} {arrows : List Ends} {sizes : List BlockSize} → flags ≡ flags_of g
    → arrows ≡ map ends_of g.arrows → sizes ≡ sizes_of g
    → plan_by flags arrows sizes ≡ plan_of g
plan-read g a b c = rw (a, b, c) refl

-- ---- what is answered and left under a list of refusals

abbrev Left : List Refusal → ℕ → Graph → Outcome (ℕ × Size) → List «V» → List «V» → Type 0
Left rs kind g r cs qs = (r ≡ plan_answer rs kind g) × (qs ≡ centres_by rs kind g cs)

abbrev answer : ℕ → Graph → Outcome (ℕ × Size)
answer kind g = values (length g.states, size_of kind g)

abbrev stored : ℕ → Graph → List «V» → List «V»
stored kind g cs = put cs 0 (centres (laid_out kind g).xs (laid_out kind g).ys)

left-refused : (rs : List Refusal) (n kind : ℕ) (g : Graph) (cs : List «V»)
    → ((A : Type 0) (refuse : ℕ → A) (accept : A) → refuse n ≡ decide rs refuse accept)
    → Left rs kind g (number n) cs cs
left-refused rs n kind g cs e = (e (Outcome (ℕ × Size)) number (answer kind g), e (List «V») (λ k. cs) (stored kind g cs))

left_as : (rs qs : List Refusal) (kind : ℕ) (g : Graph) (r : Outcome (ℕ × Size)) (cs cs' : List «V»)
    → ((A : Type 0) (refuse : ℕ → A) (accept : A) → decide rs refuse accept ≡ decide qs refuse accept) → Left rs kind g r cs cs'
    → Left qs kind g r cs cs'
left_as rs qs kind g r cs cs' e h =
    (h.0 ∙ e (Outcome (ℕ × Size)) number (answer kind g), h.1 ∙ e (List «V») (λ k. cs) (stored kind g cs))

module _ (m : Limits) (kind : ℕ) (s : List ℕ) (cs : List «V») where
  -- 11
  pub plan_kind : last_kind < kind → Left (plan_refusals m kind s) kind (meaning s) (number 11) cs cs
  plan_kind h =
      left-refused (plan_refusals m kind s) 11 kind (meaning s) cs
      (λ A refuse accept. decide-first 11 (ltb last_kind kind) (sheet_refusals m kind s) refuse accept (lt-ltb last_kind kind h))

  -- 1 to 6
  pub plan-refused : (n : ℕ) → kind ≤ last_kind → number n ≡ check_of m s → Left (plan_refusals m kind s) kind (meaning s) (number n) cs cs
  plan-refused n h e =
      left-refused (plan_refusals m kind s) n kind (meaning s) cs
      (λ A refuse accept.
      check-refused m s (measured_refusals kind (meaning s)) refuse accept n e
      ∙ decide-rest 11 (ltb last_kind kind) (sheet_refusals m kind s) refuse accept (le-ltb last_kind kind h))

  pub plan_accepted : (r : Outcome (ℕ × Size)) (qs : List «V») → kind ≤ last_kind → values tt ≡ check_of m s
      → Left (measured_refusals kind (meaning s)) kind (meaning s) r cs qs → Left (plan_refusals m kind s) kind (meaning s) r cs qs
  plan_accepted r qs h e =
      left_as (measured_refusals kind (meaning s)) (plan_refusals m kind s) kind (meaning s) r cs qs
      (λ A refuse accept.
      check_accepted m s (measured_refusals kind (meaning s)) refuse accept e
      ∙ decide-rest 11 (ltb last_kind kind) (sheet_refusals m kind s) refuse accept (le-ltb last_kind kind h))

-- the number of a kind is at most the last
kind_most : (k : Kind) → kind_number k ≤ last_kind
kind_most Auto = omega arith
kind_most Layered = omega arith
kind_most Circular = omega arith

pub kind_within : {n : ℕ} (k : Kind) → kind_number k ≡ n → n ≤ last_kind
kind_within k e = omega (arith, kind_most k, e)

-- ---- 9

-- whatever the label lines, where their sizes are alike, a layout is refused alike
pub same-refused : (kind : ℕ) (g h : Graph) → SameFrame g h → sizes_of g ≡ sizes_of h
    → layout_beyond kind (plan_of g) ≡ layout_beyond kind (plan_of h)
same-refused kind g h e z = ap (layout_beyond kind) (same-plan g h e z)

-- ---- what a layout answers

module _ (kind : ℕ) (g : Graph) {p : Plan} (e : p ≡ plan_of g) where
  -- refused by 9: nothing is stored
  pub plan-beyond : (cs : List «V») → layout_beyond kind p ≡ true → Left (measured_refusals kind g) kind g (number 9) cs cs
  plan-beyond cs b =
      left-refused (measured_refusals kind g) 9 kind g cs
      (λ A refuse accept. decide-first 9 (layout_beyond kind (plan_of g)) [] refuse accept (ap (layout_beyond kind) (sym e) ∙ b))

  -- laid out, in the first n of cs
  pub plan-size : (n : ℕ) (s : Size) (cs qs : List «V») → layout_beyond kind p ≡ false → n ≡ length (flags_of g) → length qs ≡ n
      → n ≤ length cs → Layout.Left (layout_of kind p) s qs
      → Left (measured_refusals kind g) kind g (values (n, s)) cs (qs ++ drop n cs)
  unfolding decide
  plan-size n s cs qs b m k f l =
      let t : layout_beyond kind (plan_of g) ≡ false = ap (layout_beyond kind) (sym e) ∙ b in
      let w : s.width ≡ (laid_out kind g).width = l.width ∙ ap (λ (q : Plan). (layout_of kind q).width) e in
      let h : s.height ≡ (laid_out kind g).height = l.height ∙ ap (λ (q : Plan). (layout_of kind q).height) e in
      let c : qs ≡ centres (laid_out kind g).xs (laid_out kind g).ys = l.centres
      ∙ ap (λ (q : Plan). centres (layout_of kind q).xs (layout_of kind q).ys) e in
      let front : put cs 0 qs ≡ qs ++ drop n cs = put_front cs qs (omega arith) ∙ ap (λ (i : ℕ). qs ++ drop i cs) k in
      rw t
      (ap₂ (λ (i : ℕ) (z : Size). values (i, z)) (m ∙ length-map g.states (λ a. a.flags)) (ap₂ size_by w h), sym front ∙ ap (put cs 0) c)
