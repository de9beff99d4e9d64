-- Labels enter a layout only by their sizes; every state has a centre; the start state is the sheet's. Assumes nothing.
use Rattle.std.specs.Prelude.{◌≡◌, refl, List, [], ℕ, zero, suc, ◌≤◌, eqb, length, Float}
use Rattle.std.proofs.Common.{sym, ap, ap₂, ◌∙◌, arith, eqb-true}
use Rattle.std.proofs.lemmas.List.{length-map}
use Rattle.laws.specs.Cases.{by_bool}
use Rattle.laws.specs.Counting.{table-length}
use Rattle.sheet.specs.Sheet.{Graph}
use Rattle.sheet.specs.Meaning as Meaning
use Rattle.routing.specs.Routing.{Frame, BlockSize}
use Rattle.routing.specs.Sheets.{frame_of, sizes_of, SameFrame}
use Rattle.routing_laws.proofs.Agree.{same-frame}
use Rattle.circular.specs.Ring.{around_ring, ringed, cos_at, sin_at}
use Rattle.fit.specs.Fit.{shifted}
use Rattle.layered.specs.Ys.{xs_length, ys_length}
use Rattle.layout.specs.Layout.{Plan, plan_of, many, plan_start, widest, tallest, Placing, layers, ring, takes_ring, last_kind, chosen, fitted, layout_of}

-- ---- the same states, arrow ends and sizes of labels: the same layout

pub same-plan : (g h : Graph) → SameFrame g h → sizes_of g ≡ sizes_of h → plan_of g ≡ plan_of h
unfolding frame_of
same-plan g h e z =
    let f : frame_of g [] [] ≡ frame_of h [] [] = same-frame g h [] [] e in
    ap₂ (λ (k : Frame) (s : List BlockSize). record { flags = k.flags; arrows = k.arrows; sizes = s }) f z

-- whatever the label lines, where their sizes are alike: by every kind the same centres and size
pub same_layout : (kind : ℕ) (g h : Graph) → SameFrame g h → sizes_of g ≡ sizes_of h
    → layout_of kind (plan_of g) ≡ layout_of kind (plan_of h)
same_layout kind g h e z = ap (layout_of kind) (same-plan g h e z)

-- ---- a centre for each state

ring-length : (part : ℕ → ℕ → Float) (n start : ℕ) (w : Float) → length (ringed part n start w) ≡ n
unfolding ringed around_ring
ring-length part n start w =
    by_bool (eqb n 1) (λ t. rw t (sym (eqb-true n 1 t))) (λ t. rw t (table-length _ 0 n))

-- centres as many as states
abbrev pub OneEach : Plan → Placing → Type 0
OneEach p c = (length c.xs ≡ many p) × (length c.ys ≡ many p)

pub ring-whole : (p : Plan) → OneEach p (ring p)
unfolding ring
ring-whole p = (ring-length cos_at (many p) (plan_start p) (widest p), ring-length sin_at (many p) (plan_start p) (widest p))

pub layers-whole : (p : Plan) → OneEach p (layers p)
unfolding layers
layers-whole p = (xs_length (many p) (plan_start p) p.arrows (widest p), ys_length (many p) (plan_start p) p.arrows (tallest p))

chosen-whole : (kind : ℕ) (p : Plan) → kind ≤ last_kind → OneEach p (chosen kind p)
unfolding chosen
chosen-whole zero p h = by_bool (takes_ring p) (λ t. rw t (ring-whole p)) (λ t. rw t (layers-whole p))
chosen-whole (suc zero) p h = layers-whole p
chosen-whole (suc (suc zero)) p h = ring-whole p
chosen-whole (suc (suc (suc k))) p h = absurd (omega arith)

fitted-whole : (p : Plan) (c : Placing) → OneEach p c → (length (fitted p c).xs ≡ many p) × (length (fitted p c).ys ≡ many p)
unfolding fitted shifted
fitted-whole p c w = (length-map c.xs _ ∙ w.0, length-map c.ys _ ∙ w.1)

plan-whole : (kind : ℕ) (p : Plan) → kind ≤ last_kind → (length (layout_of kind p).xs ≡ many p) × (length (layout_of kind p).ys ≡ many p)
unfolding layout_of
plan-whole kind p h =
    by_bool (eqb (many p) 0)
    (λ t. rw t (sym (eqb-true (many p) 0 t), sym (eqb-true (many p) 0 t)))
    (λ t. rw t (fitted-whole p (chosen kind p) (chosen-whole kind p h)))

pub layout-whole : (kind : ℕ) (g : Graph) → kind ≤ last_kind
    → (length (layout_of kind (plan_of g)).xs ≡ length g.states) × (length (layout_of kind (plan_of g)).ys ≡ length g.states)
layout-whole kind g h =
    let n : many (plan_of g) ≡ length g.states = length-map g.states (λ a. a.flags) in
    let w = plan-whole kind (plan_of g) h in
    (w.0 ∙ n, w.1 ∙ n)

-- ---- "the first start state or 0"

pub start-same : (g : Graph) → plan_start (plan_of g) ≡ Meaning.start_of g
start-same g = refl
