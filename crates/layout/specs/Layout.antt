-- The layout of a graph by kind: layers or ring, the choice between them, and the fit. Document 01: "layout.rs".
use Rattle.std.specs.Prelude.{◌≡◌, ◌<◌, Result, MatchResult, Bool, cond, ◌||◌, List, [], map, ℕ, zero, suc, ◌+◌, ltb, eqb, length, Float}
use Rattle.float.specs.Constants.{f2, f2_5, margin}
use Rattle.float.specs.Ops.{◌⊗◌, lt, of_nat}
use Rattle.sheet.specs.Sheet.{Graph, flags_of}
use Rattle.sheet.specs.Meaning.{start_index}
use Rattle.shape.specs.declared.«V».{«V»}
use Rattle.shape.specs.Centres.{centres}
use Rattle.label_spots.specs.declared.Geometry.{Geometry}
use Rattle.routing.specs.Routing.{Ends, Frame, BlockSize, records}
use Rattle.routing.specs.Sheets.{ends_of, sizes_of, frame_with, centres_at}
use Rattle.clutter.specs.Clutter.{clutter_of}
use Rattle.circular.specs.Ring.{largest, circular_xs, circular_ys}
use Rattle.layered.specs.Layered.{layered_xs, layered_ys}
use Rattle.layout.specs.declared.Placement.{Placement}
use Rattle.layout.specs.declared.Placement.TheVariants.{Layers, Ring}
use Rattle.layout.specs.declared.Kind.{Kind}
use Rattle.layout.specs.declared.Kind.TheVariants.{Auto, Layered, Circular}
use Rattle.refusal.specs.declared.Refusal.{Refusal}
use Rattle.refusal.specs.declared.Refusal.TheVariants as R
use Rattle.fit.specs.Fit.{fit_xs, fit_ys, fit_size}

-- ---- what is laid out: the states' flags, the arrows' ends, and the sizes of their labels

pub record Plan : Type 0 where
  pub flags : List ℕ
  pub arrows : List Ends
  pub sizes : List BlockSize

abbrev pub plan_of : Graph → Plan
plan_of g = record { flags = flags_of g; arrows = map ends_of g.arrows; sizes = sizes_of g }

-- how many states
abbrev pub many : Plan → ℕ
many p = length p.flags

-- "the first start state or 0"
abbrev pub plan_start : Plan → ℕ
plan_start p = start_index p.flags

-- the largest label: of all arrows, left-out ones too
abbrev pub widest : Plan → Float
widest p = largest (map (λ z. z.width) p.sizes)

abbrev pub tallest : Plan → Float
tallest p = largest (map (λ z. z.height) p.sizes)

-- ---- centres

pub record Placing : Type 0 where
  pub xs : List Float
  pub ys : List Float

abbrev pub placing : List Float → List Float → Placing
placing xs ys = record { xs = xs; ys = ys }

-- as points
abbrev pub centres_of : Placing → List «V»
centres_of c = centres c.xs c.ys

-- "Layered: breadth-first from the first start state or 0"
abbrev pub layers_by : ℕ → ℕ → List Ends → Float → Float → Placing
layers_by n start arrows w h = placing (layered_xs n start arrows w) (layered_ys n start arrows h)

unfoldable pub layers : Plan → Placing
layers p = layers_by (many p) (plan_start p) p.arrows (widest p) (tallest p)

-- "Circular"
abbrev pub ring_by : ℕ → ℕ → Float → Placing
ring_by n start w = placing (circular_xs n start w) (circular_ys n start w)

unfoldable pub ring : Plan → Placing
ring p = ring_by (many p) (plan_start p) (widest p)

abbrev pub placed : Placement → Plan → Placing
placed Layers p = layers p
placed Ring p = ring p

-- ---- the drawing at these centres

-- "Centres missing or not finite count as 0."
abbrev pub plan_frame : Plan → Placing → Frame
plan_frame p c = frame_with p.flags (centres_at c.xs c.ys (many p)) p.arrows

abbrev pub records_at : Plan → Placing → List Geometry
records_at p c = records (plan_frame p c) p.sizes

unfoldable pub clutter_at : Plan → Placing → ℕ
clutter_at p c = clutter_of (plan_frame p c).centres (records_at p c)

-- ---- the choice: "Auto: the ring where arrows > 2.5·states, counting all arrows, or where layered clutter > ring clutter + 2."

-- of n states and m arrows
abbrev pub is_more : ℕ → ℕ → Bool
is_more n m = lt (f2_5 ⊗ of_nat n) (of_nat m)

unfoldable pub is_dense : Plan → Bool
is_dense p = is_more (many p) (length p.arrows)

unfoldable pub is_tangled : Plan → Bool
is_tangled p = ltb (clutter_at p (ring p) + 2) (clutter_at p (layers p))

unfoldable pub takes_ring : Plan → Bool
takes_ring p = is_dense p || is_tangled p

-- "layout kind not 0 Auto, 1 Layered, 2 Circular" is refused by 11: kinds above the last
abbrev pub last_kind : ℕ
last_kind = 2

-- "0 Auto, 1 Layered, 2 Circular"
abbrev pub kind_number : Kind → ℕ
kind_number Auto = 0
kind_number Layered = 1
kind_number Circular = 2

-- the kind of this number; a number that no kind has is refused by 11
abbrev pub GivesKind : ℕ → Result Kind Refusal → Type 0
GivesKind n r = MatchResult r (λ kind. kind_number kind ≡ n) (λ e. (e ≡ R.Kind) × (last_kind < n))

-- by the number of a kind; one that 11 refuses has no centres
unfoldable pub chosen : ℕ → Plan → Placing
chosen zero p = cond (takes_ring p) (ring p) (layers p)
chosen (suc zero) p = layers p
chosen (suc (suc zero)) p = ring p
chosen (suc (suc (suc k))) p = placing [] []

-- ---- the layout

pub record Layout : Type 0 where
  pub xs : List Float
  pub ys : List Float
  pub width : Float
  pub height : Float

-- "No states: no centres, size 32 by 32."
abbrev pub no_states : Layout
no_states = record { xs = []; ys = []; width = f2 ⊗ margin; height = f2 ⊗ margin }

-- "`fit` then shifts to the margin 16."
unfoldable pub fitted : Plan → Placing → Layout
fitted p c =
    let cs = centres c.xs c.ys in
    let gs = records_at p c in
    record {
      xs = fit_xs p.flags cs gs c.xs;
      ys = fit_ys p.flags cs gs c.ys;
      width = (fit_size p.flags cs gs).width;
      height = (fit_size p.flags cs gs).height;
    }

unfoldable pub layout_of : ℕ → Plan → Layout
layout_of kind p = cond (eqb (many p) 0) no_states (fitted p (chosen kind p))
