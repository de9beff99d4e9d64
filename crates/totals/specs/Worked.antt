-- The totals of a small drawing. Assumes nothing.
use Rattle.std.specs.Prelude.{◌≡◌, refl, ℕ}
use mathlib.Core.List.{List, [], ◌∷◌, flat_map}
use Rattle.laws.specs.Counting.{how_many}
use Rattle.laws.specs.Filter.{filter_by}
use Rattle.text.specs.Ascii.{ascii}
use Rattle.float.specs.Constants.{f0}
use Rattle.shape.specs.declared.«V».{«V»}
use Rattle.shape.specs.declared.Curve.{Curve}
use Rattle.shape.specs.declared.Curve.TheVariants.{Line, Quad, Cubic}
use Rattle.shape.specs.Plane.{vec, rect}
use Rattle.label_spots.specs.declared.Anchor.TheVariants.{Middle}
use Rattle.label_spots.specs.declared.Geometry.{Geometry}
use Rattle.sheet.specs.Sheet.{State, Arrow, Graph}
use Rattle.totals.specs.Totals.{totals_of}

abbrev plain : State
plain = record { flags = 0 }

abbrev arrow_from : ℕ → ℕ → List (List ℕ) → Arrow
arrow_from from to lines = record { source = from; target = to; lines = lines }

-- a straight arrow, a two-way pair, a loop with a line and a line without text, and an arrow to no state
abbrev five_arrows : Graph
five_arrows = record {
  states = plain ∷ plain ∷ plain ∷ [];
  arrows =
      arrow_from 0 1 (ascii "a" ∷ [])
      ∷ arrow_from 1 2 (ascii "b" ∷ [])
      ∷ arrow_from 2 1 []
      ∷ arrow_from 2 2 (ascii "c" ∷ [] ∷ [])
      ∷ arrow_from 0 3 (ascii "d" ∷ [])
      ∷ [];
}

-- of a record only its curve is counted, and of that its points
abbrev drawn_as : Curve → Geometry
drawn_as curve = record { edge = 0; curve = curve; tip = vec f0 f0; tip_angle = f0; label = vec f0 f0; anchor = Middle; label_box = rect f0 f0 f0 f0 }

abbrev four_records : List Geometry
four_records =
    let o : «V» = vec f0 f0 in
    drawn_as (Line o o) ∷ drawn_as (Quad o o o) ∷ drawn_as (Quad o o o) ∷ drawn_as (Cubic o o o o) ∷ []

-- a line without text is counted, the line of a left-out arrow is not
pub worked_totals_lem : totals_of five_arrows four_records ≡ record { straight = 1; arcs = 2; loops = 1; left_out = 1; lines = 4 }
unfolding totals_of how_many filter_by flat_map
worked_totals_lem = refl
