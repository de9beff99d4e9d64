-- The order of the turns, computed on a small frame: loops, then arcs, then straight arrows, and no turn for an arrow that is left out. Assumes nothing.
use Rattle.std.specs.Prelude.{◌≡◌, refl, [], ◌∷◌, map}
use Rattle.std.specs.Float.Ieee.{of_bits, of_fields, to_bits, is_nan, round, size, span, climb, units, odd, sum, of_int}
use Rattle.std.specs.Float.Ieee as Ieee
use Rattle.std.specs.Int.Count.{count_trailing_zeros}
use Rattle.laws.specs.Any.{any_of}
use Rattle.laws.specs.Filter.{filter_by}
use Rattle.laws.specs.Flat.{table}
use Rattle.laws.specs.Loops.{down, over, up, steps_from}
use Rattle.root.specs.Root.{root_bits, nearest_root, whole_root, try_digits, scale}
use Rattle.float.specs.Constants.{f0, whole}
use Rattle.float.specs.Standins as F
use Rattle.shape.specs.Plane.{vec, unit_or}
use Rattle.shape.specs.Curves as Curves
use Rattle.free.specs.Chords.{chord, others_from}
use Rattle.free.specs.Blocked.{intervals}
use Rattle.free.specs.Free as Free
use Rattle.bend.specs.Bend.{bend, pair_bow, single_bow}
use Rattle.bend.specs.Leads.{leads}
use Rattle.bend.specs.Clear as Clear
use Rattle.bend.specs.Between as Between
use Rattle.routing.specs.Routing as R
use Rattle.routing.specs.Sheets.{frame_with, ends_by}

-- three states, the second 140 to the right of the first and the third 200 below it; a straight arrow, two loops, an arrow that is left out between them, and a pair
abbrev pub worked_frame : R.Frame
worked_frame =
    frame_with (0 ∷ 0 ∷ 0 ∷ []) (vec f0 f0 ∷ vec (whole 140) f0 ∷ vec f0 (whole 200) ∷ [])
    (ends_by 0 1 ∷ ends_by 1 1 ∷ ends_by 0 3 ∷ ends_by 0 0 ∷ ends_by 0 2 ∷ ends_by 2 0 ∷ [])

pub worked_order : map R.edge_of (R.order worked_frame) ≡ 1 ∷ 3 ∷ 4 ∷ 5 ∷ 0 ∷ []
unfolding R.numbered_from R.kept R.joined R.routes R.order filter_by table F.root F.root_of root_bits nearest_root whole_root try_digits scale down over unit_or Curves.at chord others_from intervals Free.visit Free.pass Free.passes Free.first_free bend pair_bow single_bow leads Clear.verified Clear.first_that Clear.outdone Clear.nearest Clear.clearance Between.between Between.with_bow Between.straight Between.bowed up steps_from Ieee.add Ieee.sub Ieee.mul Ieee.div Ieee.neg Ieee.lt Ieee.le Ieee.eq Ieee.ne of_int round size span climb units odd sum of_bits of_fields to_bits count_trailing_zeros is_nan any_of
worked_order = refl
