-- The claim is not empty: the search on a small sheet, and an answered call of `route` with a pair and a straight arrow. Assumes nothing.
use Rattle.std.specs.Prelude.{◌≡◌, refl, Bool, true, false, [], ◌∷◌, map, ℕ, ◌<◌, get_or, Float}
use Rattle.std.proofs.Common.{sym, ap, ◌∙◌, arith}
use Rattle.std.specs.Float.Ieee.{of_int, round, of_bits}
use Rattle.laws.specs.Any.{any_of}
use Rattle.laws.specs.Bools.{clash}
use Rattle.float.specs.Ops.{of_nat, eq}
use Rattle.float.specs.Constants.{f2, f3}
use Rattle.bend.specs.Leads.{leads}
use Rattle.routing.specs.Sheets.{frame_of}
use Rattle.worked_demand.specs.Calls.{first}
use Rattle.worked_demand.specs.Computed.{first-drawn}
use Rattle.worked_demand.specs.Worked.{number_left, turn_is, source_is, target_is, first-answered, first-between, worked_demand}
use Rattle.reverse.specs.Reverse.{searched, points_at, CurveExact}
use Rattle.reverse.proofs.Claim.{two_points, three_points, reverse_arrow}
use Rattle.reverse.specs.Worked.{pair_sheet, WorkedCurves}

-- for an arrow from a to b
abbrev says : ℕ × ℕ → Bool
says p = searched pair_sheet [] [] 0 p.0 p.1

-- yes from 1 to 2, from 2 to 1 and from 1 to 0; no from 0 to 1, from 0 to 2 and from 2 to 0
pub worked_search : map says ((1, 2) ∷ (2, 1) ∷ (1, 0) ∷ (0, 1) ∷ (0, 2) ∷ (2, 0) ∷ []) ≡ true ∷ true ∷ true ∷ false ∷ false ∷ false ∷ []
unfolding frame_of leads any_of
worked_search = refl

two_is : of_nat 2 ≡ f2
unfolding of_int round of_bits
two_is = refl

three_is : of_nat 3 ≡ f3
unfolding of_int round of_bits
three_is = refl

-- the points of turn t's arrow
turn_points : (t : ℕ) → points_at first (get_or (3 ∷ 0 ∷ 1 ∷ 2 ∷ []) t 0) ≡ number_left first 1 t
turn_points t = ap (points_at first) (sym (turn_is first-drawn t))

exact : (e : ℕ) → e < 3 → CurveExact first e
exact e h = reverse_arrow.curve first first-answered e (first-between e h)

arc-first : points_at first 0 ≡ f3
arc-first = turn_points 1 ∙ worked_demand.arcs.0 ∙ three_is

line_third : points_at first 2 ≡ f2
line_third = turn_points 3 ∙ worked_demand.straight ∙ two_is

pub worked_curves : WorkedCurves
worked_curves = record {
  back = record { arrow = 1; leads = record { inside = (first-between 1 (omega arith)).inside; source = source_is first-drawn 1; target = target_is first-drawn 1 } };
  arc = arc-first;
  bent = λ s. clash (ap (λ (v : Float). eq v f2) ((exact 0 (omega arith)).line s) ∙ two_points) (ap (λ (v : Float). eq v f2) arc-first ∙ three_points);
  line = line_third;
  straight = (exact 2 (omega arith)).only line_third;
}
