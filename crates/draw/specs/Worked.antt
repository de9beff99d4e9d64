-- Calls worked out by computation. Assumes nothing.
use Rattle.std.specs.Prelude.{◌≡◌, refl, true, ℕ, Float}
use mathlib.Core.List.{List, [], ◌∷◌, ◌++◌, flat_map}
use Rattle.std.specs.Float.{nan, inf, binary64}
use Rattle.std.specs.Float.Ieee.{of_bits, neg, lt, round}
use Rattle.laws.specs.Loops.{any_for, any_up, over}
use Rattle.laws.specs.Refusals.{decide}
use Rattle.laws.specs.Filter.{filter_by}
use Rattle.laws.specs.Flat.{table}
use Rattle.laws.specs.Zip.{zip_by}
use Rattle.laws.specs.Any.{any_of}
use Rattle.float.specs.Constants.{f0, f2e20}
use Rattle.sheet.specs.Sheet.{chain_by, met, met_arrow, met_line, states_of, arrows_of}
use Rattle.sheet.specs.Refusals.{repeats, is_set, wrong_record, wrong_bytes, indices, wrong_chains, over_limits, ill_formed, main_screen}
use Rattle.sheet.specs.Records.{header, state_bytes}
use Rattle.routing.specs.Routing.{numbered_from, kept, records}
use Rattle.routing.specs.Sheets.{frame_of}
use Rattle.beyond.specs.Beyond.{beyond}
use Rattle.draw.specs.Drawn.{far_centre, draw_of}
use Rattle.refusal.specs.Refused.{Outcome, values, number}

-- a sheet of one state, drawn at these centres
abbrev pub drawn_alone : List Float → List Float → Outcome ℕ
drawn_alone xs ys = draw_of main_screen (header 1 1 0 ++ state_bytes 0 0) xs ys

-- the f64 next above 2^20
abbrev pub above_border : Float
above_border = of_bits binary64 0x4130000000000001

-- "Centre 2^20 accepted, next f64 above 8." Of x and y alike, and of either sign; a number that no state has, and one that is not finite, is not refused.
pub far_border :
    (drawn_alone (f2e20 ∷ []) (neg f2e20 ∷ []) ≡ values 0)
    × (drawn_alone (above_border ∷ []) (f0 ∷ []) ≡ number 8)
    × (drawn_alone (f0 ∷ []) (neg above_border ∷ []) ≡ number 8)
    × (drawn_alone (f0 ∷ above_border ∷ []) [] ≡ values 0)
    × (drawn_alone (nan ∷ []) (inf true ∷ []) ≡ values 0)
unfolding decide any_of repeats is_set wrong_record wrong_bytes any_up any_for met met_arrow met_line indices wrong_chains over_limits ill_formed chain_by states_of arrows_of flat_map far_centre of_bits neg lt frame_of beyond kept filter_by numbered_from records table zip_by over round
far_border = (refl, refl, refl, refl, refl)
