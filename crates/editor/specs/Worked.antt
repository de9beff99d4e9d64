-- A sheet saved under the service panel's limits, computed: document 01's worked sheet with its records in another order. Assumes nothing.
use Rattle.std.specs.Prelude.{◌≡◌, refl, replicate}
use mathlib.Core.List.{◌++◌, flat_map}
use Rattle.laws.specs.Any.{any_of}
use Rattle.laws.specs.Loops.{any_for, any_up, over}
use Rattle.laws.specs.Refusals.{decide}
use Rattle.text.specs.Ascii.{ascii}
use Rattle.sheet.specs.Sheet.{chain_by, met_line, met_arrow, met, line_of, lines_from, arrow_of, states_of, arrows_of}
use Rattle.sheet.specs.Refusals.{repeats, is_set, wrong_record, wrong_bytes, indices, wrong_chains, large_arrow, over_limits, ill_arrow, ill_formed, service_panel}
use Rattle.sheet.specs.Examples.{small, shuffled, lined}
use Rattle.encode.specs.Encode.{space_of, all_records, pieces_by, line_records, arrow_records, encode}
use Rattle.calls.specs.Calls.{values, number, capped_limits, write_sheet, write_sheet_after}
use Rattle.editor.specs.Saves.{Saved}

pub record WorkedSave : Type 0 where
  -- 96 bytes, in order; of 100 that are lent the last four stay
  pub saved : Saved shuffled service_panel (replicate 100 170)
  pub bytes : saved.bytes ≡ 96
  pub after : write_sheet_after shuffled service_panel (replicate 100 170) ≡ small ++ replicate 4 170
  -- one byte less than the sheet has
  pub refused : write_sheet shuffled service_panel 95 ≡ number 7
  -- two pieces of one byte become one of two: 80 bytes become 64
  pub joined : write_sheet (lined (ascii "a") (ascii "b")) service_panel 80 ≡ values 64

pub worked_save : WorkedSave
unfolding write_sheet write_sheet_after capped_limits decide wrong_bytes wrong_record is_set any_up any_for wrong_chains indices met met_arrow met_line flat_map chain_by any_of repeats over_limits large_arrow states_of arrows_of arrow_of lines_from line_of ill_formed ill_arrow over encode all_records space_of pieces_by line_records arrow_records
worked_save = record { saved = record { bytes = 96; answer = refl }; bytes = refl; after = refl; refused = refl; joined = refl }
