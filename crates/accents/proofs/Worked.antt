-- Document 01's worked sheet with accents put into its line, worked out: before and after the letter, one of them twice, and two across pieces. Assumes nothing.
use Rattle.std.specs.Prelude.{◌≡◌, refl, List, ℕ, zero, suc, ◌≤◌, ◌<◌, length, get_or}
use Rattle.std.proofs.Common.{sym, ap, ◌∙◌, arith}
use mathlib.Core.List.{[], ◌∷◌, flat_map}
use Rattle.laws.specs.Any.{any_of}
use Rattle.laws.specs.Every.{every}
use Rattle.laws.specs.Loops.{any_for, any_up, over}
use Rattle.laws.specs.Refusals.{decide}
use Rattle.text.specs.Ascii.{ascii}
use Rattle.text.specs.Encode.{utf8}
use Rattle.sheet.specs.Sheet.{chain_by, met_line, met_arrow, met, line_of, lines_from, arrow_of, states_of, arrows_of, meaning}
use Rattle.sheet.specs.Meaning.{arrow_at}
use Rattle.sheet.specs.Refusals.{repeats, is_set, wrong_record, wrong_bytes, indices, wrong_chains, large_arrow, over_limits, ill_arrow, ill_formed, service_panel, AtMost}
use Rattle.sheet.specs.Examples.{small, small_graph, small_means}
use Rattle.label.specs.Accents.{WithAccents, as_it_was, more}
use Rattle.routing.specs.Routing.{Frame}
use Rattle.routing_laws.proofs.Agree.{same-frame}
use Rattle.calls.specs.Calls.{values, main_screen, capped_limits, check, onto, list_after}
use Rattle.drawing_text.specs.Worked.{worked_listing}
use Rattle.demand3.specs.Demand.{Answered}
use Rattle.worked_calls.specs.Numbers.{small_xs, small_ys}
use Rattle.worked_calls.specs.Worked.{small_limits, worked_calls}
use Rattle.accents.specs.Sheets.{LinesPut, AccentsPut, AccentsOnly, AnsweredAlike, RecordsAlike}
use Rattle.accents.proofs.Claim.{accents_take_no_width}
use Rattle.accents.specs.Worked.{accented_line, small_accented, accented_graph, plain_call, accented_call}

small_accented_means : meaning small_accented ≡ accented_graph
unfolding states_of arrows_of arrow_of lines_from line_of chain_by flat_map
small_accented_means = refl

small_accepted : check small main_screen ≡ values tt
unfolding check capped_limits decide wrong_bytes wrong_record is_set any_up any_for wrong_chains indices met met_arrow met_line flat_map chain_by any_of repeats over_limits large_arrow states_of arrows_of arrow_of lines_from line_of ill_formed ill_arrow over
small_accepted = refl

small_accented_accepted : check small_accented service_panel ≡ values tt
unfolding check capped_limits decide wrong_bytes wrong_record is_set any_up any_for wrong_chains indices met met_arrow met_line flat_map chain_by any_of repeats over_limits large_arrow states_of arrows_of arrow_of lines_from line_of ill_formed ill_arrow over
small_accented_accepted = refl

-- the accents put in, those behind the letter first
line-accented : WithAccents (ascii "a") accented_line
unfolding utf8 flat_map every over
line-accented = more [] (0x301 ∷ []) (0x61 ∷ 0xcc ∷ 0x80 ∷ 0xcc ∷ 0x80 ∷ 0xcd ∷ 0xaf ∷ []) refl refl (more (ascii "a") (0x300 ∷ 0x300 ∷ 0x36f ∷ []) [] refl refl as_it_was)

lines_accented : LinesPut (ascii "a" ∷ []) (accented_line ∷ [])
lines_accented = record { many = refl; each = each }
  where
    each : (j : ℕ) → j < 1 → WithAccents (get_or (ascii "a" ∷ []) j []) (get_or (accented_line ∷ []) j [])
    each zero h = line-accented
    each (suc j) h = absurd (omega arith)

put_in : AccentsPut small_graph accented_graph
put_in = record {
  ends = record { states = refl; flags = λ k h. refl; many = refl; sources = sources; targets = targets };
  lines = lines;
}
  where
    sources : (k : ℕ) → k < 1 → (arrow_at small_graph k).source ≡ (arrow_at accented_graph k).source
    sources zero h = refl
    sources (suc k) h = refl

    targets : (k : ℕ) → k < 1 → (arrow_at small_graph k).target ≡ (arrow_at accented_graph k).target
    targets zero h = refl
    targets (suc k) h = refl

    lines : (k : ℕ) → k < 1 → LinesPut (arrow_at small_graph k).lines (arrow_at accented_graph k).lines
    lines zero h = lines_accented
    lines (suc k) h = absurd (omega arith)

small_only : AccentsOnly (meaning small) (meaning small_accented)
small_only = rw (small_means, small_accented_means) (accents_take_no_width.only small_graph accented_graph put_in)

on_main_lem : AtMost small_limits main_screen
on_main_lem = record { states = omega arith; arrows = omega arith; lines = omega arith }

small-alike : AnsweredAlike small main_screen small_accented service_panel
small-alike = accents_take_no_width.sheets small small_accented main_screen service_panel small_accepted small_accented_accepted small_only

pub plain-answered : Answered plain_call
plain-answered = record { numbers = 20; bytes = 17; answer = (worked_calls main_screen on_main_lem).routes 20 17 (omega arith) (omega arith) }

pub accented-answered : Answered accented_call
accented-answered = record { numbers = 20; bytes = 17; answer = sym (small-alike.routed small_xs small_ys 25 30) ∙ (worked_calls main_screen on_main_lem).routes 25 30 (omega arith) (omega arith) }

pub record WorkedAccents : Type 0 where
  pub alike : AnsweredAlike small main_screen small_accented service_panel
  -- the one record of each routing
  pub records : RecordsAlike plain_call accented_call plain-answered accented-answered
  -- the listing is that of the worked sheet, whole
  pub listing : (out : List ℕ) → 196 ≤ length out → list_after small_accented service_panel 0 out ≡ onto worked_listing out

pub worked_accents : WorkedAccents
worked_accents = record {
  alike = small-alike;
  records = accents_take_no_width.routings plain_call accented_call plain-answered accented-answered small_only
      (ap (λ (f : Frame). f.centres) (same-frame (meaning small) (meaning small_accented) small_xs small_ys small_only.ends));
  listing = λ out h. sym (small-alike.lines 0 out) ∙ (worked_calls main_screen on_main_lem).text out h;
}
