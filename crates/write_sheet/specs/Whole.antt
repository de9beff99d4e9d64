-- A sheet written afresh: how many records, and the header before states and arrows. Assumes nothing.
use Rattle.std.specs.Prelude.{◌≡◌, false, not, List, ◌++◌, map, ℕ, ◌+◌, ◌*◌, ◌≤◌, ◌<◌, ltb, eqb}
use Rattle.std.proofs.Math.Path.{sym}
use Rattle.std.proofs.Common.{◌∙◌}
use native.Mathlib.Omega.{arith}
use Rattle.std.proofs.Math.ListN.{length}
use Rattle.std.proofs.lemmas.List.{length-map}
use Rattle.laws.specs.Any.{any_of, any_narrower}
use Rattle.laws.specs.Bools.{or-second, or_false_right}
use Rattle.laws.specs.Put.{put, put-put}
use Rattle.sheet.specs.Sheet.{count, first_state, first_arrow, state_chain, Graph, state_of, states_of, arrow_of, arrows_of, meaning}
use Rattle.sheet.specs.Refusals.{wrong_length, wrong_version, wrong_bytes, wrong_chains, large_arrow, over_limits}
use Rattle.sheet.specs.declared.Limits.{Limits}
use Rattle.sheet.specs.Accepted.{few}
use Rattle.sheet.specs.Records.{header}
use Rattle.encode.specs.Encode.{first_index, space_of, all_records, state_size, state_records, arrow_size, arrow_records, arrows_from, records_for, encode}
use Rattle.encode.specs.Blocks.{all-length}
use Rattle.encode.specs.Kinds.{never, any_never, state_form}
use Rattle.encode.specs.Fewer.{space_one, records_fewer}
use Rattle.write_line.specs.Writing.{index_if}
use Rattle.write_line.specs.Puts.{put_before}
use Rattle.write_sheet.specs.Sheets.{long_arrow, Savable}
use Rattle.write_sheet.specs.Chained.{index-whole}

-- ---- a sheet that 1 to 5 do not refuse
none_long : (m : Limits) (g : Graph) → over_limits m g ≡ false → any_of long_arrow g.arrows ≡ false
unfolding over_limits large_arrow
none_long m g o =
    any_narrower long_arrow (large_arrow m) g.arrows (λ a h. or-second (ltb m.lines (length a.lines)) (long_arrow a) h)
    (or_false_right (ltb m.arrows (length g.arrows)) _ (or_false_right (ltb m.states (length g.states)) _ o))

pub savable : (m : Limits) (s : List ℕ) → wrong_length s ≡ false → wrong_version s ≡ false → wrong_bytes s ≡ false → wrong_chains s ≡ false → over_limits m (meaning s) ≡ false → Savable s
savable m s sized first plain chained within =
    let a : records_for (meaning s) ≤ count s = records_fewer s first plain chained in
    let b : count s < 4096 = few s sized in
    record { lines = none_long m (meaning s) within; few = omega arith }

-- ---- any sheet
module _ (s : List ℕ) where
  pub states_space : (n : ℕ) → n ≡ length (state_chain s) → n ≡ space_of state_size (states_of s)
  unfolding states_of
  states_space n e = e ∙ sym (length-map (state_chain s) (state_of s)) ∙ sym (space_one (map (state_of s) (state_chain s)))

  first_state_lem : first_index 1 (states_of s) ≡ index_if (not (eqb (first_state s) 0)) 1
  unfolding states_of
  first_state_lem = index-whole (state_of s) s (first_state s) 1

  first-arrow : (k : ℕ) → first_index k (arrows_of s) ≡ index_if (not (eqb (first_arrow s) 0)) k
  unfolding arrows_of
  first-arrow k = index-whole (arrow_of s) s (first_arrow s) k

  -- the states, the arrows, and then the header before them; i and j are where the chains begin as they were read
  pub sheet_written : (out : List ℕ) {out' out'' out''' : List ℕ} {n k i j t u : ℕ} → n ≡ records_for (meaning s) → k ≡ arrows_from (meaning s)
      → i ≡ first_state s → t ≡ index_if (not (eqb i 0)) 1 → j ≡ first_arrow s → u ≡ index_if (not (eqb j 0)) k
      → out' ≡ put out (16 * 1) (all_records state_size state_records 1 (states_of s))
      → out'' ≡ put out' (16 * k) (all_records arrow_size arrow_records k (arrows_of s))
      → out''' ≡ put out'' 0 (header n t u) → out''' ≡ put out 0 (encode (meaning s))
  unfolding encode
  sheet_written out {out'} {out''} {out'''} {n} {k} {i} {j} {t} {u} en ek ei et ej eu p q r =
      let g = meaning s in
      let a = all_records state_size state_records 1 (states_of s) in
      let b = all_records arrow_size arrow_records (arrows_from g) (arrows_of s) in
      let l : length a ≡ 16 * space_of state_size (states_of s) = all-length (state_form never) 1 (states_of s) (any_never (states_of s)) in
      let d : 16 * arrows_from g ≡ 16 + length a = omega arith in
      let w : out'' ≡ put out 16 (a ++ b) = q ∙ rw (ek, d, p) (put-put out 16 a b) in
      r ∙ rw w (put_before out 0 (header n t u) (a ++ b) ∙ rw (et, eu, ei, ej, en, ek, first_state_lem, first-arrow (arrows_from g)))
