-- A graph's sheet is accepted. Assumes nothing.
use Rattle.std.specs.Prelude.{◌≡◌, false, not, ◌||◌, ◌+◌, ◌*◌, ◌≤◌, ltb, eqb, length}
use Rattle.std.proofs.Common.{ap, ◌∙◌, arith, le-ltb, eq-eqb}
use Rattle.sheet.specs.Sheet.{version, count, Graph}
use Rattle.sheet.specs.Refusals.{wrong_length, wrong_version, over_limits, ill_formed, refusals, check_of}
use Rattle.laws.specs.Bools.{or_none}
use Rattle.sheet.specs.Accepted.{not-over, not_ill}
use Rattle.sheet.specs.Order.{accepted_exactly}
use Rattle.laws.specs.Refusals.{Clear, without, clear_none}
use Rattle.refusal.specs.Refused.{values}
use Rattle.sheet.specs.declared.Limits.{Limits}
use Rattle.encode.specs.Encode.{records_for, encode}
use Rattle.encode.specs.Flags.{none_above}
use Rattle.encode.specs.Blocks.{at-word}
use Rattle.encode.proofs.Means.{head_at, encode-length, encode_right, meaning-encode}
use Rattle.encode.proofs.Meets.{right_chains}
use Rattle.encode.proofs.Clean.{right_bytes}
use Rattle.encode.specs.Accepts.{Encodable}

fits_length : (g : Graph) → records_for g ≤ 4095 → wrong_length (encode g) ≡ false
fits_length g h =
    let n = length (encode g) in
    let e : n ≡ 16 * (1 + records_for g) = encode-length g in
    or_none (ltb n 16) (ltb 65536 n || not (eqb n (16 * (1 + count (encode g))))) (le-ltb n 16 (omega arith))
    (or_none (ltb 65536 n) (not (eqb n (16 * (1 + count (encode g))))) (le-ltb 65536 n (omega arith))
    (ap not (eq-eqb n (16 * (1 + count (encode g))) (encode_right g))))

right_version : (g : Graph) → wrong_version (encode g) ≡ false
right_version g = let e : version (encode g) ≡ 1 = at-word 0 (head_at g) in rw e

module _ (m : Limits) (g : Graph) (w : Encodable m g) where
  -- No cause of a refusal holds.
  pub encode-clear : Clear (refusals m (encode g))
  encode-clear =
      without 1 (fits_length g w.few)
      (without 2 (right_version g)
      (without 4 (right_bytes g (none_above 3 g w.flags))
      (without 3 (right_chains g)
      (without 5 (ap (over_limits m) (meaning-encode g) ∙ not-over m g w.within)
      (without 6 (ap ill_formed (meaning-encode g) ∙ not_ill m g w.within)
      clear_none)))))

  -- The written sheet is accepted.
  pub encode_accepted : check_of m (encode g) ≡ values tt
  encode_accepted = (accepted_exactly m (encode g)).1 encode-clear
