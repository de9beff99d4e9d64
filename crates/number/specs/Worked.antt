-- What is written just below the limit, and refused at it. Assumes nothing.
use Rattle.std.specs.Prelude.{◌≡◌, ◌^◌, refl}
use Rattle.std.specs.Float.{binary64}
use Rattle.std.specs.Float.Ieee.{of_bits, of_fields, to_unsigned, round, size, span, climb, units, odd, mul, neg, lt, le, eq}
use Rattle.std.specs.Int.Count.{count_trailing_zeros}
use Rattle.float.specs.Constants.{whole}
use Rattle.float.specs.Standins as S
use Rattle.text.specs.Digits.{digits, digits_by}
use Rattle.number.specs.Number.{num_text, decimal, rounded_size, minus_text, fraction, written}
use Rattle.refusal.specs.Refused.{values, number}

-- "just under 10^13 accepted, 10^13 refused 10"; 9999999999999.998 is the last f64 below, and its text has 14 bytes
pub limit : (written (of_bits binary64 0x42a2309ce53fffff) 14 ≡ values 14) × (written (whole (10 ^ 13)) 14 ≡ number 10) × (written (neg (whole (10 ^ 13))) 14 ≡ number 10)
unfolding written num_text decimal rounded_size minus_text fraction digits digits_by S.round to_unsigned round size span climb units odd mul neg lt le eq of_bits of_fields count_trailing_zeros
limit = (refl, refl, refl)
