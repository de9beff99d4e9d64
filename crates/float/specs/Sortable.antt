-- What a sort by `precedes` rests on, of any floats: it never holds both ways, and where it fails from a to b and from b to c, it fails from a to c. Assumes nothing.
use Rattle.std.specs.Prelude.{◌≡◌, refl, Bool, true, false, T, Float}
use Rattle.std.proofs.Common.{sym, ap, subst, ◌∙◌, ⊎_elim}
use Rattle.std.specs.Float.Ieee.{is_nan}
use Rattle.laws.specs.Between.{lt-between}
use Rattle.laws.specs.Cases.{by_bool, holds, fails}
use Rattle.laws.specs.Order.{float_lt_trans, lt-itself}
use Rattle.float.specs.Ops.{lt}
use Rattle.float.specs.Standins.{negative, precedes}
use Rattle.laws.specs.Nan.{is_nan_lem, nan_test}
use Rattle.laws.specs.Bools.{clash}
use Rattle.float.specs.TotalOrder.{same_sign, minus_plus, plus_minus, nan_before, nan_last}

lt_one_way : (a b : Float) → lt a b ≡ true → lt b a ≡ false
lt_one_way a b e = fails (lt b a) (λ t. lt-itself a (float_lt_trans a b a (holds e) t))

from_nan : (a b : Float) → is_nan a ≡ true → precedes a b ≡ false
from_nan a b n = ap (λ (v : Float). precedes v b) (is_nan_lem a (nan_test a ∙ n)) ∙ nan_before b

to_nan : (a b : Float) → is_nan a ≡ false → is_nan b ≡ true → precedes a b ≡ true
to_nan a b m n = ap (λ (v : Float). precedes a v) (is_nan_lem b (nan_test b ∙ n)) ∙ nan_last a m

pub one_way : (a b : Float) → precedes a b ≡ true → precedes b a ≡ false
one_way a b e = go (is_nan a) refl (is_nan b) refl (negative a) refl (negative b) refl
  where
    alike : is_nan a ≡ false → is_nan b ≡ false → negative a ≡ negative b → precedes b a ≡ false
    alike x y s = same_sign b a (sym s) x ∙ lt_one_way a b (sym (same_sign a b s y) ∙ e)

    go : (p : Bool) → is_nan a ≡ p → (q : Bool) → is_nan b ≡ q → (s : Bool) → negative a ≡ s → (t : Bool) → negative b ≡ t → precedes b a ≡ false
    go true x q y s u t v = absurd (clash e (from_nan a b x))
    go false x true y s u t v = from_nan b a y
    go false x false y true u true v = alike x y (u ∙ sym v)
    go false x false y true u false v = plus_minus b a v u x
    go false x false y false u true v = absurd (clash e (plus_minus a b u v y))
    go false x false y false u false v = alike x y (u ∙ sym v)

pub onward : (a b c : Float) → precedes a b ≡ false → precedes b c ≡ false → precedes a c ≡ false
onward a b c h k = by_bool (precedes a c) (λ e. absurd (go e (is_nan a) refl (is_nan b) refl (is_nan c) refl (negative a) refl (negative b) refl (negative c) refl)) (λ e. e)
  where
    alike : precedes a c ≡ true → is_nan b ≡ false → is_nan c ≡ false → negative a ≡ negative b → negative b ≡ negative c → ⊥
    alike e y z s t =
        ⊎_elim
        (λ (l : T (lt a b)). subst T (sym (same_sign a b s y) ∙ h) l)
        (λ (l : T (lt b c)). subst T (sym (same_sign b c t z) ∙ k) l)
        (lt-between a b c (nan_test b ∙ y) (holds (sym (same_sign a c (s ∙ t) z) ∙ e)))

    go : precedes a c ≡ true → (p : Bool) → is_nan a ≡ p → (q : Bool) → is_nan b ≡ q → (r : Bool) → is_nan c ≡ r → (s : Bool) → negative a ≡ s → (t : Bool) → negative b ≡ t → (u : Bool) → negative c ≡ u → ⊥
    go e true x q y r z s i t j u l = clash e (from_nan a c x)
    go e false x true y r z s i t j u l = clash (to_nan a b x y) h
    go e false x false y true z s i t j u l = clash (to_nan b c y z) k
    go e false x false y false z true i true j true l = alike e y z (i ∙ sym j) (j ∙ sym l)
    go e false x false y false z true i true j false l = clash (minus_plus b c j l z) k
    go e false x false y false z true i false j u l = clash (minus_plus a b i j y) h
    go e false x false y false z false i true j true l = clash e (plus_minus a c i l z)
    go e false x false y false z false i true j false l = clash (minus_plus b c j l z) k
    go e false x false y false z false i false j true l = clash e (plus_minus a c i l z)
    go e false x false y false z false i false j false l = alike e y z (i ∙ sym j) (j ∙ sym l)
