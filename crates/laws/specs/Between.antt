-- Of a number between or beside two others: where x < z, each y that is no NaN is above x or below z. Assumes nothing.
use Rattle.std.specs.Prelude.{◌≡◌, refl, Bool, true, false, ◌⊎◌, ℕ, ◌+◌, ◌*◌, ◌<◌, ◌≤◌, T, ℤ, Float}
use Rattle.std.proofs.Common.{subst, inl, inr, ⊎_elim, mul-lt-mul_of_pos_right, mul-le-mul_right, lt_of_mul-lt-mul_right, mul-pos, eq-zero-or-pos, arith, eq-eqb, ltb→lt, lt→ltb}
use Rattle.std.specs.Float.{nan, inf, fin}
use Rattle.std.specs.Float.Ieee.{up, down, below, level, lt, eq, ne}
use Rattle.std.specs.Float.Ieee.Fits.{down_pos}
use Rattle.laws.specs.Cases.{by_lt}
use Rattle.laws.specs.Order.{pos_left}

-- fractions, each test cross-multiplied
core : (x y z p q r : ℕ) → 0 < p → 0 < q → 0 < r → x * r < z * p → y * p ≤ x * q → y * r < z * q
core x y z p q r hp hq hr a b =
    lt_of_mul-lt-mul_right p
    (let u : y * p * r ≤ x * q * r = mul-le-mul_right r b in
    let v : x * r * q < z * p * q = mul-lt-mul_of_pos_right a hq in
    omega (arith, u, v))

-- 0 < a * c + b * d where a or b is positive
sum_pos : (a b c d : ℕ) → 0 < c → 0 < d → 0 < a + b → 0 < a * c + b * d
sum_pos a b c d hc hd h = ⊎_elim
    (λ (z : a ≡ 0). let w : 0 < b * d = mul-pos (omega arith) hd in omega arith)
    (λ (z : 0 < a). let w : 0 < a * c = mul-pos z hc in omega arith)
    (eq-zero-or-pos a)

some_pos : (a b c d : ℕ) → 0 < a * c + b * d → 0 < a + b
some_pos a b c d h = ⊎_elim
    (λ (z : a ≡ 0). ⊎_elim (λ (y : b ≡ 0). absurd (zero a b c d z y h)) (λ (y : 0 < b). omega arith) (eq-zero-or-pos b))
    (λ (z : 0 < a). omega arith)
    (eq-zero-or-pos a)
  where
    zero : (a b c d : ℕ) → a ≡ 0 → b ≡ 0 → 0 < a * c + b * d → ⊥
    zero a b c d z y h = let e : a * c + b * d ≡ 0 = rw (z, y) (omega arith) in omega arith

module _ (x y z p q r : ℕ) (hp : 0 < p) (hq : 0 < q) (hr : 0 < r) where
  beside : (s t u : Bool) → T (below s (x * r) u (z * p)) → T (below s (x * q) t (y * p)) ⊎ T (below t (y * r) u (z * q))
  beside false false false a =
      by_lt (x * q) (y * p) (λ (h : x * q < y * p). inl (lt→ltb (x * q) (y * p) h))
      (λ (h : y * p ≤ x * q). inr (lt→ltb (y * r) (z * q) (core x y z p q r hp hq hr (ltb→lt (x * r) (z * p) a) h)))
  beside false t true a = absurd a
  beside false true false a =
      let w : 0 < z * q = pos_left z p q hq (omega (arith, ltb→lt (x * r) (z * p) a)) in inr (lt→ltb 0 (y * r + z * q) (omega arith))
  beside true false false a =
      ⊎_elim
      (λ (e : y ≡ 0). by_lt 0 x (λ (h : 0 < x). inl (lt→ltb 0 (x * q + y * p) (sum_pos x y q p hq hp (omega arith))))
      (λ (h : x ≤ 0). let w : 0 < z * q = mul-pos (let k : 0 < x + z = some_pos x z r p (ltb→lt 0 (x * r + z * p) a) in omega arith) hq in
      let v : y * r ≡ 0 = rw e (omega arith) in inr (lt→ltb (y * r) (z * q) (omega arith))))
      (λ (e : 0 < y). inl (lt→ltb 0 (x * q + y * p) (sum_pos x y q p hq hp (omega arith))))
      (eq-zero-or-pos y)
  beside true false true a =
      let w : 0 < x * q = pos_left x r q hq (omega (arith, ltb→lt (z * p) (x * r) a)) in inl (lt→ltb 0 (x * q + y * p) (omega arith))
  beside true true false a =
      ⊎_elim
      (λ (e : y ≡ 0). by_lt 0 x (λ (h : 0 < x). let w : 0 < x * q = mul-pos h hq in let v : y * p ≡ 0 = rw e (omega arith) in inl (lt→ltb (y * p) (x * q) (omega arith)))
      (λ (h : x ≤ 0). let w : 0 < z * q = mul-pos (let k : 0 < x + z = some_pos x z r p (ltb→lt 0 (x * r + z * p) a) in omega arith) hq in inr (lt→ltb 0 (y * r + z * q) (omega arith))))
      (λ (e : 0 < y). let w : 0 < y * r = mul-pos e hr in inr (lt→ltb 0 (y * r + z * q) (omega arith)))
      (eq-zero-or-pos y)
  beside true true true a =
      by_lt (y * p) (x * q) (λ (h : y * p < x * q). inl (lt→ltb (y * p) (x * q) h))
      (λ (h : x * q ≤ y * p). inr (lt→ltb (z * q) (y * r) (flip h)))
    where
      flip : x * q ≤ y * p → z * q < y * r
      flip h = lt_of_mul-lt-mul_right p
          (let u : x * q * r ≤ y * p * r = mul-le-mul_right r h in
          let v : z * p * q < x * r * q = mul-lt-mul_of_pos_right (ltb→lt (z * p) (x * r) a) hq in
          omega (arith, u, v))

pub lt-between : (x y z : Float) → ne y y ≡ false → T (lt x z) → T (lt x y) ⊎ T (lt y z)
unfolding lt ne eq
lt-between nan y z h a = absurd a
lt-between (inf false) y nan h a = absurd a
lt-between (inf false) y (inf u) h a = absurd a
lt-between (inf false) y (fin u k g) h a = absurd a
lt-between (inf true) y nan h a = absurd a
lt-between (inf true) nan (inf u) h a = absurd (subst T h tt)
lt-between (inf true) (inf true) (inf u) h a = inr a
lt-between (inf true) (inf false) (inf u) h a = inl tt
lt-between (inf true) (fin t n d) (inf u) h a = inl tt
lt-between (inf true) nan (fin u k g) h a = absurd (subst T h tt)
lt-between (inf true) (inf true) (fin u k g) h a = inr tt
lt-between (inf true) (inf false) (fin u k g) h a = inl tt
lt-between (inf true) (fin t n d) (fin u k g) h a = inl tt
lt-between (fin s m e) y nan h a = absurd a
lt-between (fin s m e) y (inf true) h a = absurd a
lt-between (fin s m e) nan (inf false) h a = absurd (subst T h tt)
lt-between (fin s m e) (inf true) (inf false) h a = inr tt
lt-between (fin s m e) (inf false) (inf false) h a = inl tt
lt-between (fin s m e) (fin t n d) (inf false) h a = inr tt
lt-between (fin s m e) nan (fin u k g) h a = absurd (subst T h tt)
lt-between (fin s m e) (inf true) (fin u k g) h a = inr tt
lt-between (fin s m e) (inf false) (fin u k g) h a = inl tt
lt-between (fin s m e) (fin t n d) (fin u k g) h a =
    beside (m * up e) (n * up d) (k * up g) (down e) (down d) (down g) (down_pos e) (down_pos d) (down_pos g) s t u a

-- a number or an infinity equals itself
pub level_self : (s : Bool) (a : ℕ) → level s a s a ≡ true
level_self true a = rw (eq-eqb a a refl)
level_self false a = rw (eq-eqb a a refl)

pub self_num : (s : Bool) (m : ℕ) (e : ℤ) → ne (fin s m e) (fin s m e) ≡ false
unfolding ne eq
self_num s m e = rw (level_self s (m * up e * down e))

pub self_inf : (s : Bool) → ne (inf s) (inf s) ≡ false
unfolding ne eq
self_inf true = refl
self_inf false = refl

-- what is above or below something is no NaN
pub above_num : (x y : Float) → T (lt x y) → ne y y ≡ false
unfolding lt
above_num nan nan a = absurd a
above_num (inf s) nan a = absurd a
above_num (fin s m e) nan a = absurd a
above_num x (inf t) a = self_inf t
above_num x (fin t n d) a = self_num t n d

pub below_num : (x y : Float) → T (lt x y) → ne x x ≡ false
unfolding lt
below_num nan y a = absurd a
below_num (inf t) y a = self_inf t
below_num (fin t n d) y a = self_num t n d
