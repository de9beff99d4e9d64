-- `<` on floats is irreflexive and transitive, at NaN and the infinities too. Assumes nothing.
use Rattle.std.specs.Prelude.{Bool, true, false, ℕ, ◌+◌, ◌*◌, ◌<◌, T, Float}
use Rattle.std.proofs.Common.{mul-lt-mul_of_pos_right, lt_of_mul-lt-mul_right, lt_irrefl, mul-pos, arith, ltb→lt, lt→ltb}
use Rattle.std.specs.Float.{nan, inf, fin}
use Rattle.std.specs.Float.Ieee.{up, down, below, lt}
use Rattle.std.specs.Float.Ieee.Fits.{down_pos}

-- a fraction below a fraction below a fraction, each test cross-multiplied
core : (x y z p q r : ℕ) → 0 < p → 0 < q → 0 < r → x * q < y * p → y * r < z * q → x * r < z * p
core x y z p q r hp hq hr a b =
    lt_of_mul-lt-mul_right q
    (let u : x * q * r < y * p * r = mul-lt-mul_of_pos_right a hr in
    let v : y * r * p < z * q * p = mul-lt-mul_of_pos_right b hp in
    omega (arith, u, v))

pub pos_left : (z q w : ℕ) → 0 < w → 0 < z * q → 0 < z * w
pos_left z q w hw h = mul-pos (lt_of_mul-lt-mul_right q {m = 0} {n = z} (omega (arith, h))) hw

below_trans : (s t u : Bool) (x y z p q r : ℕ) → 0 < p → 0 < q → 0 < r → T (below s (x * q) t (y * p)) → T (below t (y * r) u (z * q)) → T (below s (x * r) u (z * p))
below_trans false false false x y z p q r hp hq hr a b = lt→ltb _ _ (core x y z p q r hp hq hr (ltb→lt _ _ a) (ltb→lt _ _ b))
below_trans false false true x y z p q r hp hq hr a b = absurd b
below_trans false true u x y z p q r hp hq hr a b = absurd a
below_trans true false false x y z p q r hp hq hr a b =
    let h : 0 < z * p = pos_left z q p hp (omega (arith, ltb→lt (y * r) (z * q) b)) in lt→ltb 0 (x * r + z * p) (omega arith)
below_trans true false true x y z p q r hp hq hr a b = absurd b
below_trans true true false x y z p q r hp hq hr a b =
    let h : 0 < x * r = pos_left x q r hr (omega (arith, ltb→lt (y * p) (x * q) a)) in lt→ltb 0 (x * r + z * p) (omega arith)
below_trans true true true x y z p q r hp hq hr a b = lt→ltb _ _ (core z y x r q p hr hq hp (ltb→lt _ _ b) (ltb→lt _ _ a))

pub float_lt_trans : (x y z : Float) → T (lt x y) → T (lt y z) → T (lt x z)
unfolding lt
float_lt_trans nan y z a b = absurd a
float_lt_trans (inf s) nan z a b = absurd a
float_lt_trans (inf false) (inf t) z a b = absurd a
float_lt_trans (inf false) (fin t n d) z a b = absurd a
float_lt_trans (inf true) (inf true) z a b = absurd a
float_lt_trans (inf true) (inf false) nan a b = absurd b
float_lt_trans (inf true) (inf false) (inf u) a b = absurd b
float_lt_trans (inf true) (inf false) (fin u k g) a b = absurd b
float_lt_trans (inf true) (fin t n d) nan a b = absurd b
float_lt_trans (inf true) (fin t n d) (inf true) a b = absurd b
float_lt_trans (inf true) (fin t n d) (inf false) a b = tt
float_lt_trans (inf true) (fin t n d) (fin u k g) a b = tt
float_lt_trans (fin s m e) nan z a b = absurd a
float_lt_trans (fin s m e) (inf true) z a b = absurd a
float_lt_trans (fin s m e) (inf false) nan a b = absurd b
float_lt_trans (fin s m e) (inf false) (inf u) a b = absurd b
float_lt_trans (fin s m e) (inf false) (fin u k g) a b = absurd b
float_lt_trans (fin s m e) (fin t n d) nan a b = absurd b
float_lt_trans (fin s m e) (fin t n d) (inf u) a b = b
float_lt_trans (fin s m e) (fin t n d) (fin u k g) a b =
    below_trans s t u (m * up e) (n * up d) (k * up g) (down e) (down d) (down g) (down_pos e) (down_pos d) (down_pos g) a b

pub lt-itself : (x : Float) → T (lt x x) → ⊥
unfolding lt
lt-itself nan a = a
lt-itself (inf true) a = a
lt-itself (inf false) a = a
lt-itself (fin true m e) a = lt_irrefl (m * up e * down e) (ltb→lt (m * up e * down e) (m * up e * down e) a)
lt-itself (fin false m e) a = lt_irrefl (m * up e * down e) (ltb→lt (m * up e * down e) (m * up e * down e) a)
