-- "A curve is a line, a quadratic or a cubic, carrying its own points." Bézier curves in Bernstein's form.
use Rattle.std.specs.Prelude.{Float}
use Rattle.float.specs.Ops.{◌⊖◌, ◌⊗◌}
use Rattle.float.specs.Constants.{f1, f2, f3, f6}
use Rattle.shape.specs.declared.«V».{«V»}
use Rattle.shape.specs.declared.Curve.{Curve}
use Rattle.shape.specs.declared.Curve.TheVariants.{Line, Quad, Cubic}
use Rattle.shape.specs.Plane.{add, sub, mul}

-- the point at parameter t, where s = 1 − t: s p + t q; s² p + 2st c + t² q; s³ p + 3s²t c + 3st² d + t³ q
unfoldable pub at : Curve → Float → «V»
at (Line p q) t = let s = f1 ⊖ t in add (mul p s) (mul q t)
at (Quad p c q) t = let s = f1 ⊖ t in add (add (mul p (s ⊗ s)) (mul c (f2 ⊗ s ⊗ t))) (mul q (t ⊗ t))
at (Cubic p c d q) t =
    let s = f1 ⊖ t in
    add (add (add (mul p (s ⊗ s ⊗ s)) (mul c (f3 ⊗ s ⊗ s ⊗ t))) (mul d (f3 ⊗ s ⊗ t ⊗ t))) (mul q (t ⊗ t ⊗ t))

-- the derivative at parameter t: q − p; 2s (c − p) + 2t (q − c); 3s² (c − p) + 6st (d − c) + 3t² (q − d)
unfoldable pub tangent : Curve → Float → «V»
tangent (Line p q) t = sub q p
tangent (Quad p c q) t = let s = f1 ⊖ t in add (mul (sub c p) (f2 ⊗ s)) (mul (sub q c) (f2 ⊗ t))
tangent (Cubic p c d q) t =
    let s = f1 ⊖ t in
    add (add (mul (sub c p) (f3 ⊗ s ⊗ s)) (mul (sub d c) (f6 ⊗ s ⊗ t))) (mul (sub q d) (f3 ⊗ t ⊗ t))

abbrev pub start : Curve → «V»
start (Line p q) = p
start (Quad p c q) = p
start (Cubic p c d q) = p

abbrev pub end : Curve → «V»
end (Line p q) = q
end (Quad p c q) = q
end (Cubic p c d q) = q
