-- The lines of a text of paths or of such: no number and no path has a newline byte in it. Assumes nothing.
use Rattle.std.specs.Prelude.{◌≡◌, refl, Bool, true, false, cond, eqb, ltb, get_or, Float}
use Rattle.std.proofs.Common.{sym, ◌∙◌, not-suc-le-zero, add_assoc, mul-zero, mul-suc, one-mul, one-add, arith, ne_eqb}
use Rattle.std.proofs.Math.Path.{ap, ap₂}
use mathlib.Core.List.{List, [], ◌∷◌, ◌++◌, append_assoc, flat_map}
use Prim.Native.Nat.{ℕ, zero, suc, ◌+◌, ◌*◌, ◌/◌, ◌%◌, ◌<◌}
use Rattle.std.proofs.Math.Nat.{add_comm, zero-add}
use Rattle.std.proofs.Math.ListN.{length}
use Rattle.laws.specs.Joined.{flat_map_lem}
use Rattle.text.specs.Digits.{digits_by, digits}
use Rattle.number.specs.Number.{Hundredths, hundredths, minus_text, fraction, decimal, num_text}
use Rattle.shape.specs.declared.«V».{«V»}
use Rattle.shape.specs.declared.Curve.{Curve}
use Rattle.shape.specs.declared.Curve.TheVariants.{Line, Quad, Cubic}
use Rattle.svg.specs.Paths.{Command, curve_path, point_text, points_text, command_text, more_text, path_text, curve_text}
use Rattle.label_spots.specs.declared.Geometry.{Geometry}
use Rattle.drawing_text.specs.Lines.{path_line, paths_of, paths_text}
use Rattle.demand3.specs.Demand.{until_newline, after_newline, text_line_at}

-- ---- a line ends at the first newline

-- every byte is above the newline: letters, blanks, digits, `-` and `.` are
abbrev pub Above : List ℕ → Type 0
Above [] = Unit {0}
Above (b ∷ l) = (10 < b) × Above l

pub join : (l m : List ℕ) → Above l → Above m → Above (l ++ m)
join [] m p q = q
join (b ∷ l) m p q = (p.0, join l m p.1 q)

pub line_first : (l m : List ℕ) → Above l → until_newline (l ++ 10 ∷ m) ≡ l
unfolding until_newline
line_first [] m h = refl
line_first (b ∷ l) m h = rw (ne_eqb b 10 (λ e. absurd (omega (arith, h.0)))) (ap (λ (r : List ℕ). b ∷ r) (line_first l m h.1))

pub line-later : (l m : List ℕ) → Above l → after_newline (l ++ 10 ∷ m) ≡ m
unfolding after_newline
line-later [] m h = refl
line-later (b ∷ l) m h = rw (ne_eqb b 10 (λ e. absurd (omega (arith, h.0)))) (line-later l m h.1)

-- ---- the bytes of a path

by_above : (f n : ℕ) → Above (digits_by f n)
unfolding digits_by
by_above zero n = (omega arith, tt)
by_above (suc f) n = go (ltb n 10) (by_above f (n / 10))
  where
    go : (t : Bool) → Above (digits_by f (n / 10)) → Above (cond t ((48 + n) ∷ []) (digits_by f (n / 10) ++ ((48 + n % 10) ∷ [])))
    go true h = (omega arith, tt)
    go false h = join (digits_by f (n / 10)) ((48 + n % 10) ∷ []) h (omega arith, tt)

pub digits_above : (n : ℕ) → Above (digits n)
unfolding digits
digits_above n = by_above n n

minus_above : (b : Bool) → Above (minus_text b)
unfolding minus_text
minus_above true = (omega arith, tt)
minus_above false = tt

fraction_above : (n : ℕ) → Above (fraction n)
unfolding fraction
fraction_above n = go (eqb n 0) (eqb (n % 10) 0)
  where
    go : (a b : Bool) → Above (cond a [] (cond b (46 ∷ (48 + n / 10) ∷ []) (46 ∷ (48 + n / 10) ∷ (48 + n % 10) ∷ [])))
    go true b = tt
    go false true = (omega arith, (omega arith, tt))
    go false false = (omega arith, (omega arith, (omega arith, tt)))

pub num_above : (v : Float) → Above (num_text v)
unfolding num_text decimal
num_above v =
    let h : Hundredths = hundredths v in
    join (minus_text h.minus ++ digits (h.size / 100)) (fraction (h.size % 100))
    (join (minus_text h.minus) (digits (h.size / 100)) (minus_above h.minus) (digits_above (h.size / 100)))
    (fraction_above (h.size % 100))

point_above : (p : «V») → Above (point_text p)
unfolding point_text
point_above p = (omega arith, join (num_text p.x) (32 ∷ num_text p.y) (num_above p.x) (omega arith, num_above p.y))

points_above : (ps : List «V») → Above (points_text ps)
unfolding points_text
points_above [] = tt
points_above (p ∷ ps) = join (point_text p) (points_text ps) (point_above p) (points_above ps)

-- the letters of a path's commands
abbrev pub Letters : List (Command «V») → Type 0
Letters [] = Unit {0}
Letters (c ∷ cs) = (10 < c.letter) × Letters cs

more_above : (cs : List (Command «V»)) → Letters cs → Above (more_text cs)
unfolding more_text
more_above [] h = tt
more_above (c ∷ cs) h = (omega arith, join (command_text c) (more_text cs) (h.0, points_above c.points) (more_above cs h.1))

pub path_above : (cs : List (Command «V»)) → Letters cs → Above (path_text cs)
unfolding path_text
path_above [] h = tt
path_above (c ∷ cs) h = join (command_text c) (more_text cs) (h.0, points_above c.points) (more_above cs h.1)

pub curve_letters : (k : Curve) → Letters (curve_path k)
curve_letters (Line a b) = (omega arith, (omega arith, tt))
curve_letters (Quad a c b) = (omega arith, (omega arith, tt))
curve_letters (Cubic a c d b) = (omega arith, (omega arith, tt))

pub curve_above : (k : Curve) → Above (curve_text k)
unfolding curve_text
curve_above k = path_above (curve_path k) (curve_letters k)

-- ---- texts of so many lines each, one after another

-- what stands behind l is reached after w lines
abbrev pub Skips : ℕ → List ℕ → Type 0
Skips w l = (m : List ℕ) (k : ℕ) → text_line_at (w + k) (l ++ m) ≡ text_line_at k m

pub skips_line : (l : List ℕ) → Above l → Skips 1 (l ++ (10 ∷ []))
unfolding text_line_at
skips_line l h m k =
    ap (λ (n : ℕ). text_line_at n ((l ++ (10 ∷ [])) ++ m)) (one-add k)
    ∙ ap (λ (t : List ℕ). text_line_at k (after_newline t)) (append_assoc l (10 ∷ []) m)
    ∙ ap (text_line_at k) (line-later l m h)

pub skips_join : (a b : ℕ) (l m : List ℕ) → Skips a l → Skips b m → Skips (a + b) (l ++ m)
skips_join a b l m p q n k =
    ap₂ text_line_at (add_assoc a b k) (append_assoc l m n)
    ∙ p (m ++ n) (b + k)
    ∙ q n k

module _ {A : Type 0} (f : A → List ℕ) (w : ℕ) (each : (x : A) → Skips w (f x)) where
  pub skips_all : (xs : List A) → Skips (w * length xs) (flat_map f xs)
  unfolding flat_map
  skips_all [] m k = ap (λ (n : ℕ). text_line_at n m) (ap (λ (n : ℕ). n + k) (mul-zero w) ∙ zero-add k)
  skips_all (x ∷ xs) m k =
      ap (λ (n : ℕ). text_line_at (n + k) ((f x ++ flat_map f xs) ++ m)) (mul-suc w (length xs) ∙ add_comm (w * length xs) w)
      ∙ skips_join w (w * length xs) (f x) (flat_map f xs) (each x) (skips_all xs) m k

  -- the first line of text k, with anything behind them
  pub first_of : (h : A → List ℕ) → ((x : A) (m : List ℕ) → until_newline (f x ++ m) ≡ h x) → (xs : List A) (m : List ℕ) (k : ℕ) (d : A) → k < length xs
      → text_line_at (w * k) (flat_map f xs ++ m) ≡ h (get_or xs k d)
  unfolding flat_map text_line_at
  first_of h p [] m k d i = absurd (not-suc-le-zero i)
  first_of h p (x ∷ xs) m zero d i = ap₂ text_line_at (mul-zero w) (append_assoc (f x) (flat_map f xs) m) ∙ p x (flat_map f xs ++ m)
  first_of h p (x ∷ xs) m (suc k) d i =
      ap₂ text_line_at (mul-suc w k ∙ add_comm (w * k) w) (append_assoc (f x) (flat_map f xs) m)
      ∙ each x (flat_map f xs ++ m) (w * k)
      ∙ first_of h p xs m k d (omega arith)

-- ---- line k of the paths of some records, with anything behind them, is the path of record k

abbrev path_of : Geometry → List ℕ
path_of g = path_line (curve_path g.curve)

path_skips : (g : Geometry) → Skips 1 (path_of g)
unfolding path_line curve_text
path_skips g = skips_line (curve_text g.curve) (curve_above g.curve)

path-first : (g : Geometry) (m : List ℕ) → until_newline (path_of g ++ m) ≡ curve_text g.curve
unfolding path_line curve_text
path-first g m = ap until_newline (append_assoc (curve_text g.curve) (10 ∷ []) m) ∙ line_first (curve_text g.curve) m (curve_above g.curve)

pub line-path : (gs : List Geometry) (tail : List ℕ) (k : ℕ) (d : Geometry) → k < length gs → text_line_at k (paths_text gs ++ tail) ≡ curve_text (get_or gs k d).curve
unfolding paths_text paths_of
line-path gs tail k d h =
    ap₂ (λ (n : ℕ) (t : List ℕ). text_line_at n (t ++ tail)) (sym (one-mul k)) (flat_map_lem path_line (λ (g : Geometry). curve_path g.curve) gs)
    ∙ first_of path_of 1 path_skips (λ g. curve_text g.curve) path-first gs tail k d h
