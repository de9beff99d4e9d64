-- What it is to be read by the SVG path grammar as some commands; and that every curve and every arrowhead is.
-- Here is what it says; `svg_paths` of Reading proves it.
use Rattle.std.specs.Prelude.{◌≡◌, true, ℕ, Float}
use mathlib.Core.List.{List, [], ◌∷◌, flat_map}
use Rattle.std.proofs.Math.Option.{some}
use Rattle.std.specs.Float.Ieee.Scale.{finite}
use Rattle.number.specs.Number.{hundredths, writable}
use Rattle.number.specs.Rounded.{HundredthsRounded}
use Rattle.shape.specs.declared.«V».{«V»}
use Rattle.shape.specs.declared.Curve.{Curve}
use Rattle.svg.specs.Paths.{Command, curve_path, head_path, head_of, curve_text, head_text}
use Rattle.svg.specs.Grammar.{Numeral, Segment, svg_path}
use Rattle.svg.specs.Numbers.{Worth}

-- the coordinates of points, in order
abbrev pub coordinates : List «V» → List Float
coordinates ps = flat_map (λ p. p.x ∷ p.y ∷ []) ps

-- as many numbers as coordinates, each worth the hundredths of its coordinate
abbrev pub SameNumbers : List Numeral → List Float → Type 0
SameNumbers [] [] = Unit {0}
SameNumbers [] (v ∷ vs) = ⊥
SameNumbers (n ∷ ns) [] = ⊥
SameNumbers (n ∷ ns) (v ∷ vs) = Worth n (hundredths v) × SameNumbers ns vs

-- the same letter, and the same numbers
pub record SameCommand (s : Segment) (c : Command «V») : Type 0 where
  pub letter : s.letter ≡ c.letter
  pub numbers : SameNumbers s.numbers (coordinates c.points)

abbrev pub SameCommands : List Segment → List (Command «V») → Type 0
SameCommands [] [] = Unit {0}
SameCommands [] (c ∷ cs) = ⊥
SameCommands (s ∷ ss) [] = ⊥
SameCommands (s ∷ ss) (c ∷ cs) = SameCommand s c × SameCommands ss cs

-- the whole text is read as these commands
pub record ReadsAs (text : List ℕ) (cs : List (Command «V»)) : Type 0 where
  pub segments : List Segment
  pub read : svg_path text ≡ some segments
  pub same : SameCommands segments cs

pub record Paths : Type 0 where
  -- the text of every curve
  pub curves : (k : Curve) → ReadsAs (curve_text k) (curve_path k)
  -- and of every arrowhead
  pub heads : (tip : «V») (angle : Float) → ReadsAs (head_text tip angle) (head_path (head_of tip angle))
  -- the hundredths of a finite number that may be written are v · 100, rounded to a whole number
  pub rounded : (v : Float) → writable v ≡ true → finite v ≡ true → HundredthsRounded v
