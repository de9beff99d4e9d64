-- Path text: the commands of a curve and of an arrowhead, and how they are written.
use Rattle.std.specs.Prelude.{Bool, true, ◌&&◌, List, [], ◌∷◌, ◌++◌, ℕ, Float}
use Prim.Native.Char.{code}
use Rattle.float.specs.Ops.{neg}
use Rattle.float.specs.Constants.{arrow_length, arrow_half_width}
use Rattle.number.specs.Number.{num_text, writable}
use Rattle.shape.specs.declared.«V».{«V»}
use Rattle.shape.specs.declared.Curve.{Curve}
use Rattle.shape.specs.declared.Curve.TheVariants.{Line, Quad, Cubic}
use Rattle.shape.specs.Plane.{vec, add, sub, mul, polar}
use Rattle.svg.specs.declared.Head.{Head}

-- ---- commands: a letter and its points

pub record Command (A : Type 0) : Type 0 where
  pub letter : ℕ
  pub points : List A

module _ {A : Type 0} where
  abbrev pub move_to : A → Command A
  move_to p = record { letter = code "M"; points = p ∷ [] }

  abbrev pub line_to : A → Command A
  line_to p = record { letter = code "L"; points = p ∷ [] }

  abbrev pub quad_to : A → A → Command A
  quad_to c p = record { letter = code "Q"; points = c ∷ p ∷ [] }

  abbrev pub cubic_to : A → A → A → Command A
  cubic_to c d p = record { letter = code "C"; points = c ∷ d ∷ p ∷ [] }

  abbrev pub close_path : Command A
  close_path = record { letter = code "Z"; points = [] }

-- "A curve is a line, a quadratic or a cubic, carrying its own points"
abbrev pub curve_path : Curve → List (Command «V»)
curve_path (Line a b) = move_to a ∷ line_to b ∷ []
curve_path (Quad a c b) = move_to a ∷ quad_to c b ∷ []
curve_path (Cubic a c d b) = move_to a ∷ cubic_to c d b ∷ []

-- "`arrowhead`": ARROW_LENGTH 9 from its base to its tip, ARROW_HALF_WIDTH 3.5 to either side of the base
unfoldable pub head_of : «V» → Float → Head
head_of tip angle =
    let ahead = polar angle in
    let base = sub tip (mul ahead arrow_length) in
    let side = mul (vec (neg ahead.y) ahead.x) arrow_half_width in
    record { tip = tip; left = add base side; right = sub base side }

abbrev pub head_path : Head → List (Command «V»)
head_path h = move_to h.tip ∷ line_to h.left ∷ line_to h.right ∷ close_path ∷ []

-- ---- their text

unfoldable pub point_text : «V» → List ℕ
point_text p = code " " ∷ num_text p.x ++ (code " " ∷ num_text p.y)

unfoldable pub points_text : List «V» → List ℕ
points_text [] = []
points_text (p ∷ ps) = point_text p ++ points_text ps

abbrev pub command_text : Command «V» → List ℕ
command_text c = c.letter ∷ points_text c.points

-- a blank before each command but the first
unfoldable pub more_text : List (Command «V») → List ℕ
more_text [] = []
more_text (c ∷ cs) = code " " ∷ command_text c ++ more_text cs

unfoldable pub path_text : List (Command «V») → List ℕ
path_text [] = []
path_text (c ∷ cs) = command_text c ++ more_text cs

unfoldable pub curve_text : Curve → List ℕ
curve_text k = path_text (curve_path k)

unfoldable pub head_text : «V» → Float → List ℕ
head_text tip angle = path_text (head_path (head_of tip angle))

-- ---- refusal 10: whether every coordinate of a path may be written

abbrev pub point_writable : «V» → Bool
point_writable p = writable p.x && writable p.y

unfoldable pub points_writable : List «V» → Bool
points_writable [] = true
points_writable (p ∷ ps) = point_writable p && points_writable ps

unfoldable pub path_writable : List (Command «V») → Bool
path_writable [] = true
path_writable (c ∷ cs) = points_writable c.points && path_writable cs
