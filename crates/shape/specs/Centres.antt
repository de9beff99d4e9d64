-- The centres of the states.
use Rattle.std.specs.Prelude.{List, ℕ, get_or, Float}
use Rattle.laws.specs.Zip.{zip_by}
use Rattle.float.specs.Constants.{f0}
use Rattle.shape.specs.declared.«V».{«V»}
use Rattle.shape.specs.Plane.{vec}

-- the centres, from their x and their y
abbrev pub centres : List Float → List Float → List «V»
centres xs ys = zip_by vec xs ys

-- the centre of state k
abbrev pub centre : List «V» → ℕ → «V»
centre ps k = get_or ps k (vec f0 f0)
