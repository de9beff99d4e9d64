-- A quoted text as the codes of its characters; where all are ASCII these are its bytes.
use mathlib.Core.List as L
use Rattle.std.specs.Prelude.{List, ℕ}
use Prim.Native.Char.{code}
use Prim.Native.String as S
use Prim.Native.String.{String}

abbrev pub ascii : String → List ℕ
ascii S.[] = L.[]
ascii (S.◌∷◌ c s) = L.◌∷◌ (code c) (ascii s)
