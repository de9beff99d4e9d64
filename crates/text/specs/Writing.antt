-- What a writer has added to the slice that it is lent, with the laws of writing one text after another.
use Rattle.std.specs.Prelude.{◌≡◌, ℕ, List, [], ◌∷◌, ◌++◌, ◌+◌, ◌≤◌, ◌<◌, length, take, get_or}
use Rattle.std.proofs.Common.{◌∙◌}
use Rattle.std.proofs.Math.Path.{refl}
use Rattle.laws.specs.Writers.{Wrote, wrote-more, wrote_none, wrote-next, wrote_as}
use Rattle.text.specs.declared.Writer.{Writer}

-- `txt` stands in the slice from the writer's place on, as far as the slice goes, and the writer, over the same slice, is at the place after it
pub record Adds (v w : Writer) (txt : List ℕ) : Type 0 where
  pub slice : w.out.ghost_name ≡ v.out.ghost_name
  pub text : Wrote v.out.now v.at w.out.now w.at txt

-- two texts in a row are one
pub adds-more : {u v w : Writer} {txt ws : List ℕ} → Adds u v txt → Adds v w ws → Adds u w (txt ++ ws)
adds-more a b = record { slice = b.slice ∙ a.slice; text = wrote-more a.text b.text }

-- nothing added yet
pub adds_none : (w : Writer) → length w.out.now < 18446744073709551615 → w.at ≤ 18446744073709551615 → Adds w w []
adds_none w h k = record { slice = refl; text = wrote_none w.out.now w.at h k }

-- one element of s more
pub adds-next : {u v w : Writer} (s : List ℕ) (i : ℕ) (d : ℕ) → i < length s → Adds u v (take i s) → Adds v w (get_or s i d ∷ []) → Adds u w (take (i + 1) s)
adds-next s i d h a b = record { slice = b.slice ∙ a.slice; text = wrote-next s i d h a.text b.text }

-- the text by another name
pub adds_as : {v w : Writer} {txt txt' : List ℕ} → txt ≡ txt' → Adds v w txt → Adds v w txt'
adds_as e a = record { slice = a.slice; text = wrote_as e a.text }
