-- A loop of writing: what stands already, with what is still to come, is the whole text. Assumes nothing.
use Rattle.std.specs.Prelude.{◌≡◌, ℕ, ◌≤◌, ◌<◌, length}
use Rattle.std.proofs.Common.{sym, ap, arith}
use mathlib.Core.List.{List, [], ◌∷◌, ◌++◌, flat_map}
use Rattle.laws.specs.Put.{length-put}
use Rattle.text.specs.declared.Writer.{Writer}
use Rattle.text.specs.Writing.{Adds, adds-more, adds_none, adds_as}

-- a writer that began as u has come to v: whoever now adds `rest` has added `whole`
pub record Continues (u v : Writer) (rest whole : List ℕ) : Type 0 where
  pub room : length v.out.now < 18446744073709551615
  pub fits : v.at ≤ 18446744073709551615
  pub then : (w : Writer) → Adds v w rest → Adds u w whole

-- nothing added yet
pub continues_whole : (u : Writer) {rest whole : List ℕ} → length u.out.now < 18446744073709551615 → u.at ≤ 18446744073709551615 → rest ≡ whole → Continues u u rest whole
continues_whole u r h e = record { room = r; fits = h; then = λ w a. adds_as e a }

-- one text more
pub continues_step : {u v w : Writer} {rest whole txt later : List ℕ} → rest ≡ txt ++ later → Continues u v rest whole → Adds v w txt → Continues u w later whole
continues_step {v = v} {txt = txt} e k a = record { room = omega (arith, k.room, ap length a.text.list, length-put v.out.now v.at txt); fits = omega (arith, a.text.next_is); then = λ x b. k.then x (adds_as (sym e) (adds-more a b)) }

-- nothing to come
pub continues_end : {u v : Writer} {rest whole : List ℕ} → rest ≡ [] → Continues u v rest whole → Adds u v whole
continues_end {v = v} e k = k.then v (adds_as (sym e) (adds_none v k.room k.fits))

-- a text for each of a list's things, in their order
module _ {A : Type 0} (f : A → List ℕ) where
  pub texts_step : {u v w : Writer} {whole : List ℕ} {s r : List A} (x : A) → s ≡ x ∷ r → Continues u v (flat_map f s) whole → Adds v w (f x) → Continues u w (flat_map f r) whole
  unfolding flat_map
  texts_step x e k a = continues_step (ap (flat_map f) e) k a

  pub texts_end : {u v : Writer} {whole : List ℕ} {s : List A} → s ≡ [] → Continues u v (flat_map f s) whole → Adds u v whole
  unfolding flat_map
  texts_end e k = continues_end (ap (flat_map f) e) k
