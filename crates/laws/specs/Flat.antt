-- Records of w numbers each, one after another in one list: how they are read, and what a store of one leaves. Assumes nothing.
use Rattle.std.specs.Prelude.{◌≡◌, length, drop, set}
use Rattle.std.proofs.Math.Path.{refl, ap, ap₂}
use Rattle.std.proofs.Common.{sym, ◌∙◌, zero-add, add-suc, suc-add, add-one, length-take-le, take_at, drop_at}
use mathlib.Core.List.{List, [], ◌∷◌, ◌++◌, append_assoc}
use Prim.Native.Nat.{ℕ, zero, suc, ◌+◌, ◌-◌, ◌*◌, ◌≤◌, ◌<◌}
use Rattle.std.proofs.Math.Nat.{add-zero}
use native.Mathlib.Omega.{arith}
use Rattle.std.proofs.Math.ListN.{take}
use Rattle.std.proofs.lemmas.List.{drop-set-add}
use Rattle.std.proofs.Math.Seq.{take-set-le}
use Rattle.laws.specs.Put.{put, put-eq}

-- n things: f k, f (k + 1) ..
unfoldable pub table : {A : Type 0} → (ℕ → A) → ℕ → ℕ → List A
table f k zero = []
table f k (suc n) = f k ∷ table f (suc k) n

-- the numbers of record k, at w numbers a record
abbrev pub part : {A : Type 0} → ℕ → ℕ → List A → List A
part w k xs = take w (drop (w * k) xs)

-- the first n records, each as what `decode` makes of its numbers
abbrev pub decode_flat : {A B : Type 0} → (List A → B) → ℕ → ℕ → List A → List B
decode_flat decode w n xs = table (λ k. decode (part w k xs)) 0 n

module _ {A : Type 0} where
  table_snoc : (f : ℕ → A) (k n : ℕ) → table f k (suc n) ≡ table f k n ++ (f (k + n) ∷ [])
  unfolding table
  table_snoc f k zero = rw add-zero
  table_snoc f k (suc n) = ap (λ (l : List A). f k ∷ l) (rw (add-suc k n, ← (suc-add k n)) (table_snoc f (suc k) n))

  table_agree : (f g : ℕ → A) (k n : ℕ) → ((j : ℕ) → j < k + n → f j ≡ g j) → table f k n ≡ table g k n
  unfolding table
  table_agree f g k zero h = refl
  table_agree f g k (suc n) h = ap₂ (λ (x : A) (l : List A). x ∷ l) (h k (omega arith)) (table_agree f g (suc k) n (λ j i. h j (omega arith)))

  -- one thing more
  pub table_more : (f : ℕ → A) (n : ℕ) → table f 0 n ++ (f n ∷ []) ≡ table f 0 (n + 1)
  table_more f n = sym (rw (add-one, table_snoc, zero-add))

  -- a run is read back where it was stored
  pub part-new : (w at : ℕ) (xs vs : List A) → length vs ≡ w → at + w ≤ length xs → take w (drop at (put xs at vs)) ≡ vs
  part-new w at xs vs e h =
      ap (λ (l : List A). take w (drop at l)) (put-eq xs at vs (omega arith) ∙ append_assoc (take at xs) vs (drop (at + length vs) xs))
      ∙ ap (take w) (drop_at (take at xs) (vs ++ drop (at + length vs) xs) at (length-take-le at xs (omega arith)))
      ∙ take_at vs (drop (at + length vs) xs) w e
