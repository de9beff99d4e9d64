-- What stands in a list after a run of values is stored in it from an index on. A store past the end is none, so no law has a side condition
-- but the last two, which say where everything is. Assumes nothing.
use Rattle.std.specs.Prelude.{◌≡◌, length, take, drop, set}
use Rattle.std.proofs.Math.Path.{refl, sym, ap}
use Rattle.std.proofs.Common.{◌∙◌, zero-add, add-suc, suc-add, drop-set-lt}
use mathlib.Core.List.{List, [], ◌∷◌, ◌++◌}
use Prim.Native.Nat.{ℕ, zero, suc, ◌+◌, ◌≤◌, ◌<◌}
use Rattle.std.proofs.Math.Nat.{add-zero}
use native.Mathlib.Omega.{arith}
use Rattle.std.proofs.Math.ListN.{length-set, take-append-drop}
use Rattle.std.proofs.lemmas.List.Edits.{sets, sets-eq}
use Rattle.std.proofs.Math.Seq.{take-set-lt}

module _ {A : Type 0} where
  -- vs stored in l from index i on
  unfoldable pub put : List A → ℕ → List A → List A
  put l i [] = l
  put l i (a ∷ vs) = put (set l i a) (suc i) vs

  pub length-put : (l : List A) (i : ℕ) (vs : List A) → length (put l i vs) ≡ length l
  unfolding put
  length-put l i [] = refl
  length-put l i (a ∷ vs) = length-put (set l i a) (suc i) vs ∙ length-set l i a

  -- one run after another is one run
  pub put-put : (l : List A) (i : ℕ) (vs ws : List A) → put (put l i vs) (i + length vs) ws ≡ put l i (vs ++ ws)
  unfolding put
  put-put l i [] ws = rw add-zero
  put-put l i (a ∷ vs) ws = rw (add-suc i (length vs), ← (suc-add i (length vs))) (put-put (set l i a) (suc i) vs ws)

  put-cons : (x : A) (l : List A) (i : ℕ) (vs : List A) → put (x ∷ l) (suc i) vs ≡ x ∷ put l i vs
  unfolding put
  put-cons x l i [] = refl
  put-cons x l i (a ∷ vs) = put-cons x (set l i a) (suc i) vs

  put-nil : (i : ℕ) (vs : List A) → put [] i vs ≡ []
  unfolding put
  put-nil i [] = refl
  put-nil i (a ∷ vs) = put-nil (suc i) vs

  -- a run in the part from `at` on, as the whole list has it
  pub put-part : (at : ℕ) (l vs : List A) → take at l ++ put (drop at l) 0 vs ≡ put l at vs
  unfolding put
  put-part zero l vs = refl
  put-part (suc at) [] vs = put-nil 0 vs ∙ sym (put-nil (suc at) vs)
  put-part (suc at) (x ∷ l) vs = ap (λ (r : List A). x ∷ r) (put-part at l vs) ∙ sym (put-cons x l at vs)

  -- a run in the first k, with the rest after them
  put-take : (k i : ℕ) (l vs : List A) → i + length vs ≤ k → put (take k l) i vs ++ drop k l ≡ put l i vs
  unfolding put
  put-take k i l [] h = take-append-drop k l
  put-take k i l (a ∷ vs) h =
      let e : i < k = omega arith in
      rw (← (take-set-lt k l i a e), ← (drop-set-lt k l i a e)) (put-take k (suc i) (set l i a) vs (omega arith))

  -- a run in a part that was lent, `&mut xs[a..a + k]`, as the whole list has it when the part is back
  pub put_mid : (a k : ℕ) (xs vs : List A) → length vs ≤ k → take a xs ++ (put (take k (drop a xs)) 0 vs ++ drop k (drop a xs)) ≡ put xs a vs
  put_mid a k xs vs h = rw (put-take k 0 (drop a xs) vs (omega arith)) (put-part a xs vs)

  put_sets : (l : List A) (i : ℕ) (vs : List A) → put l i vs ≡ sets l i vs
  unfolding put
  put_sets l i [] = refl
  put_sets l i (a ∷ vs) = put_sets (set l i a) (suc i) vs

  -- what is before, the run, and what is after it
  pub put-eq : (l : List A) (i : ℕ) (vs : List A) → i + length vs ≤ length l → put l i vs ≡ take i l ++ vs ++ drop (i + length vs) l
  put-eq l i vs h = put_sets l i vs ∙ sets-eq vs l i h

  -- at the front: the run, and what is after it
  pub put_front : (l vs : List A) → length vs ≤ length l → put l 0 vs ≡ vs ++ drop (length vs) l
  put_front l vs h = put-eq l 0 vs (omega arith) ∙ ap (λ (i : ℕ). vs ++ drop i l) (zero-add (length vs))
