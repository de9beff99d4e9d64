-- A run of values stored before another that stands already, and over the beginning of another; and a run stored part by part by a loop.
-- Assumes nothing.
use Rattle.std.specs.Prelude.{◌≡◌, drop, set}
use Rattle.std.proofs.Math.Path.{refl, ap}
use Rattle.std.proofs.Common.{◌∙◌, add-suc, suc-add, arith, length-append, set-set}
use mathlib.Core.List.{List, [], ◌∷◌, ◌++◌}
use Prim.Native.Nat.{ℕ, suc, ◌+◌, ◌≤◌, ◌<◌}
use Rattle.std.proofs.Math.Nat.{add-zero}
use Rattle.std.proofs.Math.ListN.{length}
use Rattle.std.proofs.lemmas.List.{set_comm}
use Rattle.laws.specs.Put.{put, put-put, length-put}

module _ {A : Type 0} where
  -- a store below a run changes nothing of it
  set_below : (l : List A) (i j : ℕ) (a : A) (vs : List A) → i < j → set (put l j vs) i a ≡ put (set l i a) j vs
  unfolding put
  set_below l i j a [] h = refl
  set_below l i j a (v ∷ vs) h =
      set_below (set l j v) i (suc j) a vs (omega arith) ∙ ap (λ (m : List A). put m (suc j) vs) (set_comm l j i v a (λ e. omega arith))

  -- a run stored before another is one run with it
  pub put_before : (l : List A) (i : ℕ) (vs ws : List A) → put (put l (i + length vs) ws) i vs ≡ put l i (vs ++ ws)
  unfolding put
  put_before l i [] ws = rw add-zero
  put_before l i (v ∷ vs) ws =
      ap (λ (m : List A). put m (suc i) vs) (set_below l i (i + suc (length vs)) v ws (omega arith))
      ∙ rw (add-suc i (length vs), ← (suc-add i (length vs))) (put_before (set l i v) (suc i) vs ws)

  -- a run stored over the beginning of another
  pub put-over : (l : List A) (i : ℕ) (vs ws : List A) → length ws ≤ length vs → put (put l i vs) i ws ≡ put l i (ws ++ drop (length ws) vs)
  unfolding put
  put-over l i vs [] h = refl
  put-over l i [] (w ∷ ws) h = absurd (omega arith)
  put-over l i (v ∷ vs) (w ∷ ws) h =
      ap (λ (m : List A). put m (suc i) ws)
      (set_below (set l i v) i (suc i) w vs (omega arith) ∙ ap (λ (m : List A). put m (suc i) vs) (set-set l i v w))
      ∙ put-over (set l i w) (suc i) vs ws (omega arith)

  -- a loop that stores `whole` from place i₀ on, and stands at place i with `left` to come
  pub record Stores (out₀ : List A) (i₀ : ℕ) (whole out : List A) (i : ℕ) (left : List A) : Type 0 where
    pub rest : put out i left ≡ put out₀ i₀ whole
    pub same : length out ≡ length out₀
    pub total : i + length left ≡ i₀ + length whole

  pub stores_start : {out : List A} {i : ℕ} {whole left : List A} → left ≡ whole → Stores out i whole out i left
  stores_start {out} {i} e = record { rest = ap (put out i) e; same = refl; total = ap (λ (l : List A). i + length l) e }

  module _ {out₀ : List A} {i₀ : ℕ} {whole out : List A} {i : ℕ} {left : List A} (s : Stores out₀ i₀ whole out i left) where
    pub stores_end : left ≡ [] → (out ≡ put out₀ i₀ whole) × (i ≡ i₀ + length whole)
    unfolding put
    stores_end e =
        let n : i + 0 ≡ i₀ + length whole = rw e at s.total in
        (rw e at s.rest, omega arith)

    -- the run that comes next, and what is left behind it
    module _ (vs l : List A) (e : left ≡ vs ++ l) where
      stores_total : i + (length vs + length l) ≡ i₀ + length whole
      stores_total = rw (e, length-append vs l) at s.total

      pub stores_room : i + length vs ≤ i₀ + length whole
      stores_room = omega (arith, stores_total)

      pub stores_step : {out' : List A} {i' : ℕ} → out' ≡ put out i vs → i' ≡ i + length vs → Stores out₀ i₀ whole out' i' l
      stores_step q r =
          let g : put out i (vs ++ l) ≡ put out₀ i₀ whole = rw e at s.rest in
          record {
            rest = rw (q, r) (put-put out i vs l ∙ g);
            same = ap length q ∙ length-put out i vs ∙ s.same;
            total = omega (arith, stores_total);
          }
