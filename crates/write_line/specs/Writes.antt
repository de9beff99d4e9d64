-- A loop that writes the elements of a list as records, one after another: what it has written and what is left make the whole.
-- And a record written before others. Assumes nothing.
use Rattle.std.specs.Prelude.{◌≡◌, List, [], ◌∷◌, ◌++◌, ℕ, ◌+◌, ◌*◌, ◌≤◌, ◌<◌, length}
use Rattle.std.proofs.Common.{ap, ◌∙◌, arith}
use Rattle.laws.specs.Put.{put}
use Rattle.encode.specs.Encode.{first_index, space_of, all_records}
use Rattle.write_line.specs.Puts.{put_before, Stores, stores_start, stores_end, stores_step}

-- the elements `whole` from record k₀ on; the loop stands at record k with `left` to come
module _ {A : Type 0} (size : A → ℕ) (write : ℕ → ℕ → A → List ℕ) (out₀ : List ℕ) (k₀ : ℕ) (whole : List A) where
  pub record Writes (out : List ℕ) (k : ℕ) (left : List A) : Type 0 where
    pub bytes : Stores out₀ (16 * k₀) (all_records size write k₀ whole) out (16 * k) (all_records size write k left)
    pub total : k + space_of size left ≡ k₀ + space_of size whole

module _ {A : Type 0} {size : A → ℕ} {write : ℕ → ℕ → A → List ℕ} where
  pub writes_start : {out : List ℕ} {k : ℕ} {whole left : List A} → left ≡ whole → Writes size write out k whole out k left
  writes_start {k = k} e = record {
    bytes = stores_start (ap (all_records size write k) e);
    total = ap (λ (l : List A). k + space_of size l) e;
  }

  module _ {out₀ : List ℕ} {k₀ : ℕ} {whole : List A} {out : List ℕ} {k : ℕ} {left : List A} (w : Writes size write out₀ k₀ whole out k left) where
    pub writes_end : left ≡ [] → (out ≡ put out₀ (16 * k₀) (all_records size write k₀ whole)) × (k ≡ k₀ + space_of size whole)
    unfolding all_records space_of
    writes_end e =
        let n : k + 0 ≡ k₀ + space_of size whole = rw e at w.total in
        ((stores_end w.bytes (rw e)).0, omega arith)

    -- the element that comes next, and those behind it
    module _ (x : A) (l : List A) (e : left ≡ x ∷ l) where
      writes_total : k + (size x + space_of size l) ≡ k₀ + space_of size whole
      unfolding space_of
      writes_total = rw e at w.total

      -- where the whole has room, this element has
      pub writes_fit : (k₀ + space_of size whole < 65536) × (16 * (k₀ + space_of size whole) ≤ length out₀)
          → (k + size x < 65536) × (16 * (k + size x) ≤ length out)
      writes_fit h = (omega (arith, writes_total, h.0), omega (arith, writes_total, h.1, w.bytes.same))

      pub writes_step : {n : ℕ} {out' : List ℕ} {k' : ℕ} → n ≡ first_index (k + size x) l → length (write k n x) ≡ 16 * size x
          → out' ≡ put out (16 * k) (write k n x) → k' ≡ k + size x → Writes size write out₀ k₀ whole out' k' l
      unfolding all_records
      writes_step {n = n} m v q r = record {
        bytes = rw r (stores_step w.bytes (write k n x) (all_records size write (k + size x) l) (rw (e, m)) q (omega (arith, v)));
        total = omega (arith, writes_total);
      }

-- what stands from record k + 1 on, then record k before it
pub head-put : {out' out'' : List ℕ} (out : List ℕ) (k : ℕ) (head rest : List ℕ) → length head ≡ 16 → out' ≡ put out (16 * (k + 1)) rest
    → out'' ≡ put out' (16 * k) head → out'' ≡ put out (16 * k) (head ++ rest)
head-put out k head rest h p q =
    let d : 16 * (k + 1) ≡ 16 * k + length head = omega arith in
    q ∙ ap (λ (o : List ℕ). put o (16 * k) head) (p ∙ ap (λ (i : ℕ). put out i rest) d) ∙ put_before out (16 * k) head rest
