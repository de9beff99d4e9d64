-- A loop over a chain of a sheet that counts, or writes, an element for each record: what it has done and what is left are the whole.
-- Assumes nothing.
use Rattle.std.specs.Prelude.{◌≡◌, refl, Bool, false, not, List, [], ◌∷◌, map, eqb, ltb, length}
use Rattle.std.proofs.Common.{sym, ap, ◌∙◌}
use Prim.Native.Nat.{ℕ, ◌+◌, ◌*◌, ◌≤◌, ◌<◌}
use native.Mathlib.Omega.{arith}
use borrow.Author.Tests.{eqb-false}
use Rattle.std.proofs.Common.{eqb-true, lt-ltb}
use Rattle.laws.specs.Any.{any_of, any_head, any_rest}
use Rattle.laws.specs.Cases.{by_bool}
use Rattle.laws.specs.Put.{put}
use Rattle.sheet.specs.Sheet.{count, chain}
use Rattle.sheet.specs.Chains.{chain_end, chain_step}
use Rattle.encode.specs.Encode.{first_index, space_of, all_records}
use Rattle.encode.specs.Blocks.{InRecords}
use Rattle.encode.specs.Kinds.{never}
use Rattle.write_line.specs.Writing.{index_if}
use Rattle.write_line.specs.Writes.{Writes, writes_start, writes_end, writes_fit, writes_step}

-- f is the element of a record
module _ {A : Type 0} (f : ℕ → A) where
  -- ---- the index of what is written from record k on: of what is left of a chain, and of a whole one
  index-left : (rest : List ℕ) (k : ℕ) → first_index k (map f rest) ≡ index_if (ltb 0 (length rest)) k
  index-left [] k = refl
  index-left (i ∷ rest) k = ap (λ (b : Bool). index_if b k) (sym (lt-ltb 0 (length (i ∷ rest)) (omega arith)))

  pub index-whole : (s : List ℕ) (i k : ℕ) → first_index k (map f (chain s i)) ≡ index_if (not (eqb i 0)) k
  index-whole s i k =
      by_bool (eqb i 0)
      (λ t. rw (t, chain_end s (count s + 1) i (eqb-true i 0 t)))
      (λ t. rw (t, chain_step s (count s + 1) i (λ e. omega arith) (eqb-false i 0 t)))

  -- ---- at a record
  module _ {rest more : List ℕ} {i : ℕ} (e : rest ≡ i ∷ more) where
    left_is : map f rest ≡ f i ∷ map f more
    left_is = ap (map f) e

    module _ (bad : A → Bool) (b : any_of bad (map f rest) ≡ false) where
      good_here : bad (f i) ≡ false
      good_here = any_head bad (f i) (map f more) (ap (any_of bad) (sym left_is) ∙ b)

      good_left : any_of bad (map f more) ≡ false
      good_left = any_rest bad (f i) (map f more) (ap (any_of bad) (sym left_is) ∙ b)

-- ---- counting: n is the space of the elements before the records `rest`, `whole` that of all; none is bad
module _ {A : Type 0} (size : A → ℕ) (bad : A → Bool) (f : ℕ → A) where
  pub record Sums (whole n : ℕ) (rest : List ℕ) : Type 0 where
    pub space : n + space_of size (map f rest) ≡ whole
    pub good : any_of bad (map f rest) ≡ false

  pub sums_start : {all rest : List ℕ} → rest ≡ all → any_of bad (map f all) ≡ false → Sums (space_of size (map f all)) 0 rest
  sums_start e b = record { space = rw e (omega arith); good = rw e b }

  module _ {whole n : ℕ} {rest : List ℕ} (w : Sums whole n rest) where
    pub sums_end : rest ≡ [] → n ≡ whole
    unfolding space_of
    sums_end e = let b : n + 0 ≡ whole = rw e at w.space in omega arith

    module _ {i : ℕ} {more : List ℕ} (e : rest ≡ i ∷ more) where
      pub sums_good : bad (f i) ≡ false
      sums_good = good_here f e bad w.good

      pub sums_step : {n' : ℕ} → n' ≡ n + size (f i) → Sums whole n' more
      unfolding space_of
      sums_step r =
          let t : n + (size (f i) + space_of size (map f more)) ≡ whole = rw e at w.space in
          record { space = rw r (omega arith); good = good_left f e bad w.good }

-- ---- writing: `whole` from record k₀ of out₀ on; the elements before the records `rest` stand in `out`, and k is the record after them
module _ {A : Type 0} {size : A → ℕ} {write : ℕ → ℕ → A → List ℕ} (y : InRecords size write never)
    (bad : A → Bool) (f : ℕ → A) where
  pub record Follows (out₀ : List ℕ) (k₀ : ℕ) (whole : List A) (out : List ℕ) (rest : List ℕ) (k : ℕ) : Type 0 where
    pub writes : Writes size write out₀ k₀ whole out k (map f rest)
    pub good : any_of bad (map f rest) ≡ false

  pub follows_start : (out : List ℕ) (k : ℕ) {all rest : List ℕ} → rest ≡ all → any_of bad (map f all) ≡ false → Follows out k (map f all) out rest k
  follows_start out k e b = record { writes = writes_start (ap (map f) e); good = rw e b }

  module _ {out₀ : List ℕ} {k₀ : ℕ} {whole : List A} {out : List ℕ} {rest : List ℕ} {k : ℕ} (w : Follows out₀ k₀ whole out rest k) where
    pub follows_end : rest ≡ [] → (out ≡ put out₀ (16 * k₀) (all_records size write k₀ whole)) × (k ≡ k₀ + space_of size whole)
    follows_end e = writes_end w.writes (ap (map f) e)

    module _ {i : ℕ} {more : List ℕ} (e : rest ≡ i ∷ more) where
      pub follows_good : bad (f i) ≡ false
      follows_good = good_here f e bad w.good

      pub follows_fit : (k₀ + space_of size whole < 65536) × (16 * (k₀ + space_of size whole) ≤ length out₀)
          → (k + size (f i) < 65536) × (16 * (k + size (f i)) ≤ length out)
      follows_fit = writes_fit w.writes (f i) (map f more) (left_is f e)

      -- the element of record i written, with the index of what is left
      pub follows_step : {out' : List ℕ} {k' n : ℕ} → k' ≡ k + size (f i) → n ≡ index_if (ltb 0 (length more)) k'
          → out' ≡ put out (16 * k) (write k n (f i)) → Follows out₀ k₀ whole out' more k'
      follows_step {out'} {k'} {n} r p q =
          let m : n ≡ first_index (k + size (f i)) (map f more) = p ∙ rw r (sym (index-left f more (k + size (f i)))) in
          record {
            writes = writes_step w.writes (f i) (map f more) (left_is f e) m (y.wide k n (f i) refl) q r;
            good = good_left f e bad w.good;
          }
