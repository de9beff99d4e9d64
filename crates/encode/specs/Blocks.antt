-- Blocks of records that stand one after another in a sheet: where each begins, and that the chain from the first meets exactly these. Assumes nothing.
use Rattle.std.specs.Prelude.{◌≡◌, Bool, false, get_or, drop}
use Rattle.std.proofs.Math.Path.{refl, sym, ap, ap₂}
use Rattle.std.proofs.Common.{◌∙◌, add-zero, length-drop, get_or-drop, drop-drop, drop_at, ne_eqb}
use mathlib.Core.List.{List, [], ◌∷◌, ◌++◌, map, flat_map, append_assoc}
use Prim.Native.Nat.{ℕ, zero, suc, ◌+◌, ◌-◌, ◌*◌, ◌/◌, ◌%◌, ◌≤◌, ◌<◌}
use Rattle.std.proofs.Math.Nat.{mod-add-div}
use native.Mathlib.Omega.{arith}
use Rattle.std.proofs.Math.ListN.{length, length-append}
use Rattle.laws.specs.Cases.{by_lt}
use Rattle.sheet.specs.Sheet.{byte_at, le16, next, chain_by}
use Rattle.laws.specs.Any.{any_of, any_head, any_rest}
use Rattle.encode.specs.Encode.{first_index, space_of, all_records}

-- the bytes bs stand in s from record k on
pub record StandsAt (s : List ℕ) (k : ℕ) (bs : List ℕ) : Type 0 where
  pub rest : List ℕ
  pub here : drop (16 * k) s ≡ bs ++ rest

module _ {s : List ℕ} {k : ℕ} where
  pub at_left : (xs ys : List ℕ) → StandsAt s k (xs ++ ys) → StandsAt s k xs
  at_left xs ys a = record { rest = ys ++ a.rest; here = a.here ∙ append_assoc xs ys a.rest }

  pub at_right : (n : ℕ) (xs ys : List ℕ) → length xs ≡ 16 * n → StandsAt s k (xs ++ ys) → StandsAt s (k + n) ys
  at_right n xs ys e a =
      let d : 16 * (k + n) ≡ 16 * k + 16 * n = omega arith in
      record { rest = a.rest; here = rw (d, ← (drop-drop (16 * n) (16 * k) s), a.here, append_assoc xs ys a.rest) (drop_at xs (ys ++ a.rest) (16 * n) e) }

  pub at_drop : (i : ℕ) {bs : List ℕ} (a : StandsAt s k bs) → drop (16 * k + i) s ≡ drop i (bs ++ a.rest)
  at_drop i a = sym (drop-drop i (16 * k) s) ∙ ap (drop i) a.here

  pub at_byte : (i : ℕ) {bs : List ℕ} (a : StandsAt s k bs) → byte_at s (16 * k + i) ≡ get_or (bs ++ a.rest) i 0
  at_byte i a = sym (get_or-drop (16 * k) s i 0) ∙ ap (λ (l : List ℕ). get_or l i 0) a.here

  pub at_kind : {bs : List ℕ} (a : StandsAt s k bs) → byte_at s (16 * k) ≡ get_or (bs ++ a.rest) 0 0
  at_kind a = ap (byte_at s) (sym (add-zero (16 * k))) ∙ at_byte 0 a

  pub at-word : (i : ℕ) {bs : List ℕ} (a : StandsAt s k bs) → le16 s (16 * k + i) ≡ get_or (bs ++ a.rest) i 0 + 256 * get_or (bs ++ a.rest) (i + 1) 0
  at-word i a =
      let e : 16 * k + i + 1 ≡ 16 * k + (i + 1) = omega arith in
      rw (e, at_byte i a, at_byte (i + 1) a)

pub u16_back : (n : ℕ) → n % 256 + 256 * (n / 256) ≡ n
u16_back n = mod-add-div n 256

-- where the elements of a list begin, the first at record k
unfoldable pub beginnings : {A : Type 0} → (A → ℕ) → ℕ → List A → List ℕ
beginnings size k [] = []
beginnings size k (x ∷ l) = k ∷ beginnings size (k + size x) l

-- how a thing is written: in whole records, one at least, the first of them with its next index
pub record InRecords {A : Type 0} (size : A → ℕ) (write : ℕ → ℕ → A → List ℕ) (bad : A → Bool) : Type 0 where
  pub some : (x : A) → 1 ≤ size x
  pub wide : (k n : ℕ) (x : A) → bad x ≡ false → length (write k n x) ≡ 16 * size x
  pub linked : (s : List ℕ) (k n : ℕ) (x : A) → bad x ≡ false → StandsAt s k (write k n x) → next s k ≡ n

-- P of each of n records from record k on
abbrev pub Throughout : (ℕ → Type 0) → ℕ → ℕ → Type 0
Throughout P k n = (j : ℕ) → k ≤ j → j < k + n → P j

pub throughout_one : (P : ℕ → Type 0) (k : ℕ) → P k → Throughout P k 1
throughout_one P k q j a b = let d : j ≡ k = omega arith in rw d q

pub throughout_join : (P : ℕ → Type 0) (k n m : ℕ) → Throughout P k n → Throughout P (k + n) m → Throughout P k (n + m)
throughout_join P k n m p q j a b = by_lt j (k + n) (λ h. p j a h) (λ h. q j h (omega arith))

-- an index points forward from record k: zero, or above k
abbrev pub Ahead : ℕ → ℕ → Type 0
Ahead k n = (n ≡ 0 → ⊥) → k < n

first-ahead : {A : Type 0} (k n : ℕ) (l : List A) → 1 ≤ n → Ahead k (first_index (k + n) l)
first-ahead k n [] h z = absurd (z refl)
first-ahead k n (x ∷ l) h z = omega arith

module _ {A : Type 0} {size : A → ℕ} {write : ℕ → ℕ → A → List ℕ} {bad : A → Bool} (y : InRecords size write bad) where
  pub all-length : (k : ℕ) (l : List A) → any_of bad l ≡ false → length (all_records size write k l) ≡ 16 * space_of size l
  unfolding all_records space_of
  all-length k [] b = refl
  all-length k (x ∷ l) b =
      rw (length-append (write k (first_index (k + size x) l) x) (all_records size write (k + size x) l), y.wide k (first_index (k + size x) l) x (any_head bad x l b), all-length (k + size x) l (any_rest bad x l b))
      (omega arith)

  space_some : (l : List A) → length l ≤ space_of size l
  unfolding space_of
  space_some [] = omega arith
  space_some (x ∷ l) = let a : 1 ≤ size x = y.some x in let b : length l ≤ space_of size l = space_some l in omega arith

  module _ (s : List ℕ) where
    pub all_head : (k : ℕ) (x : A) (l : List A) → StandsAt s k (all_records size write k (x ∷ l)) → StandsAt s k (write k (first_index (k + size x) l) x)
    unfolding all_records
    all_head k x l a = at_left (write k (first_index (k + size x) l) x) (all_records size write (k + size x) l) a

    pub all_rest : (k : ℕ) (x : A) (l : List A) → bad x ≡ false → StandsAt s k (all_records size write k (x ∷ l)) → StandsAt s (k + size x) (all_records size write (k + size x) l)
    unfolding all_records
    all_rest k x l b a = at_right (size x) (write k (first_index (k + size x) l) x) (all_records size write (k + size x) l) (y.wide k (first_index (k + size x) l) x b) a

    -- in a sheet of c records, no more elements than that
    pub all_fits : (c k : ℕ) (l : List A) → length s ≡ 16 * (1 + c) → 1 ≤ k → any_of bad l ≡ false → StandsAt s k (all_records size write k l) → length l ≤ c
    unfolding space_of
    all_fits c k [] e h b a = omega arith
    all_fits c k (x ∷ l) e h b a =
        let p : length s - 16 * k ≡ 16 * space_of size (x ∷ l) + length a.rest =
        sym (length-drop (16 * k) s) ∙ ap length a.here ∙ length-append (all_records size write k (x ∷ l)) a.rest ∙ ap (λ (n : ℕ). n + length a.rest) (all-length k (x ∷ l) b) in
        let q : length (x ∷ l) ≤ space_of size (x ∷ l) = space_some (x ∷ l) in
        omega arith

    -- the chain from the first on
    pub all-chain : (m k : ℕ) (l : List A) → 1 ≤ k → length l ≤ m → any_of bad l ≡ false → StandsAt s k (all_records size write k l) → chain_by s m (first_index k l) ≡ beginnings size k l
    unfolding chain_by beginnings
    all-chain zero k [] h e b a = refl
    all-chain (suc m) k [] h e b a = refl
    all-chain zero k (x ∷ l) h e b a = absurd (omega arith)
    all-chain (suc m) k (x ∷ l) h e b a =
        let g = any_head bad x l b in
        rw (ne_eqb k 0 (λ z. omega arith))
        (ap (λ (r : List ℕ). k ∷ r)
        (ap (chain_by s m) (y.linked s k (first_index (k + size x) l) x g (all_head k x l a))
        ∙ all-chain m (k + size x) l (omega arith) (omega arith) (any_rest bad x l b) (all_rest k x l g a)))

    -- what each element says of itself, of all
    pub all_map : {B : Type 0} (f : ℕ → B) (v : A → B) → ((k n : ℕ) (x : A) → 1 ≤ k → bad x ≡ false → StandsAt s k (write k n x) → f k ≡ v x)
        → (k : ℕ) (l : List A) → 1 ≤ k → any_of bad l ≡ false → StandsAt s k (all_records size write k l) → map f (beginnings size k l) ≡ map v l
    unfolding beginnings
    all_map {B} f v t k [] h b a = refl
    all_map {B} f v t k (x ∷ l) h b a =
        let g = any_head bad x l b in
        ap₂ (λ (z : B) (r : List B). z ∷ r) (t k (first_index (k + size x) l) x h g (all_head k x l a)) (all_map f v t (k + size x) l (omega arith) (any_rest bad x l b) (all_rest k x l g a))

    pub all_flat : {B : Type 0} (f : ℕ → List B) (v : A → List B) → ((k n : ℕ) (x : A) → 1 ≤ k → bad x ≡ false → StandsAt s k (write k n x) → f k ≡ v x)
        → (k : ℕ) (l : List A) → 1 ≤ k → any_of bad l ≡ false → StandsAt s k (all_records size write k l) → flat_map f (beginnings size k l) ≡ flat_map v l
    unfolding beginnings flat_map
    all_flat {B} f v t k [] h b a = refl
    all_flat {B} f v t k (x ∷ l) h b a =
        let g = any_head bad x l b in
        ap₂ (λ (z r : List B). z ++ r) (t k (first_index (k + size x) l) x h g (all_head k x l a)) (all_flat f v t (k + size x) l (omega arith) (any_rest bad x l b) (all_rest k x l g a))

    -- what holds of each record of an element, of all
    pub all_throughout : (P : ℕ → Type 0) → ((k n : ℕ) (x : A) → bad x ≡ false → Ahead k n → StandsAt s k (write k n x) → Throughout P k (size x))
        → (k : ℕ) (l : List A) → any_of bad l ≡ false → StandsAt s k (all_records size write k l) → Throughout P k (space_of size l)
    unfolding space_of
    all_throughout P t k [] b a = λ j h l. absurd (omega arith)
    all_throughout P t k (x ∷ l) b a =
        let g = any_head bad x l b in
        throughout_join P k (size x) (space_of size l) (t k (first_index (k + size x) l) x g (first-ahead k (size x) l (y.some x)) (all_head k x l a)) (all_throughout P t (k + size x) l (any_rest bad x l b) (all_rest k x l g a))
