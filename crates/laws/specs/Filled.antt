-- A list filled place by place: with another's elements, by number, with what a function makes of another's; and a whole run stored. Assumes nothing.
use Rattle.std.specs.Prelude.{◌≡◌, refl, List, [], ◌∷◌, ◌++◌, map, ℕ, suc, ◌+◌, ◌≤◌, ◌<◌, length, get_or, take, drop, set}
use Rattle.std.proofs.Common.{sym, ap, ap₂, ◌∙◌, append_assoc, append-nil, add-one, arith, drop_of_length-le, take-suc, take-suc-set, take_all, drop-cons, drop-set-lt}
use Rattle.laws.specs.Flat.{table, table_more, part-new}
use Rattle.laws.specs.Put.{put, put-eq}

module _ {A : Type 0} (d : A) where
  -- the first i places are those of v: one place more, and all
  pub fill_more : (l v : List A) (i : ℕ) (a : A) → i < length l → i < length v → take i l ≡ take i v → a ≡ get_or v i d → take (i + 1) (set l i a) ≡ take (i + 1) v
  fill_more l v i a h k e f =
      rw (add-one, take-suc-set l i a h, take-suc v i d k) (ap₂ (λ (p : List A) (x : A). p ++ (x ∷ [])) e f)

  -- v stored place by place in l, of which i places are done
  pub copy_step : (l v : List A) (i : ℕ) → i < length v → put (set l i (get_or v i d)) (i + 1) (drop (i + 1) v) ≡ put l i (drop i v)
  unfolding put
  copy_step l v i h = rw (drop-cons v i d h, add-one)

module _ {A : Type 0} where
  pub fill_end : (l v : List A) (i : ℕ) → length l ≤ i → length v ≤ i → take i l ≡ take i v → l ≡ v
  fill_end l v i h k e = sym (take_all i l h) ∙ e ∙ take_all i v k

  pub copy-end : (l v : List A) (i : ℕ) → length v ≤ i → put l i (drop i v) ≡ l
  unfolding put
  copy-end l v i h = rw (drop_of_length-le v h)

  -- things by number: one more, and all
  pub table-fill : (g : ℕ → A) (l : List A) (i : ℕ) (a : A) → i < length l → take i l ≡ table g 0 i → a ≡ g i → take (i + 1) (set l i a) ≡ table g 0 (i + 1)
  table-fill g l i a h e f =
      rw (add-one, take-suc-set l i a h) (ap₂ (λ (p : List A) (x : A). p ++ (x ∷ [])) e f) ∙ table_more g i

  pub table_full : (g : ℕ → A) (l : List A) (i n : ℕ) → length l ≡ n → i ≡ n → take i l ≡ table g 0 i → l ≡ table g 0 n
  table_full g l i n h k e = sym (take_all i l (omega arith)) ∙ e ∙ ap (table g 0) k

  -- a list stored over one of its length stands alone
  pub put_whole : (l vs : List A) → length l ≡ length vs → put l 0 vs ≡ vs
  put_whole l vs h = put-eq l 0 vs (omega arith) ∙ let k : length l ≤ 0 + length vs = omega arith in rw (drop_of_length-le l k) (append-nil vs)

  -- what was stored at the front is read back
  pub front_is : (l v : List A) (n : ℕ) (m : List A) → n ≡ length v → length v ≤ length l → m ≡ put l 0 v → take n m ≡ v
  front_is l v n m e h f = rw (f, e) (part-new (length v) 0 l v refl (omega arith))

-- what f makes of l's elements stored in m; and in l itself
module _ {A B : Type 0} (f : A → B) (d : A) (l : List A) (m : List B) (i : ℕ) where
  pub into_step : (b : B) → i < length l → i < length m → b ≡ f (get_or l i d) → take (i + 1) (set m i b) ++ map f (drop (i + 1) l) ≡ take i m ++ map f (drop i l)
  into_step b h k e =
      rw (add-one, take-suc-set m i b k, drop-cons l i d h, ← e) (append_assoc (take i m) (b ∷ []) (map f (drop (suc i) l)))

  pub into_end : length l ≤ i → length m ≤ i → m ≡ take i m ++ map f (drop i l)
  into_end h k = sym (rw (take_all i m k, drop_of_length-le l h) (append-nil m))

module _ {A : Type 0} (f : A → A) (d : A) where
  pub map-step : (l : List A) (i : ℕ) (a : A) → i < length l → a ≡ f (get_or l i d) → take (i + 1) (set l i a) ++ map f (drop (i + 1) (set l i a)) ≡ take i l ++ map f (drop i l)
  map-step l i a h e =
      ap (λ (r : List A). take (i + 1) (set l i a) ++ map f r) (drop-set-lt (i + 1) l i a (omega arith)) ∙ into_step f d l l i a h h e

  pub map-end : (l : List A) (i : ℕ) → length l ≤ i → l ≡ take i l ++ map f (drop i l)
  map-end l i h = into_end f d l l i h h
