-- Records of w numbers each: one of many, one stored anew, and things written one after another and read back. Assumes nothing.
use Rattle.std.specs.Prelude.{◌≡◌, ◌⊎◌, set, take, drop}
use Rattle.std.proofs.Math.Path.{refl, sym, ap, ap₂}
use Rattle.std.proofs.Common.{◌∙◌, inl, inr, ⊎_elim, mul-zero, not-suc-le-zero, arith, take_at, drop_at, drop-drop}
use mathlib.Core.List.{List, [], ◌∷◌, ◌++◌, append_assoc, flat_map}
use Prim.Native.Nat.{ℕ, zero, suc, ◌+◌, ◌*◌, ◌≤◌, ◌<◌}
use Rattle.std.proofs.Math.Nat.{mul-suc, add_comm, zero-add}
use Rattle.std.proofs.Math.ListN.{length, get_or, length-append, get_or-append}
use Rattle.std.proofs.Math.Seq.{get_or-append-add, drop-set-lt}
use Rattle.laws.specs.Flat.{table, part, decode_flat}
use Rattle.laws.specs.Tables.{table_at, table-next}
use Rattle.laws.specs.Put.{put, put-eq, put-put}
use Rattle.laws.specs.Joined.{flat_snoc}

apart : (j k : ℕ) → (j ≡ k → ⊥) → (j < k) ⊎ (k < j)
apart zero zero o = absurd (o refl)
apart zero (suc k) o = inl (omega arith)
apart (suc j) zero o = inr (omega arith)
apart (suc j) (suc k) o = ⊎_elim (λ h. inl (omega arith)) (λ h. inr (omega arith)) (apart j k (λ e. o (ap suc e)))

-- thing i of a list of records
pub records-at : {A B : Type 0} (decode : List A → B) (w n : ℕ) (xs : List A) (i : ℕ) (d : B) → i < n → get_or (decode_flat decode w n xs) i d ≡ decode (part w i xs)
records-at decode w n xs i d h = table_at (λ k. decode (part w k xs)) 0 n i d h ∙ ap (λ k. decode (part w k xs)) (zero-add i)

module _ {A : Type 0} where
  -- a run stored before a part leaves the part
  part-after : (at : ℕ) (xs : List A) (i : ℕ) (vs : List A) → i + length vs ≤ at → drop at (put xs i vs) ≡ drop at xs
  unfolding put
  part-after at xs i [] h = refl
  part-after at xs i (a ∷ vs) h = part-after at (set xs i a) (suc i) vs (omega arith) ∙ drop-set-lt at xs i a (omega arith)

module _ {A B : Type 0} (encode : B → List A) (w : ℕ) (width : (b : B) → length (encode b) ≡ w) where
  pub length_flat : (bs : List B) → length (flat_map encode bs) ≡ w * length bs
  unfolding flat_map
  length_flat [] = sym (mul-zero w)
  length_flat (b ∷ bs) =
      length-append (encode b) (flat_map encode bs)
      ∙ ap₂ (λ (m n : ℕ). m + n) (width b) (length_flat bs)
      ∙ add_comm w (w * length bs)
      ∙ sym (mul-suc w (length bs))

  -- one thing more, after those that stand
  pub put-more : (l : List A) (bs : List B) (b : B) → put (put l 0 (flat_map encode bs)) (w * length bs) (encode b) ≡ put l 0 (flat_map encode (bs ++ (b ∷ [])))
  put-more l bs b =
      ap (λ (i : ℕ). put (put l 0 (flat_map encode bs)) i (encode b)) (sym (length_flat bs) ∙ sym (zero-add (length (flat_map encode bs))))
      ∙ put-put l 0 (flat_map encode bs) (encode b)
      ∙ ap (put l 0) (sym (flat_snoc encode bs b))

  part-next : (b : B) (xs : List A) (k : ℕ) → part w (suc k) (encode b ++ xs) ≡ part w k xs
  part-next b xs k =
      ap (λ (m : ℕ). take w (drop m (encode b ++ xs))) (mul-suc w k ∙ add_comm (w * k) w)
      ∙ ap (take w) (sym (drop-drop (w * k) w (encode b ++ xs)))
      ∙ ap (λ (l : List A). take w (drop (w * k) l)) (drop_at (encode b) xs w (width b))

  part-first : (b : B) (xs : List A) → part w 0 (encode b ++ xs) ≡ encode b
  part-first b xs = rw (mul-zero w) (take_at (encode b) xs w (width b))

  -- the numbers of thing k
  pub part_flat : (bs : List B) (tail : List A) (k : ℕ) (d : B) → k < length bs → part w k (flat_map encode bs ++ tail) ≡ encode (get_or bs k d)
  unfolding flat_map
  part_flat [] tail k d h = absurd (not-suc-le-zero h)
  part_flat (b ∷ bs) tail zero d h = ap (part w 0) (append_assoc (encode b) (flat_map encode bs) tail) ∙ part-first b (flat_map encode bs ++ tail)
  part_flat (b ∷ bs) tail (suc k) d h =
      ap (part w (suc k)) (append_assoc (encode b) (flat_map encode bs) tail) ∙ part-next b (flat_map encode bs ++ tail) k ∙ part_flat bs tail k d (omega arith)

  -- one of the numbers of thing k
  pub flat_at : (bs : List B) (k j : ℕ) (b : B) (d : A) → k < length bs → j < w → get_or (flat_map encode bs) (w * k + j) d ≡ get_or (encode (get_or bs k b)) j d
  unfolding flat_map
  flat_at [] k j b d i h = absurd (not-suc-le-zero i)
  flat_at (x ∷ bs) zero j b d i h =
      ap (λ (n : ℕ). get_or (encode x ++ flat_map encode bs) n d) (ap (λ (n : ℕ). n + j) (mul-zero w) ∙ zero-add j)
      ∙ get_or-append (encode x) (flat_map encode bs) d j (omega (arith, width x))
  flat_at (x ∷ bs) (suc k) j b d i h =
      ap (λ (n : ℕ). get_or (encode x ++ flat_map encode bs) n d) (omega (arith, mul-suc w k, width x))
      ∙ get_or-append-add (encode x) (flat_map encode bs) (w * k + j) d
      ∙ flat_at bs k j b d (omega arith) h

  module _ (decode : List A → B) where
    -- each is read back
    abbrev pub Back : List B → Type 0
    Back [] = Unit {0}
    Back (b ∷ bs) = (decode (encode b) ≡ b) × Back bs

    flat_back : (bs : List B) (xs : List A) → Back bs → decode_flat decode w (length bs) (flat_map encode bs ++ xs) ≡ bs
    unfolding flat_map table
    flat_back [] xs h = refl
    flat_back (b ∷ bs) xs h =
        ap (λ (l : List A). decode_flat decode w (suc (length bs)) l) (append_assoc (encode b) (flat_map encode bs) xs)
        ∙ ap₂ (λ (x : B) (l : List B). x ∷ l)
        (ap decode (part-first b (flat_map encode bs ++ xs)) ∙ h.0)
        (table-next _ (λ k. decode (part w k (flat_map encode bs ++ xs))) 0 (length bs) (λ j. ap decode (part-next b (flat_map encode bs ++ xs) j))
        ∙ flat_back bs xs h.1)

    -- things stored from the front on are read back
    pub records_back : (l : List A) (bs : List B) → w * length bs ≤ length l → Back bs → decode_flat decode w (length bs) (put l 0 (flat_map encode bs)) ≡ bs
    records_back l bs room h =
        let e = length_flat bs in
        ap (λ (m : List A). decode_flat decode w (length bs) m) (put-eq l 0 (flat_map encode bs) (omega arith))
        ∙ flat_back bs _ h
