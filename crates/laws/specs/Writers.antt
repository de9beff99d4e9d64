-- Writers that store what fits and always advance. A place stops at the largest usize, which no slice reaches, so nothing is required. Assumes nothing.
use Rattle.std.specs.Prelude.{◌≡◌, ℕ, suc, ◌+◌, ◌-◌, ◌≤◌, ◌<◌, length, take, drop, get_or, ltb, leb, Bool, true, false, cond}
use Rattle.std.proofs.Math.Path.{refl}
use Rattle.std.proofs.Common.{sym, ap, ◌∙◌, subst, zero-add, add-one, length-append, take-suc, ltb-true, ltb-false, le-leb}
use mathlib.Core.List.{List, [], ◌∷◌, ◌++◌}
use native.Mathlib.Omega.{arith}
use Rattle.std.proofs.Math.Seq.{set_out}
use Rattle.std.proofs.lemmas.Bool.{lt-leb}
use Rattle.laws.specs.Put.{put, length-put, put-put, put-eq}

-- n, or the largest usize where n is above it
abbrev pub as_usize : ℕ → ℕ
as_usize n = n - (n - 18446744073709551615)

module _ {A : Type 0} where
  put-past : (l : List A) (i : ℕ) (vs : List A) → length l ≤ i → put l i vs ≡ l
  unfolding put
  put-past l i [] h = refl
  put-past l i (a ∷ vs) h = rw (set_out l i a h) (put-past l (suc i) vs (omega arith))

  -- `txt` stands in l from `at` on, as far as l goes, and `next` is the place after it
  pub record Wrote (l : List A) (at : ℕ) (out : List A) (next : ℕ) (txt : List A) : Type 0 where
    pub room : length l < 18446744073709551615
    pub list : out ≡ put l at txt
    pub next_is : next ≡ as_usize (at + length txt)

  stops : (l : List A) (n : ℕ) (vs : List A) → length l < 18446744073709551615 → put l (as_usize n) vs ≡ put l n vs
  stops l n vs h = go (ltb n 18446744073709551615) refl
    where
      go : (t : Bool) → ltb n 18446744073709551615 ≡ t → put l (as_usize n) vs ≡ put l n vs
      go true e = let w : as_usize n ≡ n = omega (arith, ltb-true n 18446744073709551615 e) in ap (λ (i : ℕ). put l i vs) w
      go false e = put-past l (as_usize n) vs (omega (arith, ltb-false n 18446744073709551615 e)) ∙ sym (put-past l n vs (omega (arith, ltb-false n 18446744073709551615 e)))

  -- two writers in a row are one
  pub wrote-more : {l m out : List A} {at p q : ℕ} {txt ws : List A} → Wrote l at m p txt → Wrote m p out q ws → Wrote l at out q (txt ++ ws)
  wrote-more {l} {m} {out} {at} {p} {q} {txt} {ws} u v =
      let n : length (put l at txt) ≡ length l = length-put l at txt in
      record {
        room = u.room;
        list = v.list ∙ rw (u.list, u.next_is) (stops (put l at txt) (at + length txt) ws (omega (arith, u.room)) ∙ put-put l at txt ws);
        next_is = v.next_is ∙ rw (u.next_is, length-append) (omega arith);
      }

  -- nothing written yet
  pub wrote_none : (l : List A) (at : ℕ) → length l < 18446744073709551615 → at ≤ 18446744073709551615 → Wrote l at l at []
  unfolding put
  wrote_none l at h k = record { room = h; list = refl; next_is = omega arith }

  -- one element of s more
  pub wrote-next : {l m out : List A} {at p q : ℕ} (s : List A) (i : ℕ) (d : A) → i < length s → Wrote l at m p (take i s) → Wrote m p out q (get_or s i d ∷ []) → Wrote l at out q (take (i + 1) s)
  wrote-next {l} {m} {out} {at} {p} {q} s i d h u v = subst (Wrote l at out q) (sym (take-suc s i d h) ∙ ap (λ (n : ℕ). take n s) (sym (add-one i))) (wrote-more u v)

  -- the text by another name
  pub wrote_as : {l out : List A} {at next : ℕ} {txt txt' : List A} → txt ≡ txt' → Wrote l at out next txt → Wrote l at out next txt'
  wrote_as {l} {out} {at} {next} e w = subst (Wrote l at out next) e w

  -- measured on an empty part
  pub measured-length : {l out : List A} {n : ℕ} {txt : List A} → Wrote l 0 out n txt → n ≡ as_usize (length txt)
  measured-length {txt = txt} w = w.next_is ∙ ap as_usize (zero-add (length txt))

  -- written where it fits
  pub written_fits : {l out : List A} {n : ℕ} {txt : List A} → Wrote l 0 out n txt → length txt ≤ length l → (n ≡ length txt) × (out ≡ txt ++ drop (length txt) l)
  written_fits {l} {out} {n} {txt} w h = (
    measured-length w ∙ omega (arith, w.room),
    w.list ∙ put-eq l 0 txt (omega arith) ∙ ap (λ (i : ℕ). txt ++ drop i l) (zero-add (length txt)),
  )

  -- ---- a call that measures and then writes, or refuses and changes nothing

  -- the text and what stood after it, where it fits
  abbrev pub written_over : List A → List A → List A
  written_over txt out = cond (leb (length txt) (length out)) (txt ++ drop (length txt) out) out

  -- the answer: the length where the text fits in `room`, else the refusal
  abbrev pub answer : {R : Type 0} → (ℕ → R) → R → List A → ℕ → R
  answer written refused txt room = cond (leb (length txt) room) (written (length txt)) refused

  -- n is what was measured, and then the text was written, or nothing
  module _ {R : Type 0} (written : ℕ → R) (refused : R) {n : ℕ} (txt out : List A) (room : length out < 18446744073709551615) (measured : n ≡ as_usize (length txt)) where
    pub refuses_by : length out < n → (refused ≡ answer written refused txt (length out)) × (out ≡ written_over txt out)
    refuses_by h =
        let e : length out < length txt = omega (arith, measured) in
        (rw (lt-leb _ _ e), rw (lt-leb _ _ e))

    pub writes_by : {q : List A} {m : ℕ} → n ≤ length out → Wrote out 0 q m txt → (written m ≡ answer written refused txt (length out)) × (q ≡ written_over txt out)
    writes_by {q} {m} h v =
        let e : length txt ≤ length out = omega (arith, measured) in
        let f : (m ≡ length txt) × (q ≡ txt ++ drop (length txt) out) = written_fits v e in
        (rw (le-leb _ _ e) (ap written f.0), rw (le-leb _ _ e) f.1)

  -- the slice by another name
  pub left_as : {R : Type 0} {r s : R} {q p b : List A} → p ≡ q → (r ≡ s) × (q ≡ b) → (r ≡ s) × (p ≡ b)
  left_as e h = (h.0, e ∙ h.1)
