-- Document 02, T-02: which characters have width 0, and that accents put into a line change no width. Assumes nothing.
use Rattle.std.specs.Prelude.{◌≡◌, ℕ, suc, ◌+◌, ◌-◌, ◌*◌, ◌/◌, ◌%◌, ◌<◌, ◌≤◌, Bool, true, false, cond, not, ◌&&◌, T, List, [], ◌∷◌, ◌++◌, map, length, ◌≢◌, nat_le, nat_lt, refl, Float}
use Rattle.std.proofs.Common.{sym, ap, ap₂, ◌∙◌, subst, arith, le-leb, leb-true, lt-ltb, le-ltb, length-append}
use mathlib.Core.List.{flat_map, append-nil}
use Rattle.std.proofs.lemmas.Bool.{lt-leb}
use Rattle.std.proofs.lemmas.List.{length-map}
use Rattle.std.specs.Float.{binary64}
use Rattle.std.specs.Float.Ieee.{fits, to_bits, of_bits}
use Rattle.std.specs.Float.Ieee as Ieee
use Rattle.std.specs.Float.Ieee.Bits.{of_bits-fits}
use Rattle.std.specs.Float.Ieee.Fits.{add-fits}
use Rattle.laws.specs.Bools.{and_first, and_second}
use Rattle.laws.specs.Cases.{by_bool, by_lt}
use Rattle.laws.specs.Every.{every}
use Rattle.laws.specs.Filter.{filter_by, filter_join}
use Rattle.laws.specs.Loops.{over, over_keeps, over_join}
use Rattle.float.specs.Ops.{◌⊕◌}
use Rattle.float.specs.Constants.{f0, f12, label_char_width, label_wide_char_width}
use Rattle.float.specs.Standins.{max}
use Rattle.float.specs.Laws.{Unsigned, add-zero, max-zero, add-unsigned, max-unsigned}
use Rattle.text.specs.Utf8.{well_formed, codes_from, code_points}
use Rattle.text.specs.Encode.{utf8, Scalar, low, codes_utf8}
use Rattle.text.specs.Encoded.{AllScalar, codes_flat, formed_flat, codes_join, formed_join}
use Rattle.label.specs.Label.{accent, char_width, widened, line_width, wider_line, block_width, block_height, block}

-- ---- which characters

-- 112 of them, from U+0300 on
abbrev pub AmongAccents : ℕ → Type 0
AmongAccents c = (0x300 ≤ c) × (c < 0x300 + 112)

among : (c : ℕ) → accent c ≡ true → AmongAccents c
among c t =
    let a : 0x300 ≤ c = leb-true 0x300 c (and_first (nat_le 0x300 c) (nat_le c 0x36f) t) in
    let b : c ≤ 0x36f = leb-true c 0x36f (and_second (nat_le 0x300 c) (nat_le c 0x36f) t) in
    (a, omega arith)

among_accents : (c : ℕ) → AmongAccents c → accent c ≡ true
among_accents c h = let b : c < 0x300 + 112 = h.1 in rw (le-leb 0x300 c h.0, le-leb c 0x36f (omega arith))

-- neither of the two other widths is 0
not-zero : (b : Bool) → cond b label_char_width label_wide_char_width ≢ f0
unfolding of_bits to_bits
not-zero true e = subst (λ (x : Float). T (nat_lt 0 (to_bits binary64 x))) e tt
not-zero false e = subst (λ (x : Float). T (nat_lt 0 (to_bits binary64 x))) e tt

-- the width is 0 for them and for no other
pub zero-width : (c : ℕ) → (char_width c ≡ f0 → AmongAccents c) × (AmongAccents c → char_width c ≡ f0)
unfolding char_width
zero-width c = (
  λ e. by_bool (accent c) (among c) (λ t. absurd (not-zero (nat_lt c 0x80) (rw t at e))),
  λ h. rw (among_accents c h),
)

-- 'all others stay'
pub other_width : (c : ℕ) → (AmongAccents c → ⊥) → char_width c ≡ cond (nat_lt c 0x80) label_char_width label_wide_char_width
unfolding char_width
other_width c o = by_bool (accent c) (λ t. absurd (o (among c t))) (λ t. rw t)

-- at both borders
pub border_widths : (char_width 0x2ff ≡ f12) × (char_width 0x300 ≡ f0) × (char_width 0x36f ≡ f0) × (char_width 0x370 ≡ f12)
unfolding char_width
border_widths = (refl, refl, refl, refl)

-- what holds of the three widths holds of every character's
pub each_width : (P : Float → Type 0) → P f0 → P label_char_width → P label_wide_char_width → (c : ℕ) → P (char_width c)
unfolding char_width
each_width P z n w c = by_bool (accent c) (λ t. rw t z) (λ t. by_bool (nat_lt c 0x80) (λ a. rw (t, a) n) (λ a. rw (t, a) w))

-- a character alone in a line
width_alone : (c : ℕ) → f0 ⊕ char_width c ≡ char_width c
unfolding of_bits Ieee.add Ieee.sum Ieee.round
width_alone c = each_width (λ w. f0 ⊕ w ≡ w) refl refl refl c

pub character_width : (c : ℕ) → Scalar c → line_width (utf8 c) ≡ char_width c
unfolding line_width over codes_from
character_width c q = ap (over widened f0) (ap code_points (sym (append-nil (utf8 c))) ∙ codes_utf8 c [] q) ∙ width_alone c

-- of the characters of two bytes, those from CC 80 to CD AF
abbrev pub accent_bytes : ℕ → ℕ → Bool
accent_bytes b d = nat_le 0xcc80 (256 * b + d) && nat_le (256 * b + d) 0xcdaf

accent-bytes : (b d : ℕ) → 0xc2 ≤ b → 0x80 ≤ d → d ≤ 0xbf → accent (64 * (b - 0xc0) + (d - 0x80)) ≡ accent_bytes b d
accent-bytes b d h k l =
    by_lt (256 * b + d) 0xcc80
    (λ (m : 256 * b + d < 0xcc80). rw (lt-leb 0xcc80 (256 * b + d) m, lt-leb 0x300 (64 * (b - 0xc0) + (d - 0x80)) (omega arith)))
    (λ (m : 0xcc80 ≤ 256 * b + d). by_lt 0xcdaf (256 * b + d)
    (λ (n : 0xcdaf < 256 * b + d).
    rw (le-leb 0xcc80 (256 * b + d) m, lt-leb (256 * b + d) 0xcdaf n, le-leb 0x300 (64 * (b - 0xc0) + (d - 0x80)) (omega arith), lt-leb (64 * (b - 0xc0) + (d - 0x80)) 0x36f (omega arith)))
    (λ (n : 256 * b + d ≤ 0xcdaf).
    rw (le-leb 0xcc80 (256 * b + d) m, le-leb (256 * b + d) 0xcdaf n, le-leb 0x300 (64 * (b - 0xc0) + (d - 0x80)) (omega arith), le-leb (64 * (b - 0xc0) + (d - 0x80)) 0x36f (omega arith))))

utf8_two : (b d c : ℕ) → 0xc0 + c / 64 ≡ b → 0x80 + c % 64 ≡ d → 0x80 ≤ c → c < 0x800 → utf8 c ≡ b ∷ d ∷ []
unfolding utf8
utf8_two b d c p q m n = rw (le-ltb c 0x80 m, lt-ltb c 0x800 n) (ap₂ (λ (x y : ℕ). x ∷ y ∷ []) p q)

two_width : (t : Bool) (c : ℕ) → accent c ≡ t → 0x80 ≤ c → char_width c ≡ cond t f0 f12
unfolding char_width
two_width true c e m = rw e
two_width false c e m = rw (e, le-ltb c 0x80 m)

pub two_byte_width : (b d : ℕ) → 0xc2 ≤ b → b ≤ 0xdf → 0x80 ≤ d → d ≤ 0xbf → line_width (b ∷ d ∷ []) ≡ cond (accent_bytes b d) f0 f12
two_byte_width b d h i k l =
    let c = 64 * (b - 0xc0) + (d - 0x80) in
    let e : utf8 c ≡ b ∷ d ∷ [] = utf8_two b d c (omega arith) (omega arith) (omega arith) (omega arith) in
    ap line_width (sym e) ∙ character_width c (low (omega arith)) ∙ two_width (accent_bytes b d) c (accent-bytes b d h k l) (omega arith)

-- ---- accents in a line

-- the characters of a line without its accents
abbrev pub bare : List ℕ → List ℕ
bare line = filter_by (λ c. not (accent c)) (code_points line)

zero-unsigned : Unsigned f0
unfolding of_bits Ieee.ne Ieee.eq
zero-unsigned = record { plus = refl; number = refl }

width-unsigned : (c : ℕ) → Unsigned (char_width c)
unfolding of_bits Ieee.ne Ieee.eq
width-unsigned c = each_width Unsigned zero-unsigned (record { plus = refl; number = refl }) (record { plus = refl; number = refl }) c

-- an accent adds nothing
add-accent : (c : ℕ) (w : Float) → accent c ≡ true → T (fits binary64 w) → Unsigned w → widened w c ≡ w
unfolding char_width
add-accent c w t h u = rw t (add-zero w h u)

bare_adds : (cs : List ℕ) (w : Float) → T (fits binary64 w) → Unsigned w → over widened w (filter_by (λ c. not (accent c)) cs) ≡ over widened w cs
unfolding filter_by over
bare_adds [] w h u = refl
bare_adds (c ∷ cs) w h u =
    by_bool (accent c)
    (λ t. rw t (bare_adds cs w h u ∙ ap (λ (v : Float). over widened v cs) (sym (add-accent c w t h u))))
    (λ t. rw t (bare_adds cs (widened w c) (add-fits binary64 w (char_width c)) (add-unsigned w (char_width c) u (width-unsigned c))))

bare-width : (line : List ℕ) → over widened f0 (bare line) ≡ line_width line
unfolding line_width
bare-width line = bare_adds (code_points line) f0 (of_bits-fits binary64 0) zero-unsigned

-- lines of the same characters but for accents are as wide
pub same_width : (a b : List ℕ) → bare a ≡ bare b → line_width a ≡ line_width b
same_width a b e = sym (bare-width a) ∙ ap (over widened f0) e ∙ bare-width b

-- blocks of as many such lines have the same size
same-widest : (l m : List (List ℕ)) (w : Float) → map bare l ≡ map bare m → over wider_line w l ≡ over wider_line w m
unfolding over wider_line
same-widest [] [] w e = refl
same-widest [] (b ∷ m) w e = absurd (omega (arith, ap length e))
same-widest (a ∷ l) [] w e = absurd (omega (arith, ap length e))
same-widest (a ∷ l) (b ∷ m) w e =
    let h : bare a ≡ bare b = cc in
    let t : map bare l ≡ map bare m = cc in
    ap (λ (x : Float). over wider_line (max w x) l) (same_width a b h) ∙ same-widest l m (wider_line w b) t

pub same_block : (l m : List (List ℕ)) → map bare l ≡ map bare m → block l ≡ block m
same_block l m e =
    let n : length l ≡ length m = sym (length-map l bare) ∙ ap length e ∙ length-map m bare in
    ap₂ (λ (w h : Float). record { width = w; height = h }) (same-widest l m f0 e) (ap block_height n)

-- ---- accents put into a line: before, between or after its characters

accents_scalar : (cs : List ℕ) → every accent cs ≡ true → AllScalar cs
unfolding every
accents_scalar [] a = tt
accents_scalar (c ∷ cs) a =
    let h : AmongAccents c = among c (and_first (accent c) (every accent cs) a) in
    let b : c < 0x300 + 112 = h.1 in
    (low (omega arith), accents_scalar cs (and_second (accent c) (every accent cs) a))

none_bare : (cs : List ℕ) → every accent cs ≡ true → filter_by (λ c. not (accent c)) cs ≡ []
unfolding every filter_by
none_bare [] a = refl
none_bare (c ∷ cs) a = rw (and_first (accent c) (every accent cs) a) (none_bare cs (and_second (accent c) (every accent cs) a))

-- the encoded accents between what stands before and after them
abbrev pub accented : List ℕ → List ℕ → List ℕ → List ℕ
accented before marks after = before ++ (flat_map utf8 marks ++ after)

module _ (before marks after : List ℕ) (w : well_formed before ≡ true) (a : every accent marks ≡ true) where
  -- the line is well-formed exactly where it was
  pub accented_formed : well_formed (accented before marks after) ≡ well_formed (before ++ after)
  accented_formed =
      formed_join before (flat_map utf8 marks ++ after) w
      ∙ formed_flat after marks (accents_scalar marks a)
      ∙ sym (formed_join before after w)

  pub accented-bare : bare (accented before marks after) ≡ bare (before ++ after)
  accented-bare =
      let keep : ℕ → Bool = λ c. not (accent c) in
      ap (filter_by keep) (codes_join before (flat_map utf8 marks ++ after) w ∙ ap (λ (r : List ℕ). code_points before ++ r) (codes_flat after marks (accents_scalar marks a)))
      ∙ filter_join keep (code_points before) (marks ++ code_points after)
      ∙ ap (λ (r : List ℕ). filter_by keep (code_points before) ++ r) (filter_join keep marks (code_points after) ∙ ap (λ (r : List ℕ). r ++ filter_by keep (code_points after)) (none_bare marks a))
      ∙ sym (ap (filter_by keep) (codes_join before after w) ∙ filter_join keep (code_points before) (code_points after))

  -- and as wide
  pub accented-width : line_width (accented before marks after) ≡ line_width (before ++ after)
  accented-width = same_width (accented before marks after) (before ++ after) accented-bare

-- in any number of places
pub data WithAccents (line : List ℕ) : List ℕ → Type 0 where
  as_it_was : WithAccents line line
  more : (before marks after : List ℕ) → well_formed before ≡ true → every accent marks ≡ true → WithAccents line (before ++ after) → WithAccents line (accented before marks after)

module _ (line : List ℕ) where
  pub with_bare : (l : List ℕ) → WithAccents line l → bare l ≡ bare line
  with_bare _ as_it_was = refl
  with_bare _ (more before marks after w a p) = accented-bare before marks after w a ∙ with_bare (before ++ after) p

  pub with_formed : (l : List ℕ) → WithAccents line l → well_formed l ≡ well_formed line
  with_formed _ as_it_was = refl
  with_formed _ (more before marks after w a p) = accented_formed before marks after w a ∙ with_formed (before ++ after) p

-- ---- a line of accents alone: width 0, and a line of its block

pub accents_alone : (marks : List ℕ) → every accent marks ≡ true → line_width (flat_map utf8 marks) ≡ f0
unfolding line_width over codes_from
accents_alone marks a = ap line_width (sym (append-nil (flat_map utf8 marks))) ∙ accented-width [] marks [] refl a

line-unsigned : (line : List ℕ) → Unsigned (line_width line)
unfolding line_width
line-unsigned line = over_keeps Unsigned widened (λ w c u. add-unsigned w (char_width c) u (width-unsigned c)) f0 (code_points line) zero-unsigned

widest-unsigned : (lines : List (List ℕ)) → Unsigned (block_width lines)
unfolding wider_line
widest-unsigned lines = over_keeps Unsigned wider_line (λ w line u. max-unsigned w (line_width line) u (line-unsigned line)) f0 lines zero-unsigned

pub accents_line : (l m : List (List ℕ)) (marks : List ℕ) → every accent marks ≡ true
    → block (l ++ (flat_map utf8 marks ∷ m)) ≡ record { width = block_width (l ++ m); height = block_height (suc (length (l ++ m))) }
unfolding over wider_line
accents_line l m marks a =
    let none : max (block_width l) (line_width (flat_map utf8 marks)) ≡ block_width l =
    ap (max (block_width l)) (accents_alone marks a) ∙ max-zero (block_width l) (widest-unsigned l) in
    ap₂ (λ (w h : Float). record { width = w; height = h })
    (over_join wider_line f0 l (flat_map utf8 marks ∷ m) ∙ ap (λ (w : Float). over wider_line w m) none ∙ sym (over_join wider_line f0 l m))
    (ap block_height (length-append l (flat_map utf8 marks ∷ m) ∙ add-suc (length l) (length m) ∙ ap suc (sym (length-append l m))))
  where
    add-suc : (i j : ℕ) → i + suc j ≡ suc (i + j)
    add-suc i j = omega arith
