-- A well-formed text is its code points encoded one after the other, and each of them is a scalar value; texts joined. Assumes nothing.
use Rattle.std.specs.Prelude.{◌≡◌, true, false, ℕ, zero, suc, ◌+◌, ◌-◌, ◌*◌, ◌/◌, ◌%◌, ◌<◌, ◌≤◌, leb, ltb, length}
use Rattle.std.proofs.Math.Path.{refl, ap}
use Rattle.std.proofs.Common.{sym, ap₂, ◌∙◌, true≢false, le_refl, arith, length-append, leb-true, lt-ltb, le-ltb}
use mathlib.Core.List.{List, [], ◌∷◌, ◌++◌, flat_map, append_assoc}
use Rattle.std.proofs.Math.Option.{none, some}
use Rattle.std.proofs.lemmas.Bool.{lt-leb}
use Rattle.laws.specs.Cases.{by_bool, by_lt}
use Rattle.laws.specs.Loops.{over}
use Rattle.text.specs.Utf8.{Range, to, Awaited, rows, in_range, lookup, by_table, is_done, well_formed, codes_from, code_points}
use Rattle.text.specs.Table.{not_in}
use Rattle.text.specs.Encode.{utf8, Scalar, low, high, codes_utf8, formed_utf8, row_2, row_3, row_4, row_5, row_6, row_7, row_8, row_9}

-- what is awaited from w on comes, and no byte is lacking at the end
abbrev Comes : Awaited → List ℕ → Type 0
Comes w s = is_done (over by_table w s) ≡ true

no_more : {C : Type 0} (s : List ℕ) → Comes none s → C
unfolding over
no_more [] e = absurd (true≢false (sym e))
no_more (b ∷ s) e = no_more s e

-- the byte that is awaited is there
data Next (r : Range) (row : List Range) : List ℕ → Type 0 where
  next : (b : ℕ) (s : List ℕ) → r.lo ≤ b → b ≤ r.hi → Comes (some row) s → Next r row (b ∷ s)

in_range_lem : {C : Type 0} (b : ℕ) (r : Range) → in_range b r ≡ true → (r.lo ≤ b → b ≤ r.hi → C) → C
in_range_lem b r e f =
    by_bool (leb r.lo b)
    (λ t. by_bool (leb b r.hi) (λ q. f (leb-true r.lo b t) (leb-true b r.hi q)) (λ q. absurd (true≢false (sym (rw (t, q) at e)))))
    (λ t. absurd (true≢false (sym (rw t at e))))

next_comes : (r : Range) (row : List Range) (s : List ℕ) → Comes (some (r ∷ row)) s → Next r row s
unfolding over
next_comes r row [] e = absurd (true≢false (sym e))
next_comes r row (b ∷ s) e =
    by_bool (in_range b r)
    (λ t. in_range_lem b r t (λ h k. next b s h k (rw t at e)))
    (λ t. no_more s (rw t at e))

-- a text that begins with a scalar value encoded
data Begins : List ℕ → Type 0 where
  begins : (c : ℕ) (rest : List ℕ) → Scalar c → Begins (utf8 c ++ rest)

begins_as : (c : ℕ) (rest s : List ℕ) → Scalar c → utf8 c ++ rest ≡ s → Begins s
begins_as c rest s q e = rw (← e) (begins c rest q)

-- ---- the first character, by the number of its bytes; c is its code point
one : (b : ℕ) (s : List ℕ) → b < 0x80 → Begins (b ∷ s)
unfolding utf8
one b s h = begins_as b s (b ∷ s) (low (omega arith)) (rw (lt-ltb b 0x80 h))

two_bytes : (c : ℕ) → 0x80 ≤ c → c < 0x800 → utf8 c ≡ (0xc0 + c / 64) ∷ (0x80 + c % 64) ∷ []
unfolding utf8
two_bytes c h k = rw (le-ltb c 0x80 h, lt-ltb c 0x800 k)

three_bytes : (c : ℕ) → 0x800 ≤ c → c < 0x10000 → utf8 c ≡ (0xe0 + c / 4096) ∷ (0x80 + c / 64 % 64) ∷ (0x80 + c % 64) ∷ []
unfolding utf8
three_bytes c h k = rw (le-ltb c 0x80 (omega arith), le-ltb c 0x800 h, lt-ltb c 0x10000 k)

four_bytes : (c : ℕ) → 0x10000 ≤ c → utf8 c ≡ (0xf0 + c / 262144) ∷ (0x80 + c / 4096 % 64) ∷ (0x80 + c / 64 % 64) ∷ (0x80 + c % 64) ∷ []
unfolding utf8
four_bytes c h = rw (le-ltb c 0x80 (omega arith), le-ltb c 0x800 (omega arith), le-ltb c 0x10000 h)

same_two : {a b a' b' : ℕ} (rest : List ℕ) → a ≡ a' → b ≡ b' → ◌≡◌ {A = List ℕ} (a ∷ b ∷ rest) (a' ∷ b' ∷ rest)
same_two rest e f = rw (e, f)

two : (b : ℕ) (s : List ℕ) → 0xc2 ≤ b → b ≤ 0xdf → Next (to 0x80 0xbf) [] s → Begins (b ∷ s)
two b _ h k (next d s l m e) =
    let c = 64 * (b - 0xc0) + (d - 0x80) in
    let x : 0xc0 + c / 64 ≡ b = omega arith in
    let y : 0x80 + c % 64 ≡ d = omega arith in
    begins_as c s (b ∷ d ∷ s) (low (omega arith)) (ap (λ (l : List ℕ). l ++ s) (two_bytes c (omega arith) (omega arith)) ∙ same_two s x y)

-- the second byte's range is from lo to hi
three : (b : ℕ) (s : List ℕ) (lo hi : ℕ) → 0xe0 ≤ b → b ≤ 0xef → 0x80 ≤ lo → hi ≤ 0xbf → 0x800 ≤ 4096 * (b - 0xe0) + 64 * (lo - 0x80)
    → ((c : ℕ) → 4096 * (b - 0xe0) + 64 * (lo - 0x80) ≤ c → c ≤ 4096 * (b - 0xe0) + 64 * (hi - 0x80) + 63 → Scalar c)
    → Next (to lo hi) (to 0x80 0xbf ∷ []) s → Begins (b ∷ s)
three b _ lo hi h k i j g q (next d s l m e) = go s (next_comes (to 0x80 0xbf) [] s e)
  where
    go : (s : List ℕ) → Next (to 0x80 0xbf) [] s → Begins (b ∷ d ∷ s)
    go _ (next f s u v w) =
        let c = 4096 * (b - 0xe0) + 64 * (d - 0x80) + (f - 0x80) in
        let x : 0xe0 + c / 4096 ≡ b = omega arith in
        let t : c / 64 ≡ 64 * (b - 0xe0) + (d - 0x80) = omega arith in
        let y : 0x80 + c / 64 % 64 ≡ d = rw t (omega arith) in
        let z : 0x80 + c % 64 ≡ f = omega arith in
        begins_as c s (b ∷ d ∷ f ∷ s) (q c (omega arith) (omega arith))
        (ap (λ (l : List ℕ). l ++ s) (three_bytes c (omega arith) (omega arith)) ∙ ap₂ (λ (a : ℕ) (l : List ℕ). a ∷ l) x (same_two s y z))

four : (b : ℕ) (s : List ℕ) (lo hi : ℕ) → 0xf0 ≤ b → b ≤ 0xf4 → 0x80 ≤ lo → hi ≤ 0xbf → 0x10000 ≤ 262144 * (b - 0xf0) + 4096 * (lo - 0x80)
    → 262144 * (b - 0xf0) + 4096 * (hi - 0x80) + 4095 < 0x110000
    → Next (to lo hi) (to 0x80 0xbf ∷ to 0x80 0xbf ∷ []) s → Begins (b ∷ s)
four b _ lo hi h k i j g n (next d s l m e) = go s (next_comes (to 0x80 0xbf) (to 0x80 0xbf ∷ []) s e)
  where
    last_byte : (f : ℕ) → 0x80 ≤ f → f ≤ 0xbf → (s : List ℕ) → Next (to 0x80 0xbf) [] s → Begins (b ∷ d ∷ f ∷ s)
    last_byte f u v _ (next p s m' n' w) =
        let c = 262144 * (b - 0xf0) + 4096 * (d - 0x80) + 64 * (f - 0x80) + (p - 0x80) in
        let x : 0xf0 + c / 262144 ≡ b = omega arith in
        let t : c / 4096 ≡ 64 * (b - 0xf0) + (d - 0x80) = omega arith in
        let y : 0x80 + c / 4096 % 64 ≡ d = rw t (omega arith) in
        let r : c / 64 ≡ 64 * (64 * (b - 0xf0) + (d - 0x80)) + (f - 0x80) = omega arith in
        let z : 0x80 + c / 64 % 64 ≡ f = rw r (omega arith) in
        let o : 0x80 + c % 64 ≡ p = omega arith in
        begins_as c s (b ∷ d ∷ f ∷ p ∷ s) (high (omega arith) (omega arith))
        (ap (λ (l : List ℕ). l ++ s) (four_bytes c (omega arith)) ∙ ap₂ (λ (a : List ℕ) (l : List ℕ). a ++ l) (same_two [] x y) (same_two s z o))

    go : (s : List ℕ) → Next (to 0x80 0xbf) (to 0x80 0xbf ∷ []) s → Begins (b ∷ d ∷ s)
    go _ (next f s u v w) = last_byte f u v s (next_comes (to 0x80 0xbf) [] s w)

-- b is below the range
not_yet : (b : ℕ) (r : Range) → b < r.lo → in_range b r ≡ false
not_yet b r h = rw (lt-leb r.lo b h)

-- a byte that begins no character
stray : {C : Type 0} (b : ℕ) (s : List ℕ) → lookup b rows ≡ none → well_formed (b ∷ s) ≡ true → C
unfolding over
stray b s e f = no_more s (rw e at f)

after : (b : ℕ) (s : List ℕ) (r : Range) (row : List Range) → lookup b rows ≡ some (r ∷ row) → well_formed (b ∷ s) ≡ true → Next r row s
unfolding over
after b s r row e f = next_comes r row s (rw e at f)

none_below : (b : ℕ) → 0x7f < b → b < 0xc2 → lookup b rows ≡ none
none_below b h k =
    rw (
      not_in b (to 0x00 0x7f) h,
      not_yet b (to 0xc2 0xdf) k,
      not_yet b (to 0xe0 0xe0) (omega arith),
      not_yet b (to 0xe1 0xec) (omega arith),
      not_yet b (to 0xed 0xed) (omega arith),
      not_yet b (to 0xee 0xef) (omega arith),
      not_yet b (to 0xf0 0xf0) (omega arith),
      not_yet b (to 0xf1 0xf3) (omega arith),
      not_yet b (to 0xf4 0xf4) (omega arith),
    )

none_above : (b : ℕ) → 0xf4 < b → lookup b rows ≡ none
none_above b h =
    rw (
      not_in b (to 0x00 0x7f) (omega arith),
      not_in b (to 0xc2 0xdf) (omega arith),
      not_in b (to 0xe0 0xe0) (omega arith),
      not_in b (to 0xe1 0xec) (omega arith),
      not_in b (to 0xed 0xed) (omega arith),
      not_in b (to 0xee 0xef) (omega arith),
      not_in b (to 0xf0 0xf0) (omega arith),
      not_in b (to 0xf1 0xf3) (omega arith),
      not_in b (to 0xf4 0xf4) h,
    )

first : (b : ℕ) (s : List ℕ) → well_formed (b ∷ s) ≡ true → Begins (b ∷ s)
first b s w =
    by_lt b 0x80 (λ (h : b < 0x80). one b s h)
    (λ (h : 0x80 ≤ b). by_lt b 0xc2 (λ (k : b < 0xc2). stray b s (none_below b (omega arith) k) w)
    (λ (k : 0xc2 ≤ b). by_lt b 0xe0 (λ (l : b < 0xe0). two b s k (omega arith) (after b s (to 0x80 0xbf) [] (row_2 b k (omega arith)) w))
    (λ (l : 0xe0 ≤ b). by_lt b 0xf0 (λ (m : b < 0xf0). threes l m) (λ (m : 0xf0 ≤ b). fours m))))
  where
    threes : 0xe0 ≤ b → b < 0xf0 → Begins (b ∷ s)
    threes l m =
        by_lt b 0xe1
        (λ (n : b < 0xe1). three b s 0xa0 0xbf l (omega arith) (omega arith) (omega arith) (omega arith) (λ c u v. low (omega arith)) (after b s (to 0xa0 0xbf) (to 0x80 0xbf ∷ []) (row_3 b l (omega arith)) w))
        (λ (n : 0xe1 ≤ b). by_lt b 0xed
        (λ (o : b < 0xed). three b s 0x80 0xbf l (omega arith) (omega arith) (omega arith) (omega arith) (λ c u v. low (omega arith)) (after b s (to 0x80 0xbf) (to 0x80 0xbf ∷ []) (row_4 b n (omega arith)) w))
        (λ (o : 0xed ≤ b). by_lt b 0xee
        (λ (p : b < 0xee). three b s 0x80 0x9f l (omega arith) (omega arith) (omega arith) (omega arith) (λ c u v. low (omega arith)) (after b s (to 0x80 0x9f) (to 0x80 0xbf ∷ []) (row_5 b o (omega arith)) w))
        (λ (p : 0xee ≤ b). three b s 0x80 0xbf l (omega arith) (omega arith) (omega arith) (omega arith) (λ c u v. high (omega arith) (omega arith)) (after b s (to 0x80 0xbf) (to 0x80 0xbf ∷ []) (row_6 b p (omega arith)) w))))

    fours : 0xf0 ≤ b → Begins (b ∷ s)
    fours l =
        by_lt b 0xf1
        (λ (n : b < 0xf1). four b s 0x90 0xbf l (omega arith) (omega arith) (omega arith) (omega arith) (omega arith) (after b s (to 0x90 0xbf) (to 0x80 0xbf ∷ to 0x80 0xbf ∷ []) (row_7 b l (omega arith)) w))
        (λ (n : 0xf1 ≤ b). by_lt b 0xf4
        (λ (o : b < 0xf4). four b s 0x80 0xbf l (omega arith) (omega arith) (omega arith) (omega arith) (omega arith) (after b s (to 0x80 0xbf) (to 0x80 0xbf ∷ to 0x80 0xbf ∷ []) (row_8 b n (omega arith)) w))
        (λ (o : 0xf4 ≤ b). by_lt b 0xf5
        (λ (p : b < 0xf5). four b s 0x80 0x8f l (omega arith) (omega arith) (omega arith) (omega arith) (omega arith) (after b s (to 0x80 0x8f) (to 0x80 0xbf ∷ to 0x80 0xbf ∷ []) (row_9 b o (omega arith)) w))
        (λ (p : 0xf5 ≤ b). stray b s (none_above b (omega arith)) w)))

-- ---- whole texts
abbrev pub AllScalar : List ℕ → Type 0
AllScalar [] = Unit {0}
AllScalar (c ∷ cs) = Scalar c × AllScalar cs

-- a text and its code points
pub record Encoded (s : List ℕ) : Type 0 where
  pub again : flat_map utf8 (code_points s) ≡ s
  pub scalars : AllScalar (code_points s)

-- a character has one to four bytes
pub utf8-length : (c : ℕ) → (1 ≤ length (utf8 c)) × (length (utf8 c) ≤ 4)
unfolding utf8
utf8-length c =
    by_bool (ltb c 0x80) (λ e. rw e (omega arith, omega arith))
    (λ e. by_bool (ltb c 0x800) (λ f. rw (e, f) (omega arith, omega arith))
    (λ f. by_bool (ltb c 0x10000) (λ g. rw (e, f, g) (omega arith, omega arith)) (λ g. rw (e, f, g) (omega arith, omega arith))))

-- a scalar value and a text after it
encoded_more : (c : ℕ) (rest : List ℕ) → Scalar c → Encoded rest → Encoded (utf8 c ++ rest)
unfolding flat_map
encoded_more c rest q r =
    let e : code_points (utf8 c ++ rest) ≡ c ∷ code_points rest = codes_utf8 c rest q in
    record { again = rw e (ap (λ (x : List ℕ). utf8 c ++ x) r.again); scalars = rw e (q, r.scalars) }

nothing : (s : List ℕ) → length s ≤ 0 → Encoded s
unfolding flat_map codes_from
nothing [] h = record { again = refl; scalars = tt }
nothing (b ∷ s) h = absurd (omega arith)

encoded_by : (n : ℕ) (s : List ℕ) → length s ≤ n → well_formed s ≡ true → Encoded s
encoded_by zero s h w = nothing s h
encoded_by (suc n) s h w = go s h w (λ rest. encoded_by n rest)
  where
    begun : (t : List ℕ) → length t ≤ suc n → well_formed t ≡ true → Begins t → ((rest : List ℕ) → length rest ≤ n → well_formed rest ≡ true → Encoded rest) → Encoded t
    begun _ l v (begins c rest q) f =
        let a : 1 ≤ length (utf8 c) = (utf8-length c).0 in
        let m : length (utf8 c) + length rest ≤ suc n = rw (length-append (utf8 c) rest) at l in
        encoded_more c rest q (f rest (omega arith) (sym (formed_utf8 c rest q) ∙ v))

    go : (t : List ℕ) → length t ≤ suc n → well_formed t ≡ true → ((rest : List ℕ) → length rest ≤ n → well_formed rest ≡ true → Encoded rest) → Encoded t
    go [] l v f = nothing [] (omega arith)
    go (b ∷ t) l v f = begun (b ∷ t) l v (first b t v) f

-- A well-formed text is its code points encoded, and each is a scalar value: no surrogate and none beyond 0x10ffff.
pub encoded : (s : List ℕ) → well_formed s ≡ true → Encoded s
encoded s w = encoded_by (length s) s (le_refl (length s)) w

-- ---- texts joined

-- scalar values encoded one after the other, and what follows them
module _ (rest : List ℕ) where
  pub codes_flat : (cs : List ℕ) → AllScalar cs → code_points (flat_map utf8 cs ++ rest) ≡ cs ++ code_points rest
  unfolding flat_map
  codes_flat [] q = refl
  codes_flat (c ∷ cs) q =
      ap code_points (append_assoc (utf8 c) (flat_map utf8 cs) rest)
      ∙ codes_utf8 c (flat_map utf8 cs ++ rest) q.0
      ∙ ap (λ (l : List ℕ). c ∷ l) (codes_flat cs q.1)

  pub formed_flat : (cs : List ℕ) → AllScalar cs → well_formed (flat_map utf8 cs ++ rest) ≡ well_formed rest
  unfolding flat_map
  formed_flat [] q = refl
  formed_flat (c ∷ cs) q =
      ap well_formed (append_assoc (utf8 c) (flat_map utf8 cs) rest)
      ∙ formed_utf8 c (flat_map utf8 cs ++ rest) q.0
      ∙ formed_flat cs q.1

-- a well-formed text leaves what follows it as it was
module _ (s t : List ℕ) (w : well_formed s ≡ true) where
  pub codes_join : code_points (s ++ t) ≡ code_points s ++ code_points t
  codes_join = ap (λ (x : List ℕ). code_points (x ++ t)) (sym (encoded s w).again) ∙ codes_flat t (code_points s) (encoded s w).scalars

  pub formed_join : well_formed (s ++ t) ≡ well_formed t
  formed_join = ap (λ (x : List ℕ). well_formed (x ++ t)) (sym (encoded s w).again) ∙ formed_flat t (code_points s) (encoded s w).scalars
