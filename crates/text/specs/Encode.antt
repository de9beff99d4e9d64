-- Encoding, as the Unicode Standard gives UTF-8 (Table 3-6), and that the table's code points undo it. Assumes nothing.
use Rattle.std.specs.Prelude.{◌≡◌, refl, true, cond, List, [], ◌∷◌, ◌++◌, ℕ, ◌+◌, ◌*◌, ◌/◌, ◌%◌, ◌<◌, ◌≤◌, ltb}
use Rattle.std.proofs.Common.{ap, ◌∙◌, arith}
use Rattle.std.proofs.Math.Option.{some}
use borrow.Author.Tests.{le-leb, lt-ltb, le-ltb}
use Rattle.laws.specs.Cases.{by_lt}
use Rattle.laws.specs.Loops.{over, over_join}
use Rattle.text.specs.Utf8.{Range, to, Awaited, rows, in_range, lookup, by_table, is_done, well_formed, payload, gathered_code, codes_from, code_points}
use Rattle.text.specs.Table.{not_in}

-- the bytes of the code point c: 7, 11, 16 or 21 bits, six in each byte after the first
unfoldable pub utf8 : ℕ → List ℕ
utf8 c =
    cond (ltb c 0x80) (c ∷ [])
    (cond (ltb c 0x800) ((0xc0 + c / 64) ∷ (0x80 + c % 64) ∷ [])
    (cond (ltb c 0x10000) ((0xe0 + c / 4096) ∷ (0x80 + c / 64 % 64) ∷ (0x80 + c % 64) ∷ [])
    ((0xf0 + c / 262144) ∷ (0x80 + c / 4096 % 64) ∷ (0x80 + c / 64 % 64) ∷ (0x80 + c % 64) ∷ [])))

-- every code point but the surrogates
pub data Scalar (c : ℕ) : Type 0 where
  low : c < 0xd800 → Scalar c
  high : 0xe000 ≤ c → c < 0x110000 → Scalar c

-- the bytes are one character, whose code point is c: what is awaited before them is w, the value so far v
pub data OneCharacter : Awaited → ℕ → List ℕ → ℕ → Type 0 where
  last : {w : Awaited} {v b c : ℕ} → by_table w b ≡ some [] → gathered_code w v b ≡ c → OneCharacter w v (b ∷ []) c
  more : {w : Awaited} {v b v' c : ℕ} {s : List ℕ} (r : Range) (row : List Range) → by_table w b ≡ some (r ∷ row) → gathered_code w v b ≡ v' → OneCharacter (some (r ∷ row)) v' s c → OneCharacter w v (b ∷ s) c

pub ends_codes : {w : Awaited} {v c : ℕ} {s : List ℕ} (rest : List ℕ) → OneCharacter w v s c → codes_from w v (s ++ rest) ≡ c ∷ codes_from (some []) c rest
unfolding codes_from
ends_codes rest (last e g) = rw (e, g)
ends_codes rest (more r row e g n) = rw (e, g) (ends_codes rest n)

pub ends_formed : {w : Awaited} {v c : ℕ} {s : List ℕ} → OneCharacter w v s c → over by_table w s ≡ some []
unfolding over
ends_formed (last e g) = rw e
ends_formed (more r row e g n) = rw e (ends_formed n)

is_in_lem : (b : ℕ) (r : Range) → r.lo ≤ b → b ≤ r.hi → in_range b r ≡ true
is_in_lem b r h k = rw (le-leb r.lo b h, le-leb b r.hi k)

in_row : (lo hi b : ℕ) (row : List Range) → lo ≤ b → b ≤ hi → by_table (some (to lo hi ∷ row)) b ≡ some row
in_row lo hi b row h k = rw (is_in_lem b (to lo hi) h k)

-- the rest of the row that a first byte opens
row_1 : (b : ℕ) → 0x00 ≤ b → b ≤ 0x7f → lookup b rows ≡ some []
row_1 b h k = rw (is_in_lem b (to 0x00 0x7f) h k)

pub row_2 : (b : ℕ) → 0xc2 ≤ b → b ≤ 0xdf → lookup b rows ≡ some (to 0x80 0xbf ∷ [])
row_2 b h k = rw (not_in b (to 0x00 0x7f) (omega arith), is_in_lem b (to 0xc2 0xdf) h k)

pub row_3 : (b : ℕ) → 0xe0 ≤ b → b ≤ 0xe0 → lookup b rows ≡ some (to 0xa0 0xbf ∷ to 0x80 0xbf ∷ [])
row_3 b h k = rw (not_in b (to 0x00 0x7f) (omega arith), not_in b (to 0xc2 0xdf) (omega arith), is_in_lem b (to 0xe0 0xe0) h k)

pub row_4 : (b : ℕ) → 0xe1 ≤ b → b ≤ 0xec → lookup b rows ≡ some (to 0x80 0xbf ∷ to 0x80 0xbf ∷ [])
row_4 b h k = rw (not_in b (to 0x00 0x7f) (omega arith), not_in b (to 0xc2 0xdf) (omega arith), not_in b (to 0xe0 0xe0) (omega arith), is_in_lem b (to 0xe1 0xec) h k)

pub row_5 : (b : ℕ) → 0xed ≤ b → b ≤ 0xed → lookup b rows ≡ some (to 0x80 0x9f ∷ to 0x80 0xbf ∷ [])
row_5 b h k = rw (not_in b (to 0x00 0x7f) (omega arith), not_in b (to 0xc2 0xdf) (omega arith), not_in b (to 0xe0 0xe0) (omega arith), not_in b (to 0xe1 0xec) (omega arith), is_in_lem b (to 0xed 0xed) h k)

pub row_6 : (b : ℕ) → 0xee ≤ b → b ≤ 0xef → lookup b rows ≡ some (to 0x80 0xbf ∷ to 0x80 0xbf ∷ [])
row_6 b h k = rw (not_in b (to 0x00 0x7f) (omega arith), not_in b (to 0xc2 0xdf) (omega arith), not_in b (to 0xe0 0xe0) (omega arith), not_in b (to 0xe1 0xec) (omega arith), not_in b (to 0xed 0xed) (omega arith), is_in_lem b (to 0xee 0xef) h k)

pub row_7 : (b : ℕ) → 0xf0 ≤ b → b ≤ 0xf0 → lookup b rows ≡ some (to 0x90 0xbf ∷ to 0x80 0xbf ∷ to 0x80 0xbf ∷ [])
row_7 b h k = rw (not_in b (to 0x00 0x7f) (omega arith), not_in b (to 0xc2 0xdf) (omega arith), not_in b (to 0xe0 0xe0) (omega arith), not_in b (to 0xe1 0xec) (omega arith), not_in b (to 0xed 0xed) (omega arith), not_in b (to 0xee 0xef) (omega arith), is_in_lem b (to 0xf0 0xf0) h k)

pub row_8 : (b : ℕ) → 0xf1 ≤ b → b ≤ 0xf3 → lookup b rows ≡ some (to 0x80 0xbf ∷ to 0x80 0xbf ∷ to 0x80 0xbf ∷ [])
row_8 b h k = rw (not_in b (to 0x00 0x7f) (omega arith), not_in b (to 0xc2 0xdf) (omega arith), not_in b (to 0xe0 0xe0) (omega arith), not_in b (to 0xe1 0xec) (omega arith), not_in b (to 0xed 0xed) (omega arith), not_in b (to 0xee 0xef) (omega arith), not_in b (to 0xf0 0xf0) (omega arith), is_in_lem b (to 0xf1 0xf3) h k)

pub row_9 : (b : ℕ) → 0xf4 ≤ b → b ≤ 0xf4 → lookup b rows ≡ some (to 0x80 0x8f ∷ to 0x80 0xbf ∷ to 0x80 0xbf ∷ [])
row_9 b h k = rw (not_in b (to 0x00 0x7f) (omega arith), not_in b (to 0xc2 0xdf) (omega arith), not_in b (to 0xe0 0xe0) (omega arith), not_in b (to 0xe1 0xec) (omega arith), not_in b (to 0xed 0xed) (omega arith), not_in b (to 0xee 0xef) (omega arith), not_in b (to 0xf0 0xf0) (omega arith), not_in b (to 0xf1 0xf3) (omega arith), is_in_lem b (to 0xf4 0xf4) h k)

-- ---- the value of each form
payload_one : (b : ℕ) → b < 0x80 → payload b ≡ b
unfolding payload
payload_one b h = rw (lt-ltb b 0x80 h)

payload_two : (q : ℕ) → q < 32 → payload (0xc0 + q) ≡ q
unfolding payload
payload_two q h = rw (le-ltb (0xc0 + q) 0x80 (omega arith), lt-ltb (0xc0 + q) 0xe0 (omega arith)) (omega arith)

payload_three : (q : ℕ) → q < 16 → payload (0xe0 + q) ≡ q
unfolding payload
payload_three q h = rw (le-ltb (0xe0 + q) 0x80 (omega arith), le-ltb (0xe0 + q) 0xe0 (omega arith), lt-ltb (0xe0 + q) 0xf0 (omega arith)) (omega arith)

payload-four : (q : ℕ) → q < 8 → payload (0xf0 + q) ≡ q
unfolding payload
payload-four q h = rw (le-ltb (0xf0 + q) 0x80 (omega arith), le-ltb (0xf0 + q) 0xe0 (omega arith), le-ltb (0xf0 + q) 0xf0 (omega arith)) (omega arith)

-- a later byte with six bits d
six : (u d v : ℕ) → d < 64 → 64 * u + d ≡ v → 64 * u + (0x80 + d) % 64 ≡ v
six u d v h e = omega arith

end_later : (u d c : ℕ) → d < 64 → 64 * u + d ≡ c → OneCharacter (some (to 0x80 0xbf ∷ [])) u ((0x80 + d) ∷ []) c
end_later u d c h e = last (in_row 0x80 0xbf (0x80 + d) [] (omega arith) (omega arith)) (six u d c h e)

more-later : (lo hi : ℕ) (r : Range) (row : List Range) (u d v c : ℕ) (s : List ℕ) → lo ≤ 0x80 + d → 0x80 + d ≤ hi → d < 64 → 64 * u + d ≡ v → OneCharacter (some (r ∷ row)) v s c
    → OneCharacter (some (to lo hi ∷ r ∷ row)) u ((0x80 + d) ∷ s) c
more-later lo hi r row u d v c s h k l e n = more r row (in_row lo hi (0x80 + d) (r ∷ row) h k) (six u d v l e) n

module _ (v c : ℕ) where
  ends_one : c < 0x80 → OneCharacter (some []) v (c ∷ []) c
  ends_one h = last (row_1 c (omega arith) (omega arith)) (payload_one c h)

  ends_two : 0x80 ≤ c → c < 0x800 → OneCharacter (some []) v ((0xc0 + c / 64) ∷ (0x80 + c % 64) ∷ []) c
  ends_two h k =
      more (to 0x80 0xbf) [] (row_2 (0xc0 + c / 64) (omega arith) (omega arith)) (payload_two (c / 64) (omega arith))
      (end_later (c / 64) (c % 64) c (omega arith) (omega arith))

  -- the range of the second byte is the row's
  ends_three : (lo hi : ℕ) → lookup (0xe0 + c / 4096) rows ≡ some (to lo hi ∷ to 0x80 0xbf ∷ []) → lo ≤ 0x80 + c / 64 % 64 → 0x80 + c / 64 % 64 ≤ hi → c < 0x10000
      → OneCharacter (some []) v ((0xe0 + c / 4096) ∷ (0x80 + c / 64 % 64) ∷ (0x80 + c % 64) ∷ []) c
  ends_three lo hi e h k l =
      more (to lo hi) (to 0x80 0xbf ∷ []) e (payload_three (c / 4096) (omega arith))
      (more-later lo hi (to 0x80 0xbf) [] (c / 4096) (c / 64 % 64) (c / 64) c ((0x80 + c % 64) ∷ []) h k (omega arith) (omega arith)
      (end_later (c / 64) (c % 64) c (omega arith) (omega arith)))

  ends_four : (lo hi : ℕ) → lookup (0xf0 + c / 262144) rows ≡ some (to lo hi ∷ to 0x80 0xbf ∷ to 0x80 0xbf ∷ []) → lo ≤ 0x80 + c / 4096 % 64 → 0x80 + c / 4096 % 64 ≤ hi → c < 0x110000
      → OneCharacter (some []) v ((0xf0 + c / 262144) ∷ (0x80 + c / 4096 % 64) ∷ (0x80 + c / 64 % 64) ∷ (0x80 + c % 64) ∷ []) c
  ends_four lo hi e h k l =
      more (to lo hi) (to 0x80 0xbf ∷ to 0x80 0xbf ∷ []) e (payload-four (c / 262144) (omega arith))
      (more-later lo hi (to 0x80 0xbf) (to 0x80 0xbf ∷ []) (c / 262144) (c / 4096 % 64) (c / 4096) c ((0x80 + c / 64 % 64) ∷ (0x80 + c % 64) ∷ []) h k (omega arith) (omega arith)
      (more-later 0x80 0xbf (to 0x80 0xbf) [] (c / 4096) (c / 64 % 64) (c / 64) c ((0x80 + c % 64) ∷ []) (omega arith) (omega arith) (omega arith) (omega arith)
      (end_later (c / 64) (c % 64) c (omega arith) (omega arith))))

  threes : 0x800 ≤ c → c < 0x10000 → Scalar c → OneCharacter (some []) v ((0xe0 + c / 4096) ∷ (0x80 + c / 64 % 64) ∷ (0x80 + c % 64) ∷ []) c
  threes h k (high l m) = ends_three 0x80 0xbf (row_6 (0xe0 + c / 4096) (omega arith) (omega arith)) (omega arith) (omega arith) k
  threes h k (low l) =
      by_lt c 0x1000
      (λ (m : c < 0x1000). ends_three 0xa0 0xbf (row_3 (0xe0 + c / 4096) (omega arith) (omega arith)) (omega arith) (omega arith) k)
      (λ (m : 0x1000 ≤ c). by_lt c 0xd000
      (λ (n : c < 0xd000). ends_three 0x80 0xbf (row_4 (0xe0 + c / 4096) (omega arith) (omega arith)) (omega arith) (omega arith) k)
      (λ (n : 0xd000 ≤ c). ends_three 0x80 0x9f (row_5 (0xe0 + c / 4096) (omega arith) (omega arith)) (omega arith) (omega arith) k))

  fours : 0x10000 ≤ c → c < 0x110000 → OneCharacter (some []) v ((0xf0 + c / 262144) ∷ (0x80 + c / 4096 % 64) ∷ (0x80 + c / 64 % 64) ∷ (0x80 + c % 64) ∷ []) c
  fours h k =
      by_lt c 0x40000
      (λ (m : c < 0x40000). ends_four 0x90 0xbf (row_7 (0xf0 + c / 262144) (omega arith) (omega arith)) (omega arith) (omega arith) k)
      (λ (m : 0x40000 ≤ c). by_lt c 0x100000
      (λ (n : c < 0x100000). ends_four 0x80 0xbf (row_8 (0xf0 + c / 262144) (omega arith) (omega arith)) (omega arith) (omega arith) k)
      (λ (n : 0x100000 ≤ c). ends_four 0x80 0x8f (row_9 (0xf0 + c / 262144) (omega arith) (omega arith)) (omega arith) (omega arith) k))

  below : Scalar c → c < 0x110000
  below (low h) = omega arith
  below (high h k) = k

  -- the encoded form of a scalar value is one character with that code point
  pub utf8_ends : Scalar c → OneCharacter (some []) v (utf8 c) c
  unfolding utf8
  utf8_ends q =
      by_lt c 0x80
      (λ (h : c < 0x80). rw (lt-ltb c 0x80 h) (ends_one h))
      (λ (h : 0x80 ≤ c). by_lt c 0x800
      (λ (k : c < 0x800). rw (le-ltb c 0x80 h, lt-ltb c 0x800 k) (ends_two h k))
      (λ (k : 0x800 ≤ c). by_lt c 0x10000
      (λ (l : c < 0x10000). rw (le-ltb c 0x80 h, le-ltb c 0x800 k, lt-ltb c 0x10000 l) (threes k l q))
      (λ (l : 0x10000 ≤ c). rw (le-ltb c 0x80 h, le-ltb c 0x800 k, le-ltb c 0x10000 l) (fours l (below q)))))

-- between characters the value so far does not matter
codes_fresh : (v u : ℕ) (s : List ℕ) → codes_from (some []) v s ≡ codes_from (some []) u s
unfolding codes_from
codes_fresh v u [] = refl
codes_fresh v u (b ∷ s) = refl

-- Encoded and read again, a scalar value is itself, whatever follows it.
pub codes_utf8 : (c : ℕ) (rest : List ℕ) → Scalar c → code_points (utf8 c ++ rest) ≡ c ∷ code_points rest
codes_utf8 c rest q = ends_codes rest (utf8_ends 0 c q) ∙ ap (λ (l : List ℕ). c ∷ l) (codes_fresh c 0 rest)

-- It is well-formed, and leaves what follows it as it was.
pub formed_utf8 : (c : ℕ) (rest : List ℕ) → Scalar c → well_formed (utf8 c ++ rest) ≡ well_formed rest
formed_utf8 c rest q = ap is_done (over_join by_table (some []) (utf8 c) rest ∙ ap (λ (w : Awaited). over by_table w rest) (ends_formed (utf8_ends 0 c q)))
