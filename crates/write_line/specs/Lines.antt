-- A line's text joined by a loop from its pieces; how many records it takes; its record written before its pieces.
-- Assumes nothing.
use Rattle.std.specs.Prelude.{◌≡◌, refl, Bool, true, false, Option, ℕ, ◌+◌, ◌*◌, ◌/◌, ◌≤◌, ◌<◌, ltb, length}
use Rattle.std.proofs.Common.{sym, ap, ◌∙◌, arith}
use Rattle.std.specs.Bool.{then_some}
use Rattle.std.specs.Option.{unwrap_or}
use mathlib.Core.List.{List, [], ◌∷◌, ◌++◌, flat_map}
use Rattle.laws.specs.Put.{put}
use Rattle.sheet.specs.Sheet.{text_chain, piece, line_of}
use Rattle.sheet.specs.Records.{line_bytes}
use Rattle.encode.specs.Encode.{first_index, space_of, all_records, piece_size, pieces, piece_records, line_records, line_size}
use Rattle.encode.specs.Pieces.{pieces-count}
use Rattle.encode.specs.Fewer.{space_one}
use Rattle.write_line.specs.Writing.{index_if}
use Rattle.write_line.specs.Writes.{head-put}
use Rattle.write_line.specs.Cuts.{pieces-first}

-- ---- the pieces of a chain joined, record by record

pub joined-start : (s l : List ℕ) (k : ℕ) → l ≡ text_chain s k → flat_map (piece s) l ≡ line_of s k
unfolding line_of
joined-start s l k e = rw e

pub joined_end : (s l : List ℕ) → l ≡ [] → flat_map (piece s) l ≡ []
unfolding flat_map
joined_end s l e = rw e

pub joined_step : (s l more : List ℕ) (i : ℕ) → l ≡ i ∷ more → flat_map (piece s) l ≡ piece s i ++ flat_map (piece s) more
unfolding flat_map
joined_step s l more i e = rw e

-- ---- the index of what is written next, as the code makes it

pub index_is : (b : Bool) (k r : ℕ) (o : Option ℕ) → o ≡ then_some b k → r ≡ unwrap_or o 0 → r ≡ index_if b k
index_is true k r o e q = rw (q, e)
index_is false k r o e q = rw (q, e)

-- ---- a line

pub line_space : (l : List ℕ) (n : ℕ) → n ≡ length l → 1 + (n + 11) / 12 ≡ line_size l
line_space l n q =
    let c = pieces-count l in
    let a : length l ≤ 12 * length (pieces l) = c.0 in
    let b : 12 * length (pieces l) < length l + 12 = c.1 in
    let z : space_of piece_size (pieces l) ≡ length (pieces l) = space_one (pieces l) in
    omega arith

-- m bytes, read back as x: the pieces from record k + 1 on, r behind them, then the line's record before them
pub line-put : {out' out'' : List ℕ} {n n' t m r : ℕ} (out l x : List ℕ) (k : ℕ) → x ≡ l → m ≡ length l → t ≡ index_if (ltb 0 m) (k + 1) → n ≡ n'
    → out' ≡ put out (16 * (k + 1)) (all_records piece_size piece_records (k + 1) (pieces x)) → r ≡ k + 1 + space_of piece_size (pieces x)
    → out'' ≡ put out' (16 * k) (line_bytes n t) → (out'' ≡ put out (16 * k) (line_records k n' l)) × (r ≡ k + line_size l)
unfolding line_records
line-put {n = n} {n' = n'} {t = t} {r = r} out l x k e f g h p b q =
    let rest = all_records piece_size piece_records (k + 1) (pieces l) in
    let u : t ≡ first_index (k + 1) (pieces l) = g ∙ ap (λ (j : ℕ). index_if (ltb 0 j) (k + 1)) f ∙ sym (pieces-first l (k + 1)) in
    let v : r ≡ k + 1 + space_of piece_size (pieces l) = rw e at b in
    let w : put out (16 * k) (line_bytes n t ++ rest) ≡ put out (16 * k) (line_records k n' l) = rw (u, h) in
    (head-put out k (line_bytes n t) rest refl (rw e at p) q ∙ w, omega arith)
