-- An arrow with its lines as records: how many, and what is written. Assumes nothing.
use Rattle.std.specs.Prelude.{◌≡◌, false, not, List, ℕ, ◌+◌, ◌*◌, ◌≤◌, eqb, length}
use Rattle.std.proofs.Math.Path.{refl}
use Rattle.std.proofs.Common.{◌∙◌, ltb-false}
use Rattle.laws.specs.Any.{any_of}
use Rattle.laws.specs.Put.{put}
use Rattle.sheet.specs.Sheet.{first_line, line_of, lines_from, arrow_of}
use Rattle.sheet.specs.Refusals.{long_line}
use Rattle.reader.specs.declared.Record.{Record}
use Rattle.reader.specs.Reading.{record_of}
use Rattle.sheet.specs.Records.{arrow_bytes}
use Rattle.encode.specs.Encode.{first_index, space_of, all_records, line_size, line_records, arrow_size, arrow_records}
use Rattle.write_line.specs.Writing.{index_if}
use Rattle.write_line.specs.Writes.{head-put}
use Rattle.write_sheet.specs.Sheets.{long_arrow}
use Rattle.write_sheet.specs.Chained.{index-whole}

pub line-short : (l : List ℕ) → long_line l ≡ false → length l ≤ 96
line-short l b = ltb-false 96 (length l) b

first-line : (s : List ℕ) (i k : ℕ) → first_index k (lines_from s i) ≡ index_if (not (eqb i 0)) k
unfolding lines_from
first-line s i k = index-whole (line_of s) s i k

-- ---- arrow record i, and the first line, which was read there
module _ (s : List ℕ) (i f : ℕ) (e : f ≡ first_line s i) where
  pub lines_short : long_arrow (arrow_of s i) ≡ false → any_of long_line (lines_from s f) ≡ false
  unfolding arrow_of
  lines_short b = rw e b

  pub arrow_space : arrow_size (arrow_of s i) ≡ 1 + space_of line_size (lines_from s f)
  unfolding arrow_of
  arrow_space = rw e

-- ---- and d, the whole record
module _ (s : List ℕ) (i : ℕ) (d : Record) (e : d ≡ record_of s i) where
  -- the lines, and then the arrow's record before them
  pub arrow-written : (out : List ℕ) (k n : ℕ) {out' out'' : List ℕ} {t : ℕ} → t ≡ index_if (not (eqb d.word8 0)) (k + 1)
      → out' ≡ put out (16 * (k + 1)) (all_records line_size line_records (k + 1) (lines_from s d.word8))
      → out'' ≡ put out' (16 * k) (arrow_bytes n d.word4 d.word6 t) → out'' ≡ put out (16 * k) (arrow_records k n (arrow_of s i))
  unfolding arrow_records arrow_of
  arrow-written out k n {out'} {out''} {t} p w q =
      let b = arrow_bytes n d.word4 d.word6 t in
      let r = all_records line_size line_records (k + 1) (lines_from s d.word8) in
      head-put out k b r refl w q ∙ rw (p, e, first-line s (first_line s i) (k + 1))
