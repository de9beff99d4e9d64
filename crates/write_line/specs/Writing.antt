-- A record's sixteen bytes as a reader reads them, and the index of what is written next.
use Rattle.std.specs.Prelude.{Bool, cond, List, ◌∷◌, ◌++◌, ℕ}
use Rattle.sheet.specs.Records.{u16, zeros}
use Rattle.reader.specs.declared.Record.{Record}

-- a record with its next index; the header is one too, of the words 1, count, first state, first arrow
abbrev pub record_bytes : Record → ℕ → List ℕ
record_bytes d next = d.kind ∷ d.one ∷ u16 next ++ u16 d.word4 ++ u16 d.word6 ++ u16 d.word8 ++ zeros 6

-- the index of what is written from record k on, if there is something
abbrev pub index_if : Bool → ℕ → ℕ
index_if more k = cond more k 0
