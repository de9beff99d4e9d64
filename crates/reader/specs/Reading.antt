-- What is read of a record: 'Byte 0 is the kind', byte 1, and the words from byte 4 on; and the records that a chain has left.
use Rattle.std.specs.Prelude.{List, ℕ}
use Rattle.sheet.specs.Sheet.{kind_of, byte_one, first_text, to_of, first_line, chain_by}
use Rattle.reader.specs.declared.Chain.{Chain}
use Rattle.reader.specs.declared.Record.{Record}

-- Record k of the sheet s. The word at byte 4 is a line's first text and the state that an arrow leaves.
abbrev pub record_of : List ℕ → ℕ → Record
record_of s k = record { kind = kind_of s k; one = byte_one s k; word4 = first_text s k; word6 = to_of s k; word8 = first_line s k }

-- The records that are still to come.
unfoldable pub chain_rest : Chain → List ℕ
chain_rest c = chain_by c.sheet.now c.left c.at
