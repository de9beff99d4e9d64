-- `outputs::write_route` meets its contract.
use Rattle.std.proofs.Common.{rules, sym, ◌∙◌, arith}
use Rattle.outputs.proofs.Laws.{fill_10, fill-records, fill_text, fill_done}
use Rattle.outputs.proofs.write_route.Goals as goal

pub returns-then-not-paths_writable : goal.returns-then-not-paths_writable
returns-then-not-paths_writable c = fill_10 _ _ _ (sym c.paths_writable.ensures ∙ c.if-not-paths_writable.true)

pub returns-then-records-n : goal.returns-then-records-n
returns-then-records-n c = fill-records _ _ _ (sym c.paths_writable.ensures ∙ c.if-not-paths_writable.false) c.if-records-n.true

pub returns-then-text-need : goal.returns-then-text-need
returns-then-text-need c =
    fill_text _ _ _ (sym c.paths_writable.ensures ∙ c.if-not-paths_writable.false) _ c.paths_length-need.ensures (omega arith) c.if-text-need.true

pub returns : goal.returns
returns c =
    fill_done _ _ _ (sym c.paths_writable.ensures ∙ c.if-not-paths_writable.false) _ c.paths_length-need.ensures (omega arith)
    _ _ _ _ c.if-records-n.false c.if-text-need.false c.write_records.ensures (search rules) c.put_paths.ensures.text
