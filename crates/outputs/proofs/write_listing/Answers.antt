-- `outputs::write_listing` meets its contract.
use Rattle.std.proofs.Common.{rules, sym, ◌∙◌, arith}
use Rattle.outputs.proofs.Laws.{list_10, list_7, list_done}
use Rattle.outputs.proofs.write_listing.Goals as goal

pub returns-then-not-writable : goal.returns-then-not-writable
returns-then-not-writable c = list_10 _ _ _ (sym c.writable.ensures.own ∙ c.if-not-writable.true)

pub returns-then-out-need : goal.returns-then-out-need
returns-then-out-need c = list_7 _ _ _ (sym c.writable.ensures.own ∙ c.if-not-writable.false) c.length-need.ensures (omega arith) c.if-out-need.true

pub returns : goal.returns
returns c =
    list_done _ _ _ (sym c.writable.ensures.own ∙ c.if-not-writable.false) c.length-need.ensures (omega arith)
    c.if-out-need.false (search rules) c.put.ensures.text
