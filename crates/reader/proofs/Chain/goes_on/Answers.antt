use Rattle.reader.specs.Reading.{chain_rest}
use Rattle.reader.proofs.Laws.{left_none, left_some}
use Rattle.reader.proofs.Chain.goes_on.Goals as goal

pub returns-then-self-ne0 : goal.returns-then-self-ne0
unfolding chain_rest
returns-then-self-ne0 c = let r = c.args.self.now in left_some r.sheet.now r.left r.at c.if-self-ne0.true

pub returns-else-self-ne0 : goal.returns-else-self-ne0
unfolding chain_rest
returns-else-self-ne0 c = let r = c.args.self.now in left_none r.sheet.now r.left r.at c.if-self-ne0.false
