use Rattle.std.proofs.Common.{◌≡◌, length, ap, arith, inl}
use Rattle.std.proofs.lemmas.Iterator.Consumers.{count_from_yields_List, YieldsList-from_first}
use Rattle.sheet.specs.Sheet as S
use Rattle.reader.specs.Reading.{chain_rest}
use Rattle.meaning.proofs.chain_length.Goals as goal

pub count-requires-clause-fits : goal.count-requires-clause-fits
count-requires-clause-fits c = inl (omega (arith, c.new.ensures.short))

pub returns : goal.returns
returns c =
    let all : c.count.result ≡ length (S.chain c.args.s.now c.args.first) = count_from_yields_List c.new.result _ c.count.ensures.ran (YieldsList-from_first (λ x. x) chain_rest _ c.new.ensures.list) in
    (all, omega (arith, c.new.ensures.short, ap length c.new.ensures.list))
