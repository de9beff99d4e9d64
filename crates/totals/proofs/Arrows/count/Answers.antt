use Rattle.std.proofs.Common.{sym, ap, ◌∙◌, ◌≤◌, length, arith}
use Rattle.sheet.specs.Sheet.{chain}
use Rattle.reader.specs.Reading.{chain_rest}
use Rattle.totals.specs.Arrows.{none_counted, with_arrow}
use Rattle.totals.proofs.Laws.{fold_start, fold_end, fold_step}
use Rattle.totals.proofs.Arrows.count.Goals as goal

pub loop-k-init : goal.loop-k-init
loop-k-init c =
    let e = ap chain_rest c.into_iter-k-iterator.ensures.into_iter_gives in
    let short : length (chain_rest c.into_iter-k-iterator.result) ≤ 65536 = rw e c.new-k-items.ensures.short in
    record {
      rest = fold_start (with_arrow c.args.self.now.states) none_counted c.args.self.now.sheet.now _ (e ∙ c.new-k-items.ensures.list ∙ ap (chain c.args.self.now.sheet.now) c.word_at.ensures);
      out = omega arith;
      lines = omega arith;
    }

pub loop-k-preserved : goal.loop-k-preserved
loop-k-preserved c = let l = ap length c.in-Some.ensures.steps in let i = c.loop-k.invariant in record {
  rest = fold_step (with_arrow c.args.self.now.states) c.loop-k.t _ c.args.self.now.sheet.now _ _ c.in-Some.k c.in-Some.ensures.steps c.with_arrow-t.ensures.0 ∙ i.rest;
  out = omega (arith, i.out, l, c.with_arrow-t.ensures.1);
  lines = omega (arith, i.lines, l, c.with_arrow-t.ensures.2);
}

pub returns : goal.returns
returns c = sym (fold_end (with_arrow c.args.self.now.states) c.loop-k.t c.args.self.now.sheet.now _ c.in-None.ensures.steps.0) ∙ c.loop-k.invariant.rest
