use Rattle.std.proofs.Common.{rules, sym, ap, ◌∙◌, map, true}
use Rattle.laws.specs.Put.{put}
use Rattle.sheet.specs.Sheet.{chain}
use Rattle.meaning.specs.Read.{end_of, targets_are}
use Rattle.meaning.proofs.targets_into.Goals as goal

pub returns : goal.returns
returns c = c.each_into.ensures (end_of c.args.s.now true) (λ k r h. search rules) ∙ ap (λ l. put c.args.out.now 0 (map (end_of c.args.s.now true) l)) (c.new.ensures.list ∙ ap (chain c.args.s.now) c.word_at.ensures) ∙ ap (put c.args.out.now 0) (sym (targets_are c.args.s.now))
