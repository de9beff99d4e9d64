use Rattle.std.proofs.Common.{rules, sym, ap, ◌∙◌, map, false}
use Rattle.laws.specs.Put.{put}
use Rattle.sheet.specs.Sheet.{chain}
use Rattle.meaning.specs.Read.{end_of, sources_are}
use Rattle.meaning.proofs.sources_into.Goals as goal

pub returns : goal.returns
returns c = c.each_into.ensures (end_of c.args.s.now false) (λ k r h. search rules) ∙ ap (λ l. put c.args.out.now 0 (map (end_of c.args.s.now false) l)) (c.new.ensures.list ∙ ap (chain c.args.s.now) c.word_at.ensures) ∙ ap (put c.args.out.now 0) (sym (sources_are c.args.s.now))
