use Rattle.std.proofs.Common.{rules, ap, ◌∙◌, map}
use Rattle.laws.specs.Put.{put}
use Rattle.sheet.specs.Sheet.{first_line, chain}
use Rattle.meaning.specs.Read.{first_lines}
use Rattle.meaning.proofs.heads_into.Goals as goal

pub returns : goal.returns
unfolding first_lines
returns c = c.each_into.ensures (first_line c.args.s.now) (λ k r h. search rules) ∙ ap (λ l. put c.args.out.now 0 (map (first_line c.args.s.now) l)) (c.new.ensures.list ∙ ap (chain c.args.s.now) c.word_at.ensures)
