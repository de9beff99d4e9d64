use Rattle.std.proofs.Common.{rules, sym, ap, ◌∙◌, map}
use Rattle.laws.specs.Put.{put}
use Rattle.sheet.specs.Sheet.{byte_one, chain}
use Rattle.meaning.specs.Read.{flags_are}
use Rattle.meaning.proofs.flags_into.Goals as goal

pub returns : goal.returns
returns c = c.each_into.ensures (byte_one c.args.s.now) (λ k r h. search rules) ∙ ap (λ l. put c.args.out.now 0 (map (byte_one c.args.s.now) l)) (c.new.ensures.list ∙ ap (chain c.args.s.now) c.word_at.ensures) ∙ ap (put c.args.out.now 0) (sym (flags_are c.args.s.now))
