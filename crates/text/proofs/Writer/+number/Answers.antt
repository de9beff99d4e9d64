use Rattle.std.proofs.Common.{ℕ, [], ◌∷◌, ◌++◌, ◌/◌, sym, ap, ◌∙◌}
use Rattle.text.specs.Writing.{adds_as, adds-more}
use Rattle.text.specs.Digits.{digits, digits_one, digits_more}
use Rattle.text.proofs.Writer.+number.Goals as goal

pub returns-then-n-lt10 : goal.returns-then-n-lt10
returns-then-n-lt10 t c = adds_as (ap (λ (d : ℕ). d ∷ []) c.digit.ensures ∙ sym (digits_one c.args.n c.if-n-lt10.true)) c.byte.ensures

pub returns : goal.returns
returns t c = adds_as (ap (λ (d : ℕ). digits (c.args.n / 10) ++ (d ∷ [])) c.digit-2.ensures ∙ sym (digits_more c.args.n c.if-n-lt10.false)) (adds-more c.number.ensures c.byte-2.ensures)
