-- `drawing_text::put_anchor` meets its contract.
use mathlib.Core.Path.{sym, ap}
use mathlib.Core.List.{[], ◌∷◌, flat_map}
use Rattle.text.specs.Writing.{adds_as}
use Rattle.label_spots.specs.declared.Anchor.{Anchor}
use Rattle.drawing_text.specs.Lines.{word_field, field_text, fields_text, anchor_word}
use Rattle.drawing_text.proofs.put_anchor.Goals as goal

pub returns-in-Start : goal.returns-in-Start
unfolding field_text fields_text flat_map
returns-in-Start c = adds_as (sym (ap (λ (a : Anchor). fields_text (word_field (anchor_word a) ∷ [])) c.in-Start.is)) c.bytes.ensures

pub returns-in-Middle : goal.returns-in-Middle
unfolding field_text fields_text flat_map
returns-in-Middle c = adds_as (sym (ap (λ (a : Anchor). fields_text (word_field (anchor_word a) ∷ [])) c.in-Middle.is)) c.bytes-in-Middle.ensures

pub returns-in-End : goal.returns-in-End
unfolding field_text fields_text flat_map
returns-in-End c = adds_as (sym (ap (λ (a : Anchor). fields_text (word_field (anchor_word a) ∷ [])) c.in-End.is)) c.bytes-in-End.ensures
