-- A listing as one value.
use Rattle.std.specs.Prelude.{Bool, List, ℕ}
use Rattle.drawing_text.specs.declared.Listing.{Listing}
use Rattle.drawing_text.specs.Lines.{list_text, list_writable}

abbrev pub text_of : Listing → List ℕ
text_of l = list_text l.width l.height l.nodes.now l.flags.now l.drawn.now l.totals

-- refusal 10
abbrev pub writable_of : Listing → Bool
writable_of l = list_writable l.width l.height l.nodes.now l.flags.now l.drawn.now l.totals
