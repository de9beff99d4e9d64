-- What an exported call returns and leaves, where its answer is known. Assumes nothing.
use Rattle.std.specs.Prelude.{◌≡◌}
use Rattle.std.proofs.Common.{ap}
use Rattle.calls.specs.Calls.{Outcome}
use Rattle.murshogi.specs.Exports.{returned, held_after}

pub told : {A B : Type 0} (f : A → B) (before : B) {o p : Outcome A} → o ≡ p → (returned o ≡ returned p) × (held_after f o before ≡ held_after f p before)
told {A} f before e = (ap returned e, ap (λ (q : Outcome A). held_after f q before) e)
