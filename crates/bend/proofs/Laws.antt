-- Steps of the proofs, by what the code has at hand. Assumes nothing.
use mathlib.Core.Path.{◌≡◌, sym, ap, ap₂, ◌∙◌}
use mathlib.Core.Bool.{true, false}
use mathlib.Core.List.{List, [], ◌∷◌}
use lib.Ieee.{Float}
use Rattle.float.specs.Ops.{◌⊕◌, lt}
use Rattle.float.specs.Constants.{eps}
use Rattle.float.specs.Standins.{abs}
use Rattle.shape.specs.declared.«V».{«V»}
use Rattle.free.specs.declared.Chord.{Chord}
use Rattle.free.specs.declared.Span.{Span}
use Rattle.bend.specs.Clear.{clearance, verified}
use Rattle.bend.specs.Bend.{pair_up, pair_bows, pair_bow, cap, capped, single_up, single_down, down_first, single_bow}

module _ (c : Chord) (ps : List «V») (l : List Span) where
  -- a two-way pair: u is its first free bow
  pub pair_is : (u v : Float) → u ≡ pair_up c l → v ≡ verified (clearance c ps) (pair_bows u) → v ≡ pair_bow c ps l
  unfolding pair_bow
  pair_is u v eu e = e ∙ ap (λ (x : Float). verified (clearance c ps) (pair_bows x)) eu

  -- a single arrow: m is the cap, u and d the first free bows, high and low the same capped, au and ad their sizes
  module _ (m u d high low au ad : Float) (em : m ≡ cap c) (eu : u ≡ single_up l) (ed : d ≡ single_down l) (eh : high ≡ capped m u) (el : low ≡ capped m d) (ea : au ≡ abs u) (eb : ad ≡ abs d) where
    order : lt (ad ⊕ eps) au ≡ down_first l
    order = ap₂ (λ (x y : Float). lt (x ⊕ eps) y) (eb ∙ ap abs ed) (ea ∙ ap abs eu)

    high_is : high ≡ capped (cap c) (single_up l)
    high_is = eh ∙ ap₂ capped em eu

    low_is : low ≡ capped (cap c) (single_down l)
    low_is = el ∙ ap₂ capped em ed

    pub down-first : (v : Float) → lt (ad ⊕ eps) au ≡ true → v ≡ verified (clearance c ps) (low ∷ high ∷ []) → v ≡ single_bow c ps l
    unfolding single_bow
    down-first v t e = e ∙ ap₂ (λ (x y : Float). verified (clearance c ps) (x ∷ y ∷ [])) low_is high_is ∙ sym (rw (sym order ∙ t))

    pub up_first : (v : Float) → lt (ad ⊕ eps) au ≡ false → v ≡ verified (clearance c ps) (high ∷ low ∷ []) → v ≡ single_bow c ps l
    unfolding single_bow
    up_first v t e = e ∙ ap₂ (λ (x y : Float). verified (clearance c ps) (x ∷ y ∷ [])) high_is low_is ∙ sym (rw (sym order ∙ t))
