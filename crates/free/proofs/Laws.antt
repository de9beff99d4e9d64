-- A state's interval joins those before it. Assumes nothing.
use Rattle.std.proofs.Common.{◌≡◌, sym, ap, ◌∙◌, ℕ, ◌+◌, ◌<◌, false, List, [], ◌∷◌, ◌++◌, length, drop}
use mathlib.Core.List.{append_assoc}
use Rattle.shape.specs.declared.«V».{«V»}
use Rattle.free.specs.declared.Chord.{Chord}
use Rattle.free.specs.declared.Span.{Span}
use Rattle.shape.specs.Centres.{centre}
use Rattle.free.specs.Chords.{is_end, others_from}
use Rattle.free.specs.Blocked.{off_chord, span_of, intervals, blocked_by}
use Rattle.free.specs.Steps.{intervals-step}

-- these intervals are stored, and w are all
module _ (c : Chord) (ps : List «V») (k : ℕ) (stored w : List Span) (h : k < length ps)
    (i : stored ++ intervals c (others_from c k (drop k ps)) ≡ w) where
  abbrev next : List Span
  next = intervals c (others_from c (k + 1) (drop (k + 1) ps))

  pub blocked_skip : blocked_by c k (centre ps k) ≡ [] → stored ++ next ≡ w
  blocked_skip e = ap (λ (l : List Span). stored ++ l) (sym (intervals-step c ps k h ∙ ap (λ (l : List Span). l ++ next) e)) ∙ i

  pub blocked_put : (s : Span) → is_end c k ≡ false → off_chord c (centre ps k) ≡ false → s ≡ span_of c (centre ps k) → (stored ++ s ∷ []) ++ next ≡ w
  blocked_put s e f g =
      let b : blocked_by c k (centre ps k) ≡ s ∷ [] = rw (e, f, g) in
      append_assoc stored (s ∷ []) next
      ∙ ap (λ (l : List Span). stored ++ l) (sym (intervals-step c ps k h ∙ ap (λ (l : List Span). l ++ next) b))
      ∙ i
