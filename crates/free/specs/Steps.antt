-- The steps of the loops over the other states and over the intervals. Assumes nothing.
use Rattle.std.specs.Prelude.{◌≡◌, true, false, List, [], ◌∷◌, ◌++◌, ℕ, ◌+◌, ◌≤◌, ◌<◌, length, drop}
use Rattle.std.proofs.Common.{add-one, drop_of_length-le}
use Rattle.std.proofs.Math.Seq.{drop-cons}
use Rattle.laws.specs.Cases.{by_bool}
use Rattle.float.specs.Constants.{f0}
use Rattle.shape.specs.declared.«V».{«V»}
use Rattle.shape.specs.Plane.{vec}
use Rattle.free.specs.declared.Chord.{Chord}
use Rattle.shape.specs.Centres.{centre}
use Rattle.free.specs.Chords.{is_end, others_from}
use Rattle.free.specs.Blocked.{off_chord, intervals, blocked_by}

-- the other states from state k on
module _ (c : Chord) (ps : List «V») (k : ℕ) where
  pub others_skip : k < length ps → is_end c k ≡ true → others_from c k (drop k ps) ≡ others_from c (k + 1) (drop (k + 1) ps)
  unfolding others_from
  others_skip h e = rw (add-one, drop-cons ps k (vec f0 f0) h, e)

  pub others_take : k < length ps → is_end c k ≡ false → others_from c k (drop k ps) ≡ centre ps k ∷ others_from c (k + 1) (drop (k + 1) ps)
  unfolding others_from
  others_take h e = rw (add-one, drop-cons ps k (vec f0 f0) h, e)

  pub others_end : length ps ≤ k → others_from c k (drop k ps) ≡ []
  unfolding others_from
  others_end h = rw (drop_of_length-le ps h)

  pub intervals-step : k < length ps → intervals c (others_from c k (drop k ps)) ≡ blocked_by c k (centre ps k) ++ intervals c (others_from c (k + 1) (drop (k + 1) ps))
  unfolding intervals
  intervals-step h =
      by_bool (is_end c k)
      (λ e. rw (others_skip h e, e))
      (λ e. by_bool (off_chord c (centre ps k)) (λ t. rw (others_take h e, e, t)) (λ t. rw (others_take h e, e, t)))

  pub intervals-end : length ps ≤ k → intervals c (others_from c k (drop k ps)) ≡ []
  unfolding intervals
  intervals-end h = rw (others_end h)
