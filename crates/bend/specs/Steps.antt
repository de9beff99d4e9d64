-- The steps of the loops over states, bows and arrows. Assumes nothing.
use Rattle.std.specs.Prelude.{◌≡◌, true, false, List, ℕ, ◌+◌, ◌≤◌, ◌<◌, length, drop, get_or, Float}
use Rattle.std.proofs.Common.{add-one, drop_of_length-le}
use Rattle.std.proofs.Math.Seq.{drop-cons}
use Rattle.std.specs.Float.Ieee.{nan}
use Rattle.laws.specs.Cases.{by_bool}
use Rattle.laws.specs.Loops.{over}
use Rattle.float.specs.Ops.{◌⊗◌, le}
use Rattle.float.specs.Constants.{full_clearance, f0_5}
use Rattle.shape.specs.declared.«V».{«V»}
use Rattle.free.specs.declared.Chord.{Chord}
use Rattle.shape.specs.Centres.{centre}
use Rattle.free.specs.Chords.{is_end, others_from}
use Rattle.free.specs.Steps.{others_skip, others_take, others_end}
use Rattle.bend.specs.declared.Best.{Best}
use Rattle.bend.specs.Clear.{beside, nearer}
use Rattle.bend.specs.Choice.{better, choose}

-- a fold over the other states: state k's step, and the end
module _ (c : Chord) (ps : List «V») (p : «V») (k : ℕ) (m : Float) where
  pub beside-step : k < length ps → over (nearer p) (beside c k (centre ps k) p m) (others_from c (k + 1) (drop (k + 1) ps)) ≡ over (nearer p) m (others_from c k (drop k ps))
  unfolding over
  beside-step h = by_bool (is_end c k) (λ e. rw (others_skip c ps k h e, e)) (λ e. rw (others_take c ps k h e, e))

  pub beside_end : length ps ≤ k → m ≡ over (nearer p) m (others_from c k (drop k ps))
  unfolding over
  beside_end h = rw (others_end c ps k h)

-- the bows from place i on
module _ (keeps : Float → Float) (b : Best) (hs : List Float) (i : ℕ) where
  pub choose_hit : i < length hs → le (full_clearance ⊗ f0_5) (keeps (get_or hs i nan)) ≡ true → get_or hs i nan ≡ choose keeps b (drop i hs)
  unfolding choose
  choose_hit h e = rw (drop-cons hs i nan h, e)

  pub choose_miss : i < length hs → le (full_clearance ⊗ f0_5) (keeps (get_or hs i nan)) ≡ false
      → choose keeps (better b (keeps (get_or hs i nan)) (get_or hs i nan)) (drop (i + 1) hs) ≡ choose keeps b (drop i hs)
  unfolding choose
  choose_miss h e = rw (add-one, drop-cons hs i nan h, e)

  pub choose-end : length hs ≤ i → b.bow ≡ choose keeps b (drop i hs)
  unfolding choose
  choose-end h = rw (drop_of_length-le hs h)
