-- `free::Chord::of` meets its contract.
use Rattle.std.proofs.Common.{ap₂}
use Rattle.laws.specs.Lists.{get_d_any}
use Rattle.float.specs.Constants.{f0}
use Rattle.shape.specs.Plane.{vec}
use Rattle.free.specs.Chords.{chord, chord_of}
use Rattle.free.proofs.Chord.of.Goals as goal

pub returns : goal.returns
unfolding chord
returns c = let a = c.args in
    rw (c.unit_or-along.ensures, c.sub.ensures, c.new.ensures, c.dist-len.ensures)
    (ap₂ (chord_of a.from a.to) (get_d_any a.nodes.now a.from _ (vec f0 f0) c.requires.from_in_bounds) (get_d_any a.nodes.now a.to _ (vec f0 f0) c.requires.to_in_bounds))
