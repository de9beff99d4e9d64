-- `outputs::write_layout` meets its contract.
use Rattle.std.proofs.lemmas.List.{length-map}
use Rattle.outputs.proofs.Laws.{place_xs, place_ys, place_done}
use Rattle.outputs.proofs.write_layout.Goals as goal

pub returns-then-xs-n : goal.returns-then-xs-n
returns-then-xs-n c = place_xs _ _ _ _ _ _ _ (length-map _ _) (length-map _ _) c.if-xs-n.true

pub returns-then-ys-n : goal.returns-then-ys-n
returns-then-ys-n c = place_ys _ _ _ _ _ _ _ (length-map _ _) (length-map _ _) c.if-ys-n.true

pub returns : goal.returns
returns c =
    place_done _ _ _ _ _ _ _ (length-map _ _) (length-map _ _) _ _ c.if-xs-n.false c.if-ys-n.false
    c.write_centres.ensures.0 c.write_centres.ensures.1
