-- `layered::put_ys` meets its contract.
use Rattle.std.proofs.Common.{refl, sym, ap, ◌∙◌, arith, get_or}
use Rattle.std.specs.Prelude.{Float}
use Rattle.std.specs.Float.{nan}
use Rattle.laws.specs.Filled.{fill_more, fill_end}
use Rattle.laws.specs.Zip.{zip_by, zip_length, zip_at}
use Rattle.float.specs.Ops.{◌⊗◌}
use Rattle.shape.specs.declared.«V».{«V»}
use Rattle.shape.specs.Plane.{vec}
use Rattle.layered.proofs.Laws.{rest_read, rest-set}
use Rattle.layered.proofs.put_ys.Goals as goal

pub loop-v-init : goal.loop-v-init
loop-v-init c = (refl, refl)

pub loop-v-preserved : goal.loop-v-preserved
loop-v-preserved c = let l = c.loop-v in
    let p = c.args.centres.now in
    let y = c.args.slots.now in
    let f : «V» → Float → «V» = λ a s. vec a.x (s ⊗ c.args.row) in
    let none : «V» = vec nan nan in
    let q : «V» = f (get_or l.centres l.v none) (get_or y l.v nan) in (
      fill_more none l.centres (zip_by f p y) l.v q (omega arith) (omega (arith, zip_length f p y c.requires)) l.invariant.0
          (ap (λ (a : «V»). f a (get_or y l.v nan)) (rest_read l.centres p l.v none l.invariant.1)
          ∙ sym (zip_at f p y l.v none nan none c.requires (omega arith))),
      rest-set l.centres p l.v q l.invariant.1,
    )

pub returns : goal.returns
returns c = let l = c.loop-v in
    let f : «V» → Float → «V» = λ a s. vec a.x (s ⊗ c.args.row) in
    fill_end l.centres (zip_by f c.args.centres.now c.args.slots.now) l.v (omega arith)
    (omega (arith, zip_length f c.args.centres.now c.args.slots.now c.requires)) l.invariant.0
