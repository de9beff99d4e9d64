-- `curves::Frame::lay_arrows` meets its contract.
use Rattle.std.proofs.Common.{refl, ap, ◌∙◌, arith, ◌++◌, length, [], ◌∷◌, length-append}
use Rattle.curves.specs.Lay.{frame_in, laid_by}
use Rattle.laws.specs.Lists.{get_d_any}
use Rattle.curves.proofs.Laws.{map_more, map_end}
use Rattle.curves.proofs.frame.Frame.lay_arrows.Goals as goal

pub loop-e-init : goal.loop-e-init
loop-e-init g c = (omega arith, refl)

pub push-requires : goal.push-requires
push-requires g c = let l = c.loop-e in omega (arith, l.invariant.0, c.requires.room, c.loop-e-test.true)

pub loop-e-preserved : goal.loop-e-preserved
loop-e-preserved g c = let a = c.args in
    let l = c.loop-e in (
      omega (arith, l.invariant.0, ap length c.push.ensures, length-append l.laid (c.laid.result ∷ [])),
      map_more (laid_by (frame_in a.self.now)) a.self.now.arrows.now l.e-index _ l.laid c.push.new.self _ c.loop-e-test.true (get_d_any a.self.now.arrows.now l.e-index _ _ c.loop-e-test.true)
          (c.push.ensures ∙ ap (λ x. l.laid ++ (x ∷ [])) c.laid.ensures) l.invariant.1,
    )

pub returns : goal.returns
returns g c = let a = c.args in
    let l = c.loop-e in
    map_end (laid_by (frame_in a.self.now)) a.self.now.arrows.now l.e-index l.laid _ c.loop-e-test.false l.invariant.1
