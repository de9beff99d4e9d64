use Rattle.std.proofs.Common.{refl, sym, ◌∙◌, map, arith}
use Rattle.reader.specs.Reading.{chain_rest}
use Rattle.std.proofs.lemmas.List.{set-get_or}
use Rattle.meaning.proofs.Laws.{put_next, put_no_more, put_past}
use Rattle.meaning.proofs.each_into.Goals as goal

pub loop-place-init : goal.loop-place-init
loop-place-init g c = λ f h. refl

pub returns-in_default : goal.returns-in_default
returns-in_default g c = λ f h. set-get_or c.loop-place.out c.loop-place.place-index _ ∙ sym (put_no_more f c.loop-place.out c.loop-place.place-index _ c.in_default.ensures.steps.0) ∙ c.loop-place.invariant f h

pub loop-place-preserved : goal.loop-place-preserved
loop-place-preserved g c = λ f h. put_next f _ _ c.in-Some.k _ _ _ c.in-Some.ensures.steps (h _ _ c.value.ensures) ∙ c.loop-place.invariant f h

pub returns : goal.returns
returns g c = λ f h. sym (put_past c.loop-place.out c.loop-place.place-index (map f (chain_rest c.loop-place.chain)) (omega arith)) ∙ c.loop-place.invariant f h
