use Rattle.std.proofs.Common.{◌+◌, ◌*◌, ℕ, Bool, refl, ap, ◌∙◌, arith}
use Rattle.std.specs.Option.{unwrap_or}
use Rattle.laws.specs.Put.{put}
use Rattle.sheet.specs.Sheet.{chain, state_of, states_of}
use Rattle.sheet.specs.Records.{state_bytes}
use Rattle.encode.specs.Kinds.{never, any_never, state_form}
use Rattle.write_line.specs.Writing.{index_if}
use Rattle.write_line.specs.Lines.{index_is}
use Rattle.write_sheet.specs.Chained.{follows_start, follows_end, follows_fit, follows_step}
use Rattle.write_sheet.proofs.write_states.Goals as goal

pub loop-i-init : goal.loop-i-init
unfolding states_of
loop-i-init c = let a = c.args in
    follows_start (state_form never) never (state_of a.s.now) a.out.now a.k (c.new-states.ensures.list ∙ ap (chain a.s.now) c.word_at.ensures) (any_never (states_of a.s.now))

pub overflow_add-at : goal.overflow_add-at
overflow_add-at c =
    let f = follows_fit (state_form never) never (state_of c.args.s.now) c.loop-i.invariant c.in-Some.ensures.steps c.requires in
    omega (arith, f.0)

pub put_record-requires : goal.put_record-requires
put_record-requires c =
    let f = follows_fit (state_form never) never (state_of c.args.s.now) c.loop-i.invariant c.in-Some.ensures.steps c.requires in
    omega (arith, c.from.ensures, f.1)

pub overflow_add-at-in-Some : goal.overflow_add-at-in-Some
overflow_add-at-in-Some c =
    let f = follows_fit (state_form never) never (state_of c.args.s.now) c.loop-i.invariant c.in-Some.ensures.steps c.requires in
    omega (arith, f.0)

pub loop-i-preserved : goal.loop-i-preserved
loop-i-preserved c = let s = c.args.s.now in
    let l = c.loop-i in
    let n = c.then_some-next in
    let p = index_is c.goes_on.result (l.at + 1) (unwrap_or n.result 0) n.result n.ensures refl ∙ ap (λ (b : Bool). index_if b (l.at + 1)) c.goes_on.ensures in
    let q = rw (c.from.ensures, c.from-in-Some.ensures) at c.put_record.ensures in
    follows_step (state_form never) never (state_of s) l.invariant c.in-Some.ensures.steps refl p (q ∙ ap (λ (b : ℕ). put l.out (16 * l.at) (state_bytes b (unwrap_or n.result 0))) c.one_at.ensures)

pub returns : goal.returns
returns c = (follows_end (state_form never) never (state_of c.args.s.now) c.loop-i.invariant c.in_default.ensures.steps.0).0
