-- `free::Chord::blocked` meets its contract. The intervals stored, and those of the states to come, are all.
use Rattle.std.proofs.Common.{◌≡◌, ◌∙◌, ◌++◌, List, ap, sym, true, false, arith, append-nil, length-append}
use Rattle.laws.specs.Lists.{get_d_any}
use Rattle.float.specs.Constants.{f0}
use Rattle.shape.specs.Plane.{vec}
use Rattle.shape.specs.Centres.{centre}
use Rattle.free.specs.declared.Span.{Span}
use Rattle.free.specs.Chords.{is_end}
use Rattle.free.specs.Blocked.{off_chord, span_of}
use Rattle.free.specs.Steps.{intervals-end}
use Rattle.free.proofs.Laws.{blocked_skip, blocked_put}
use Rattle.free.proofs.Chord.blocked.Goals.{then-not-is_end+then-not-is_off, else-not-is_end, else-not-is_end-via-then-not-is_end+else-not-is_off, else-not-is_end-via-else-not-is_end}
use Rattle.free.proofs.Chord.blocked.Goals as goal

pub loop-k-preserved : goal.loop-k-preserved
loop-k-preserved g c = let a = c.args in
    let l = c.loop-k in
    let h = c.loop-k-test.true in
    let p = get_d_any a.nodes.now l.k _ (vec f0 f0) h in
    let skip = blocked_skip a.self a.nodes.now l.k l.spans _ h l.invariant.1 in
    elim c.if-not-is_end.branch [
      | then-not-is_end+then-not-is_off w ↦
          let e : is_end a.self l.k ≡ false = sym c.is_end.ensures ∙ w.if-not-is_end.true in
          let f : off_chord a.self (centre a.nodes.now l.k) ≡ false = sym (w.is_off.ensures ∙ ap (off_chord a.self) p) ∙ w.if-not-is_off.true in
          rw (w.spans-is, w.push.ensures) (
            rw length-append (omega (arith, l.invariant.0)),
            blocked_put a.self a.nodes.now l.k l.spans _ h l.invariant.1 w.span_of.result e f (w.span_of.ensures ∙ ap (span_of a.self) p),
          )
      | else-not-is_end w ↦ rw w.spans-is (
        omega (arith, l.invariant.0),
        skip
            (elim w.else-not-is_end.branch [
              | else-not-is_end-via-then-not-is_end+else-not-is_off v ↦
                  let f : off_chord a.self (centre a.nodes.now l.k) ≡ true = sym (v.is_off.ensures ∙ ap (off_chord a.self) p) ∙ v.if-not-is_off.false in
                  rw (sym c.is_end.ensures ∙ v.if-not-is_end.true, f)
              | else-not-is_end-via-else-not-is_end v ↦ rw (sym c.is_end.ensures ∙ v.if-not-is_end.false)
            ]),
      )
    ]

pub returns : goal.returns
returns g c = let l = c.loop-k in
    sym (append-nil l.spans)
    ∙ ap (λ (q : List Span). l.spans ++ q) (sym (intervals-end c.args.self c.args.nodes.now l.k c.loop-k-test.false))
    ∙ l.invariant.1
