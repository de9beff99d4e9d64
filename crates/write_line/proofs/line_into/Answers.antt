use Rattle.std.proofs.Common.{◌+◌, ◌≤◌, ap, ◌∙◌, length, arith}
use mathlib.Core.List.{flat_map}
use Rattle.laws.specs.Put.{put}
use Rattle.sheet.specs.Sheet.{chain, piece, line_of}
use Rattle.reader.specs.Reading.{chain_rest}
use Rattle.write_line.specs.Puts.{stores_start, stores_end, stores_room, stores_step}
use Rattle.write_line.specs.Lines.{joined-start, joined_end, joined_step}
use Rattle.write_line.proofs.line_into.Goals as goal

pub loop-i-init : goal.loop-i-init
loop-i-init c = record {
  stores = stores_start (joined-start c.args.s.now _ c.args.k (ap chain_rest c.into_iter-i-iterator.ensures.into_iter_gives ∙ c.new-i-items.ensures.list ∙ ap (chain c.args.s.now) c.first_text_at.ensures));
  room = c.requires;
}

pub copy_to-requires : goal.copy_to-requires
copy_to-requires c = let s = c.args.s.now in
    let more = flat_map (piece s) (chain_rest c.next.new.self) in
    let r : c.loop-i.n + length (piece s c.in-Some.i) ≤ 0 + length (line_of s c.args.k) =
    stores_room c.loop-i.invariant.stores (piece s c.in-Some.i) more (joined_step s _ _ c.in-Some.i c.in-Some.ensures.steps) in
    omega (arith, ap length c.piece_at-piece.ensures.0, c.loop-i.invariant.room, c.loop-i.invariant.stores.same)

pub loop-i-preserved : goal.loop-i-preserved
loop-i-preserved c = let s = c.args.s.now in
    let more = flat_map (piece s) (chain_rest c.next.new.self) in
    record {
      stores = stores_step c.loop-i.invariant.stores (piece s c.in-Some.i) more (joined_step s _ _ c.in-Some.i c.in-Some.ensures.steps)
          (c.copy_to.ensures ∙ ap (put c.loop-i.line c.loop-i.n) c.piece_at-piece.ensures.0) (ap (λ l. c.loop-i.n + length l) c.piece_at-piece.ensures.0);
      room = c.loop-i.invariant.room;
    }

pub returns : goal.returns
returns c =
    let e = stores_end c.loop-i.invariant.stores (joined_end c.args.s.now _ c.in-None.ensures.steps.0) in
    (e.0, omega (arith, e.1))
