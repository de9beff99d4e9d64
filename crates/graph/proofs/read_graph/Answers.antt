use Rattle.std.proofs.Common.{rules, sym, ap, ◌∙◌, List, map, ℕ}
use Rattle.std.proofs.lemmas.List.{length-map}
use Rattle.laws.specs.Filled.{put_whole}
use Rattle.laws.specs.Put.{put}
use Rattle.sheet.specs.Sheet.{State, arrow_of, chain, states_of, meaning, flags_of}
use Rattle.routing.specs.Sheets.{ends_of, size_of}
use Rattle.graph.proofs.Laws.{each_arrow}
use Rattle.graph.proofs.read_graph.Goals as goal

pub returns : goal.returns
returns c =
    let a = c.args in
    let s : List ℕ = a.s.now in (
      c.flags_into.ensures ∙ put_whole a.flags.now (flags_of (meaning s)) (c.requires.a_state_each ∙ sym (length-map (states_of s) (λ (t : State). t.flags))),
      c.each_into.ensures (λ k. ends_of (arrow_of s k)) (λ k r h. search rules)
          ∙ ap (λ l. put a.arrows.now 0 (map (λ k. ends_of (arrow_of s k)) l)) (c.new.ensures.list ∙ ap (chain s) c.word_at-first.ensures)
          ∙ each_arrow ends_of s a.arrows.now c.requires.an_arrow_each.0,
      c.each_into-2.ensures (λ k. size_of (arrow_of s k)) (λ k r h. search rules)
          ∙ ap (λ l. put a.sizes.now 0 (map (λ k. size_of (arrow_of s k)) l)) (c.new-2.ensures.list ∙ ap (chain s) c.word_at-first.ensures)
          ∙ each_arrow size_of s a.sizes.now c.requires.an_arrow_each.1,
    )
