-- What is read of each arrow record, stored over a slice of as many places. Assumes nothing.
use Rattle.std.proofs.Common.{◌≡◌, sym, ap, ◌∙◌, List, map, ℕ, length}
use Rattle.std.proofs.lemmas.List.{length-map}
use Rattle.laws.specs.Filled.{put_whole}
use Rattle.laws.specs.Joined.{map-map}
use Rattle.laws.specs.Put.{put}
use Rattle.sheet.specs.Sheet.{Arrow, arrow_of, arrow_chain, arrows_of}

pub each_arrow : {A : Type 0} (f : Arrow → A) (s : List ℕ) (l : List A)
    → length l ≡ length (arrows_of s) → put l 0 (map (λ k. f (arrow_of s k)) (arrow_chain s)) ≡ map f (arrows_of s)
unfolding arrows_of
each_arrow f s l h =
    ap (put l 0) (sym (map-map f (arrow_of s) (arrow_chain s)))
    ∙ put_whole l (map f (arrows_of s)) (h ∙ sym (length-map (arrows_of s) f))
