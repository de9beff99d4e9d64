-- A slice that was lent and is back, copied over. Assumes nothing.
use Rattle.std.proofs.Common.{◌≡◌, sym, ◌∙◌, List, ◌++◌, ℕ, ◌+◌, ◌≤◌, length, take, drop, drop-drop, append_assoc}
use Rattle.laws.specs.Put.{put, put-eq}

pub put_part_is : (a n : ℕ) (xs vs : List ℕ) → n ≡ length vs → a + length vs ≤ length xs → take a xs ++ (vs ++ drop n (drop a xs)) ≡ put xs a vs
put_part_is a n xs vs e h = rw (e, drop-drop (length vs) a xs) (sym (put-eq xs a vs h ∙ append_assoc (take a xs) vs (drop (a + length vs) xs)))
