-- 'full pieces of 12 bytes first': every piece of a line but the last has 12 bytes, and an empty line has none. Assumes nothing.
use Rattle.std.specs.Prelude.{◌≡◌, List, [], ◌∷◌, ℕ, zero, suc, ◌+◌, ◌-◌, ◌*◌, ◌≤◌, ◌<◌, length, get_or, drop}
use Rattle.std.proofs.Common.{arith, length-take, length-drop}
use Rattle.encode.specs.Encode.{pieces_by, pieces}

by_more : (n : ℕ) (l : List ℕ) → 0 < length (pieces_by n l) → 0 < length l
unfolding pieces_by
by_more zero l h = absurd (omega arith)
by_more (suc n) [] h = absurd (omega arith)
by_more (suc n) (b ∷ l) h = omega arith

by_full : (n : ℕ) (l : List ℕ) (j : ℕ) → suc j < length (pieces_by n l) → length (get_or (pieces_by n l) j []) ≡ 12
unfolding pieces_by
by_full zero l j h = absurd (omega arith)
by_full (suc n) [] j h = absurd (omega arith)
by_full (suc n) (b ∷ l) zero h =
    let p : 0 < length (drop 12 (b ∷ l)) = by_more n (drop 12 (b ∷ l)) (omega arith) in
    let d : length (drop 12 (b ∷ l)) ≡ length (b ∷ l) - 12 = length-drop 12 (b ∷ l) in
    rw (length-take 12 (b ∷ l)) (omega arith)
by_full (suc n) (b ∷ l) (suc j) h = by_full n (drop 12 (b ∷ l)) j (omega arith)

pub pieces_full : (l : List ℕ) (j : ℕ) → suc j < length (pieces l) → length (get_or (pieces l) j []) ≡ 12
pieces_full l j h = by_full (length l) l j h

by_count : (n : ℕ) (l : List ℕ) → length l ≤ n → (length l ≤ 12 * length (pieces_by n l)) × (12 * length (pieces_by n l) < length l + 12)
unfolding pieces_by
by_count zero [] h = (omega arith, omega arith)
by_count zero (b ∷ l) h = absurd (omega arith)
by_count (suc n) [] h = (omega arith, omega arith)
by_count (suc n) (b ∷ l) h =
    let d : length (drop 12 (b ∷ l)) ≡ length (b ∷ l) - 12 = length-drop 12 (b ∷ l) in
    let r = by_count n (drop 12 (b ∷ l)) (omega arith) in
    (omega arith, omega arith)

-- as many as the bytes take: 12 · pieces is the length or up to 11 more
pub pieces-count : (l : List ℕ) → (length l ≤ 12 * length (pieces l)) × (12 * length (pieces l) < length l + 12)
pieces-count l = by_count (length l) l (omega arith)
