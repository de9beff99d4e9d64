-- The walk, one record and one chain at a time.
use mathlib.Core.Path.{◌≡◌, refl, sym, ap, ◌∙◌}
use mathlib.Core.Bool.{Bool, true, false, cond, true≢false}
use mathlib.Core.List.{List, [], ◌∷◌, ◌++◌, flat_map}
use Prim.Native.Nat.{ℕ}
use lib.ListN.{set}
use Rattle.sheet.specs.Sheet.{Met}
use Rattle.sheet_check.specs.Walk.{Walked, walked, fresh, walk}

-- ---- two lists in a row
pub walk_then : (s : List ℕ) (xs ys : List Met) (m m' : List Bool) → walked true m' ≡ walk s xs m → walk s ys m' ≡ walk s (xs ++ ys) m
unfolding walk
walk_then s [] ys m m' e = ap (λ (a : Walked). walk s ys a.marks) e
walk_then s (x ∷ xs) ys m m' e = go (fresh s x m) refl (λ q. walk_then s xs ys (set m x.index true) m' q)
  where
    go : (b : Bool) → fresh s x m ≡ b → (walked true m' ≡ walk s xs (set m x.index true) → walk s ys m' ≡ walk s (xs ++ ys) (set m x.index true))
        → walk s ys m' ≡ cond (fresh s x m) (walk s (xs ++ ys) (set m x.index true)) (walked false m)
    go true f r = rw f (r (rw f at e))
    go false f r = absurd (true≢false (ap (λ (a : Walked). a.ok) (rw f at e)))

pub walk_stop : (s : List ℕ) (xs ys : List Met) (m m' : List Bool) → walked false m' ≡ walk s xs m → walked false m' ≡ walk s (xs ++ ys) m
unfolding walk
walk_stop s [] ys m m' e = absurd (true≢false (sym (ap (λ (a : Walked). a.ok) e)))
walk_stop s (x ∷ xs) ys m m' e = go (fresh s x m) refl (λ q. walk_stop s xs ys (set m x.index true) m' q)
  where
    go : (b : Bool) → fresh s x m ≡ b → (walked false m' ≡ walk s xs (set m x.index true) → walked false m' ≡ walk s (xs ++ ys) (set m x.index true))
        → walked false m' ≡ cond (fresh s x m) (walk s (xs ++ ys) (set m x.index true)) (walked false m)
    go true f r = rw f (r (rw f at e))
    go false f r = rw f (rw f at e)

-- ---- a chain: f is what meeting a record brings; `rest` are the records to come, and a is what the walk comes to
module _ (s : List ℕ) (f : ℕ → List Met) (m : List Bool) {rest : List ℕ} {a : Walked} (x : walk s (flat_map f rest) m ≡ a) where
  pub walks_end : rest ≡ [] → walked true m ≡ a
  unfolding flat_map walk
  walks_end e = rw e at x

  module _ {i : ℕ} {more : List ℕ} {m' : List Bool} {b : Bool} (e : rest ≡ i ∷ more) (q : walked b m' ≡ walk s (f i) m) where
    turned : walk s (f i ++ flat_map f more) m ≡ a
    unfolding flat_map
    turned = rw e at x

    pub walks_step : b ≡ true → walk s (flat_map f more) m' ≡ a
    walks_step t = walk_then s (f i) (flat_map f more) m m' (rw t at q) ∙ turned

    pub walks_stop : b ≡ false → walked false m' ≡ a
    walks_stop t = walk_stop s (f i) (flat_map f more) m m' (rw t at q) ∙ turned

-- ---- records that are met, and then others
module _ (s : List ℕ) (xs ys : List Met) (m m' : List Bool) (b : Bool) (q : walked b m' ≡ walk s xs m) where
  pub then_bad : b ≡ false → walked b m' ≡ walk s (xs ++ ys) m
  then_bad t = ap (λ (b : Bool). walked b m') t ∙ walk_stop s xs ys m m' (rw t at q)

  pub then_on : (a : Walked) → b ≡ true → a ≡ walk s ys m' → a ≡ walk s (xs ++ ys) m
  then_on a t r = r ∙ walk_then s xs ys m m' (rw t at q)
