-- What a chain has left: nothing, or a record and those behind it. Assumes nothing.
use Rattle.std.proofs.Common.{◌≡◌, refl, sym, ap, ◌∙◌, List, [], ◌∷◌, ℕ, zero, suc, ◌-◌, not, eqb, ltb, length, ne_eqb, lt-ltb, eq-eqb, arith}
use Rattle.sheet.specs.Sheet.{chain_by, next}
use Rattle.sheet.specs.Chains.{chain_end, chain_cut, chain_step}
use Rattle.reader.specs.declared.Chain.{Chain}
use Rattle.reader.specs.Reading.{chain_rest}

pub left_none : (s : List ℕ) (n i : ℕ) → i ≡ 0 → not (eqb i 0) ≡ ltb 0 (length (chain_by s n i))
left_none s n i e = rw (chain_end s n i e, eq-eqb i 0 e)

pub left_some : (s : List ℕ) (n i : ℕ) → (i ≡ 0 → ⊥) → not (eqb n 0) ≡ ltb 0 (length (chain_by s n i))
unfolding chain_by
left_some s zero i e = refl
left_some s (suc n) i e =
    ap not (ne_eqb (suc n) 0 (λ z. omega arith))
    ∙ sym (lt-ltb 0 (length (i ∷ chain_by s (suc n - 1) (next s i))) (omega arith))
    ∙ ap (λ l. ltb 0 (length l)) (sym (chain_step s (suc n) i (λ z. omega arith) e))

pub rest_end : (c : Chain) → c.at ≡ 0 → chain_rest c ≡ []
unfolding chain_rest
rest_end c e = chain_end c.sheet.now c.left c.at e

pub rest_cut : (c : Chain) → c.left ≡ 0 → chain_rest c ≡ []
unfolding chain_rest
rest_cut c e = chain_cut c.sheet.now c.left c.at e

-- d stands at the record behind that of c
pub rest_step : (c d : Chain) → d.sheet.now ≡ c.sheet.now → d.at ≡ next c.sheet.now c.at → d.left ≡ c.left - 1 → (c.left ≡ 0 → ⊥) → (c.at ≡ 0 → ⊥)
    → chain_rest c ≡ c.at ∷ chain_rest d
unfolding chain_rest
rest_step c d s a l h e = rw (s, a, l) (chain_step c.sheet.now c.left c.at h e)
