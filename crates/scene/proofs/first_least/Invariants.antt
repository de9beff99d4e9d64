-- `scene::first_least` meets its contract.
use Rattle.std.proofs.Common.{◌≡◌, ℕ, ◌-◌, ◌<◌}
use Rattle.laws.specs.Best.{search_from}
use Rattle.scene.proofs.first_least.Given as goal

abbrev pub invariant-loop-j : goal.invariant-loop-j
invariant-loop-j g l =
    ((cut : ℕ → ℕ → ℕ) → ((limit j c : ℕ) → limit < 18446744073709551616 → j < l.places → g.F.Fn.post l.cost (limit, (j, tt)) c → c ≡ cut limit j)
    → search_from cut (l.places - l.j) l.j l.least l.place ≡ search_from cut l.places 0 18446744073709551615 0) × (l.least < 18446744073709551616)
