-- The start arrows state by state. Assumes nothing.
use Rattle.std.specs.Prelude.{◌≡◌, refl, Bool, true, false, cond, List, [], ◌∷◌, ◌++◌, ℕ, suc, ◌+◌, ◌≤◌, ◌<◌, length, get_or, drop}
use Rattle.std.proofs.Common.{add-one, arith, drop_of_length-le, drop-cons}
use Rattle.float.specs.Constants.{f0}
use Rattle.shape.specs.declared.«V».{«V»}
use Rattle.shape.specs.Plane.{vec}
use Rattle.trace.specs.Traces.{Trace, nobody, trace_of}
use Rattle.shape.specs.Centres.{centre}
use Rattle.sheet.specs.Meaning.{is_start}
use Rattle.routing.specs.Routing.{start_curve, start_traces}

start_first : (b : Bool) (t : Trace) (rest : List Trace) → cond b (t ∷ rest) rest ≡ cond b (t ∷ []) [] ++ rest
start_first true t rest = refl
start_first false t rest = refl

-- those of the states from k on
pub starts-step : (flags : List ℕ) (cs : List «V») (k : ℕ) → length cs ≡ length flags → k < length flags
    → start_traces (drop k flags) (drop k cs) ≡ start_traces (get_or flags k 0 ∷ []) (centre cs k ∷ []) ++ start_traces (drop (k + 1) flags) (drop (k + 1) cs)
starts-step flags cs k n h =
    let j : k < length cs = omega arith in
    rw (add-one, drop-cons flags k 0, drop-cons cs k (vec f0 f0))
    (start_first (is_start (get_or flags k 0)) (trace_of nobody (start_curve (centre cs k))) (start_traces (drop (suc k) flags) (drop (suc k) cs)))

pub starts-past : (flags : List ℕ) (cs : List «V») (k : ℕ) → length flags ≤ k → start_traces (drop k flags) (drop k cs) ≡ []
starts-past flags cs k h = rw (drop_of_length-le flags h)
