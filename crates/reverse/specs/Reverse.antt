-- Document 02, T-03: "For any two different states of the sheet the search says yes exactly when some arrow leads from the second to the first."
-- With it document 01's sentence on `bend`, over two states and the arrows of a sheet. Here is the claim; `reverse_arrow` of proofs/Claim proves it.
use Rattle.std.specs.Prelude.{◌≡◌, Bool, true, ◌&&◌, List, ◌++◌, map, ℕ, suc, ◌<◌, eqb, length, get_or, take, drop, Float}
use Rattle.std.specs.Float.{nan}
use Rattle.laws.specs.Any.{Somewhere}
use Rattle.laws.specs.Filter.{filter_by}
use Rattle.laws.specs.Loops.{any_up}
use Rattle.float.specs.Constants.{f0, f2, f3}
use Rattle.sheet.specs.Sheet.{Graph}
use Rattle.sheet.specs.Meaning.{arrow_at, is_kept}
use Rattle.shape.specs.declared.«V».{«V»}
use Rattle.free.specs.declared.Span.{Span}
use Rattle.free.specs.Chords.{chord}
use Rattle.free.specs.Blocked.{blocked}
use Rattle.free.specs.Free.{span_from, inside}
use Rattle.bend.specs.Bend.{bend}
use Rattle.bend.specs.Exactly.{is_zero}
use Rattle.bend.specs.Between.{with_bow}
use Rattle.routing.specs.Routing.{Frame, Numbered, is_paired, joined, numbered_by, numbered_at}
use Rattle.routing.specs.Sheets.{ends_by, frame_of}
use Rattle.beyond.specs.Beyond.{pair_beyond, is_beyond}
use Rattle.demand3.specs.Demand.{Call, Answered, record_at, record_number_of, graph, frame, Between}

-- ---- states and arrows of a sheet

-- arrow k leads from a to b
pub record ArrowLeads (g : Graph) (a b k : ℕ) : Type 0 where
  pub inside : k < length g.arrows
  pub source : (arrow_at g k).source ≡ a
  pub target : (arrow_at g k).target ≡ b

-- "some arrow leads from" a to b
pub record SomeArrow (g : Graph) (a b : ℕ) : Type 0 where
  pub arrow : ℕ
  pub leads : ArrowLeads g a b arrow

-- "An arrow with an end not below the number of states is .. left out of the records": the sheet without these
abbrev pub without_left_out : Graph → Graph
without_left_out g = record { states = g.states; arrows = filter_by (is_kept g) g.arrows }

-- the sheet without arrow k
abbrev pub without_arrow : ℕ → Graph → Graph
without_arrow k g = record { states = g.states; arrows = take k g.arrows ++ drop (suc k) g.arrows }

-- ---- the search

-- what routing asks for an arrow from a to b, whatever its number k and the centres
abbrev pub searched : Graph → List Float → List Float → ℕ → ℕ → ℕ → Bool
searched g xs ys k a b = is_paired (frame_of g xs ys) (numbered_by k (ends_by a b))

-- the centres of the states, "missing or not finite count as 0"
abbrev pub centres_of : Graph → List Float → List Float → List «V»
centres_of g xs ys = (frame_of g xs ys).centres

-- arrow k of the sheet, as routing takes it
abbrev pub arrow_in : Graph → List Float → List Float → ℕ → Numbered
arrow_in g xs ys k = numbered_at (frame_of g xs ys) k

pub record SearchExact (g : Graph) (xs ys : List Float) (k a b : ℕ) : Type 0 where
  -- where arrow k leads from a to b, two different states, it is the search made for it, for its curve (`drawn`, below) and for 9
  pub asked : ArrowLeads g a b k → is_paired (frame_of g xs ys) (arrow_in g xs ys k) ≡ searched g xs ys k a b
  pub nine : ArrowLeads g a b k
      → is_beyond (frame_of g xs ys) (arrow_in g xs ys k) ≡ searched g xs ys k a b && pair_beyond (chord (centres_of g xs ys) a b) (centres_of g xs ys)
  -- yes exactly when some arrow leads from b to a
  pub found : searched g xs ys k a b ≡ true → SomeArrow g b a
  pub sure : SomeArrow g b a → searched g xs ys k a b ≡ true

-- "Every answer and every byte stays as it was": the search as it was defined, arrow by arrow over two lists, the sources and the targets
abbrev pub paired_before : Frame → Numbered → Bool
paired_before f a =
    let sources = map (λ e. e.source) f.arrows in
    let targets = map (λ e. e.target) f.arrows in
    any_up (λ k. eqb (get_or sources k 0) a.ends.target && eqb (get_or targets k 0) a.ends.source) 0 (length sources)

-- Arrow i, from a to another state b, never finds itself: it does not lead from b to a, and without it the search says the same.
pub record NeverItself (g : Graph) (xs ys : List Float) (k a b i : ℕ) : Type 0 where
  pub other : ArrowLeads g b a i → ⊥
  pub same : searched (without_arrow i g) xs ys k a b ≡ searched g xs ys k a b

-- A left-out arrow never makes it say yes for states a and b: none leads from a state to a state, and without them the search says the same.
pub record LeftOutUnseen (g : Graph) (xs ys : List Float) (k a b : ℕ) : Type 0 where
  pub none : (j : ℕ) → ArrowLeads g b a j → is_kept g (arrow_at g j) ≡ true
  pub same : searched (without_left_out g) xs ys k a b ≡ searched g xs ys k a b

-- ---- "`bend` gives 0.0 exactly when the reverse arrow is absent and no blocked interval has lo < 0 < hi."

-- lo < 0 < hi
abbrev pub around_zero : Span → Bool
around_zero s = inside s f0

-- past the last interval
abbrev pub no_span : Span
no_span = span_from nan nan

-- when an arrow from a to b is straight, with the states at these centres
pub record StraightWhen (g : Graph) (cs : List «V») (a b : ℕ) : Type 0 where
  pub absent : SomeArrow g b a → ⊥
  pub clear : Somewhere around_zero (blocked (chord cs a b) cs) no_span → ⊥

-- the bow that routing gives it
abbrev pub bow_of : Graph → List Float → List Float → ℕ → ℕ → ℕ → Float
bow_of g xs ys k a b = bend (chord (centres_of g xs ys) a b) (centres_of g xs ys) (searched g xs ys k a b)

pub record BowExact (g : Graph) (xs ys : List Float) (k a b : ℕ) : Type 0 where
  pub sure : StraightWhen g (centres_of g xs ys) a b → bow_of g xs ys k a b ≡ f0
  pub only : is_zero (bow_of g xs ys k a b) ≡ true → StraightWhen g (centres_of g xs ys) a b
  -- where arrow k leads from a to b, two different states, its curve is the one with this bow
  pub drawn : ArrowLeads g a b k → joined (frame_of g xs ys) (arrow_in g xs ys k) ≡ with_bow (chord (centres_of g xs ys) a b) (bow_of g xs ys k a b)

-- ---- what `route` leaves

-- the number of points of arrow e's curve, in its record
abbrev pub points_at : Call → ℕ → Float
points_at c e = get_or (record_at c (record_number_of c e)) 1 nan

-- when arrow e is straight, at the centres of the call
abbrev pub StraightAt : Call → ℕ → Type 0
StraightAt c e = let a = arrow_at (graph c) e in StraightWhen (graph c) (frame c).centres a.source a.target

-- two points exactly when `StraightAt` holds, else three
pub record CurveExact (c : Call) (e : ℕ) : Type 0 where
  pub line : StraightAt c e → points_at c e ≡ f2
  pub only : points_at c e ≡ f2 → StraightAt c e
  pub arc : (StraightAt c e → ⊥) → points_at c e ≡ f3

-- ---- the claim: of every graph, and so of the meaning of every accepted sheet, at all centres; of every call of `route` that is answered

pub record ReverseArrow : Type 0 where
  -- of all a and b, and so of any two different states
  pub search : (g : Graph) (xs ys : List Float) (k a b : ℕ) → SearchExact g xs ys k a b
  pub stays : (f : Frame) (a : Numbered) → is_paired f a ≡ paired_before f a
  pub itself : (g : Graph) (xs ys : List Float) (k a b i : ℕ) → (a ≡ b → ⊥) → ArrowLeads g a b i → NeverItself g xs ys k a b i
  pub left_out : (g : Graph) (xs ys : List Float) (k a b : ℕ) → a < length g.states → b < length g.states → LeftOutUnseen g xs ys k a b
  pub bow : (g : Graph) (xs ys : List Float) (k a b : ℕ) → BowExact g xs ys k a b
  -- of every arrow from a state to another
  pub curve : (c : Call) → Answered c → (e : ℕ) → Between (graph c) e → CurveExact c e
