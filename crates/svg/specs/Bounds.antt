-- The bounds that Grammar puts on the steps of a sequence and of a path are never met: each is what its production says, with no bound. Assumes nothing.
use Rattle.std.proofs.Math.Path.{◌≡◌, refl, ap}
use Rattle.std.specs.Prelude.{Bool, true, false, cond, ◌||◌, eqb, length}
use mathlib.Core.List.{List, [], ◌∷◌, ◌++◌}
use Rattle.std.proofs.Math.Option.{Option, none, some, bind}
use Prim.Native.Nat.{ℕ, zero, suc, ◌+◌, ◌≤◌, ◌<◌}
use Prim.Native.Char.{Char}
use Rattle.std.proofs.Common.{arith}
use Rattle.std.proofs.lemmas.Bool.{eqb-false}
use Rattle.laws.specs.Cases.{by_bool}
use Rattle.number.specs.Reading.{is_digit, leading, following}
use Rattle.svg.specs.Grammar.{is_space, skip, is_char, Numeral, Segment, SvgReader, CommandReader, or_else, comma, past_comma_wsp, has_comma_wsp, comma_wsp, ◌then◌, ◌apart◌, sequence_by, sequence, sign, some_digits, point_digits, PlainNumber, plain_number, Power, exponent_of, raised, signed_number, svg_number, coordinate, flag, coordinate_pair, coordinate_pair_double, coordinate_pair_triplet, elliptical_arc_argument, lettered, closepath, first_of, moveto, lineto, horizontal_lineto, vertical_lineto, curveto, smooth_curveto, quadratic_bezier_curveto, smooth_quadratic_bezier_curveto, elliptical_arc, drawto_command, drawto_commands, svg_path}

-- ---- what was read, taken apart
module _ {A B : Type 0} where
  record Bound (o : Option A) (f : A → Option B) (y : B) : Type 0 where
    first : A
    is : o ≡ some first
    gives : f first ≡ some y

  unbind : (o : Option A) (f : A → Option B) (y : B) → bind o f ≡ some y → Bound o f y
  unfolding bind
  unbind none f y e = let z : ◌≡◌ {A = ℕ} 0 1 = cc in absurd (omega arith)
  unbind (some a) f y e = record { first = a; is = refl; gives = e }

module _ {A C : Type 0} where
  unelse : (a b : Option A) (y : A) → or_else a b ≡ some y → (a ≡ some y → C) → (b ≡ some y → C) → C
  unfolding or_else
  unelse none b y e f g = g e
  unelse (some a) b y e f g = f e

  uncond : (t : Bool) (a b : Option A) (y : A) → cond t a b ≡ some y → (t ≡ true → a ≡ some y → C) → (t ≡ false → b ≡ some y → C) → C
  uncond true a b y e f g = f refl e
  uncond false a b y e f g = g refl e

unsome : {A : Type 0} {x y : A} → some x ≡ some y → x ≡ y
unsome e = cc

nothing_read : {A : Type 0} {C : Type 0} (y : A) → ◌≡◌ {A = Option A} none (some y) → C
nothing_read y e = let z : ◌≡◌ {A = ℕ} 0 1 = cc in absurd (omega arith)

-- ---- it takes a byte at least
abbrev pub Takes : {A : Type 0} → (List ℕ → Option (A × List ℕ)) → Type 0
Takes {A} p = (l : List ℕ) (r : A × List ℕ) → p l ≡ some r → length r.1 < length l

skip-length : (l : List ℕ) → length (skip l) ≤ length l
unfolding skip
skip-length [] = omega arith
skip-length (b ∷ l) = by_bool (is_space b) (λ (e : is_space b ≡ true). rw e (omega (arith, skip-length l))) (λ (e : is_space b ≡ false). rw e (omega arith))

comma-length : (l : List ℕ) → length (comma l) ≤ length l
unfolding comma
comma-length [] = omega arith
comma-length (b ∷ l) = by_bool (is_char "," b) (λ (e : (is_char "," b) ≡ true). rw e (omega arith)) (λ (e : (is_char "," b) ≡ false). rw e (omega arith))

gap_length : (l : List ℕ) → length (past_comma_wsp l) ≤ length l
unfolding past_comma_wsp
gap_length l = omega (arith, skip-length (comma (skip l)), comma-length (skip l), skip-length l)

sign-length : (l : List ℕ) → length (sign l).1 ≤ length l
unfolding sign
sign-length [] = omega arith
sign-length (b ∷ l) =
    by_bool (is_char "-" b) (λ (e : (is_char "-" b) ≡ true). rw e (omega arith))
    (λ (e : (is_char "-" b) ≡ false). by_bool (is_char "+" b) (λ (g : (is_char "+" b) ≡ true). rw (e, g) (omega arith)) (λ (g : (is_char "+" b) ≡ false). rw (e, g) (omega arith)))

parts : (l : List ℕ) → length (leading l) + length (following l) ≡ length l
unfolding leading following
parts [] = refl
parts (b ∷ l) = by_bool (is_digit b) (λ (e : is_digit b ≡ true). rw e (omega (arith, parts l))) (λ (e : is_digit b ≡ false). rw e (omega arith))

digits-take : Takes some_digits
unfolding some_digits
digits-take l r h =
    uncond (eqb (length (leading l)) 0) none (some (leading l, following l)) r h
    (λ t e. nothing_read r e)
    (λ t e. let d = eqb-false (length (leading l)) 0 t in rw (← (unsome e)) (omega (arith, parts l)))

point-take : Takes point_digits
unfolding point_digits
point-take [] r h = nothing_read r h
point-take (b ∷ l) r h = uncond (is_char "." b) (some_digits l) none r h (λ t e. omega (arith, digits-take l r e)) (λ t e. nothing_read r e)

plain-take : (l : List ℕ) (n : PlainNumber) → plain_number l ≡ some n → length n.rest < length l
unfolding plain_number
plain-take l n h =
    unelse _ _ n h
    (λ e. let b = unbind _ _ n e in let f = unsome b.gives in rw (← f) (omega (arith, point-take (following l) b.first b.is, parts l)))
    (λ e. let b = unbind _ _ n e in let f = unsome b.gives in rw (← f) (digits-take l b.first b.is))

power_left : (l : List ℕ) (p : Power) → exponent_of l ≡ some p → length p.rest ≤ length l
unfolding exponent_of
power_left [] p h = nothing_read p h
power_left (b ∷ l) p h =
    uncond (is_char "e" b || is_char "E" b) _ none p h
    (λ t e. let d = unbind _ _ p e in let f = unsome d.gives in rw (← f) (omega (arith, digits-take (sign l).1 d.first d.is, sign-length l)))
    (λ t e. nothing_read p e)

raised-left : (minus : Bool) (n : PlainNumber) (o : Option Power) → exponent_of n.rest ≡ o → length (raised minus n o).1 ≤ length n.rest
raised-left minus n none h = omega arith
raised-left minus n (some p) h = power_left n.rest p h

signed-take : (minus : Bool) → Takes (signed_number minus)
unfolding signed_number
signed-take minus l r h =
    let b = unbind _ _ r h in
    let f = unsome b.gives in
    rw (← f) (omega (arith, plain-take l b.first b.is, raised-left minus b.first (exponent_of b.first.rest) refl))

number-take : Takes svg_number
unfolding svg_number
number-take = signed-take false

coordinate-take : Takes coordinate
unfolding coordinate
coordinate-take l r h = omega (arith, signed-take (sign l).0 (sign l).1 r h, sign-length l)

flag-take : Takes flag
unfolding flag
flag-take [] r h = nothing_read r h
flag-take (b ∷ l) r h =
    uncond (is_char "0" b) _ _ r h
    (λ t e. let f = unsome e in rw (← f) (omega arith))
    (λ t e. uncond (is_char "1" b) _ none r e (λ u g. let f = unsome g in rw (← f) (omega arith)) (λ u g. nothing_read r g))

module _ (p q : SvgReader) (t : Takes p) (u : Takes q) where
  then_take : Takes (p then q)
  unfolding ◌then◌
  then_take l r h =
      let a = unbind _ _ r h in
      let b = unbind _ _ r a.gives in
      let f = unsome b.gives in
      rw (← f) (omega (arith, t l a.first a.is, u (past_comma_wsp a.first.1) b.first b.is, gap_length a.first.1))

  must_length : (l m : List ℕ) → comma_wsp l ≡ some m → length m ≤ length l
  unfolding comma_wsp
  must_length l m h = uncond (has_comma_wsp l) _ none m h (λ v e. let f = unsome e in rw (← f) (gap_length l)) (λ v e. nothing_read m e)

  apart-take : Takes (p apart q)
  unfolding ◌apart◌
  apart-take l r h =
      let a = unbind _ _ r h in
      let m = unbind _ _ r a.gives in
      let b = unbind _ _ r m.gives in
      let f = unsome b.gives in
      rw (← f) (omega (arith, t l a.first a.is, must_length a.first.1 m.first m.is, u m.first b.first b.is))

-- the productions that stand in sequences
pair_take : Takes coordinate_pair
pair_take = then_take coordinate coordinate coordinate-take coordinate-take

double_take : Takes coordinate_pair_double
double_take = then_take coordinate_pair coordinate_pair pair_take pair_take

triplet_take : Takes coordinate_pair_triplet
triplet_take = then_take coordinate_pair coordinate_pair_double pair_take double_take

arc-take : Takes elliptical_arc_argument
arc-take =
    let flags : SvgReader = flag then flag then coordinate_pair in
    let f : Takes flags = then_take flag (flag then coordinate_pair) flag-take (then_take flag coordinate_pair flag-take pair_take) in
    let turned : SvgReader = coordinate apart flags in
    let g : Takes turned = apart-take coordinate flags coordinate-take f in
    then_take svg_number (svg_number then turned) number-take (then_take svg_number turned number-take g)

-- ---- sequences

-- the first with what follows it, or alone where nothing does
abbrev pub longer : Option (List Numeral × List ℕ) → List Numeral × List ℕ → Option (List Numeral × List ℕ)
longer o a = or_else (bind o (λ b. some (a.0 ++ b.0, b.1))) (some a)

-- sequence ::= p | (p comma_wsp? sequence)
abbrev pub IsSequence : SvgReader → Type 0
IsSequence p = (l : List ℕ) → sequence p l ≡ bind (p l) (λ a. longer (sequence p (past_comma_wsp a.1)) a)

module _ (p : SvgReader) (t : Takes p) where
  same_by : (f g : ℕ) (l : List ℕ) → length l < f → length l < g → sequence_by p f l ≡ sequence_by p g l
  unfolding sequence_by bind
  same_by zero g l h k = absurd (omega arith)
  same_by (suc f) zero l h k = absurd (omega arith)
  same_by (suc f) (suc g) l h k = go (p l) (λ a e. same_by f g (past_comma_wsp a.1) (omega (arith, t l a e, gap_length a.1)) (omega (arith, t l a e, gap_length a.1)))
    where
      go : (o : Option (List Numeral × List ℕ)) → ((a : List Numeral × List ℕ) → o ≡ some a → sequence_by p f (past_comma_wsp a.1) ≡ sequence_by p g (past_comma_wsp a.1))
          → bind o (λ a. longer (sequence_by p f (past_comma_wsp a.1)) a) ≡ bind o (λ a. longer (sequence_by p g (past_comma_wsp a.1)) a)
      go none ih = refl
      go (some a) ih = ap (λ (s : Option (List Numeral × List ℕ)). longer s a) (ih a refl)

  sequence_is : IsSequence p
  unfolding sequence sequence_by bind
  sequence_is l = go (p l) (λ a e. same_by (length l) (suc (length (past_comma_wsp a.1))) (past_comma_wsp a.1) (omega (arith, t l a e, gap_length a.1)) (omega arith))
    where
      go : (o : Option (List Numeral × List ℕ)) → ((a : List Numeral × List ℕ) → o ≡ some a → sequence_by p (length l) (past_comma_wsp a.1) ≡ sequence_by p (suc (length (past_comma_wsp a.1))) (past_comma_wsp a.1))
          → bind o (λ a. longer (sequence_by p (length l) (past_comma_wsp a.1)) a) ≡ bind o (λ a. longer (sequence_by p (suc (length (past_comma_wsp a.1))) (past_comma_wsp a.1)) a)
      go none ih = refl
      go (some a) ih = ap (λ (s : Option (List Numeral × List ℕ)). longer s a) (ih a refl)

  by_take : (f : ℕ) → Takes (sequence_by p f)
  unfolding sequence_by
  by_take zero l r h = nothing_read r h
  by_take (suc f) l r h =
      let a = unbind _ _ r h in
      unelse _ _ r a.gives
      (λ e. let b = unbind _ _ r e in let g = unsome b.gives in rw (← g) (omega (arith, t l a.first a.is, by_take f (past_comma_wsp a.first.1) b.first b.is, gap_length a.first.1)))
      (λ e. let g = unsome e in rw (← g) (t l a.first a.is))

  sequence-take : Takes (sequence p)
  unfolding sequence
  sequence-take l r h = by_take (suc (length l)) l r h

-- ---- commands
after-take : (upper lower : Char) (p : SvgReader) → Takes p → Takes (lettered upper lower (sequence p))
unfolding lettered
after-take upper lower p t [] r h = nothing_read r h
after-take upper lower p t (b ∷ l) r h =
    uncond (is_char upper b || is_char lower b) _ none r h
    (λ v e. let a = unbind _ _ r e in let f = unsome a.gives in rw (← f) (omega (arith, sequence-take p t (skip l) a.first a.is, skip-length l)))
    (λ v e. nothing_read r e)

close_take : Takes closepath
unfolding closepath
close_take [] r h = nothing_read r h
close_take (b ∷ l) r h = uncond (is_char "Z" b || is_char "z" b) _ none r h (λ v e. let f = unsome e in rw (← f) (omega arith)) (λ v e. nothing_read r e)

abbrev AllTake : List CommandReader → Type 0
AllTake [] = Unit {0}
AllTake (p ∷ ps) = Takes p × AllTake ps

first-take : (ps : List CommandReader) → AllTake ps → Takes (first_of ps)
unfolding first_of
first-take [] t l r h = nothing_read r h
first-take (p ∷ ps) t l r h = unelse (p l) (first_of ps l) r h (λ e. t.0 l r e) (λ e. first-take ps t.1 l r e)

drawto_take : Takes drawto_command
unfolding drawto_command
drawto_take =
    first-take
    (moveto ∷ closepath ∷ lineto ∷ horizontal_lineto ∷ vertical_lineto
    ∷ curveto ∷ smooth_curveto ∷ quadratic_bezier_curveto ∷ smooth_quadratic_bezier_curveto ∷ elliptical_arc ∷ []) (
      after-take "M" "m" coordinate_pair pair_take,
      (
        close_take,
        (
          after-take "L" "l" coordinate_pair pair_take,
          (
            after-take "H" "h" coordinate coordinate-take,
            (
              after-take "V" "v" coordinate coordinate-take,
              (
                after-take "C" "c" coordinate_pair_triplet triplet_take,
                (
                  after-take "S" "s" coordinate_pair_double double_take,
                  (
                    after-take "Q" "q" coordinate_pair_double double_take,
                    (
                      after-take "T" "t" coordinate_pair pair_take,
                      (
                        after-take "A" "a" elliptical_arc_argument arc-take,
                        tt,
                      ),
                    ),
                  ),
                ),
              ),
            ),
          ),
        ),
      ),
    )

-- ---- paths

-- a command before others
abbrev pub with_first : Option (List Segment) → Segment → Option (List Segment)
with_first o c = bind o (λ cs. some (c ∷ cs))

-- a command, and the rest of the text by another reader
abbrev pub one_more : (List ℕ → Option (List Segment)) → List ℕ → Option (List Segment)
one_more rest l = bind (drawto_command (skip l)) (λ c. with_first (rest c.1) c.0)

same_turn : (f g : List ℕ → Option (List Segment)) (l : List ℕ) → ((m : List ℕ) → length m < length l → f m ≡ g m) → one_more f l ≡ one_more g l
unfolding bind
same_turn f g l h = go (drawto_command (skip l)) (λ c e. h c.1 (omega (arith, drawto_take (skip l) c e, skip-length l)))
  where
    go : (o : Option (Segment × List ℕ)) → ((c : Segment × List ℕ) → o ≡ some c → f c.1 ≡ g c.1) → bind o (λ c. with_first (f c.1) c.0) ≡ bind o (λ c. with_first (g c.1) c.0)
    go none k = refl
    go (some c) k = ap (λ (s : Option (List Segment)). with_first s c.0) (k c refl)

same-commands : (f g : ℕ) (l : List ℕ) → length l < f → length l < g → drawto_commands f l ≡ drawto_commands g l
unfolding drawto_commands
same-commands zero g l h k = absurd (omega arith)
same-commands (suc f) zero l h k = absurd (omega arith)
same-commands (suc f) (suc g) l h k =
    ap (λ (s : Option (List Segment)). cond (eqb (length (skip l)) 0) (some []) s)
    (same_turn (drawto_commands f) (drawto_commands g) l (λ m i. same-commands f g m (omega arith) (omega arith)))

-- the commands up to the end of a text
abbrev pub commands : List ℕ → Option (List Segment)
commands l = drawto_commands (suc (length l)) l

commands_are : (l : List ℕ) → commands l ≡ cond (eqb (length (skip l)) 0) (some []) (one_more commands l)
unfolding drawto_commands
commands_are l =
    ap (λ (s : Option (List Segment)). cond (eqb (length (skip l)) 0) (some []) s)
    (same_turn (drawto_commands (length l)) commands l (λ m i. same-commands (length l) (suc (length m)) m i (omega arith)))

path_is : (l : List ℕ) → svg_path l ≡ cond (eqb (length (skip l)) 0) (some []) (bind (moveto (skip l)) (λ c. with_first (commands c.1) c.0))
unfolding svg_path
path_is l = refl

-- ---- the productions that name themselves, with no bound
pub record Productions : Type 0 where
  -- coordinate_pair_sequence, coordinate_sequence, and the sequences of curveto, of smooth and quadratic curveto, and of elliptical_arc
  pub pairs : IsSequence coordinate_pair
  pub coordinates : IsSequence coordinate
  pub triplets : IsSequence coordinate_pair_triplet
  pub doubles : IsSequence coordinate_pair_double
  pub arcs : IsSequence elliptical_arc_argument
  -- commands ::= wsp* | (wsp* drawto_command commands)
  pub all : (l : List ℕ) → commands l ≡ cond (eqb (length (skip l)) 0) (some []) (one_more commands l)
  -- svg_path ::= wsp* | (wsp* moveto commands)
  pub path : (l : List ℕ) → svg_path l ≡ cond (eqb (length (skip l)) 0) (some []) (bind (moveto (skip l)) (λ c. with_first (commands c.1) c.0))

pub productions : Productions
productions = record {
  pairs = sequence_is coordinate_pair pair_take;
  coordinates = sequence_is coordinate coordinate-take;
  triplets = sequence_is coordinate_pair_triplet triplet_take;
  doubles = sequence_is coordinate_pair_double double_take;
  arcs = sequence_is elliptical_arc_argument arc-take;
  all = commands_are;
  path = path_is;
}
