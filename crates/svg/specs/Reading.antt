-- The text of every curve and of every arrowhead is read by the grammar as its commands with the hundredths of its coordinates, and nothing is left over.
-- Assumes nothing.
use Rattle.std.specs.Prelude.{◌≡◌, true, false, leb, length, Float}
use Rattle.std.proofs.Math.Path.{refl}
use Rattle.std.proofs.Common.{ap, ◌∙◌, arith, length-append, leb-true, ne_eqb}
use mathlib.Core.List.{List, [], ◌∷◌, ◌++◌, append_assoc, map, flat_map}
use Rattle.std.proofs.Math.Option.{none, some, bind}
use Prim.Native.Nat.{ℕ, zero, suc, ◌≤◌, ◌<◌}
use Rattle.number.specs.Number.{hundredths, num_text}
use Rattle.number.specs.Rounded.{writable_rounded}
use Rattle.number.specs.Reading.{Begins, num_begins, leading, following}
use Rattle.shape.specs.declared.«V».{«V»}
use Rattle.shape.specs.declared.Curve.{Curve}
use Rattle.shape.specs.declared.Curve.TheVariants.{Line, Quad, Cubic}
use Rattle.svg.specs.Paths.{Command, move_to, line_to, quad_to, cubic_to, close_path, curve_path, head_path, head_of, point_text, points_text, command_text, more_text, path_text, curve_text, head_text}
use Rattle.svg.specs.Grammar.{is_space, skip, Numeral, Segment, segment, SvgReader, or_else, comma, past_comma_wsp, ◌then◌, sequence_by, sequence, sign, some_digits, point_digits, plain_number, signed_number, coordinate, coordinate_pair, coordinate_pair_double, coordinate_pair_triplet, lettered, closepath, moveto, first_of, drawto_command, drawto_commands, svg_path}
use Rattle.svg.specs.Numbers.{numeral_of, Stops, num_read, numeral-worth}
use Rattle.svg.specs.Reads.{coordinates, SameNumbers, SameCommands, ReadsAs, Paths}

-- ---- what a point and a command are read as
abbrev pub numerals_of : «V» → List Numeral
numerals_of p = numeral_of (hundredths p.x) ∷ numeral_of (hundredths p.y) ∷ []

abbrev pub segment_of : Command «V» → Segment
segment_of c = segment c.letter (flat_map numerals_of c.points)

-- ---- white space and commas
no_space : (b : ℕ) → leb 45 b ≡ true → is_space b ≡ false
no_space b h =
    let l : 45 ≤ b = leb-true 45 b h in
    rw (ne_eqb b 9 (λ e. omega arith), ne_eqb b 10 (λ e. omega arith), ne_eqb b 12 (λ e. omega arith), ne_eqb b 13 (λ e. omega arith), ne_eqb b 32 (λ e. omega arith))

skip_none : (l : List ℕ) → Begins l → skip l ≡ l
unfolding skip
skip_none [] h = absurd h
skip_none (b ∷ l) h = rw (no_space b h)

comma_none : (l : List ℕ) → Begins l → comma l ≡ l
unfolding comma
comma_none [] h = absurd h
comma_none (b ∷ l) h = let k : 45 ≤ b = leb-true 45 b h in rw (ne_eqb b 44 (λ e. omega arith))

gap_none : (l : List ℕ) → Begins l → past_comma_wsp (32 ∷ l) ≡ l
unfolding past_comma_wsp skip
gap_none l h = ap (λ (m : List ℕ). skip (comma m)) (skip_none l h) ∙ ap skip (comma_none l h) ∙ skip_none l h

-- ---- p, comma_wsp?, q; and a sequence of one
module _ (p q : SvgReader) where
  then_read : (l m rest : List ℕ) (ns ks : List Numeral) → p l ≡ some (ns, m) → q (past_comma_wsp m) ≡ some (ks, rest) → (p then q) l ≡ some (ns ++ ks, rest)
  unfolding ◌then◌ bind
  then_read l m rest ns ks e f = rw (e, f)

  then_none : (l : List ℕ) → p l ≡ none → (p then q) l ≡ none
  unfolding ◌then◌ bind
  then_none l e = rw e

module _ (p : SvgReader) where
  sequence_none : (f : ℕ) (l : List ℕ) → p l ≡ none → sequence_by p f l ≡ none
  unfolding sequence_by bind
  sequence_none zero l e = refl
  sequence_none (suc f) l e = rw e

  sequence_one : (l rest : List ℕ) (ns : List Numeral) → p l ≡ some (ns, rest) → p (past_comma_wsp rest) ≡ none → sequence p l ≡ some (ns, rest)
  unfolding sequence sequence_by bind or_else
  sequence_one l rest ns e f = rw (e, sequence_none (length l) (past_comma_wsp rest) f)

-- ---- a point with a text behind it, less the blank before it
abbrev pair_text : «V» → List ℕ → List ℕ
pair_text p rest = num_text p.x ++ (32 ∷ (num_text p.y ++ rest))

-- points with a text behind them
abbrev points_in : List «V» → List ℕ → List ℕ
points_in [] rest = rest
points_in (p ∷ ps) rest = 32 ∷ pair_text p (points_in ps rest)

points_in_lem : (ps : List «V») (rest : List ℕ) → points_text ps ++ rest ≡ points_in ps rest
unfolding points_text point_text
points_in_lem [] rest = refl
points_in_lem (p ∷ ps) rest =
    ap (λ (l : List ℕ). 32 ∷ l)
    (append_assoc (num_text p.x ++ (32 ∷ num_text p.y)) (points_text ps) rest
    ∙ append_assoc (num_text p.x) (32 ∷ num_text p.y) (points_text ps ++ rest)
    ∙ ap (λ (l : List ℕ). pair_text p l) (points_in_lem ps rest))

pair_begins : (p : «V») (rest : List ℕ) → Begins (pair_text p rest)
pair_begins p rest = num_begins p.x (32 ∷ (num_text p.y ++ rest))

pair_read : (p : «V») (rest : List ℕ) → Stops rest → coordinate_pair (pair_text p rest) ≡ some (numerals_of p, rest)
pair_read p rest s =
    then_read coordinate coordinate (pair_text p rest) (32 ∷ (num_text p.y ++ rest)) rest (numeral_of (hundredths p.x) ∷ []) (numeral_of (hundredths p.y) ∷ [])
    (num_read p.x (32 ∷ (num_text p.y ++ rest)) (refl, refl, refl))
    (ap coordinate (gap_none (num_text p.y ++ rest) (num_begins p.y rest)) ∙ num_read p.y rest s)

-- a pair, and what reads on from the next
pair_then : (q : SvgReader) (p r : «V») (l rest : List ℕ) (ks : List Numeral) → q (pair_text r l) ≡ some (ks, rest) → (coordinate_pair then q) (pair_text p (32 ∷ pair_text r l)) ≡ some (numerals_of p ++ ks, rest)
pair_then q p r l rest ks e =
    then_read coordinate_pair q (pair_text p (32 ∷ pair_text r l)) (32 ∷ pair_text r l) rest (numerals_of p) ks
    (pair_read p (32 ∷ pair_text r l) (refl, refl, refl))
    (ap q (gap_none (pair_text r l) (pair_begins r l)) ∙ e)

double_read : (p r : «V») (rest : List ℕ) → Stops rest → coordinate_pair_double (pair_text p (32 ∷ pair_text r rest)) ≡ some (numerals_of p ++ numerals_of r, rest)
double_read p r rest s = pair_then coordinate_pair p r rest rest (numerals_of r) (pair_read r rest s)

triplet_read : (p q r : «V») (rest : List ℕ) → Stops rest → coordinate_pair_triplet (pair_text p (32 ∷ pair_text q (32 ∷ pair_text r rest))) ≡ some (numerals_of p ++ (numerals_of q ++ numerals_of r), rest)
triplet_read p q r rest s = pair_then coordinate_pair_double p q (32 ∷ pair_text r rest) rest (numerals_of q ++ numerals_of r) (double_read q r rest s)

-- ---- commands

-- a text that ends a number and with which no number begins
abbrev Over : List ℕ → Type 0
Over rest = Stops rest × (coordinate (past_comma_wsp rest) ≡ none)

-- the arguments of a letter: one group of pairs
group_read : (p : SvgReader) (a : «V») (l rest : List ℕ) (ns : List Numeral) → p (pair_text a l) ≡ some (ns, rest) → p (past_comma_wsp rest) ≡ none → sequence p (skip (32 ∷ pair_text a l)) ≡ some (ns, rest)
unfolding skip
group_read p a l rest ns e f = ap (sequence p) (skip_none (pair_text a l) (pair_begins a l)) ∙ sequence_one p (pair_text a l) rest ns e f

module _ (l rest : List ℕ) (ns : List Numeral) where
  move_read : sequence coordinate_pair (skip l) ≡ some (ns, rest) → moveto (77 ∷ l) ≡ some (segment 77 ns, rest)
  unfolding lettered bind
  move_read e = rw e

  line_read : sequence coordinate_pair (skip l) ≡ some (ns, rest) → drawto_command (76 ∷ l) ≡ some (segment 76 ns, rest)
  unfolding drawto_command first_of lettered closepath or_else bind
  line_read e = rw e

  quad_read : sequence coordinate_pair_double (skip l) ≡ some (ns, rest) → drawto_command (81 ∷ l) ≡ some (segment 81 ns, rest)
  unfolding drawto_command first_of lettered closepath or_else bind
  quad_read e = rw e

  cubic_read : sequence coordinate_pair_triplet (skip l) ≡ some (ns, rest) → drawto_command (67 ∷ l) ≡ some (segment 67 ns, rest)
  unfolding drawto_command first_of lettered closepath or_else bind
  cubic_read e = rw e

close_read : (rest : List ℕ) → drawto_command (90 ∷ rest) ≡ some (segment 90 [], rest)
unfolding drawto_command first_of lettered closepath or_else bind
close_read rest = refl

-- what is proved of each command that may follow: it reads, with whatever ends it left; its letter begins no number and is no white space
record Good (c : Command «V») : Type 0 where
  reads : (rest : List ℕ) → Over rest → drawto_command (command_text c ++ rest) ≡ some (segment_of c, rest)
  starts : (l : List ℕ) → coordinate (past_comma_wsp (32 ∷ c.letter ∷ l)) ≡ none
  letter : is_space c.letter ≡ false

abbrev AllGood : List (Command «V») → Type 0
AllGood [] = Unit {0}
AllGood (c ∷ cs) = Good c × AllGood cs

first_read : (p : «V») (rest : List ℕ) → Over rest → moveto (command_text (move_to p) ++ rest) ≡ some (segment_of (move_to p), rest)
unfolding flat_map
first_read p rest o =
    ap (λ (l : List ℕ). moveto (77 ∷ l)) (points_in_lem (p ∷ []) rest)
    ∙ move_read (32 ∷ pair_text p rest) rest (numerals_of p) (group_read coordinate_pair p rest rest (numerals_of p) (pair_read p rest o.0) (then_none coordinate coordinate (past_comma_wsp rest) o.1))

line_good : (p : «V») → Good (line_to p)
unfolding flat_map past_comma_wsp comma skip coordinate sign signed_number plain_number point_digits some_digits leading following or_else bind
line_good p = record {
  reads = λ rest o.
      ap (λ (l : List ℕ). drawto_command (76 ∷ l)) (points_in_lem (p ∷ []) rest)
      ∙ line_read (32 ∷ pair_text p rest) rest (numerals_of p) (group_read coordinate_pair p rest rest (numerals_of p) (pair_read p rest o.0) (then_none coordinate coordinate (past_comma_wsp rest) o.1));
  starts = λ l. refl;
  letter = refl;
}

quad_good : (c p : «V») → Good (quad_to c p)
unfolding flat_map past_comma_wsp comma skip coordinate sign signed_number plain_number point_digits some_digits leading following or_else bind
quad_good c p = record {
  reads = λ rest o.
      ap (λ (l : List ℕ). drawto_command (81 ∷ l)) (points_in_lem (c ∷ p ∷ []) rest)
      ∙ quad_read (32 ∷ pair_text c (32 ∷ pair_text p rest)) rest (numerals_of c ++ numerals_of p)
      (group_read coordinate_pair_double c (32 ∷ pair_text p rest) rest (numerals_of c ++ numerals_of p) (double_read c p rest o.0)
      (then_none coordinate_pair coordinate_pair (past_comma_wsp rest) (then_none coordinate coordinate (past_comma_wsp rest) o.1)));
  starts = λ l. refl;
  letter = refl;
}

cubic_good : (c d p : «V») → Good (cubic_to c d p)
unfolding flat_map past_comma_wsp comma skip coordinate sign signed_number plain_number point_digits some_digits leading following or_else bind
cubic_good c d p = record {
  reads = λ rest o.
      ap (λ (l : List ℕ). drawto_command (67 ∷ l)) (points_in_lem (c ∷ d ∷ p ∷ []) rest)
      ∙ cubic_read (32 ∷ pair_text c (32 ∷ pair_text d (32 ∷ pair_text p rest))) rest (numerals_of c ++ (numerals_of d ++ numerals_of p))
      (group_read coordinate_pair_triplet c (32 ∷ pair_text d (32 ∷ pair_text p rest)) rest (numerals_of c ++ (numerals_of d ++ numerals_of p)) (triplet_read c d p rest o.0)
      (then_none coordinate_pair coordinate_pair_double (past_comma_wsp rest) (then_none coordinate coordinate (past_comma_wsp rest) o.1)));
  starts = λ l. refl;
  letter = refl;
}

close_good : Good close_path
unfolding flat_map points_text past_comma_wsp comma skip coordinate sign signed_number plain_number point_digits some_digits leading following or_else bind
close_good = record { reads = λ rest o. close_read rest; starts = λ l. refl; letter = refl }

-- ---- whole paths
more-over : (cs : List (Command «V»)) → AllGood cs → Over (more_text cs)
unfolding more_text past_comma_wsp comma skip coordinate sign signed_number plain_number point_digits some_digits leading following or_else bind
more-over [] h = (tt, refl)
more-over (c ∷ cs) h = ((refl, refl, refl), h.0.starts (points_text c.points ++ more_text cs))

commands-read : (f b : ℕ) (l rest m : List ℕ) (c : Segment) (cs : List Segment) → skip l ≡ b ∷ rest → drawto_command (b ∷ rest) ≡ some (c, m) → drawto_commands f m ≡ some cs → drawto_commands (suc f) l ≡ some (c ∷ cs)
unfolding drawto_commands bind
commands-read f b l rest m c cs e g h = rw (e, ne_eqb (suc (length rest)) 0 (λ (z : suc (length rest) ≡ 0). omega arith), g, h)

letter_first : (c : Command «V») (l : List ℕ) → is_space c.letter ≡ false → skip (32 ∷ command_text c ++ l) ≡ c.letter ∷ points_text c.points ++ l
unfolding skip
letter_first c l h = rw h

more-read : (f : ℕ) (cs : List (Command «V»)) → AllGood cs → length cs < f → drawto_commands f (more_text cs) ≡ some (map segment_of cs)
unfolding drawto_commands more_text skip
more-read zero cs h l = absurd (omega arith)
more-read (suc f) [] h l = refl
more-read (suc f) (c ∷ cs) h l =
    unfold more_text in (commands-read f c.letter (32 ∷ command_text c ++ more_text cs) (points_text c.points ++ more_text cs) (more_text cs) (segment_of c) (map segment_of cs) (letter_first c (more_text cs) h.0.letter) (h.0.reads (more_text cs) (more-over cs h.1)) (more-read f cs h.1 (omega arith)))

more-length : (cs : List (Command «V»)) → length cs ≤ length (more_text cs)
unfolding more_text
more-length [] = omega arith
more-length (c ∷ cs) = rw (length-append (points_text c.points) (more_text cs)) (omega (arith, more-length cs))

begun : (l m : List ℕ) (c : Segment) (cs : List Segment) → moveto (77 ∷ l) ≡ some (c, m) → drawto_commands (suc (length m)) m ≡ some cs → svg_path (77 ∷ l) ≡ some (c ∷ cs)
unfolding svg_path skip bind
begun l m c cs e f = rw (ne_eqb (suc (length l)) 0 (λ (z : suc (length l) ≡ 0). omega arith), e, f)

path-read : (p : «V») (cs : List (Command «V»)) → AllGood cs → svg_path (path_text (move_to p ∷ cs)) ≡ some (map segment_of (move_to p ∷ cs))
unfolding path_text
path-read p cs h =
    begun (points_text (p ∷ []) ++ more_text cs) (more_text cs) (segment_of (move_to p)) (map segment_of cs)
    (first_read p (more_text cs) (more-over cs h)) (more-read (suc (length (more_text cs))) cs h (omega (arith, more-length cs)))

-- The text of any curve is read as its commands with its coordinates.
pub curve_read : (k : Curve) → svg_path (curve_text k) ≡ some (map segment_of (curve_path k))
unfolding curve_text
curve_read (Line a b) = path-read a (line_to b ∷ []) (line_good b, tt)
curve_read (Quad a c b) = path-read a (quad_to c b ∷ []) (quad_good c b, tt)
curve_read (Cubic a c d b) = path-read a (cubic_to c d b ∷ []) (cubic_good c d b, tt)

-- The text of any arrowhead is read as a triangle: its three corners, closed.
pub head_read : (tip : «V») (angle : Float) → svg_path (head_text tip angle) ≡ some (map segment_of (head_path (head_of tip angle)))
unfolding head_text
head_read tip angle =
    let h = head_of tip angle in
    path-read h.tip (line_to h.left ∷ line_to h.right ∷ close_path ∷ []) (line_good h.left, (line_good h.right, (close_good, tt)))

-- ---- the claim

same_numbers : (ps : List «V») → SameNumbers (flat_map numerals_of ps) (coordinates ps)
unfolding flat_map
same_numbers [] = tt
same_numbers (p ∷ ps) = (numeral-worth (hundredths p.x), (numeral-worth (hundredths p.y), same_numbers ps))

same-commands : (cs : List (Command «V»)) → SameCommands (map segment_of cs) cs
same-commands [] = tt
same-commands (c ∷ cs) = (record { letter = refl; numbers = same_numbers c.points }, same-commands cs)

pub curves_read : (k : Curve) → ReadsAs (curve_text k) (curve_path k)
curves_read k = record { segments = map segment_of (curve_path k); read = curve_read k; same = same-commands (curve_path k) }

pub heads_read : (tip : «V») (angle : Float) → ReadsAs (head_text tip angle) (head_path (head_of tip angle))
heads_read tip angle =
    let cs = head_path (head_of tip angle) in
    record { segments = map segment_of cs; read = head_read tip angle; same = same-commands cs }

pub svg_paths : Paths
svg_paths = record { curves = curves_read; heads = heads_read; rounded = writable_rounded }
