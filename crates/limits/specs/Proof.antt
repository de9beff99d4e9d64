-- Document 02's claim on limits holds. Assumes nothing.
use Rattle.std.specs.Prelude.{◌≡◌, Bool, false, ◌&&◌, ◌||◌, ℕ, ◌≤◌, eqb, length, get_or}
use Rattle.std.proofs.Math.Path.{refl, ap, ap₂}
use Rattle.std.proofs.Common.{sym, ◌∙◌, arith}
use Rattle.std.proofs.Math.Bool.{true, not}
use mathlib.Core.List.{List, [], ◌∷◌, ◌++◌}
use Rattle.std.proofs.Math.Dec.{ltb}
use Rattle.std.specs.Float.Ieee.{Float}
use borrow.Author.Tests.{lt-ltb, le-ltb, ltb-true, ltb-false, ne_eqb, eqb-false}
use Rattle.laws.specs.Any.{any_of, Somewhere, some_at, at_some}
use Rattle.laws.specs.Bools.{not-holds}
use Rattle.laws.specs.Cases.{by_bool, by_lt}
use Rattle.laws.specs.Refusals.{Refusal, refusal, decide, numbers_in, is_in, Clear, without, clear_none}
use Rattle.sheet.specs.Sheet.{meaning}
use Rattle.sheet.specs.Refusals.{wrong_length, wrong_version, wrong_bytes, wrong_chains, over_limits, ill_formed, ill_line, refusals, AtMost}
use Rattle.sheet.specs.Accepted.{Within, within-limits, not-over, not_ill}
use Rattle.sheet.specs.Over.{SoundSheet, over_is, is_over, over_lower, clear_higher}
use Rattle.sheet.specs.Order.{accepted_exactly}
use Rattle.sheet.specs.declared.Limits.{Limits}
use Rattle.label.specs.Label.{cut, total_length}
use Rattle.routing.specs.Sheets.{frame_of}
use Rattle.drawing_text.specs.Lines.{paths_text, paths_writable}
use Rattle.beyond.specs.Beyond.{beyond}
use Rattle.draw.specs.Drawn.{far_centre, centre_refusals}
use Rattle.layout.specs.Layout.{plan_of, last_kind}
use Rattle.plan.specs.Measured.{layout_beyond}
use Rattle.plan.specs.Planned.{measured_refusals}
use Rattle.calls.specs.Calls.{Outcome, values, number, main_screen, service_panel, smaller, capped_limits, short, onto, check, label_size, drawn_of, numbers_of, route, records_after, text_after, clutter, layout_for, layout, xs_after, ys_after, listing, listing_writable, list, list_after, fresh_sheet, write_sheet, write_sheet_after}
use Rattle.calls.specs.Saved.{room_refusals}
use Rattle.calls.specs.Laws.{capped_most, capped-below, capped-largest, accepted_shown}
use Rattle.calls.specs.Decided.{number_same, number-apart}
use Rattle.calls.specs.Refused.{check-answered}
use Rattle.limits.specs.Under.{NotFive, SameBy, ByLimits, none_lent, FiveOver, BlockOver, block_lines, block_bytes, block_sum, OnPanel, UnderLimits}
use Rattle.limits.specs.Apart.{holding, given, alike_by, narrower, cause_of_lem}

-- ---- the limits that count

smaller-main : (a b : ℕ) → b ≤ a → smaller a b ≡ b
smaller-main a b h = by_lt b a (λ l. rw (lt-ltb b a l)) (λ l. rw (le-ltb b a l) (omega arith))

capped_above : (m : Limits) → AtMost main_screen m → capped_limits m ≡ main_screen
unfolding capped_limits
capped_above m h = rw (smaller-main m.states 64 h.states, smaller-main m.arrows 256 h.arrows, smaller-main m.lines 8 h.lines)

capped-main : capped_limits main_screen ≡ main_screen
unfolding capped_limits
capped-main = refl

capped_panel : capped_limits service_panel ≡ service_panel
unfolding capped_limits
capped_panel = refl

at_most_trans : (k l m : Limits) → AtMost k l → AtMost l m → AtMost k m
at_most_trans k l m a b = record { states = omega (arith, a.states, b.states); arrows = omega (arith, a.arrows, b.arrows); lines = omega (arith, a.lines, b.lines) }

capped_higher : (l m : Limits) → AtMost l m → AtMost (capped_limits l) (capped_limits m)
capped_higher l m h = capped-largest (capped_limits l) m (at_most_trans (capped_limits l) l m (capped-below l) h) (capped_most l)

-- ---- a call whose refusals have the limits in the cause of one 5 alone

module _ {A B : Type 0} (before after : List Refusal) (cause : Limits → Bool) (fewer : (l m : Limits) → AtMost l m → cause m ≡ true → cause l ≡ true) (v : A) (left : Limits → B) where
  abbrev listed : Limits → List Refusal
  listed m = holding before after 5 (cause (capped_limits m))

  -- decided alike under the two, whatever is made of it
  abbrev Decides : Limits → Limits → Type 1
  Decides l m = (C : Type 0) (refuse : ℕ → C) (x : C) → decide (listed l) refuse x ≡ decide (listed m) refuse x

  abbrev answers : Limits → Outcome A
  answers m = decide (listed m) number (values v)

  module _ (leaves : (l m : Limits) → Decides l m → left l ≡ left m) where
    same_by : (l m : Limits) → Decides l m → SameBy answers left l m
    same_by l m e = (e (Outcome A) number (values v), leaves l m e)

    counted : (l m : Limits) → capped_limits l ≡ capped_limits m → SameBy answers left l m
    counted l m e = same_by l m (λ C refuse x. ap (λ (k : Limits). decide (holding before after 5 (cause k)) refuse x) e)

    apart : (l m : Limits) → NotFive (answers l) → NotFive (answers m) → SameBy answers left l m
    apart l m p q = same_by l m (alike_by before after 5 v (cause (capped_limits l)) (cause (capped_limits m)) p q)

    by_limits : ByLimits answers left
    by_limits = record {
      alike = apart;
      higher = λ l m h p. apart l m p (narrower before after 5 v (cause (capped_limits l)) (cause (capped_limits m)) (fewer (capped_limits l) (capped_limits m) h) p);
      counting = counted;
      above = λ m h. counted m main_screen (capped_above m h ∙ sym capped-main);
    }

-- ---- the cause of 5 of a sheet, and of a label block

over_fewer : (s : List ℕ) (l m : Limits) → AtMost l m → over_limits m (meaning s) ≡ true → over_limits l (meaning s) ≡ true
over_fewer s l m a t = is_over l (meaning s) (over_lower l m (meaning s) a (over_is m (meaning s) t))

lines_fewer : (lengths : List ℕ) (l m : Limits) → AtMost l m → ltb m.lines (length lengths) ≡ true → ltb l.lines (length lengths) ≡ true
lines_fewer lengths l m a t = lt-ltb l.lines (length lengths) (omega (arith, ltb-true m.lines (length lengths) t, a.lines))

-- ---- the refusals of a sheet before 5 and after it

abbrev four : List ℕ → List Refusal
four s = refusal 1 (wrong_length s) ∷ refusal 2 (wrong_version s) ∷ refusal 4 (wrong_bytes s) ∷ refusal 3 (wrong_chains s) ∷ []

abbrev six : List ℕ → List Refusal → List Refusal
six s rs = refusal 6 (ill_formed (meaning s)) ∷ rs

abbrev kinds : ℕ → List Refusal → List Refusal
kinds kind rs = refusal 11 (ltb last_kind kind) ∷ rs

abbrev over : List ℕ → Limits → Bool
over s m = over_limits m (meaning s)

sound_clear : (s : List ℕ) → SoundSheet s → Clear (four s)
sound_clear s o = without 1 o.right (without 2 o.first (without 4 o.plain (without 3 o.chained clear_none)))

clear_sound : (s : List ℕ) → Clear (four s) → SoundSheet s
clear_sound s c = record { right = c.none 1; first = c.none 2; plain = c.none 4; chained = c.none 3 }

five_over : {A : Type 0} (s : List ℕ) (passed : Type 0) (before after : List Refusal) (v : A) → is_in 5 (numbers_in before) ≡ false → is_in 5 (numbers_in after) ≡ false
    → (passed → SoundSheet s → Clear before) → (Clear before → passed × SoundSheet s) → FiveOver s passed (λ m. decide (holding before after 5 (over s (capped_limits m))) number (values v))
five_over s passed before after v p q f g = record {
  five = λ b o m h. given before after 5 v (over s (capped_limits m)) (f b o) (is_over (capped_limits m) (meaning s) h);
  only = λ m e. let c = cause_of_lem before after 5 v p q (over s (capped_limits m)) e in let d = g c.0 in (d.0, d.1, over_is (capped_limits m) (meaning s) c.1);
}

-- nothing comes before the sheet's own
five_first : {A : Type 0} (s : List ℕ) (after : List Refusal) (v : A) → is_in 5 (numbers_in after) ≡ false
    → FiveOver s (Unit {0}) (λ m. decide (holding (four s) after 5 (over s (capped_limits m))) number (values v))
five_first s after v q = five_over s (Unit {0}) (four s) after v refl q (λ b o. sound_clear s o) (λ c. (tt, clear_sound s c))

-- 11 does
five_kind : {A : Type 0} (s : List ℕ) (kind : ℕ) (after : List Refusal) (v : A) → is_in 5 (numbers_in after) ≡ false
    → FiveOver s (kind ≤ last_kind) (λ m. decide (holding (kinds kind (four s)) after 5 (over s (capped_limits m))) number (values v))
five_kind s kind after v q =
    five_over s (kind ≤ last_kind) (kinds kind (four s)) after v refl q (λ b o. without 11 (le-ltb last_kind kind b) (sound_clear s o))
    (λ c. (ltb-false last_kind kind (c.none 11), record { right = c.none 1; first = c.none 2; plain = c.none 4; chained = c.none 3 }))

-- ---- what each call refuses after 5

abbrev route_after : List ℕ → List Float → List Float → ℕ → ℕ → List Refusal
route_after s xs ys room textRoom =
    let gs = drawn_of s xs ys in
    six s (centre_refusals (meaning s) xs ys ++ (refusal 10 (not (paths_writable gs)) ∷ refusal 7 (short room (numbers_of gs) || short textRoom (paths_text gs)) ∷ []))

abbrev clutter_after : List ℕ → List Float → List Float → List Refusal
clutter_after s xs ys = six s (centre_refusals (meaning s) xs ys)

abbrev layout_after : List ℕ → ℕ → ℕ → ℕ → List Refusal
layout_after s kind xRoom yRoom =
    let l = layout_for s kind in
    six s (measured_refusals kind (meaning s) ++ (refusal 7 (short xRoom l.xs || short yRoom l.ys) ∷ []))

abbrev list_tail : List ℕ → ℕ → ℕ → List Refusal
list_tail s kind room =
    let g = meaning s in
    let l = layout_for s kind in
    six s
    (refusal 8 (not (layout_beyond kind (plan_of g)) && far_centre (length g.states) l.xs l.ys)
    ∷ refusal 9 (layout_beyond kind (plan_of g) || beyond (frame_of g l.xs l.ys))
    ∷ refusal 10 (not (listing_writable s kind))
    ∷ refusal 7 (short room (listing s kind))
    ∷ [])

abbrev write_tail : List ℕ → ℕ → List Refusal
write_tail s room = six s (room_refusals s room)

-- ---- call by call

module _ (s : List ℕ) where
  checks : ByLimits (λ m. check s m) none_lent
  unfolding check
  checks = by_limits (four s) (six s []) (over s) (over_fewer s) tt none_lent (λ l m e. refl)

  checks_five_lem : FiveOver s (Unit {0}) (λ m. check s m)
  unfolding check
  checks_five_lem = five_first s (six s []) tt refl

  routes : (xs ys records : List Float) (text : List ℕ)
      → ByLimits {B = List Float × List ℕ} (λ m. route s m xs ys (length records) (length text)) (λ m. (records_after s m xs ys records (length text), text_after s m xs ys (length records) text))
  unfolding route records_after text_after
  routes xs ys records text =
      by_limits (four s) (route_after s xs ys (length records) (length text)) (over s) (over_fewer s) _ _
      (λ l m e. ap₂ (λ (a : List Float) (b : List ℕ). (a, b)) (e (List Float) (λ n. records) (onto (numbers_of (drawn_of s xs ys)) records)) (e (List ℕ) (λ n. text) (onto (paths_text (drawn_of s xs ys)) text)))

  routes_five_lem : (xs ys : List Float) (room textRoom : ℕ) → FiveOver s (Unit {0}) (λ m. route s m xs ys room textRoom)
  unfolding route
  routes_five_lem xs ys room textRoom = five_first s (route_after s xs ys room textRoom) _ refl

  counts : (xs ys : List Float) → ByLimits (λ m. clutter s m xs ys) none_lent
  unfolding clutter
  counts xs ys = by_limits (four s) (clutter_after s xs ys) (over s) (over_fewer s) _ none_lent (λ l m e. refl)

  counts_five_lem : (xs ys : List Float) → FiveOver s (Unit {0}) (λ m. clutter s m xs ys)
  unfolding clutter
  counts_five_lem xs ys = five_first s (clutter_after s xs ys) _ refl

  lays : (kind : ℕ) (xs ys : List Float)
      → ByLimits {B = List Float × List Float} (λ m. layout s m kind (length xs) (length ys)) (λ m. (xs_after s m kind xs (length ys), ys_after s m kind (length xs) ys))
  unfolding layout xs_after ys_after
  lays kind xs ys =
      by_limits (kinds kind (four s)) (layout_after s kind (length xs) (length ys)) (over s) (over_fewer s) _ _
      (λ l m e. ap₂ (λ (a b : List Float). (a, b)) (e (List Float) (λ n. xs) (onto (layout_for s kind).xs xs)) (e (List Float) (λ n. ys) (onto (layout_for s kind).ys ys)))

  lays_five_lem : (kind xRoom yRoom : ℕ) → FiveOver s (kind ≤ last_kind) (λ m. layout s m kind xRoom yRoom)
  unfolding layout
  lays_five_lem kind xRoom yRoom = five_kind s kind (layout_after s kind xRoom yRoom) _ refl

  lists : (kind : ℕ) (out : List ℕ) → ByLimits (λ m. list s m kind (length out)) (λ m. list_after s m kind out)
  unfolding list list_after
  lists kind out =
      by_limits (kinds kind (four s)) (list_tail s kind (length out)) (over s) (over_fewer s) _ _ (λ l m e. e (List ℕ) (λ n. out) (onto (listing s kind) out))

  lists_five_lem : (kind room : ℕ) → FiveOver s (kind ≤ last_kind) (λ m. list s m kind room)
  unfolding list
  lists_five_lem kind room = five_kind s kind (list_tail s kind room) _ refl

  saves : (out : List ℕ) → ByLimits (λ m. write_sheet s m (length out)) (λ m. write_sheet_after s m out)
  unfolding write_sheet write_sheet_after
  saves out = by_limits (four s) (write_tail s (length out)) (over s) (over_fewer s) _ _ (λ l m e. e (List ℕ) (λ n. out) (onto (fresh_sheet s) out))

  saves_five_lem : (room : ℕ) → FiveOver s (Unit {0}) (λ m. write_sheet s m room)
  unfolding write_sheet
  saves_five_lem room = five_first s (write_tail s room) _ refl

-- ---- a label block

module _ (text lengths : List ℕ) where
  -- its other refusals
  abbrev rest : List Refusal
  rest =
      refusal 5 (any_of (ltb 96) lengths)
      ∷ refusal 5 (not (eqb (length text) (total_length lengths)))
      ∷ refusal 6 (any_of ill_line (cut text lengths))
      ∷ []

  sizes : ByLimits (λ m. label_size text lengths m) none_lent
  unfolding label_size
  sizes = by_limits [] rest (λ m. ltb m.lines (length lengths)) (lines_fewer lengths) _ none_lent (λ l m e. refl)

  -- the three causes of 5, and what they are of
  module _ (m : Limits) where
    abbrev too_long : Bool
    too_long = any_of (ltb 96) lengths

    abbrev unequal : Bool
    unequal = not (eqb (length text) (total_length lengths))

    sizes-over : BlockOver (capped_limits m) text lengths → label_size text lengths m ≡ number 5
    unfolding label_size decide
    sizes-over (block_lines h) = rw (lt-ltb (capped_limits m).lines (length lengths) h)
    sizes-over (block_bytes j i h) =
        let t : too_long ≡ true = at_some (ltb 96) lengths 0 (record { place = j; inside = i; holds = lt-ltb 96 (get_or lengths j 0) h }) in
        by_bool (ltb (capped_limits m).lines (length lengths)) (λ a. rw a) (λ a. rw (a, t))
    sizes-over (block_sum h) =
        let t : unequal ≡ true = ap not (ne_eqb (length text) (total_length lengths) h) in
        by_bool (ltb (capped_limits m).lines (length lengths)) (λ a. rw a) (λ a. by_bool too_long (λ b. rw (a, b)) (λ b. rw (a, b, t)))

    sizes_only : label_size text lengths m ≡ number 5 → BlockOver (capped_limits m) text lengths
    unfolding label_size decide
    sizes_only e =
        by_bool (ltb (capped_limits m).lines (length lengths)) (λ a. block_lines (ltb-true (capped_limits m).lines (length lengths) a))
        (λ a. by_bool too_long
        (λ b. let r : Somewhere (ltb 96) lengths 0 = some_at (ltb 96) lengths 0 b in block_bytes r.place r.inside (ltb-true 96 (get_or lengths r.place 0) r.holds))
        (λ b. by_bool unequal
        (λ d. block_sum (eqb-false (length text) (total_length lengths) (not-holds (eqb (length text) (total_length lengths)) d)))
        (λ d. absurd (by_bool (any_of ill_line (cut text lengths))
        (λ i. let z : 6 ≡ 5 = number_same {A = Float × Float} 6 5 (rw (a, b, d, i) at e) in omega arith)
        (λ i. number-apart _ 5 (sym (rw (a, b, d, i) at e)))))))

  sizes_lines_lem : (l m : Limits) → l.lines ≡ m.lines → label_size text lengths l ≡ label_size text lengths m
  unfolding label_size capped_limits
  sizes_lines_lem l m e = rw e

-- ---- what is opened

module _ (s : List ℕ) (m : Limits) where
  opened : check s m ≡ values tt → SoundSheet s × Within (capped_limits m) (meaning s)
  opened e =
      let c : Clear (refusals (capped_limits m) s) = (check-answered s m).answer.0 e in
      (record { right = c.none 1; first = c.none 2; plain = c.none 4; chained = c.none 3 }, within-limits (capped_limits m) s ((accepted_exactly (capped_limits m) s).1 c))

  opens : SoundSheet s → Within (capped_limits m) (meaning s) → check s m ≡ values tt
  opens o w =
      (check-answered s m).answer.1
      (without 1 o.right (without 2 o.first (without 4 o.plain (without 3 o.chained
      (without 5 (not-over (capped_limits m) (meaning s) w) (without 6 (not_ill (capped_limits m) (meaning s) w) clear_none))))))

lower : (s : List ℕ) (l m : Limits) → AtMost l m → check s l ≡ values tt → check s m ≡ values tt
lower s l m a e = (check-answered s m).answer.1 (clear_higher (capped_limits l) (capped_limits m) s (capped_higher l m a) ((check-answered s l).answer.0 e))

-- with the numbers written out
within_panel : (s : List ℕ) → Within service_panel (meaning s) → OnPanel (meaning s)
within_panel s w = record { states = w.states; arrows = w.arrows; lines = w.lines }

on_panel_lem : (s : List ℕ) → check s service_panel ≡ values tt → OnPanel (meaning s) × (check s main_screen ≡ values tt)
on_panel_lem s e = (
  within_panel s (rw capped_panel at (opened s service_panel e).1),
  lower s service_panel main_screen (record { states = omega arith; arrows = omega arith; lines = omega arith }) e,
)

pub under_limits : UnderLimits
under_limits = record {
  most = λ m. (capped-below m, capped_most m);
  largest = capped-largest;
  numbers = (refl, refl);
  panel = capped_panel;
  main = capped-main;
  rises = capped_higher;
  checks = checks;
  sizes = sizes;
  lays = lays;
  routes = routes;
  counts = counts;
  lists = lists;
  saves = saves;
  checks_five = checks_five_lem;
  lays_five = lays_five_lem;
  routes_five = routes_five_lem;
  counts_five = counts_five_lem;
  lists_five = lists_five_lem;
  saves_five = saves_five_lem;
  sizes_five = λ text lengths m. (sizes-over text lengths m, sizes_only text lengths m);
  sizes_lines = sizes_lines_lem;
  opened = opened;
  opens = opens;
  lower = lower;
  on_main = λ s m e. accepted_shown m s ((check-answered s m).answer.0 e);
  on_panel = on_panel_lem;
}
