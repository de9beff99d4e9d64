-- Each way through the code, as the definitions have it: what the calls give are variables. Assumes nothing.
use Rattle.std.specs.Prelude.{◌≡◌, Bool, true, false, ◌||◌, List, ◌++◌, map, ℕ, ◌+◌, ◌*◌, ◌≤◌, ◌<◌, length, get_or, set, take, drop, Float}
use Rattle.std.proofs.Common.{sym, ap, ◌∙◌, arith, lt-ltb, le-ltb, length-take-le}
use mathlib.Core.List.{flat_map}
use Rattle.std.proofs.lemmas.List.{take_more, length-map}
use Rattle.std.proofs.Math.ListN.{get_or-map}
use Rattle.laws.specs.Put.{put, put_front, put_mid}
use Rattle.laws.specs.Filled.{copy_step}
use Rattle.laws.specs.Writers.{Wrote, as_usize, written_fits}
use Rattle.laws.specs.Refusals.{decide}
use Rattle.laws.specs.Bools.{or-second, or_none}
use Rattle.shape.specs.declared.«V».{«V»}
use Rattle.label_spots.specs.declared.Geometry.{Geometry}
use Rattle.records.specs.Records.{fields, decode_records}
use Rattle.records.specs.Back.{length-records, put_record}
use Rattle.drawing_text.specs.Lines.{paths_text, paths_writable}
use Rattle.refusal.specs.Refused.{Outcome, values, number}
use Rattle.outputs.specs.Answers as A
use Rattle.outputs.specs.Answers.{short, onto, numbers_of}

-- ---- records

-- record k in its place, after those before it
pub record_step : (gs : List Geometry) (k j : ℕ) (d : Geometry) (l out r part : List Float) → k < length gs
    → out ≡ put l 0 (numbers_of (take k gs)) → r ≡ fields (get_or gs k d) → 20 ≤ j → part ≡ put (take j (drop (20 * k) out)) 0 r
    → take (20 * k) out ++ (part ++ drop j (drop (20 * k) out)) ≡ put l 0 (numbers_of (take (k + 1) gs))
record_step gs k j d l out r part h o e i p =
    let g = get_or gs k d in
    let n : length (take k gs) ≡ k = length-take-le k gs (omega arith) in
    ap (λ (m : List Float). take (20 * k) out ++ (m ++ drop j (drop (20 * k) out))) (p ∙ ap (put (take j (drop (20 * k) out)) 0) e)
    ∙ put_mid (20 * k) j out (fields g) i
    ∙ ap (λ (m : List Float). put m (20 * k) (fields g)) o
    ∙ ap (λ (m : ℕ). put (put l 0 (numbers_of (take k gs))) (20 * m) (fields g)) (sym n)
    ∙ put_record l (take k gs) g
    ∙ ap (λ (hs : List Geometry). put l 0 (numbers_of hs)) (sym (take_more gs k d h))

-- numbers that begin with n records as they are written: "Each record is written into its own twenty numbers"
abbrev pub AsWritten : ℕ → List Float → Type 0
AsWritten n drawing = take (20 * n) drawing ≡ flat_map fields (decode_records n drawing)

-- records as they are written stand as they do in these numbers
pub records-onto : (drawing l : List Float) (n : ℕ) → 20 * n ≤ length drawing → AsWritten n drawing → 20 * n ≤ length l
    → put l 0 (flat_map fields (decode_records n drawing)) ≡ onto (take (20 * n) drawing) l
records-onto drawing l n h w i =
    ap (put l 0) (sym w)
    ∙ put_front l (take (20 * n) drawing) (omega (arith, length-take-le (20 * n) drawing h))

-- ---- fill

module _ (gs : List Geometry) (records : List Float) (text : List ℕ) where
  abbrev Filled : Outcome (ℕ × ℕ) → List Float → List ℕ → Type 0
  Filled = A.FilledInto gs records text

  pub fill_10 : paths_writable gs ≡ false → Filled (number 10) records text
  unfolding decide
  fill_10 o = (rw o, rw o, rw o)

  fill_7 : paths_writable gs ≡ true → (short (length records) (numbers_of gs) || short (length text) (paths_text gs)) ≡ true → Filled (number 7) records text
  unfolding decide
  fill_7 o t = (rw (o, t), rw (o, t), rw (o, t))

  module _ (o : paths_writable gs ≡ true) where
    pub fill-records : length records < 20 * length gs → Filled (number 7) records text
    fill-records h =
        let i : length records < length (numbers_of gs) = omega (arith, length-records gs) in
        fill_7 o (ap (λ (b : Bool). b || short (length text) (paths_text gs)) (lt-ltb _ _ i))

    -- need is the length that was measured
    module _ (need : ℕ) (v : need ≡ as_usize (length (paths_text gs))) (fits : length text < 18446744073709551615) where
      pub fill_text : length text < need → Filled (number 7) records text
      fill_text h =
          let i : length text < length (paths_text gs) = omega (arith, v) in
          fill_7 o (or-second (short (length records) (numbers_of gs)) (short (length text) (paths_text gs)) (lt-ltb _ _ i))

      -- q is the text as the writer left it, b as the call leaves it
      pub fill_done : (m : ℕ) (a : List Float) (q b : List ℕ) → 20 * length gs ≤ length records → need ≤ length text
          → a ≡ put records 0 (numbers_of gs) → b ≡ q → Wrote text 0 q m (paths_text gs) → Filled (values (20 * length gs, m)) a b
      unfolding decide
      fill_done m a q b h i k l x =
          let n = length-records gs in
          let r : length (numbers_of gs) ≤ length records = omega arith in
          let t : length (paths_text gs) ≤ length text = omega (arith, v) in
          let y = written_fits x t in
          let z = or_none (short (length records) (numbers_of gs)) (short (length text) (paths_text gs)) (le-ltb _ _ r) (le-ltb _ _ t) in
          (rw (o, z, n, y.0), rw (o, z) (k ∙ put_front records (numbers_of gs) r), rw (o, z) (l ∙ y.1))

-- ---- centres

-- one coordinate more
pub centre_step : (f : «V» → Float) (cs : List «V») (k : ℕ) (d : «V») (l out : List Float) → k < length cs
    → put out k (drop k (map f cs)) ≡ put l 0 (map f cs) → put (set out k (f (get_or cs k d))) (k + 1) (drop (k + 1) (map f cs)) ≡ put l 0 (map f cs)
centre_step f cs k d l out h e =
    ap (λ (a : Float). put (set out k a) (k + 1) (drop (k + 1) (map f cs))) (sym (get_or-map f cs k d))
    ∙ copy_step (f d) out (map f cs) k (omega (arith, length-map cs f))
    ∙ e

module _ (across down : List Float) (w h : Float) (xs ys : List Float) (n : ℕ) (many : length across ≡ n) (same : length down ≡ n) where
  abbrev Placed : Outcome (ℕ × Float × Float) → List Float → List Float → Type 0
  Placed = A.PlacedInto across down w h xs ys

  place_7 : (short (length xs) across || short (length ys) down) ≡ true → Placed (number 7) xs ys
  unfolding decide
  place_7 t = (rw t, rw t, rw t)

  pub place_xs : length xs < n → Placed (number 7) xs ys
  place_xs i =
      let j : length xs < length across = omega arith in
      place_7 (ap (λ (b : Bool). b || short (length ys) down) (lt-ltb _ _ j))

  pub place_ys : length ys < n → Placed (number 7) xs ys
  place_ys i =
      let j : length ys < length down = omega arith in
      place_7 (or-second (short (length xs) across) (short (length ys) down) (lt-ltb _ _ j))

  pub place_done : (a b : List Float) → n ≤ length xs → n ≤ length ys → a ≡ put xs 0 across → b ≡ put ys 0 down → Placed (values (n, w, h)) a b
  unfolding decide
  place_done a b i j e f =
      let p : length across ≤ length xs = omega arith in
      let q : length down ≤ length ys = omega arith in
      let o = or_none (short (length xs) across) (short (length ys) down) (le-ltb _ _ p) (le-ltb _ _ q) in
      (rw (o, many), rw o (e ∙ put_front xs across p), rw o (f ∙ put_front ys down q))

-- ---- listing

module _ (writable : Bool) (txt out : List ℕ) where
  abbrev WroteOut : Outcome ℕ → List ℕ → Type 0
  WroteOut = A.WrittenInto writable txt out

  pub list_10 : writable ≡ false → WroteOut (number 10) out
  unfolding decide
  list_10 o = (rw o, rw o)

  module _ {need : ℕ} (o : writable ≡ true) (v : need ≡ as_usize (length txt)) (fits : length out < 18446744073709551615) where
    pub list_7 : length out < need → WroteOut (number 7) out
    unfolding decide
    list_7 h =
        let i : length out < length txt = omega (arith, v) in
        (rw (o, lt-ltb _ _ i), rw (o, lt-ltb _ _ i))

    -- q is the slice as the writer left it, b as the call leaves it
    pub list_done : {m : ℕ} {q b : List ℕ} → need ≤ length out → b ≡ q → Wrote out 0 q m txt → WroteOut (values m) b
    unfolding decide
    list_done {b = b} i l x =
        let t : length txt ≤ length out = omega (arith, v) in
        let y = written_fits x t in
        (rw (o, le-ltb _ _ t, y.0), rw (o, le-ltb _ _ t) (l ∙ y.1))
