-- What is drawn for a sheet under the limits m at given centres, or what refuses it.
use Rattle.std.specs.Prelude.{List, ℕ, Float, Result, Ok, Err}
use Rattle.std.specs.Borrow.{Bor}
use Rattle.laws.specs.Refusals.{decide}
use Rattle.sheet.specs.declared.Limits.{Limits}
use Rattle.label_spots.specs.declared.Geometry.{Geometry}
use Rattle.draw.specs.Drawn.{draw_refusals}
use Rattle.refusal.specs.declared.Refusal.{Refusal}
use Rattle.refusal.specs.Refused.{Outcome, values, number, number_of}
use Rattle.calls.specs.Calls.{drawn_of}

abbrev pub drawing_at : Limits → List ℕ → List Float → List Float → Outcome (List Geometry)
drawing_at m s xs ys = decide (draw_refusals m s xs ys) number (values (drawn_of s xs ys))

-- the answer, of which the caller is lent what is drawn
abbrev pub drawing_as : Result (Bor (List Geometry)) Refusal → Outcome (List Geometry)
drawing_as (Ok drawn) = values drawn.now
drawing_as (Err r) = number (number_of r)
