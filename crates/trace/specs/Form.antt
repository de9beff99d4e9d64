-- What the code's trace stands for.
use Rattle.std.specs.Prelude.{List}
use Rattle.shape.specs.declared.«V».{«V»}
use Rattle.trace.specs.declared.Points.{Points}
use Rattle.trace.specs.declared.Points.TheVariants.{Ends, Samples}
use Rattle.trace.specs.declared.Trace.{Trace as Stored}
use Rattle.trace.specs.Traces.{Trace}

abbrev pub points_in : Points → List «V»
points_in (Ends l) = l
points_in (Samples l) = l

abbrev pub trace_in : Stored → Trace
trace_in t = record { owner = t.owner; points = points_in t.points; bounds = t.bounds }
