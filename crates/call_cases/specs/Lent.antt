-- A case as the code holds it. Assumes nothing.
use Rattle.call_cases.specs.declared.Case.{Case as Lent}
use Rattle.call_cases.specs.declared.CentredCase.{CentredCase as LentCentred}
use Rattle.call_cases.specs.Cases.{Case, CentredCase}

abbrev pub case_in : Lent → Case
case_in k = record { answer = k.answer; layout_kind = k.layout_kind; sheet = k.sheet.now; limits = k.limits; rest = k.rest.now }

abbrev pub centred_in : LentCentred → CentredCase
centred_in k = record { case = case_in k.case; xs = k.xs.now; ys = k.ys.now }
