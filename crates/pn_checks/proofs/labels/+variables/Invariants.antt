use Rattle.std.proofs.Common.{take}
use Rattle.std.specs.List.{Contains}
use Rattle.pn_faults.specs.Walks.{StandsInSome}
use Rattle.pn_checks.specs.LabelFaults.{IsExamined, IsVariableIn}
use Rattle.pn_checks.specs.NoValue.{HasNoVariable}
use Rattle.pn_syntax.specs.declared.term.Term.{Term}
use Rattle.pn_checks.proofs.labels.+variables.Given as goal

abbrev pub invariant-keep_all_variables-loop-term : goal.invariant-keep_all_variables-loop-term
invariant-keep_all_variables-loop-term l =
    IsExamined ((e : Term) → Contains (take l.term-index l.terms) e → HasNoVariable e) (StandsInSome IsVariableIn (take l.term-index l.terms)) l.are_ground l.fn.least l.least
