use Rattle.std.proofs.lemmas.Int.{quot-rem, rem_below}
use Rattle.pn_operations.proofs.DivisionLemmas.{rest_above, rest_below}
use Rattle.pn_operations.proofs.laws.division_with_rest.Goals as goal

pub returns-clause-whole : goal.returns-clause-whole
returns-clause-whole c = quot-rem

pub returns-clause-below : goal.returns-clause-below
returns-clause-below c = rem_below

pub returns-clause-above_zero : goal.returns-clause-above_zero
returns-clause-above_zero c = rest_above

pub returns-clause-below_zero : goal.returns-clause-below_zero
returns-clause-below_zero c = rest_below
