use Rattle.pn_names.proofs.DeclaredLemmas.{variable_declared, as_many_places}
use Rattle.pn_names.proofs.laws.variables_have_their_places.Goals as goal

pub returns-clause-count : goal.returns-clause-count
returns-clause-count c = as_many_places

pub returns-clause-declared : goal.returns-clause-declared
returns-clause-declared c = variable_declared
