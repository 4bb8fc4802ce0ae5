use Rattle.std.proofs.Common.{length, ap, arith}
use Rattle.pn_names.proofs.DeclaredLemmas.{as_many_places}
use Rattle.pn_sorts_tests.proofs.names.id_of_variable.Goals as goal

pub variable_id-requires-clause-within : goal.variable_id-requires-clause-within
variable_id-requires-clause-within c = omega (arith, ap length c.requires, as_many_places c.args.items.now)
