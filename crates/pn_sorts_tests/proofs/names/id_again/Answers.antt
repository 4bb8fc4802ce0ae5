use Rattle.pn_names.proofs.DeclaredLemmas.{constant_there}
use Rattle.pn_sorts_tests.proofs.names.id_again.Goals as goal

pub constant_id-requires : goal.constant_id-requires
constant_id-requires c = constant_there c.args.items.now c.args.index.now c.args.id.now c.in_ok-constant.constant c.requires c.in_ok-constant.ensures
