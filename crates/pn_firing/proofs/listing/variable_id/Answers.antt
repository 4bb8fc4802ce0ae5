use Rattle.std.proofs.Common.{◌<◌, length, sym, subst}
use Rattle.pn_names.specs.Names.{variables_of}
use Rattle.pn_firing.proofs.ListLemmas.{infinite_declared}
use Rattle.pn_firing.proofs.listing.variable_id.Goals as goal

pub variable_id-requires : goal.variable_id-requires
variable_id-requires c = subst (λ items. c.args.v < length (variables_of items)) (sym c.decls.ensures.declared) (infinite_declared c.args.net.now c.args.transition c.args.v c.requires)
