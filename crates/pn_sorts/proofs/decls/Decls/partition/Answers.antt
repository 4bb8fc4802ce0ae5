use Rattle.std.proofs.Common.{ap, ◌∙◌}
use Rattle.std.specs.Option.{option_and_then}
use Rattle.pn_ids.specs.Names.{named_in}
use Rattle.pn_names.specs.Names.{names_of, partition_place}
use Rattle.pn_sorts.proofs.NameLemmas.{partition_is}
use Rattle.pn_sorts.proofs.decls.Decls.partition.Goals as goal

pub returns-clause-declared : goal.returns-clause-declared
returns-clause-declared c = partition_is c.args.self.now c.args.id.now c.partition.result
    (c.partition.ensures ∙ ap (λ n. option_and_then partition_place (named_in n c.args.id.now)) (c.self.invariant.indexed.names ∙ ap names_of c.self.view_is))
