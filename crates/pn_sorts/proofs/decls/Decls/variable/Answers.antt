use Rattle.std.proofs.Common.{ap, ◌∙◌}
use Rattle.std.specs.Option.{option_and_then}
use Rattle.pn_ids.specs.Names.{named_in}
use Rattle.pn_names.specs.Names.{names_of, variable_number}
use Rattle.pn_sorts.proofs.NameLemmas.{variable_is}
use Rattle.pn_sorts.proofs.decls.Decls.variable.Goals as goal

pub returns-clause-declared : goal.returns-clause-declared
returns-clause-declared c = variable_is c.args.self.now c.args.id.now c.variable.result
    (c.variable.ensures ∙ ap (λ n. option_and_then variable_number (named_in n c.args.id.now)) (c.self.invariant.indexed.names ∙ ap names_of c.self.view_is))
