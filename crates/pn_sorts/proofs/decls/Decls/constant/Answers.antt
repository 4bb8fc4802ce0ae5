use Rattle.std.proofs.Common.{ap, ◌∙◌}
use Rattle.std.specs.Option.{option_and_then}
use Rattle.pn_ids.specs.Names.{named_in}
use Rattle.pn_names.specs.Names.{names_of, constant_ref}
use Rattle.pn_sorts.proofs.NameLemmas.{constant_is}
use Rattle.pn_sorts.proofs.decls.Decls.constant.Goals as goal

pub returns-clause-declared : goal.returns-clause-declared
returns-clause-declared c = constant_is c.args.self.now c.args.id.now c.constant.result
    (c.constant.ensures ∙ ap (λ n. option_and_then constant_ref (named_in n c.args.id.now)) (c.self.invariant.indexed.names ∙ ap names_of c.self.view_is))
