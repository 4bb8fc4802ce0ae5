use Rattle.std.proofs.Common.{◌<◌, length, sym, subst}
use Rattle.pn_names.specs.Names.{variables_of}
use Rattle.pn_net.proofs.DeclaredLemmas.{are_declared}
use Rattle.pn_mode_text.proofs.transitions.have_typed.Goals as goal

pub have_sorts-requires-clause-declared : goal.have_sorts-requires-clause-declared
have_sorts-requires-clause-declared c = λ v has.
    subst (λ ds. v < length (variables_of ds)) (sym c.decls.ensures.declared) (are_declared c.args.net.now c.args.transition c.variables.result.now c.variables.ensures v has)
