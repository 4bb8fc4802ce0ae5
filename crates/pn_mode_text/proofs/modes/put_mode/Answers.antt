use Rattle.std.proofs.Common.{◌<◌, ap, ◌∙◌, sym, subst, length}
use Rattle.pn_names.specs.Names.{variables_of}
use Rattle.pn_mode_text.specs.Texts.{mode_text}
use Rattle.pn_mode_text.proofs.NetLemmas.{assigned_to, is_mode_text}
use Rattle.pn_net.proofs.DeclaredLemmas.{are_declared}
use Rattle.pn_mode_text.proofs.modes.put_mode.Goals as goal

pub have_sorts-requires-clause-declared : goal.have_sorts-requires-clause-declared
have_sorts-requires-clause-declared g c = λ v has.
    subst (λ ds. v < length (variables_of ds)) (sym c.decls-decls.ensures.declared) (are_declared c.args.net.now c.args.mode.now.transition c.variables-vars.result.now c.variables-vars.ensures v has)

pub put_assigned-requires-clause-declared : goal.put_assigned-requires-clause-declared
put_assigned-requires-clause-declared g c = λ v has.
    subst (λ ds. v < length (variables_of ds)) (sym c.decls-decls.ensures.declared) (are_declared c.args.net.now c.args.mode.now.transition c.variables-vars.result.now c.variables-vars.ensures v has)

pub put_assigned-requires-clause-assignment : goal.put_assigned-requires-clause-assignment
put_assigned-requires-clause-assignment g c =
    assigned_to c.args.net.now c.args.mode.now c.decls-decls.result.now c.variables-vars.result.now c.as_slice-2.result.now c.decls-decls.ensures.declared c.as_slice-2.ensures c.variables-vars.ensures c.requires.0 c.requires.1

pub returns-clause-puts : goal.returns-clause-puts
returns-clause-puts g c =
    let ds = c.decls-decls.result.now in
    let typed = c.have_sorts.ensures.0 in
    let same = c.as_slice.ensures ∙ ap (λ f. f.transitions) c.flat.ensures.flat in
    let assigned = c.requires.1 in
    let within : c.args.mode.now.transition < length c.as_slice.result.now = subst (λ ts. c.args.mode.now.transition < length ts) (sym same) assigned.within in (
      mode_text ds c.as_str.result.now typed c.as_slice-2.result.now,
      is_mode_text c.args.net.now c.args.mode.now ds c.as_slice.result.now c.index-as_slice-mode.result c.as_str.result.now c.variables-vars.result.now c.as_slice-2.result.now typed c.decls-decls.ensures.declared same within
          c.index-as_slice-mode.is c.as_str.ensures c.variables-vars.ensures c.have_sorts.ensures.1 c.as_slice-2.ensures,
      c.put_assigned.ensures.puts typed c.have_sorts.ensures.1,
    )
