use Rattle.std.proofs.Common.{◌∙◌, subst, sym}
use Rattle.pn_carriers.specs.Members.{IsMember}
use Rattle.pn_names.specs.Names.{widths_of}
use Rattle.pn_terms.proofs.SortLemmas.{variable_once}
use Rattle.pn_net_samples.proofs.modes.is_member.Goals as goal

pub returns : goal.returns
returns c is sort of =
    let same = variable_once c.args.decls.now c.args.v c.variable_sort.result.now sort c.variable_sort.ensures of in
    subst (IsMember (widths_of c.args.decls.now) c.args.value.now) same (sym c.has_value.ensures ∙ is)
