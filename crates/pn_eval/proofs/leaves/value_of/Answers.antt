use Rattle.std.proofs.Common.{◌∙◌, Some, ap, sym}
use Rattle.pn_eval.proofs.AssignmentLemmas.{found, missed}
use Rattle.pn_eval.proofs.leaves.value_of.Goals as goal

pub returns : goal.returns
returns c =
    found c.args.vars.now c.args.values.now c.args.v c.in-Ok.place c.index-values-place.result c.binary_search.result c.in-Ok.is c.requires.ascending c.requires.size c.binary_search.ensures.position
    ∙ ap Some (sym c.index-values-place.is)

pub unreachable-requires : goal.unreachable-requires
unreachable-requires c = missed c.args.vars.now c.args.v c.in-Err.field-0 c.binary_search.result c.in-Err.is c.requires.ascending c.binary_search.ensures.position c.requires.known
