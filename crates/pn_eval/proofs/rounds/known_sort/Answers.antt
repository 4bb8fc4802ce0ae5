use Rattle.std.proofs.Common.{◌∙◌, Err, ap}
use Rattle.pn_terms.proofs.SortLemmas.{sorted_no_fault}
use Rattle.pn_eval.proofs.rounds.known_sort.Goals as goal

pub unreachable-requires : goal.unreachable-requires
unreachable-requires c =
    let f = c.in-Err-Fault.field-0-0 in
    let fault = c.sort_of.ensures.fault f (c.in-Err-Fault.is ∙ ap Err c.in-Err-Fault.field-0-is) in
    sorted_no_fault c.args.decls.now c.args.term.now c.requires.sorted.0 f c.requires.sorted.1 fault.0
