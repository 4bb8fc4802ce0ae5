use Rattle.pn_eval.proofs.LeafLemmas.{listed_member}
use Rattle.pn_eval.proofs.leaves.element_of.Goals as goal

pub part_of-requires-clause-member : goal.part_of-requires-clause-member
part_of-requires-clause-member c base of_base = listed_member c.args.decls.now c.args.name.now c.args.value.now c.requires.listed c.partition.result c.in-Some.partition c.partition.ensures.found c.in-Some.is base of_base
