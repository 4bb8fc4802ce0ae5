use Rattle.std.proofs.Common.{ap, subst}
use Rattle.pn_operations.specs.declared.outcome.Outcome.TheVariants as outcomes
use Rattle.pn_terms.specs.Sorts.{HasSort}
use Rattle.pn_eval.proofs.LeafLemmas.{all_of}
use Rattle.pn_eval.proofs.leaves.all.Goals as goal

pub each_once-requires : goal.each_once-requires
each_once-requires c =
    let has = subst (HasSort c.args.decls.now c.args.term.now) c.in-Bag.is c.in_ok-sort.ensures in
    (all_of c.args.decls.now c.args.term.now c.requires.all.0 c.in-Bag.sort c.requires.all.1 has).small

pub returns : goal.returns
returns c e is =
    let has = subst (HasSort c.args.decls.now c.args.term.now) c.in-Bag.is c.in_ok-sort.ensures in
    (c.in-Bag.sort, (all_of c.args.decls.now c.args.term.now e c.in-Bag.sort is has).resolves, ap outcomes.Bag c.in_ok-each_once-in-Bag.ensures)
