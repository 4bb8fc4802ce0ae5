use Rattle.std.proofs.Common.{◌+◌, refl, take}
use Rattle.pn_syntax.specs.declared.term.TermNode.TheOpen as layer
use Rattle.pn_terms.proofs.SoundLemmas.{sorts_of_all, sorts_of_args, sorts_of_element, sorts_of_leaf, sorts_of_more, sorts_of_none}
use Rattle.pn_terms.proofs.TermLemmas.{out_all, out_empty, out_empty_list}
use Rattle.pn_terms.proofs.WalkLemmas.{next_of, on_ok_more}
use Rattle.pn_terms.proofs.sound.+sound.Goals as goal

pub keep_sorts-returns-in-All : goal.keep_sorts-returns-in-All
keep_sorts-returns-in-All t c = on_ok_more c.keep_sort.result _ _ (sorts_of_leaf c.args.decls.now c.args.term.now (layer.All c.in-All.expr) (out_all c.args.term.now.node c.in-All.expr c.in-All.is) refl c.args.least.now c.keep_sort.new.least) c.keep_sort.ensures

pub keep_sorts-returns-in-Empty : goal.keep_sorts-returns-in-Empty
keep_sorts-returns-in-Empty t c = on_ok_more c.keep_sort-in-Empty.result _ _ (sorts_of_leaf c.args.decls.now c.args.term.now (layer.Empty c.in-Empty.expr) (out_empty c.args.term.now.node c.in-Empty.expr c.in-Empty.is) refl c.args.least.now c.keep_sort-in-Empty.new.least) c.keep_sort-in-Empty.ensures

pub keep_sorts-returns-in-EmptyList : goal.keep_sorts-returns-in-EmptyList
keep_sorts-returns-in-EmptyList t c = on_ok_more c.keep_sort-in-EmptyList.result _ _ (sorts_of_leaf c.args.decls.now c.args.term.now (layer.EmptyList c.in-EmptyList.expr) (out_empty_list c.args.term.now.node c.in-EmptyList.expr c.in-EmptyList.is) refl c.args.least.now c.keep_sort-in-EmptyList.new.least) c.keep_sort-in-EmptyList.ensures

pub keep_sorts-returns-in-PartitionOf : goal.keep_sorts-returns-in-PartitionOf
keep_sorts-returns-in-PartitionOf t c = on_ok_more c.keep_sorts.result _ _ (sorts_of_element c.args.decls.now c.args.term.now c.in-PartitionOf.partition c.in-PartitionOf.arg c.get.result.now c.in-PartitionOf.is c.get.ensures c.args.least.now c.keep_sorts.new.least) c.keep_sorts.ensures

pub keep_sorts-returns-in-Apply : goal.keep_sorts-returns-in-Apply
keep_sorts-returns-in-Apply t c = on_ok_more c.keep_all_sorts.result _ _ (sorts_of_args c.args.decls.now c.args.term.now c.in-Apply.op c.in-Apply.args c.as_slice.result.now c.in-Apply.is c.as_slice.ensures c.args.least.now c.keep_all_sorts.new.least) c.keep_all_sorts.ensures

pub keep_all_sorts-loop-term-init : goal.keep_all_sorts-loop-term-init
keep_all_sorts-loop-term-init t c = sorts_of_none c.args.decls.now c.args.least.now

pub keep_all_sorts-loop-term-preserved : goal.keep_all_sorts-loop-term-preserved
keep_all_sorts-loop-term-preserved t c =
    let next = next_of c.args.terms.now c.loop-term.term-index c.term-item.result c.loop-term-test.true c.term-item.is in
    sorts_of_more c.args.decls.now (take c.loop-term.term-index c.args.terms.now) (take (c.loop-term.term-index + 1) c.args.terms.now) c.term-item.result next c.args.least.now c.loop-term.least c.keep_sorts.new.least c.loop-term.invariant c.in_ok-keep_sorts.ensures

pub keep_all_sorts-returns : goal.keep_all_sorts-returns
keep_all_sorts-returns t c = sorts_of_all c.args.decls.now c.args.terms.now c.loop-term.term-index c.loop-term-test.false c.args.least.now c.loop-term.least c.loop-term.invariant
