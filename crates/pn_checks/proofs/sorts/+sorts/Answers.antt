use Rattle.std.proofs.Common.{◌+◌, refl, take}
use Rattle.pn_facts.proofs.Results.{on_ok}
use Rattle.pn_syntax.specs.declared.term.TermNode.TheOpen as layer
use Rattle.pn_terms.proofs.TermLemmas.{out_all, out_empty, out_empty_list, out_range}
use Rattle.pn_facts.proofs.Lists.{take_got}
use Rattle.pn_checks.specs.Sorts.{SortsStandIn}
use Rattle.pn_checks.proofs.SortLemmas.{got_there, known_later, of_all, of_args, of_element, of_leaf, of_more, of_none}
use Rattle.pn_checks.proofs.sorts.+sorts.Goals as goal

pub keep_sorts-returns-in-RangeConst : goal.keep_sorts-returns-in-RangeConst
keep_sorts-returns-in-RangeConst t c =
    on_ok c.keep_range.result
    (of_leaf c.args.decls.now c.args.term.now (layer.RangeConst c.in-RangeConst.value c.in-RangeConst.start c.in-RangeConst.end) (out_range c.args.term.now.node c.in-RangeConst.value c.in-RangeConst.start c.in-RangeConst.end c.in-RangeConst.is) refl c.args.least.now c.keep_range.new.least) c.keep_range.ensures

pub keep_sorts-returns-in-All : goal.keep_sorts-returns-in-All
keep_sorts-returns-in-All t c = on_ok c.keep_sort.result (of_leaf c.args.decls.now c.args.term.now (layer.All c.in-All.expr) (out_all c.args.term.now.node c.in-All.expr c.in-All.is) refl c.args.least.now c.keep_sort.new.least) c.keep_sort.ensures

pub keep_sorts-returns-in-Empty : goal.keep_sorts-returns-in-Empty
keep_sorts-returns-in-Empty t c = on_ok c.keep_sort-in-Empty.result (of_leaf c.args.decls.now c.args.term.now (layer.Empty c.in-Empty.expr) (out_empty c.args.term.now.node c.in-Empty.expr c.in-Empty.is) refl c.args.least.now c.keep_sort-in-Empty.new.least) c.keep_sort-in-Empty.ensures

pub keep_sorts-returns-in-EmptyList : goal.keep_sorts-returns-in-EmptyList
keep_sorts-returns-in-EmptyList t c = on_ok c.keep_sort-in-EmptyList.result (of_leaf c.args.decls.now c.args.term.now (layer.EmptyList c.in-EmptyList.expr) (out_empty_list c.args.term.now.node c.in-EmptyList.expr c.in-EmptyList.is) refl c.args.least.now c.keep_sort-in-EmptyList.new.least) c.keep_sort-in-EmptyList.ensures

pub keep_sorts-returns-in-PartitionOf : goal.keep_sorts-returns-in-PartitionOf
keep_sorts-returns-in-PartitionOf t c = on_ok c.keep_sorts.result (of_element c.args.decls.now c.args.term.now c.in-PartitionOf.partition c.in-PartitionOf.arg c.get.result.now c.in-PartitionOf.is c.get.ensures c.args.least.now c.keep_sorts.new.least) c.keep_sorts.ensures

pub keep_sorts-returns-in-Apply : goal.keep_sorts-returns-in-Apply
keep_sorts-returns-in-Apply t c = on_ok c.keep_all_sorts.result (of_args c.args.decls.now c.args.term.now c.in-Apply.op c.in-Apply.args c.as_slice.result.now c.in-Apply.is c.as_slice.ensures c.args.least.now c.keep_all_sorts.new.least) c.keep_all_sorts.ensures

pub keep_all_sorts-loop-term-init : goal.keep_all_sorts-loop-term-init
keep_all_sorts-loop-term-init t c = (of_none (SortsStandIn c.args.decls.now) c.args.least.now, c.requires)

pub keep_all_sorts-loop-term-preserved : goal.keep_all_sorts-loop-term-preserved
keep_all_sorts-loop-term-preserved t c =
    let next = take_got c.args.terms.now c.loop-term.term-index c.term-item.result (got_there c.args.terms.now c.loop-term.term-index c.term-item.result c.loop-term-test.true c.term-item.is) in
    let items = c.args.decls.now in (
      of_more (SortsStandIn items) (take c.loop-term.term-index c.args.terms.now) (take (c.loop-term.term-index + 1) c.args.terms.now) c.term-item.result next c.args.least.now c.loop-term.least c.keep_sorts.new.least c.loop-term.invariant.0 c.in_ok-keep_sorts.ensures,
      known_later items (SortsStandIn items c.term-item.result) c.loop-term.least c.keep_sorts.new.least c.loop-term.invariant.1 c.in_ok-keep_sorts.ensures,
    )

pub keep_all_sorts-returns : goal.keep_all_sorts-returns
keep_all_sorts-returns t c = of_all (SortsStandIn c.args.decls.now) c.args.terms.now c.loop-term.term-index c.loop-term-test.false c.args.least.now c.loop-term.least c.loop-term.invariant.0
