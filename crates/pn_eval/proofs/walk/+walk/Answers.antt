use Rattle.std.proofs.Common.{◌∙◌, ◌+◌, [], ◌∷◌, ap, refl, rules, sym, take}
use Rattle.pn_operations.specs.declared.outcome.Outcome.TheVariants as outcomes
use Rattle.pn_syntax.specs.declared.term.TermNode.TheOpen as layer
use Rattle.pn_syntax.specs.declared.term.TermNode.TheVariants as nodes
use Rattle.pn_syntax.specs.declared.term.TermNode.TheViews.{the_lemmas}
use Rattle.pn_terms.proofs.TermLemmas.{out_all, out_constant, out_empty, out_empty_list, out_number, out_range, out_text, out_truth, out_variable}
use Rattle.pn_terms.proofs.WalkLemmas.{if_ok_more, next_in, next_of}
use Rattle.pn_eval.specs.Values.{none}
use Rattle.pn_eval.proofs.KeepLemmas.{element_listed, out_part}
use Rattle.pn_eval.proofs.ReadyLemmas.{ready_args, ready_element}
use Rattle.pn_eval.proofs.ValueLemmas.{one_value, value_of_leaf, value_with, values_step}
use Rattle.pn_eval.proofs.walk.+walk.Goals as goal

pub walk-walk-requires : goal.walk-walk-requires
walk-walk-requires t c =
    let ready = ready_element c.args.decls.now c.args.vars.now c.args.term.now c.in-PartitionOf.partition c.in-PartitionOf.arg c.get.result.now c.in-PartitionOf.is c.get.ensures c.requires.ready in
    (search (rules, the_lemmas), (c.requires.faultless, (c.requires.assignment, ready)))

pub walk-walk_all-requires : goal.walk-walk_all-requires
walk-walk_all-requires t c =
    let ready = ready_args c.args.decls.now c.args.vars.now c.args.term.now c.in-Apply.op c.in-Apply.args c.as_slice.result.now c.in-Apply.is c.as_slice.ensures c.requires.ready in
    (search (rules, the_lemmas), (c.requires.faultless, (c.requires.assignment, ready)))

pub walk-element-requires-clause-listed : goal.walk-element-requires-clause-listed
walk-element-requires-clause-listed t c =
    element_listed c.args.decls.now c.args.vars.now c.args.values.now c.requires.assignment c.args.term.now c.in-PartitionOf.partition c.as_str-in-PartitionOf.result.now c.in-PartitionOf.arg c.get.result.now c.in-PartitionOf.is c.as_str-in-PartitionOf.ensures c.get.ensures
    c.requires.ready.sorted c.in_ok-outcome-in-PartitionOf.outcome c.in_ok-outcome-in-PartitionOf.ensures

pub walk-round-requires-clause-sound : goal.walk-round-requires-clause-sound
walk-round-requires-clause-sound t c p there = (ready_args c.args.decls.now c.args.vars.now c.args.term.now c.in-Apply.op c.in-Apply.args c.as_slice-in-Apply.result.now c.in-Apply.is c.as_slice-in-Apply.ensures c.requires.ready p there).sound

pub walk-returns-in-Variable : goal.walk-returns-in-Variable
walk-returns-in-Variable t c =
    let out = out_variable c.args.term.now.node c.as_str.result.now (c.in-Variable.is ∙ ap nodes.Variable (sym c.as_str.ensures)) in
    if_ok_more c.variable.result _ _ (λ o is. value_of_leaf c.args.decls.now c.args.vars.now c.args.values.now c.args.term.now (layer.Variable c.as_str.result.now) out refl o is) c.variable.ensures

pub walk-returns-in-UserOp : goal.walk-returns-in-UserOp
walk-returns-in-UserOp t c =
    let out = out_constant c.args.term.now.node c.as_str-in-UserOp.result.now (c.in-UserOp.is ∙ ap nodes.UserOp (sym c.as_str-in-UserOp.ensures)) in
    value_of_leaf c.args.decls.now c.args.vars.now c.args.values.now c.args.term.now (layer.UserOp c.as_str-in-UserOp.result.now) out refl c.constant.result c.constant.ensures

pub walk-returns-in-Bool : goal.walk-returns-in-Bool
walk-returns-in-Bool t c = value_of_leaf c.args.decls.now c.args.vars.now c.args.values.now c.args.term.now (layer.Bool c.in-Bool.truth) (out_truth c.args.term.now.node c.in-Bool.truth c.in-Bool.is) refl _ refl

pub walk-returns-in-Number : goal.walk-returns-in-Number
walk-returns-in-Number t c = value_of_leaf c.args.decls.now c.args.vars.now c.args.values.now c.args.term.now (layer.Number c.in-Number.value c.in-Number.sort) (out_number c.args.term.now.node c.in-Number.value c.in-Number.sort c.in-Number.is) refl c.number.result c.number.ensures

pub walk-returns-in-RangeConst : goal.walk-returns-in-RangeConst
walk-returns-in-RangeConst t c =
    value_of_leaf c.args.decls.now c.args.vars.now c.args.values.now c.args.term.now (layer.RangeConst c.in-RangeConst.value c.in-RangeConst.start c.in-RangeConst.end)
    (out_range c.args.term.now.node c.in-RangeConst.value c.in-RangeConst.start c.in-RangeConst.end c.in-RangeConst.is) refl c.number-in-RangeConst.result c.number-in-RangeConst.ensures

pub walk-returns-in-Text : goal.walk-returns-in-Text
walk-returns-in-Text t c =
    let out = out_text c.args.term.now.node c.in-Text.value c.in-Text.is in
    if_ok_more c.text.result _ _ (λ o is. value_of_leaf c.args.decls.now c.args.vars.now c.args.values.now c.args.term.now (layer.Text c.in-Text.value) out refl o is) c.text.ensures

pub walk-returns-in-All : goal.walk-returns-in-All
walk-returns-in-All t c =
    let out = out_all c.args.term.now.node c.in-All.field-0 c.in-All.is in
    if_ok_more c.all.result _ _ (λ o each. value_of_leaf c.args.decls.now c.args.vars.now c.args.values.now c.args.term.now (layer.All c.in-All.field-0) out refl o (each c.in-All.field-0 c.in-All.is)) c.all.ensures

pub walk-returns-in-Empty : goal.walk-returns-in-Empty
walk-returns-in-Empty t c =
    value_of_leaf c.args.decls.now c.args.vars.now c.args.values.now c.args.term.now (layer.Empty c.in-Empty.field-0) (out_empty c.args.term.now.node c.in-Empty.field-0 c.in-Empty.is) refl (outcomes.Bag c.new.result) (ap outcomes.Bag c.new.ensures)

pub walk-returns-in-EmptyList : goal.walk-returns-in-EmptyList
walk-returns-in-EmptyList t c = value_of_leaf c.args.decls.now c.args.vars.now c.args.values.now c.args.term.now (layer.EmptyList c.in-EmptyList.field-0) (out_empty_list c.args.term.now.node c.in-EmptyList.field-0 c.in-EmptyList.is) refl c.empty_list.result c.empty_list.ensures

pub walk-returns-in_ok-outcome-in-PartitionOf : goal.walk-returns-in_ok-outcome-in-PartitionOf
walk-returns-in_ok-outcome-in-PartitionOf t c =
    let out = out_part c.args.term.now c.in-PartitionOf.partition c.as_str-in-PartitionOf.result.now c.in-PartitionOf.arg c.get.result.now c.in-PartitionOf.is c.as_str-in-PartitionOf.ensures c.get.ensures in
    value_with c.args.decls.now c.args.vars.now c.args.values.now c.args.term.now (layer.PartitionOf c.as_str-in-PartitionOf.result.now c.get.result.now) out (c.in_ok-outcome-in-PartitionOf.outcome ∷ []) c.element.result
    (one_value c.args.decls.now c.args.vars.now c.args.values.now c.get.result.now c.in_ok-outcome-in-PartitionOf.outcome c.in_ok-outcome-in-PartitionOf.ensures) (c.in_ok-outcome-in-PartitionOf.outcome, refl, c.element.ensures)

pub walk_all-walk-requires : goal.walk_all-walk-requires
walk_all-walk-requires t c =
    let there = next_in c.args.terms.now c.loop-term.term-index c.term-item.result c.loop-term-test.true c.term-item.is in
    (search (rules, the_lemmas), (c.requires.faultless, (c.requires.assignment, c.requires.ready c.term-item.result there)))

pub walk_all-loop-term-init : goal.walk_all-loop-term-init
walk_all-loop-term-init t c = none [] c.in_ok-outcomes.outcomes.items refl c.in_ok-outcomes.ensures.items

pub walk_all-loop-term-preserved : goal.walk_all-loop-term-preserved
walk_all-loop-term-preserved t c =
    values_step c.args.decls.now c.args.vars.now c.args.values.now (take c.loop-term.term-index c.args.terms.now) (take (c.loop-term.term-index + 1) c.args.terms.now) c.term-item.result
    (next_of c.args.terms.now c.loop-term.term-index c.term-item.result c.loop-term-test.true c.term-item.is) c.loop-term.outcomes.items c.push.new.self.items c.in_ok-walk.field-0 c.in_ok-push.ensures.items c.loop-term.invariant c.in_ok-walk.ensures
