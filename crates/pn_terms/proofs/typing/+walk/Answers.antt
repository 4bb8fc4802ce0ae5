use Rattle.std.proofs.Common.{◌∙◌, ◌+◌, [], rules, sym, subst, take, cond, Some, None}
use Rattle.pn_syntax.specs.declared.term.TermNode.TheViews.{the_lemmas}
use Rattle.pn_syntax.specs.declared.term.TermNode.TheOpen as layer
use Rattle.pn_terms.proofs.SoundLemmas.{sound_args, sound_element, sound_layer}
use Rattle.pn_terms.proofs.TermLemmas.{out_all, out_empty, out_empty_list}
use Rattle.pn_terms.proofs.WalkLemmas.{AreTermsWalked, all_end, all_none, all_step, all_stop, if_ok_more, next_in, next_of, walked_all_values, walked_apply, walked_constant, walked_element, walked_empty, walked_empty_list, walked_no_apply, walked_no_element, walked_number, walked_range, walked_text, walked_truth, walked_variable}
use Rattle.pn_terms.proofs.typing.+walk.Goals as goal
use Rattle.pn_terms.proofs.typing.+walk.Goals.{walk_all-in-Some+in_ok-push-in-Some, walk_all-in-None}

pub walk-all-requires-clause-sound : goal.walk-all-requires-clause-sound
walk-all-requires-clause-sound t c = sound_layer c.args.decls.now c.args.term.now (layer.All c.in-All.sort) (out_all c.args.term.now.node c.in-All.sort c.in-All.is) c.requires.sound

pub walk-empty-requires-clause-sound : goal.walk-empty-requires-clause-sound
walk-empty-requires-clause-sound t c = sound_layer c.args.decls.now c.args.term.now (layer.Empty c.in-Empty.sort) (out_empty c.args.term.now.node c.in-Empty.sort c.in-Empty.is) c.requires.sound

pub walk-empty_list-requires-clause-sound : goal.walk-empty_list-requires-clause-sound
walk-empty_list-requires-clause-sound t c = sound_layer c.args.decls.now c.args.term.now (layer.EmptyList c.in-EmptyList.sort) (out_empty_list c.args.term.now.node c.in-EmptyList.sort c.in-EmptyList.is) c.requires.sound

pub walk-walk-requires : goal.walk-walk-requires
walk-walk-requires t c =
    let sound = sound_element c.args.decls.now c.args.term.now c.in-PartitionOf.partition c.in-PartitionOf.arg c.get.result.now c.in-PartitionOf.is c.get.ensures c.requires.sound in
    (search (rules, the_lemmas), (c.requires.faultless, sound))

pub walk-walk_all-requires : goal.walk-walk_all-requires
walk-walk_all-requires t c =
    let sound = sound_args c.args.decls.now c.args.term.now c.in-Apply.op c.in-Apply.args c.as_slice.result.now c.in-Apply.is c.as_slice.ensures c.requires.sound in
    (search (rules, the_lemmas), (c.requires.faultless, sound))

pub walk-returns-in-Variable : goal.walk-returns-in-Variable
walk-returns-in-Variable t c = if_ok_more c.variable.result _ _ (λ o told. walked_variable c.args.decls.now c.args.term.now c.in-Variable.name c.as_str.result.now c.in-Variable.is c.as_str.ensures o c.args.least.now c.variable.new.least told) c.variable.ensures

pub walk-returns-in-UserOp : goal.walk-returns-in-UserOp
walk-returns-in-UserOp t c = if_ok_more c.constant.result _ _ (λ o told. walked_constant c.args.decls.now c.args.term.now c.in-UserOp.name c.as_str-in-UserOp.result.now c.in-UserOp.is c.as_str-in-UserOp.ensures o c.args.least.now c.constant.new.least told) c.constant.ensures

pub walk-returns-in-Bool : goal.walk-returns-in-Bool
walk-returns-in-Bool t c = walked_truth c.args.decls.now c.args.term.now c.in-Bool.field-0 c.in-Bool.is c.args.least.now

pub walk-returns-in-Number : goal.walk-returns-in-Number
walk-returns-in-Number t c = if_ok_more c.number.result _ _ (λ o told. walked_number c.args.decls.now c.args.term.now c.in-Number.value c.in-Number.sort c.in-Number.is o c.args.least.now c.number.new.least told) c.number.ensures

pub walk-returns-in-RangeConst : goal.walk-returns-in-RangeConst
walk-returns-in-RangeConst t c = if_ok_more c.range.result _ _ (λ o told. walked_range c.args.decls.now c.args.term.now c.in-RangeConst.value c.in-RangeConst.start c.in-RangeConst.end c.in-RangeConst.is o c.args.least.now c.range.new.least told) c.range.ensures

pub walk-returns-in-Text : goal.walk-returns-in-Text
walk-returns-in-Text t c = if_ok_more c.text.result _ _ (λ o told. walked_text c.args.decls.now c.args.term.now c.in-Text.value c.in-Text.is o c.args.least.now c.text.new.least told) c.text.ensures

pub walk-returns-in-All : goal.walk-returns-in-All
walk-returns-in-All t c = if_ok_more c.all.result _ _ (λ o told. walked_all_values c.args.decls.now c.args.term.now c.in-All.sort c.in-All.is o c.args.least.now c.all.new.least told) c.all.ensures

pub walk-returns-in_ok-empty-in-Empty : goal.walk-returns-in_ok-empty-in-Empty
walk-returns-in_ok-empty-in-Empty t c = walked_empty c.args.decls.now c.args.term.now c.in-Empty.sort c.in-Empty.is c.in_ok-empty-in-Empty.field-0 c.args.least.now c.in_ok-empty-in-Empty.ensures

pub walk-returns-in_ok-empty_list-in-EmptyList : goal.walk-returns-in_ok-empty_list-in-EmptyList
walk-returns-in_ok-empty_list-in-EmptyList t c = walked_empty_list c.args.decls.now c.args.term.now c.in-EmptyList.sort c.in-EmptyList.is c.in_ok-empty_list-in-EmptyList.field-0 c.args.least.now c.in_ok-empty_list-in-EmptyList.ensures

pub walk-returns-in-Some : goal.walk-returns-in-Some
walk-returns-in-Some t c = if_ok_more c.element.result _ _ (λ o told. walked_element c.args.decls.now c.args.term.now c.in-PartitionOf.partition c.as_str-in-Some.result.now c.in-PartitionOf.arg c.get.result.now c.in-PartitionOf.is c.as_str-in-Some.ensures c.get.ensures c.in_ok-sort-in-PartitionOf.field-0 c.in-Some.sort c.in-Some.is o c.args.least.now c.walk.new.least c.element.new.least
    c.in_ok-sort-in-PartitionOf.ensures told) c.element.ensures

pub walk-returns-in_ok-keep_partition-in-None : goal.walk-returns-in_ok-keep_partition-in-None
walk-returns-in_ok-keep_partition-in-None t c = walked_no_element c.args.decls.now c.args.term.now c.in-PartitionOf.partition c.as_str-in-None.result.now c.in-PartitionOf.arg c.get.result.now c.in-PartitionOf.is c.as_str-in-None.ensures c.get.ensures c.in_ok-sort-in-PartitionOf.field-0 c.in-None.is c.args.least.now c.walk.new.least c.keep_partition.new.least
    c.in_ok-sort-in-PartitionOf.ensures c.in_ok-keep_partition-in-None.ensures

pub walk-returns-in-Some-2 : goal.walk-returns-in-Some-2
walk-returns-in-Some-2 t c = if_ok_more c.applied.result _ _ (λ o told. walked_apply c.args.decls.now c.args.term.now c.in-Apply.op c.in-Apply.args c.as_slice.result.now c.in-Apply.is c.as_slice.ensures c.in_ok-sorts-in-Apply.field-0 c.in-Some-2.sorts c.as_slice-in-Some-2.result.now c.in-Some-2.is c.as_slice-in-Some-2.ensures o c.args.least.now c.walk_all.new.least c.applied.new.least
    c.in_ok-sorts-in-Apply.ensures told) c.applied.ensures

pub walk-returns-in-None-2 : goal.walk-returns-in-None-2
walk-returns-in-None-2 t c = walked_no_apply c.args.decls.now c.args.term.now c.in-Apply.op c.in-Apply.args c.as_slice.result.now c.in-Apply.is c.as_slice.ensures c.in_ok-sorts-in-Apply.field-0 c.in-None-2.is c.args.least.now c.walk_all.new.least c.in_ok-sorts-in-Apply.ensures

pub walk_all-walk-requires : goal.walk_all-walk-requires
walk_all-walk-requires t c =
    let there = next_in c.args.terms.now c.loop-term.term-index c.term-item.result c.loop-term-test.true c.term-item.is in
    (search (rules, the_lemmas), (c.requires.faultless, c.requires.sound c.term-item.result there))

pub walk_all-loop-term-init : goal.walk_all-loop-term-init
walk_all-loop-term-init t c = subst (λ ss. AreTermsWalked c.args.decls.now [] (Some ss) c.args.least.now c.args.least.now) (sym c.new-sorts.ensures) (all_none c.args.decls.now c.args.least.now)

pub walk_all-loop-term-preserved : goal.walk_all-loop-term-preserved
walk_all-loop-term-preserved t c =
    let next = next_of c.args.terms.now c.loop-term.term-index c.term-item.result c.loop-term-test.true c.term-item.is in
    elim c.match-branch-2.branch [
      | walk_all-in-Some+in_ok-push-in-Some w ↦
          all_step c.args.decls.now (take c.loop-term.term-index c.args.terms.now) (take (c.loop-term.term-index + 1) c.args.terms.now) c.term-item.result next c.loop-term.is_whole c.match-branch-2.is_whole w.is_whole-is c.loop-term.sorts c.match-branch-2.sorts w.in-Some.sort
          (w.sorts-is ∙ w.in_ok-push-in-Some.ensures.ok) c.in_ok-sort.field-0 w.in-Some.is c.args.least.now c.loop-term.least c.walk.new.least c.loop-term.invariant c.in_ok-sort.ensures
      | walk_all-in-None w ↦
          all_stop c.args.decls.now (take c.loop-term.term-index c.args.terms.now) (take (c.loop-term.term-index + 1) c.args.terms.now) c.term-item.result next (cond c.loop-term.is_whole (Some c.loop-term.sorts) None) c.match-branch-2.is_whole w.is_whole-is c.match-branch-2.sorts
          c.in_ok-sort.field-0 w.in-None.is c.args.least.now c.loop-term.least c.walk.new.least c.loop-term.invariant c.in_ok-sort.ensures
    ]

pub walk_all-returns : goal.walk_all-returns
walk_all-returns t c = all_end c.args.decls.now c.args.terms.now c.loop-term.term-index c.loop-term.is_whole c.loop-term.sorts c.if-is_whole.false c.loop-term-test.false c.args.least.now c.loop-term.least c.loop-term.invariant
