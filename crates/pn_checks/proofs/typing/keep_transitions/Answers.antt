use Rattle.std.proofs.Common.{◌+◌, take}
use Rattle.pn_facts.proofs.Contained.{contains_at}
use Rattle.pn_facts.proofs.Lists.{take_got}
use Rattle.pn_checks.specs.LabelFaults.{TransitionLabels}
use Rattle.pn_checks.proofs.SortLemmas.{got_there, of_all, of_more, of_none}
use Rattle.pn_checks.proofs.SortedLemmas.{sorted_more, sorted_nothing}
use Rattle.pn_checks.proofs.ValueLemmas.{none_before}
use Rattle.pn_net.specs.Labels.{said}
use Rattle.pn_checks.proofs.typing.keep_transitions.Goals as goal

pub keep_transition-requires-clause-sound : goal.keep_transition-requires-clause-sound
keep_transition-requires-clause-sound c =
    c.requires.sound c.transition-item.result
    (contains_at c.args.transitions.now c.loop-transition.transition-index c.transition-item.result
    (got_there c.args.transitions.now c.loop-transition.transition-index c.transition-item.result c.loop-transition-test.true c.transition-item.is))

pub loop-transition-init : goal.loop-transition-init
loop-transition-init c = (of_none (TransitionLabels c.args.decls.now) c.args.least.now, λ none. sorted_nothing c.args.decls.now (λ t. said t.condition))

pub loop-transition-preserved : goal.loop-transition-preserved
loop-transition-preserved c =
    let items = c.args.decls.now in
    let all = c.args.transitions.now in
    let i = c.loop-transition.transition-index in
    let next = take_got all i c.transition-item.result (got_there all i c.transition-item.result c.loop-transition-test.true c.transition-item.is) in
    let keeps = c.in_ok-keep_transition.ensures.least in (
      of_more (TransitionLabels items) (take i all) (take (i + 1) all) c.transition-item.result next c.args.least.now c.loop-transition.least c.keep_transition.new.least c.loop-transition.invariant.0 keeps,
      (λ none. sorted_more items (λ t. said t.condition) (take i all) (take (i + 1) all) c.transition-item.result next
          (c.loop-transition.invariant.1 (none_before (TransitionLabels items c.transition-item.result) c.loop-transition.least c.keep_transition.new.least keeps none)) (c.in_ok-keep_transition.ensures.sorted none)),
    )

pub returns-clause-least : goal.returns-clause-least
returns-clause-least c = of_all (TransitionLabels c.args.decls.now) c.args.transitions.now c.loop-transition.transition-index c.loop-transition-test.false c.args.least.now c.loop-transition.least c.loop-transition.invariant.0
