use Rattle.std.proofs.Common.{◌+◌, take}
use Rattle.pn_facts.proofs.Lists.{take_got}
use Rattle.pn_checks.specs.Sorts.{TransitionStands}
use Rattle.pn_checks.proofs.SortLemmas.{got_there, known_later, of_all, of_more, of_none}
use Rattle.pn_checks.proofs.net_sorts.keep_transitions.Goals as goal

pub loop-transition-init : goal.loop-transition-init
loop-transition-init c = (of_none (TransitionStands c.args.decls.now) c.args.least.now, c.requires)

pub loop-transition-preserved : goal.loop-transition-preserved
loop-transition-preserved c =
    let items = c.args.decls.now in
    let all = c.args.transitions.now in
    let i = c.loop-transition.transition-index in
    let next = take_got all i c.transition-item.result (got_there all i c.transition-item.result c.loop-transition-test.true c.transition-item.is) in (
      of_more (TransitionStands items) (take i all) (take (i + 1) all) c.transition-item.result next c.args.least.now c.loop-transition.least c.keep_term.new.least c.loop-transition.invariant.0 c.in_ok-keep_term.ensures,
      known_later items (TransitionStands items c.transition-item.result) c.loop-transition.least c.keep_term.new.least c.loop-transition.invariant.1 c.in_ok-keep_term.ensures,
    )

pub returns : goal.returns
returns c = of_all (TransitionStands c.args.decls.now) c.args.transitions.now c.loop-transition.transition-index c.loop-transition-test.false c.args.least.now c.loop-transition.least c.loop-transition.invariant.0
