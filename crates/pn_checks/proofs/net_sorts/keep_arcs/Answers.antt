use Rattle.std.proofs.Common.{◌+◌, take}
use Rattle.pn_facts.proofs.Lists.{take_got}
use Rattle.pn_checks.specs.Sorts.{ArcStands}
use Rattle.pn_checks.proofs.SortLemmas.{got_there, known_later, of_all, of_more, of_none}
use Rattle.pn_checks.proofs.net_sorts.keep_arcs.Goals as goal

pub loop-arc-init : goal.loop-arc-init
loop-arc-init c = (of_none (ArcStands c.args.decls.now) c.args.least.now, c.requires)

pub loop-arc-preserved : goal.loop-arc-preserved
loop-arc-preserved c =
    let items = c.args.decls.now in
    let all = c.args.arcs.now in
    let i = c.loop-arc.arc-index in
    let next = take_got all i c.arc-item.result (got_there all i c.arc-item.result c.loop-arc-test.true c.arc-item.is) in (
      of_more (ArcStands items) (take i all) (take (i + 1) all) c.arc-item.result next c.args.least.now c.loop-arc.least c.keep_term.new.least c.loop-arc.invariant.0 c.in_ok-keep_term.ensures,
      known_later items (ArcStands items c.arc-item.result) c.loop-arc.least c.keep_term.new.least c.loop-arc.invariant.1 c.in_ok-keep_term.ensures,
    )

pub returns : goal.returns
returns c = of_all (ArcStands c.args.decls.now) c.args.arcs.now c.loop-arc.arc-index c.loop-arc-test.false c.args.least.now c.loop-arc.least c.loop-arc.invariant.0
