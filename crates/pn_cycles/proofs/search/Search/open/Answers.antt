use Rattle.std.proofs.Common.{length, false, ap, refl, arith, rules}
use Rattle.pn_cycles.proofs.Opening.{opens}
use Rattle.pn_cycles.proofs.Working.{work_opened}
use Rattle.pn_cycles.proofs.search.Search.open.Goals as goal

pub returns-clause-search : goal.returns-clause-search
returns-clause-search c =
    opens _ _ _ _ _ _ _ _ _ _ _ _ (record { start = c.len-place.result; edges = c.len.result; cyclic = false }) c.requires.search c.requires.fresh c.requires.lead c.requires.node (search rules) (search rules) (search rules) (search rules) (search rules) (search rules) refl

pub returns-clause-rest : goal.returns-clause-rest
returns-clause-rest c =
    let work = work_opened c.args.self.now.marks.items c.args.graph.now c.args.node c.len-place.result (omega (arith, c.requires.search.marked)) c.requires.node c.requires.fresh in
    omega (arith, work, c.in_ok-push.ensures.len, c.in_ok-extend_from_slice.ensures.len, ap length c.targets.ensures)
