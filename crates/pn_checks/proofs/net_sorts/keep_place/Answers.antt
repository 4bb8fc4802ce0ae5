use Rattle.pn_facts.proofs.Results.{on_ok}
use Rattle.pn_faults.proofs.WalkLemmas.{keeps_both}
use Rattle.pn_net.specs.Labels.{said}
use Rattle.pn_resolve.specs.Standing.{StandsInSort}
use Rattle.pn_checks.specs.Sorts.{InSaid, SortsStandIn}
use Rattle.pn_checks.proofs.SortLemmas.{known_later}
use Rattle.pn_checks.proofs.net_sorts.keep_place.Goals as goal

pub keep_term-requires : goal.keep_term-requires
keep_term-requires c = known_later c.args.decls.now (InSaid (StandsInSort c.args.decls.now) (said c.args.place.now.sort)) c.args.least.now c.keep_type.new.least c.requires c.in_ok-keep_type.ensures

pub returns : goal.returns
returns c =
    on_ok c.keep_term.result
    (keeps_both (InSaid (StandsInSort c.args.decls.now) (said c.args.place.now.sort)) (InSaid (SortsStandIn c.args.decls.now) (said c.args.place.now.hl_marking)) c.args.least.now c.keep_type.new.least c.keep_term.new.least c.in_ok-keep_type.ensures)
    c.keep_term.ensures
