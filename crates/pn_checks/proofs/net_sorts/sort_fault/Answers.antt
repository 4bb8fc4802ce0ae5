use Rattle.std.proofs.Common.{subst}
use Rattle.pn_faults.specs.Walks.{KeepsLeast, StandsInSome}
use Rattle.pn_checks.specs.Sorts.{ArcStands, PlaceStands, TransitionStands}
use Rattle.pn_checks.proofs.NetSortLemmas.{known_least, net_least}
use Rattle.pn_checks.proofs.SortLemmas.{known_later}
use Rattle.pn_checks.proofs.net_sorts.sort_fault.Goals as goal

pub keep_transitions-requires : goal.keep_transitions-requires
keep_transitions-requires c =
    let items = c.args.decls.now in
    known_later items (StandsInSome (PlaceStands items) c.as_slice.result.now) c.in_ok-least.least c.keep_places.new.least (known_least items c.in_ok-least.least c.in_ok-least.ensures) c.in_ok-keep_places.ensures

pub keep_arcs-requires : goal.keep_arcs-requires
keep_arcs-requires c =
    let items = c.args.decls.now in
    let known = known_later items (StandsInSome (PlaceStands items) c.as_slice.result.now) c.in_ok-least.least c.keep_places.new.least (known_least items c.in_ok-least.least c.in_ok-least.ensures) c.in_ok-keep_places.ensures in
    known_later items (StandsInSome (TransitionStands items) c.as_slice-2.result.now) c.keep_places.new.least c.keep_transitions.new.least known c.in_ok-keep_transitions.ensures

pub returns : goal.returns
returns c n is =
    let items = c.args.decls.now in
    let a = c.in_ok-least.least in
    let b = c.keep_places.new.least in
    let d = c.keep_transitions.new.least in
    let e = c.keep_arcs.new.least in
    net_least n c.args.flat.now is items c.requires a b d e c.in_ok-least.ensures
    (subst (λ xs. KeepsLeast (StandsInSome (PlaceStands items) xs) a b) c.as_slice.ensures c.in_ok-keep_places.ensures)
    (subst (λ xs. KeepsLeast (StandsInSome (TransitionStands items) xs) b d) c.as_slice-2.ensures c.in_ok-keep_transitions.ensures)
    (subst (λ xs. KeepsLeast (StandsInSome (ArcStands items) xs) d e) c.as_slice-3.ensures c.in_ok-keep_arcs.ensures)
