use Rattle.std.proofs.Common.{take}
use Rattle.std.specs.List.{AllZip}
use Rattle.pn_net.specs.Labels.{IsPlaceSort}
use Rattle.pn_checks.proofs.typing.place_sorts.Given as goal

abbrev pub invariant-loop-place : goal.invariant-loop-place
invariant-loop-place l = AllZip (IsPlaceSort l.decls) (take l.place-index l.places) l.sorts
