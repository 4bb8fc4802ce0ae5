use Rattle.std.proofs.Common.{◌≡◌, map, take}
use Rattle.pn_net.specs.Flattening.{arc_of_flat}
use Rattle.pn_pages.proofs.single_page.named_arcs.Given as goal

abbrev pub invariant-loop-arc : goal.invariant-loop-arc
invariant-loop-arc l = l.all ≡ map (arc_of_flat l.flat) (take l.arc-index l.flat.arcs)
