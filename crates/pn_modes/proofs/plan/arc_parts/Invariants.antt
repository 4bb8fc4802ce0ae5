use Rattle.std.proofs.Common.{◌≡◌, map, take}
use Rattle.std.specs.List.{Contains}
use Rattle.pn_modes.specs.Parts.{IsArcWith}
use Rattle.pn_modes.specs.declared.parts.ArcPart.{ArcPart}
use Rattle.pn_modes.proofs.plan.arc_parts.Given as goal

abbrev pub invariant-loop-number : goal.invariant-loop-number
invariant-loop-number l = (map (λ (arc : ArcPart). arc.number) l.arcs.items ≡ take l.number-index l.numbers) × ((arc : ArcPart) → Contains l.arcs.items arc → IsArcWith l.net l.vars arc)
