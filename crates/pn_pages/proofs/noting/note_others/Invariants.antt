use Rattle.std.proofs.Common.{map, take}
use Rattle.pn_net.specs.Ids.{holder, other}
use Rattle.pn_pages.specs.Naming.{AddsNames}
use Rattle.pn_pages.specs.declared.numbered.Objects.{Objects}
use Rattle.pn_pages.proofs.noting.note_others.Given as goal

abbrev pub invariant-loop-item : goal.invariant-loop-item
invariant-loop-item g l = (o : Objects) → AddsNames l.initial.names l.initial.least l.names l.least o (map (λ x. holder (g.T.Held.id_of x) (g.T.Held.offset_of x) other) (take l.item-index l.items))
