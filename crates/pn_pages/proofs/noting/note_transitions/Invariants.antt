use Rattle.std.proofs.Common.{◌≡◌, map, take}
use Rattle.pn_net.specs.Ids.{transition_holder}
use Rattle.pn_pages.specs.Naming.{AddsNames}
use Rattle.pn_pages.specs.declared.numbered.Objects.{Objects}
use Rattle.pn_pages.proofs.noting.note_transitions.Given as goal

abbrev pub invariant-loop-i : goal.invariant-loop-i
invariant-loop-i l = (o : Objects) → o.transitions ≡ l.transitions → AddsNames l.initial.names l.initial.least l.names l.least o (map transition_holder (take l.i l.transitions))
