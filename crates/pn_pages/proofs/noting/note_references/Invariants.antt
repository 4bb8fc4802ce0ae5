use Rattle.std.proofs.Common.{◌≡◌, take}
use Rattle.pn_pages.specs.Naming.{AddsNames, holders_from}
use Rattle.pn_pages.specs.declared.numbered.Objects.{Objects}
use Rattle.pn_pages.proofs.noting.note_references.Given as goal

abbrev pub invariant-loop-i : goal.invariant-loop-i
invariant-loop-i l = (o : Objects) → o.references ≡ l.references → AddsNames l.initial.names l.initial.least l.names l.least o (holders_from o 0 (take l.i l.references))
