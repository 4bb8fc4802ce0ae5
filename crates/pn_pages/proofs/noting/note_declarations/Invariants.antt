use Rattle.std.proofs.Common.{take}
use Rattle.std.specs.List.{flat_map}
use Rattle.pn_net.specs.Ids.{declaration_holders}
use Rattle.pn_pages.specs.Naming.{AddsNames}
use Rattle.pn_pages.specs.declared.numbered.Objects.{Objects}
use Rattle.pn_pages.proofs.noting.note_declarations.Given as goal

abbrev pub invariant-loop-declaration : goal.invariant-loop-declaration
invariant-loop-declaration l = (o : Objects) → AddsNames l.initial.names l.initial.least l.names l.least o (flat_map declaration_holders (take l.declaration-index l.declarations))
