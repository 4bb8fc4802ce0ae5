use Rattle.std.proofs.Common.{List, Option, take}
use Rattle.std.specs.List.{AllZip}
use Rattle.pn_faults.specs.declared.fault.Fault.{Fault}
use Rattle.pn_net.specs.Ids.{IdHolder}
use Rattle.pn_pages.specs.Following.{IsTarget}
use Rattle.pn_pages.specs.Naming.{AreNamed, told_by}
use Rattle.pn_pages.specs.declared.numbered.Objects.{Objects}
use Rattle.pn_pages.proofs.follow.targets.Given as goal

abbrev pub invariant-loop-reference : goal.invariant-loop-reference
invariant-loop-reference l = (o : Objects) (hs : List IdHolder) (least : Option Fault) → AreNamed o hs (told_by l.names) least → AllZip (IsTarget o hs) (take l.reference-index l.references) l.targets.items
