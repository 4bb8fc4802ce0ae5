use Rattle.std.proofs.Common.{List, Option, take}
use Rattle.std.specs.List.{AllZip}
use Rattle.pn_faults.specs.declared.fault.Fault.{Fault}
use Rattle.pn_net.specs.Ids.{IdHolder}
use Rattle.pn_pages.specs.Linking.{AreEnds}
use Rattle.pn_pages.specs.Naming.{AreNamed, told_by}
use Rattle.pn_pages.specs.declared.numbered.Objects.{Objects}
use Rattle.pn_pages.proofs.ends.ends_of.Given as goal

abbrev pub invariant-loop-arc : goal.invariant-loop-arc
invariant-loop-arc l = (o : Objects) (hs : List IdHolder) (least : Option Fault) → AreNamed o hs (told_by l.names) least → AllZip (AreEnds o hs) (take l.arc-index l.arcs) l.ends.items
