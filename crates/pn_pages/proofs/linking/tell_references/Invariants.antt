use Rattle.std.proofs.Common.{◌≡◌, take}
use Rattle.pn_objects.specs.declared.net.Net.{Net}
use Rattle.pn_pages.specs.Linking.{AreFollowed, IsFaultOfReferences, AddsFaults}
use Rattle.pn_pages.specs.declared.numbered.Objects.{Objects}
use Rattle.pn_pages.proofs.linking.tell_references.Given as goal

abbrev pub invariant-loop-i : goal.invariant-loop-i
invariant-loop-i l = (n : Net) (o : Objects) → o.place_refs ≡ l.place_refs → AreFollowed n o l.references l.targets l.goals → AddsFaults n (IsFaultOfReferences n l.place_refs (take l.i l.references)) l.initial.least l.least
