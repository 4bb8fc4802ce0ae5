use Rattle.std.proofs.Common.{◌≡◌, take}
use Rattle.std.specs.List.{AllZip}
use Rattle.pn_net.specs.Ids.{holders_of}
use Rattle.pn_objects.specs.declared.net.Net.{Net}
use Rattle.pn_pages.specs.Linking.{AreEnds, IsArcFault, AddsFaults}
use Rattle.pn_pages.specs.declared.numbered.Objects.{Objects}
use Rattle.pn_pages.proofs.TellingLemmas.{StandsAtSome}
use Rattle.pn_pages.proofs.linking.tell_arcs.Given as goal

abbrev pub invariant-loop-i : goal.invariant-loop-i
invariant-loop-i l = (n : Net) (o : Objects) → o.place_refs ≡ l.place_refs → AllZip (AreEnds o (holders_of n)) l.arcs l.ends → AddsFaults n (StandsAtSome (λ k. IsArcFault n) (take l.i l.arcs)) l.initial.least l.least
