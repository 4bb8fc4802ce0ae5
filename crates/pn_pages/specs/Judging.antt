-- What is told of the ids and links of a net, and the flat net that is made where no fault stands.
use Rattle.std.specs.Prelude.{◌≡◌, ◌<◌, ◌^◌, List, length, Option, None, Some}
use Rattle.std.specs.List.{AllZip, slice_get}
use Rattle.pn_faults.specs.Standing.{IsLeastOf}
use Rattle.pn_faults.specs.declared.fault.Fault.{Fault}
use Rattle.pn_net.specs.Ids.{IdHolder}
use Rattle.pn_net.specs.Links.{IsDuplicateAmong, StandsInLinks}
use Rattle.pn_net.specs.Objects.{net_arcs}
use Rattle.pn_net.specs.declared.flat.Flat.{Flat}
use Rattle.pn_objects.specs.declared.net.Net.{Net}
use Rattle.pn_pages.specs.declared.flattening.Found.{Found}
use Rattle.pn_pages.specs.declared.flattening.Outer.{Outer}
use Rattle.pn_pages.specs.declared.gather.Title.{Title}
use Rattle.pn_pages.specs.declared.numbered.Objects.{Objects}
use Rattle.pn_pages.specs.declared.wiring.Wire.{Wire}
use Rattle.pn_pages.specs.Following.{IsTarget}
use Rattle.pn_pages.specs.Linking.{AreApart, AreEnds, AddsFaults}
use Rattle.pn_pages.specs.Wiring.{AreLinked, IsWire, flat_arcs}

-- what references refer to and what the ends of arcs name, and the least fault of ids, where these have the ids
pub record AreFoundIn (o : Objects) (hs : List IdHolder) (found : Found) (least : Option Fault) : Type 0 where
  pub targets : AllZip (IsTarget o hs) o.references found.targets.items
  pub ends : AllZip (AreEnds o hs) o.arcs found.ends.items
  pub lowest : IsLeastOf (IsDuplicateAmong hs) least

-- the faults of ids and links are told; where none is, no two elements have one id
pub record IsJudged (n : Net) (least : Option Fault) : Type 0 where
  pub tells : AddsFaults n (StandsInLinks n) None least
  pub apart : least ≡ None → AreApart n

-- and this is what the arcs join, where none stands
pub record IsLookedAt (n : Net) (wires : List Wire) (least : Option Fault) : Type 0 where
  pub judged : IsJudged n least
  pub wired : ((f : Fault) → StandsInLinks n f → ⊥) → AllZip (IsWire n) (net_arcs n) wires

-- the fault stands, and is the least where no two elements have one id and one offset
pub record IsLeastInLinks (n : Net) (f : Fault) : Type 0 where
  pub stands : StandsInLinks n f
  pub least : AreApart n → IsLeastOf (StandsInLinks n) (Some f)

-- the flat net with these objects, whose page has this title
abbrev pub flat_of : Outer → Title → Objects → List Wire → Flat
flat_of outer t o wires = record {
  id = outer.id;
  kind = outer.kind;
  prefixes = outer.prefixes;
  head = outer.head;
  page_id = t.id;
  page_head = t.head;
  declarations = o.declarations;
  places = o.places;
  transitions = o.transitions;
  arcs = flat_arcs o.places o.transitions o.arcs wires;
}

-- places, transitions and arcs are fewer than 2^32
pub record IsNumbered (o : Objects) : Type 0 where
  pub places : length o.places < 2 ^ 32
  pub transitions : length o.transitions < 2 ^ 32
  pub arcs : length o.arcs < 2 ^ 32

-- the same, with the first title
abbrev pub IsFlatOf : Outer → Objects → List Wire → Flat → Type 0
IsFlatOf outer o wires f = (t : Title) → slice_get o.titles 0 ≡ Some t → f ≡ flat_of outer t o wires

-- the flat net is that of the objects, and its arcs join what those of the net do
pub record IsLinkedFlat (n : Net) (outer : Outer) (o : Objects) (f : Flat) : Type 0 where
  pub wires : List Wire
  pub linked : AreLinked n wires
  pub is : IsFlatOf outer o wires f
