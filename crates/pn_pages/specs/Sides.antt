-- The objects of a net, kind by kind.
use Rattle.std.specs.Prelude.{◌≡◌, List, [], ◌++◌, length}
use Rattle.pn_objects.specs.declared.label.Label.{Label}
use Rattle.pn_objects.specs.declared.net.Page.{Page}
use Rattle.pn_syntax.specs.declared.declaration.Declaration.{Declaration}
use Rattle.pn_pages.specs.declared.gather.Gathered.{Gathered}
use Rattle.pn_pages.specs.declared.numbered.Objects.{Objects}
use Rattle.pn_pages.specs.Gathering.{AreGathered, with_labels}

-- what was gathered, with all references side by side
abbrev pub objects_of : Gathered → Objects
objects_of g = record {
  titles = g.titles;
  declarations = g.declarations;
  places = g.places;
  transitions = g.transitions;
  references = g.place_refs ++ g.transition_refs;
  place_refs = length g.place_refs;
  arcs = g.arcs;
}

-- the objects of these pages, with what these elements `declaration` declare before what those of the pages do
pub record HoldsAll (labels : List (Label (List Declaration))) (pages : List Page) (o : Objects) : Type 0 where
  pub gathered : Gathered
  pub all : AreGathered (with_labels labels) pages gathered []
  pub is : o ≡ objects_of gathered
