-- Flat nets that are equal but for offsets.
use Rattle.std.specs.Prelude.{◌≡◌, None, map}
use Rattle.std.specs.List.{AllZip}
use Rattle.pn_net.specs.declared.flat.Flat.{Flat}
use Rattle.pn_net.specs.declared.flat.FlatArc.{FlatArc}
use Rattle.pn_objects.specs.Offsets.{arc_without_offsets, place_without_offsets, transition_without_offsets}
use Rattle.pn_objects.specs.declared.object.Place.{Place}
use Rattle.pn_syntax.specs.Offsets.{declaration_without_offsets}

-- the arcs join the same place and transition in the same direction, and are equal but for offsets
pub record IsAlikeArc (a b : FlatArc) : Type 0 where
  pub place : a.place ≡ b.place
  pub transition : a.transition ≡ b.transition
  pub direction : a.into_place ≡ b.into_place
  pub arc : arc_without_offsets a.arc ≡ arc_without_offsets b.arc

-- the declarations, places, transitions and arcs of the nets are equal but for offsets, one by one, so they are numbered alike
pub record AreAlikeNets (f g : Flat) : Type 0 where
  pub declarations : map declaration_without_offsets f.declarations ≡ map declaration_without_offsets g.declarations
  pub places : map place_without_offsets f.places ≡ map place_without_offsets g.places
  pub transitions : map transition_without_offsets f.transitions ≡ map transition_without_offsets g.transitions
  pub arcs : AllZip IsAlikeArc f.arcs g.arcs

-- a place without offsets and without its initial marking
abbrev pub unmarked : Place → Place
unmarked p = record (place_without_offsets p) { marking = None; hl_marking = None }

-- likewise, but the initial markings may differ
pub record AreAlikeButMarked (f g : Flat) : Type 0 where
  pub declarations : map declaration_without_offsets f.declarations ≡ map declaration_without_offsets g.declarations
  pub places : map unmarked f.places ≡ map unmarked g.places
  pub transitions : map transition_without_offsets f.transitions ≡ map transition_without_offsets g.transitions
  pub arcs : AllZip IsAlikeArc f.arcs g.arcs
