-- What stands in a page or a net, one element after the other.
use Rattle.std.specs.Prelude.{ℕ, List, [], ◌∷◌, ◌++◌, map, codes, Some, if◌then◌else◌}
use Rattle.std.specs.List.{filter, find}
use Rattle.std.specs.Option.{option_map, option_or}
use Rattle.pn_tree.specs.declared.element.Element.{Element}
use Rattle.pn_spelling.specs.Parts.{has_name}
use Rattle.pn_spelling.specs.ReadNets.{arc_read, declarations_label, is_opaque_part, label_read, page_read, place_read, reference_read, transition_read}
use Rattle.pn_core_grammar.specs.declared.page.PageParts.{PageParts}

-- what these elements spell that have this name
abbrev pub read_among : {X : Type 0} → List ℕ → (Element → X) → List Element → List X
read_among name read es = map read (filter (has_name name) es)

-- what these elements spell, kind by kind
abbrev pub parts_among : List Element → PageParts
parts_among es = record {
  head = record { name = option_map (label_read tt) (find (has_name (codes "name")) es); opaque = filter is_opaque_part es };
  declarations = read_among (codes "declaration") declarations_label es;
  places = read_among (codes "place") place_read es;
  transitions = read_among (codes "transition") transition_read es;
  place_refs = read_among (codes "referencePlace") reference_read es;
  transition_refs = read_among (codes "referenceTransition") reference_read es;
  arcs = read_among (codes "arc") arc_read es;
  pages = read_among (codes "page") page_read es;
}

-- the things of one kind, with what one more element spells, where it has the name of that kind
abbrev pub read_next : {X : Type 0} → List ℕ → (Element → X) → Element → List X → List X
read_next name read e before = if has_name name e then before ++ read e ∷ [] else before

-- all of them, with what one more element spells
abbrev pub with_part : Element → PageParts → PageParts
with_part e p = record {
  head = record {
    name = if has_name (codes "name") e then option_or p.head.name (Some (label_read tt e)) else p.head.name;
    opaque = if is_opaque_part e then p.head.opaque ++ e ∷ [] else p.head.opaque;
  };
  declarations = read_next (codes "declaration") declarations_label e p.declarations;
  places = read_next (codes "place") place_read e p.places;
  transitions = read_next (codes "transition") transition_read e p.transitions;
  place_refs = read_next (codes "referencePlace") reference_read e p.place_refs;
  transition_refs = read_next (codes "referenceTransition") reference_read e p.transition_refs;
  arcs = read_next (codes "arc") arc_read e p.arcs;
  pages = read_next (codes "page") page_read e p.pages;
}
