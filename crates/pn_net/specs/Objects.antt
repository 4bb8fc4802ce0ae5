-- The objects and declarations of a net in the order of their numbers: page by page, those of a page before those of the pages in it (ISO/IEC 15909-2, pages).
use Rattle.std.specs.Prelude.{List, ◌++◌}
use Rattle.std.specs.List.{flat_map}
use Rattle.pn_objects.specs.declared.label.Label.{Label}
use Rattle.pn_objects.specs.declared.net.Net.{Net}
use Rattle.pn_objects.specs.declared.net.Page.{Page}
use Rattle.pn_objects.specs.declared.net.Page.TheOpen as layer
use Rattle.pn_objects.specs.declared.net.Page.TheFolds.{fold-Page}
use Rattle.pn_objects.specs.declared.object.Arc.{Arc}
use Rattle.pn_objects.specs.declared.object.Place.{Place}
use Rattle.pn_objects.specs.declared.object.Reference.{Reference}
use Rattle.pn_objects.specs.declared.object.Transition.{Transition}
use Rattle.pn_syntax.specs.declared.declaration.Declaration.{Declaration}

-- what stands in a page: its own, then what stands in each page in it
abbrev pub in_page : {A : Type 0} → (layer.Page-F (List A) → List A) → Page → List A
in_page {A} own = fold-Page (List A) (λ p. own p ++ flat_map (λ inner. inner) p.pages)

-- what stands in the pages of a net
abbrev pub in_pages : {A : Type 0} → (layer.Page-F (List A) → List A) → Net → List A
in_pages own n = flat_map (in_page own) n.pages

abbrev pub net_places : Net → List Place
net_places = in_pages (λ p. p.places)

abbrev pub net_transitions : Net → List Transition
net_transitions = in_pages (λ p. p.transitions)

abbrev pub net_arcs : Net → List Arc
net_arcs = in_pages (λ p. p.arcs)

abbrev pub net_place_references : Net → List Reference
net_place_references = in_pages (λ p. p.place_refs)

abbrev pub net_transition_references : Net → List Reference
net_transition_references = in_pages (λ p. p.transition_refs)

-- what some elements `declaration` declare, in order
abbrev pub declared_by : List (Label (List Declaration)) → List Declaration
declared_by labels = flat_map (λ l. l.value) labels

-- the declarations of a net: its own first, then those of its pages
abbrev pub net_declarations : Net → List Declaration
net_declarations n = declared_by n.declarations ++ in_pages (λ p. declared_by p.declarations) n
