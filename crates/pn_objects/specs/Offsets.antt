-- Nets and their parts with each offset in them set to 0, also in the parts that are kept as they are: two nets are the same net where these are equal.
use Rattle.std.specs.Prelude.{◌≡◌, List, map}
use Rattle.std.specs.Option.{option_map}
use Rattle.pn_syntax.specs.declared.declaration.Declaration.{Declaration}
use Rattle.pn_syntax.specs.Offsets.{declaration_without_offsets, sort_without_offsets}
use Rattle.pn_syntax.specs.TermOffsets.{term_without_offsets}
use Rattle.pn_markup.specs.Offsets.{without_offsets}
use Rattle.pn_objects.specs.declared.label.Head.{Head}
use Rattle.pn_objects.specs.declared.label.Label.{Label}
use Rattle.pn_objects.specs.declared.net.Net.{Net}
use Rattle.pn_objects.specs.declared.net.Page.{Page}
use Rattle.pn_objects.specs.declared.net.Page.TheOpen as layer
use Rattle.pn_objects.specs.declared.net.Page.TheViews.{roll-Page}
use Rattle.pn_objects.specs.declared.net.Page.TheFolds.{fold-Page}
use Rattle.pn_objects.specs.declared.object.Arc.{Arc}
use Rattle.pn_objects.specs.declared.object.Place.{Place}
use Rattle.pn_objects.specs.declared.object.Reference.{Reference}
use Rattle.pn_objects.specs.declared.object.Transition.{Transition}

-- a label that says a number or nothing
abbrev pub label_without_offsets : {T : Type 0} → Label T → Label T
label_without_offsets l = record { value = l.value; text = l.text; opaque = map without_offsets l.opaque; at = 0 }

-- a label that says something in which offsets stand
abbrev pub label_with : {T : Type 0} → (T → T) → Label T → Label T
label_with clear l = record { value = clear l.value; text = l.text; opaque = map without_offsets l.opaque; at = 0 }

abbrev pub head_without_offsets : Head → Head
head_without_offsets h = record { name = option_map label_without_offsets h.name; opaque = map without_offsets h.opaque }

abbrev pub place_without_offsets : Place → Place
place_without_offsets p = record { id = p.id; head = head_without_offsets p.head; marking = option_map label_without_offsets p.marking; sort = option_map (label_with sort_without_offsets) p.sort; hl_marking = option_map (label_with term_without_offsets) p.hl_marking; at = 0 }

abbrev pub transition_without_offsets : Transition → Transition
transition_without_offsets t = record { id = t.id; head = head_without_offsets t.head; condition = option_map (label_with term_without_offsets) t.condition; at = 0 }

abbrev pub arc_without_offsets : Arc → Arc
arc_without_offsets a = record { id = a.id; head = head_without_offsets a.head; source = a.source; target = a.target; weight = option_map label_without_offsets a.weight; inscription = option_map (label_with term_without_offsets) a.inscription; at = 0 }

abbrev pub reference_without_offsets : Reference → Reference
reference_without_offsets r = record { id = r.id; head = head_without_offsets r.head; refers = r.refers; at = 0 }

-- the declarations of one `declaration`
abbrev pub declarations_without_offsets : Label (List Declaration) → Label (List Declaration)
declarations_without_offsets = label_with (map declaration_without_offsets)

-- one page, with its subpages as they are given
abbrev pub page_at_zero : layer.Page-F Page → Page
page_at_zero p = roll-Page (record p { head = head_without_offsets p.head; declarations = map declarations_without_offsets p.declarations; places = map place_without_offsets p.places; transitions = map transition_without_offsets p.transitions; place_refs = map reference_without_offsets p.place_refs; transition_refs = map reference_without_offsets p.transition_refs; arcs = map arc_without_offsets p.arcs; at = 0 })

abbrev pub page_without_offsets : Page → Page
page_without_offsets = fold-Page Page page_at_zero

abbrev pub net_without_offsets : Net → Net
net_without_offsets n = record { id = n.id; kind = n.kind; prefixes = n.prefixes; head = head_without_offsets n.head; declarations = map declarations_without_offsets n.declarations; pages = map page_without_offsets n.pages; at = 0 }

-- two nets are the same net: they are equal but for offsets
abbrev pub IsSameNet : Net → Net → Type 0
IsSameNet n m = net_without_offsets n ≡ net_without_offsets m
