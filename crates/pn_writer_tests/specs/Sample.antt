-- A net with each object of place/transition nets, which tests write.
use Rattle.std.specs.Prelude.{[], ◌∷◌, codes, None, Some}
use Rattle.pn_operators.specs.declared.kind.Kind.TheVariants as kinds
use Rattle.pn_tree.specs.declared.element.Element.{Element}
use Rattle.pn_objects.specs.declared.label.Head.{Head}
use Rattle.pn_objects.specs.declared.net.Net.{Net}
use Rattle.pn_objects.specs.declared.net.Page.{Page}
use Rattle.pn_objects.specs.declared.net.Page.TheViews.{roll-Page}
use Rattle.pn_objects.specs.declared.object.Arc.{Arc}
use Rattle.pn_objects.specs.declared.object.Place.{Place}
use Rattle.pn_objects.specs.declared.object.Reference.{Reference}
use Rattle.pn_objects.specs.declared.object.Transition.{Transition}

abbrev pub no_head : Head
no_head = record { name = None; opaque = [] }

-- the part `graphics` with an offset of its own
abbrev pub graphics : Element
graphics = record { name = codes "graphics"; at = 7; attrs = []; kids = [] }

abbrev pub sample_head : Head
sample_head = record { name = Some (record { value = tt; text = Some (codes "a<b"); opaque = []; at = 5 }); opaque = graphics ∷ [] }

abbrev pub sample_place : Place
sample_place = record { id = codes "a"; head = sample_head; marking = Some (record { value = 3; text = None; opaque = []; at = 6 }); sort = None; hl_marking = None; at = 4 }

abbrev pub sample_transition : Transition
sample_transition = record { id = codes "t"; head = no_head; condition = None; at = 8 }

abbrev pub sample_arc : Arc
sample_arc = record { id = codes "u"; head = no_head; source = codes "r"; target = codes "t"; weight = None; inscription = None; at = 9 }

abbrev pub sample_reference : Reference
sample_reference = record { id = codes "r"; head = no_head; refers = codes "a"; at = 9 }

abbrev pub sample_page : Page
sample_page = roll-Page (record { id = codes "g"; head = no_head; declarations = []; places = sample_place ∷ []; transitions = sample_transition ∷ []; place_refs = sample_reference ∷ []; transition_refs = []; arcs = sample_arc ∷ []; pages = []; at = 3 })

abbrev pub sample_net : Net
sample_net = record { id = codes "n"; kind = kinds.PtNet; prefixes = record { name = codes "xmlns:x"; address = codes "urn:x" } ∷ []; head = no_head; declarations = []; pages = sample_page ∷ []; at = 2 }
