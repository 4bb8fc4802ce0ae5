-- A coloured net with each label and each declaration, which tests write.
use Rattle.std.specs.Prelude.{List, [], ◌∷◌, codes, true, None, Some}
use Rattle.pn_operators.specs.declared.kind.Kind.TheVariants as kinds
use Rattle.pn_syntax.specs.declared.declaration.ConstExpr.TheVariants as values
use Rattle.pn_syntax.specs.declared.declaration.Declaration.{Declaration}
use Rattle.pn_syntax.specs.declared.declaration.Declaration.TheVariants as declared
use Rattle.pn_syntax.specs.declared.declaration.PartElement.{PartElement}
use Rattle.pn_syntax.specs.declared.declaration.SortBody.TheVariants as bodies
use Rattle.pn_syntax.specs.declared.sort_expr.SortExpr.{SortExpr}
use Rattle.pn_syntax.specs.declared.term.Term.{Term}
use Rattle.pn_syntax.specs.declared.term.TermNode.TheVariants as terms
use Rattle.pn_objects.specs.declared.label.Label.{Label}
use Rattle.pn_objects.specs.declared.net.Net.{Net}
use Rattle.pn_objects.specs.declared.net.Page.{Page}
use Rattle.pn_objects.specs.declared.net.Page.TheViews.{roll-Page}
use Rattle.pn_objects.specs.declared.object.Arc.{Arc}
use Rattle.pn_objects.specs.declared.object.Place.{Place}
use Rattle.pn_objects.specs.declared.object.Transition.{Transition}
use Rattle.pn_writer_tests.specs.Parts.{sample_user, sample_all}
use Rattle.pn_writer_tests.specs.Sample.{no_head, graphics}

abbrev pub colours : Declaration
colours = declared.Named (codes "c") (Some (codes "C")) (bodies.Cyclic (record { id = codes "c1"; name = None; at = 20 } ∷ [])) 21

abbrev pub variable_x : Declaration
variable_x = declared.Variable (codes "x") None sample_user 22

abbrev pub elements_of_c : List PartElement
elements_of_c = record { id = codes "e"; name = Some (codes ""); values = values.Named (codes "c1") 23 ∷ []; at = 24 } ∷ []

abbrev pub parts_of_c : Declaration
parts_of_c = declared.Partition (codes "q") None sample_user elements_of_c 25

abbrev pub coloured_declarations : Label (List Declaration)
coloured_declarations = record { value = colours ∷ variable_x ∷ parts_of_c ∷ []; text = Some (codes ""); opaque = graphics ∷ []; at = 26 }

abbrev pub truth : Term
truth = record { at = 27; node = terms.Bool true }

abbrev pub x_itself : Term
x_itself = record { at = 28; node = terms.Variable (codes "x") }

abbrev pub type_of_a : Label SortExpr
type_of_a = record { value = sample_user; text = Some (codes "C"); opaque = graphics ∷ []; at = 29 }

abbrev pub plain_label : Term → Label Term
plain_label term = record { value = term; text = None; opaque = []; at = 30 }

abbrev pub coloured_place : Place
coloured_place = record { id = codes "a"; head = no_head; marking = None; sort = Some type_of_a; hl_marking = Some (plain_label sample_all); at = 31 }

abbrev pub guarded : Transition
guarded = record { id = codes "t"; head = no_head; condition = Some (plain_label truth); at = 32 }

abbrev pub coloured_arc : Arc
coloured_arc = record { id = codes "u"; head = no_head; source = codes "a"; target = codes "t"; weight = None; inscription = Some (plain_label x_itself); at = 33 }

abbrev pub coloured_page : Page
coloured_page = roll-Page (record { id = codes "g"; head = no_head; declarations = []; places = coloured_place ∷ []; transitions = guarded ∷ []; place_refs = []; transition_refs = []; arcs = coloured_arc ∷ []; pages = []; at = 34 })

abbrev pub coloured_net : Net
coloured_net = record { id = codes "n"; kind = kinds.Symmetric; prefixes = []; head = no_head; declarations = coloured_declarations ∷ []; pages = coloured_page ∷ []; at = 35 }
