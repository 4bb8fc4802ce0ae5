-- The coloured net that tests write can be written.
use Rattle.std.proofs.Common.{◌≡◌, ℕ, suc, true, List, [], ◌∷◌, codes, None, Some, refl, sym, ap, ◌∙◌, subst}
use Rattle.pn_operators.specs.declared.kind.Kind.TheVariants as kinds
use Rattle.pn_syntax.specs.declared.declaration.ConstExpr.TheVariants as values
use Rattle.pn_syntax.specs.declared.declaration.SortBody.TheVariants as bodies
use Rattle.pn_syntax.specs.declared.term.Term.{Term}
use Rattle.pn_text.specs.Characters.{is_name}
use Rattle.pn_syntax.specs.declared.term.TermNode.TheOpen as term_layer
use Rattle.pn_syntax.specs.declared.term.TermNode.TheVariants.{rolls-Bool, rolls-Variable}
use Rattle.pn_syntax.specs.declared.term.TermNode.TheViews.{out-TermNode, out-roll-TermNode}
use Rattle.pn_tree.specs.Elements.{is_element}
use Rattle.pn_tree.specs.declared.element.Element.{Element}
use Rattle.pn_objects.specs.declared.net.Page.{Page}
use Rattle.pn_objects.specs.declared.net.Page.TheOpen as layer
use Rattle.pn_objects.specs.declared.net.Page.TheFolds.{fold-roll-Page}
use Rattle.pn_shape.specs.Numbers.{address_of}
use Rattle.pn_spelling.specs.Writing.{attribute, enclosing, text_element}
use Rattle.pn_spelling.specs.WriteSorts.{sort_element}
use Rattle.pn_spelling.specs.WriteTerms.{term_element}
use Rattle.pn_spelling.specs.WriteDeclarations.{named_attrs, declaration_element, declarations_element, body_element, constant_element, value_element, part_element}
use Rattle.pn_spelling.specs.WriteNets.{id_attr, label_element, declaration_label, root_attrs, page_step, page_element, net_element, place_element, transition_element, arc_element}
use Rattle.pn_spelling.specs.Writable.{IsWritable}
use Rattle.pn_spelling.proofs.WriteLemmas.{term_at}
use Rattle.pn_spelling.proofs.WritingLemmas.{element_fits, text_fits, fits_too}
use Rattle.pn_writer_tests.specs.Parts.{sample_user, sample_all}
use Rattle.pn_writer_tests.specs.Sample.{no_head, graphics}
use Rattle.pn_writer_tests.specs.Coloured.{colours, variable_x, parts_of_c, coloured_declarations, truth, x_itself, type_of_a, plain_label, coloured_place, guarded, coloured_arc, coloured_page, coloured_net}
use Rattle.pn_writer_tests.proofs.SampleLemmas.{graphics_fit}
use Rattle.pn_writer_tests.proofs.PartLemmas.{user_fits, all_fits}

abbrev feconstant : Element
feconstant = constant_element (record { id = codes "c1"; name = None; at = 20 })

abbrev enumeration : Element
enumeration = body_element (bodies.Cyclic (record { id = codes "c1"; name = None; at = 20 } ∷ []))

enumeration_fits : is_element 250 enumeration ≡ true
enumeration_fits = element_fits 249 (codes "cyclicenumeration") 0 [] (feconstant ∷ []) refl refl
    (fits_too 249 feconstant [] (element_fits 248 (codes "feconstant") 0 (named_attrs (codes "c1") None) [] refl refl refl) refl)

colours_fit : is_element 251 (declaration_element colours) ≡ true
colours_fit = element_fits 250 (codes "namedsort") 0 (named_attrs (codes "c") (Some (codes "C"))) (enumeration ∷ []) refl refl (fits_too 250 enumeration [] enumeration_fits refl)

variable_fits : is_element 251 (declaration_element variable_x) ≡ true
variable_fits = element_fits 250 (codes "variabledecl") 0 (named_attrs (codes "x") None) (sort_element sample_user ∷ []) refl refl (fits_too 250 (sort_element sample_user) [] (user_fits 249) refl)

abbrev listed : Element
listed = value_element (values.Named (codes "c1") 23)

abbrev part : Element
part = part_element (record { id = codes "e"; name = Some (codes ""); values = values.Named (codes "c1") 23 ∷ []; at = 24 })

part_fits : is_element 250 part ≡ true
part_fits = element_fits 249 (codes "partitionelement") 0 (named_attrs (codes "e") (Some (codes ""))) (listed ∷ []) refl refl
    (fits_too 249 listed [] (element_fits 248 (codes "useroperator") 0 (attribute (codes "declaration") (codes "c1") ∷ []) [] refl refl refl) refl)

partition_fits : is_element 251 (declaration_element parts_of_c) ≡ true
partition_fits = element_fits 250 (codes "partition") 0 (named_attrs (codes "q") None) (sort_element sample_user ∷ part ∷ []) refl refl
    (fits_too 250 (sort_element sample_user) (part ∷ []) (user_fits 249) (fits_too 250 part [] part_fits refl))

abbrev declared_all : Element
declared_all = declarations_element coloured_declarations.value

declared_fits : is_element 252 declared_all ≡ true
declared_fits = element_fits 251 (codes "declarations") 0 [] (declaration_element colours ∷ declaration_element variable_x ∷ declaration_element parts_of_c ∷ []) refl refl
    (fits_too 251 (declaration_element colours) (declaration_element variable_x ∷ declaration_element parts_of_c ∷ []) colours_fit
    (fits_too 251 (declaration_element variable_x) (declaration_element parts_of_c ∷ []) variable_fits (fits_too 251 (declaration_element parts_of_c) [] partition_fits refl)))

-- an element in a `structure`
structure_fits : (m : ℕ) (e : Element) → is_element m e ≡ true → is_element (suc m) (enclosing (codes "structure") e) ≡ true
structure_fits m e h = element_fits m (codes "structure") 0 [] (e ∷ []) refl refl (fits_too m e [] h refl)

declaration_fits : is_element 254 (declaration_label coloured_declarations) ≡ true
declaration_fits = element_fits 253 (codes "declaration") 0 [] (text_element [] ∷ enclosing (codes "structure") declared_all ∷ graphics ∷ []) refl refl
    (fits_too 253 (text_element []) (enclosing (codes "structure") declared_all ∷ graphics ∷ []) (text_fits 252 [] refl)
    (fits_too 253 (enclosing (codes "structure") declared_all) (graphics ∷ []) (structure_fits 252 declared_all declared_fits) (fits_too 253 graphics [] (graphics_fit 252) refl)))

truth_fits : is_element 250 (term_element truth) ≡ true
truth_fits =
    subst (λ (e : Element). is_element 250 e ≡ true) (sym (term_at truth (term_layer.Bool true) (ap out-TermNode (sym (rolls-Bool true)) ∙ out-roll-TermNode (term_layer.Bool true))))
    (element_fits 249 (codes "booleanconstant") 0 (attribute (codes "value") (codes "true") ∷ []) [] refl refl refl)

x_fits : is_element 250 (term_element x_itself) ≡ true
x_fits =
    subst (λ (e : Element). is_element 250 e ≡ true) (sym (term_at x_itself (term_layer.Variable (codes "x")) (ap out-TermNode (sym (rolls-Variable (codes "x"))) ∙ out-roll-TermNode (term_layer.Variable (codes "x")))))
    (element_fits 249 (codes "variable") 0 (attribute (codes "refvariable") (codes "x") ∷ []) [] refl refl refl)

-- a label with a term alone
label_fits : (name : List ℕ) (term : Term) → is_name name ≡ true → is_element 250 (term_element term) ≡ true → is_element 252 (label_element name term_element (plain_label term)) ≡ true
label_fits name term named h = element_fits 251 name 0 [] (enclosing (codes "structure") (term_element term) ∷ []) named refl
    (fits_too 251 (enclosing (codes "structure") (term_element term)) [] (structure_fits 250 (term_element term) h) refl)

abbrev typed : Element
typed = label_element (codes "type") sort_element type_of_a

type_fits : is_element 252 typed ≡ true
type_fits = element_fits 251 (codes "type") 0 [] (text_element (codes "C") ∷ enclosing (codes "structure") (sort_element sample_user) ∷ graphics ∷ []) refl refl
    (fits_too 251 (text_element (codes "C")) (enclosing (codes "structure") (sort_element sample_user) ∷ graphics ∷ []) (text_fits 250 (codes "C") refl)
    (fits_too 251 (enclosing (codes "structure") (sort_element sample_user)) (graphics ∷ []) (structure_fits 250 (sort_element sample_user) (user_fits 249)) (fits_too 251 graphics [] (graphics_fit 250) refl)))

abbrev marked : Element
marked = label_element (codes "hlinitialMarking") term_element (plain_label sample_all)

abbrev condition : Element
condition = label_element (codes "condition") term_element (plain_label truth)

abbrev inscription : Element
inscription = label_element (codes "hlinscription") term_element (plain_label x_itself)

abbrev place : Element
place = place_element coloured_place

abbrev transition : Element
transition = transition_element guarded

abbrev arc : Element
arc = arc_element coloured_arc

place_fits : is_element 253 place ≡ true
place_fits = element_fits 252 (codes "place") 0 (id_attr (codes "a") ∷ []) (typed ∷ marked ∷ []) refl refl
    (fits_too 252 typed (marked ∷ []) type_fits (fits_too 252 marked [] (label_fits (codes "hlinitialMarking") sample_all refl (all_fits 248)) refl))

transition_fits : is_element 253 transition ≡ true
transition_fits = element_fits 252 (codes "transition") 0 (id_attr (codes "t") ∷ []) (condition ∷ []) refl refl (fits_too 252 condition [] (label_fits (codes "condition") truth refl truth_fits) refl)

arc_fits : is_element 253 arc ≡ true
arc_fits = element_fits 252 (codes "arc") 0 (id_attr (codes "u") ∷ attribute (codes "source") (codes "a") ∷ attribute (codes "target") (codes "t") ∷ []) (inscription ∷ []) refl refl
    (fits_too 252 inscription [] (label_fits (codes "hlinscription") x_itself refl x_fits) refl)

page_fits : is_element 254 (page_element coloured_page) ≡ true
page_fits =
    subst (λ (e : Element). is_element 254 e ≡ true) (sym (fold-roll-Page Element page_step own))
    (element_fits 253 (codes "page") 0 (id_attr (codes "g") ∷ []) (place ∷ transition ∷ arc ∷ []) refl refl
    (fits_too 253 place (transition ∷ arc ∷ []) place_fits (fits_too 253 transition (arc ∷ []) transition_fits (fits_too 253 arc [] arc_fits refl))))
  where
    own : layer.Page-F Page
    own = record { id = codes "g"; head = no_head; declarations = []; places = coloured_place ∷ []; transitions = guarded ∷ []; place_refs = []; transition_refs = []; arcs = coloured_arc ∷ []; pages = []; at = 34 }

net_fits : is_element 255 (net_element coloured_net) ≡ true
net_fits = element_fits 254 (codes "net") 0 (id_attr (codes "n") ∷ attribute (codes "type") (address_of kinds.Symmetric) ∷ []) (declaration_label coloured_declarations ∷ page_element coloured_page ∷ []) refl refl
    (fits_too 254 (declaration_label coloured_declarations) (page_element coloured_page ∷ []) declaration_fits (fits_too 254 (page_element coloured_page) [] page_fits refl))

pub coloured_is_writable : IsWritable coloured_net
coloured_is_writable = record {
  tree = element_fits 255 (codes "pnml") 0 (root_attrs []) (net_element coloured_net ∷ []) refl refl (fits_too 255 (net_element coloured_net) [] net_fits refl);
  prefixes = refl;
}
