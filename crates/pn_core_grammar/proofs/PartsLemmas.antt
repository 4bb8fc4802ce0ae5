-- What stands in a page or a net, with one element more.
use Rattle.std.proofs.Common.{◌≡◌, ℕ, Bool, true, false, List, [], ◌∷◌, ◌++◌, ◌+◌, map, take, codes, Option, None, Some, refl, sym, ap, ◌∙◌, cond}
use Rattle.std.specs.List.{filter, find, slice_get}
use Rattle.std.specs.Option.{option_map, option_or}
use Rattle.std.proofs.lemmas.List.{map-append}
use Rattle.std.proofs.lemmas.List.Folds.{find-append}
use Rattle.pn_syntax.specs.declared.declaration.Declaration.{Declaration}
use Rattle.pn_objects.specs.declared.label.Label.{Label}
use Rattle.pn_objects.specs.declared.net.Page.{Page}
use Rattle.pn_objects.specs.declared.net.Page.TheViews.{roll-Page}
use Rattle.pn_objects.specs.declared.object.Arc.{Arc}
use Rattle.pn_objects.specs.declared.object.Place.{Place}
use Rattle.pn_objects.specs.declared.object.Reference.{Reference}
use Rattle.pn_objects.specs.declared.object.Transition.{Transition}
use Rattle.pn_tree.specs.declared.element.Element.{Element}
use Rattle.pn_tree.specs.declared.element.Child.{Child}
use Rattle.pn_tree.specs.declared.element.Child.TheVariants as children
use Rattle.pn_spelling.specs.Parts.{attribute_of, child_elements, elements_among, has_name}
use Rattle.pn_spelling.specs.ReadNets.{arc_read, declarations_label, is_opaque_part, label_read, page_read, place_read, reference_read, transition_read}
use Rattle.pn_core_grammar.specs.declared.page.PageParts.{PageParts}
use Rattle.pn_core_grammar.specs.Pages.{parts_among, read_among, read_next, with_part}
use Rattle.pn_spelling.proofs.PageLemmas.{page_read_is}
use Rattle.pn_core_grammar.proofs.InsideLemmas.{filter_next}
use Rattle.pn_core_grammar.proofs.KidLemmas.{element_next, text_next}

-- the things of one kind
among_next : {X : Type 0} (name : List ℕ) (read : Element → X) (es : List Element) (e : Element) → read_among name read (es ++ e ∷ []) ≡ read_next name read e (read_among name read es)
among_next name read es e = ap (map read) (filter_next (has_name name) es e) ∙ by (has_name name e)
  where
    by : (b : Bool) → map read (cond b (filter (has_name name) es ++ e ∷ []) (filter (has_name name) es)) ≡ cond b (read_among name read es ++ read e ∷ []) (read_among name read es)
    by true = map-append read (filter (has_name name) es) (e ∷ [])
    by false = refl

-- the first of a name
first_read_next : {X : Type 0} (name : List ℕ) (read : Element → X) (es : List Element) (e : Element)
    → option_map read (find (has_name name) (es ++ e ∷ [])) ≡ cond (has_name name e) (option_or (option_map read (find (has_name name) es)) (Some (read e))) (option_map read (find (has_name name) es))
first_read_next name read es e = ap (option_map read) (find-append (has_name name) es (e ∷ [])) ∙ by (find (has_name name) es) (has_name name e)
  where
    by : (o : Option Element) (b : Bool) → option_map read (option_or o (cond b (Some e) None)) ≡ cond b (option_or (option_map read o) (Some (read e))) (option_map read o)
    by None true = refl
    by None false = refl
    by (Some x) true = refl
    by (Some x) false = refl

abbrev made_parts : Option (Label (Unit {0})) → List Element → List (Label (List Declaration)) → List Place → List Transition → List Reference → List Reference → List Arc → List Page → PageParts
made_parts name opaque declarations places transitions place_refs transition_refs arcs pages = record {
  head = record { name = name; opaque = opaque };
  declarations = declarations;
  places = places;
  transitions = transitions;
  place_refs = place_refs;
  transition_refs = transition_refs;
  arcs = arcs;
  pages = pages;
}

same_parts : (n n' : Option (Label (Unit {0}))) (o o' : List Element) (d d' : List (Label (List Declaration))) (p p' : List Place) (t t' : List Transition) (q q' u u' : List Reference)
    (a a' : List Arc) (g g' : List Page) → n ≡ n' → o ≡ o' → d ≡ d' → p ≡ p' → t ≡ t' → q ≡ q' → u ≡ u' → a ≡ a' → g ≡ g'
    → made_parts n o d p t q u a g ≡ made_parts n' o' d' p' t' q' u' a' g'
same_parts n n' o o' d d' p p' t t' q q' u u' a a' g g' en eo ed ep et eq eu ea eg = cc

-- one element more
pub parts_next : (es : List Element) (e : Element) → parts_among (es ++ e ∷ []) ≡ with_part e (parts_among es)
parts_next es e =
    same_parts _ _ _ _ _ _ _ _ _ _ _ _ _ _ _ _ _ _
    (first_read_next (codes "name") (label_read tt) es e) (filter_next is_opaque_part es e) (among_next (codes "declaration") declarations_label es e) (among_next (codes "place") place_read es e)
    (among_next (codes "transition") transition_read es e) (among_next (codes "referencePlace") reference_read es e) (among_next (codes "referenceTransition") reference_read es e)
    (among_next (codes "arc") arc_read es e) (among_next (codes "page") page_read es e)

-- the page with this id and these parts
abbrev pub page_from : List ℕ → PageParts → ℕ → Page
page_from id p at = roll-Page (record {
  id = id;
  head = p.head;
  declarations = p.declarations;
  places = p.places;
  transitions = p.transitions;
  place_refs = p.place_refs;
  transition_refs = p.transition_refs;
  arcs = p.arcs;
  pages = p.pages;
  at = at;
})

same_page : (id id' : List ℕ) (p p' : PageParts) (at at' : ℕ) → id ≡ id' → p ≡ p' → at ≡ at' → page_from id p at ≡ page_from id' p' at'
same_page id id' p p' at at' f g h = ap (λ x. page_from x p at) f ∙ ap (λ x. page_from id' x at) g ∙ ap (λ x. page_from id' p' x) h

-- the page that an element spells, by its parts
pub page_made : (e : Element) (id : List ℕ) (p : PageParts) (at : ℕ) → id ≡ attribute_of (codes "id") e → p ≡ parts_among (child_elements e) → at ≡ e.at → page_from id p at ≡ page_read e
page_made e id p at f g h = same_page id (attribute_of (codes "id") e) p (parts_among (child_elements e)) at e.at f g h ∙ sym (page_read_is e)

-- one kid more
pub parts_element : (ks : List Child) (i : ℕ) (x : Element) (p q : PageParts) → slice_get ks i ≡ Some (children.Element x) → p ≡ parts_among (elements_among (take i ks)) → q ≡ with_part x p
    → q ≡ parts_among (elements_among (take (i + 1) ks))
parts_element ks i x p q is before next = next ∙ ap (with_part x) before ∙ sym (parts_next (elements_among (take i ks)) x) ∙ ap parts_among (sym (element_next ks i x is))

pub parts_text : (ks : List Child) (i : ℕ) (t : List ℕ) (p : PageParts) → slice_get ks i ≡ Some (children.Text t) → p ≡ parts_among (elements_among (take i ks))
    → p ≡ parts_among (elements_among (take (i + 1) ks))
parts_text ks i t p is before = before ∙ ap parts_among (sym (text_next ks i t is))
