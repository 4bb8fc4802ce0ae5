-- Which elements that are made of parts may stand in a tree.
use Rattle.std.proofs.Common.{◌≡◌, ℕ, suc, true, ◌&&◌, not, List, [], ◌∷◌, map, refl, ap, ◌∙◌}
use Rattle.std.specs.List.{list_all}
use Rattle.pn_facts.proofs.Truths.{and_left, and_right, and_both}
use Rattle.pn_text.specs.Characters.{is_name, is_text}
use Rattle.pn_tree.specs.Elements.{are_attrs, are_apart, begins_with_text, is_kid, is_element}
use Rattle.pn_tree.specs.declared.element.Attr.{Attr}
use Rattle.pn_tree.specs.declared.element.Element.{Element}
use Rattle.pn_tree.specs.declared.element.Child.TheVariants as children
use Rattle.pn_tree.proofs.ElementLemmas.{elements_apart, is_text_kid-text, is_kid-element, is_kid-text}
use Rattle.pn_tree.proofs.TreeLemmas.{of_parts}
use Rattle.pn_spelling.specs.Writing.{text_element}

elements_fit : (m : ℕ) (es : List Element) → list_all (is_element m) es ≡ true → list_all (is_kid (is_element m)) (map children.Element es) ≡ true
elements_fit m [] h = refl
elements_fit m (e ∷ es) h =
    and_both (is_kid (is_element m) (children.Element e)) (list_all (is_kid (is_element m)) (map children.Element es))
    (is_kid-element (is_element m) e ∙ and_left (is_element m e) (list_all (is_element m) es) h)
    (elements_fit m es (and_right (is_element m e) (list_all (is_element m) es) h))

-- an element with elements in it
pub element_fits : (m : ℕ) (name : List ℕ) (at : ℕ) (attrs : List Attr) (es : List Element) → is_name name ≡ true → are_attrs attrs ≡ true → list_all (is_element m) es ≡ true
    → is_element (suc m) (record { name = name; at = at; attrs = attrs; kids = map children.Element es }) ≡ true
element_fits m name at attrs es is_named are h =
    of_parts m (record { name = name; at = at; attrs = attrs; kids = map children.Element es }) (record { name = is_named; attrs = are; apart = elements_apart es; kids = elements_fit m es h })

-- the element `text`
pub text_fits : (m : ℕ) (t : List ℕ) → is_text t ≡ true → is_element (suc m) (text_element t) ≡ true
text_fits m [] h = of_parts m (text_element []) (record { name = refl; attrs = refl; apart = refl; kids = refl })
text_fits m (b ∷ bs) h =
    of_parts m (text_element (b ∷ bs)) (record {
      name = refl;
      attrs = refl;
      apart = ap (λ t. not (t && begins_with_text []) && are_apart []) (is_text_kid-text (b ∷ bs));
      kids = and_both (is_kid (is_element m) (children.Text (b ∷ bs))) true (is_kid-text (is_element m) (b ∷ bs) ∙ h) refl;
    })

-- one element and others
pub fits_too : (m : ℕ) (e : Element) (es : List Element) → is_element m e ≡ true → list_all (is_element m) es ≡ true → list_all (is_element m) (e ∷ es) ≡ true
fits_too m e es = and_both (is_element m e) (list_all (is_element m) es)
