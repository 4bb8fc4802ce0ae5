-- The equations of elements and of their texts.
use Rattle.std.proofs.Common.{◌≡◌, ℕ, Bool, true, false, not, ◌&&◌, List, [], ◌∷◌, ◌++◌, codes, map, refl, sym, ap, ◌∙◌}
use Rattle.std.specs.List.{flat_map}
use Rattle.pn_tree.specs.Elements.{are_apart, begins_with_text, is_text_kid, is_kid, is_kid_layer, is_text_layer, is_kid_text}
use Rattle.pn_tree.specs.Canonical.{attr_text, content_text, child_step, element_step, element_text, child_text, escaped_text}
use Rattle.pn_tree.specs.declared.element.Element.{Element}
use Rattle.pn_tree.specs.declared.element.Child.TheOpen as layer
use Rattle.pn_tree.specs.declared.element.Child.TheVariants as children
use Rattle.pn_tree.specs.declared.element.Child.TheViews.{out-Child, out-roll-Child}
use Rattle.pn_tree.specs.declared.element.Child.TheVariants.{rolls-Element, rolls-Text}
use Rattle.pn_tree.specs.declared.element.Child.TheFolds.{fold-roll-Child, fold_out-Element}

pub out_element : (e : Element) → out-Child (children.Element e) ≡ layer.Element e
out_element e = ap out-Child (sym (rolls-Element e)) ∙ out-roll-Child (layer.Element e)

pub out_text : (t : List ℕ) → out-Child (children.Text t) ≡ layer.Text t
out_text t = ap out-Child (sym (rolls-Text t)) ∙ out-roll-Child (layer.Text t)

pub is_text_kid-element : (e : Element) → is_text_kid (children.Element e) ≡ false
is_text_kid-element e = ap is_text_layer (out_element e)

pub is_text_kid-text : (t : List ℕ) → is_text_kid (children.Text t) ≡ true
is_text_kid-text t = ap is_text_layer (out_text t)

-- of elements alone no two kids are texts side by side
pub elements_apart : (es : List Element) → are_apart (map children.Element es) ≡ true
elements_apart [] = refl
elements_apart (e ∷ es) = ap (λ b. not (b && begins_with_text (map children.Element es)) && are_apart (map children.Element es)) (is_text_kid-element e) ∙ elements_apart es

pub is_kid-element : (test : Element → Bool) (e : Element) → is_kid test (children.Element e) ≡ test e
is_kid-element test e = ap (is_kid_layer test) (out_element e)

pub is_kid-text : (test : Element → Bool) (t : List ℕ) → is_kid test (children.Text t) ≡ is_kid_text t
is_kid-text test t = ap (is_kid_layer test) (out_text t)

pub element_text_is : (e : Element) → element_text e ≡ codes "<" ++ (e.name ++ (flat_map attr_text e.attrs ++ content_text e.name (map child_text e.kids)))
element_text_is e = fold_out-Element (List ℕ) (List ℕ) child_step element_step e ∙ refl

pub child_text-element : (e : Element) → child_text (children.Element e) ≡ element_text e
child_text-element e = ap child_text (sym (rolls-Element e)) ∙ fold-roll-Child (List ℕ) (List ℕ) child_step element_step (layer.Element e)

pub child_text-text : (t : List ℕ) → child_text (children.Text t) ≡ escaped_text t
child_text-text t = ap child_text (sym (rolls-Text t)) ∙ fold-roll-Child (List ℕ) (List ℕ) child_step element_step (layer.Text t)
