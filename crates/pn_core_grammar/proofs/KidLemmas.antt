-- The elements among kids, one kid after the other.
use Rattle.std.proofs.Common.{◌≡◌, ℕ, ◌+◌, List, [], ◌∷◌, ◌++◌, take, Some, ap, ◌∙◌, append-nil}
use Rattle.std.specs.List.{cons_option, slice_get}
use Rattle.std.proofs.lemmas.List.Elements.{filter_map-append}
use Rattle.pn_tree.proofs.CopyLemmas.{take_next}
use Rattle.pn_tree.proofs.ElementLemmas.{out_element, out_text}
use Rattle.pn_tree.specs.declared.element.Element.{Element}
use Rattle.pn_tree.specs.declared.element.Child.{Child}
use Rattle.pn_tree.specs.declared.element.Child.TheVariants as children
use Rattle.pn_tree.specs.declared.element.Child.TheViews.{out-Child}
use Rattle.pn_spelling.specs.Parts.{element_in_layer, elements_among}

-- one kid more
among_next : (ks : List Child) (i : ℕ) (k : Child) → slice_get ks i ≡ Some k → elements_among (take (i + 1) ks) ≡ elements_among (take i ks) ++ elements_among (k ∷ [])
among_next ks i k is = ap elements_among (take_next ks i k is) ∙ filter_map-append (λ k. element_in_layer (out-Child k)) (take i ks) (k ∷ [])

-- one element more
pub element_next : (ks : List Child) (i : ℕ) (x : Element) → slice_get ks i ≡ Some (children.Element x) → elements_among (take (i + 1) ks) ≡ elements_among (take i ks) ++ x ∷ []
element_next ks i x is =
    among_next ks i (children.Element x) is ∙ ap (λ l. elements_among (take i ks) ++ cons_option (element_in_layer l) []) (out_element x)

-- a text changes nothing
pub text_next : (ks : List Child) (i : ℕ) (t : List ℕ) → slice_get ks i ≡ Some (children.Text t) → elements_among (take (i + 1) ks) ≡ elements_among (take i ks)
text_next ks i t is =
    among_next ks i (children.Text t) is ∙ ap (λ l. elements_among (take i ks) ++ cons_option (element_in_layer l) []) (out_text t)
    ∙ append-nil (elements_among (take i ks))
