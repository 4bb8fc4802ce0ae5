-- The equations of trees without offsets, and of the offsets in a tree.
use Rattle.std.proofs.Common.{◌≡◌, ℕ, List, [], ◌∷◌, ◌++◌, map, refl, sym, ap, ◌∙◌}
use Rattle.std.specs.List.{flat_map}
use Rattle.pn_tree.specs.declared.element.Element.{Element}
use Rattle.pn_tree.specs.declared.element.Child.{Child}
use Rattle.pn_tree.specs.declared.element.Child.TheOpen as layer
use Rattle.pn_tree.specs.declared.element.Child.TheVariants as children
use Rattle.pn_tree.specs.declared.element.Child.TheViews.{roll-Child}
use Rattle.pn_tree.specs.declared.element.Child.TheVariants.{rolls-Element, rolls-Text}
use Rattle.pn_tree.specs.declared.element.Child.TheFolds.{fold-roll-Child, fold_out-Element}
use Rattle.pn_markup.specs.Offsets.{at_zero, without_offsets, kid_without_offsets, offsets_of_kid, own_first, offsets_of, kid_offsets}

pub without_offsets_is : (e : Element) → without_offsets e ≡ record { name = e.name; at = 0; attrs = e.attrs; kids = map kid_without_offsets e.kids }
without_offsets_is e = fold_out-Element Child Element roll-Child at_zero e ∙ refl

pub kid_without-element : (e : Element) → kid_without_offsets (children.Element e) ≡ children.Element (without_offsets e)
kid_without-element e =
    ap kid_without_offsets (sym (rolls-Element e)) ∙ fold-roll-Child Child Element roll-Child at_zero (layer.Element e) ∙ rolls-Element (without_offsets e)

pub offsets_are : (e : Element) → offsets_of e ≡ e.at ∷ flat_map kid_offsets e.kids
offsets_are e = fold_out-Element (List ℕ) (List ℕ) offsets_of_kid own_first e ∙ ap (λ l. e.at ∷ l) (flat e.kids)
  where
    flat : (ks : List Child) → flat_map (λ offsets. offsets) (map kid_offsets ks) ≡ flat_map kid_offsets ks
    flat [] = refl
    flat (k ∷ ks) = ap (λ l. kid_offsets k ++ l) (flat ks)

pub kid_offsets-element : (e : Element) → kid_offsets (children.Element e) ≡ offsets_of e
kid_offsets-element e = ap kid_offsets (sym (rolls-Element e)) ∙ fold-roll-Child (List ℕ) (List ℕ) offsets_of_kid own_first (layer.Element e)

pub kid_offsets-text : (t : List ℕ) → kid_offsets (children.Text t) ≡ []
kid_offsets-text t = ap kid_offsets (sym (rolls-Text t)) ∙ fold-roll-Child (List ℕ) (List ℕ) offsets_of_kid own_first (layer.Text t)
