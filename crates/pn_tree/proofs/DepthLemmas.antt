-- How many levels an element and its kids have.
use Rattle.std.proofs.Common.{◌≡◌, ℕ, zero, suc, ◌<◌, ◌≤◌, Bool, true, List, [], ◌∷◌, map, Some, refl, sym, ap, ◌∙◌, arith}
use Rattle.std.specs.List.{list_all, slice_get}
use Rattle.pn_tree.specs.Elements.{is_kid, is_kid_layer, is_element}
use Rattle.pn_tree.specs.Depth.{greatest, kid_levels, element_levels, depth_of, kid_depth}
use Rattle.pn_tree.specs.declared.element.Element.{Element}
use Rattle.pn_tree.specs.declared.element.Child.{Child}
use Rattle.pn_tree.specs.declared.element.Child.TheOpen as layer
use Rattle.pn_tree.specs.declared.element.Child.TheVariants as children
use Rattle.pn_tree.specs.declared.element.Child.TheViews.{out-Child, roll-Child, roll-out-Child}
use Rattle.pn_tree.specs.declared.element.Child.TheVariants.{rolls-Element}
use Rattle.pn_tree.specs.declared.element.Child.TheFolds.{fold_out-Element, fold-roll-Child}
use Rattle.pn_tree.proofs.TreeLemmas.{parts_of, not_element-zero}
use Rattle.pn_facts.proofs.Truths.{and_left, and_right}

pub depth_is : (e : Element) → depth_of e ≡ suc (greatest (map kid_depth e.kids))
depth_is e = fold_out-Element ℕ ℕ kid_levels element_levels e ∙ refl

pub kid_depth-element : (e : Element) → kid_depth (children.Element e) ≡ depth_of e
kid_depth-element e = ap kid_depth (sym (rolls-Element e)) ∙ fold-roll-Child ℕ ℕ kid_levels element_levels (layer.Element e)

out_depth : (k : Child) (x : Element) → out-Child k ≡ layer.Element x → kid_depth k ≡ depth_of x
out_depth k x is = ap kid_depth (sym (roll-out-Child k) ∙ ap roll-Child is ∙ rolls-Element x) ∙ kid_depth-element x

text_depth : (k : Child) (t : List ℕ) → out-Child k ≡ layer.Text t → kid_depth k ≡ 0
text_depth k t is = ap kid_depth (sym (roll-out-Child k) ∙ ap roll-Child is) ∙ fold-roll-Child ℕ ℕ kid_levels element_levels (layer.Text t)

pub kid_depth-le : (ks : List Child) (i : ℕ) (k : Child) → slice_get ks i ≡ Some k → kid_depth k ≤ greatest (map kid_depth ks)
kid_depth-le [] i k is = absurd cc
kid_depth-le (x ∷ ks) zero k is = let same : x ≡ k = cc in omega (arith, ap kid_depth same)
kid_depth-le (x ∷ ks) (suc i) k is = omega (arith, kid_depth-le ks i k is)

-- an element among the kids has fewer levels
pub element_is_shallower : (e : Element) (i : ℕ) (x : Element) → slice_get e.kids i ≡ Some (children.Element x) → depth_of x < depth_of e
element_is_shallower e i x is = omega (arith, depth_is e, kid_depth-element x, kid_depth-le e.kids i (children.Element x) is)

pub some_levels : (e : Element) → 0 < depth_of e
some_levels e = omega (arith, depth_is e)

kid_within : (p : Element → Bool) (n : ℕ) → ((x : Element) → p x ≡ true → depth_of x ≤ n) → (k : Child) (l : layer.Child-F Child Element) → out-Child k ≡ l
    → is_kid_layer p l ≡ true → kid_depth k ≤ n
kid_within p n f k (layer.Element x) is h = omega (arith, out_depth k x is, f x h)
kid_within p n f k (layer.Text t) is h = omega (arith, text_depth k t is)

kids_within : (p : Element → Bool) (n : ℕ) → ((x : Element) → p x ≡ true → depth_of x ≤ n) → (ks : List Child) → list_all (is_kid p) ks ≡ true
    → greatest (map kid_depth ks) ≤ n
kids_within p n f [] h = omega arith
kids_within p n f (k ∷ ks) h =
    omega (arith, kid_within p n f k (out-Child k) refl (and_left (is_kid p k) (list_all (is_kid p) ks) h), kids_within p n f ks (and_right (is_kid p k) (list_all (is_kid p) ks) h))

-- an element has no more levels than it may have
pub depth_within : (n : ℕ) (e : Element) → is_element n e ≡ true → depth_of e ≤ n
depth_within zero e h = absurd (not_element-zero e h)
depth_within (suc n) e h = omega (arith, depth_is e, kids_within (is_element n) n (λ (x : Element). depth_within n x) e.kids (parts_of n e h).kids)
