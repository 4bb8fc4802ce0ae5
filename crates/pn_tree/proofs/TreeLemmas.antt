-- What holds of the parts of an element that a tree may have.
use Rattle.std.proofs.Common.{◌≡◌, ℕ, zero, suc, ◌≤◌, Bool, true, ◌&&◌, arith}
use Rattle.std.specs.List.{list_all}
use Rattle.std.proofs.lemmas.Bool.{false≢true}
use Rattle.pn_facts.proofs.Truths.{and_left, and_right, and_both}
use Rattle.pn_facts.proofs.Lists.{list_all_each}
use Rattle.pn_text.specs.Characters.{is_name}
use Rattle.pn_tree.specs.Elements.{are_attrs, are_apart, is_kid, is_kid_layer, is_element}
use Rattle.pn_tree.specs.declared.element.Element.{Element}
use Rattle.pn_tree.specs.declared.element.Child.{Child}
use Rattle.pn_tree.specs.declared.element.Child.TheOpen as layer
use Rattle.pn_tree.specs.declared.element.Child.TheViews.{out-Child}

-- what an element of at most `suc levels` levels has
pub record Parts (levels : ℕ) (e : Element) : Type 0 where
  pub name : is_name e.name ≡ true
  pub attrs : are_attrs e.attrs ≡ true
  pub apart : are_apart e.kids ≡ true
  pub kids : list_all (is_kid (is_element levels)) e.kids ≡ true

pub parts_of : (levels : ℕ) (e : Element) → is_element (suc levels) e ≡ true → Parts levels e
unfolding is_element
parts_of levels e h =
    let k = list_all (is_kid (is_element levels)) e.kids in
    let rest = and_right (is_name e.name) (are_attrs e.attrs && (are_apart e.kids && k)) h in
    let last = and_right (are_attrs e.attrs) (are_apart e.kids && k) rest in
    record {
      name = and_left (is_name e.name) (are_attrs e.attrs && (are_apart e.kids && k)) h;
      attrs = and_left (are_attrs e.attrs) (are_apart e.kids && k) rest;
      apart = and_left (are_apart e.kids) k last;
      kids = and_right (are_apart e.kids) k last;
    }

pub of_parts : (levels : ℕ) (e : Element) → Parts levels e → is_element (suc levels) e ≡ true
unfolding is_element
of_parts levels e p =
    let k = list_all (is_kid (is_element levels)) e.kids in
    and_both (is_name e.name) (are_attrs e.attrs && (are_apart e.kids && k)) p.name
    (and_both (are_attrs e.attrs) (are_apart e.kids && k) p.attrs (and_both (are_apart e.kids) k p.apart p.kids))

-- no element has no level
pub not_element-zero : (e : Element) → is_element zero e ≡ true → ⊥
unfolding is_element
not_element-zero e h = false≢true h

layer_each : (p q : Element → Bool) → ((e : Element) → p e ≡ true → q e ≡ true) → (k : layer.Child-F Child Element) → is_kid_layer p k ≡ true → is_kid_layer q k ≡ true
layer_each p q f (layer.Element e) h = f e h
layer_each p q f (layer.Text t) h = h

-- more levels are allowed too
pub is_element_more : (m n : ℕ) (e : Element) → m ≤ n → is_element m e ≡ true → is_element n e ≡ true
is_element_more zero n e le h = absurd (not_element-zero e h)
is_element_more (suc m) zero e le h = absurd (omega arith)
is_element_more (suc m) (suc n) e le h =
    let p = parts_of m e h in
    of_parts n e (record {
      name = p.name;
      attrs = p.attrs;
      apart = p.apart;
      kids = list_all_each (is_kid (is_element m)) (is_kid (is_element n))
          (λ (k : Child). layer_each (is_element m) (is_element n) (λ (x : Element). is_element_more m n x (omega arith)) (out-Child k)) e.kids p.kids;
    })
