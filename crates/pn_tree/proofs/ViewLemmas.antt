-- What a node of the tables shows.
use Rattle.std.proofs.Common.{◌≡◌, ℕ, ◌+◌, ◌-◌, ◌<◌, true, false, cond, suc, List, drop, length, get_or, Some, sym, ap, ◌∙◌, subst, arith}
use Rattle.std.specs.List.{slice_get}
use Rattle.std.specs.Option.{option_map}
use Rattle.std.proofs.lemmas.List.{length-map}
use Rattle.std.proofs.lemmas.Option.{slice_get-map}
use Rattle.pn_tree.specs.Tables.{cut, TableLists, attr_in, kid_in, made_of, element_in, no_node, IsNodeIn}
use Rattle.pn_tree.specs.Elements.{attr_value, is_kid, is_element}
use Rattle.pn_tree.specs.Frames.{IsRoot}
use Rattle.std.specs.Str.{bytes_eq}
use Rattle.pn_tree.specs.declared.element.Attr.{Attr}
use Rattle.pn_tree.specs.declared.element.Element.{Element}
use Rattle.pn_tree.specs.declared.element.Child.TheVariants as children
use Rattle.pn_tree.specs.declared.tables.Pair.{Pair}
use Rattle.pn_tree.specs.declared.tables.Slot.{Slot}
use Rattle.pn_tree.specs.declared.tables.Node.{Node}
use Rattle.pn_tree.proofs.CutLemmas.{cut_length, cut_at, drop_at, list_all_at}
use Rattle.pn_tree.proofs.ElementLemmas.{is_kid-element}
use Rattle.pn_tree.proofs.TreeLemmas.{parts_of, is_element_more}
use Rattle.pn_tree.proofs.TableLemmas.{element_is, levels_same}

pub made_at : (t : TableLists) (i : ℕ) (n : Node) → n ≡ get_or t.nodes i no_node → element_in 256 t i ≡ made_of (element_in 255 t) t t.kids n
made_at t i n is = element_is 255 t i ∙ ap (made_of (element_in 255 t) t t.kids) (sym is)

module _ (t : TableLists) (e : Element) (n : Node) (made : e ≡ made_of (element_in 255 t) t t.kids n) (there : IsNodeIn t n) where
  pub attrs_counted : length e.attrs ≡ n.attrs.end - n.attrs.start
  attrs_counted = ap (λ (x : Element). length x.attrs) made ∙ length-map (cut n.attrs t.attrs) (attr_in t.bytes) ∙ cut_length n.attrs t.attrs there.head.attrs

  pub kids_counted : length e.kids ≡ n.kids.end - n.kids.start
  kids_counted = ap (λ (x : Element). length x.kids) made ∙ length-map (cut n.kids t.kids) (kid_in (element_in 255 t) t.bytes) ∙ cut_length n.kids t.kids there.kids

  pub attr_at_place : (k : ℕ) (a : Pair) → n.attrs.start + k < n.attrs.end → a ≡ get_or t.attrs (n.attrs.start + k) a → slice_get e.attrs k ≡ Some (attr_in t.bytes a)
  attr_at_place k a lt is =
      ap (λ (x : Element). slice_get x.attrs k) made ∙ slice_get-map (attr_in t.bytes) (cut n.attrs t.attrs) k
      ∙ ap (option_map (attr_in t.bytes)) (cut_at n.attrs t.attrs k a there.head.attrs lt is)

  pub kid_at_place : (k : ℕ) (s : Slot) → n.kids.start + k < n.kids.end → s ≡ get_or t.kids (n.kids.start + k) s → slice_get e.kids k ≡ Some (kid_in (element_in 255 t) t.bytes s)
  kid_at_place k s lt is =
      ap (λ (x : Element). slice_get x.kids k) made ∙ slice_get-map (kid_in (element_in 255 t) t.bytes) (cut n.kids t.kids) k
      ∙ ap (option_map (kid_in (element_in 255 t) t.bytes)) (cut_at n.kids t.kids k s there.kids lt is)

-- an element among the kids of a tree's element

kid_levels : (t : TableLists) (i j k : ℕ) → is_element 256 (element_in 256 t i) ≡ true → slice_get (element_in 256 t i).kids k ≡ Some (children.Element (element_in 255 t j))
    → is_element 255 (element_in 255 t j) ≡ true
kid_levels t i j k h is =
    sym (is_kid-element (is_element 255) (element_in 255 t j))
    ∙ list_all_at (is_kid (is_element 255)) (element_in 256 t i).kids k (children.Element (element_in 255 t j)) is (parts_of 255 (element_in 256 t i) h).kids

pub kid_same : (t : TableLists) (i j k : ℕ) → is_element 256 (element_in 256 t i) ≡ true → slice_get (element_in 256 t i).kids k ≡ Some (children.Element (element_in 255 t j))
    → element_in 256 t j ≡ element_in 255 t j
kid_same t i j k h is = levels_same 255 255 256 t j (omega arith) (omega arith) (kid_levels t i j k h is)

pub kid_root : (t : TableLists) (i j k : ℕ) → is_element 256 (element_in 256 t i) ≡ true → slice_get (element_in 256 t i).kids k ≡ Some (children.Element (element_in 255 t j))
    → j < length t.nodes → IsRoot t j
kid_root t i j k h is lt = record {
  there = lt;
  is_tree =
      subst (λ e. is_element 256 e ≡ true) (sym (kid_same t i j k h is))
      (is_element_more 255 256 (element_in 255 t j) (omega arith) (kid_levels t i j k h is));
}

-- the value of an attribute, from a place on

pub value_at : (name : List ℕ) (xs : List Attr) (i : ℕ) (a : Attr) → slice_get xs i ≡ Some a → bytes_eq a.name name ≡ true → attr_value name (drop i xs) ≡ Some a.value
value_at name xs i a is same = ap (attr_value name) (drop_at xs i a is) ∙ ap (λ b. cond b (Some a.value) (attr_value name (drop (suc i) xs))) same

pub value_past : (name : List ℕ) (xs : List Attr) (i : ℕ) (a : Attr) → slice_get xs i ≡ Some a → bytes_eq a.name name ≡ false
    → attr_value name (drop (i + 1) xs) ≡ attr_value name (drop i xs)
value_past name xs i a is other =
    let next : i + 1 ≡ suc i = omega arith in
    ap (λ n. attr_value name (drop n xs)) next
    ∙ sym (ap (attr_value name) (drop_at xs i a is) ∙ ap (λ b. cond b (Some a.value) (attr_value name (drop (suc i) xs))) other)
