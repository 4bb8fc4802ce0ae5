-- The elements of a partition apart from the element of its sort.
use Rattle.std.proofs.Common.{◌≡◌, ℕ, ◌+◌, List, [], ◌∷◌, ◌++◌, Bool, true, false, not, codes, map, drop, Option, Some, None, is_some, sym, ap, subst, ◌∙◌}
use Rattle.std.proofs.lemmas.Bool.{false≢true}
use Rattle.std.specs.List.{filter, find, slice_get}
use Rattle.std.specs.Option.{option_map, option_or}
use Rattle.pn_tree.specs.declared.element.Element.{Element}
use Rattle.pn_tree.specs.declared.element.Child.TheVariants as children
use Rattle.pn_tree.specs.declared.view.View.{View}
use Rattle.pn_tree.specs.Views.{element_of}
use Rattle.pn_syntax.specs.declared.declaration.PartElement.{PartElement}
use Rattle.pn_spelling.specs.Parts.{children_named, elements_among, has_name, other_child}
use Rattle.pn_spelling.specs.ReadDeclarations.{part_read}
use Rattle.pn_spelling.proofs.PartLemmas.{find_beside, find_failing, find_passing, gather_beside, gather_failing, gather_passing}

-- whether an element is one of a partition's
abbrev pub is_part : Element → Bool
is_part = has_name (codes "partitionelement")

abbrev pub is_other : Element → Bool
is_other e = not (is_part e)

-- what was found among the kids before a place, and what is left from there on
pub record IsSplit (e : Element) (i : ℕ) (old new : List PartElement) (base : Option Element) : Type 0 where
  pub parts : old ++ map part_read (children_named (codes "partitionelement") e) ≡ new ++ map part_read (filter is_part (elements_among (drop i e.kids)))
  pub other : other_child (codes "partitionelement") e ≡ option_or base (find is_other (elements_among (drop i e.kids)))

-- the next kid is an element of the partition
pub split_part : (e : Element) (i : ℕ) (x : Element) (old new : List PartElement) (base : Option Element) → IsSplit e i old new base → slice_get e.kids i ≡ Some (children.Element x) → is_part x ≡ true
    → IsSplit e (i + 1) old (new ++ part_read x ∷ []) base
split_part e i x old new base so_far is passes = record {
  parts = gather_passing part_read is_part e.kids i x (old ++ map part_read (children_named (codes "partitionelement") e)) new so_far.parts is passes;
  other = find_failing is_other e.kids i x base (other_child (codes "partitionelement") e) so_far.other is (ap not passes);
}

-- it is another one, and none was found before
pub split_first : (e : Element) (i : ℕ) (x : Element) (old new : List PartElement) (base : Option Element) → base ≡ None → IsSplit e i old new base → slice_get e.kids i ≡ Some (children.Element x) → is_part x ≡ false
    → IsSplit e (i + 1) old new (Some x)
split_first e i x old new base none so_far is fails = record {
  parts = gather_failing part_read is_part e.kids i x (old ++ map part_read (children_named (codes "partitionelement") e)) new so_far.parts is fails;
  other = find_passing is_other e.kids i x (other_child (codes "partitionelement") e) (so_far.other ∙ ap (λ o. option_or o (find is_other (elements_among (drop i e.kids)))) none) is (ap not fails);
}

-- it is another one, behind one that was found
pub split_next : (e : Element) (i : ℕ) (x : Element) (old new : List PartElement) (found : Option View) → is_some found ≡ true → IsSplit e i old new (option_map element_of found) → slice_get e.kids i ≡ Some (children.Element x) → is_part x ≡ false
    → IsSplit e (i + 1) old new (option_map element_of found)
split_next e i x old new None some so_far is fails = absurd (false≢true some)
split_next e i x old new (Some y) some so_far is fails = record {
  parts = gather_failing part_read is_part e.kids i x (old ++ map part_read (children_named (codes "partitionelement") e)) new so_far.parts is fails;
  other = so_far.other;
}

-- the same, whatever the lists and the found element are called
pub split_as : (e : Element) (i : ℕ) (old new now : List PartElement) (found base : Option View) → now ≡ new → base ≡ found → IsSplit e i old new (option_map element_of found)
    → IsSplit e i old now (option_map element_of base)
split_as e i old new now found base same alike split =
    subst (λ ps. IsSplit e i old ps (option_map element_of base)) (sym same) (subst (λ o. IsSplit e i old new (option_map element_of o)) (sym alike) split)

-- it is a text
pub split_text : (e : Element) (i : ℕ) (t : List ℕ) (old new : List PartElement) (base : Option Element) → IsSplit e i old new base → slice_get e.kids i ≡ Some (children.Text t)
    → IsSplit e (i + 1) old new base
split_text e i t old new base so_far is = record {
  parts = gather_beside part_read is_part e.kids i t (old ++ map part_read (children_named (codes "partitionelement") e)) new so_far.parts is;
  other = find_beside is_other e.kids i t base (other_child (codes "partitionelement") e) so_far.other is;
}
