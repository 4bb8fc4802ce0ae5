-- In a document each enumeration has a constant, and each partition an element, and their ids are not empty (ISO/IEC 15909-2, declarations).
use Rattle.std.proofs.Common.{◌≡◌, ℕ, ◌+◌, ◌<◌, ◌≤◌, ◌==◌, Bool, true, false, cond, codes, List, [], ◌∷◌, length, map, Option, Some, None, refl, sym, ap, ◌∙◌, subst, arith}
use Rattle.std.specs.List.{AllByRecursion, slice_get}
use Rattle.std.proofs.lemmas.Bool.Decides.{nat_tests}
use Rattle.std.proofs.lemmas.List.{length-map}
use Rattle.pn_operators.specs.declared.kind.Kind.{Kind}
use Rattle.pn_operators.specs.declared.kind.Kind.TheVariants as kind
use Rattle.pn_round_trip.proofs.KidLemmas.{Stands, elements_again, elements_shape, filled_first, number_only, stand_among}
use Rattle.pn_names.specs.Names.{constant_id, element_id}
use Rattle.pn_shape.specs.Attributes.{attr_fault}
use Rattle.pn_shape.specs.Faults.{IsShaped}
use Rattle.pn_shape.specs.Rules.{Saying, is_had, rule_for, slot_of}
use Rattle.pn_shape.specs.Shaped.{HasShape}
use Rattle.pn_shape.specs.Spots.{filled, has_slot, spot_at, spot_in, tag_of}
use Rattle.pn_shape.specs.declared.rule.Content.TheVariants as contents
use Rattle.pn_shape.specs.declared.rule.Fill.TheVariants as fill
use Rattle.pn_shape.specs.declared.rule.Over.TheVariants as over
use Rattle.pn_shape.specs.declared.rule.Slot.{Slot}
use Rattle.pn_shape.specs.declared.search.Spot.{Spot}
use Rattle.pn_shape.specs.declared.tag.Tag.{Tag}
use Rattle.pn_shape.specs.declared.tag.Tag.TheVariants as tag
use Rattle.pn_spelling.specs.Parts.{child_elements}
use Rattle.pn_spelling.specs.WriteDeclarations.{body_element, constant_element, declaration_element, declarations_element, named_attrs, part_element}
use Rattle.pn_spelling.specs.WriteSorts.{sort_element}
use Rattle.pn_spelling.specs.Writing.{all_kids, attribute, made}
use Rattle.pn_syntax.specs.declared.declaration.Constant.{Constant}
use Rattle.pn_syntax.specs.declared.declaration.Declaration.{Declaration}
use Rattle.pn_syntax.specs.declared.declaration.Declaration.TheVariants as declarations
use Rattle.pn_syntax.specs.declared.declaration.PartElement.{PartElement}
use Rattle.pn_syntax.specs.declared.declaration.SortBody.{SortBody}
use Rattle.pn_syntax.specs.declared.declaration.SortBody.TheVariants as bodies
use Rattle.pn_syntax.specs.declared.sort_expr.SortExpr.{SortExpr}
use Rattle.pn_terms.proofs.SortLemmas.{same_some}
use Rattle.pn_tree.specs.declared.element.Child.TheVariants as children
use Rattle.pn_tree.specs.declared.element.Element.{Element}

abbrev pub IsNamed : List ℕ → Type 0
IsNamed id = id ≡ [] → ⊥

-- there are some, and none of them has an empty id
abbrev pub AreSomeNamed : {A : Type 0} → (A → List ℕ) → List A → Type 0
AreSomeNamed id xs = (0 < length xs) × AllByRecursion (λ x. IsNamed (id x)) xs

-- an enumeration has a constant, and a partition an element, and their ids are not empty
abbrev pub HasConstants : Declaration → Type 0
HasConstants (declarations.Named id name (bodies.Plain e) at) = Unit {0}
HasConstants (declarations.Named id name (bodies.Finite constants) at) = AreSomeNamed constant_id constants
HasConstants (declarations.Named id name (bodies.Cyclic constants) at) = AreSomeNamed constant_id constants
HasConstants (declarations.Variable id name sort at) = Unit {0}
HasConstants (declarations.Partition id name sort elements at) = AreSomeNamed element_id elements

-- ---- the rows

finite_row : ((rule_for tag.FiniteEnumeration).content ≡ contents.Elements) × ((rule_for tag.FiniteEnumeration).slots ≡ slot_of tag.FeConstant 1 None ∷ [])
unfolding rule_for
finite_row = (refl, refl)

cyclic_row : ((rule_for tag.CyclicEnumeration).content ≡ contents.Elements) × ((rule_for tag.CyclicEnumeration).slots ≡ slot_of tag.FeConstant 1 None ∷ [])
unfolding rule_for
cyclic_row = (refl, refl)

abbrev sort_slot : Slot
sort_slot = record { fill = fill.Sort; least = 1; most = Some 1; over = over.Repeated }

partition_row : ((rule_for tag.Partition).content ≡ contents.Elements) × ((rule_for tag.Partition).slots ≡ sort_slot ∷ slot_of tag.PartitionElement 1 None ∷ [])
unfolding rule_for
partition_row = (refl, refl)

content_rows : ((rule_for tag.NamedSort).content ≡ contents.Elements) × ((rule_for tag.Declarations).content ≡ contents.Elements)
unfolding rule_for
content_rows = (refl, refl)

constants_had : (k : Kind) → has_slot k (fill.One tag.FeConstant) ≡ true
unfolding rule_for has_slot
constants_had k = refl

elements_had : (k : Kind) → has_slot k (fill.One tag.PartitionElement) ≡ true
unfolding rule_for has_slot
elements_had k = refl

sorts_had : (k : Kind) → is_had k tag.Declaration ≡ true → has_slot k sort_slot.fill ≡ true
unfolding rule_for has_slot
sorts_had kind.PtNet had = absurd cc
sorts_had kind.Symmetric had = refl
sorts_had kind.HighLevel had = refl

-- ---- which place an element has, by its name

finite_spot : (k : Kind) → spot_in k (codes "finiteenumeration") 0 (rule_for tag.NamedSort).slots ≡ Some (spot_at 0 tag.FiniteEnumeration)
unfolding rule_for spot_in tag_of
finite_spot k = refl

cyclic_spot : (k : Kind) → spot_in k (codes "cyclicenumeration") 0 (rule_for tag.NamedSort).slots ≡ Some (spot_at 0 tag.CyclicEnumeration)
unfolding rule_for spot_in tag_of
cyclic_spot k = refl

named_spot : (k : Kind) → spot_in k (codes "namedsort") 0 (rule_for tag.Declarations).slots ≡ Some (spot_at 0 tag.NamedSort)
unfolding rule_for spot_in tag_of
named_spot k = refl

partition_spot : (k : Kind) → spot_in k (codes "partition") 0 (rule_for tag.Declarations).slots ≡ Some (spot_at 2 tag.Partition)
unfolding rule_for spot_in tag_of
partition_spot k = refl

element_spot : (k : Kind) → spot_in k (codes "partitionelement") 0 (rule_for tag.Partition).slots ≡ Some (spot_at 1 tag.PartitionElement)
unfolding rule_for spot_in tag_of
element_spot k = refl

constant_spot_alone : (k : Kind) → spot_in k (codes "feconstant") 0 (slot_of tag.FeConstant 1 None ∷ []) ≡ Some (spot_at 0 tag.FeConstant)
unfolding rule_for spot_in tag_of
constant_spot_alone k = refl

constant_spot : (k : Kind) (t : Tag) → (rule_for t).slots ≡ slot_of tag.FeConstant 1 None ∷ [] → spot_in k (codes "feconstant") 0 (rule_for t).slots ≡ Some (spot_at 0 tag.FeConstant)
constant_spot k t slots = ap (spot_in k (codes "feconstant") 0) slots ∙ constant_spot_alone k

-- ---- ids

no_empty_id : attr_fault (rule_for tag.FeConstant).attrs (attribute (codes "id") []) ≡ None → ⊥
unfolding rule_for
no_empty_id right = cc

element_rules : (rule_for tag.PartitionElement).attrs ≡ (rule_for tag.FeConstant).attrs
unfolding rule_for
element_rules = refl

named_contents : ((rule_for tag.FeConstant).content ≡ contents.Elements) × ((rule_for tag.PartitionElement).content ≡ contents.Elements)
unfolding rule_for
named_contents = (refl, refl)

-- an id that has no fault is not empty
id_some : (t : Tag) (id : List ℕ) → (rule_for t).attrs ≡ (rule_for tag.FeConstant).attrs → attr_fault (rule_for t).attrs (attribute (codes "id") id) ≡ None → IsNamed id
id_some t id rules right none =
    no_empty_id (subst (λ (i : List ℕ). attr_fault (rule_for tag.FeConstant).attrs (attribute (codes "id") i) ≡ None) none (ap (λ rs. attr_fault rs (attribute (codes "id") id)) (sym rules) ∙ right))

-- ---- parts

module _ (k : Kind) (had : is_had k tag.Declaration ≡ true) where
  enumeration_has : (t : Tag) (name : List ℕ) (cs : List Constant) → (rule_for t).content ≡ contents.Elements → (rule_for t).slots ≡ slot_of tag.FeConstant 1 None ∷ []
      → IsShaped k t (made name [] (all_kids constant_element cs)) → AreSomeNamed constant_id cs
  enumeration_has t name cs content slots shaped =
      let e = made name [] (all_kids constant_element cs) in
      let shape = elements_shape k t e content shaped in
      let slot = slot_of tag.FeConstant 1 None in
      let number = number_only k (rule_for t) slot slots e shape in
      let least : 1 ≤ filled k (rule_for t).slots 0 e.kids = shape.least 0 slot (ap (λ ss. slice_get ss 0) slots) (constants_had k) in
      let many : length (child_elements e) ≡ length cs = ap length (elements_again (map constant_element cs)) ∙ length-map _ constant_element in
      (omega (arith, number, least, many), ids cs (subst (AllByRecursion (Stands k (rule_for t))) (elements_again (map constant_element cs)) (stand_among k (rule_for t) e.kids shape.kids)))
    where
      one : (c : Constant) → Stands k (rule_for t) (constant_element c) → IsNamed c.id
      one c (s, is, inner) =
          let same = same_some s (spot_at 0 tag.FeConstant) _ is (constant_spot k t slots) in
          let inside = elements_shape k tag.FeConstant (constant_element c) named_contents.0 (subst (λ (p : Spot). IsShaped k p.tag (constant_element c)) same inner) in
          id_some tag.FeConstant c.id refl inside.attrs.0

      ids : (xs : List Constant) → AllByRecursion (Stands k (rule_for t)) (map constant_element xs) → AllByRecursion (λ x. IsNamed (constant_id x)) xs
      ids [] all = tt
      ids (x ∷ xs) all = (one x all.0, ids xs all.1)

  no_two : (p : ℕ) → 1 ≤ cond (p == 0) 1 0 + 0 → 1 ≤ cond (p == 1) 1 0 + 0 → ⊥
  no_two p first second = by (p == 0) (p == 1) refl refl first second
    where
      by : (a b : Bool) → (p == 0) ≡ a → (p == 1) ≡ b → 1 ≤ cond a 1 0 + 0 → 1 ≤ cond b 1 0 + 0 → ⊥
      by true true zeroth oneth first second = let z : p ≡ 0 = grind (arith, nat_tests) in let o : p ≡ 1 = grind (arith, nat_tests) in omega (arith, z, o)
      by true false zeroth oneth first second = omega (arith, second)
      by false b zeroth oneth first second = omega (arith, first)

  partition_has : (id : List ℕ) (name : Option (List ℕ)) (sort : SortExpr) (es : List PartElement)
      → IsShaped k tag.Partition (made (codes "partition") (named_attrs id name) (children.Element (sort_element sort) ∷ all_kids part_element es)) → AreSomeNamed element_id es
  partition_has id name sort (x ∷ es) shaped =
      let e = made (codes "partition") (named_attrs id name) (children.Element (sort_element sort) ∷ all_kids part_element (x ∷ es)) in
      let ys = sort_element sort ∷ map part_element (x ∷ es) in
      let says = rule_for tag.Partition in
      let shape = elements_shape k tag.Partition e partition_row.0 shaped in
      (omega arith, ids (x ∷ es) (subst (AllByRecursion (Stands k says)) (elements_again ys) (stand_among k says e.kids shape.kids)).1)
    where
      one : (p : PartElement) → Stands k (rule_for tag.Partition) (part_element p) → IsNamed p.id
      one p (s, is, inner) =
          let same = same_some s (spot_at 1 tag.PartitionElement) _ is (element_spot k) in
          let inside = elements_shape k tag.PartitionElement (part_element p) named_contents.1 (subst (λ (q : Spot). IsShaped k q.tag (part_element p)) same inner) in
          id_some tag.PartitionElement p.id element_rules inside.attrs.0

      ids : (xs : List PartElement) → AllByRecursion (Stands k (rule_for tag.Partition)) (map part_element xs) → AllByRecursion (λ y. IsNamed (element_id y)) xs
      ids [] all = tt
      ids (y ∷ ys) all = (one y all.0, ids ys all.1)
  partition_has id name sort [] shaped =
      let e = made (codes "partition") (named_attrs id name) (children.Element (sort_element sort) ∷ []) in
      let y = sort_element sort in
      let says = rule_for tag.Partition in
      let shape = elements_shape k tag.Partition e partition_row.0 shaped in
      let all = subst (AllByRecursion (Stands k says)) (elements_again (y ∷ [])) (stand_among k says e.kids shape.kids) in
      let s = all.0.0 in
      let sorts : 1 ≤ filled k says.slots 0 e.kids = shape.least 0 sort_slot (ap (λ ss. slice_get ss 0) partition_row.1) (sorts_had k had) in
      let elements : 1 ≤ filled k says.slots 1 e.kids = shape.least 1 (slot_of tag.PartitionElement 1 None) (ap (λ ss. slice_get ss 1) partition_row.1) (elements_had k) in
      absurd (no_two s.place (subst (λ n. 1 ≤ n) (filled_first k says 0 y s [] all.0.1) sorts) (subst (λ n. 1 ≤ n) (filled_first k says 1 y s [] all.0.1) elements))

  named_has : (id : List ℕ) (name : Option (List ℕ)) (body : SortBody) (at : ℕ) → IsShaped k tag.NamedSort (made (codes "namedsort") (named_attrs id name) (children.Element (body_element body) ∷ []))
      → HasConstants (declarations.Named id name body at)
  named_has id name body at shaped = by body (subst (AllByRecursion (Stands k says)) (elements_again (y ∷ [])) (stand_among k says e.kids shape.kids)).0
    where
      y : Element
      y = body_element body

      e : Element
      e = made (codes "namedsort") (named_attrs id name) (children.Element y ∷ [])

      says : Saying
      says = rule_for tag.NamedSort

      shape : HasShape k says e
      shape = elements_shape k tag.NamedSort e content_rows.0 shaped

      by : (b : SortBody) → Stands k (rule_for tag.NamedSort) (body_element b) → HasConstants (declarations.Named id name b at)
      by (bodies.Plain sort) stands = tt
      by (bodies.Finite cs) (s, is, inner) =
          let same = same_some s (spot_at 0 tag.FiniteEnumeration) _ is (finite_spot k) in
          enumeration_has tag.FiniteEnumeration (codes "finiteenumeration") cs finite_row.0 finite_row.1 (subst (λ (p : Spot). IsShaped k p.tag (body_element (bodies.Finite cs))) same inner)
      by (bodies.Cyclic cs) (s, is, inner) =
          let same = same_some s (spot_at 0 tag.CyclicEnumeration) _ is (cyclic_spot k) in
          enumeration_has tag.CyclicEnumeration (codes "cyclicenumeration") cs cyclic_row.0 cyclic_row.1 (subst (λ (p : Spot). IsShaped k p.tag (body_element (bodies.Cyclic cs))) same inner)

  one_has : (d : Declaration) → Stands k (rule_for tag.Declarations) (declaration_element d) → HasConstants d
  one_has (declarations.Variable id name sort at) stands = tt
  one_has (declarations.Named id name body at) (s, is, shaped) =
      let same = same_some s (spot_at 0 tag.NamedSort) _ is (named_spot k) in
      named_has id name body at (subst (λ (p : Spot). IsShaped k p.tag (declaration_element (declarations.Named id name body at))) same shaped)
  one_has (declarations.Partition id name sort elements at) (s, is, shaped) =
      let same = same_some s (spot_at 2 tag.Partition) _ is (partition_spot k) in
      partition_has id name sort elements (subst (λ (p : Spot). IsShaped k p.tag (declaration_element (declarations.Partition id name sort elements at))) same shaped)

  each_has : (ds : List Declaration) → AllByRecursion (Stands k (rule_for tag.Declarations)) (map declaration_element ds) → AllByRecursion HasConstants ds
  each_has [] all = tt
  each_has (d ∷ ds) all = (one_has d all.0, each_has ds all.1)

  pub all_have : (ds : List Declaration) → IsShaped k tag.Declarations (declarations_element ds) → AllByRecursion HasConstants ds
  all_have ds shaped =
      let e = declarations_element ds in
      let shape = elements_shape k tag.Declarations e content_rows.1 shaped in
      each_has ds (subst (AllByRecursion (Stands k (rule_for tag.Declarations))) (elements_again (map declaration_element ds)) (stand_among k (rule_for tag.Declarations) e.kids shape.kids))
