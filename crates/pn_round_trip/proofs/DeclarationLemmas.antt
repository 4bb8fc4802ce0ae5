-- The element that is written for declarations has no fault of shape, and reads back as the same declarations.
use Rattle.std.proofs.Common.{◌≡◌, ◌⊎◌, inl, inr, ℕ, zero, suc, ◌+◌, ◌≤◌, ◌==◌, Bool, true, false, cond, not, ◌&&◌, List, [], ◌∷◌, map, length, codes, Option, Some, None, refl, sym, ap, subst, ◌∙◌, arith}
use Rattle.std.specs.List.{AllByRecursion, filter, find, slice_get}
use Rattle.std.specs.Option.{option_map, unwrap_or}
use Rattle.std.specs.Str.{bytes_eq}
use Rattle.std.proofs.lemmas.Simd.{map-map}
use Rattle.std.proofs.lemmas.Slice.Eq.{bytes_eq-Decides}
use Rattle.pn_operators.specs.declared.kind.Kind.{Kind}
use Rattle.pn_operators.specs.declared.kind.Kind.TheVariants as kind
use Rattle.pn_tree.specs.Elements.{attr_value}
use Rattle.pn_tree.specs.declared.element.Attr.{Attr}
use Rattle.pn_tree.specs.declared.element.Element.{Element}
use Rattle.pn_tree.specs.declared.element.Child.TheVariants as children
use Rattle.pn_syntax.specs.Offsets.{body_without_offsets, constant_without_offset, declaration_without_offsets, element_without_offsets, sort_without_offsets, value_without_offset}
use Rattle.pn_syntax.specs.declared.declaration.ConstExpr.{ConstExpr}
use Rattle.pn_syntax.specs.declared.declaration.ConstExpr.TheVariants as values
use Rattle.pn_syntax.specs.declared.declaration.Declaration.{Declaration}
use Rattle.pn_syntax.specs.declared.declaration.Declaration.TheVariants as declarations
use Rattle.pn_syntax.specs.declared.declaration.PartElement.{PartElement}
use Rattle.pn_syntax.specs.declared.declaration.SortBody.{SortBody}
use Rattle.pn_syntax.specs.declared.declaration.SortBody.TheVariants as bodies
use Rattle.pn_shape.specs.Attributes.{attr_fault, form_fault, lack_fault}
use Rattle.pn_shape.specs.Faults.{fill_faults, IsShaped, IsShapedSort}
use Rattle.pn_shape.specs.Rules.{Saying, is_had, rule_for}
use Rattle.pn_shape.specs.Shaped.{HasShape}
use Rattle.pn_shape.specs.Spots.{filled, has_slot, spot_at, spot_in, tag_of}
use Rattle.pn_shape.specs.declared.rule.AttrName.TheVariants as names
use Rattle.pn_shape.specs.declared.rule.AttrRule.{AttrRule}
use Rattle.pn_shape.specs.declared.rule.Fill.TheVariants as fill
use Rattle.pn_shape.specs.declared.rule.Form.TheVariants as form
use Rattle.pn_shape.specs.declared.rule.Over.TheVariants as over
use Rattle.pn_shape.specs.declared.rule.Slot.{Slot}
use Rattle.pn_shape.specs.declared.search.Spot.{Spot}
use Rattle.pn_shape.specs.declared.tag.Tag.{Tag}
use Rattle.pn_shape.specs.declared.tag.Tag.TheVariants as tag
use Rattle.pn_shape.proofs.AttrLemmas.{needed_there, value_right}
use Rattle.pn_shape.proofs.PlaceLemmas.{fill_of, of_fill, one_is, placed_element, spot_fills, tag_is}
use Rattle.pn_spelling.specs.Parts.{attribute_of, child_elements, children_named, has_name}
use Rattle.pn_spelling.specs.ReadDeclarations.{base_in, body_in, body_of, constant_read, declaration_read, declarations_read, part_read, value_read}
use Rattle.pn_spelling.specs.ReadSorts.{no_sort, sort_read}
use Rattle.pn_spelling.specs.Writing.{attribute, made}
use Rattle.pn_spelling.specs.WriteDeclarations.{body_element, constant_element, declaration_element, declarations_element, named_attrs, part_element, value_element}
use Rattle.pn_spelling.specs.WriteSorts.{sort_element}
use Rattle.pn_facts.proofs.Each.{each, filtered, found_first}
use Rattle.pn_round_trip.proofs.KidLemmas.{HasPlace, Stands, StandsFor, elements_again, elements_shape, filled_elements, filled_first, filled_for, filled_split, filled_there, leaf_shape, placed_for, shape_from, shape_with, shaped_elements, spot_first, stand_among, stands_for_only, the_only}
use Rattle.pn_round_trip.proofs.ReturnLemmas.{KidReturns, Step, all_return, kids_read, kids_stand}
use Rattle.pn_round_trip.proofs.SortLemmas.{named, sort_again, sort_around, sort_bare_twice, sort_element_alike, sort_name, sort_returns}
use Rattle.pn_round_trip.proofs.TermLemmas.{range_constant_again, range_constant_returns}

-- ids and names

-- the attributes that are written of an element with an id and perhaps a name
abbrev attrs_again : Element → List Attr
attrs_again e = named_attrs (attribute_of (codes "id") e) (attr_value (codes "name") e.attrs)

abbrev AreRight : List AttrRule → List Attr → Type 0
AreRight rules attrs = AllByRecursion (λ a. attr_fault rules a ≡ None) attrs × AllByRecursion (λ r. lack_fault attrs r ≡ None) rules

pub name_again : (id : List ℕ) (name : Option (List ℕ)) → attr_value (codes "name") (named_attrs id name) ≡ name
name_again id None = refl
name_again id (Some name) = refl

named_right : (e : Element) → AreRight (rule_for tag.NamedSort).attrs e.attrs → AreRight (rule_for tag.NamedSort).attrs (attrs_again e)
unfolding rule_for
named_right e right = by_name (attr_value (codes "name") e.attrs)
  where
    Right : List ℕ → Type 0
    Right id = form_fault form.Id id ≡ None

    id_again : Right (attribute_of (codes "id") e)
    id_again =
        let value = needed_there e.attrs (record { name = names.Id; is_needed = true; form = form.Id }) right.1.0 refl in
        subst Right (sym (ap (λ o. unwrap_or o []) value.1)) (value_right (rule_for tag.NamedSort).attrs e.attrs (codes "id") value.0 right.0 value.1)

    by_name : (name : Option (List ℕ)) → AreRight (rule_for tag.NamedSort).attrs (named_attrs (attribute_of (codes "id") e) name)
    by_name None = ((id_again, tt), (refl, (refl, tt)))
    by_name (Some name) = ((id_again, (refl, tt)), (refl, (refl, tt)))

pub attrs_right : (k : Kind) (t : Tag) (e : Element) → (rule_for t).attrs ≡ (rule_for tag.NamedSort).attrs → HasShape k (rule_for t) e → AreRight (rule_for t).attrs (attrs_again e)
attrs_right k t e is shape =
    subst (λ rules. AreRight rules (attrs_again e)) (sym is) (named_right e (subst (λ rules. AreRight rules e.attrs) is (shape.attrs, shape.lacks)))

-- names of sorts

abbrev NoEnumeration : List ℕ → Type 0
NoEnumeration name =
    (bytes_eq name (codes "finiteenumeration") ≡ false) × (bytes_eq name (codes "cyclicenumeration") ≡ false) × (bytes_eq (codes "finiteenumeration") name ≡ false) × (bytes_eq (codes "cyclicenumeration") name ≡ false)

no_enumeration : (k : Kind) (y : Element) → IsShapedSort k y → NoEnumeration y.name
unfolding rule_for
no_enumeration =
    sort_name NoEnumeration
    ((refl, refl, refl, refl), ((refl, refl, refl, refl), ((refl, refl, refl, refl), ((refl, refl, refl, refl), ((refl, refl, refl, refl), ((refl, refl, refl, refl), ((refl, refl, refl, refl), ((refl, refl, refl, refl), ((refl, refl, refl, refl), ((refl, refl, refl, refl), tt))))))))))

no_part : (k : Kind) (y : Element) → IsShapedSort k y → has_name (codes "partitionelement") y ≡ false
unfolding rule_for
no_part = sort_name (λ name. bytes_eq name (codes "partitionelement") ≡ false) (refl, (refl, (refl, (refl, (refl, (refl, (refl, (refl, (refl, (refl, tt))))))))))

module _ (k : Kind) where
  -- ---- enumerations

  step_constant : Step k constant_read constant_element constant_without_offset tag.FeConstant
  unfolding rule_for
  step_constant e had shaped =
      let x = named (codes "feconstant") e in
      let right = attrs_right k tag.FeConstant x refl (elements_shape k tag.FeConstant x refl shaped) in
      let id = attribute_of (codes "id") x in
      let y = constant_element (constant_read x) in (
        shaped_elements k tag.FeConstant y refl (leaf_shape k (rule_for tag.FeConstant) (codes "feconstant") (attrs_again x) refl refl right.0 right.1),
        refl,
        λ i. record { id = id; name = name_again id (attr_value (codes "name") x.attrs) i; at = 0 },
      )

  -- what is to be shown of what a `namedsort` names
  abbrev BodyReturns : Element → Type 0
  BodyReturns c = (fill_faults k fill.Body (body_element (body_of c)) ≡ []) × (body_of (body_element (body_of c)) ≡ body_without_offsets (body_of c))

  finite_returns : (e : Element) → IsShaped k tag.FiniteEnumeration (named (codes "finiteenumeration") e) → BodyReturns (named (codes "finiteenumeration") e)
  unfolding rule_for tag_of
  finite_returns e shaped =
      let x = named (codes "finiteenumeration") e in
      let back = all_return k constant_read constant_element constant_without_offset tag.FiniteEnumeration (codes "finiteenumeration") [] x refl ((step_constant, tt), tt)
      (elements_shape k tag.FiniteEnumeration x refl shaped) tt tt in
      let y = body_element (body_of x) in
      (of_fill k fill.Body y tag.FiniteEnumeration refl (shaped_elements k tag.FiniteEnumeration y refl back.0), ap bodies.Finite back.1)

  cyclic_returns : (e : Element) → IsShaped k tag.CyclicEnumeration (named (codes "cyclicenumeration") e) → BodyReturns (named (codes "cyclicenumeration") e)
  unfolding rule_for tag_of
  cyclic_returns e shaped =
      let x = named (codes "cyclicenumeration") e in
      let back = all_return k constant_read constant_element constant_without_offset tag.CyclicEnumeration (codes "cyclicenumeration") [] x refl ((step_constant, tt), tt)
      (elements_shape k tag.CyclicEnumeration x refl shaped) tt tt in
      let y = body_element (body_of x) in
      (of_fill k fill.Body y tag.CyclicEnumeration refl (shaped_elements k tag.CyclicEnumeration y refl back.0), ap bodies.Cyclic back.1)

  -- ---- what a `namedsort` names

  -- the element of a sort is a body
  abbrev body_choice : Bool → Bool → Option Tag → Option Tag
  body_choice finite cyclic sort = cond finite (Some tag.FiniteEnumeration) (cond cyclic (Some tag.CyclicEnumeration) sort)

  body_tag_of : (name : List ℕ) → tag_of k name fill.Body ≡ body_choice (bytes_eq (codes "finiteenumeration") name && true) (bytes_eq (codes "cyclicenumeration") name && true) (tag_of k name fill.Sort)
  unfolding tag_of rule_for
  body_tag_of name = refl

  sort_body : (y : Element) → IsShapedSort k y → body_of y ≡ bodies.Plain (sort_read y)
  sort_body y shaped =
      let no = no_enumeration k y shaped in
      ap (λ b. cond b (bodies.Finite (map constant_read (child_elements y))) (cond (has_name (codes "cyclicenumeration") y) (bodies.Cyclic (map constant_read (child_elements y))) (bodies.Plain (sort_read y)))) no.0
      ∙ ap (λ b. cond b (bodies.Cyclic (map constant_read (child_elements y))) (bodies.Plain (sort_read y))) no.1

  sort_is_body : (y : Element) → IsShapedSort k y → fill_faults k fill.Body y ≡ []
  sort_is_body y shaped =
      let no = no_enumeration k y shaped in
      let tagged = fill_of k fill.Sort y shaped in
      of_fill k fill.Body y tagged.0 (body_tag_of y.name ∙ (λ i. body_choice (no.2 i && true) (no.3 i && true) (tag_of k y.name fill.Sort)) ∙ tagged.1) tagged.2

  sort_body_returns : (c : Element) → IsShapedSort k c → BodyReturns c
  sort_body_returns c shaped =
      let back = sort_returns k c shaped in
      let is = sort_body c shaped in (
        subst (λ body. fill_faults k fill.Body (body_element body) ≡ []) (sym is) (sort_is_body (sort_again c) back.0),
        ap (λ body. body_of (body_element body)) is ∙ sort_body (sort_again c) back.0 ∙ ap bodies.Plain back.1 ∙ ap body_without_offsets (sym is),
      )

  body_returns : (c : Element) → fill_faults k fill.Body c ≡ [] → BodyReturns c
  body_returns c fills =
      let tagged = fill_of k fill.Body c fills in
      by (bytes_eq (codes "finiteenumeration") c.name) refl (bytes_eq (codes "cyclicenumeration") c.name) refl tagged.0 (sym (body_tag_of c.name) ∙ tagged.1) tagged.2
    where
      by : (finite : Bool) → bytes_eq (codes "finiteenumeration") c.name ≡ finite → (cyclic : Bool) → bytes_eq (codes "cyclicenumeration") c.name ≡ cyclic
          → (t : Tag) → body_choice (finite && true) (cyclic && true) (tag_of k c.name fill.Sort) ≡ Some t → IsShaped k t c → BodyReturns c
      by true is cyclic other t found shaped =
          let same : tag.FiniteEnumeration ≡ t = cc in
          let name = (bytes_eq-Decides (codes "finiteenumeration") c.name).0 is in
          subst (λ n. BodyReturns (named n c)) name (finite_returns c (subst (λ n. IsShaped k tag.FiniteEnumeration (named n c)) (sym name) (subst (λ u. IsShaped k u c) (sym same) shaped)))
      by false other true is t found shaped =
          let same : tag.CyclicEnumeration ≡ t = cc in
          let name = (bytes_eq-Decides (codes "cyclicenumeration") c.name).0 is in
          subst (λ n. BodyReturns (named n c)) name (cyclic_returns c (subst (λ n. IsShaped k tag.CyclicEnumeration (named n c)) (sym name) (subst (λ u. IsShaped k u c) (sym same) shaped)))
      by false other false also t found shaped = sort_body_returns c (of_fill k fill.Sort c t found shaped)

  bodies_there : has_slot k fill.Body ≡ true
  unfolding rule_for has_slot
  bodies_there = refl

  step_named : Step k declaration_read declaration_element declaration_without_offsets tag.NamedSort
  unfolding rule_for
  step_named e had shaped =
      let x = named (codes "namedsort") e in
      let shape = elements_shape k tag.NamedSort x refl shaped in
      let right = attrs_right k tag.NamedSort x refl shape in
      let slot : Slot = record { fill = fill.Body; least = 1; most = Some 1; over = over.Repeated } in
      let one = the_only k (rule_for tag.NamedSort) slot refl x refl refl bodies_there shape in
      let back = body_returns one.0 one.2 in
      let read : body_in x ≡ body_of one.0 = ap (λ xs. unwrap_or (option_map body_of (slice_get xs 0)) (bodies.Plain no_sort)) one.1 in
      let written : Element → Element = λ part. body_element (body_in x) in
      let fills = subst (λ body. fill_faults k fill.Body (body_element body) ≡ []) (sym read) back.0 in
      let id = attribute_of (codes "id") x in
      let y = declaration_element (declaration_read x) in
      let body : body_in y ≡ body_without_offsets (body_in x) =
      ap (λ xs. unwrap_or (option_map body_of (slice_get xs 0)) (bodies.Plain no_sort)) (elements_again (written one.0 ∷ [])) ∙ ap (λ b. body_of (body_element b)) read ∙ back.1 ∙ ap body_without_offsets (sym read) in (
        shaped_elements k tag.NamedSort y refl
            (subst (λ xs. HasShape k (rule_for tag.NamedSort) (made (codes "namedsort") (attrs_again x) (map children.Element (map written xs)))) one.1
            (shape_with k (rule_for tag.NamedSort) x written (codes "namedsort") (attrs_again x) refl shape
            (subst (AllByRecursion (λ p. StandsFor k (rule_for tag.NamedSort) p (written p))) (sym one.1) (stands_for_only k (rule_for tag.NamedSort) slot refl one.0 (written one.0) one.2 fills, tt))
            right.0 right.1)),
        refl,
        λ i. declarations.Named id (name_again id (attr_value (codes "name") x.attrs) i) (body i) 0,
      )

  -- ---- variables

  step_variable : has_slot k fill.Sort ≡ true → Step k declaration_read declaration_element declaration_without_offsets tag.VariableDecl
  unfolding rule_for
  step_variable sorts e had shaped =
      let x = named (codes "variabledecl") e in
      let shape = elements_shape k tag.VariableDecl x refl shaped in
      let right = attrs_right k tag.VariableDecl x refl shape in
      let back = sort_around k tag.VariableDecl (codes "variabledecl") (attrs_again x) x refl refl sorts shape right.0 right.1 in
      let id = attribute_of (codes "id") x in
      let y = declaration_element (declaration_read x) in
      (shaped_elements k tag.VariableDecl y refl back.0, refl, λ i. declarations.Variable id (name_again id (attr_value (codes "name") x.attrs) i) (back.1 i) 0)

  -- ---- elements of partitions

  step_named_value : Step k value_read value_element value_without_offset tag.UserOperator
  unfolding rule_for
  step_named_value e had shaped =
      let x = named (codes "useroperator") e in
      let id = attribute_of (codes "declaration") x in
      let y = value_element (value_read x) in
      (shaped_elements k tag.UserOperator y refl (leaf_shape k (rule_for tag.UserOperator) (codes "useroperator") (attribute (codes "declaration") id ∷ []) refl refl (refl, tt) (refl, tt)), refl, refl)

  step_range_value : Step k value_read value_element value_without_offset tag.FiniteIntRangeConstant
  unfolding rule_for
  step_range_value e had shaped =
      let x = named (codes "finiteintrangeconstant") e in
      let back = range_constant_returns k x had (elements_shape k tag.FiniteIntRangeConstant x refl shaped) in
      (shaped_elements k tag.FiniteIntRangeConstant (range_constant_again x) refl back.0, refl, λ i. values.Range (back.1 i) (back.2 i) (back.3 i) 0)

  step_part : Step k part_read part_element element_without_offsets tag.PartitionElement
  unfolding rule_for
  step_part e had shaped =
      let x = named (codes "partitionelement") e in
      let shape = elements_shape k tag.PartitionElement x refl shaped in
      let right = attrs_right k tag.PartitionElement x refl shape in
      let back = all_return k value_read value_element value_without_offset tag.PartitionElement (codes "partitionelement") (attrs_again x) x refl ((step_named_value, (step_range_value, tt)), tt) shape right.0 right.1 in
      let id = attribute_of (codes "id") x in
      let y = part_element (part_read x) in
      (shaped_elements k tag.PartitionElement y refl back.0, refl, λ i. record { id = id; name = name_again id (attr_value (codes "name") x.attrs) i; values = back.1 i; at = 0 })

  -- ---- partitions

  -- whether an element is one of a partition's
  abbrev is_part : Element → Bool
  is_part = has_name (codes "partitionelement")

  abbrev is_other : Element → Bool
  is_other x = not (is_part x)

  abbrev row : Saying
  row = rule_for tag.Partition

  abbrev part_again : Element → Element
  part_again x = part_element (part_read x)

  -- the sort that a partition splits, or one of its elements
  record IsBase (x : Element) : Type 0 where
    place : HasPlace k row 0 x
    sort : IsShapedSort k x

  record IsPart (x : Element) : Type 0 where
    place : HasPlace k row 1 x
    back : KidReturns k part_read part_element element_without_offsets row x
    is_one : is_part x ≡ true

  part_returns : (x : Element) (s : Spot) → spot_in k x.name 0 row.slots ≡ Some s → s.place ≡ 1 → tag_of k x.name (fill.One tag.PartitionElement) ≡ Some s.tag → IsShaped k s.tag x → IsPart x
  unfolding rule_for
  part_returns x s is at tagged shaped =
      let same = one_is k x.name tag.PartitionElement s.tag tagged in
      let name : codes "partitionelement" ≡ x.name = ap (λ t. (rule_for t).name) (sym same) ∙ (tag_is k x.name (fill.One tag.PartitionElement) s.tag tagged).0 in
      let whole = subst (λ t. IsShaped k t x) same shaped in
      let back = step_part x refl (subst (λ n. IsShaped k tag.PartitionElement (named n x)) (sym name) whole) in
      record {
        place = (s, is, at);
        back = ((s, s, is, ap (λ n. spot_in k n 0 row.slots) name ∙ is, refl, subst (λ t. IsShaped k t (part_again x)) (sym same) back.0), back.2);
        is_one = ap (λ n. bytes_eq n (codes "partitionelement")) (sym name);
      }

  base_or_part : (x : Element) → Stands k row x → IsBase x ⊎ IsPart x
  unfolding rule_for
  base_or_part x (s, is, shaped) = let place = spot_fills k x.name row.slots s is in at s.place refl place.0 place.1 place.2
    where
      at : (i : ℕ) → s.place ≡ i → (slot : Slot) → slice_get row.slots i ≡ Some slot → tag_of k x.name slot.fill ≡ Some s.tag → IsBase x ⊎ IsPart x
      at zero here slot found fills =
          let same : record { fill = fill.Sort; least = 1; most = Some 1; over = over.Repeated } ≡ slot = cc in
          inl (record { place = (s, is, here); sort = of_fill k fill.Sort x s.tag (ap (λ (r : Slot). tag_of k x.name r.fill) same ∙ fills) shaped })
      at (suc zero) here slot found fills =
          let same : record { fill = fill.One tag.PartitionElement; least = 1; most = None; over = over.Repeated } ≡ slot = cc in
          inr (part_returns x s is here (ap (λ (r : Slot). tag_of k x.name r.fill) same ∙ fills) shaped)
      at (suc (suc i)) here slot found fills = absurd cc

  base_among : (x : Element) → IsBase x ⊎ IsPart x → is_other x ≡ true → IsBase x
  base_among x (inl base) other = base
  base_among x (inr part) other = absurd (let no : false ≡ true = ap not (sym part.is_one) ∙ other in cc)

  part_among : (x : Element) → IsBase x ⊎ IsPart x → is_part x ≡ true → IsPart x
  part_among x (inl base) is = absurd (let no : false ≡ true = sym (no_part k x base.sort) ∙ is in cc)
  part_among x (inr part) is = part

  -- the elements of a partition that are written are all named so
  all_parts : (xs : List Element) → filter is_part (map part_again xs) ≡ map part_again xs
  all_parts [] = refl
  all_parts (x ∷ xs) = ap (λ ys. part_again x ∷ ys) (all_parts xs)

  -- a partition's elements: the sort, and all others
  record IsSplit (x : Element) : Type 0 where
    base : Element
    is_only : filter is_other (child_elements x) ≡ base ∷ []
    is_base : IsBase base
    parts : AllByRecursion IsPart (filter is_part (child_elements x))

  split : (x : Element) → has_slot k fill.Sort ≡ true → HasShape k row x → IsSplit x
  unfolding rule_for
  split x sorts shape = among others refl (filtered (λ y. IsBase y ⊎ IsPart y) IsBase is_other base_among xs ways)
    where
      xs : List Element
      xs = child_elements x

      others : List Element
      others = filter is_other xs

      ways : AllByRecursion (λ y. IsBase y ⊎ IsPart y) xs
      ways = each (Stands k row) (λ y. IsBase y ⊎ IsPart y) base_or_part xs (stand_among k row x.kids shape.kids)

      parts : AllByRecursion IsPart (filter is_part xs)
      parts = filtered (λ y. IsBase y ⊎ IsPart y) IsPart is_part part_among xs ways

      count : AllByRecursion IsBase others → filled k row.slots 0 x.kids ≡ length others
      count bases =
          sym (filled_elements k row 0 x.kids) ∙ filled_split k row is_part 0 xs
          ∙ omega (arith, filled_there k row 0 0 true refl others (each IsBase (HasPlace k row 0) (λ y b. b.place) others bases), filled_there k row 1 0 false refl (filter is_part xs) (each IsPart (HasPlace k row 1) (λ y p. p.place) (filter is_part xs) parts))

      no_less : 1 ≤ filled k row.slots 0 x.kids
      no_less = shape.least 0 (record { fill = fill.Sort; least = 1; most = Some 1; over = over.Repeated }) refl sorts

      no_more : filled k row.slots 0 x.kids ≤ 1
      no_more = shape.most 0

      among : (ys : List Element) → others ≡ ys → AllByRecursion IsBase others → IsSplit x
      among [] is bases = absurd (omega (arith, ap length is, count bases, no_less))
      among (y ∷ []) is bases = record { base = y; is_only = is; is_base = (subst (AllByRecursion IsBase) is bases).0; parts = parts }
      among (y ∷ (z ∷ zs)) is bases = absurd (omega (arith, ap length is, count bases, no_more))

  step_partition : has_slot k fill.Sort ≡ true → Step k declaration_read declaration_element declaration_without_offsets tag.Partition
  unfolding rule_for
  step_partition sorts e had shaped =
      let x = named (codes "partition") e in
      let shape = elements_shape k tag.Partition x refl shaped in
      let right = attrs_right k tag.Partition x refl shape in
      let split = split x sorts shape in
      let base = split.base in
      let parts = filter is_part (child_elements x) in
      let read : base_in x ≡ sort_read base = ap (λ o. unwrap_or (option_map sort_read o) no_sort) (found_first is_other (child_elements x) ∙ ap (λ ys. slice_get ys 0) split.is_only) in
      let back = sort_returns k base split.is_base.sort in
      let w = sort_element (base_in x) in
      let w_sort : IsShapedSort k w = subst (λ sort. IsShapedSort k (sort_element sort)) (sym read) back.0 in
      let w_tag = fill_of k fill.Sort w w_sort in
      let w_spot = spot_first k (record { fill = fill.Sort; least = 1; most = Some 1; over = over.Repeated }) (record { fill = fill.One tag.PartitionElement; least = 1; most = None; over = over.Repeated } ∷ []) w.name w_tag.0 w_tag.1 in
      let kids_back = each IsPart (KidReturns k part_read part_element element_without_offsets row) (λ y p. p.back) parts split.parts in
      let stand = kids_stand k part_read part_element element_without_offsets row parts kids_back in
      let again : map part_again parts ≡ map part_element (map part_read parts) = sym (map-map part_element part_read parts) in
      let zs = w ∷ map part_again parts in
      let zs_is : zs ≡ w ∷ map part_element (map part_read parts) = ap (λ ys. w ∷ ys) again in
      let id = attribute_of (codes "id") x in
      let y = declaration_element (declaration_read x) in
      let y_kids : child_elements y ≡ zs = elements_again (w ∷ map part_element (map part_read parts)) ∙ sym zs_is in
      let w_other = no_part k w w_sort in
      let base_is : base_in y ≡ sort_without_offsets (base_in x) =
      ap (λ ys. unwrap_or (option_map sort_read (find is_other ys)) no_sort) y_kids
      ∙ ap (λ b. unwrap_or (option_map sort_read (cond (not b) (Some w) (find is_other (map part_again parts)))) no_sort) w_other
      ∙ ap (λ sort. sort_read (sort_element sort)) read ∙ back.1 ∙ ap sort_without_offsets (sym read) in
      let parts_are : map part_read (children_named (codes "partitionelement") y) ≡ map element_without_offsets (map part_read parts) =
      ap (λ ys. map part_read (filter is_part ys)) y_kids
      ∙ ap (λ b. map part_read (cond b (w ∷ filter is_part (map part_again parts)) (filter is_part (map part_again parts)))) w_other
      ∙ ap (map part_read) (all_parts parts)
      ∙ kids_read k part_read part_element element_without_offsets row parts kids_back in (
        shaped_elements k tag.Partition y refl
            (subst (λ ys. HasShape k row (made (codes "partition") (attrs_again x) (map children.Element ys))) zs_is
            (shape_from k row x zs (codes "partition") (attrs_again x) refl shape
            (placed_element k row w (spot_at 0 w_tag.0) w_spot w_tag.2, placed_for k row part_again parts stand)
            (λ i. sym (filled_elements k row i x.kids) ∙ filled_split k row is_part i (child_elements x)
            ∙ ap (λ ys. filled k row.slots i (map children.Element ys) + filled k row.slots i (map children.Element parts)) split.is_only
            ∙ omega (
              arith,
              filled_first k row i base split.is_base.place.0 [] split.is_base.place.1,
              ap {B = ℕ} (λ p. cond (p == i) 1 0) split.is_base.place.2,
              filled_first k row i w (spot_at 0 w_tag.0) (map children.Element (map part_again parts)) w_spot,
              filled_for k row part_again i parts stand,
            ))
            right.0 right.1)),
        refl,
        λ i. declarations.Partition id (name_again id (attr_value (codes "name") x.attrs) i) (base_is i) (parts_are i) 0,
      )

  -- ---- all declarations

  pub declarations_return : (e : Element) → has_slot k fill.Sort ≡ true → IsShaped k tag.Declarations e
      → IsShaped k tag.Declarations (declarations_element (declarations_read e))
      × (declarations_read (declarations_element (declarations_read e)) ≡ map declaration_without_offsets (declarations_read e))
  unfolding rule_for
  declarations_return e sorts shaped =
      let back = all_return k declaration_read declaration_element declaration_without_offsets tag.Declarations (codes "declarations") [] e refl
      ((step_named, tt), ((step_variable sorts, tt), ((step_partition sorts, tt), tt))) (elements_shape k tag.Declarations e refl shaped) tt tt in
      (shaped_elements k tag.Declarations (declarations_element (declarations_read e)) refl back.0, back.1)

-- declarations that are equal but for offsets have one element

body_element_bare : (b : SortBody) → body_element (body_without_offsets b) ≡ body_element b
body_element_bare (bodies.Plain sort) = sort_element_alike (sort_without_offsets sort) sort (sort_bare_twice sort)
body_element_bare (bodies.Finite constants) = ap (λ es. made (codes "finiteenumeration") [] (map children.Element es)) (map-map constant_element constant_without_offset constants)
body_element_bare (bodies.Cyclic constants) = ap (λ es. made (codes "cyclicenumeration") [] (map children.Element es)) (map-map constant_element constant_without_offset constants)

value_element_bare : (v : ConstExpr) → value_element (value_without_offset v) ≡ value_element v
value_element_bare (values.Named id at) = refl
value_element_bare (values.Range value start end at) = refl

map_same : {X Y : Type 0} (f g : X → Y) → ((x : X) → f x ≡ g x) → (xs : List X) → map f xs ≡ map g xs
map_same f g same [] = refl
map_same f g same (x ∷ xs) = λ i. same x i ∷ map_same f g same xs i

part_element_bare : (p : PartElement) → part_element (element_without_offsets p) ≡ part_element p
part_element_bare p =
    ap (λ es. made (codes "partitionelement") (named_attrs p.id p.name) (map children.Element es))
    (map-map value_element value_without_offset p.values ∙ map_same (λ v. value_element (value_without_offset v)) value_element value_element_bare p.values)

declaration_element_bare : (d : Declaration) → declaration_element (declaration_without_offsets d) ≡ declaration_element d
declaration_element_bare (declarations.Named id name body at) = ap (λ e. made (codes "namedsort") (named_attrs id name) (children.Element e ∷ [])) (body_element_bare body)
declaration_element_bare (declarations.Variable id name sort at) =
    ap (λ e. made (codes "variabledecl") (named_attrs id name) (children.Element e ∷ [])) (sort_element_alike (sort_without_offsets sort) sort (sort_bare_twice sort))
declaration_element_bare (declarations.Partition id name sort elements at) = λ i.
    made (codes "partition") (named_attrs id name)
    (children.Element (sort_element_alike (sort_without_offsets sort) sort (sort_bare_twice sort) i)
    ∷ map children.Element ((map-map part_element element_without_offsets elements ∙ map_same (λ p. part_element (element_without_offsets p)) part_element part_element_bare elements) i))

pub declarations_element_bare : (ds : List Declaration) → declarations_element (map declaration_without_offsets ds) ≡ declarations_element ds
declarations_element_bare ds =
    ap (λ es. made (codes "declarations") [] (map children.Element es))
    (map-map declaration_element declaration_without_offsets ds ∙ map_same (λ d. declaration_element (declaration_without_offsets d)) declaration_element declaration_element_bare ds)

pub declarations_element_alike : (ds fs : List Declaration) → map declaration_without_offsets ds ≡ map declaration_without_offsets fs → declarations_element ds ≡ declarations_element fs
declarations_element_alike ds fs alike = sym (declarations_element_bare ds) ∙ ap declarations_element alike ∙ declarations_element_bare fs

body_bare_twice : (b : SortBody) → body_without_offsets (body_without_offsets b) ≡ body_without_offsets b
body_bare_twice (bodies.Plain sort) = ap bodies.Plain (sort_bare_twice sort)
body_bare_twice (bodies.Finite constants) = ap bodies.Finite (map-map constant_without_offset constant_without_offset constants)
body_bare_twice (bodies.Cyclic constants) = ap bodies.Cyclic (map-map constant_without_offset constant_without_offset constants)

value_bare_twice : (v : ConstExpr) → value_without_offset (value_without_offset v) ≡ value_without_offset v
value_bare_twice (values.Named id at) = refl
value_bare_twice (values.Range value start end at) = refl

part_bare_twice : (p : PartElement) → element_without_offsets (element_without_offsets p) ≡ element_without_offsets p
part_bare_twice p = ap (λ vs. record { id = p.id; name = p.name; values = vs; at = 0 })
    (map-map value_without_offset value_without_offset p.values ∙ map_same (λ v. value_without_offset (value_without_offset v)) value_without_offset value_bare_twice p.values)

pub declaration_bare_twice : (d : Declaration) → declaration_without_offsets (declaration_without_offsets d) ≡ declaration_without_offsets d
declaration_bare_twice (declarations.Named id name body at) = ap (λ b. declarations.Named id name b 0) (body_bare_twice body)
declaration_bare_twice (declarations.Variable id name sort at) = ap (λ s. declarations.Variable id name s 0) (sort_bare_twice sort)
declaration_bare_twice (declarations.Partition id name sort elements at) = λ i.
    declarations.Partition id name (sort_bare_twice sort i)
    ((map-map element_without_offsets element_without_offsets elements ∙ map_same (λ p. element_without_offsets (element_without_offsets p)) element_without_offsets part_bare_twice elements) i) 0

pub declarations_bare_twice : (ds : List Declaration) → map declaration_without_offsets (map declaration_without_offsets ds) ≡ map declaration_without_offsets ds
declarations_bare_twice ds =
    map-map declaration_without_offsets declaration_without_offsets ds ∙ map_same (λ d. declaration_without_offsets (declaration_without_offsets d)) declaration_without_offsets declaration_bare_twice ds

-- nets that have declarations have sorts
sorts_declared : (k : Kind) → is_had k tag.Declaration ≡ true → has_slot k fill.Sort ≡ true
unfolding rule_for has_slot
sorts_declared kind.PtNet had = absurd cc
sorts_declared kind.Symmetric had = refl
sorts_declared kind.HighLevel had = refl

-- what are, offsets aside, the declarations that an element without a fault of shape spells are written without one
pub declarations_shaped_again : (k : Kind) (e : Element) (ds : List Declaration) → is_had k tag.Declaration ≡ true → IsShaped k tag.Declarations e
    → map declaration_without_offsets ds ≡ map declaration_without_offsets (declarations_read e) → IsShaped k tag.Declarations (declarations_element ds)
declarations_shaped_again k e ds had shaped alike =
    subst (IsShaped k tag.Declarations) (sym (declarations_element_alike ds (declarations_read e) alike)) (declarations_return k e (sorts_declared k had) shaped).0

-- and read back without their offsets
pub declarations_read_again : (k : Kind) (e : Element) (ds : List Declaration) → is_had k tag.Declaration ≡ true → IsShaped k tag.Declarations e
    → map declaration_without_offsets ds ≡ map declaration_without_offsets (declarations_read e) → declarations_read (declarations_element ds) ≡ map declaration_without_offsets ds
declarations_read_again k e ds had shaped alike =
    ap declarations_read (declarations_element_alike ds (declarations_read e) alike) ∙ (declarations_return k e (sorts_declared k had) shaped).1 ∙ sym alike

pub declarations_same_again : (k : Kind) (e : Element) (ds : List Declaration) → is_had k tag.Declaration ≡ true → IsShaped k tag.Declarations e
    → map declaration_without_offsets ds ≡ map declaration_without_offsets (declarations_read e)
    → map declaration_without_offsets (declarations_read (declarations_element ds)) ≡ map declaration_without_offsets ds
declarations_same_again k e ds had shaped alike = ap (map declaration_without_offsets) (declarations_read_again k e ds had shaped alike) ∙ declarations_bare_twice ds
