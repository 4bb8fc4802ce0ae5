-- The element that is written for declarations that were read may stand in a tree, where the element that was read may.
use Rattle.std.proofs.Common.{◌≡◌, ℕ, zero, suc, Bool, true, false, cond, not, ◌&&◌, List, [], ◌∷◌, map, codes, Option, Some, None, IfSome, refl, sym, ap, subst, ◌∙◌, arith}
use Rattle.std.specs.List.{AllByRecursion, find, slice_get}
use Rattle.std.specs.Option.{option_map, unwrap_or}
use Rattle.std.specs.Str.{bytes_eq}
use Rattle.std.proofs.lemmas.Bool.{false≢true}
use Rattle.std.proofs.lemmas.Slice.Eq.{bytes_eq-Decides}
use Rattle.pn_facts.proofs.Bytes.{bytes_differ}
use Rattle.pn_facts.proofs.Truths.{and_both}
use Rattle.pn_text.specs.Characters.{is_name, is_text}
use Rattle.pn_operators.specs.declared.kind.Kind.{Kind}
use Rattle.pn_operators.specs.declared.kind.Kind.TheVariants as kind
use Rattle.pn_syntax.specs.declared.declaration.ConstExpr.TheVariants as values
use Rattle.pn_syntax.specs.declared.declaration.SortBody.TheVariants as bodies
use Rattle.pn_tree.specs.Elements.{are_attrs, attr_value, is_element}
use Rattle.pn_tree.specs.declared.element.Element.{Element}
use Rattle.pn_tree.specs.declared.element.Child.TheVariants as children
use Rattle.pn_tree.proofs.TreeLemmas.{Parts, not_element-zero, parts_of}
use Rattle.pn_shape.specs.Faults.{fill_faults, IsShaped, IsShapedSort}
use Rattle.pn_shape.specs.Rules.{alternatives, is_had, rule_for}
use Rattle.pn_shape.specs.Spots.{first_named, has_slot, spot_in, tag_of}
use Rattle.pn_shape.specs.declared.rule.Fill.TheVariants as fill
use Rattle.pn_shape.specs.declared.rule.Over.TheVariants as over
use Rattle.pn_shape.specs.declared.rule.Slot.{Slot}
use Rattle.pn_shape.specs.declared.search.Spot.{Spot}
use Rattle.pn_shape.specs.declared.tag.Tag.{Tag}
use Rattle.pn_shape.specs.declared.tag.Tag.TheVariants as tag
use Rattle.pn_shape.proofs.PlaceLemmas.{fill_of, of_fill, one_is, spot_fills, tag_is}
use Rattle.pn_spelling.specs.Parts.{attribute_of, child_elements, children_named, end_in, has_name, number_at, start_in}
use Rattle.pn_spelling.specs.ReadSorts.{no_sort, sort_in, sort_read}
use Rattle.pn_spelling.specs.ReadDeclarations.{base_in, body_in, body_of, constant_read, declaration_read, declarations_read, part_read, value_read}
use Rattle.pn_spelling.specs.Writing.{all_kids, made}
use Rattle.pn_spelling.specs.WriteSorts.{sort_element}
use Rattle.pn_spelling.specs.WriteDeclarations.{body_element, constant_element, declaration_element, declarations_element, named_attrs, part_element, value_element}
use Rattle.pn_round_trip.proofs.KidLemmas.{only_spot}
use Rattle.pn_round_trip.proofs.SortLemmas.{named}
use Rattle.pn_round_trip.proofs.WritableParts.{HasOnly, Inner, Standing, IsSoundElement, all_kids_fit, attributed_fits, by_one, by_spot, find_is, find_needed, first_fits, inner_named, inside_fit, made_fits, one_fits, only_inside, same_tag, slot_same, standing, stands_needed, value_attrs, whole_of}
use Rattle.pn_round_trip.proofs.WritableSorts.{HasSorts, one_sort, sort_fits, sort_in_fits, sort_slot}
use Rattle.pn_round_trip.proofs.WritableTerms.{range_constant_fits}
use Rattle.pn_round_trip.proofs.WritableTexts.{given_text, value_text}

body_slot : (k : Kind) → HasSorts k → has_slot k fill.Body ≡ true
unfolding rule_for has_slot
body_slot kind.PtNet had = absurd cc
body_slot kind.Symmetric had = refl
body_slot kind.HighLevel had = refl

-- an id, and a name where there is one
named_attrs_right : (n : ℕ) (e : Element) → Parts n e → are_attrs (named_attrs (attribute_of (codes "id") e) (attr_value (codes "name") e.attrs)) ≡ true
named_attrs_right n e p = by (attr_value (codes "name") e.attrs) (value_text (codes "name") e.attrs p.attrs)
  where
    id : List ℕ
    id = attribute_of (codes "id") e

    id_text : is_text (attribute_of (codes "id") e) ≡ true
    id_text = given_text (codes "id") e.attrs p.attrs

    by : (o : Option (List ℕ)) → IfSome o (λ v. is_text v ≡ true) → are_attrs (named_attrs (attribute_of (codes "id") e) o) ≡ true
    by None is = value_attrs (codes "id") (attribute_of (codes "id") e) refl id_text
    by (Some v) is = and_both (is_text (attribute_of (codes "id") e)) (is_text v && true) id_text (and_both (is_text v) true is refl)

-- constants of enumerations

constant_read_fits : (n : ℕ) (e : Element) → is_element n e ≡ true → is_element n (constant_element (constant_read e)) ≡ true
constant_read_fits zero e fits = absurd (not_element-zero e fits)
constant_read_fits (suc n) e fits =
    made_fits n (codes "feconstant") (named_attrs (attribute_of (codes "id") e) (attr_value (codes "name") e.attrs)) [] refl (named_attrs_right n e (parts_of n e fits)) refl

enumeration_fits : (n : ℕ) (name : List ℕ) (e : Element) → is_name name ≡ true → is_element (suc n) e ≡ true → is_element (suc n) (made name [] (all_kids constant_element (map constant_read (child_elements e)))) ≡ true
enumeration_fits n name e is fits =
    made_fits n name [] (all_kids constant_element (map constant_read (child_elements e))) is refl
    (all_kids_fit (λ x. is_element n x ≡ true) n constant_element constant_read (constant_read_fits n) (child_elements e) (inside_fit n e (parts_of n e fits)))

-- what a `namedsort` names

other_body : (k : Kind) (name : List ℕ) → bytes_eq name (codes "finiteenumeration") ≡ false → bytes_eq name (codes "cyclicenumeration") ≡ false → tag_of k name fill.Body ≡ tag_of k name fill.Sort
unfolding rule_for tag_of
other_body k name first second =
    ap
    (λ b. cond (b && is_had k tag.FiniteEnumeration) (Some tag.FiniteEnumeration) (cond (bytes_eq (codes "cyclicenumeration") name && is_had k tag.CyclicEnumeration) (Some tag.CyclicEnumeration) (first_named k name (alternatives fill.Sort))))
    (bytes_differ name (codes "finiteenumeration") first)
    ∙ ap (λ b. cond (b && is_had k tag.CyclicEnumeration) (Some tag.CyclicEnumeration) (first_named k name (alternatives fill.Sort))) (bytes_differ name (codes "cyclicenumeration") second)

body_fits : (n : ℕ) (k : Kind) (e : Element) → HasSorts k → is_element n e ≡ true → fill_faults k fill.Body e ≡ [] → is_element n (body_element (body_of e)) ≡ true
body_fits zero k e had fits shaped = absurd (not_element-zero e fits)
body_fits (suc n) k e had fits shaped = first (has_name (codes "finiteenumeration") e) refl (has_name (codes "cyclicenumeration") e) refl
  where
    first : (a : Bool) → has_name (codes "finiteenumeration") e ≡ a → (b : Bool) → has_name (codes "cyclicenumeration") e ≡ b
        → is_element (suc n) (body_element (cond a (bodies.Finite (map constant_read (child_elements e))) (cond b (bodies.Cyclic (map constant_read (child_elements e))) (bodies.Plain (sort_read e))))) ≡ true
    first true is b also = enumeration_fits n (codes "finiteenumeration") e refl fits
    first false is true also = enumeration_fits n (codes "cyclicenumeration") e refl fits
    first false is false also =
        let t = fill_of k fill.Body e shaped in sort_fits (suc n) k had e fits (of_fill k fill.Sort e t.0 (sym (other_body k e.name is also) ∙ t.1) t.2)

body_in_fits : (n : ℕ) (k : Kind) (e : Element) → HasSorts k → HasOnly n k fill.Body e → is_element n (body_element (body_in e)) ≡ true
body_in_fits n k e had one =
    let first : body_in e ≡ body_of one.x = ap (λ xs. unwrap_or (option_map body_of (slice_get xs 0)) (bodies.Plain no_sort)) one.only in
    ap (λ b. is_element n (body_element b)) first ∙ body_fits n k one.x had one.fits one.shaped

-- values that an element of a partition lists

constant_tag : (k : Kind) (t : Tag) → tag_of k (codes "finiteintrangeconstant") fill.Constant ≡ Some t → t ≡ tag.FiniteIntRangeConstant
unfolding rule_for tag_of
constant_tag kind.PtNet t is = absurd cc
constant_tag kind.Symmetric t is = cc
constant_tag kind.HighLevel t is = cc

abbrev some_constants : Slot
some_constants = record { fill = fill.Constant; least = 1; most = None; over = over.Repeated }

abbrev StandsAmong : ℕ → Kind → List Slot → Element → Type 0
StandsAmong n k slots x = (is_element n x ≡ true) × ((s : Spot) × (spot_in k x.name 0 slots ≡ Some s) × IsShaped k s.tag x)

value_fits : (n : ℕ) (k : Kind) (e : Element) → HasSorts k → StandsAmong n k (some_constants ∷ []) e → is_element n (value_element (value_read e)) ≡ true
value_fits zero k e had (fits, stands) = absurd (not_element-zero e fits)
value_fits (suc n) k e had (fits, stands) = step (has_name (codes "finiteintrangeconstant") e) refl
  where
    step : (b : Bool) → has_name (codes "finiteintrangeconstant") e ≡ b
        → is_element (suc n) (value_element (cond b (values.Range (number_at (codes "value") e) (start_in e) (end_in e) e.at) (values.Named (attribute_of (codes "declaration") e) e.at))) ≡ true
    step true is =
        let tagged = (only_spot k some_constants e.name stands.0 stands.1).1 in
        let same = constant_tag k stands.0.tag (ap (λ m. tag_of k m fill.Constant) (sym ((bytes_eq-Decides e.name (codes "finiteintrangeconstant")).0 is)) ∙ tagged) in
        range_constant_fits n k e had fits (subst (λ u. IsShaped k u e) same stands.2)
    step false is = attributed_fits n (codes "useroperator") (codes "declaration") (attribute_of (codes "declaration") e) refl refl (given_text (codes "declaration") e.attrs (parts_of n e fits).attrs)

part_values : (n : ℕ) (k : Kind) (e : Element) → is_element (suc n) e ≡ true → IsShaped k tag.PartitionElement e → AllByRecursion (StandsAmong n k (some_constants ∷ [])) (child_elements e)
unfolding rule_for
part_values n k e fits shaped = standing n k (rule_for tag.PartitionElement) e (whole_of n k tag.PartitionElement e refl fits shaped)

part_fits : (n : ℕ) (k : Kind) (e : Element) → HasSorts k → is_element n e ≡ true → IsShaped k tag.PartitionElement e → is_element n (part_element (part_read e)) ≡ true
part_fits zero k e had fits shaped = absurd (not_element-zero e fits)
part_fits (suc n) k e had fits shaped =
    made_fits n (codes "partitionelement") (named_attrs (attribute_of (codes "id") e) (attr_value (codes "name") e.attrs)) (all_kids value_element (map value_read (child_elements e))) refl (named_attrs_right n e (parts_of n e fits))
    (all_kids_fit (StandsAmong n k (some_constants ∷ [])) n value_element value_read (λ x s. value_fits n k x had s) (child_elements e) (part_values n k e fits shaped))

-- the sort and the elements of a partition

abbrev partition_slots : List Slot
partition_slots = one_sort ∷ record { fill = fill.One tag.PartitionElement; least = 1; most = None; over = over.Repeated } ∷ []

part_tag : (k : Kind) (s : Spot) → spot_in k (codes "partitionelement") 0 partition_slots ≡ Some s → s.tag ≡ tag.PartitionElement
unfolding rule_for tag_of spot_in
part_tag k s is = same_tag 1 tag.PartitionElement s is

no_part : (k : Kind) (t : Tag) → tag_of k (codes "partitionelement") fill.Sort ≡ Some t → ⊥
unfolding rule_for tag_of
no_part k t is = let nothing : None ≡ Some t = is in cc

abbrev is_other : Element → Bool
is_other x = not (has_name (codes "partitionelement") x)

is_other_sort : (k : Kind) (x : Element) (t : Tag) → tag_of k x.name fill.Sort ≡ Some t → is_other x ≡ true
is_other_sort k x t is = by (has_name (codes "partitionelement") x) refl
  where
    by : (b : Bool) → has_name (codes "partitionelement") x ≡ b → not b ≡ true
    by true same = absurd (no_part k t (ap (λ m. tag_of k m fill.Sort) (sym ((bytes_eq-Decides x.name (codes "partitionelement")).0 same)) ∙ is))
    by false same = refl

part_name : (rule_for tag.PartitionElement).name ≡ codes "partitionelement"
unfolding rule_for
part_name = refl

other_is_sort : (k : Kind) (x : Element) (s : Spot) → spot_in k x.name 0 partition_slots ≡ Some s → IsShaped k s.tag x → is_other x ≡ true → IsShapedSort k x
other_is_sort k x s is shaped other =
    by_spot (λ t. IsShaped k t x → IsShapedSort k x) k x.name partition_slots s is (
      (λ t sort shape. of_fill k fill.Sort x t sort shape),
      ((λ t part shape. absurd (contradiction t part)), tt),
    ) shaped
  where
    contradiction : (t : Tag) → tag_of k x.name (fill.One tag.PartitionElement) ≡ Some t → ⊥
    contradiction t part =
        let is = (tag_is k x.name (fill.One tag.PartitionElement) t part).0 in
        let one = one_is k x.name tag.PartitionElement t part in
        let called : x.name ≡ codes "partitionelement" = sym is ∙ ap (λ u. (rule_for u).name) one ∙ part_name in
        false≢true (sym (ap not ((bytes_eq-Decides x.name (codes "partitionelement")).1 called)) ∙ other)

base_fits : (n : ℕ) (k : Kind) (e : Element) → HasSorts k → IsSoundElement n k (rule_for tag.Partition) e → (rule_for tag.Partition).slots ≡ partition_slots → is_element n (sort_element (base_in e)) ≡ true
base_fits n k e had w slots = found.0
  where
    at_first : (x : Element) (s : Spot) → spot_in k x.name 0 (rule_for tag.Partition).slots ≡ Some s → s.place ≡ 0 → is_other x ≡ true
    at_first x s is place =
        let f = spot_fills k x.name (rule_for tag.Partition).slots s is in
        let slot : f.0 ≡ one_sort = slot_same (rule_for tag.Partition).slots s.place 0 f.0 one_sort place f.1 (ap (λ l. slice_get l 0) slots) in
        is_other_sort k x s.tag (ap (λ (r : Slot). tag_of k x.name r.fill) (sym slot) ∙ f.2)

    there : (y : Element) × (find is_other (child_elements e) ≡ Some y)
    there = find_needed k (rule_for tag.Partition).slots 0 is_other e at_first (stands_needed k (rule_for tag.Partition) e 0 one_sort w.shape (ap (λ l. slice_get l 0) slots) (sort_slot k had) (omega arith))

    found : (is_element n (sort_element (base_in e)) ≡ true) × Unit {0}
    found =
        let y = find_is (Standing n k (rule_for tag.Partition) e w) is_other (child_elements e) there.0 (standing n k (rule_for tag.Partition) e w) there.1 in
        let sort = other_is_sort k there.0 y.0.1.0 (ap (spot_in k there.0.name 0) (sym slots) ∙ y.0.1.1) y.0.1.2 y.1 in
        (ap (λ o. is_element n (sort_element (unwrap_or (option_map sort_read o) no_sort))) there.1 ∙ sort_fits n k had there.0 y.0.0 sort, tt)

-- one declaration

module _ (n : ℕ) (k : Kind) (had : HasSorts k) where
  abbrev Step : Tag → Type 0
  Step t = (e : Element) → is_element (suc n) (named (rule_for t).name e) ≡ true → IsShaped k t (named (rule_for t).name e) → is_element (suc n) (declaration_element (declaration_read (named (rule_for t).name e))) ≡ true

  step_named : Step tag.NamedSort
  unfolding rule_for
  step_named e fits shaped =
      let x = named (codes "namedsort") e in
      made_fits n (codes "namedsort") (named_attrs (attribute_of (codes "id") e) (attr_value (codes "name") e.attrs)) (children.Element (body_element (body_in e)) ∷ []) refl (named_attrs_right n x (parts_of n x fits))
      (one_fits n (body_element (body_in e)) (body_in_fits n k x had (only_inside n k tag.NamedSort x fill.Body refl refl (body_slot k had) fits shaped)))

  step_variable : Step tag.VariableDecl
  unfolding rule_for
  step_variable e fits shaped =
      let x = named (codes "variabledecl") e in
      made_fits n (codes "variabledecl") (named_attrs (attribute_of (codes "id") e) (attr_value (codes "name") e.attrs)) (children.Element (sort_element (sort_in e)) ∷ []) refl (named_attrs_right n x (parts_of n x fits))
      (one_fits n (sort_element (sort_in e)) (sort_in_fits n k x had (only_inside n k tag.VariableDecl x fill.Sort refl refl (sort_slot k had) fits shaped)))

  part_again : (x : Element) → Inner n k partition_slots (codes "partitionelement") x → is_element n (part_element (part_read x)) ≡ true
  part_again x i = part_fits n k x had i.fits (subst (λ u. IsShaped k u x) (part_tag k i.spot i.found) i.shaped)

  step_partition : Step tag.Partition
  unfolding rule_for
  step_partition e fits shaped =
      let x = named (codes "partition") e in
      let w = whole_of n k tag.Partition x refl fits shaped in
      let parts = children_named (codes "partitionelement") x in
      made_fits n (codes "partition") (named_attrs (attribute_of (codes "id") e) (attr_value (codes "name") e.attrs)) (children.Element (sort_element (base_in e)) ∷ all_kids part_element (map part_read parts)) refl (named_attrs_right n x (parts_of n x fits))
      (first_fits n (sort_element (base_in e)) (all_kids part_element (map part_read parts)) (base_fits n k x had w refl)
      (all_kids_fit (Inner n k partition_slots (codes "partitionelement")) n part_element part_read part_again parts (inner_named n k (rule_for tag.Partition) x w (codes "partitionelement"))))

  pub declaration_fits : (e : Element) (t : Tag) → (rule_for t).name ≡ e.name → Step t → is_element (suc n) e ≡ true → IsShaped k t e → is_element (suc n) (declaration_element (declaration_read e)) ≡ true
  declaration_fits e t is step fits shaped =
      let same : named (rule_for t).name e ≡ e = λ i. record { name = is i; at = e.at; attrs = e.attrs; kids = e.kids } in
      subst (λ x. is_element (suc n) (declaration_element (declaration_read x)) ≡ true) same (step e (subst (λ x. is_element (suc n) x ≡ true) (sym same) fits) (subst (IsShaped k t) (sym same) shaped))

abbrev any_of : Tag → Slot
any_of t = record { fill = fill.One t; least = 0; most = None; over = over.Repeated }

abbrev declared_slots : List Slot
declared_slots = any_of tag.NamedSort ∷ any_of tag.VariableDecl ∷ any_of tag.Partition ∷ []

one_declaration : (n : ℕ) (k : Kind) (e : Element) → HasSorts k → StandsAmong n k declared_slots e → is_element n (declaration_element (declaration_read e)) ≡ true
one_declaration zero k e had (fits, stands) = absurd (not_element-zero e fits)
one_declaration (suc n) k e had (fits, stands) =
    let f = spot_fills k e.name declared_slots stands.0 stands.1 in
    let is = tag_is k e.name f.0.fill stands.0.tag f.2 in
    declaration_fits n k had e stands.0.tag is.0
    (by_spot (Step n k had) k e.name declared_slots stands.0 stands.1
    (by_one (Step n k had) k e.name tag.NamedSort (step_named n k had), (by_one (Step n k had) k e.name tag.VariableDecl (step_variable n k had), (by_one (Step n k had) k e.name tag.Partition (step_partition n k had), tt))))
    fits stands.2

-- the declarations that an element without a fault of shape spells
pub declarations_fit : (n : ℕ) (k : Kind) → HasSorts k → (e : Element) → is_element n e ≡ true → IsShaped k tag.Declarations e → is_element n (declarations_element (declarations_read e)) ≡ true
unfolding rule_for
declarations_fit zero k had e fits shaped = absurd (not_element-zero e fits)
declarations_fit (suc n) k had e fits shaped =
    let w = whole_of n k tag.Declarations e refl fits shaped in
    made_fits n (codes "declarations") [] (all_kids declaration_element (map declaration_read (child_elements e))) refl refl
    (all_kids_fit (StandsAmong n k declared_slots) n declaration_element declaration_read (λ x s. one_declaration n k x had s) (child_elements e) (standing n k (rule_for tag.Declarations) e w))
