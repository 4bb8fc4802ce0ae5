-- The element that is written for a term that was read may stand in a tree, where the element that was read may.
use Rattle.std.proofs.Common.{◌≡◌, ℕ, pos, zero, suc, Bool, true, false, cond, ◌&&◌, List, [], ◌∷◌, map, codes, Option, Some, None, refl, sym, ap, subst, ◌∙◌, arith}
use Rattle.std.specs.List.{AllByRecursion, slice_get}
use Rattle.std.specs.Option.{option_map, unwrap_or}
use Rattle.std.specs.Fmt.{signed_decimal}
use Rattle.std.specs.Str.{bytes_eq}
use Rattle.std.proofs.lemmas.Slice.Eq.{bytes_eq-Decides}
use Rattle.pn_facts.proofs.Bytes.{bytes_differ}
use Rattle.pn_text.specs.Characters.{is_name, is_text}
use Rattle.pn_operators.specs.Operators.{least_of, most_of, name_of}
use Rattle.pn_operators.specs.Rows.{all_operators}
use Rattle.pn_operators.specs.declared.kind.Kind.{Kind}
use Rattle.pn_operators.specs.declared.kind.Kind.TheVariants as kind
use Rattle.pn_operators.specs.declared.op.Op.{Op}
use Rattle.pn_operators.specs.declared.op.Op.TheVariants as op
use Rattle.pn_syntax.specs.declared.term.NumberSort.{NumberSort}
use Rattle.pn_syntax.specs.declared.term.NumberSort.TheVariants as number_sorts
use Rattle.pn_syntax.specs.declared.term.Term.{Term}
use Rattle.pn_syntax.specs.declared.term.TermNode.{TermNode, map-TermNode}
use Rattle.pn_syntax.specs.declared.term.TermNode.TheOpen as layer
use Rattle.pn_syntax.specs.declared.term.TermNode.TheVariants as nodes
use Rattle.pn_syntax.specs.declared.term.TermNode.TheVariants.{rolls-Variable, rolls-UserOp, rolls-Bool, rolls-Number, rolls-RangeConst, rolls-Text, rolls-All, rolls-Empty, rolls-EmptyList, rolls-PartitionOf, rolls-Apply}
use Rattle.pn_syntax.specs.declared.term.TermNode.TheViews.{roll-TermNode}
use Rattle.pn_syntax.specs.declared.term.TermNode.TheFolds.{fold-TermNode}
use Rattle.pn_tree.specs.Elements.{is_element}
use Rattle.pn_tree.specs.declared.element.Element.{Element}
use Rattle.pn_tree.specs.declared.element.Child.TheVariants as children
use Rattle.pn_tree.proofs.OpenLemmas.{parts_at}
use Rattle.pn_tree.proofs.TreeLemmas.{is_element_more, not_element-zero, parts_of}
use Rattle.pn_shape.proofs.WrittenLemmas.{both_all}
use Rattle.pn_shape.specs.Faults.{fill_faults, IsShaped, IsShapedTerm}
use Rattle.pn_shape.specs.Rules.{alternatives, is_had, rule_for, slot_of, slots_between}
use Rattle.pn_shape.specs.Spots.{first_named, has_slot, spot_in, tag_of}
use Rattle.pn_shape.specs.declared.rule.Fill.TheVariants as fill
use Rattle.pn_shape.specs.declared.search.Spot.{Spot}
use Rattle.pn_shape.specs.declared.tag.Tag.{Tag}
use Rattle.pn_shape.specs.declared.tag.Tag.TheVariants as tag
use Rattle.pn_shape.proofs.PlaceLemmas.{fill_of, of_fill, one_is, tag_is}
use Rattle.pn_spelling.specs.Parts.{attribute_of, child_elements, end_in, first_child, has_name, number_at, start_in}
use Rattle.pn_spelling.specs.ReadSorts.{no_sort, sort_in, sort_read}
use Rattle.pn_spelling.specs.ReadTerms.{basis_in, basis_of, first_term, no_term, number_sort_in, term_in, term_node, term_read}
use Rattle.pn_spelling.specs.Writing.{enclosing, attribute, made}
use Rattle.pn_spelling.specs.WriteSorts.{range_element, sort_element}
use Rattle.pn_spelling.specs.WriteTerms.{constant_of, number_sort_name, subterm, term_element, term_step, truth_text}
use Rattle.pn_spelling.proofs.OperatorLemmas.{operator_by_own_name}
use Rattle.pn_spelling.proofs.ReadLemmas.{term_of_parts, term_read_is}
use Rattle.pn_facts.proofs.Each.{each, one_of}
use Rattle.pn_round_trip.proofs.KidLemmas.{Stands, only_spot, stand_among}
use Rattle.pn_round_trip.proofs.SortLemmas.{named}
use Rattle.pn_round_trip.proofs.TermLemmas.{basis_there, number_sorts_there, operator_node, ranges_there, subterms_there, term_again, term_element_at}
use Rattle.pn_round_trip.proofs.WritableParts.{AllFit, HasOnly, around_fits, attributed_fits, first_fits, inside_fit, made_fits, one_fits, only_inside, value_attrs, whole_of}
use Rattle.pn_round_trip.proofs.WritableSorts.{HasSorts, range_fits, sort_fits, sort_in_fits, sort_slot}
use Rattle.pn_round_trip.proofs.WritableTexts.{given_text, number_text, zero_text}

-- nets with sorts have terms
pub term_slot : (k : Kind) → HasSorts k → has_slot k fill.Term ≡ true
unfolding rule_for has_slot
term_slot kind.PtNet had = absurd cc
term_slot kind.Symmetric had = refl
term_slot kind.HighLevel had = refl

-- the sort in a `multisetsort`, or the sort itself

multiset_tag : (k : Kind) (t : Tag) → tag_of k (codes "multisetsort") fill.Basis ≡ Some t → t ≡ tag.MultisetSort
unfolding rule_for tag_of
multiset_tag kind.PtNet t is = absurd cc
multiset_tag kind.Symmetric t is = cc
multiset_tag kind.HighLevel t is = cc

other_basis : (k : Kind) (name : List ℕ) → bytes_eq name (codes "multisetsort") ≡ false → tag_of k name fill.Basis ≡ tag_of k name fill.Sort
unfolding rule_for tag_of
other_basis k name differs = ap (λ b. cond (b && is_had k tag.MultisetSort) (Some tag.MultisetSort) (first_named k name (alternatives fill.Sort))) (bytes_differ name (codes "multisetsort") differs)

multiset_inside : (n : ℕ) (k : Kind) (e : Element) → HasSorts k → is_element (suc n) e ≡ true → IsShaped k tag.MultisetSort e → HasOnly n k fill.Sort e
unfolding rule_for
multiset_inside n k e had fits shaped = only_inside n k tag.MultisetSort e fill.Sort refl refl (sort_slot k had) fits shaped

basis_fits : (n : ℕ) (k : Kind) (e : Element) → HasSorts k → is_element n e ≡ true → fill_faults k fill.Basis e ≡ [] → is_element n (sort_element (basis_of e)) ≡ true
basis_fits zero k e had fits shaped = absurd (not_element-zero e fits)
basis_fits (suc n) k e had fits shaped = step (has_name (codes "multisetsort") e) refl
  where
    step : (b : Bool) → has_name (codes "multisetsort") e ≡ b → is_element (suc n) (sort_element (cond b (sort_in e) (sort_read e))) ≡ true
    step true is =
        let t = fill_of k fill.Basis e shaped in
        let same = multiset_tag k t.0 (ap (λ m. tag_of k m fill.Basis) (sym ((bytes_eq-Decides e.name (codes "multisetsort")).0 is)) ∙ t.1) in
        is_element_more n (suc n) (sort_element (sort_in e)) (omega arith) (sort_in_fits n k e had (multiset_inside n k e had fits (subst (λ u. IsShaped k u e) same t.2)))
    step false is =
        let t = fill_of k fill.Basis e shaped in
        sort_fits (suc n) k had e fits (of_fill k fill.Sort e t.0 (sym (other_basis k e.name is) ∙ t.1) t.2)

basis_in_fits : (n : ℕ) (k : Kind) (e : Element) → HasSorts k → HasOnly n k fill.Basis e → is_element n (sort_element (basis_in e)) ≡ true
basis_in_fits n k e had one =
    let first : basis_in e ≡ basis_of one.x = ap (λ xs. unwrap_or (option_map basis_of (slice_get xs 0)) no_sort) one.only in
    ap (λ s. is_element n (sort_element s)) first ∙ basis_fits n k one.x had one.fits one.shaped

-- constants

constant_fits : (n : ℕ) (name value : List ℕ) (sort : Element) → is_name name ≡ true → is_text value ≡ true → is_element n sort ≡ true → is_element (suc n) (constant_of name value sort) ≡ true
constant_fits n name value sort named is fits = made_fits n name (attribute (codes "value") value ∷ []) (children.Element sort ∷ []) named (value_attrs (codes "value") value refl is) (one_fits n sort fits)

in_text : (name : List ℕ) (o : Option Element) → is_text (signed_decimal (unwrap_or (option_map (number_at name) o) (pos 0))) ≡ true
in_text name None = zero_text
in_text name (Some x) = number_text (attribute_of name x)

number_sort_fits : (n : ℕ) (x : Element) (s : NumberSort) → is_element n x ≡ true → is_element n (made (number_sort_name s) [] []) ≡ true
number_sort_fits n x s fits = let p = parts_at n x fits in subst (λ m. is_element m (made (number_sort_name s) [] []) ≡ true) (sym p.1) (by p.0 s)
  where
    by : (m : ℕ) (s : NumberSort) → is_element (suc m) (made (number_sort_name s) [] []) ≡ true
    by m number_sorts.Integer = made_fits m (codes "integer") [] [] refl refl refl
    by m number_sorts.Natural = made_fits m (codes "natural") [] [] refl refl refl
    by m number_sorts.Positive = made_fits m (codes "positive") [] [] refl refl refl

truth_is_text : (b : Bool) → is_text (truth_text b) ≡ true
truth_is_text false = refl
truth_is_text true = refl

-- the range constant that an element spells
pub range_constant_fits : (n : ℕ) (k : Kind) (e : Element) → HasSorts k → is_element (suc n) e ≡ true → IsShaped k tag.FiniteIntRangeConstant e
    → is_element (suc n) (constant_of (codes "finiteintrangeconstant") (signed_decimal (number_at (codes "value") e)) (range_element (start_in e) (end_in e))) ≡ true
unfolding rule_for
range_constant_fits n k e had fits shaped =
    let one = only_inside n k tag.FiniteIntRangeConstant e (fill.One tag.FiniteIntRange) refl refl (ranges_there k had) fits shaped in
    let p = parts_at n one.x one.fits in
    constant_fits n (codes "finiteintrangeconstant") (signed_decimal (number_at (codes "value") e)) (range_element (start_in e) (end_in e)) refl (number_text (attribute_of (codes "value") e))
    (subst (λ m. is_element m (range_element (start_in e) (end_in e)) ≡ true) (sym p.1)
    (range_fits p.0 (start_in e) (end_in e) (in_text (codes "start") (first_child e)) (in_text (codes "end") (first_child e))))

-- operators

operator_is_name : (o : Op) → is_name (name_of o) ≡ true
operator_is_name op.DotConstant = refl
operator_is_name _ = refl

argument_is : (k : Kind) (least : ℕ) (most : Option ℕ) (name : List ℕ) (s : Spot) → spot_in k name 0 (slots_between least most) ≡ Some s → s.tag ≡ tag.Subterm
unfolding spot_in
argument_is k least None name s is = let only = only_spot k (slot_of tag.Subterm least None) name s is in one_is k name tag.Subterm s.tag only.1
argument_is k least (Some zero) name s is = absurd (let no : None ≡ Some s = is in cc)
argument_is k least (Some (suc most)) name s is = let only = only_spot k (slot_of tag.Subterm least (Some (suc most))) name s is in one_is k name tag.Subterm s.tag only.1

arguments_shaped : (n : ℕ) (k : Kind) (o : Op) (e : Element) → is_element (suc n) e ≡ true → IsShaped k (tag.Operator o) e → AllByRecursion (IsShaped k tag.Subterm) (child_elements e)
unfolding rule_for
arguments_shaped n k o e fits shaped =
    let w = whole_of n k (tag.Operator o) e refl fits shaped in
    each (Stands k (rule_for (tag.Operator o))) (IsShaped k tag.Subterm)
    (λ x s. subst (λ u. IsShaped k u x) (argument_is k (least_of o) (most_of o) x.name s.0 s.1) s.2) (child_elements e)
    (stand_among k (rule_for (tag.Operator o)) e.kids w.shape.kids)

each_mapped : {X Y : Type 0} (P : Y → Type 0) (f : X → Y) → ((x : X) → P (f x)) → (xs : List X) → AllByRecursion P (map f xs)
each_mapped P f h [] = tt
each_mapped P f h (x ∷ xs) = (h x, each_mapped P f h xs)

-- the elements of terms, but for the operators
abbrev leaves : List Tag
leaves = tag.Variable ∷ tag.UserOperator ∷ tag.BooleanConstant ∷ tag.NumberConstant ∷ tag.FiniteIntRangeConstant ∷ tag.PartitionElementOf ∷ tag.All ∷ tag.Empty ∷ tag.StringConstant ∷ tag.EmptyList ∷ []

-- terms of fewer levels
pub record ShorterTermsFit (n : ℕ) (k : Kind) : Type 0 where
  pub terms : (x : Element) → is_element n x ≡ true → IsShapedTerm k x → is_element n (term_again x) ≡ true
  pub subterms : (x : Element) → is_element n x ≡ true → IsShaped k tag.Subterm x → is_element n (enclosing (codes "subterm") (term_element (term_in x))) ≡ true

module _ (n : ℕ) (k : Kind) (had : HasSorts k) (less : ShorterTermsFit n k) where
  abbrev Step : Tag → Type 0
  Step t = (e : Element) → is_element (suc n) (named (rule_for t).name e) ≡ true → IsShaped k t (named (rule_for t).name e) → is_element (suc n) (term_again (named (rule_for t).name e)) ≡ true

  abbrev arguments : Element → List Term
  arguments e = map term_in (child_elements e)

  said : (e : Element) (l : layer.TermNode-F TermNode Term) → roll-TermNode l ≡ term_node e (arguments e) → is_element (suc n) (term_step (map-TermNode TermNode Term Element Element (fold-TermNode Element Element term_step (λ e. e.node)) term_element l)) ≡ true → is_element (suc n) (term_again e) ≡ true
  said e l is h = ap (λ s. is_element (suc n) (term_element s)) (term_read_is e) ∙ ap (is_element (suc n)) (term_element_at (term_of_parts e (arguments e)) l is) ∙ h

  value : (name : List ℕ) (e : Element) → is_element (suc n) e ≡ true → is_text (attribute_of name e) ≡ true
  value name e fits = given_text name e.attrs (parts_of n e fits).attrs

  step_variable : Step tag.Variable
  unfolding rule_for
  step_variable e fits shaped =
      let v = attribute_of (codes "refvariable") e in
      said (named (codes "variable") e) (layer.Variable v) (rolls-Variable v) (attributed_fits n (codes "variable") (codes "refvariable") v refl refl (value (codes "refvariable") (named (codes "variable") e) fits))

  step_user : Step tag.UserOperator
  unfolding rule_for
  step_user e fits shaped =
      let v = attribute_of (codes "declaration") e in
      said (named (codes "useroperator") e) (layer.UserOp v) (rolls-UserOp v) (attributed_fits n (codes "useroperator") (codes "declaration") v refl refl (value (codes "declaration") (named (codes "useroperator") e) fits))

  step_truth : Step tag.BooleanConstant
  unfolding rule_for
  step_truth e fits shaped =
      let b = bytes_eq (attribute_of (codes "value") e) (codes "true") in
      said (named (codes "booleanconstant") e) (layer.Bool b) (rolls-Bool b) (attributed_fits n (codes "booleanconstant") (codes "value") (truth_text b) refl refl (truth_is_text b))

  step_number : Step tag.NumberConstant
  unfolding rule_for
  step_number e fits shaped =
      let x = named (codes "numberconstant") e in
      let z = number_at (codes "value") e in
      let one = only_inside n k tag.NumberConstant x fill.NumberSort refl refl (number_sorts_there k had) fits shaped in
      said x (layer.Number z (number_sort_in e)) (rolls-Number z (number_sort_in e))
      (constant_fits n (codes "numberconstant") (signed_decimal z) (made (number_sort_name (number_sort_in e)) [] []) refl (number_text (attribute_of (codes "value") e)) (number_sort_fits n one.x (number_sort_in e) one.fits))

  step_range : Step tag.FiniteIntRangeConstant
  unfolding rule_for
  step_range e fits shaped =
      let x = named (codes "finiteintrangeconstant") e in
      let z = number_at (codes "value") e in
      said x (layer.RangeConst z (start_in e) (end_in e)) (rolls-RangeConst z (start_in e) (end_in e)) (range_constant_fits n k x had fits shaped)

  step_text : Step tag.StringConstant
  unfolding rule_for
  step_text e fits shaped =
      let v = attribute_of (codes "value") e in
      said (named (codes "stringconstant") e) (layer.Text v) (rolls-Text v) (attributed_fits n (codes "stringconstant") (codes "value") v refl refl (value (codes "value") (named (codes "stringconstant") e) fits))

  step_all : Step tag.All
  unfolding rule_for
  step_all e fits shaped =
      let x = named (codes "all") e in
      said x (layer.All (basis_in e)) (rolls-All (basis_in e))
      (around_fits n (codes "all") (sort_element (basis_in e)) refl (basis_in_fits n k x had (only_inside n k tag.All x fill.Basis refl refl (basis_there k (term_slot k had)) fits shaped)))

  step_empty : Step tag.Empty
  unfolding rule_for
  step_empty e fits shaped =
      let x = named (codes "empty") e in
      said x (layer.Empty (basis_in e)) (rolls-Empty (basis_in e))
      (around_fits n (codes "empty") (sort_element (basis_in e)) refl (basis_in_fits n k x had (only_inside n k tag.Empty x fill.Basis refl refl (basis_there k (term_slot k had)) fits shaped)))

  step_empty_list : Step tag.EmptyList
  unfolding rule_for
  step_empty_list e fits shaped =
      let x = named (codes "emptylist") e in
      said x (layer.EmptyList (sort_in e)) (rolls-EmptyList (sort_in e))
      (around_fits n (codes "emptylist") (sort_element (sort_in e)) refl (sort_in_fits n k x had (only_inside n k tag.EmptyList x fill.Sort refl refl (sort_slot k had) fits shaped)))

  step_partition : Step tag.PartitionElementOf
  unfolding rule_for
  step_partition e fits shaped =
      let x = named (codes "partitionelementof") e in
      let v = attribute_of (codes "refpartition") e in
      let one = only_inside n k tag.PartitionElementOf x (fill.One tag.Subterm) refl refl (subterms_there k) fits shaped in
      let t = fill_of k (fill.One tag.Subterm) one.x one.shaped in
      let sub = subst (λ u. IsShaped k u one.x) (one_is k one.x.name tag.Subterm t.0 t.1) t.2 in
      let first : first_term (arguments x) ≡ term_in one.x = ap (λ xs. first_term (map term_in xs)) one.only in
      said x (layer.PartitionOf v (first_term (arguments x))) (rolls-PartitionOf v (first_term (arguments x)))
      (made_fits n (codes "partitionelementof") (attribute (codes "refpartition") v ∷ []) (subterm (term_element (first_term (arguments x))) ∷ []) refl
      (value_attrs (codes "refpartition") v refl (value (codes "refpartition") x fits))
      (one_fits n (enclosing (codes "subterm") (term_element (first_term (arguments x)))) (ap (λ s. is_element n (enclosing (codes "subterm") (term_element s))) first ∙ less.subterms one.x one.fits sub)))

  arguments_fit : (xs : List Element) → AllByRecursion (λ x. is_element n x ≡ true) xs → AllByRecursion (IsShaped k tag.Subterm) xs → AllFit n (map subterm (map term_element (map term_in xs)))
  arguments_fit [] fit shaped = refl
  arguments_fit (x ∷ xs) fit shaped =
      first_fits n (enclosing (codes "subterm") (term_element (term_in x))) (map subterm (map term_element (map term_in xs))) (less.subterms x fit.0 shaped.0) (arguments_fit xs fit.1 shaped.1)

  step_operator : (o : Op) → Step (tag.Operator o)
  unfolding rule_for
  step_operator o e fits shaped =
      let x = named (name_of o) e in
      said x (layer.Apply o (arguments x)) (rolls-Apply o (arguments x) ∙ sym (operator_node o e (arguments x) ∙ ap (λ p. nodes.Apply p (arguments x)) (operator_by_own_name o)))
      (made_fits n (name_of o) [] (map subterm (map term_element (arguments x))) (operator_is_name o) refl
      (arguments_fit (child_elements x) (inside_fit n x (parts_of n x fits)) (arguments_shaped n k o x fits shaped)))

  all_steps : AllByRecursion Step (alternatives fill.Term)
  all_steps =
      both_all Step leaves (map tag.Operator all_operators)
      (step_variable, (step_user, (step_truth, (step_number, (step_range, (step_partition, (step_all, (step_empty, (step_text, (step_empty_list, tt))))))))))
      (each_mapped Step tag.Operator step_operator all_operators)

  term_step_fits : (e : Element) → is_element (suc n) e ≡ true → IsShapedTerm k e → is_element (suc n) (term_again e) ≡ true
  term_step_fits e fits shaped =
      let t = fill_of k fill.Term e shaped in
      let is = tag_is k e.name fill.Term t.0 t.1 in
      let same : named (rule_for t.0).name e ≡ e = λ i. record { name = is.0 i; at = e.at; attrs = e.attrs; kids = e.kids } in
      subst (λ x. is_element (suc n) (term_again x) ≡ true) same
      (one_of Step (alternatives fill.Term) t.0 all_steps is.2 e (subst (λ x. is_element (suc n) x ≡ true) (sym same) fits) (subst (IsShaped k t.0) (sym same) t.2))

  subterm_step_fits : (e : Element) → is_element (suc n) e ≡ true → IsShaped k tag.Subterm e → is_element (suc n) (enclosing (codes "subterm") (term_element (term_in e))) ≡ true
  unfolding rule_for
  subterm_step_fits e fits shaped =
      let one = only_inside n k tag.Subterm e fill.Term refl refl (term_slot k had) fits shaped in
      let first : term_in e ≡ term_read one.x = ap (λ xs. unwrap_or (option_map term_read (slice_get xs 0)) no_term) one.only in
      around_fits n (codes "subterm") (term_element (term_in e)) refl (ap (λ s. is_element n (term_element s)) first ∙ less.terms one.x one.fits one.shaped)

written : (n : ℕ) (k : Kind) → HasSorts k → ShorterTermsFit n k
written zero k had = record { terms = λ x fits shaped. absurd (not_element-zero x fits); subterms = λ x fits shaped. absurd (not_element-zero x fits) }
written (suc n) k had = let less = written n k had in record { terms = term_step_fits n k had less; subterms = subterm_step_fits n k had less }

-- the term that an element without a fault of shape spells
pub term_fits : (n : ℕ) (k : Kind) → HasSorts k → (e : Element) → is_element n e ≡ true → IsShapedTerm k e → is_element n (term_again e) ≡ true
term_fits n k had e fits shaped = (written n k had).terms e fits shaped
