-- The sort and the term that tests write can be written.
use Rattle.std.proofs.Common.{◌≡◌, ℕ, suc, true, List, [], ◌∷◌, codes, pos, negsuc, refl, sym, ap, ◌∙◌, subst, arith}
use Rattle.std.specs.Fmt.{signed_decimal}
use Rattle.std.proofs.lemmas.Fmt.{decimal_digit}
use Rattle.pn_facts.proofs.Truths.{and_both}
use Rattle.pn_text.specs.Characters.{is_text}
use Rattle.pn_operators.specs.declared.op.Op.TheVariants as op
use Rattle.pn_syntax.specs.declared.sort_expr.SortNode.TheOpen as sort_layer
use Rattle.pn_syntax.specs.declared.sort_expr.SortNode.TheVariants.{rolls-Range, rolls-User}
use Rattle.pn_syntax.specs.declared.sort_expr.SortNode.TheViews.{out-SortNode, out-roll-SortNode}
use Rattle.pn_syntax.specs.declared.term.NumberSort.TheVariants as number_sorts
use Rattle.pn_syntax.specs.declared.term.TermNode.TheOpen as term_layer
use Rattle.pn_syntax.specs.declared.term.TermNode.TheVariants.{rolls-Number, rolls-All}
use Rattle.pn_syntax.specs.declared.term.TermNode.TheViews.{out-TermNode, out-roll-TermNode}
use Rattle.pn_tree.specs.Elements.{are_attrs, is_element}
use Rattle.pn_tree.specs.declared.element.Element.{Element}
use Rattle.pn_tree.specs.Building.{Building, begun, nothing_built}
use Rattle.pn_tree.specs.declared.element.Child.TheVariants as children
use Rattle.pn_tree.specs.Elements.{is_kid}
use Rattle.pn_tree.proofs.ElementLemmas.{is_kid-element}
use Rattle.pn_spelling.specs.Writing.{attribute, made, enclosing}
use Rattle.pn_spelling.specs.WriteSorts.{sort_element}
use Rattle.pn_spelling.specs.WriteTerms.{term_element}
use Rattle.pn_spelling.proofs.WriteLemmas.{sort_at, product_element, term_at, apply_element}
use Rattle.pn_spelling.proofs.WritingLemmas.{element_fits, fits_too}
use Rattle.pn_writer.specs.Giving.{MayTakeElement}
use Rattle.pn_writer_tests.specs.Parts.{sample_range, sample_user, sample_sort, sample_number, sample_all, sample_term}

-- the attributes of the range, where its numbers are texts
range_attrs : (a b : List ℕ) → is_text a ≡ true → is_text b ≡ true → are_attrs (attribute (codes "start") a ∷ attribute (codes "end") b ∷ []) ≡ true
range_attrs a b p q = and_both (is_text a) _ p (and_both (is_text b) true q refl)

value_attrs : (a : List ℕ) → is_text a ≡ true → are_attrs (attribute (codes "value") a ∷ []) ≡ true
value_attrs a p = and_both (is_text a) true p refl

minus_three : is_text (signed_decimal (negsuc 2)) ≡ true
minus_three = ap (λ ds. is_text (45 ∷ ds)) (decimal_digit 3 (omega arith))

seven : is_text (signed_decimal (pos 7)) ≡ true
seven = ap is_text (decimal_digit 7 (omega arith))

two : is_text (signed_decimal (pos 2)) ≡ true
two = ap is_text (decimal_digit 2 (omega arith))

range_fits : is_element 254 (sort_element sample_range) ≡ true
range_fits =
    subst (λ (e : Element). is_element 254 e ≡ true) (sym (sort_at sample_range (sort_layer.Range (negsuc 2) (pos 7)) (ap out-SortNode (sym (rolls-Range (negsuc 2) (pos 7))) ∙ out-roll-SortNode (sort_layer.Range (negsuc 2) (pos 7)))))
    (element_fits 253 (codes "finiteintrange") 0 (attribute (codes "start") (signed_decimal (negsuc 2)) ∷ attribute (codes "end") (signed_decimal (pos 7)) ∷ []) [] refl
    (range_attrs (signed_decimal (negsuc 2)) (signed_decimal (pos 7)) minus_three seven) refl)

-- the sort named c, at any level
pub user_fits : (m : ℕ) → is_element (suc m) (sort_element sample_user) ≡ true
user_fits m =
    subst (λ (e : Element). is_element (suc m) e ≡ true) (sym (sort_at sample_user (sort_layer.User (codes "c")) (ap out-SortNode (sym (rolls-User (codes "c"))) ∙ out-roll-SortNode (sort_layer.User (codes "c")))))
    (element_fits m (codes "usersort") 0 (attribute (codes "declaration") (codes "c") ∷ []) [] refl refl refl)

pub sort_fits : is_element 255 (sort_element sample_sort) ≡ true
sort_fits =
    subst (λ (e : Element). is_element 255 e ≡ true) (sym (product_element sample_sort (sample_range ∷ sample_user ∷ []) refl))
    (element_fits 254 (codes "productsort") 0 [] (sort_element sample_range ∷ sort_element sample_user ∷ []) refl refl
    (fits_too 254 (sort_element sample_range) (sort_element sample_user ∷ []) range_fits (fits_too 254 (sort_element sample_user) [] (user_fits 253) refl)))

number_fits : is_element 253 (term_element sample_number) ≡ true
number_fits =
    subst (λ (e : Element). is_element 253 e ≡ true)
    (sym (term_at sample_number (term_layer.Number (pos 2) number_sorts.Positive) (ap out-TermNode (sym (rolls-Number (pos 2) number_sorts.Positive)) ∙ out-roll-TermNode (term_layer.Number (pos 2) number_sorts.Positive))))
    (element_fits 252 (codes "numberconstant") 0 (attribute (codes "value") (signed_decimal (pos 2)) ∷ []) (made (codes "positive") [] [] ∷ []) refl (value_attrs (signed_decimal (pos 2)) two)
    (fits_too 252 (made (codes "positive") [] []) [] (element_fits 251 (codes "positive") 0 [] [] refl refl refl) refl))

-- the multiset of all of that sort, at any level
pub all_fits : (m : ℕ) → is_element (suc (suc m)) (term_element sample_all) ≡ true
all_fits m =
    subst (λ (e : Element). is_element (suc (suc m)) e ≡ true) (sym (term_at sample_all (term_layer.All sample_user) (ap out-TermNode (sym (rolls-All sample_user)) ∙ out-roll-TermNode (term_layer.All sample_user))))
    (element_fits (suc m) (codes "all") 0 [] (sort_element sample_user ∷ []) refl refl (fits_too (suc m) (sort_element sample_user) [] (user_fits m) refl))

abbrev number_argument : Element
number_argument = enclosing (codes "subterm") (term_element sample_number)

abbrev all_argument : Element
all_argument = enclosing (codes "subterm") (term_element sample_all)

pub term_fits : is_element 255 (term_element sample_term) ≡ true
term_fits =
    subst (λ (e : Element). is_element 255 e ≡ true) (sym (apply_element sample_term op.ScalarProduct (sample_number ∷ sample_all ∷ []) refl))
    (element_fits 254 (codes "scalarproduct") 0 [] (number_argument ∷ all_argument ∷ []) refl refl
    (fits_too 254 number_argument (all_argument ∷ []) (element_fits 253 (codes "subterm") 0 [] (term_element sample_number ∷ []) refl refl (fits_too 253 (term_element sample_number) [] number_fits refl))
    (fits_too 254 all_argument [] (element_fits 253 (codes "subterm") 0 [] (term_element sample_all ∷ []) refl refl (fits_too 253 (term_element sample_all) [] (all_fits 251) refl)) refl)))

-- in a root that was begun such an element may be given
pub fits_in_root : (e : Element) (b d : Building) → is_element 255 e ≡ true → b ≡ nothing_built → d ≡ begun (codes "structure") 0 b → MayTakeElement e d
fits_in_root e b d h new is =
    subst (MayTakeElement e) (sym (is ∙ ap (begun (codes "structure") 0) new))
    (record { unended = refl; is_open = refl; fit = and_both (is_kid (is_element 255) (children.Element e)) true (is_kid-element (is_element 255) e ∙ h) refl })
