-- What is found in an element, one kid after the other.
use Rattle.std.proofs.Common.{◌≡◌, ℕ, ◌+◌, Bool, true, false, List, [], ◌∷◌, ◌++◌, codes, drop, take, Option, None, Some, refl, sym, ap, ◌∙◌, subst, cond, append-nil}
use Rattle.std.specs.List.{filter, find, slice_get}
use Rattle.std.specs.Option.{option_map, option_or, unwrap_or}
use Rattle.std.proofs.lemmas.List.Elements.{filter-append}
use Rattle.std.proofs.lemmas.List.Folds.{find-append}
use Rattle.pn_tree.specs.Views.{child_of, element_of}
use Rattle.pn_tree.specs.declared.element.Element.{Element}
use Rattle.pn_tree.specs.declared.element.Child.{Child}
use Rattle.pn_tree.specs.declared.view.View.{View}
use Rattle.pn_tree.specs.declared.view.Kid.{Kid}
use Rattle.pn_tree.specs.declared.view.Kid.TheVariants as kids
use Rattle.pn_spelling.specs.Parts.{child_named, elements_among, has_name}
use Rattle.pn_spelling.specs.ReadNets.{child_or_self, is_opaque_part}
use Rattle.pn_spelling.proofs.PartLemmas.{from_element, from_text}
use Rattle.pn_core_grammar.specs.declared.search.Inside.{Inside}
use Rattle.pn_core_grammar.specs.Inside.{AreFoundAmong, IsFirst, first_kept, kid_elements, noted, noted_kid}
use Rattle.pn_core_grammar.proofs.KidLemmas.{element_next, text_next}

pub option_or-none : {A : Type 0} (o : Option A) → option_or o None ≡ o
option_or-none None = refl
option_or-none (Some x) = refl

kept_first : (before : Option View) (v : View) (es : List Element) (name : List ℕ) → IsFirst es name before → option_map element_of (option_or before (Some v)) ≡ option_or (find (has_name name) es) (Some (element_of v))
kept_first None v es name is = ap (λ o. option_or o (Some (element_of v))) is
kept_first (Some w) v es name is = ap (λ o. option_or o (Some (element_of v))) is

-- the first element of a name, with one more element
first_next : (es : List Element) (name : List ℕ) (v : View) (before : Option View) → IsFirst es name before → IsFirst (es ++ element_of v ∷ []) name (first_kept name v before)
first_next es name v before is = by (has_name name (element_of v)) refl
  where
    whole : find (has_name name) (es ++ element_of v ∷ []) ≡ option_or (find (has_name name) es) (find (has_name name) (element_of v ∷ []))
    whole = find-append (has_name name) es (element_of v ∷ [])

    by : (b : Bool) → has_name name (element_of v) ≡ b → IsFirst (es ++ element_of v ∷ []) name (first_kept name v before)
    by true h =
        ap (λ b. option_map element_of (cond b (option_or before (Some v)) before)) h ∙ kept_first before v es name is
        ∙ sym (whole ∙ ap (λ b. option_or (find (has_name name) es) (cond b (Some (element_of v)) None)) h)
    by false h =
        ap (λ b. option_map element_of (cond b (option_or before (Some v)) before)) h ∙ is
        ∙ sym (whole ∙ ap (λ b. option_or (find (has_name name) es) (cond b (Some (element_of v)) None)) h ∙ option_or-none (find (has_name name) es))

-- the parts that pass a test, with one more element
pub filter_next : {X : Type 0} (p : X → Bool) (xs : List X) (x : X) → filter p (xs ++ x ∷ []) ≡ cond (p x) (filter p xs ++ x ∷ []) (filter p xs)
filter_next p xs x = filter-append p xs (x ∷ []) ∙ by (p x)
  where
    by : (b : Bool) → filter p xs ++ cond b (x ∷ []) [] ≡ cond b (filter p xs ++ x ∷ []) (filter p xs)
    by true = refl
    by false = append-nil (filter p xs)

-- one element more
pub found_next : (es : List Element) (v : View) (i : Inside) → AreFoundAmong es i → AreFoundAmong (es ++ element_of v ∷ []) (noted v i)
found_next es v i f = record {
  name = first_next es (codes "name") v i.name f.name;
  text = first_next es (codes "text") v i.text f.text;
  structure = first_next es (codes "structure") v i.structure f.structure;
  marking = first_next es (codes "initialMarking") v i.marking f.marking;
  sort = first_next es (codes "type") v i.sort f.sort;
  hl_marking = first_next es (codes "hlinitialMarking") v i.hl_marking f.hl_marking;
  condition = first_next es (codes "condition") v i.condition f.condition;
  weight = first_next es (codes "inscription") v i.weight f.weight;
  inscription = first_next es (codes "hlinscription") v i.inscription f.inscription;
  opaque = ap (λ l. cond (is_opaque_part (element_of v)) (l ++ element_of v ∷ []) l) f.opaque ∙ sym (filter_next is_opaque_part es (element_of v));
}

-- one kid more
pub inside_next : (e : Element) (i : ℕ) (k : Kid) (inside : Inside) → slice_get e.kids i ≡ Some (child_of k) → AreFoundAmong (elements_among (take i e.kids)) inside
    → AreFoundAmong (elements_among (take (i + 1) e.kids)) (noted_kid k inside)
inside_next e i (kids.Element v) inside is f =
    subst (λ es. AreFoundAmong es (noted v inside)) (sym (element_next e.kids i (element_of v) is)) (found_next (elements_among (take i e.kids)) v inside f)
inside_next e i (kids.Text t) inside is f = subst (λ es. AreFoundAmong es inside) (sym (text_next e.kids i t.now is)) f

-- the first element of a name from a place on
pub first_from : (ks : List Child) (i : ℕ) (k : Kid) (name : List ℕ) → slice_get ks i ≡ Some (child_of k)
    → find (has_name name) (elements_among (drop i ks)) ≡ option_or (find (has_name name) (kid_elements k)) (find (has_name name) (elements_among (drop (i + 1) ks)))
first_from ks i (kids.Element v) name is = ap (find (has_name name)) (from_element ks i (element_of v) is) ∙ by (has_name name (element_of v))
  where
    by : (b : Bool) → cond b (Some (element_of v)) (find (has_name name) (elements_among (drop (i + 1) ks))) ≡ option_or (cond b (Some (element_of v)) None) (find (has_name name) (elements_among (drop (i + 1) ks)))
    by true = refl
    by false = refl
first_from ks i (kids.Text t) name is = ap (find (has_name name)) (from_text ks i t.now is)

-- it is the kid at that place, where that has the name
pub first_is : (e : Element) (i : ℕ) (k : Kid) (name : List ℕ) (v : View) → slice_get e.kids i ≡ Some (child_of k) → child_named name e ≡ find (has_name name) (elements_among (drop i e.kids))
    → Some (element_of v) ≡ find (has_name name) (kid_elements k) → element_of v ≡ child_or_self name e
first_is e i k name v is so_far own =
    ap (λ o. unwrap_or o e) (ap (λ o. option_or o (find (has_name name) (elements_among (drop (i + 1) e.kids)))) own ∙ sym (first_from e.kids i k name is) ∙ sym so_far)

-- else it stands behind that place
pub first_behind : (e : Element) (i : ℕ) (k : Kid) (name : List ℕ) → slice_get e.kids i ≡ Some (child_of k) → child_named name e ≡ find (has_name name) (elements_among (drop i e.kids))
    → None ≡ find (has_name name) (kid_elements k) → child_named name e ≡ find (has_name name) (elements_among (drop (i + 1) e.kids))
first_behind e i k name is so_far own =
    so_far ∙ first_from e.kids i k name is ∙ sym (ap (λ o. option_or o (find (has_name name) (elements_among (drop (i + 1) e.kids)))) own)
