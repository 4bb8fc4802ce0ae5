-- Which element a name is, and which place it has.
use Rattle.std.proofs.Common.{◌≡◌, ℕ, Bool, true, false, cond, List, [], ◌∷◌, ◌++◌, map, Option, None, Some, refl, sym, ap, ◌∙◌, ◌↔◌, ◌||◌}
use Rattle.std.specs.List.{list_any}
use Rattle.std.specs.Option.{option_or, option_map}
use Rattle.pn_operators.specs.Operators.{name_of, IsTaken, is_taken}
use Rattle.pn_operators.specs.Rows.{all_operators}
use Rattle.pn_operators.specs.declared.kind.Kind.{Kind}
use Rattle.pn_operators.specs.declared.kind.Kind.TheVariants as kind
use Rattle.pn_operators.specs.declared.op.Op.{Op}
use Rattle.std.proofs.lemmas.List.Folds.{list_any-append}
use Rattle.pn_operators.proofs.Naming.{named_in, named_so}
use Rattle.pn_shape.specs.Rules.{rule_for, is_had, is_named, alternatives}
use Rattle.pn_shape.specs.Spots.{first_named, tag_of, has_slot}
use Rattle.pn_shape.specs.declared.rows.TheConstants as table
use Rattle.pn_shape.specs.declared.rule.Fill.TheVariants as fill
use Rattle.pn_shape.specs.declared.tag.Tag.{Tag}
use Rattle.pn_shape.specs.declared.tag.Tag.TheVariants as tag

pub first_named-append : (k : Kind) (name : List ℕ) (ts us : List Tag) → first_named k name (ts ++ us) ≡ option_or (first_named k name ts) (first_named k name us)
first_named-append k name [] us = refl
first_named-append k name (t ∷ ts) us = step (is_named k name t) (first_named-append k name ts us)
  where
    step : (b : Bool) → first_named k name (ts ++ us) ≡ option_or (first_named k name ts) (first_named k name us)
        → cond b (Some t) (first_named k name (ts ++ us)) ≡ option_or (cond b (Some t) (first_named k name ts)) (first_named k name us)
    step true h = refl
    step false h = h

-- the terms of nets of a kind, where there are any
pub has_terms : (k : Kind) → is_taken kind.Symmetric k ≡ list_any (is_had k) (alternatives fill.Term)
unfolding rule_for
has_terms kind.PtNet = refl
has_terms kind.Symmetric = refl
has_terms kind.HighLevel = refl

-- two options that hold the same values are the same
same_option : {A : Type 0} (P : A → Type 0) (r s : Option A) → ((a : A) → (r ≡ Some a) ↔ P a) → ((a : A) → (s ≡ Some a) ↔ P a) → r ≡ s
same_option P None None f g = refl
same_option P (Some a) s f g = sym ((g a).1 ((f a).0 refl))
same_option P None (Some a) f g = (f a).1 ((g a).0 refl)

operators_named : (k : Kind) (name : List ℕ) (os : List Op) → first_named k name (map tag.Operator os) ≡ option_map tag.Operator (named_in name k os)
unfolding rule_for
operators_named k name [] = refl
operators_named k name (o ∷ os) = step (is_named k name (tag.Operator o)) (operators_named k name os)
  where
    step : (b : Bool) → first_named k name (map tag.Operator os) ≡ option_map tag.Operator (named_in name k os)
        → cond b (Some (tag.Operator o)) (first_named k name (map tag.Operator os)) ≡ option_map tag.Operator (cond b (Some o) (named_in name k os))
    step true h = refl
    step false h = h

-- a term is one of the leaves, or else the operator of this name
pub term_tag : (k : Kind) (name : List ℕ) (l : Option Tag) (r : Option Op) → l ≡ first_named k name table.LEAVES.now
    → ((o : Op) → (r ≡ Some o) ↔ ((name_of o ≡ name) × IsTaken o k)) → option_or l (option_map tag.Operator r) ≡ tag_of k name fill.Term
unfolding tag_of
term_tag k name l r leaf so =
    let same : r ≡ named_in name k all_operators = same_option (λ o. (name_of o ≡ name) × IsTaken o k) r (named_in name k all_operators) so (named_so name k) in
    ap (λ x. option_or x (option_map tag.Operator r)) leaf
    ∙ (ap (λ x. option_or (first_named k name table.LEAVES.now) (option_map tag.Operator x)) same
    ∙ (ap (option_or (first_named k name table.LEAVES.now)) (sym (operators_named k name all_operators))
    ∙ sym (first_named-append k name table.LEAVES.now (map tag.Operator all_operators))))

pub leaf_tag : (k : Kind) (name : List ℕ) (t : Tag) → Some t ≡ first_named k name table.LEAVES.now → Some t ≡ tag_of k name fill.Term
unfolding tag_of
leaf_tag k name t leaf =
    ap (λ x. option_or x (first_named k name (map tag.Operator all_operators))) leaf
    ∙ sym (first_named-append k name table.LEAVES.now (map tag.Operator all_operators))

pub body_tag : (k : Kind) (name : List ℕ) (r : Option Tag) → r ≡ option_or (first_named k name table.ENUMERATIONS.now) (first_named k name table.SORTS.now) → r ≡ tag_of k name fill.Body
unfolding tag_of
body_tag k name r is = is ∙ sym (first_named-append k name table.ENUMERATIONS.now table.SORTS.now)

pub basis_tag : (k : Kind) (name : List ℕ) (r : Option Tag) → r ≡ option_or (first_named k name table.MULTISETS.now) (first_named k name table.SORTS.now) → r ≡ tag_of k name fill.Basis
unfolding tag_of
basis_tag k name r is = is ∙ sym (first_named-append k name table.MULTISETS.now table.SORTS.now)

-- a place for a sort or an enumeration, where nets have no enumeration
pub body_open : (k : Kind) (a b : Bool) → a ≡ list_any (is_had k) table.ENUMERATIONS.now → a ≡ false → b ≡ list_any (is_had k) table.SORTS.now → b ≡ has_slot k fill.Body
unfolding has_slot
body_open k a b first none second =
    second ∙ (ap (λ x. x || list_any (is_had k) table.SORTS.now) (sym none ∙ first) ∙ sym (list_any-append (is_had k) table.ENUMERATIONS.now table.SORTS.now))
