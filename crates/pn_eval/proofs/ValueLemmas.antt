-- What a term gives, by its layer and what its parts give.
use Rattle.std.proofs.Common.{◌≡◌, ◌≤◌, ◌<◌, ◌+◌, ℕ, ℤ, Bool, List, [], ◌∷◌, ◌++◌, length, get_or, take, Result, Ok, Err, IfOk, refl, sym, ap, ◌∙◌, subst}
use Rattle.std.proofs.lemmas.List.{take_all, take_more}
use Rattle.std.specs.List.{Contains}
use Rattle.std.proofs.lemmas.List.Elements.{Contains-get_or}
use Rattle.pn_operations.specs.declared.outcome.Outcome.{Outcome}
use Rattle.pn_syntax.specs.declared.declaration.Declaration.{Declaration}
use Rattle.pn_syntax.specs.declared.term.Term.{Term}
use Rattle.pn_terms.specs.Terms.{Layer, layer_of, parts_in, parts_of}
use Rattle.pn_values.specs.declared.value.Value.{Value}
use Rattle.pn_eval.specs.Values.{GivesValue, HasValue, HaveValues, none, more}

-- a term whose parts give these
pub value_with : (items : List Declaration) (vars : List ℕ) (given : List Value) (e : Term) (l : Layer) → layer_of e ≡ l → (os : List Outcome) (o : Outcome) → HaveValues items vars given (parts_in l) os → GivesValue items vars given l os o → HasValue items vars given e o
value_with items vars given e l is os o have gives =
    (os, subst (λ m. HaveValues items vars given (parts_in m) os) (sym is) have, subst (λ m. GivesValue items vars given m os o) (sym is) gives)

-- a term without parts
pub value_of_leaf : (items : List Declaration) (vars : List ℕ) (given : List Value) (e : Term) (l : Layer) → layer_of e ≡ l → parts_in l ≡ [] → (o : Outcome) → GivesValue items vars given l [] o → HasValue items vars given e o
value_of_leaf items vars given e l is alone o gives = value_with items vars given e l is [] o (none (parts_in l) [] alone refl) gives

-- one term alone
pub one_value : (items : List Declaration) (vars : List ℕ) (given : List Value) (p : Term) (o : Outcome) → HasValue items vars given p o → HaveValues items vars given (p ∷ []) (o ∷ [])
one_value items vars given p o (os, have, gives) = more (p ∷ []) (o ∷ []) p [] o [] os refl refl have gives (none [] [] refl refl)

-- one more term
values_next : (items : List Declaration) (vars : List ℕ) (given : List Value) (es : List Term) (os : List Outcome) → HaveValues items vars given es os → (e : Term) (o : Outcome) → HasValue items vars given e o → HaveValues items vars given (es ++ e ∷ []) (os ++ o ∷ [])
values_next items vars given es os (none _ _ is_es is_os) e o (ps, have, gives) =
    more (es ++ e ∷ []) (os ++ o ∷ []) e [] o [] ps (ap (λ xs. xs ++ e ∷ []) is_es) (ap (λ xs. xs ++ o ∷ []) is_os) have gives (none [] [] refl refl)
values_next items vars given es os (more _ _ x rest p others qs is_es is_os parts gives have) e o h =
    more (es ++ e ∷ []) (os ++ o ∷ []) x (rest ++ e ∷ []) p (others ++ o ∷ []) qs (ap (λ xs. xs ++ e ∷ []) is_es) (ap (λ xs. xs ++ o ∷ []) is_os) parts gives (values_next items vars given rest others have e o h)

pub values_step : (items : List Declaration) (vars : List ℕ) (given : List Value) (es all : List Term) (e : Term) → all ≡ es ++ e ∷ [] → (os now : List Outcome) (o : Outcome) → now ≡ os ++ o ∷ [] → HaveValues items vars given es os → HasValue items vars given e o → HaveValues items vars given all now
values_step items vars given es all e is os now o longer have value = subst (λ xs. HaveValues items vars given xs now) (sym is) (subst (HaveValues items vars given (es ++ e ∷ [])) (sym longer) (values_next items vars given es os have e o value))

-- no terms give nothing
pub empty_values : (items : List Declaration) (vars : List ℕ) (given : List Value) (es : List Term) (os : List Outcome) → es ≡ [] → HaveValues items vars given es os → os ≡ []
empty_values items vars given es os is (none _ _ is_es is_os) = is_os
empty_values items vars given es os is (more _ _ e rest o others ps is_es is_os parts gives have) = absurd (let bad : [] ≡ e ∷ rest = sym is ∙ is_es in cc)

-- what the first of some terms gives, and what the others do
pub record FirstGives (items : List Declaration) (vars : List ℕ) (given : List Value) (e : Term) (rest : List Term) (os : List Outcome) : Type 0 where
  pub first : Outcome
  pub others : List Outcome
  pub below : List Outcome
  pub whole : os ≡ first ∷ others
  pub parts : HaveValues items vars given (parts_of e) below
  pub gives : GivesValue items vars given (layer_of e) below first
  pub have : HaveValues items vars given rest others

pub first_gives : (items : List Declaration) (vars : List ℕ) (given : List Value) (es : List Term) (e : Term) (rest : List Term) (os : List Outcome) → es ≡ e ∷ rest → HaveValues items vars given es os → FirstGives items vars given e rest os
first_gives items vars given es e rest os is (none _ _ is_es is_os) = absurd (let bad : [] ≡ e ∷ rest = sym is_es ∙ is in cc)
first_gives items vars given es e rest os is (more _ _ e' rest' o others ps is_es is_os parts gives have) =
    let same : e' ∷ rest' ≡ e ∷ rest = sym is_es ∙ is in
    let head : e' ≡ e = cc in
    let tail : rest' ≡ rest = cc in
    record {
      first = o;
      others = others;
      below = ps;
      whole = is_os;
      parts = subst (λ x. HaveValues items vars given (parts_of x) ps) head parts;
      gives = subst (λ x. GivesValue items vars given (layer_of x) ps o) head gives;
      have = subst (λ xs. HaveValues items vars given xs others) tail have;
    }
