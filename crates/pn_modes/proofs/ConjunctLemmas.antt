-- An `and` is true only where each of its arguments is.
use Rattle.std.proofs.Common.{◌≡◌, ◌&&◌, ℕ, Bool, true, false, List, cond, inl, inr, refl, sym, ap, ◌∙◌, subst}
use Rattle.std.specs.List.{Contains, list_all}
use Rattle.pn_eval.specs.Values.{GivesValue, HasValue, HaveValues, none, more}
use Rattle.pn_facts.proofs.Contained.{contains_cases, contains_nil, contains_one}
use Rattle.pn_facts.proofs.Truths.{and_left, and_right}
use Rattle.pn_operations.specs.Outcomes.{is_given, truth, truth_in, truth_of}
use Rattle.pn_operations.specs.declared.outcome.Outcome.{Outcome}
use Rattle.pn_operations.specs.declared.outcome.Outcome.TheVariants as outcomes
use Rattle.pn_operators.specs.declared.op.Op.{Op}
use Rattle.pn_operators.specs.declared.op.Op.TheVariants as op
use Rattle.pn_syntax.specs.declared.declaration.Declaration.{Declaration}
use Rattle.pn_syntax.specs.declared.term.Term.{Term}
use Rattle.pn_syntax.specs.declared.term.TermNode.TheOpen as layer
use Rattle.pn_terms.specs.Terms.{Layer, layer_of, parts_in}
use Rattle.pn_values.specs.declared.value.Value.{Value}
use Rattle.pn_values.specs.declared.value.Value.TheOpen as value_layer
use Rattle.pn_values.specs.declared.value.Value.TheVariants as values
use Rattle.pn_values.specs.declared.value.Value.TheVariants.{rolls-Bool, rolls-Dot}
use Rattle.pn_values.specs.declared.value.Value.TheViews.{out-Value, out-roll-Value, roll-Value, roll-out-Value}
use Rattle.pn_modes.specs.Parts.{parts_by, parts_in_layer, parts_of_condition}

value_true : (v : Value) (l : value_layer.Value-F Value) → out-Value v ≡ l → truth_of l ≡ true → v ≡ values.Bool true
value_true v (value_layer.Bool true) is h = sym (roll-out-Value v) ∙ ap roll-Value is ∙ rolls-Bool true
value_true v (value_layer.Bool false) is h = absurd (let bad : false ≡ true = h in cc)
value_true v _ is h = absurd (let bad : false ≡ true = h in cc)

-- the one value isn't true
dot_false : truth_in (outcomes.Value values.Dot) ≡ false
dot_false = ap truth_of (ap out-Value (sym rolls-Dot) ∙ out-roll-Value value_layer.Dot)

truth_told : (b : Bool) → truth_in (truth b) ≡ b
truth_told b = ap truth_of (ap out-Value (sym (rolls-Bool b)) ∙ out-roll-Value (value_layer.Bool b))

outcome_true : (o : Outcome) → truth_in o ≡ true → o ≡ truth true
outcome_true (outcomes.Value v) h = ap outcomes.Value (value_true v (out-Value v) refl h)
outcome_true (outcomes.Bag bag) h = absurd (let bad : false ≡ true = sym dot_false ∙ h in cc)
outcome_true outcomes.NoValue h = absurd (let bad : false ≡ true = sym dot_false ∙ h in cc)

-- whether it is given, and whether all that was given is true
all_true : (given whole : Bool) → cond given (truth whole) outcomes.NoValue ≡ truth true → whole ≡ true
all_true true true h = refl
all_true true false h = absurd (let bad : false ≡ true = sym (truth_told false) ∙ ap truth_in h ∙ truth_told true in cc)
all_true false whole h = absurd (let bad : outcomes.NoValue ≡ truth true = h in cc)

module _ (items : List Declaration) (vars : List ℕ) (given : List Value) where
  each_true : (es : List Term) (os : List Outcome) → HaveValues items vars given es os → list_all truth_in os ≡ true → (p : Term) → Contains es p → HasValue items vars given p (truth true)
  each_true es os (none _ _ is_es is_os) all p c = absurd (contains_nil p (subst (λ xs. Contains xs p) is_es c))
  each_true es os (more _ _ e rest o others ps is_es is_os parts gives have) all p c =
      let split : (truth_in o && list_all truth_in others) ≡ true = subst (λ xs. list_all truth_in xs ≡ true) is_os all in
      let first : HasValue items vars given e (truth true) = subst (HasValue items vars given e) (outcome_true o (and_left (truth_in o) (list_all truth_in others) split)) (ps, parts, gives) in
      elim (contains_cases e rest p (subst (λ xs. Contains xs p) is_es c)) [ inl same ↦ subst (λ x. HasValue items vars given x (truth true)) same first | inr there ↦ each_true rest others have (and_right (truth_in o) (list_all truth_in others) split) p there ]

  by_op : (e : Term) (o : Op) (args : List Term) (p : Term) → Contains (parts_by e o args) p → (o ≡ op.And → Contains args p → HasValue items vars given p (truth true)) → (p ≡ e → HasValue items vars given p (truth true)) → HasValue items vars given p (truth true)
  by_op e op.And args p c conjunct alone = conjunct refl c
  by_op e _ args p c conjunct alone = alone (contains_one e p c)

  by_layer : (e : Term) (l : Layer) (p : Term) → Contains (parts_in_layer e l) p → ((args : List Term) → l ≡ layer.Apply op.And args → Contains args p → HasValue items vars given p (truth true)) → (p ≡ e → HasValue items vars given p (truth true)) → HasValue items vars given p (truth true)
  by_layer e (layer.Apply o args) p c conjunct alone = by_op e o args p c (λ is there. conjunct args (ap (λ x. layer.Apply x args) is) there) alone
  by_layer e _ p c conjunct alone = alone (contains_one e p c)

  and_true : (args : List Term) (os : List Outcome) → HaveValues items vars given args os → GivesValue items vars given (layer.Apply op.And args) os (truth true) → (p : Term) → Contains args p → HasValue items vars given p (truth true)
  and_true args os have (round, goes, is) p c = each_true args os have (all_true (list_all is_given os) (list_all truth_in os) (sym is)) p c

  -- each part of a condition that is true is true
  pub part_true : (e : Term) → HasValue items vars given e (truth true) → (p : Term) → Contains (parts_of_condition e) p → HasValue items vars given p (truth true)
  part_true e (os, have, gives) p c =
      by_layer e (layer_of e) p c
      (λ args is there. and_true args os (subst (λ l. HaveValues items vars given (parts_in l) os) is have) (subst (λ l. GivesValue items vars given l os (truth true)) is gives) p there)
      (λ same. subst (λ x. HasValue items vars given x (truth true)) (sym same) (os, have, gives))
