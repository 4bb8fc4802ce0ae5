-- Where no fault of typing is kept, each condition and each inscription has a sort.
use Rattle.std.proofs.Common.{◌≡◌, ◌++◌, ◌⊎◌, inl, inr, ℕ, ◌≤◌, List, [], ◌∷◌, Bool, true, false, length, take, Option, Some, None, IfSome, refl, sym, ap, ◌∙◌, subst}
use Rattle.std.specs.List.{Contains}
use Rattle.std.proofs.lemmas.List.Elements.{Contains-push_cases}
use Rattle.pn_facts.proofs.Contained.{contains_nil}
use Rattle.pn_faults.specs.declared.fault.Fault.{Fault}
use Rattle.pn_faults.specs.Walks.{IsWalked, KeepsLeast}
use Rattle.pn_checks.specs.LabelFaults.{IsExamined, RightOrFault}
use Rattle.pn_checks.specs.SoundLabels.{HasSaidSort, HasSoundLabels, HasSoundTerm, HaveSaidSorts, HaveSortedLabels, HaveSoundTerms}
use Rattle.pn_checks.proofs.ValueLemmas.{none_before, none_stands}
use Rattle.pn_net.specs.Labels.{said}
use Rattle.pn_net.specs.Typed.{HasTypedLabels, IsTypedTerm}
use Rattle.pn_net.specs.Typing.{IsTermOver}
use Rattle.pn_net.specs.declared.flat.Flat.{Flat}
use Rattle.pn_net.specs.declared.flat.FlatArc.{FlatArc}
use Rattle.pn_objects.specs.declared.object.Transition.{Transition}
use Rattle.pn_syntax.specs.declared.declaration.Declaration.{Declaration}
use Rattle.pn_syntax.specs.declared.term.Term.{Term}
use Rattle.pn_terms.specs.declared.term_sort.TermSort.{TermSort}
use Rattle.pn_terms.specs.Sorts.{HasSort}
use Rattle.pn_terms.specs.Standing.{StandsIn}

module _ (items : List Declaration) (e : Term) where
  -- of a walk that gave a sort
  pub sorted_some : (o : Option TermSort) (s : TermSort) (old mid : Option Fault) → o ≡ Some s → IsWalked (HasSort items e) (StandsIn items e) o old mid → (t : TermSort) × HasSort items e t
  sorted_some o s old mid is walked = (s, (subst (λ q. IsWalked (HasSort items e) (StandsIn items e) q old mid) is walked).answered)

  -- a walk that gave none has kept a fault
  pub sorted_none : (o : Option TermSort) (old mid : Option Fault) → o ≡ None → IsWalked (HasSort items e) (StandsIn items e) o old mid → mid ≡ None → (t : TermSort) × HasSort items e t
  sorted_none o old mid is walked none =
      let found = (subst (λ q. IsWalked (HasSort items e) (StandsIn items e) q old mid) is walked).answered in
      absurd (none_stands (StandsIn items e) old mid walked.least none found.0 found.1)

  -- of a term that was examined
  pub sorted_examined : (Wants : TermSort → Type 0) (P : Fault → Type 0) (b : Bool) (old new : Option Fault) → IsExamined ((s : TermSort) × HasSort items e s × Wants s) P b old new → new ≡ None → (t : TermSort) × HasSort items e t
  sorted_examined Wants P b old new is none = by b is.answered
    where
      by : (b : Bool) → RightOrFault ((s : TermSort) × HasSort items e s × Wants s) P b → (t : TermSort) × HasSort items e t
      by true (s, has, wanted) = (s, has)
      by false (f, stands) = absurd (none_stands P old new is.least none f stands)

-- what is said
pub sorted_said : (items : List Declaration) (o : Option Term) (e : Term) → o ≡ Some e → ((s : TermSort) × HasSort items e s) → HasSaidSort items o
sorted_said items o e is has = subst (HasSaidSort items) (sym is) has

pub sorted_unsaid : (items : List Declaration) (o : Option Term) → o ≡ None → HasSaidSort items o
sorted_unsaid items o is = subst (HasSaidSort items) (sym is) tt

-- one thing more
module _ {X : Type 0} (items : List Declaration) (term : X → Option Term) where
  pub sorted_nothing : HaveSaidSorts items term []
  sorted_nothing x has = absurd (contains_nil x has)

  pub sorted_more : (xs ys : List X) (x : X) → ys ≡ xs ++ x ∷ [] → HaveSaidSorts items term xs → HasSaidSort items (term x) → HaveSaidSorts items term ys
  sorted_more xs ys x is all one y has = by (Contains-push_cases xs x y (subst (λ zs. Contains zs y) is has))
    where
      by : Contains xs y ⊎ (x ≡ y) → HasSaidSort items (term y)
      by (inl there) = all y there
      by (inr same) = subst (λ z. HasSaidSort items (term z)) same one

-- ---- the labels of a net

both_said : (items : List Declaration) (o : Option Term) → HasSoundTerm items o → HasSaidSort items o → IfSome o (IsTypedTerm items)
both_said items None sound sorted = tt
both_said items (Some e) sound sorted = (sound, sorted)

pub typed_labels : (items : List Declaration) (f : Flat) → items ≡ f.declarations → HasSoundLabels items f → HaveSortedLabels items f → HasTypedLabels f
typed_labels items f same sound sorted = record {
  conditions = λ t has. subst (λ ds. IfSome (said t.condition) (IsTypedTerm ds)) same (both_said items (said t.condition) (sound.conditions t has) (sorted.conditions t has));
  inscriptions = λ a has. subst (λ ds. IfSome (said a.arc.inscription) (IsTypedTerm ds)) same (both_said items (said a.arc.inscription) (sound.inscriptions a has) (sorted.inscriptions a has));
}
