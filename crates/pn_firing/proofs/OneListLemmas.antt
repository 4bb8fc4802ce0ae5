-- What is listed is one list, or told for one reason.
use Rattle.std.proofs.Common.{◌≡◌, ◌⊎◌, inl, inr, ℕ, List, [], ◌∷◌, None, Some, refl, sym, ap, ◌∙◌, subst}
use Rattle.std.specs.Cmp.{IsTotalOrder}
use Rattle.std.specs.List.{AllZip, Contains, flat_map, slice_get}
use Rattle.std.specs.Option.{option_map}
use Rattle.std.specs.List.Sorted.{IsStrictlySortedBy}
use Rattle.std.specs.declared.cmp.Ordering.{Ordering}
use Rattle.std.specs.declared.cmp.Ordering.TheVariants.{Equal, Less}
use Rattle.std.proofs.lemmas.Cmp.{tied_itself}
use Rattle.pn_bag.proofs.Canonical.{same_entries}
use Rattle.pn_checks.proofs.MarkLemmas.{initial_once, says_once}
use Rattle.pn_checks.specs.Initial.{IsInitial}
use Rattle.pn_eval.proofs.OnceLemmas.{value_once}
use Rattle.pn_facts.proofs.Contained.{contains_cases, contains_first, contains_next, contains_nil}
use Rattle.pn_facts.proofs.Each.{one_of}
use Rattle.pn_facts.proofs.Lists.{got}
use Rattle.pn_marking.proofs.OnceLemmas.{variables_once}
use Rattle.pn_marking.specs.Modes.{IsAssigned}
use Rattle.pn_mode_text.proofs.OneTextLemmas.{mode_text_once, typed_of_sorts}
use Rattle.pn_mode_text.specs.Texts.{IsModeText, IsTypedVariable, TypedVariable, mode_text}
use Rattle.pn_modes.proofs.CauseLemmas.{few_or_many, finite_product, one_told, told_once}
use Rattle.pn_modes.specs.Causes.{HasManyAssignments, IsFirstInfinite, first_with, is_infinite}
use Rattle.pn_modes.specs.Listed.{AreModesOf}
use Rattle.pn_names.specs.Names.{variable_name, variables_of}
use Rattle.pn_net.proofs.OrderLemmas.{same_tokens}
use Rattle.pn_net.specs.Orders.{mode_cmp, modes_total, tokens_total}
use Rattle.pn_net.specs.Typed.{AreVariablesAt, transition_named}
use Rattle.pn_net.specs.declared.flat.Flat.{Flat}
use Rattle.pn_net.specs.declared.mode.Mode.{Mode}
use Rattle.pn_net.specs.declared.token.Token.{Token}
use Rattle.pn_sorts.specs.Standing.{IsFaultless}
use Rattle.pn_terms.proofs.SortLemmas.{same_some}
use Rattle.pn_firing.specs.Lines.{HasModeLines, mode_line}
use Rattle.pn_firing.specs.Listing.{IsIdOf, IsInfiniteIn, AreListed, AreListedAt, IsReason, IsUnlisted}
use Rattle.pn_firing.specs.declared.listing.ListFault.{ListFault}
use Rattle.pn_firing.specs.declared.listing.ListFault.TheVariants as faults

-- ---- lists that ascend

module _ {X : Type 0} (cmp : X → X → Ordering) (total : IsTotalOrder cmp) where
  above : (x : X) (xs : List X) → IsStrictlySortedBy cmp (x ∷ xs) → (v : X) → Contains xs v → cmp x v ≡ Less
  unfolding IsStrictlySortedBy
  above x xs up v c = one_of (λ y. cmp x y ≡ Less) xs v up.0 c

  behind : (x : X) (xs : List X) → IsStrictlySortedBy cmp (x ∷ xs) → IsStrictlySortedBy cmp xs
  unfolding IsStrictlySortedBy
  behind x xs up = up.1

  not_below_itself : (x y : X) → cmp x y ≡ Less → cmp y x ≡ Less → ⊥
  not_below_itself x y up down = let clash : Less ≡ Equal = sym (total.trans x y x up down) ∙ tied_itself total x in cc

  same_ascending : (xs ys : List X) → IsStrictlySortedBy cmp xs → IsStrictlySortedBy cmp ys → ((v : X) → Contains xs v → Contains ys v) → ((v : X) → Contains ys v → Contains xs v) → xs ≡ ys
  same_ascending [] [] up more to from = refl
  same_ascending [] (y ∷ ys) up more to from = absurd (contains_nil y (from y (contains_first y ys)))
  same_ascending (x ∷ xs) [] up more to from = absurd (contains_nil x (to x (contains_first x xs)))
  same_ascending (x ∷ xs) (y ∷ ys) up more to from = λ i. heads i ∷ same_ascending xs ys (behind x xs up) (behind y ys more) forth back i
    where
      one : (y ≡ x) ⊎ Contains ys x → (x ≡ y) ⊎ Contains xs y → x ≡ y
      one (inl same) other = sym same
      one (inr there) (inl same) = same
      one (inr there) (inr also) = absurd (not_below_itself x y (above x xs up y also) (above y ys more x there))

      heads : x ≡ y
      heads = one (contains_cases y ys x (to x (contains_first x xs))) (contains_cases x xs y (from y (contains_first y ys)))

      forth : (v : X) → Contains xs v → Contains ys v
      forth v c = by (contains_cases y ys v (to v (contains_next x xs v c)))
        where
          by : (y ≡ v) ⊎ Contains ys v → Contains ys v
          by (inl same) = absurd (let clash : Less ≡ Equal = sym (above x xs up v c) ∙ ap (cmp x) (sym (heads ∙ same)) ∙ tied_itself total x in cc)
          by (inr there) = there

      back : (v : X) → Contains ys v → Contains xs v
      back v c = by (contains_cases x xs v (from v (contains_next y ys v c)))
        where
          by : (x ≡ v) ⊎ Contains xs v → Contains xs v
          by (inl same) = absurd (let clash : Less ≡ Equal = sym (above y ys more v c) ∙ ap (cmp y) (sym (sym heads ∙ same)) ∙ tied_itself total y in cc)
          by (inr there) = there

-- ---- one list

modes_once : (f : Flat) (t : ℕ) (m : List (Token × ℕ)) (xs ys : List Mode) → AreModesOf f t (Some m) xs → AreModesOf f t (Some m) ys → xs ≡ ys
modes_once f t m xs ys p q =
    same_ascending mode_cmp modes_total xs ys p.ascending q.ascending
    (λ v has. let is = p.only v has in q.every v is.0 is.1) (λ v has. let is = q.only v has in p.every v is.0 is.1)

one_initial : (f : Flat) (m k : List (Token × ℕ)) → IsFaultless f.declarations → IsInitial f m → IsInitial f k → m ≡ k
one_initial f m k sound =
    initial_once (same_entries tokens_total (λ a b. (same_tokens a b).0)) f f m k (says_once f.declarations (λ e o p. value_once f.declarations [] [] sound e o p)) refl refl

listed_at_once : (f : Flat) (t : ℕ) (xs ys : List Mode) → IsFaultless f.declarations → AreListedAt f t xs → AreListedAt f t ys → xs ≡ ys
listed_at_once f t xs ys sound p q =
    let same : p.initial ≡ q.initial = one_initial f p.initial q.initial sound p.is_initial q.is_initial in
    modes_once f t q.initial xs ys (subst (λ m. AreModesOf f t (Some m) xs) same p.are_modes) q.are_modes

-- the transition of an id is one
same_named : (f : Flat) (id : List ℕ) (t u : ℕ) → transition_named f id ≡ Some t → transition_named f id ≡ Some u → t ≡ u
same_named f id t u is also = same_some t u (transition_named f id) is also

pub listed_once : (f : Flat) (id : List ℕ) (xs ys : List Mode) → IsFaultless f.declarations → AreListed f id xs → AreListed f id ys → xs ≡ ys
listed_once f id xs ys sound (t, is, p) (u, also, q) = listed_at_once f u xs ys sound (subst (λ n. AreListedAt f n xs) (same_named f id t u is also) p) q

-- ---- one text

texts_once : (f : Flat) (modes : List Mode) (ts us : List (List ℕ)) → AllZip (IsModeText f) modes ts → AllZip (IsModeText f) modes us → ts ≡ us
texts_once f [] [] [] p q = refl
texts_once f [] (t ∷ ts) us p q = absurd p
texts_once f [] [] (u ∷ us) p q = absurd q
texts_once f (m ∷ modes) [] us p q = absurd p
texts_once f (m ∷ modes) (t ∷ ts) [] p q = absurd q
texts_once f (m ∷ modes) (t ∷ ts) (u ∷ us) p q = let first = mode_text_once f m t u p.0 q.0 in let rest = texts_once f modes ts us p.1 q.1 in λ i. first i ∷ rest i

pub lines_once : (f : Flat) (modes : List Mode) (x y : List ℕ) → HasModeLines f modes x → HasModeLines f modes y → x ≡ y
lines_once f modes x y p q = p.is ∙ ap (flat_map mode_line) (texts_once f modes p.texts q.texts p.are_texts q.are_texts) ∙ sym q.is

-- ---- one reason

module _ (f : Flat) (id : List ℕ) where
  no_transition : (t : ℕ) → transition_named f id ≡ None → transition_named f id ≡ Some t → ⊥
  no_transition t none some = let clash : None ≡ Some t = sym none ∙ some in cc

  infinite_once : (t u : ℕ) (x y : List ℕ) → transition_named f id ≡ Some t → transition_named f id ≡ Some u → IsInfiniteIn f t x → IsInfiniteIn f u y → x ≡ y
  infinite_once t u x y is also (v, first, has) (w, other, holds) =
      let here = subst (λ n. IsFirstInfinite f n (Some v)) (same_named f id t u is also) first in
      let told : Some v ≡ Some w = told_once f u (first_with is_infinite) (Some v) (Some w) here other in
      let same : v ≡ w = cc in
      same_some x y (option_map variable_name (slice_get (variables_of f.declarations) w)) (subst (λ n. IsIdOf f n x) same has) holds

  infinite_or_many : (t u n : ℕ) (x : List ℕ) → transition_named f id ≡ Some t → transition_named f id ≡ Some u → IsInfiniteIn f t x → HasManyAssignments f u n → ⊥
  infinite_or_many t u n x is also (v, first, has) many = finite_product f u many.0 v many.1 (subst (λ k. IsFirstInfinite f k (Some v)) (same_named f id t u is also) first)

  pub unlisted_once : (x y : ListFault) → IsReason x → IsReason y → IsUnlisted f id x → IsUnlisted f id y → x ≡ y
  unlisted_once (faults.Memory e) y told known p q = absurd told
  unlisted_once x (faults.Memory e) told known p q = absurd known
  unlisted_once faults.UnknownTransition faults.UnknownTransition told known p q = refl
  unlisted_once faults.UnknownTransition (faults.InfiniteSort y) told known p (u, also, q) = absurd (no_transition u p also)
  unlisted_once faults.UnknownTransition (faults.TooManyAssignments m) told known p (u, also, q) = absurd (no_transition u p also)
  unlisted_once (faults.InfiniteSort x) faults.UnknownTransition told known (t, is, p) q = absurd (no_transition t q is)
  unlisted_once (faults.InfiniteSort x) (faults.InfiniteSort y) told known (t, is, p) (u, also, q) = ap faults.InfiniteSort (infinite_once t u x y is also p q)
  unlisted_once (faults.InfiniteSort x) (faults.TooManyAssignments m) told known (t, is, p) (u, also, q) = absurd (infinite_or_many t u m x is also p q)
  unlisted_once (faults.TooManyAssignments n) faults.UnknownTransition told known (t, is, p) q = absurd (no_transition t q is)
  unlisted_once (faults.TooManyAssignments n) (faults.InfiniteSort y) told known (t, is, p) (u, also, q) = absurd (infinite_or_many u t n y also is q p)
  unlisted_once (faults.TooManyAssignments n) (faults.TooManyAssignments m) told known (t, is, p) (u, also, q) =
      ap faults.TooManyAssignments (one_told f u n m (subst (λ k. HasManyAssignments f k n) (same_named f id t u is also) p) q)

  -- what is listed has no reason not to be
  pub listed_or_not : (modes : List Mode) (x : ListFault) → IsReason x → AreListed f id modes → IsUnlisted f id x → ⊥
  listed_or_not modes (faults.Memory e) told p q = told
  listed_or_not modes faults.UnknownTransition told (t, is, p) q = no_transition t q is
  listed_or_not modes (faults.InfiniteSort x) told (t, is, p) (u, also, (v, first, has)) =
      finite_product f t p.few.0 v p.few.1 (subst (λ k. IsFirstInfinite f k (Some v)) (same_named f id u t also is) first)
  listed_or_not modes (faults.TooManyAssignments n) told (t, is, p) (u, also, q) = few_or_many f t n p.few (subst (λ k. HasManyAssignments f k n) (same_named f id u t also is) q)

-- ---- what is listed can be put

-- each mode that is listed has values of their sorts
pub listed_assigned : (f : Flat) (id : List ℕ) (modes : List Mode) → AreListed f id modes → (m : Mode) → Contains modes m → (vars : List ℕ) × IsAssigned f m vars
listed_assigned f id modes (t, is, p) m has = let mode = (p.are_modes.only m has).1.0 in (mode.0, mode.1.assigned)

mode_has_text : (f : Flat) (vars : List ℕ) (typed : List TypedVariable) (m : Mode) → IsAssigned f m vars → AllZip (IsTypedVariable f.declarations) vars typed → (text : List ℕ) × IsModeText f m text
mode_has_text f vars typed m assigned are =
    let transition = got f.transitions m.transition assigned.within in (
      mode_text f.declarations transition.0.id typed m.values,
      record { transition = transition.0; is_transition = transition.1; vars = vars; variables = assigned.variables; typed = typed; are_typed = are; text_is = refl },
    )

modes_have_texts : (f : Flat) (t : ℕ) (modes : List Mode) → ((m : Mode) → Contains modes m → (text : List ℕ) × IsModeText f m text) → (texts : List (List ℕ)) × AllZip (IsModeText f) modes texts
modes_have_texts f t [] each = ([], tt)
modes_have_texts f t (m ∷ modes) each =
    let first = each m (contains_first m modes) in
    let rest = modes_have_texts f t modes (λ x has. each x (contains_next m modes x has)) in
    (first.0 ∷ rest.0, (first.1, rest.1))

-- and its lines
pub listed_lines : (f : Flat) (id : List ℕ) (modes : List Mode) → AreListed f id modes → (text : List ℕ) × HasModeLines f modes text
listed_lines f id modes (t, is, p) =
    let few = p.few.1 in
    let vars = few.0 in
    let have = few.2 in
    let typed = typed_of_sorts f.declarations vars few.1 have.are_sorts in
    let texts = modes_have_texts f t modes (λ m has.
    let own = p.are_modes.only m has in
    let mode = own.1.0 in
    let same : mode.0 ≡ vars = variables_once f t mode.0 vars (subst (λ n. AreVariablesAt f n mode.0) own.0 mode.1.assigned.variables) have.variables in
    mode_has_text f vars typed.0 m (subst (IsAssigned f m) same mode.1.assigned) typed.1) in
    (flat_map mode_line texts.0, record { texts = texts.0; are_texts = texts.1; is = refl })
