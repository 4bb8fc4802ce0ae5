-- The modes of a transition are wanted choices of values for its variables.
use Rattle.std.proofs.Common.{◌≡◌, ◌⊎◌, ◌↔◌, inl, inr, ℕ, true, zero, suc, ◌<◌, ◌≤◌, List, [], ◌∷◌, ◌++◌, map, length, get_or, Option, None, Some, refl, sym, ap, ◌∙◌, subst, arith, Result, Ok, Err, IfOk, OnErr}
use Rattle.std.specs.List.{AllByRecursion, AllZip, Contains, slice_get}
use Rattle.std.specs.List.Sorted.{IsStrictlySortedBy}
use Rattle.std.specs.Cmp.Lexicographic.{slice_cmp}
use Rattle.std.specs.declared.cmp.Ordering.{Ordering}
use Rattle.std.specs.declared.cmp.Ordering.TheVariants.{Less}
use Rattle.std.proofs.lemmas.List.{length-map}
use Rattle.std.proofs.lemmas.Option.{slice_get-get_or, slice_get_within}
use Rattle.std.proofs.lemmas.Slice.Zip.{AllZip-long}
use Rattle.pn_bag.specs.Counts.{Includes}
use Rattle.pn_carriers.specs.Carriers.{carrier, choices, is_finite}
use Rattle.pn_carriers.specs.Members.{IsMember}
use Rattle.pn_carriers.proofs.CarrierLemmas.{agrees}
use Rattle.pn_carriers.proofs.PlaceLemmas.{mapped}
use Rattle.pn_eval.specs.Assignments.{IsAssignment, value_of_variable}
use Rattle.pn_eval.proofs.AssignmentLemmas.{value_at}
use Rattle.pn_facts.proofs.Contained.{at_contains, contains_at, contains_cases, contains_first, contains_next, contains_nil}
use Rattle.pn_facts.proofs.Each.{one_of}
use Rattle.pn_marking.specs.Modes.{IsMode}
use Rattle.pn_marking.proofs.OnceLemmas.{variables_once}
use Rattle.pn_names.specs.Names.{widths_of}
use Rattle.pn_net.specs.Orders.{mode_cmp, token_cmp}
use Rattle.pn_net.specs.declared.flat.Flat.{Flat}
use Rattle.pn_net.specs.declared.mode.Mode.{Mode}
use Rattle.pn_net.specs.declared.token.Token.{Token}
use Rattle.pn_sorts.specs.Lookups.{IsVariableSort}
use Rattle.pn_syntax.specs.declared.declaration.Declaration.{Declaration}
use Rattle.pn_terms.proofs.SortLemmas.{same_some}
use Rattle.pn_values.specs.Order.{value_cmp}
use Rattle.pn_values.specs.declared.sort.Sort.{Sort}
use Rattle.pn_values.specs.declared.value.Value.{Value}
use Rattle.pn_modes.specs.Carriers.{IsChoice}
use Rattle.pn_modes.specs.Causes.{HasAssignments}
use Rattle.pn_modes.specs.Listed.{AreModesOf}
use Rattle.pn_modes.specs.Parts.{AreSearchable, IsWanted, carriers_of, mode_of}
use Rattle.pn_modes.specs.Prunes.{AreAllModes, AreUnwanted, IsNext, Skips}
use Rattle.pn_modes.specs.Searching.{IsAdvanced, TakesFirst, IsToCome, Searching}
use Rattle.pn_modes.specs.Sizes.{HaveSortsAt}
use Rattle.pn_modes.proofs.CauseLemmas.{each_finite, product_of}
use Rattle.pn_modes.proofs.ChoiceLemmas.{of_choice}
use Rattle.pn_modes.proofs.SiftLemmas.{same_transition}

-- ---- assignments are choices

from_places : (cs : List (List Value)) (vs : List Value) → length cs ≡ length vs
    → ((i : ℕ) (c : List Value) (v : Value) → slice_get cs i ≡ Some c → slice_get vs i ≡ Some v → Contains c v) → AllZip Contains cs vs
from_places [] [] long f = tt
from_places [] (v ∷ vs) long f = absurd (omega (arith, long))
from_places (c ∷ cs) [] long f = absurd (omega (arith, long))
from_places (c ∷ cs) (v ∷ vs) long f = (f zero c v refl refl, from_places cs vs (omega (arith, long)) (λ i d w at is. f (suc i) d w at is))

zip_back : {A B : Type 0} (R : A → B → Type 0) (xs : List A) (ys : List B) (i : ℕ) (y : B) → AllZip R xs ys → slice_get ys i ≡ Some y → (x : A) × (slice_get xs i ≡ Some x) × R x y
zip_back R xs [] i y all is = absurd cc
zip_back R [] (z ∷ ys) i y all is = absurd all
zip_back {A} {B} R (x ∷ xs) (z ∷ ys) zero y all is = let same : z ≡ y = cc in (x, refl, subst (R x) same all.0)
zip_back R (x ∷ xs) (z ∷ ys) (suc i) y all is = zip_back R xs ys i y all.1 is

pub choice_of_values : (items : List Declaration) (vars : List ℕ) (sorts : List Sort) (values : List Value) → IsAssignment items vars values → AllZip (IsVariableSort items) vars sorts
    → ((s : Sort) → Contains sorts s → is_finite s ≡ true) → IsChoice (map (carrier (widths_of items)) sorts) values
choice_of_values items vars sorts values a zip finite =
    let long = AllZip-long (IsVariableSort items) vars sorts zip in
    let size = a.size in
    let mapped_size = length-map sorts (carrier (widths_of items)) in
    from_places (map (carrier (widths_of items)) sorts) values (omega (arith, long, size, mapped_size)) each
  where
    each : (i : ℕ) (c : List Value) (v : Value) → slice_get (map (carrier (widths_of items)) sorts) i ≡ Some c → slice_get values i ≡ Some v → Contains c v
    each i c v at is =
        let s = mapped (carrier (widths_of items)) sorts i c at in
        let w = zip_back (IsVariableSort items) vars sorts i s.0 zip s.1 in
        let lt : i < length vars = slice_get_within vars i w.0 w.1 in
        let here : get_or vars i 0 ≡ w.0 = same_some (get_or vars i 0) w.0 (slice_get vars i) (slice_get-get_or vars i 0 lt) w.1 in
        let size = a.size in
        let own : get_or values i v ≡ v = same_some (get_or values i v) v (slice_get values i) (slice_get-get_or values i v (omega (arith, lt, size))) is in
        let member = a.members w.0 v s.0 (value_at vars values i w.0 v a.ascending a.size lt here ∙ ap (λ (x : Value). Some x) own) w.2 in
        let p = (agrees (widths_of items) s.0).placed (finite s.0 (contains_at sorts i s.0 s.1)) v member in
        subst (λ l. Contains l v) (sym s.2) (contains_at (carrier (widths_of items) s.0) p.0 v p.1)

-- ---- wanted modes

nothing_ascends : {A : Type 0} (cmp : A → A → Ordering) → IsStrictlySortedBy cmp []
unfolding IsStrictlySortedBy
nothing_ascends cmp = tt

mode_is : (t : ℕ) (m : Mode) → m.transition ≡ t → mode_of t m.values ≡ m
mode_is t m is = λ i. record { transition = sym is i; values = m.values }

mode_wanted : (f : Flat) (marking : Option (List (Token × ℕ))) (m : Mode) → IsWanted f marking m → IsMode f m
mode_wanted f None m is = is
mode_wanted f (Some marking) m is = is.0

module _ (f : Flat) (t : ℕ) (vars : List ℕ) (sorts : List Sort) (have : HaveSortsAt f t vars sorts) (finite : (s : Sort) → Contains sorts s → is_finite s ≡ true) where
  -- the values of a mode are a choice
  pub choice_of_mode : (m : Mode) → m.transition ≡ t → IsMode f m → IsChoice (carriers_of f sorts) m.values
  choice_of_mode m at is =
      let own = is.1.assigned in
      let same : is.0 ≡ vars = variables_once f t is.0 vars (subst (λ n. Rattle.pn_net.specs.Typed.AreVariablesAt f n is.0) at own.variables) have.variables in
      choice_of_values f.declarations vars sorts m.values (subst (λ vs. IsAssignment f.declarations vs m.values) same own.assignment) have.are_sorts finite

  -- all wanted choices are all wanted modes
  pub listed : (marking : Option (List (Token × ℕ))) (modes : List Mode) → AreAllModes (λ given. IsWanted f marking (mode_of t given)) (carriers_of f sorts) t modes → AreModesOf f t marking modes
  listed marking modes all = record {
    ascending = all.ascending;
    only = λ m c. let a = all.only m c in (a.0, subst (IsWanted f marking) (mode_is t m a.0) a.2);
    every = λ m at is. all.every m at (choice_of_mode m at (mode_wanted f marking m is)) (subst (IsWanted f marking) (sym (mode_is t m at)) is);
  }

  -- without assignments there are no modes
  pub no_modes : (marking : Option (List (Token × ℕ))) → length (choices (carriers_of f sorts)) ≡ 0 → AreModesOf f t marking []
  no_modes marking none = record {
    ascending = nothing_ascends mode_cmp;
    only = λ m c. absurd (contains_nil m c);
    every = λ m at is. absurd (empty (choices (carriers_of f sorts)) none (of_choice (carriers_of f sorts) m.values (choice_of_mode m at (mode_wanted f marking m is))));
  }
    where
      empty : (xs : List (List Value)) {x : List Value} → length xs ≡ 0 → Contains xs x → ⊥
      empty [] {x} none c = contains_nil x c
      empty (y ∷ xs) {x} none c = absurd (omega (arith, none))

-- no assignment
pub none_assigned : (f : Flat) (t : ℕ) (marking : Option (List (Token × ℕ))) → HasAssignments f t 0 → AreModesOf f t marking []
none_assigned f t marking (vars, sorts, have, none) =
    let p = product_of (widths_of f.declarations) sorts 0 none in
    no_modes f t vars sorts have (each_finite sorts p.0) marking p.1

abbrev given_wanted : Flat → Option (List (Token × ℕ)) → ℕ → List Value → Type 0
given_wanted f marking t given = IsWanted f marking (mode_of t given)

-- what is collected by a plan for these
pub collected_all : (f g : Flat) (t u : ℕ) (sorts others : List Sort) (marking given : Option (List (Token × ℕ))) (modes : List Mode) → g ≡ f → u ≡ t → others ≡ sorts → given ≡ marking
    → ((vars : List ℕ) × HaveSortsAt f t vars sorts) → AreSearchable f sorts → AreAllModes (given_wanted g given u) (carriers_of g others) t modes → AreModesOf f t marking modes
collected_all f g t u sorts others marking given modes net transition same marked have few all =
    let here = subst (λ h. AreAllModes (given_wanted h given u) (carriers_of h others) t modes) net all in
    let at = subst (λ n. AreAllModes (given_wanted f given n) (carriers_of f others) t modes) transition here in
    let own = subst (λ ss. AreAllModes (given_wanted f given t) (carriers_of f ss) t modes) same at in
    listed f t have.0 sorts have.1 (λ s has. (few s has).0) marking modes (subst (λ m. AreAllModes (given_wanted f m t) (carriers_of f sorts) t modes) marked own)

-- at the start of a search all modes are to come
pub begun : (f g : Flat) (t u : ℕ) (sorts others : List Sort) (all : List (List Value)) → g ≡ f → u ≡ t → others ≡ sorts → all ≡ choices (carriers_of g others)
    → ((vars : List ℕ) × HaveSortsAt f t vars sorts) → AreSearchable f sorts → (m : Mode) → IsToCome (record { flat = g; transition = u; choices = all }) m ↔ ((m.transition ≡ t) × IsMode f m)
begun f g t u sorts others all net transition same is have few m = (
  λ c. (c.transition ∙ transition, subst (λ h. IsMode h m) net c.is_mode),
  λ c. record {
    transition = c.0 ∙ sym transition;
    choice = subst (λ l. Contains l m.values) (ap choices (ap (carriers_of f) (sym same)) ∙ ap (λ h. choices (carriers_of h others)) (sym net) ∙ sym is)
        (of_choice (carriers_of f sorts) m.values (choice_of_mode f t have.0 sorts have.1 (λ s has. (few s has).0) m c.0 c.1));
    is_mode = subst (λ h. IsMode h m) (sym net) c.1;
  },
)

-- ---- one after the other

next_in : (s : List Value) (skipped : List (List Value)) (x : List Value) (B : Type 0) → Contains skipped x ⊎ B → Contains (s ∷ skipped) x ⊎ B
next_in s skipped x B (inl before) = inl (contains_next s skipped x before)
next_in s skipped x B (inr behind) = inr behind

first_in : (s : List Value) (skipped : List (List Value)) (x : List Value) (A B : Type 0) → (A → Contains skipped x ⊎ B) → (s ≡ x) ⊎ A → Contains (s ∷ skipped) x ⊎ B
first_in s skipped x A B later (inl same) = inl (subst (Contains (s ∷ skipped)) same (contains_first s skipped))
first_in s skipped x A B later (inr there) = next_in s skipped x B (later there)

choices_in : (skipped new : List (List Value)) (a x : List Value) → Contains (skipped ++ a ∷ new) x → Contains skipped x ⊎ ((a ≡ x) ⊎ Contains new x)
choices_in [] new a x c = inr (contains_cases a new x c)
choices_in (s ∷ skipped) new a x c =
    first_in s skipped x (Contains (skipped ++ a ∷ new) x) ((a ≡ x) ⊎ Contains new x) (λ there. choices_in skipped new a x there) (contains_cases s (skipped ++ a ∷ new) x c)

contains_behind : (skipped rest : List (List Value)) (x : List Value) → Contains rest x → Contains (skipped ++ rest) x
contains_behind [] rest x c = c
contains_behind (s ∷ skipped) rest x c = contains_next s (skipped ++ rest) x (contains_behind skipped rest x c)

-- what is behind a front of an ascending list ascends
pub ascend_behind : (cmp : List Value → List Value → Ordering) (skipped rest : List (List Value)) → IsStrictlySortedBy cmp (skipped ++ rest) → IsStrictlySortedBy cmp rest
unfolding IsStrictlySortedBy
ascend_behind cmp [] rest up = up
ascend_behind cmp (s ∷ skipped) rest up = ascend_behind cmp skipped rest up.1

above_first : (cmp : List Value → List Value → Ordering) (a : List Value) (new : List (List Value)) → IsStrictlySortedBy cmp (a ∷ new) → (x : List Value) → Contains new x → cmp a x ≡ Less
unfolding IsStrictlySortedBy
above_first cmp a new up x c = one_of (λ y. cmp a y ≡ Less) new x up.0 c

behind_first : (cmp : List Value → List Value → Ordering) (a : List Value) (new : List (List Value)) → IsStrictlySortedBy cmp (a ∷ new) → IsStrictlySortedBy cmp new
unfolding IsStrictlySortedBy
behind_first cmp a new up = up.1

module _ (f : Flat) (t : ℕ) where
  abbrev at : List (List Value) → Searching
  at cs = record { flat = f; transition = t; choices = cs }

  abbrev wanted : List Value → Type 0
  wanted given = IsWanted f None (mode_of t given)

  pub advanced : (old new : List (List Value)) (o : Option Mode) → IsStrictlySortedBy (slice_cmp value_cmp) old → IsNext wanted t old o new → IsAdvanced (at old) o (at new)
  advanced old new None up next = (
    λ m is. one_of (λ a. wanted a → ⊥) old m.values next.0 is.choice (subst (IsMode f) (sym (mode_is t m is.transition)) is.is_mode),
    λ m is. contains_nil m.values (subst (λ l. Contains l m.values) next.1 is.choice),
  )
  advanced old new (Some m) up next =
      let skips = next.0 in
      let sorted : IsStrictlySortedBy (slice_cmp value_cmp) (m.values ∷ new) = ascend_behind (slice_cmp value_cmp) skips.skipped (m.values ∷ new) (subst (IsStrictlySortedBy (slice_cmp value_cmp)) skips.is up) in
      let later : (x : List Value) → Contains new x → Contains old x = λ x c. subst (λ l. Contains l x) (sym skips.is) (contains_behind skips.skipped (m.values ∷ new) x (contains_next m.values new x c)) in
      record {
        was = record {
          transition = next.2;
          choice = subst (λ l. Contains l m.values) (sym skips.is) (contains_behind skips.skipped (m.values ∷ new) m.values (contains_first m.values new));
          is_mode = subst (IsMode f) (mode_is t m next.2) next.1;
        };
        others = λ x is. split x is (choices_in skips.skipped new m.values x.values (subst (λ l. Contains l x.values) skips.is is.choice));
        behind = λ x is. (
          record { transition = is.transition; choice = later x.values is.choice; is_mode = is.is_mode },
          same_transition t m x next.2 is.transition ∙ above_first (slice_cmp value_cmp) m.values new sorted x.values is.choice,
        );
      }
    where
      split : (x : Mode) → IsToCome (at old) x → Contains next.0.skipped x.values ⊎ ((m.values ≡ x.values) ⊎ Contains new x.values) → (x ≡ m) ⊎ IsToCome (at new) x
      split x is (inl before) = absurd (one_of (λ a. wanted a → ⊥) next.0.skipped x.values next.0.unwanted before (subst (IsMode f) (sym (mode_is t x is.transition)) is.is_mode))
      split x is (inr (inl same)) = inl (λ i. record { transition = (is.transition ∙ sym next.2) i; values = sym same i })
      split x is (inr (inr there)) = inr (record { transition = is.transition; choice = there; is_mode = is.is_mode })

  -- what is still to come behind what was skipped and found ascends
  pub next_ascends : (old new : List (List Value)) (o : Option Mode) → IsStrictlySortedBy (slice_cmp value_cmp) old → IsNext wanted t old o new → IsStrictlySortedBy (slice_cmp value_cmp) new
  next_ascends old new None up next = subst (IsStrictlySortedBy (slice_cmp value_cmp)) (sym next.1) (nothing_ascends (slice_cmp value_cmp))
  next_ascends old new (Some m) up next =
      behind_first (slice_cmp value_cmp) m.values new (ascend_behind (slice_cmp value_cmp) next.0.skipped (m.values ∷ new) (subst (IsStrictlySortedBy (slice_cmp value_cmp)) next.0.is up))

  pub skips_ascend : (old new : List (List Value)) → IsStrictlySortedBy (slice_cmp value_cmp) old → Skips wanted old new → IsStrictlySortedBy (slice_cmp value_cmp) new
  skips_ascend old new up skips = ascend_behind (slice_cmp value_cmp) skips.skipped new (subst (IsStrictlySortedBy (slice_cmp value_cmp)) skips.is up)

-- the same after a call, by its plan
pub advanced_by : (f : Flat) (t u : ℕ) (marking : Option (List (Token × ℕ))) (old new : List (List Value)) (o : Option Mode) → marking ≡ None → u ≡ t → IsStrictlySortedBy (slice_cmp value_cmp) old
    → IsNext (given_wanted f marking t) u old o new → IsAdvanced (at f t old) o (at f t new)
advanced_by f t u marking old new o none same up next =
    advanced f t old new o up (subst (λ m. IsNext (given_wanted f m t) t old o new) none (subst (λ n. IsNext (given_wanted f marking t) n old o new) same next))

pub ascends_after : {E : Type 0} (f : Flat) (t u : ℕ) (marking : Option (List (Token × ℕ))) (old new : List (List Value)) (r : Result (Option Mode) E) → marking ≡ None → u ≡ t → IsStrictlySortedBy (slice_cmp value_cmp) old
    → IfOk r (λ o. IsNext (given_wanted f marking t) u old o new) → OnErr r (Skips (given_wanted f marking t) old new) → IsStrictlySortedBy (slice_cmp value_cmp) new
ascends_after f t u marking old new (Ok o) none same up next skips =
    next_ascends f t old new o up (subst (λ m. IsNext (given_wanted f m t) t old o new) none (subst (λ n. IsNext (given_wanted f marking t) n old o new) same next))
ascends_after f t u marking old new (Err e) none same up next skips = skips_ascend f t old new up (subst (λ m. Skips (given_wanted f m t) old new) none skips)
