-- The modes of words, read, joined and fired.
use Rattle.std.proofs.Common.{◌≡◌, ◌⊎◌, inl, inr, ◌+◌, ◌<◌, ◌≤◌, ℕ, List, [], ◌∷◌, ◌++◌, map, length, take, Some, refl, sym, ap, ◌∙◌, subst, arith}
use Rattle.std.specs.List.{AllByRecursion, AllZip, Contains, slice_get}
use Rattle.std.proofs.lemmas.Option.{slice_get-map}
use Rattle.std.specs.Option.{option_map}
use Rattle.std.specs.Ordering.{match_ordering}
use Rattle.std.specs.declared.result.Result.{Result}
use Rattle.std.specs.declared.result.Result.TheVariants.{Ok, Err}
use Rattle.std.specs.Prelude.{OnOk}
use Rattle.std.specs.declared.cmp.Ordering.{Ordering}
use Rattle.std.specs.declared.cmp.Ordering.TheVariants.{Equal, Greater, Less}
use Rattle.pn_bag.specs.Bag.{IsBag}
use Rattle.pn_bag.specs.Counts.{IsSame, count_in, count_of}
use Rattle.pn_bag.specs.declared.TheConstants.{MAX_COUNT}
use Rattle.pn_bag.proofs.Counting.{count_of-append}
use Rattle.pn_bag.proofs.Canonical.{entries_count}
use Rattle.pn_bag.proofs.Everywhere.{every_both}
use Rattle.pn_bag.proofs.Walking.{count_bound}
use Rattle.pn_facts.proofs.Contained.{contains_cases, contains_nil}
use Rattle.pn_marking.specs.Modes.{IsAssigned, IsMode}
use Rattle.pn_marking.specs.Steps.{AreModes}
use Rattle.pn_mode_text.specs.declared.words.Counted.{Counted}
use Rattle.pn_net.proofs.OrderLemmas.{same_modes}
use Rattle.pn_net.proofs.RowLemmas.{zip_push}
use Rattle.pn_net.specs.Orders.{mode_cmp, modes_total}
use Rattle.pn_net.specs.declared.flat.Flat.{Flat}
use Rattle.pn_net.specs.declared.mode.Mode.{Mode}
use Rattle.pn_stepping.specs.Stepping.{AreTold, IsBadWord, IsMadeOf, IsUnfired, TellsEntry}
use Rattle.pn_stepping.specs.Telling.{AreTheEntry, HasNoSum, HasNoSumAt, IsNotAllModes, IsOfMode, IsUnfit, IsUntold, IsUntoldAt, entries_of, entry_of}
use Rattle.pn_stepping.specs.declared.stepping.StepFault.{StepFault}
use Rattle.pn_stepping.specs.declared.stepping.StepFault.TheVariants as faults

-- ---- words one by one

-- what stands for the words and one more is what stands for them, and one more
zip_cut : {A B : Type 0} (R : A → B → Type 0) (xs : List A) (x : A) (ys : List B) → AllZip R (xs ++ x ∷ []) ys → (front : List B) × (y : B) × (ys ≡ front ++ y ∷ []) × AllZip R xs front × R x y
zip_cut R [] x [] zip = absurd zip
zip_cut R [] x (y ∷ []) zip = ([], y, refl, tt, zip.0)
zip_cut R [] x (y ∷ z ∷ ys) zip = absurd zip.1
zip_cut R (w ∷ xs) x [] zip = absurd zip
zip_cut R (w ∷ xs) x (y ∷ ys) zip =
    let rest = zip_cut R xs x ys zip.1 in
    (y ∷ rest.0, rest.1, ap (λ l. y ∷ l) rest.2, (zip.0, rest.3), rest.4)

map_next : {A B : Type 0} (f : A → B) (xs : List A) (x : A) → map f (xs ++ x ∷ []) ≡ map f xs ++ f x ∷ []
map_next f [] x = refl
map_next f (y ∷ xs) x = ap (λ l. f y ∷ l) (map_next f xs x)

pub told_next : (f : Flat) (words : List (List ℕ)) (word : List ℕ) (old new : List Counted) → AreTold f words (entries_of old) → (c : Counted) × AreTheEntry f word c × (new ≡ old ++ c ∷ [])
    → AreTold f (words ++ word ∷ []) (entries_of new)
told_next f words word old new before (c, here, made) =
    let entries : entries_of new ≡ entries_of old ++ entry_of c ∷ [] = ap entries_of made ∙ map_next entry_of old c in
    record {
      told = subst (AllZip (TellsEntry f) (words ++ word ∷ [])) (sym entries) (zip_push (TellsEntry f) words (entries_of old) word (entry_of c) before.told here.told);
      only = λ other all.
          let cut = zip_cut (TellsEntry f) words word other all in
          cut.2 ∙ ap (λ l. l ++ cut.1 ∷ []) (before.only cut.0 cut.3) ∙ ap (λ e. entries_of old ++ e ∷ []) (here.only cut.1 cut.4) ∙ sym entries;
    }

pub told_none : (f : Flat) → AreTold f [] []
told_none f = record { told = tt; only = λ other all. none other all }
  where
    none : (other : List (Mode × ℕ)) → AllZip (TellsEntry f) [] other → other ≡ []
    none [] all = refl
    none (x ∷ other) all = absurd all

-- words that are told tell something
pub made_of : (f : Flat) (words : List (List ℕ)) (entries : List (Mode × ℕ)) → AllZip (TellsEntry f) words entries → AllByRecursion (IsMadeOf f) words
made_of f [] [] zip = tt
made_of f [] (e ∷ entries) zip = absurd zip
made_of f (w ∷ words) [] zip = absurd zip
made_of f (w ∷ words) (e ∷ entries) zip = ((e, zip.0), made_of f words entries zip.1)

-- a word that tells nothing, where those before it tell something
pub untold_there : (f : Flat) (words : List (List ℕ)) (word : List ℕ) (place : ℕ) (fault : StepFault) (entries : List (Mode × ℕ)) → slice_get words place ≡ Some word → AreTold f (take place words) entries
    → IsUntoldAt f word place fault → IsUntold f words fault
untold_there f words word place (faults.Memory e) entries at told is = tt
untold_there f words word place (faults.BadMode there length) entries at told (same, bad, none) =
    subst (λ p. IsBadWord f words p length) (sym same) (record { word = word; at = at; bad = bad; none = none; before = made_of f (take place words) entries told.told })
untold_there f words word place (faults.NotAMode there) entries at told is = absurd is
untold_there f words word place (faults.ModeTooLarge mode) entries at told is = absurd is
untold_there f words word place (faults.NotEnabled token need has) entries at told is = absurd is
untold_there f words word place (faults.TokenTooLarge token) entries at told is = absurd is

-- ---- sums

pub on_ok_both : {E : Type 0} (P Q R : Type 0) (result : Result (Unit {0}) E) → (P → Q → R) → OnOk result P → OnOk result Q → OnOk result R
on_ok_both P Q R (Ok u) to p q = to p q
on_ok_both P Q R (Err e) to p q = tt

-- the entry of what stands at a place
pub entry_at : (entries : List Counted) (i : ℕ) (c : Counted) → slice_get entries i ≡ Some c → slice_get (entries_of entries) i ≡ Some (entry_of c)
entry_at entries i c at = slice_get-map entry_of entries i ∙ ap (option_map entry_of) at

-- the modes of one more entry
pub modes_next : (f : Flat) (entries : List (Mode × ℕ)) (e : Mode × ℕ) → AreModes f entries → IsMode f e.0 → AreModes f (entries ++ e ∷ [])
modes_next f [] e modes is = (is, tt)
modes_next f (x ∷ entries) e modes is = (modes.0, modes_next f entries e modes.1 is)

-- the counts of one more entry
pub same_next : (old new entries : List (Mode × ℕ)) (e : Mode × ℕ) → IsSame mode_cmp old entries → ((k : Mode) → count_of mode_cmp new k ≡ count_of mode_cmp old k + count_in mode_cmp e k)
    → IsSame mode_cmp new (entries ++ e ∷ [])
same_next old new entries e same more k =
    let both = count_of-append mode_cmp entries (e ∷ []) k in
    omega (arith, same k, more k, both)

-- what is told is of modes that have values for their variables
pub told_assigned : (f : Flat) (words : List (List ℕ)) (entries : List Counted) → AllZip (TellsEntry f) words (entries_of entries) → (c : Counted) → Contains entries c → (vars : List ℕ) × IsAssigned f c.mode vars
told_assigned f words [] zip c has = absurd (contains_nil c has)
told_assigned f [] (e ∷ entries) zip c has = absurd zip
told_assigned f (w ∷ words) (e ∷ entries) zip c has = by (contains_cases e entries c has) (told_assigned f words entries zip.1 c)
  where
    by : (e ≡ c) ⊎ Contains entries c → (Contains entries c → (vars : List ℕ) × IsAssigned f c.mode vars) → (vars : List ℕ) × IsAssigned f c.mode vars
    by (inl same) rest = subst (λ x. (vars : List ℕ) × IsAssigned f x.mode vars) same zip.0.assigned
    by (inr there) rest = rest there

module _ (f : Flat) where
  counted : (e : Mode × ℕ) (k : Mode) (rest : ℕ) → IsMode f e.0 → 0 < count_in mode_cmp e k + rest → (0 < rest → IsMode f k) → IsMode f k
  counted e k rest is positive behind = by (mode_cmp k e.0) refl
    where
      none_here : (o : Ordering) → mode_cmp k e.0 ≡ o → match_ordering o 0 e.1 0 ≡ 0 → 0 < rest
      none_here o same none = let zero_here : count_in mode_cmp e k ≡ 0 = ap (λ p. match_ordering p 0 e.1 0) same ∙ none in omega (arith, positive, zero_here)

      by : (o : Ordering) → mode_cmp k e.0 ≡ o → IsMode f k
      by Equal tied = subst (IsMode f) (sym ((same_modes k e.0).0 tied)) is
      by Less low = behind (none_here Less low refl)
      by Greater high = behind (none_here Greater high refl)

  -- a mode that has a count among modes is one
  pub some_counted : (entries : List (Mode × ℕ)) → AreModes f entries → (k : Mode) → 0 < count_of mode_cmp entries k → IsMode f k
  some_counted [] modes k positive = absurd (omega (arith, positive))
  some_counted (e ∷ rest) modes k positive = counted e k (count_of mode_cmp rest k) modes.0 positive (some_counted rest modes.1 k)

  -- a sum of modes is of modes
  pub modes_of_sum : (entries x : List (Mode × ℕ)) → IsBag mode_cmp x → IsSame mode_cmp x entries → AreModes f entries → AreModes f x
  modes_of_sum entries x bag same modes =
      every_both (λ e. (0 < e.1) × (e.1 ≤ MAX_COUNT)) (λ e. count_of mode_cmp x e.0 ≡ e.1) (λ e. IsMode f e.0)
      (λ e bounds own. some_counted entries modes e.0 (subst (λ n. 0 < n) (sym own ∙ same e.0) bounds.0)) x bag.counted (entries_count modes_total x bag.rising)

-- no count of a multiset passes the greatest
pub no_more : (x : List (Mode × ℕ)) → IsBag mode_cmp x → (k : Mode) → count_of mode_cmp x k ≤ MAX_COUNT
no_more x bag = count_bound modes_total MAX_COUNT x bag.rising bag.counted

pub no_sum_at : (x : List (Mode × ℕ)) (c : Counted) (fault : StepFault) → IsBag mode_cmp x → MAX_COUNT < count_of mode_cmp x c.mode + c.count → IsOfMode c.mode fault → HasNoSumAt x (entry_of c) fault
no_sum_at x c (faults.Memory e) bag over is = tt
no_sum_at x c (faults.BadMode place length) bag over is = absurd is
no_sum_at x c (faults.NotAMode place) bag over is = absurd is
no_sum_at x c (faults.ModeTooLarge mode) bag over is = (is, subst (λ m. MAX_COUNT < count_of mode_cmp x m + c.count) (sym is) over, no_more x bag)
no_sum_at x c (faults.NotEnabled token need has) bag over is = absurd is
no_sum_at x c (faults.TokenTooLarge token) bag over is = absurd is

pub no_sum_there : (entries x : List (Mode × ℕ)) (place : ℕ) (e : Mode × ℕ) (fault : StepFault) → slice_get entries place ≡ Some e → IsSame mode_cmp x (take place entries) → HasNoSumAt x e fault → HasNoSum entries fault
no_sum_there entries x place e (faults.Memory error) at same is = tt
no_sum_there entries x place e (faults.BadMode there length) at same is = absurd is
no_sum_there entries x place e (faults.NotAMode there) at same is = absurd is
no_sum_there entries x place e (faults.ModeTooLarge mode) at same (own, over, before) = record {
  place = place;
  count = e.1;
  at = at ∙ ap (λ m. Some (m, e.1)) (sym own);
  over = subst (λ n. MAX_COUNT < n + e.1) (same mode) over;
  before = λ k. subst (λ n. n ≤ MAX_COUNT) (same k) (before k);
}
no_sum_there entries x place e (faults.NotEnabled token need has) at same is = absurd is
no_sum_there entries x place e (faults.TokenTooLarge token) at same is = absurd is
