-- The modes of words lead to one marking, or are refused for one reason.
use Rattle.std.proofs.Common.{◌≡◌, ◌⊎◌, inl, inr, ◌+◌, ◌<◌, ◌≤◌, ℕ, zero, suc, List, [], ◌∷◌, take, drop, length, true, false, Some, refl, sym, ap, ◌∙◌, subst, arith}
use Rattle.std.specs.List.{AllByRecursion, AllZip, slice_get}
use Rattle.std.proofs.lemmas.Cmp.{tied_itself}
use Rattle.pn_bag.proofs.Canonical.{same_entries}
use Rattle.pn_bag.proofs.Counting.{count_in_as}
use Rattle.pn_bag.proofs.Everywhere.{every_both}
use Rattle.pn_bag.specs.Bag.{IsBag}
use Rattle.pn_bag.specs.Counts.{Every, IsMultiset, count_in, count_of}
use Rattle.pn_bag.specs.declared.TheConstants.{MAX_COUNT}
use Rattle.pn_checks.proofs.EndLemmas.{zip_at}
use Rattle.pn_checks.proofs.MarkLemmas.{initial_once, says_once}
use Rattle.pn_checks.specs.Initial.{IsInitial}
use Rattle.pn_eval.proofs.OnceLemmas.{value_once}
use Rattle.pn_facts.proofs.Contained.{contains_at}
use Rattle.pn_facts.proofs.Each.{one_of}
use Rattle.pn_marking.proofs.OnceLemmas.{one_marking}
use Rattle.pn_marking.proofs.StepLemmas.{large_excludes, one_large, one_short, one_step, short_excludes}
use Rattle.pn_marking.specs.Firing.{IsLeastLarge, IsLeastShort}
use Rattle.pn_marking.specs.Modes.{IsMode, IsPost, IsPre}
use Rattle.pn_marking.specs.Steps.{AreModes, IsEnabled, IsStep}
use Rattle.pn_mode_text.proofs.OneTextLemmas.{mode_text_once}
use Rattle.pn_mode_text.proofs.VariableLemmas.{place_sort_once}
use Rattle.pn_mode_text.specs.ModeReadings.{IsWord}
use Rattle.pn_mode_text.specs.Words.{IsCountedText}
use Rattle.pn_mode_text.specs.Texts.{IsModeText, IsTokenText, token_text}
use Rattle.pn_net.proofs.OrderLemmas.{same_modes, same_tokens}
use Rattle.pn_net.specs.Orders.{mode_cmp, modes_total, token_cmp, tokens_total}
use Rattle.pn_net.specs.Typed.{IsSortOfPlace}
use Rattle.pn_net.specs.declared.flat.Flat.{Flat}
use Rattle.pn_net.specs.declared.mode.Mode.{Mode}
use Rattle.pn_net.specs.declared.token.Token.{Token}
use Rattle.pn_objects.specs.declared.object.Place.{Place}
use Rattle.pn_sorts.specs.Standing.{IsFaultless}
use Rattle.pn_terms.proofs.SortLemmas.{same_some}
use Rattle.pn_words.specs.Languages.{IsBadPlace, IsWordFront}
use Rattle.pn_stepping.proofs.StepLemmas.{made_of, no_more, some_counted}
use Rattle.pn_stepping.specs.Refusing.{IsToldReason, IsRefusedStep}
use Rattle.pn_stepping.specs.Stepping.{AreJoined, AreStarted, AreTold, IsBadWord, IsFirstOver, IsFirstUnfit, IsMadeOf, LeadTo, TellsEntry}
use Rattle.pn_stepping.specs.declared.told.StepRefusal.{StepRefusal}
use Rattle.pn_stepping.specs.declared.told.StepRefusal.TheVariants as refusals

-- ---- numbers and places

data Order (m n : ℕ) : Type 0 where
  below : m < n → Order m n
  alike : m ≡ n → Order m n
  above : n < m → Order m n

order : (m n : ℕ) → Order m n
order zero zero = alike refl
order zero (suc n) = below (omega arith)
order (suc m) zero = above (omega arith)
order (suc m) (suc n) = next (order m n)
  where
    next : Order m n → Order (suc m) (suc n)
    next (below less) = below (omega (arith, less))
    next (alike same) = alike (ap suc same)
    next (above more) = above (omega (arith, more))

-- what is so of each before a place
before_all : {X : Type 0} (P : X → Type 0) (xs : List X) (i j : ℕ) (x : X) → AllByRecursion P (take j xs) → i < j → slice_get xs i ≡ Some x → P x
before_all P [] i j x all less at = absurd cc
before_all P (y ∷ xs) i zero x all less at = absurd (omega (arith, less))
before_all {X} P (y ∷ xs) zero (suc j) x all less at = let same : y ≡ x = cc in subst P same all.0
before_all P (y ∷ xs) (suc i) (suc j) x all less at = before_all P xs i j x all.1 (omega (arith, less)) at

before_every : {X : Type 0} (P : X → Type 0) (xs : List X) (i j : ℕ) (x : X) → Every P (take j xs) → i < j → slice_get xs i ≡ Some x → P x
before_every P [] i j x all less at = absurd cc
before_every P (y ∷ xs) i zero x all less at = absurd (omega (arith, less))
before_every {X} P (y ∷ xs) zero (suc j) x all less at = let same : y ≡ x = cc in subst P same all.0
before_every P (y ∷ xs) (suc i) (suc j) x all less at = before_every P xs i j x all.1 (omega (arith, less)) at

every_there : {X : Type 0} (P : X → Type 0) (xs : List X) (i : ℕ) (x : X) → Every P xs → slice_get xs i ≡ Some x → P x
every_there P [] i x all at = absurd cc
every_there {X} P (y ∷ xs) zero x all at = let same : y ≡ x = cc in subst P same all.0
every_there P (y ∷ xs) (suc i) x all at = every_there P xs i x all.1 at

-- the count of a mode rises with each entry of its own
count_at : (m : Mode) (c : ℕ) → count_in mode_cmp (m, c) m ≡ c
count_at m c = count_in_as mode_cmp (m, c) m _ (tied_itself modes_total m)

count_before : (entries : List (Mode × ℕ)) (i j : ℕ) (m : Mode) (c : ℕ) → slice_get entries i ≡ Some (m, c) → i < j → count_of mode_cmp (take i entries) m + c ≤ count_of mode_cmp (take j entries) m
count_before [] i j m c at less = absurd cc
count_before (e ∷ entries) i zero m c at less = absurd (omega (arith, less))
count_before (e ∷ entries) zero (suc j) m c at less =
    let same : e ≡ (m, c) = cc in
    let here : count_in mode_cmp e m ≡ c = ap (λ x. count_in mode_cmp x m) same ∙ count_at m c in
    omega (arith, here)
count_before (e ∷ entries) (suc i) (suc j) m c at less = let rest = count_before entries i j m c at (omega (arith, less)) in omega (arith, rest)

count_whole : (entries : List (Mode × ℕ)) (i : ℕ) (m : Mode) (c : ℕ) → slice_get entries i ≡ Some (m, c) → count_of mode_cmp (take i entries) m + c ≤ count_of mode_cmp entries m
count_whole [] i m c at = absurd cc
count_whole (e ∷ entries) zero m c at =
    let same : e ≡ (m, c) = cc in
    let here : count_in mode_cmp e m ≡ c = ap (λ x. count_in mode_cmp x m) same ∙ count_at m c in
    omega (arith, here)
count_whole (e ∷ entries) (suc i) m c at = let rest = count_whole entries i m c at in omega (arith, rest)

-- the number of bytes of the longest front is one
longest_once : {V : Type 0} (L : V → List ℕ → Type 0) (b : List ℕ) (k n : ℕ) → IsBadPlace L b k → IsBadPlace L b n → k ≡ n
longest_once L b k n p q = by (order k n) p.front q.front
  where
    by : Order k n → (k ≡ 0) ⊎ IsWordFront L (take k b) → (n ≡ 0) ⊎ IsWordFront L (take n b) → k ≡ n
    by (alike same) x y = same
    by (below less) x (inl none) = absurd (omega (arith, less, none))
    by (below less) x (inr front) = absurd (p.greatest n less q.within front)
    by (above more) (inl none) y = absurd (omega (arith, more, none))
    by (above more) (inr front) y = absurd (q.greatest k more p.within front)

multiset_of_bag : (x : List (Mode × ℕ)) → IsBag mode_cmp x → IsMultiset mode_cmp x
multiset_of_bag x bag = record { rising = bag.rising; positive = every_both (λ e. (0 < e.1) × (e.1 ≤ MAX_COUNT)) (λ e. (0 < e.1) × (e.1 ≤ MAX_COUNT)) (λ e. 0 < e.1) (λ e p q. p.0) x bag.counted bag.counted }

token_text_once : (f : Flat) (k : Token) (t u : List ℕ) → IsTokenText f k t → IsTokenText f k u → t ≡ u
token_text_once f k t u p q =
    let place : p.place ≡ q.place = same_some p.place q.place _ p.is_place q.is_place in
    let sort : p.sort ≡ q.sort = place_sort_once f k.place p.sort q.sort (p.place, p.is_place, p.of_sort) (q.place, q.is_place, q.of_sort) in
    p.text_is ∙ ap (λ (x : Place). token_text f.declarations x.id p.sort k.value) place ∙ ap (λ s. token_text f.declarations q.place.id s k.value) sort ∙ sym q.text_is

module _ (f : Flat) (words : List (List ℕ)) where
  -- ---- words

  entries_once : (x y : List (Mode × ℕ)) → AreTold f words x → AreTold f words y → x ≡ y
  entries_once x y p q = q.only x p.told

  bad_or_told : (place length : ℕ) (entries : List (Mode × ℕ)) → IsBadWord f words place length → AreTold f words entries → ⊥
  bad_or_told place length entries bad told = bad.none (one_of (IsMadeOf f) words bad.word (made_of f words entries told.told) (contains_at words place bad.word bad.at))

  bad_once : (p q k n : ℕ) → IsBadWord f words p k → IsBadWord f words q n → (p ≡ q) × (k ≡ n)
  bad_once p q k n x y = by (order p q)
    where
      by : Order p q → (p ≡ q) × (k ≡ n)
      by (below less) = absurd (x.none (before_all (IsMadeOf f) words p q x.word y.before less x.at))
      by (above more) = absurd (y.none (before_all (IsMadeOf f) words q p y.word x.before more y.at))
      by (alike same) =
          let word : x.word ≡ y.word = same_some x.word y.word _ (subst (λ i. slice_get words i ≡ Some x.word) same x.at) y.at in
          (same, longest_once (IsWord f) y.word k n (subst (λ w. IsBadPlace (IsWord f) w k) word x.bad) y.bad)

  unfit_or_modes : (place : ℕ) (x y : List (Mode × ℕ)) → AreTold f words x → IsFirstUnfit f x place → AreTold f words y → AreModes f y → ⊥
  unfit_or_modes place x y p unfit q modes = unfit.none (every_there (λ e. IsMode f e.0) x place unfit.entry (subst (AreModes f) (entries_once y x q p) modes) unfit.at)

  -- what is told of a word comes at least once
  told_some : (x : List (Mode × ℕ)) (place : ℕ) (entry : Mode × ℕ) → AreTold f words x → slice_get x place ≡ Some entry → 0 < entry.1
  told_some x place entry told at = by (zip_at (TellsEntry f) words x told.told place entry at).2.is_word
    where
      by : {t w : List ℕ} → IsCountedText entry.1 t w → 0 < entry.1
      by (inl (one, is)) = omega (arith, one)
      by (inr (some, small, is)) = some

  unfit_or_joined : (place : ℕ) (x sum : List (Mode × ℕ)) → AreTold f words x → IsFirstUnfit f x place → AreJoined f words sum → ⊥
  unfit_or_joined place x sum told unfit joined =
      let entry = unfit.entry in
      let same : joined.entries ≡ x = entries_once joined.entries x joined.told told in
      let total : count_of mode_cmp sum entry.0 ≡ count_of mode_cmp x entry.0 = joined.same entry.0 ∙ ap (λ e. count_of mode_cmp e entry.0) same in
      let some = told_some x place entry told unfit.at in
      let whole = count_whole x place entry.0 entry.1 unfit.at in
      unfit.none (some_counted f sum joined.modes entry.0 (omega (arith, total, some, whole)))

  unfit_once : (p q : ℕ) (x y : List (Mode × ℕ)) → AreTold f words x → IsFirstUnfit f x p → AreTold f words y → IsFirstUnfit f y q → p ≡ q
  unfit_once p q x y told first also second = by (order p q)
    where
      other : IsFirstUnfit f x q
      other = subst (λ z. IsFirstUnfit f z q) (entries_once y x also told) second

      by : Order p q → p ≡ q
      by (alike same) = same
      by (below less) = absurd (first.none (before_every (λ e. IsMode f e.0) x p q first.entry other.before less first.at))
      by (above more) = absurd (other.none (before_every (λ e. IsMode f e.0) x q p other.entry first.before more other.at))

  over_or_joined : (mode : Mode) (x sum : List (Mode × ℕ)) → AreTold f words x → IsFirstOver x mode → AreJoined f words sum → ⊥
  over_or_joined mode x sum told over joined =
      let same : joined.entries ≡ x = entries_once joined.entries x joined.told told in
      let total : count_of mode_cmp sum mode ≡ count_of mode_cmp x mode = joined.same mode ∙ ap (λ e. count_of mode_cmp e mode) same in
      omega (arith, total, over.over, no_more sum joined.bag mode, count_whole x over.place mode over.count over.at)

  over_once : (m k : Mode) (x y : List (Mode × ℕ)) → AreTold f words x → IsFirstOver x m → AreTold f words y → IsFirstOver y k → m ≡ k
  over_once m k x y told first also second = by (order first.place other.place)
    where
      other : IsFirstOver x k
      other = subst (λ z. IsFirstOver z k) (entries_once y x also told) second

      by : Order first.place other.place → m ≡ k
      by (alike same) = ap (λ e. e.0) (same_some (m, first.count) (k, other.count) _ (subst (λ i. slice_get x i ≡ Some (m, first.count)) same first.at) other.at)
      by (below less) = absurd (omega (arith, first.over, other.before m, count_before x first.place other.place m first.count first.at less))
      by (above more) = absurd (omega (arith, other.over, first.before k, count_before x other.place first.place k other.count other.at more))

  joined_once : (x y : List (Mode × ℕ)) → AreJoined f words x → AreJoined f words y → x ≡ y
  joined_once x y p q =
      let same : p.entries ≡ q.entries = entries_once p.entries q.entries p.told q.told in
      same_entries modes_total (λ a b. (same_modes a b).0) x y (multiset_of_bag x p.bag) (multiset_of_bag y q.bag) (λ k. p.same k ∙ ap (λ e. count_of mode_cmp e k) same ∙ sym (q.same k))

  -- ---- steps

  module _ (sound : IsFaultless f.declarations) where
    initial_is_one : (a b : List (Token × ℕ)) → IsInitial f a → IsInitial f b → a ≡ b
    initial_is_one a b =
        initial_once (same_entries tokens_total (λ x y. (same_tokens x y).0)) f f a b (says_once f.declarations (λ e o p. value_once f.declarations [] [] sound e o p)) refl refl

    takes_once : (mode : Mode) (p q : List (Token × ℕ)) → IsPre f mode p → IsPre f mode q → p ≡ q
    takes_once mode p q (vars, are, moved) (others, also, more) =
        one_marking (same_entries tokens_total (λ x y. (same_tokens x y).0)) f mode.transition false mode.values vars others (λ e o r. value_once f.declarations vars mode.values sound e o r) are also p q moved more

    puts_once : (mode : Mode) (p q : List (Token × ℕ)) → IsPost f mode p → IsPost f mode q → p ≡ q
    puts_once mode p q (vars, are, moved) (others, also, more) =
        one_marking (same_entries tokens_total (λ x y. (same_tokens x y).0)) f mode.transition true mode.values vars others (λ e o r. value_once f.declarations vars mode.values sound e o r) are also p q moved more

    -- what holds of the modes and the initial marking here holds of those there
    started_as : (P : List (Token × ℕ) → List (Mode × ℕ) → Type 0) (x y : List (Mode × ℕ)) (a b : List (Token × ℕ)) → AreStarted f words x a → AreStarted f words y b → P a x → P b y
    started_as P x y a b p q holds = subst (λ z. P b z) (joined_once x y p.joined q.joined) (subst (λ z. P z x) (initial_is_one a b p.is_initial q.is_initial) holds)

    pub marking_once : (x y : List (Token × ℕ)) → LeadTo f words x → LeadTo f words y → x ≡ y
    marking_once x y p q =
        one_step f q.initial q.modes takes_once puts_once x y p.bag q.bag (started_as (λ a z. IsStep f a z x) p.modes q.modes p.initial q.initial p.started q.started p.steps) q.steps

    short_or_enabled : (x y : List (Mode × ℕ)) (a b : List (Token × ℕ)) (k : Token) (need has : ℕ) → AreStarted f words x a → IsLeastShort f a x k need has → AreStarted f words y b → IsEnabled f b y → ⊥
    short_or_enabled x y a b k need has p short q enabled = short_excludes f b y k need has takes_once (started_as (λ c z. IsLeastShort f c z k need has) x y a b p q short) enabled

    short_once : (x y : List (Mode × ℕ)) (a b : List (Token × ℕ)) (k l : Token) (need has more had : ℕ) → AreStarted f words x a → IsLeastShort f a x k need has → AreStarted f words y b → IsLeastShort f b y l more had
        → (k ≡ l) × (need ≡ more) × (has ≡ had)
    short_once x y a b k l need has more had p short q also = one_short f b y k l need more has had takes_once (started_as (λ c z. IsLeastShort f c z k need has) x y a b p q short) also

    large_or_step : (x y : List (Mode × ℕ)) (a b new : List (Token × ℕ)) (k : Token) → AreStarted f words x a → IsLeastLarge f a x k → AreStarted f words y b → IsBag token_cmp new → IsStep f b y new → ⊥
    large_or_step x y a b new k p large q bag step = large_excludes f b y takes_once puts_once k new bag (started_as (λ c z. IsLeastLarge f c z k) x y a b p q large) step

    large_once : (x y : List (Mode × ℕ)) (a b : List (Token × ℕ)) (k l : Token) → AreStarted f words x a → IsLeastLarge f a x k → AreStarted f words y b → IsLeastLarge f b y l → k ≡ l
    large_once x y a b k l p large q also = one_large f b y takes_once puts_once k l (started_as (λ c z. IsLeastLarge f c z k) x y a b p q large) also

    enabled_of_large : (b : List (Token × ℕ)) (y : List (Mode × ℕ)) (k : Token) → IsLeastLarge f b y k → IsEnabled f b y
    enabled_of_large b y k (takes, puts, is) = (takes, is.enabled)

    enabled_of_step : (b : List (Token × ℕ)) (y : List (Mode × ℕ)) (new : List (Token × ℕ)) → IsStep f b y new → IsEnabled f b y
    enabled_of_step b y new (takes, puts, is) = (takes, is.enabled)

    -- words whose modes lead to a marking are not refused
    pub marking_or_refusal : (new : List (Token × ℕ)) (x : StepRefusal) → IsToldReason x → LeadTo f words new → IsRefusedStep f words x → ⊥
    marking_or_refusal new (refusals.Memory e) told p q = told
    marking_or_refusal new (refusals.BadMode place length) told p q = bad_or_told place length p.started.joined.entries q p.started.joined.told
    marking_or_refusal new (refusals.NotAMode place) told p (x, are, unfit) = unfit_or_joined place x p.modes are unfit p.started.joined
    marking_or_refusal new (refusals.ModeTooLarge text) told p (mode, (x, are, modes, over), is) = over_or_joined mode x p.modes are over p.started.joined
    marking_or_refusal new (refusals.NotEnabled text need has) told p (k, (x, a, started, short), is) =
        short_or_enabled x p.modes a p.initial k need has started short p.started (enabled_of_step p.initial p.modes new p.steps)
    marking_or_refusal new (refusals.TokenTooLarge text) told p (k, (x, a, started, large), is) = large_or_step x p.modes a p.initial new k started large p.started p.bag p.steps

    -- words are refused for one reason
    pub refusal_once : (x y : StepRefusal) → IsToldReason x → IsToldReason y → IsRefusedStep f words x → IsRefusedStep f words y → x ≡ y
    refusal_once (refusals.Memory e) y told known is also = absurd told
    refusal_once x (refusals.Memory e) told known is also = absurd known
    refusal_once (refusals.BadMode p k) (refusals.BadMode q n) told known is also = let same = bad_once p q k n is also in λ l. refusals.BadMode (same.0 l) (same.1 l)
    refusal_once (refusals.BadMode p k) (refusals.NotAMode q) told known is (y, e, v) = absurd (bad_or_told p k y is e)
    refusal_once (refusals.BadMode p k) (refusals.ModeTooLarge u) told known is (j, (y, e, modes1, v), other) = absurd (bad_or_told p k y is e)
    refusal_once (refusals.BadMode p k) (refusals.NotEnabled u n g) told known is (j, (y, b, e, v), other) = absurd (bad_or_told p k e.joined.entries is e.joined.told)
    refusal_once (refusals.BadMode p k) (refusals.TokenTooLarge u) told known is (j, (y, b, e, v), other) = absurd (bad_or_told p k e.joined.entries is e.joined.told)
    refusal_once (refusals.NotAMode p) (refusals.BadMode q n) told known (x, d, w) also = absurd (bad_or_told q n x also d)
    refusal_once (refusals.NotAMode p) (refusals.NotAMode q) told known (x, d, w) (y, e, v) = ap refusals.NotAMode (unfit_once p q x y d w e v)
    refusal_once (refusals.NotAMode p) (refusals.ModeTooLarge u) told known (x, d, w) (j, (y, e, modes1, v), other) = absurd (unfit_or_modes p x y d w e modes1)
    refusal_once (refusals.NotAMode p) (refusals.NotEnabled u n g) told known (x, d, w) (j, (y, b, e, v), other) = absurd (unfit_or_joined p x y d w e.joined)
    refusal_once (refusals.NotAMode p) (refusals.TokenTooLarge u) told known (x, d, w) (j, (y, b, e, v), other) = absurd (unfit_or_joined p x y d w e.joined)
    refusal_once (refusals.ModeTooLarge t) (refusals.BadMode q n) told known (i, (x, d, modes0, w), text) also = absurd (bad_or_told q n x also d)
    refusal_once (refusals.ModeTooLarge t) (refusals.NotAMode q) told known (i, (x, d, modes0, w), text) (y, e, v) = absurd (unfit_or_modes q y x e v d modes0)
    refusal_once (refusals.ModeTooLarge t) (refusals.ModeTooLarge u) told known (i, (x, d, modes0, w), text) (j, (y, e, modes1, v), other) =
        ap refusals.ModeTooLarge (mode_text_once f j t u (subst (λ z. IsModeText f z t) (over_once i j x y d w e v) text) other)
    refusal_once (refusals.ModeTooLarge t) (refusals.NotEnabled u n g) told known (i, (x, d, modes0, w), text) (j, (y, b, e, v), other) = absurd (over_or_joined i x y d w e.joined)
    refusal_once (refusals.ModeTooLarge t) (refusals.TokenTooLarge u) told known (i, (x, d, modes0, w), text) (j, (y, b, e, v), other) = absurd (over_or_joined i x y d w e.joined)
    refusal_once (refusals.NotEnabled t m h) (refusals.BadMode q n) told known (i, (x, a, d, w), text) also = absurd (bad_or_told q n d.joined.entries also d.joined.told)
    refusal_once (refusals.NotEnabled t m h) (refusals.NotAMode q) told known (i, (x, a, d, w), text) (y, e, v) = absurd (unfit_or_joined q y x e v d.joined)
    refusal_once (refusals.NotEnabled t m h) (refusals.ModeTooLarge u) told known (i, (x, a, d, w), text) (j, (y, e, modes1, v), other) = absurd (over_or_joined j y x e v d.joined)
    refusal_once (refusals.NotEnabled t m h) (refusals.NotEnabled u n g) told known (i, (x, a, d, w), text) (j, (y, b, e, v), other) =
        let same = short_once x y a b i j m h n g d w e v in
        let named = token_text_once f j t u (subst (λ z. IsTokenText f z t) same.0 text) other in
        λ l. refusals.NotEnabled (named l) (same.1 l) (same.2 l)
    refusal_once (refusals.NotEnabled t m h) (refusals.TokenTooLarge u) told known (i, (x, a, d, w), text) (j, (y, b, e, v), other) = absurd (short_or_enabled x y a b i m h d w e (enabled_of_large b y j v))
    refusal_once (refusals.TokenTooLarge t) (refusals.BadMode q n) told known (i, (x, a, d, w), text) also = absurd (bad_or_told q n d.joined.entries also d.joined.told)
    refusal_once (refusals.TokenTooLarge t) (refusals.NotAMode q) told known (i, (x, a, d, w), text) (y, e, v) = absurd (unfit_or_joined q y x e v d.joined)
    refusal_once (refusals.TokenTooLarge t) (refusals.ModeTooLarge u) told known (i, (x, a, d, w), text) (j, (y, e, modes1, v), other) = absurd (over_or_joined j y x e v d.joined)
    refusal_once (refusals.TokenTooLarge t) (refusals.NotEnabled u n g) told known (i, (x, a, d, w), text) (j, (y, b, e, v), other) = absurd (short_or_enabled y x b a j n g e v d (enabled_of_large a x i w))
    refusal_once (refusals.TokenTooLarge t) (refusals.TokenTooLarge u) told known (i, (x, a, d, w), text) (j, (y, b, e, v), other) =
        ap refusals.TokenTooLarge (token_text_once f j t u (subst (λ z. IsTokenText f z t) (large_once x y a b i j d w e v) text) other)
