-- Sums and additions as whole lists: an entry that is added stands at its place, and a sum is made from the greatest key down.
use Rattle.std.proofs.Common.{◌≡◌, ℕ, zero, suc, ◌+◌, ◌<◌, ◌≤◌, List, [], ◌∷◌, ◌++◌, length, get_or, set, take, drop, reverse, refl, sym, ap, ◌∙◌, append-nil, append_assoc, arith, Result, Ok, Err, OnOk}
use Rattle.std.specs.Cmp.{IsTotalOrder}
use Rattle.std.specs.List.{insert}
use Rattle.std.specs.Ordering.{match_ordering}
use Rattle.std.specs.declared.cmp.Ordering.{Ordering}
use Rattle.std.specs.declared.cmp.Ordering.TheVariants.{Less, Equal, Greater}
use Rattle.std.proofs.lemmas.Cmp.{tied_back}
use Rattle.std.proofs.lemmas.List.{take-append-drop, get_or_default, reverse-append}
use Rattle.pn_bag.specs.declared.TheConstants.{MAX_COUNT}
use Rattle.pn_bag.specs.Algebra.{inserted, added, joined}
use Rattle.pn_bag.specs.Bag.{IsBag}
use Rattle.pn_bag.specs.Counts.{count_in, count_of, Every, IsMultiset, IsSame}
use Rattle.pn_bag.specs.Places.{IsBefore, IsAt, IsGapFor}
use Rattle.pn_bag.proofs.Everywhere.{every_weaker, every_both}
use Rattle.pn_bag.proofs.Counting.{count_of-append, more_from_less}
use Rattle.pn_bag.proofs.Summing.{count_of-added, count_of-joined}
use Rattle.pn_bag.proofs.Canonical.{every_key-inserted, entries_count, multiset-joined}

module _ {K : Type 0} {cmp : K → K → Ordering} (total : IsTotalOrder cmp) where
  -- past smaller keys
  inserted_behind : (xs ys : List (K × ℕ)) (new : K × ℕ) → Every (λ x. cmp x.0 new.0 ≡ Less) xs → inserted cmp (xs ++ ys) new ≡ xs ++ inserted cmp ys new
  inserted_behind [] ys new below = refl
  inserted_behind (x ∷ xs) ys new below =
      ap (λ o. match_ordering o (new ∷ x ∷ (xs ++ ys)) ((x.0, x.1 + new.1) ∷ (xs ++ ys)) (x ∷ inserted cmp (xs ++ ys) new)) (more_from_less total x.0 new.0 below.0)
      ∙ ap (λ zs. x ∷ zs) (inserted_behind xs ys new below.1)

  -- before greater keys
  inserted_before : (xs : List (K × ℕ)) (new : K × ℕ) → Every (λ x. cmp new.0 x.0 ≡ Less) xs → inserted cmp xs new ≡ new ∷ xs
  inserted_before [] new above = refl
  inserted_before (x ∷ xs) new above = ap (λ o. match_ordering o (new ∷ x ∷ xs) ((x.0, x.1 + new.1) ∷ xs) (x ∷ inserted cmp xs new)) above.0

  -- at the place of its key
  inserted_at : (xs : List (K × ℕ)) (at : ℕ) (new d : K × ℕ) → at < length xs → IsBefore cmp xs new.0 at → cmp new.0 (get_or xs at d).0 ≡ Equal
      → inserted cmp xs new ≡ set xs at ((get_or xs at d).0, (get_or xs at d).1 + new.1)
  inserted_at [] at new d within before tied = absurd (omega arith)
  inserted_at (x ∷ xs) zero new d within before tied = ap (λ o. match_ordering o (new ∷ x ∷ xs) ((x.0, x.1 + new.1) ∷ xs) (x ∷ inserted cmp xs new)) tied
  inserted_at (x ∷ xs) (suc at) new d within before tied =
      ap (λ o. match_ordering o (new ∷ x ∷ xs) ((x.0, x.1 + new.1) ∷ xs) (x ∷ inserted cmp xs new)) (more_from_less total x.0 new.0 before.0)
      ∙ ap (λ zs. x ∷ zs) (inserted_at xs at new d (omega arith) before.1 tied)

  added_some : (xs : List (K × ℕ)) (key : K) (n : ℕ) → 0 < n → added cmp xs key n ≡ inserted cmp xs (key, n)
  added_some xs key zero some = absurd (omega arith)
  added_some xs key (suc n) some = refl

  -- a key that goes into its gap
  pub added_in_gap : (xs : List (K × ℕ)) (at : ℕ) (key : K) (n : ℕ) → IsGapFor cmp xs key at → 0 < n → insert xs at (key, n) ≡ added cmp xs key n
  added_in_gap xs at key n gap some =
      let behind : inserted cmp (take at xs ++ drop at xs) (key, n) ≡ take at xs ++ inserted cmp (drop at xs) (key, n) = inserted_behind (take at xs) (drop at xs) (key, n) gap.before in
      let before : inserted cmp (drop at xs) (key, n) ≡ (key, n) ∷ drop at xs = inserted_before (drop at xs) (key, n) gap.after in
      sym (added_some xs key n some ∙ ap (λ ys. inserted cmp ys (key, n)) (sym (take-append-drop at xs)) ∙ behind ∙ ap (λ ys. take at xs ++ ys) before)

  -- a key that is there, whose count is raised, where x and y were read there
  pub added_there : (xs : List (K × ℕ)) (at : ℕ) (key : K) (x y : K × ℕ) (n : ℕ) → IsAt cmp xs key at → x ≡ get_or xs at x → y ≡ get_or xs at y → 0 < n
      → set xs at (x.0, y.1 + n) ≡ added cmp xs key n
  added_there xs at key x y n is_at read read_too some =
      let same : y ≡ get_or xs at x = read_too ∙ get_or_default xs at y x is_at.within in
      let entry : (x.0, y.1 + n) ≡ ((get_or xs at x).0, (get_or xs at x).1 + n) = ap (λ e. (e.0, y.1 + n)) read ∙ ap (λ e. ((get_or xs at x).0, e.1 + n)) same in
      ap (λ e. set xs at e) entry ∙ sym (added_some xs key n some ∙ inserted_at xs at (key, n) x is_at.within is_at.before (is_at.equal x))

  -- below a last entry
  inserted_below_last : (xs : List (K × ℕ)) (last new : K × ℕ) → cmp new.0 last.0 ≡ Less → inserted cmp (xs ++ last ∷ []) new ≡ inserted cmp xs new ++ last ∷ []
  inserted_below_last [] last new below = ap (λ o. match_ordering o (new ∷ last ∷ []) ((last.0, last.1 + new.1) ∷ []) (last ∷ new ∷ [])) below
  inserted_below_last (x ∷ xs) last new below = step (cmp new.0 x.0) (inserted_below_last xs last new below)
    where
      step : (o : Ordering) → inserted cmp (xs ++ last ∷ []) new ≡ inserted cmp xs new ++ last ∷ []
          → match_ordering o (new ∷ x ∷ (xs ++ last ∷ [])) ((x.0, x.1 + new.1) ∷ (xs ++ last ∷ [])) (x ∷ inserted cmp (xs ++ last ∷ []) new)
          ≡ match_ordering o (new ∷ x ∷ xs) ((x.0, x.1 + new.1) ∷ xs) (x ∷ inserted cmp xs new) ++ last ∷ []
      step Less rest = refl
      step Equal rest = refl
      step Greater rest = ap (λ zs. x ∷ zs) rest

  added_below_last : (xs : List (K × ℕ)) (last : K × ℕ) (key : K) (n : ℕ) → cmp key last.0 ≡ Less → added cmp (xs ++ last ∷ []) key n ≡ added cmp xs key n ++ last ∷ []
  added_below_last xs last key zero below = refl
  added_below_last xs last key (suc n) below = inserted_below_last xs last (key, suc n) below

  -- the last entry of the first list, above all keys of the second
  pub joined_to_left : (xs ys : List (K × ℕ)) (last : K × ℕ) → Every (λ y. cmp y.0 last.0 ≡ Less) ys → joined cmp (xs ++ last ∷ []) ys ≡ joined cmp xs ys ++ last ∷ []
  joined_to_left xs [] last below = refl
  joined_to_left xs (y ∷ ys) last below = ap (λ zs. joined cmp zs ys) (added_below_last xs last y.0 y.1 below.0) ∙ joined_to_left (added cmp xs y.0 y.1) ys last below.1

  joined_last : (xs ys : List (K × ℕ)) (last : K × ℕ) → joined cmp xs (ys ++ last ∷ []) ≡ added cmp (joined cmp xs ys) last.0 last.1
  joined_last xs [] last = refl
  joined_last xs (y ∷ ys) last = joined_last (added cmp xs y.0 y.1) ys last

  -- what holds of the keys of two lists holds of those of their sum
  every_key-added : (P : K → Type 0) (xs : List (K × ℕ)) (key : K) (n : ℕ) → P key → Every (λ x. P x.0) xs → Every (λ x. P x.0) (added cmp xs key n)
  every_key-added P xs key zero p all = all
  every_key-added P xs key (suc n) p all = every_key-inserted total P xs (key, suc n) p all

  every_key-joined : (P : K → Type 0) (xs ys : List (K × ℕ)) → Every (λ x. P x.0) xs → Every (λ y. P y.0) ys → Every (λ x. P x.0) (joined cmp xs ys)
  every_key-joined P xs [] all_xs all_ys = all_xs
  every_key-joined P xs (y ∷ ys) all_xs all_ys = every_key-joined P (added cmp xs y.0 y.1) ys (every_key-added P xs y.0 y.1 all_ys.0 all_xs) all_ys.1

  -- the last entry of the second list, above all keys of the first and of what is before it
  pub joined_to_right : (xs ys : List (K × ℕ)) (last : K × ℕ) → Every (λ x. cmp x.0 last.0 ≡ Less) xs → Every (λ y. cmp y.0 last.0 ≡ Less) ys → 0 < last.1
      → joined cmp xs (ys ++ last ∷ []) ≡ joined cmp xs ys ++ last ∷ []
  joined_to_right xs ys last below_xs below_ys some =
      let below = every_key-joined (λ k. cmp k last.0 ≡ Less) xs ys below_xs below_ys in
      let at_end : inserted cmp (joined cmp xs ys ++ []) last ≡ joined cmp xs ys ++ last ∷ [] = inserted_behind (joined cmp xs ys) [] last below in
      joined_last xs ys last ∙ added_some (joined cmp xs ys) last.0 last.1 some ∙ ap (λ zs. inserted cmp zs last) (sym (append-nil (joined cmp xs ys))) ∙ at_end

  -- the last entries of both, with the same key
  pub joined_to_both : (xs ys : List (K × ℕ)) (e f : K × ℕ) → cmp e.0 f.0 ≡ Equal → Every (λ x. cmp x.0 f.0 ≡ Less) xs → Every (λ y. cmp y.0 e.0 ≡ Less) ys
      → Every (λ y. cmp y.0 f.0 ≡ Less) ys → 0 < f.1 → joined cmp (xs ++ e ∷ []) (ys ++ f ∷ []) ≡ joined cmp xs ys ++ (e.0, e.1 + f.1) ∷ []
  joined_to_both xs ys e f tied below_xs below_ys below_too some =
      let below = every_key-joined (λ k. cmp k f.0 ≡ Less) xs ys below_xs below_too in
      let raised : inserted cmp (e ∷ []) f ≡ (e.0, e.1 + f.1) ∷ [] = ap (λ o. match_ordering o (f ∷ e ∷ []) ((e.0, e.1 + f.1) ∷ []) (e ∷ f ∷ [])) (tied_back total e.0 f.0 tied) in
      joined_last (xs ++ e ∷ []) ys f ∙ ap (λ zs. added cmp zs f.0 f.1) (joined_to_left xs ys e below_ys) ∙ added_some (joined cmp xs ys ++ e ∷ []) f.0 f.1 some
      ∙ inserted_behind (joined cmp xs ys) (e ∷ []) f below ∙ ap (λ zs. joined cmp xs ys ++ zs) raised

  -- what is left of two lists whose sums fit has sums that fit
  pub fits_still : (left right left' right' : List (K × ℕ)) (e : K × ℕ) → joined cmp left right ≡ joined cmp left' right' ++ e ∷ []
      → ((key : K) → count_of cmp left key + count_of cmp right key ≤ MAX_COUNT) → (key : K) → count_of cmp left' key + count_of cmp right' key ≤ MAX_COUNT
  fits_still left right left' right' e is fits key =
      omega (arith, fits key, ap (λ xs. count_of cmp xs key) is, count_of-append cmp (joined cmp left' right') (e ∷ []) key, count_of-joined total left right key, count_of-joined total left' right' key)

  multiset_of : (xs : List (K × ℕ)) → IsBag cmp xs → IsMultiset cmp xs
  multiset_of xs bag = record { rising = bag.rising; positive = every_weaker (λ e. (0 < e.1) × (e.1 ≤ MAX_COUNT)) (λ e. 0 < e.1) (λ e p. p.0) xs bag.counted }

  -- a sum whose counts fit is a bag
  pub bag_joined : (xs ys : List (K × ℕ)) → IsBag cmp xs → ((key : K) → count_of cmp xs key + count_of cmp ys key ≤ MAX_COUNT) → IsBag cmp (joined cmp xs ys)
  bag_joined xs ys bag fits =
      let is = multiset-joined total xs ys (multiset_of xs bag) in
      record {
        rising = is.rising;
        counted =
            every_both (λ e. 0 < e.1) (λ e. count_of cmp (joined cmp xs ys) e.0 ≡ e.1) (λ e. (0 < e.1) × (e.1 ≤ MAX_COUNT))
            (λ e some same. (some, omega (arith, same, fits e.0, count_of-joined total xs ys e.0)))
            (joined cmp xs ys) is.positive (entries_count total (joined cmp xs ys) is.rising);
      }

  -- what a call left behind, by its counts
  pub counts_of_added : {T E : Type 0} (r : Result T E) (old new : List (K × ℕ)) (key : K) (n : ℕ) → OnOk r (new ≡ added cmp old key n)
      → OnOk r ((other : K) → count_of cmp new other ≡ count_of cmp old other + count_in cmp (key, n) other)
  counts_of_added (Ok x) old new key n is = λ other. ap (λ xs. count_of cmp xs other) is ∙ count_of-added total old key n other
  counts_of_added (Err e) old new key n is = tt

  pub counts_of_joined : {T E : Type 0} (r : Result T E) (old more new : List (K × ℕ)) → OnOk r (new ≡ joined cmp old more)
      → OnOk r ((key : K) → count_of cmp new key ≡ count_of cmp old key + count_of cmp more key)
  counts_of_joined (Ok x) old more new is = λ key. ap (λ xs. count_of cmp xs key) is ∙ count_of-joined total old more key
  counts_of_joined (Err e) old more new is = tt

-- what is the same list has the same counts
pub same_on_ok : {K T E : Type 0} (cmp : K → K → Ordering) (r : Result T E) (xs ys : List (K × ℕ)) → OnOk r (xs ≡ ys) → OnOk r (IsSame cmp xs ys)
same_on_ok cmp (Ok x) xs ys is = λ key. ap (λ zs. count_of cmp zs key) is
same_on_ok cmp (Err e) xs ys is = tt

-- one more entry of a merge from the greatest key down
pub merged_more : {X : Type 0} (whole before after merged merged' : List X) (e : X) → whole ≡ before ++ reverse merged → before ≡ after ++ e ∷ [] → merged' ≡ merged ++ e ∷ []
    → whole ≡ after ++ reverse merged'
merged_more whole before after merged merged' e is takes push =
    let turned : reverse merged' ≡ e ∷ reverse merged = ap reverse push ∙ reverse-append merged (e ∷ []) in
    is ∙ ap (λ xs. xs ++ reverse merged) takes ∙ append_assoc after (e ∷ []) (reverse merged) ∙ ap (λ xs. after ++ xs) (sym turned)
