-- What a copy of entries keeps.
use Rattle.std.proofs.Common.{◌≡◌, ℕ, ◌+◌, ◌<◌, ◌≤◌, List, [], ◌∷◌, ◌++◌, length, get_or, take, refl, sym, ap, ◌∙◌, subst, arith}
use Rattle.std.specs.Cmp.{IsTotalOrder}
use Rattle.std.specs.Ordering.{match_ordering}
use Rattle.std.specs.declared.cmp.Ordering.{Ordering}
use Rattle.std.specs.declared.cmp.Ordering.TheVariants.{Less, Equal}
use Rattle.std.proofs.lemmas.Cmp.{tied_back, alike_right}
use Rattle.std.proofs.lemmas.List.{take_more}
use Rattle.pn_bag.specs.declared.TheConstants.{MAX_COUNT}
use Rattle.pn_bag.specs.Bag.{IsBag}
use Rattle.pn_bag.specs.Copies.{IsCopy}
use Rattle.pn_bag.specs.Counts.{count_in, Every, IsRising, IsSame}
use Rattle.pn_bag.proofs.Counting.{tied_less, less_tied}

taken_more : {X : Type 0} (xs : List X) (i : ℕ) (x : X) → i < length xs → x ≡ get_or xs i x → take (i + 1) xs ≡ take i xs ++ x ∷ []
taken_more xs i x within read = take_more xs i x within ∙ ap (λ y. take i xs ++ y ∷ []) (sym read)

pub equal_step : {X : Type 0} (xs ys new : List X) (i : ℕ) (x y : X) → i < length xs → x ≡ get_or xs i x → new ≡ ys ++ y ∷ [] → ys ≡ take i xs → y ≡ x → new ≡ take (i + 1) xs
equal_step xs ys new i x y within read is before same = is ∙ ap (λ zs. zs ++ y ∷ []) before ∙ ap (λ z. take i xs ++ z ∷ []) same ∙ sym (taken_more xs i x within read)

module _ {K : Type 0} (cmp : K → K → Ordering) where
  -- one more entry
  pub copy_more : (xs ys : List (K × ℕ)) (x y : K × ℕ) → IsCopy cmp xs ys → cmp y.0 x.0 ≡ Equal → y.1 ≡ x.1 → IsCopy cmp (xs ++ x ∷ []) (ys ++ y ∷ [])
  copy_more [] [] x y copy tied same = (tied, same, tt)
  copy_more [] (b ∷ ys) x y copy tied same = absurd copy
  copy_more (a ∷ xs) [] x y copy tied same = absurd copy
  copy_more (a ∷ xs) (b ∷ ys) x y copy tied same = (copy.0, copy.1, copy_more xs ys x y copy.2 tied same)

  -- one step of a loop
  pub copy_step : (xs ys new : List (K × ℕ)) (i : ℕ) (x y : K × ℕ) → i < length xs → x ≡ get_or xs i x → new ≡ ys ++ y ∷ [] → IsCopy cmp (take i xs) ys → cmp y.0 x.0 ≡ Equal → y.1 ≡ x.1 → IsCopy cmp (take (i + 1) xs) new
  copy_step xs ys new i x y within read is copy tied same =
      subst (λ zs. IsCopy cmp (take (i + 1) xs) zs) (sym is) (subst (λ zs. IsCopy cmp zs (ys ++ y ∷ [])) (sym (taken_more xs i x within read)) (copy_more (take i xs) ys x y copy tied same))

  -- what holds of each count holds of the copy's
  copy_every : (P : ℕ → Type 0) (xs ys : List (K × ℕ)) → IsCopy cmp xs ys → Every (λ x. P x.1) xs → Every (λ y. P y.1) ys
  copy_every P [] [] copy all = tt
  copy_every P [] (y ∷ ys) copy all = absurd copy
  copy_every P (x ∷ xs) [] copy all = absurd copy
  copy_every P (x ∷ xs) (y ∷ ys) copy all = (subst P (sym copy.1) all.0, copy_every P xs ys copy.2 all.1)

module _ {K : Type 0} {cmp : K → K → Ordering} (total : IsTotalOrder cmp) where
  pub copy_same : (xs ys : List (K × ℕ)) → IsCopy cmp xs ys → IsSame cmp xs ys
  copy_same [] [] copy key = refl
  copy_same [] (y ∷ ys) copy key = absurd copy
  copy_same (x ∷ xs) [] copy key = absurd copy
  copy_same (x ∷ xs) (y ∷ ys) copy key =
      let keys : count_in cmp x key ≡ count_in cmp (y.0, x.1) key = ap (λ o. match_ordering o 0 x.1 0) (sym (alike_right total y.0 x.0 key copy.0)) in
      let counts : count_in cmp (y.0, x.1) key ≡ count_in cmp y key = ap (λ n. count_in cmp (y.0, n) key) (sym copy.1) in
      omega (arith, keys, counts, copy_same xs ys copy.2 key)

  copy_below : (a b : K) (xs ys : List (K × ℕ)) → cmp b a ≡ Equal → IsCopy cmp xs ys → Every (λ x. cmp a x.0 ≡ Less) xs → Every (λ y. cmp b y.0 ≡ Less) ys
  copy_below a b [] [] tied copy all = tt
  copy_below a b [] (y ∷ ys) tied copy all = absurd copy
  copy_below a b (x ∷ xs) [] tied copy all = absurd copy
  copy_below a b (x ∷ xs) (y ∷ ys) tied copy all =
      (less_tied total b x.0 y.0 (tied_less total b a x.0 tied all.0) (tied_back total y.0 x.0 copy.0), copy_below a b xs ys tied copy.2 all.1)

  copy_rises : (xs ys : List (K × ℕ)) → IsCopy cmp xs ys → IsRising cmp xs → IsRising cmp ys
  copy_rises [] [] copy rising = tt
  copy_rises [] (y ∷ ys) copy rising = absurd copy
  copy_rises (x ∷ xs) [] copy rising = absurd copy
  copy_rises (x ∷ xs) (y ∷ ys) copy rising = (copy_below x.0 y.0 xs ys copy.0 copy.2 rising.0, copy_rises xs ys copy.2 rising.1)

  pub copy_bag : (xs ys : List (K × ℕ)) → IsCopy cmp xs ys → IsBag cmp xs → IsBag cmp ys
  copy_bag xs ys copy bag = record {
    rising = copy_rises xs ys copy bag.rising;
    counted = copy_every cmp (λ n. (0 < n) × (n ≤ MAX_COUNT)) xs ys copy bag.counted;
  }
