-- Sorts that are kept once.
use Rattle.std.proofs.Common.{◌≡◌, ℕ, List, [], ◌∷◌, ◌++◌, slice_index_or, slice_set, Option, Some, None, refl, sym, ap, ◌∙◌, subst, arith}
use Rattle.std.proofs.Math.ListN.{get_or-map}
use Rattle.std.proofs.lemmas.List.{get_or_append_left, map-append, map-set, length-append}
use Rattle.std.proofs.lemmas.List.Elements.{All-head, All-tail, All-weaker, All-push, All-set}
use Rattle.std.proofs.lemmas.Option.{slice_get-get_or}
use Rattle.pn_values.specs.declared.sort.Sort.{Sort}
use Rattle.pn_values.specs.declared.sort.Sort.TheVariants as sorts
use Rattle.pn_resolve.specs.NamedSorts.{sort_found, sorts_found, IsFound, AreFound, IsKept}
use Rattle.pn_resolve.specs.Tables.{sort_in}

-- what is found stays when more is kept
found_more : (old more : List Sort) (place : Option ℕ) → IsFound old place → sort_found (old ++ more) place ≡ sort_found old place
found_more old more None is = refl
found_more old more (Some k) is =
    slice_get-get_or (old ++ more) k sorts.Dot (omega (arith, is, length-append old more))
    ∙ ap Some (get_or_append_left old more sorts.Dot k is)
    ∙ sym (slice_get-get_or old k sorts.Dot is)

all_found_more : (old more : List Sort) (places : List (Option ℕ)) → AreFound old places → sorts_found (old ++ more) places ≡ sorts_found old places
all_found_more old more [] are = refl
all_found_more old more (p ∷ ps) are =
    ap (λ s. s ∷ sorts_found (old ++ more) ps) (found_more old more p (All-head (IsFound old) p ps are))
    ∙ ap (λ ss. sort_found old p ∷ ss) (all_found_more old more ps (All-tail (IsFound old) p ps are))

still_found : (old more : List Sort) (place : Option ℕ) → IsFound old place → IsFound (old ++ more) place
still_found old more None is = tt
still_found old more (Some k) is = omega (arith, is, length-append old more)

module _ {old new : List Sort} {sort : Option Sort} {place : Option ℕ} (is : IsKept old new sort place) (places : List (Option ℕ)) (are : AreFound old places) where
  kept_all : AreFound new places
  kept_all = subst (λ l. AreFound l places) (sym is.longer) (All-weaker (IsFound old) (IsFound (old ++ is.more)) (λ p. still_found old is.more p) places are)

  kept_same : sorts_found new places ≡ sorts_found old places
  kept_same = ap (λ l. sorts_found l places) is.longer ∙ all_found_more old is.more places are

  -- one declaration more
  pub pushed_found : AreFound new (places ++ place ∷ [])
  pushed_found = All-push (IsFound new) places place kept_all is.there

  pub pushed_is : sorts_found new (places ++ place ∷ []) ≡ sorts_found old places ++ sort ∷ []
  pushed_is = map-append (sort_found new) places (place ∷ []) ∙ ap (λ ss. ss ++ sort_found new place ∷ []) kept_same ∙ ap (λ s. sorts_found old places ++ s ∷ []) is.found

  -- another sort for a declaration
  pub set_found : (i : ℕ) → AreFound new (slice_set places i place)
  set_found i = All-set (IsFound new) places i place is.there kept_all

  pub set_is : (i : ℕ) → sorts_found new (slice_set places i place) ≡ slice_set (sorts_found old places) i sort
  set_is i = map-set (sort_found new) places i place ∙ ap (λ ss. slice_set ss i (sort_found new place)) kept_same ∙ ap (slice_set (sorts_found old places) i) is.found

-- the sort of one declaration
pub sort_at_is : (kept : List Sort) (places : List (Option ℕ)) (i : ℕ) → sort_in (sorts_found kept places) i ≡ sort_found kept (slice_index_or places i None)
sort_at_is kept places i = get_or-map (sort_found kept) places i None
