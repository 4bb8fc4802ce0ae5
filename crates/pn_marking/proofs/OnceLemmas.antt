-- The variables of a transition are one list, and what a mode moves is one marking.
use Rattle.std.proofs.Common.{◌≡◌, ◌<◌, ◌⊎◌, inl, inr, ℕ, zero, suc, Bool, List, [], ◌∷◌, length, get_or, refl, sym, ◌∙◌, subst, arith}
use Rattle.std.specs.List.{Contains}
use Rattle.std.specs.List.Sorted.{IsStrictlyIncreasing}
use Rattle.pn_bag.specs.Counts.{IsMultiset, IsSame}
use Rattle.pn_eval.proofs.AssignmentLemmas.{behind, far}
use Rattle.pn_facts.proofs.Contained.{contains_cases, contains_first, contains_next, contains_nil}
use Rattle.pn_net.specs.Orders.{token_cmp}
use Rattle.pn_net.specs.Typed.{AreVariablesAt}
use Rattle.pn_net.specs.declared.flat.Flat.{Flat}
use Rattle.pn_net.specs.declared.token.Token.{Token}
use Rattle.pn_values.specs.declared.value.Value.{Value}
use Rattle.pn_marking.specs.Totals.{IsMoved, arcs_at}
use Rattle.pn_marking.proofs.TotalLemmas.{GivesOnce, moved_once}

-- what comes later is greater
later_more : (x : ℕ) (xs : List ℕ) → IsStrictlyIncreasing (x ∷ xs) → (v : ℕ) → Contains xs v → x < v
later_more x xs up v (k, within, is) = subst (λ n. x < n) (same xs k within ∙ is) (far (x ∷ xs) up 0 k (suc k) (omega arith) (omega (arith, within)))
  where
    same : (ys : List ℕ) (j : ℕ) → j < length ys → get_or ys j 0 ≡ get_or ys j v
    same [] j small = absurd (omega (arith, small))
    same (y ∷ ys) zero small = refl
    same (y ∷ ys) (suc j) small = same ys j (omega (arith, small))

-- lists that rise and have the same items are the same
same_lists : (xs ys : List ℕ) → IsStrictlyIncreasing xs → IsStrictlyIncreasing ys → ((v : ℕ) → Contains xs v → Contains ys v) → ((v : ℕ) → Contains ys v → Contains xs v) → xs ≡ ys
same_lists [] [] up more to from = refl
same_lists [] (y ∷ ys) up more to from = absurd (contains_nil y (from y (contains_first y ys)))
same_lists (x ∷ xs) [] up more to from = absurd (contains_nil x (to x (contains_first x xs)))
same_lists (x ∷ xs) (y ∷ ys) up more to from = λ i. heads i ∷ same_lists xs ys (behind x xs up) (behind y ys more) forth back i
  where
    one : (y ≡ x) ⊎ Contains ys x → (x ≡ y) ⊎ Contains xs y → x ≡ y
    one (inl same) other = sym same
    one (inr there) (inl same) = same
    one (inr there) (inr also) = absurd (omega (arith, later_more y ys more x there, later_more x xs up y also))

    heads : x ≡ y
    heads = one (contains_cases y ys x (to x (contains_first x xs))) (contains_cases x xs y (from y (contains_first y ys)))

    forth : (v : ℕ) → Contains xs v → Contains ys v
    forth v has = by (contains_cases y ys v (to v (contains_next x xs v has)))
      where
        by : (y ≡ v) ⊎ Contains ys v → Contains ys v
        by (inl same) = absurd (omega (arith, later_more x xs up v has, heads, same))
        by (inr there) = there

    back : (v : ℕ) → Contains ys v → Contains xs v
    back v has = by (contains_cases x xs v (from v (contains_next y ys v has)))
      where
        by : (x ≡ v) ⊎ Contains xs v → Contains xs v
        by (inl same) = absurd (omega (arith, later_more y ys more v has, heads, same))
        by (inr there) = there

pub variables_once : (f : Flat) (t : ℕ) (xs ys : List ℕ) → AreVariablesAt f t xs → AreVariablesAt f t ys → xs ≡ ys
variables_once f t xs ys is also = same_lists xs ys is.ascending also.ascending (λ v has. (also.each v).1 ((is.each v).0 has)) (λ v has. (is.each v).1 ((also.each v).0 has))

pub one_marking : ((xs ys : List (Token × ℕ)) → IsMultiset token_cmp xs → IsMultiset token_cmp ys → IsSame token_cmp xs ys → xs ≡ ys) → (f : Flat) (t : ℕ) (into : Bool) (given : List Value) (vars others : List ℕ) → GivesOnce f.declarations vars given
    → AreVariablesAt f t vars → AreVariablesAt f t others → (a b : List (Token × ℕ)) → IsMoved f t into vars given a → IsMoved f t into others given b → a ≡ b
one_marking entries f t into given vars others once is also a b moved there =
    moved_once f vars given entries once (arcs_at f t into) a b moved (subst (λ vs. IsMoved f t into vs given b) (variables_once f t others vars also is) there)
