-- The orders of tokens and of modes tell all apart.
use Rattle.std.proofs.Common.{◌≡◌, ◌↔◌, ◌<◌, ◌≤◌, ℕ, List, [], ◌∷◌, refl, sym, ap, ◌∙◌}
use Rattle.std.specs.Cmp.Lexicographic.{slice_cmp}
use Rattle.std.specs.Ordering.{is_eq, nat_cmp, ordering_then}
use Rattle.std.specs.declared.cmp.Ordering.{Ordering}
use Rattle.std.specs.declared.cmp.Ordering.TheVariants.{Less, Equal, Greater}
use Rattle.std.proofs.lemmas.Bool.{false≢true}
use Rattle.std.proofs.lemmas.Cmp.{tied_itself}
use Rattle.std.proofs.lemmas.Map.Lookups.{exact_unsigned}
use Rattle.pn_bag.specs.Bag.{IsBag}
use Rattle.pn_bag.specs.Counts.{Every, IsMultiset}
use Rattle.pn_bag.specs.declared.TheConstants.{MAX_COUNT}
use Rattle.pn_values.specs.Order.{value_cmp}
use Rattle.pn_values.specs.OrderLaws.{values_apart}
use Rattle.pn_values.specs.declared.value.Value.{Value}
use Rattle.pn_net.specs.Orders.{mode_cmp, modes_total, token_cmp, tokens_total}
use Rattle.pn_net.specs.declared.mode.Mode.{Mode}
use Rattle.pn_net.specs.declared.token.Token.{Token}

then_both : (p q : Ordering) → ordering_then p q ≡ Equal → (p ≡ Equal) × (q ≡ Equal)
then_both Less q e = absurd (false≢true (ap is_eq e))
then_both Equal q e = (refl, e)
then_both Greater q e = absurd (false≢true (ap is_eq e))

lists_same : (xs ys : List Value) → slice_cmp value_cmp xs ys ≡ Equal → xs ≡ ys
lists_same [] [] e = refl
lists_same [] (y ∷ ys) e = absurd (false≢true (ap is_eq e))
lists_same (x ∷ xs) [] e = absurd (false≢true (ap is_eq e))
lists_same (x ∷ xs) (y ∷ ys) e = let both = then_both (value_cmp x y) (slice_cmp value_cmp xs ys) e in λ i. values_apart x y both.0 i ∷ lists_same xs ys both.1 i

pub same_tokens : (a b : Token) → (token_cmp a b ≡ Equal) ↔ (a ≡ b)
same_tokens a b = (
  λ e. let both = then_both (nat_cmp a.place b.place) (value_cmp a.value b.value) e in λ i. record { place = exact_unsigned a.place b.place both.0 i; value = values_apart a.value b.value both.1 i },
  λ e. ap (token_cmp a) (sym e) ∙ tied_itself tokens_total a,
)

pub same_modes : (a b : Mode) → (mode_cmp a b ≡ Equal) ↔ (a ≡ b)
same_modes a b = (
  λ e. let both = then_both (nat_cmp a.transition b.transition) (slice_cmp value_cmp a.values b.values) e in λ i. record { transition = exact_unsigned a.transition b.transition both.0 i; values = lists_same a.values b.values both.1 i },
  λ e. ap (mode_cmp a) (sym e) ∙ tied_itself modes_total a,
)

counted : (entries : List (Token × ℕ)) → Every (λ e. (0 < e.1) × (e.1 ≤ MAX_COUNT)) entries → Every (λ e. 0 < e.1) entries
counted [] all = tt
counted (e ∷ entries) all = (all.0.0, counted entries all.1)

-- a marking is a multiset
pub marking_multiset : (m : List (Token × ℕ)) → IsBag token_cmp m → IsMultiset token_cmp m
marking_multiset m is = record { rising = is.rising; positive = counted m is.counted }
