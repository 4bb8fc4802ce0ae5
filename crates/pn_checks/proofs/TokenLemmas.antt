-- How the values of a multiset come to a place, one after another.
use Rattle.std.proofs.Common.{◌≡◌, ◌≤◌, ◌<◌, ◌+◌, ℕ, zero, List, [], ◌∷◌, take, Option, None, Some, refl, sym, ap, ◌∙◌, subst, arith}
use Rattle.std.specs.List.{slice_get}
use Rattle.std.specs.Ordering.{match_ordering}
use Rattle.std.specs.declared.cmp.Ordering.TheVariants.{Equal}
use Rattle.std.proofs.lemmas.Cmp.{tied_itself}
use Rattle.pn_bag.specs.Bag.{IsBag}
use Rattle.pn_bag.specs.Counts.{count_in, count_of}
use Rattle.pn_bag.specs.declared.TheConstants.{MAX_COUNT}
use Rattle.pn_checks.specs.Initial.{AreMarked, IsFirstOf, token}
use Rattle.pn_checks.specs.Tokens.{Gets, IsEmptyAt, KeepsOthers, StillGets}
use Rattle.pn_checks.proofs.MarkLemmas.{next_marked, other_place, same_place}
use Rattle.pn_net.specs.Orders.{token_cmp}
use Rattle.pn_net.specs.declared.token.Token.{Token}
use Rattle.pn_objects.specs.declared.object.Place.{Place}
use Rattle.pn_operations.proofs.CountLemmas.{bag_bound}
use Rattle.pn_syntax.specs.declared.term.Term.{Term}
use Rattle.pn_values.specs.Order.{value_cmp}
use Rattle.pn_values.specs.OrderLaws.{values_total}
use Rattle.pn_values.specs.declared.value.Value.{Value}

-- a token of a place is one of its values
abbrev pub IsAdded : List (Token × ℕ) → List (Token × ℕ) → Token → ℕ → Type 0
IsAdded old new t n = (other : Token) → count_of token_cmp new other ≡ count_of token_cmp old other + count_in token_cmp (t, n) other

module _ (i : ℕ) (old new : List (Token × ℕ)) (v : Value) (n : ℕ) (added : IsAdded old new (token i v) n) where
  pub added_gets : Gets i ((v, n) ∷ []) old new
  added_gets w =
      let here : count_of token_cmp new (token i w) ≡ count_of token_cmp old (token i w) + count_in token_cmp (token i v, n) (token i w) = added (token i w) in
      let same : count_in token_cmp (token i v, n) (token i w) ≡ count_in value_cmp (v, n) w = same_place i n w v in
      omega (arith, here, same)

  pub added_others : KeepsOthers i old new
  added_others j w differ =
      let here : count_of token_cmp new (token j w) ≡ count_of token_cmp old (token j w) + count_in token_cmp (token i v, n) (token j w) = added (token j w) in
      let none : count_in token_cmp (token i v, n) (token j w) ≡ 0 = other_place j i n w v differ in
      omega (arith, here, none)

-- of the next entry so many fit
module _ (i : ℕ) (bag : List (Value × ℕ)) (v : Value) (n : ℕ) (rest : List (Value × ℕ)) (old mid : List (Token × ℕ)) (still : StillGets i bag ((v, n) ∷ rest) old mid) where
  own : count_in value_cmp (v, n) v ≡ n
  own = let same : value_cmp v v ≡ Equal = tied_itself values_total v in ap (λ o. match_ordering o 0 n 0) same

  pub next_fits : IsBag value_cmp bag → IsEmptyAt i old → count_of token_cmp mid (token i v) + n ≤ MAX_COUNT
  next_fits is empty =
      let now : count_of token_cmp mid (token i v) + (count_in value_cmp (v, n) v + count_of value_cmp rest v) ≡ count_of token_cmp old (token i v) + count_of value_cmp bag v = still v in
      let few : count_of value_cmp bag v ≤ MAX_COUNT = bag_bound bag is v in
      omega (arith, now, few, empty v, own)

  pub next_gets : (new : List (Token × ℕ)) → IsAdded mid new (token i v) n → StillGets i bag rest old new
  next_gets new added w =
      let now : count_of token_cmp mid (token i w) + (count_in value_cmp (v, n) w + count_of value_cmp rest w) ≡ count_of token_cmp old (token i w) + count_of value_cmp bag w = still w in
      let here : count_of token_cmp new (token i w) ≡ count_of token_cmp mid (token i w) + (count_in value_cmp (v, n) w + 0) = added_gets i mid new v n added w in
      omega (arith, now, here)
