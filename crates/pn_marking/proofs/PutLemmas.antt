-- How the values of a multiset come to a place of an empty marking, one after another.
use Rattle.std.proofs.Common.{◌≡◌, ◌≤◌, ◌<◌, ◌+◌, ℕ, List, ◌∷◌, Bool, true, false, cond, refl, sym, ap, ◌∙◌, arith, ◌==◌}
use Rattle.std.specs.Ordering.{match_ordering, nat_cmp, ordering_then}
use Rattle.std.specs.declared.cmp.Ordering.{Ordering}
use Rattle.std.specs.declared.cmp.Ordering.TheVariants.{Less, Equal, Greater}
use Rattle.std.proofs.lemmas.Bool.Decides.{nat_tests}
use Rattle.std.proofs.lemmas.Cmp.{tied_itself}
use Rattle.pn_bag.specs.Bag.{IsBag}
use Rattle.pn_bag.specs.Counts.{count_in, count_of}
use Rattle.pn_bag.specs.declared.TheConstants.{MAX_COUNT}
use Rattle.pn_net.specs.Orders.{token_cmp}
use Rattle.pn_net.specs.declared.token.Token.{Token}
use Rattle.pn_operations.proofs.CountLemmas.{bag_bound}
use Rattle.pn_values.specs.Order.{value_cmp}
use Rattle.pn_values.specs.OrderLaws.{values_total}
use Rattle.pn_values.specs.declared.value.Value.{Value}
use Rattle.pn_marking.specs.Totals.{count_at}

-- a value on the place of this number
abbrev pub token_on : ℕ → Value → Token
token_on i v = record { place = i; value = v }

-- a token counts for those of its own place alone
token_count : (i n : ℕ) (v : Value) (k : Token) → count_in token_cmp (token_on i v, n) k ≡ cond (i == k.place) (count_in value_cmp (v, n) k.value) 0
token_count i n v k = by (nat_cmp k.place i) (i == k.place) refl refl
  where
    by : (o : Ordering) (b : Bool) → nat_cmp k.place i ≡ o → (i == k.place) ≡ b → match_ordering (ordering_then o (value_cmp k.value v)) 0 n 0 ≡ cond b (count_in value_cmp (v, n) k.value) 0
    by Less false is same = refl
    by Less true is same = let less : k.place < i = grind (arith, nat_tests) in let equal : i ≡ k.place = grind (arith, nat_tests) in absurd (omega (arith, less, equal))
    by Equal true is same = refl
    by Equal false is same = let equal : k.place ≡ i = grind (arith, nat_tests) in absurd (grind (arith, nat_tests))
    by Greater false is same = refl
    by Greater true is same = let more : i < k.place = grind (arith, nat_tests) in let equal : i ≡ k.place = grind (arith, nat_tests) in absurd (omega (arith, more, equal))

same_number : (i : ℕ) → (i == i) ≡ true
same_number i = grind (arith, nat_tests)

pub count_here : (i : ℕ) (bag : List (Value × ℕ)) (v : Value) → count_at i bag (token_on i v) ≡ count_of value_cmp bag v
count_here i bag v = ap (λ b. cond b (count_of value_cmp bag v) 0) (same_number i)

-- the tokens of a place, but for the rest of them
abbrev pub StillPuts : ℕ → List (Value × ℕ) → List (Value × ℕ) → List (Token × ℕ) → Type 0
StillPuts i bag rest m = (k : Token) → count_of token_cmp m k + count_at i rest k ≡ count_at i bag k

module _ (i : ℕ) (bag : List (Value × ℕ)) (v : Value) (n : ℕ) (rest : List (Value × ℕ)) (old : List (Token × ℕ)) (still : StillPuts i bag ((v, n) ∷ rest) old) where
  own : count_in value_cmp (v, n) v ≡ n
  own = let same : value_cmp v v ≡ Equal = tied_itself values_total v in ap (λ o. match_ordering o 0 n 0) same

  pub next_room : IsBag value_cmp bag → count_of token_cmp old (token_on i v) + n ≤ MAX_COUNT
  next_room is =
      let now : count_of token_cmp old (token_on i v) + (count_in value_cmp (v, n) v + count_of value_cmp rest v) ≡ count_of value_cmp bag v =
      ap (λ m. count_of token_cmp old (token_on i v) + m) (sym (count_here i ((v, n) ∷ rest) v)) ∙ still (token_on i v) ∙ count_here i bag v in
      omega (arith, now, own, bag_bound bag is v)

  pub next_put : (new : List (Token × ℕ)) → ((k : Token) → count_of token_cmp new k ≡ count_of token_cmp old k + count_in token_cmp (token_on i v, n) k) → StillPuts i bag rest new
  next_put new added k = by (i == k.place) (still k) (added k ∙ ap (λ m. count_of token_cmp old k + m) (token_count i n v k))
    where
      by : (b : Bool) → count_of token_cmp old k + cond b (count_in value_cmp (v, n) k.value + count_of value_cmp rest k.value) 0 ≡ count_at i bag k
          → count_of token_cmp new k ≡ count_of token_cmp old k + cond b (count_in value_cmp (v, n) k.value) 0 → count_of token_cmp new k + cond b (count_of value_cmp rest k.value) 0 ≡ count_at i bag k
      by true is more = omega (arith, is, more)
      by false is more = omega (arith, is, more)
