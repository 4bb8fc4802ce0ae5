-- What a multiset of modes takes and puts is one, so a step has one outcome: a marking, a token that is missing, or a count that is too large.
use Rattle.std.proofs.Common.{◌≡◌, ℕ, ◌+◌, ◌<◌, ◌≤◌, List, [], ◌∷◌, refl, sym, ap, ◌∙◌, arith}
use Rattle.std.specs.List.{AllZip}
use Rattle.std.specs.declared.cmp.Ordering.{Ordering}
use Rattle.std.specs.declared.cmp.Ordering.TheVariants.{Less, Equal, Greater}
use Rattle.pn_bag.specs.Bag.{IsBag}
use Rattle.pn_bag.specs.Counts.{count_of}
use Rattle.pn_bag.specs.declared.TheConstants.{MAX_COUNT}
use Rattle.pn_bag.proofs.Canonical.{same_entries}
use Rattle.pn_bag.proofs.Counting.{less_from_more}
use Rattle.pn_bag.proofs.Everywhere.{every_weaker}
use Rattle.pn_bag.proofs.Walking.{count_bound}
use Rattle.pn_net.proofs.OrderLemmas.{same_tokens}
use Rattle.pn_net.specs.Orders.{token_cmp, tokens_total}
use Rattle.pn_net.specs.declared.flat.Flat.{Flat}
use Rattle.pn_net.specs.declared.mode.Mode.{Mode}
use Rattle.pn_net.specs.declared.token.Token.{Token}
use Rattle.pn_marking.specs.Firing.{IsLeastLarge, IsLeastShort}
use Rattle.pn_marking.specs.Flows.{capped}
use Rattle.pn_marking.specs.Modes.{IsPost, IsPre}
use Rattle.pn_marking.specs.Steps.{IsEnabled, IsStep, sum_of}

zip_one : (R : Mode × ℕ → List (Token × ℕ) → Type 0) → ((e : Mode × ℕ) (a b : List (Token × ℕ)) → R e a → R e b → a ≡ b) → (xs : List (Mode × ℕ)) (us vs : List (List (Token × ℕ))) → AllZip R xs us → AllZip R xs vs → us ≡ vs
zip_one R one [] [] [] left right = refl
zip_one R one [] [] (v ∷ vs) left right = absurd right
zip_one R one [] (u ∷ us) vs left right = absurd left
zip_one R one (x ∷ xs) [] vs left right = absurd left
zip_one R one (x ∷ xs) (u ∷ us) [] left right = absurd right
zip_one R one (x ∷ xs) (u ∷ us) (v ∷ vs) left right =
    ap (λ w. w ∷ us) (one x u v left.0 right.0) ∙ ap (λ ws. v ∷ ws) (zip_one R one xs us vs left.1 right.1)

-- the least token with P is one
least_one : (P : Token → Type 0) (a b : Token) → P a → P b → ((k : Token) → token_cmp k a ≡ Less → P k → ⊥) → ((k : Token) → token_cmp k b ≡ Less → P k → ⊥) → a ≡ b
least_one P a b is_a is_b before_a before_b = step (token_cmp a b) refl
  where
    step : (o : Ordering) → token_cmp a b ≡ o → a ≡ b
    step Less as_o = absurd (before_b a as_o is_a)
    step Equal as_o = (same_tokens a b).0 as_o
    step Greater as_o = absurd (before_a b (less_from_more tokens_total a b as_o) is_b)

module _ (f : Flat) (m : List (Token × ℕ)) (x : List (Mode × ℕ)) where
  pub short_excludes : (token : Token) (need has : ℕ) → ((mode : Mode) (p q : List (Token × ℕ)) → IsPre f mode p → IsPre f mode q → p ≡ q) → IsLeastShort f m x token need has → IsEnabled f m x → ⊥
  short_excludes token need has takes_one short enabled =
      let same = zip_one (λ entry p. IsPre f entry.0 p) (λ e. takes_one e.0) x short.0 enabled.0 short.1.takes_are enabled.1.takes_are in
      omega (arith, short.1.fewer, enabled.1.enough token, ap (λ ps. sum_of x ps token) same)

  pub one_short : (token other : Token) (need more has had : ℕ) → ((mode : Mode) (p q : List (Token × ℕ)) → IsPre f mode p → IsPre f mode q → p ≡ q) → IsLeastShort f m x token need has → IsLeastShort f m x other more had
      → (token ≡ other) × (need ≡ more) × (has ≡ had)
  one_short token other need more has had takes_one one two =
      let same = zip_one (λ entry p. IsPre f entry.0 p) (λ e. takes_one e.0) x one.0 two.0 one.1.takes_are two.1.takes_are in
      let sums : (k : Token) → sum_of x one.0 k ≡ sum_of x two.0 k = λ k. ap (λ ps. sum_of x ps k) same in
      let tokens : token ≡ other =
      least_one (λ k. count_of token_cmp m k < sum_of x one.0 k) token other one.1.fewer (omega (arith, two.1.fewer, sums other))
      (λ k less fewer. omega (arith, one.1.least k less, fewer)) (λ k less fewer. omega (arith, two.1.least k less, sums k, fewer)) in
      (tokens, one.1.need_is ∙ ap capped (sums token) ∙ ap (λ k. capped (sum_of x two.0 k)) tokens ∙ sym two.1.need_is, one.1.has_is ∙ ap (count_of token_cmp m) tokens ∙ sym two.1.has_is)

  module _ (takes_one : (mode : Mode) (p q : List (Token × ℕ)) → IsPre f mode p → IsPre f mode q → p ≡ q) (puts_one : (mode : Mode) (p q : List (Token × ℕ)) → IsPost f mode p → IsPost f mode q → p ≡ q) where
    pub one_step : (a b : List (Token × ℕ)) → IsBag token_cmp a → IsBag token_cmp b → IsStep f m x a → IsStep f m x b → a ≡ b
    one_step a b bag_a bag_b one two =
        let takes = zip_one (λ entry p. IsPre f entry.0 p) (λ e. takes_one e.0) x one.0 two.0 one.2.enabled.takes_are two.2.enabled.takes_are in
        let puts = zip_one (λ entry p. IsPost f entry.0 p) (λ e. puts_one e.0) x one.1 two.1 one.2.puts_are two.2.puts_are in
        same_entries tokens_total (λ k l. (same_tokens k l).0) a b
        (record { rising = bag_a.rising; positive = every_weaker (λ e. (0 < e.1) × (e.1 ≤ MAX_COUNT)) (λ e. 0 < e.1) (λ e both. both.0) a bag_a.counted })
        (record { rising = bag_b.rising; positive = every_weaker (λ e. (0 < e.1) × (e.1 ≤ MAX_COUNT)) (λ e. 0 < e.1) (λ e both. both.0) b bag_b.counted })
        (λ k. omega (arith, one.2.leads k, two.2.leads k, ap (λ ps. sum_of x ps k) takes, ap (λ ps. sum_of x ps k) puts))

    pub large_excludes : (token : Token) (new : List (Token × ℕ)) → IsBag token_cmp new → IsLeastLarge f m x token → IsStep f m x new → ⊥
    large_excludes token new bag large step =
        let takes = zip_one (λ entry p. IsPre f entry.0 p) (λ e. takes_one e.0) x large.0 step.0 large.2.enabled.takes_are step.2.enabled.takes_are in
        let puts = zip_one (λ entry p. IsPost f entry.0 p) (λ e. puts_one e.0) x large.1 step.1 large.2.puts_are step.2.puts_are in
        omega (arith, large.2.passes, step.2.leads token, count_bound tokens_total MAX_COUNT new bag.rising bag.counted token, ap (λ ps. sum_of x ps token) takes, ap (λ ps. sum_of x ps token) puts)

    pub one_large : (token other : Token) → IsLeastLarge f m x token → IsLeastLarge f m x other → token ≡ other
    one_large token other one two =
        let takes = zip_one (λ entry p. IsPre f entry.0 p) (λ e. takes_one e.0) x one.0 two.0 one.2.enabled.takes_are two.2.enabled.takes_are in
        let puts = zip_one (λ entry p. IsPost f entry.0 p) (λ e. puts_one e.0) x one.1 two.1 one.2.puts_are two.2.puts_are in
        least_one (λ k. MAX_COUNT + sum_of x one.0 k < count_of token_cmp m k + sum_of x one.1 k) token other one.2.passes
        (omega (arith, two.2.passes, ap (λ ps. sum_of x ps other) takes, ap (λ ps. sum_of x ps other) puts))
        (λ k less passes. omega (arith, one.2.least k less, passes)) (λ k less passes. omega (arith, two.2.least k less, passes, ap (λ ps. sum_of x ps k) takes, ap (λ ps. sum_of x ps k) puts))
