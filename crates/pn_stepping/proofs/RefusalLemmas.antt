-- Tokens and modes of faults are of the net, so that they have texts; and these are told.
use Rattle.std.proofs.Common.{◌≡◌, ℕ, zero, suc, ◌*◌, ◌<◌, List, [], ◌∷◌, Some, refl, sym, ap, ◌∙◌, subst, arith}
use Rattle.std.specs.List.{AllZip, slice_get}
use Rattle.std.specs.Ordering.{match_ordering}
use Rattle.std.specs.declared.cmp.Ordering.{Ordering}
use Rattle.std.specs.declared.cmp.Ordering.TheVariants.{Equal, Greater, Less}
use Rattle.pn_bag.specs.Counts.{count_in, count_of}
use Rattle.pn_checks.specs.Initial.{IsInitial}
use Rattle.pn_marking.specs.Steps.{AreModes, sum_of}
use Rattle.pn_marking.specs.Modes.{IsMode}
use Rattle.pn_marking.specs.Totals.{AreTokensOf, IsTokenOf}
use Rattle.pn_net.proofs.OrderLemmas.{same_tokens}
use Rattle.pn_net.specs.Orders.{token_cmp}
use Rattle.pn_net.specs.declared.flat.Flat.{Flat}
use Rattle.pn_net.specs.declared.mode.Mode.{Mode}
use Rattle.pn_net.specs.declared.token.Token.{Token}
use Rattle.pn_stepping.specs.Refusing.{IsTellable}
use Rattle.pn_stepping.specs.Stepping.{IsUnfired}
use Rattle.pn_stepping.specs.declared.stepping.StepFault.{StepFault}
use Rattle.pn_stepping.specs.declared.stepping.StepFault.TheVariants as faults

module _ (f : Flat) where
  -- a token with a count is one of the net
  counted_token : (m : List (Token × ℕ)) (k : Token) → AreTokensOf f m → 0 < count_of token_cmp m k → IsTokenOf f k
  counted_token [] k all positive = absurd (omega (arith, positive))
  counted_token (e ∷ rest) k all positive = by (token_cmp k e.0) refl (counted_token rest k all.1)
    where
      behind : (o : Ordering) → token_cmp k e.0 ≡ o → match_ordering o 0 e.1 0 ≡ 0 → 0 < count_of token_cmp rest k
      behind o same none = let zero_here : count_in token_cmp e k ≡ 0 = ap (λ p. match_ordering p 0 e.1 0) same ∙ none in omega (arith, positive, zero_here)

      by : (o : Ordering) → token_cmp k e.0 ≡ o → (0 < count_of token_cmp rest k → IsTokenOf f k) → IsTokenOf f k
      by Equal tied later = subst (IsTokenOf f) (sym ((same_tokens k e.0).0 tied)) all.0
      by Less low later = later (behind Less low refl)
      by Greater high later = later (behind Greater high refl)

  -- and so is one that modes move
  moved_token : (R : Mode × ℕ → List (Token × ℕ) → Type 0) → ((e : Mode × ℕ) (m : List (Token × ℕ)) → R e m → AreTokensOf f m) → (x : List (Mode × ℕ)) (moves : List (List (Token × ℕ))) (k : Token) → AllZip R x moves
      → 0 < sum_of x moves k → IsTokenOf f k
  moved_token R tokens [] moves k are some = absurd (omega (arith, some))
  moved_token R tokens (e ∷ x) [] k are some = absurd (omega (arith, some))
  moved_token R tokens (e ∷ x) (m ∷ moves) k are some = by (count_of token_cmp m k) refl (moved_token R tokens x moves k are.1)
    where
      by : (n : ℕ) → count_of token_cmp m k ≡ n → (0 < sum_of x moves k → IsTokenOf f k) → IsTokenOf f k
      by zero none later = later (omega (arith, some, ap (λ n. e.1 * n) none))
      by (suc n) is later = counted_token m k (tokens e m are.0) (omega (arith, is))

  -- the mode at a place among modes is one
  pub mode_there : (entries : List (Mode × ℕ)) (place : ℕ) (e : Mode × ℕ) → AreModes f entries → slice_get entries place ≡ Some e → IsMode f e.0
  mode_there [] place e modes at = absurd cc
  mode_there (x ∷ entries) zero e modes at = let same : x ≡ e = cc in subst (λ (y : Mode × ℕ). IsMode f y.0) same modes.0
  mode_there (x ∷ entries) (suc place) e modes at = mode_there entries place e modes.1 at

  -- the token or mode of a fault is of the net
  pub tellable : ((m : List (Token × ℕ)) → IsInitial f m → AreTokensOf f m) → (words : List (List ℕ)) (fault : StepFault) → IsUnfired f words fault → IsTellable f fault
  tellable tokens words (faults.Memory e) is = tt
  tellable tokens words (faults.BadMode place length) is = tt
  tellable tokens words (faults.NotAMode place) is = tt
  tellable tokens words (faults.ModeTooLarge mode) (entries, told, modes, over) = let is = mode_there entries over.place (mode, over.count) modes over.at in (is.0, is.1.assigned)
  tellable tokens words (faults.NotEnabled token need has) (x, initial, started, (takes, short)) =
      moved_token (λ e m. _) (λ e m pre. pre.2.tokens) x takes token short.takes_are (omega (arith, short.fewer))
  tellable tokens words (faults.TokenTooLarge token) (x, initial, started, (takes, puts, large)) = by (count_of token_cmp initial token) refl
    where
      by : (n : ℕ) → count_of token_cmp initial token ≡ n → IsTokenOf f token
      by zero none = moved_token (λ e m. _) (λ e m post. post.2.tokens) x puts token large.puts_are (omega (arith, none, large.passes))
      by (suc n) is = counted_token initial token (tokens initial started.is_initial) (omega (arith, is))
