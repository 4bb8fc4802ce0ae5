-- Fixed texts in pieces, and closed texts by other values.
use Rattle.std.proofs.Common.{◌≡◌, ℕ, ◌<◌, List, [], ◌∷◌, ◌++◌, length, refl, ◌∙◌, arith}
use Rattle.pn_facts.proofs.Contained.{contains_first}
use Rattle.pn_words.specs.Languages.{IsRead, Broken, Continues, Then, Only, Closed}
use Rattle.pn_words.proofs.ThenLemmas.{first_broken}
use Rattle.pn_words.proofs.WayLemmas.{onward, renamed, then_continues}

pieces : (a t b : List ℕ) → Continues (Only (a ++ t)) b (Then (Only a) (λ u. Only t)) b (λ p. tt)
pieces a t b = renamed (Only (a ++ t)) (Then (Only a) (λ u. Only t)) (λ p. tt) b (λ p w h. h.4 ∙ (λ i. h.2 i ++ h.3 i)) (λ v w e. ((tt, tt), refl, (a, t, refl, refl, e)))

-- behind the front of a text the rest of it is read
pub piece_continues : (a t b c : List ℕ) → IsRead (Only a) b tt c → Continues (Only (a ++ t)) b (Only t) c (λ u. tt)
piece_continues a t b c f =
    onward (Only (a ++ t)) b (Then (Only a) (λ u. Only t)) b (λ p. tt) (Only t) c (λ u. (tt, u)) (pieces a t b) (then_continues (Only a) (λ u. Only t) b tt c (λ u. (tt, t, refl)) f)

-- a break in the front of a text
pub piece_breaks : (a t b : List ℕ) (left : ℕ) → Broken (Only a) b left → Broken (Only (a ++ t)) b left
piece_breaks a t b left f = (pieces a t b).broken left (first_broken (Only a) (λ u. Only t) b left (λ u. (tt, t, refl)) f)

-- closed texts of the same language, but for the names of its values
pub closed_renamed : {V W : Type 0} (L : V → List ℕ → Type 0) (M : W → List ℕ → Type 0) (f : W → V) (marks b : List ℕ)
    → ((u : W) (w : List ℕ) → M u w → L (f u) w) → ((v : V) (w : List ℕ) → L v w → (u : W) × (v ≡ f u) × M u w) → Continues (Closed L marks) b (Closed M marks) b (λ p. (f p.0, p.1))
closed_renamed {V} {W} L M f marks b to from =
    renamed (Closed L marks) (Closed M marks) (λ p. (f p.0, p.1)) b (λ p w h. (h.0, to p.0 h.0 h.1, h.2, h.3)) (λ p w h. back p w h (from p.0 h.0 h.1))
  where
    back : (p : V × ℕ) (w : List ℕ) (h : Closed L marks p w) → ((u : W) × (p.0 ≡ f u) × M u h.0) → (q : W × ℕ) × (p ≡ (f q.0, q.1)) × Closed M marks q w
    back p w h m = ((m.0, p.1), (λ i. (m.1 i, p.1)), (h.0, m.2, h.2, h.3))

-- where there are words and marks, there are closed texts
pub closed_some : {V : Type 0} (L : V → List ℕ → Type 0) (marks : List ℕ) → 0 < length marks → (v : V) (t : List ℕ) → L v t → (p : V × ℕ) × (w : List ℕ) × Closed L marks p w
closed_some L [] some v t h = absurd (omega (arith, some))
closed_some L (c ∷ marks) some v t h = ((v, c), t ++ c ∷ [], (t, h, contains_first c marks, refl))
