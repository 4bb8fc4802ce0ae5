-- Values in brackets, and marks behind them.
use Rattle.std.proofs.Common.{◌≡◌, ℕ, ◌<◌, List, ◌++◌, Bor, length, IfOk, refl, sym, ap, ◌∙◌, subst}
use Rattle.std.specs.declared.result.Result.{Result}
use Rattle.std.specs.declared.result.Result.TheVariants.{Ok, Err}
use Rattle.pn_values.specs.declared.value.Value.{Value}
use Rattle.pn_words.proofs.MarkLemmas.{mark_breaks, text_breaks, text_then_mark}
use Rattle.pn_words.proofs.PieceLemmas.{closed_renamed}
use Rattle.pn_words.proofs.ThenLemmas.{first_broken}
use Rattle.pn_words.proofs.WayLemmas.{onward, renamed, then_continues}
use Rattle.pn_words.specs.Languages.{Broken, Closed, Continues, IsRead, Mark, Only, Then}
use Rattle.pn_mode_text.specs.Readings.{ReadsOr}
use Rattle.pn_mode_text.specs.ValueReadings.{IsBracketed, IsOpened}
use Rattle.pn_mode_text.specs.declared.reading.ReadFault.{ReadFault}
use Rattle.pn_mode_text.specs.declared.reading.ReadFault.TheVariants as faults

bracketed : (open_bracket : List ℕ) (R : List Value → List ℕ → Type 0) (b : List ℕ) → Continues (IsBracketed open_bracket R) b (Then (Only open_bracket) (λ u. R)) b (λ q. q.1)
bracketed open_bracket R b = renamed (IsBracketed open_bracket R) (Then (Only open_bracket) (λ u. R)) (λ q. q.1) b
    (λ q w h. (h.1, h.4 ∙ ap (λ l. l ++ h.1) h.2, h.3)) (λ vs w h. ((tt, vs), refl, (open_bracket, h.0, refl, h.2, h.1)))

-- behind the bracket the parts go on
pub behind_bracket : (open_bracket : List ℕ) (R : List Value → List ℕ → Type 0) (b c : List ℕ) → (vs : List Value) × (w : List ℕ) × R vs w → IsRead (Only open_bracket) b tt c
    → Continues (IsBracketed open_bracket R) b R c (λ vs. vs)
behind_bracket open_bracket R b c some f =
    onward (IsBracketed open_bracket R) b (Then (Only open_bracket) (λ u. R)) b (λ q. q.1) R c (λ vs. (tt, vs)) (bracketed open_bracket R b)
    (then_continues (Only open_bracket) (λ u. R) b tt c (λ u. some) f)

pub bracket_breaks : (open_bracket : List ℕ) (R : List Value → List ℕ → Type 0) (b : List ℕ) (left : ℕ) → (vs : List Value) × (w : List ℕ) × R vs w → Broken (Only open_bracket) b left
    → Broken (IsBracketed open_bracket R) b left
bracket_breaks open_bracket R b left some f = (bracketed open_bracket R b).broken left (first_broken (Only open_bracket) (λ u. R) b left (λ u. some) f)

made_of : (open_bracket : List ℕ) (made : List Value → Value) (R : List Value → List ℕ → Type 0) (marks b : List ℕ)
    → Continues (Closed (IsOpened open_bracket made R) marks) b (Closed (IsBracketed open_bracket R) marks) b (λ p. (made p.0, p.1))
made_of open_bracket made R marks b = closed_renamed (IsOpened open_bracket made R) (IsBracketed open_bracket R) made marks b
    (λ vs t h. (vs, refl, h.0, h.1, h.2)) (λ v t h. (h.0, h.1, (h.2, h.3, h.4)))

-- a mark behind the parts of a value
pub value_closed : (open_bracket : List ℕ) (made : List Value → Value) (R : List Value → List ℕ → Type 0) (marks b : List ℕ) (vs : List Value) (c : List ℕ) (r : Result ((Value × ℕ) × Bor (List ℕ)) ReadFault)
    → 0 < length marks → IsRead (IsBracketed open_bracket R) b vs c → IfOk r (λ x. x.0.0 ≡ made vs) → ReadsOr (Mark marks) c (λ x. x.0.1) (λ x. x.1.now) r
    → ReadsOr (Closed (IsOpened open_bracket made R) marks) b (λ x. x.0) (λ x. x.1.now) r
value_closed open_bracket made R marks b vs c (Ok ((v, m), rest)) some f value h =
    subst (λ (u : Value). IsRead (Closed (IsOpened open_bracket made R) marks) b (u, m) rest.now) (sym value)
    ((made_of open_bracket made R marks b).found (vs, m) rest.now (text_then_mark (IsBracketed open_bracket R) marks b vs c m rest.now f h))
value_closed open_bracket made R marks b vs c (Err (faults.Memory e)) some f value h = tt
value_closed open_bracket made R marks b vs c (Err (faults.Broken left)) some f value h =
    (made_of open_bracket made R marks b).broken left (mark_breaks (IsBracketed open_bracket R) marks b vs c left some f h)

pub value_breaks : (open_bracket : List ℕ) (made : List Value → Value) (R : List Value → List ℕ → Type 0) (marks b : List ℕ) (left : ℕ) → 0 < length marks
    → Broken (IsBracketed open_bracket R) b left → Broken (Closed (IsOpened open_bracket made R) marks) b left
value_breaks open_bracket made R marks b left some f = (made_of open_bracket made R marks b).broken left (text_breaks (IsBracketed open_bracket R) marks b left some f)
