use Rattle.std.proofs.Common.{◌≡◌, ◌++◌, ◌+◌, List, length, drop, refl, sym, ap, ◌∙◌, subst, arith}
use Rattle.std.specs.List.{Contains}
use Rattle.std.proofs.lemmas.Bool.{false≢true}
use Rattle.std.proofs.lemmas.List.{drop_all}
use Rattle.pn_lines.specs.Escapes.{escape}
use Rattle.pn_lines.proofs.TextLemmas.{some_is_escaped}
use Rattle.pn_words.proofs.SameLemmas.{rest_whole}
use Rattle.pn_mode_text.proofs.UnescapedLemmas.{IsUnescaped, head_at, none_first, none_unescapes, goes_on}
use Rattle.pn_mode_text.proofs.escapes.unescape.Goals as goal

pub returns-in_default-clause-none : goal.returns-in_default-clause-none
returns-in_default-clause-none c = λ none.
    let b = c.args.bytes.now in
    let at = c.loop-at.at in
    none_unescapes c.args.marks.now c.loop-at.id.items b at c.requires.stops c.loop-at.invariant
    (λ m r e k. false≢true (sym c.if-is_mark.false ∙ c.is_mark.ensures.1 (subst (Contains c.args.marks.now) (sym (head_at b at m r e)) k)))
    (λ x r e. c.in_default.ensures.none refl x r (rest_whole at b ∙ e))

pub loop-at-preserved : goal.loop-at-preserved
loop-at-preserved c =
    let b = c.args.bytes.now in
    let at = c.loop-at.at in
    let front = subst (λ (l : List _). l ≡ escape c.in-Some.byte ++ drop c.in-Some.length l) (rest_whole at b) c.in-Some.ensures.front in
    subst (λ l. IsUnescaped l b (at + c.in-Some.length)) (sym c.in_ok-push.ensures.items)
    (goes_on c.loop-at.id.items b at c.in-Some.byte c.in-Some.length c.loop-at.invariant
    (omega (arith, c.in-Some.ensures.within.1, ap length (rest_whole at b))) front)

pub returns-clause-none : goal.returns-clause-none
returns-clause-none c = λ none.
    let b = c.args.bytes.now in
    let at = c.loop-at.at in
    let all = drop_all at b (omega (arith, c.loop-at-test.false)) in
    none_unescapes c.args.marks.now c.loop-at.id.items b at c.requires.stops c.loop-at.invariant
    (λ m r e k. absurd (none_first m r (sym all ∙ e)))
    (λ x r e. some_is_escaped x r (sym all ∙ e))
