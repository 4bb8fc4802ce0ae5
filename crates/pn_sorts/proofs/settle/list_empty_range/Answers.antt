use Rattle.std.proofs.Common.{Contains, true≢false, subst, sym, ◌∙◌}
use Rattle.std.proofs.lemmas.List.{take_all}
use Rattle.pn_sorts.specs.Settling.{ListEmptyRange}
use Rattle.pn_sorts.proofs.SettleLemmas.{list_more}
use Rattle.pn_sorts.proofs.settle.list_empty_range.Goals as goal

pub loop-element-preserved : goal.loop-element-preserved
loop-element-preserved c =
    list_more c.args.elements.now c.loop-element.element-index c.element-item.result c.loop-element-test.true c.element-item.is c.loop-element.invariant
    (λ found. true≢false (sym (c.have_empty_range.ensures.1 (found.0, subst (λ l. Contains l found.0) (sym c.as_slice.ensures) found.1, found.2)) ∙ c.if-have_empty_range.false))

pub returns : goal.returns
returns c = (λ no. absurd (true≢false (sym no)), λ found. absurd (c.loop-element.invariant (subst ListEmptyRange (sym (take_all c.loop-element.element-index c.args.elements.now c.loop-element-test.false)) found)))
