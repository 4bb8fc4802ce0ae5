use Rattle.std.proofs.Common.{◌≡◌, length, sym, subst, ◌∙◌, arith}
use Rattle.std.specs.declared.cmp.Ordering.TheVariants.{Less, Equal, Greater}
use Rattle.pn_net.specs.Orders.{token_cmp}
use Rattle.std.proofs.lemmas.Bool.{eqb-false}
use Rattle.pn_marking.proofs.FlowLemmas.{lasts_less, lasts_more, lasts_one}
use Rattle.pn_marking.proofs.flows.compare_lasts.Goals as goal

pub returns-clause-less : goal.returns-clause-less
returns-clause-less c = λ less. lasts_less c.args.left.now c.args.right.now _ _ c.index-left-left.result c.index-right-right.result (omega (arith, eqb-false (length c.args.left.now) 0 (sym c.is_empty.ensures ∙ c.if-is_empty.false))) (omega (arith, eqb-false (length c.args.right.now) 0 (sym c.is_empty-2.ensures ∙ c.if-is_empty-2.false))) c.index-left-left.is c.index-right-right.is c.requires.left (subst (λ z. token_cmp c.index-left-left.result.token z.token ≡ Less) (sym c.index-right-right.is) (sym c.cmp.ensures ∙ less))

pub returns-clause-greater : goal.returns-clause-greater
returns-clause-greater c = λ more. lasts_more c.args.left.now c.args.right.now _ _ c.index-left-left.result c.index-right-right.result (omega (arith, eqb-false (length c.args.left.now) 0 (sym c.is_empty.ensures ∙ c.if-is_empty.false))) (omega (arith, eqb-false (length c.args.right.now) 0 (sym c.is_empty-2.ensures ∙ c.if-is_empty-2.false))) c.index-left-left.is c.index-right-right.is c.requires.right (subst (λ z. token_cmp c.index-left-left.result.token z.token ≡ Greater) (sym c.index-right-right.is) (sym c.cmp.ensures ∙ more))

pub returns-clause-equal : goal.returns-clause-equal
returns-clause-equal c = λ equal. lasts_one c.args.left.now c.args.right.now _ _ c.index-left-left.result c.index-right-right.result (omega (arith, eqb-false (length c.args.left.now) 0 (sym c.is_empty.ensures ∙ c.if-is_empty.false))) (omega (arith, eqb-false (length c.args.right.now) 0 (sym c.is_empty-2.ensures ∙ c.if-is_empty-2.false))) c.index-left-left.is c.index-right-right.is (subst (λ z. token_cmp c.index-left-left.result.token z.token ≡ Equal) (sym c.index-right-right.is) (sym c.cmp.ensures ∙ equal))
