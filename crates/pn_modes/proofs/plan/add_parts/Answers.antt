use Rattle.std.proofs.Common.{inl, inr, sym, subst, take}
use Rattle.std.specs.List.{Contains}
use Rattle.std.proofs.lemmas.List.Elements.{Contains-get_or}
use Rattle.pn_eval.specs.Assignments.{Covers}
use Rattle.pn_modes.proofs.plan.add_parts.Goals as goal

pub add_part-requires-clause-covers : goal.add_part-requires-clause-covers
add_part-requires-clause-covers c = c.requires.covers c.term-item.result (subst (Contains c.args.terms.now) (sym c.term-item.is) (Contains-get_or c.args.terms.now c.loop-term.term-index c.term-item.result c.loop-term-test.true))

pub loop-term-preserved : goal.loop-term-preserved
loop-term-preserved c = λ part there.
    let own = subst (Contains c.args.terms.now) (sym c.term-item.is) (Contains-get_or c.args.terms.now c.loop-term.term-index c.term-item.result c.loop-term-test.true) in
    elim (c.in_ok-add_part.ensures part there) [
      | inl before ↦ c.loop-term.invariant part before
      | inr here ↦ inr (subst (Contains c.args.terms.now) (sym here.0) own, subst (Covers c.args.decls.now (take part.need c.args.vars.now)) (sym here.0) here.1)
    ]
