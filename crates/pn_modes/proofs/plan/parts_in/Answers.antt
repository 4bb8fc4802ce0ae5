use Rattle.std.proofs.Common.{[], ◌∷◌, inl, inr, take, subst, sym}
use Rattle.std.specs.List.{Contains}
use Rattle.pn_eval.specs.Assignments.{Covers}
use Rattle.pn_eval.proofs.ReadyLemmas.{ready_part}
use Rattle.pn_facts.proofs.Contained.{contains_first, contains_nil}
use Rattle.pn_modes.proofs.plan.parts_in.Goals as goal

pub add_parts-requires-clause-covers : goal.add_parts-requires-clause-covers
add_parts-requires-clause-covers c = λ e there. (ready_part c.args.decls.now c.args.vars.now c.args.condition.now e (subst (λ xs. Contains xs e) (sym c.in-Some.ensures.1) there) c.requires.ready).covers

pub returns-in-Some : goal.returns-in-Some
returns-in-Some c = λ part there.
    elim (c.in_ok-add_parts.ensures part there) [
      | inl before ↦ absurd (contains_nil part (subst (λ xs. Contains xs part) c.new-parts.ensures.items before))
      | inr here ↦ (subst (λ xs. Contains xs part.term.now) (sym c.in-Some.ensures.0) here.0, here.1)
    ]

pub returns : goal.returns
returns c = λ part there.
    elim (c.in_ok-add_part.ensures part there) [
      | inl before ↦ absurd (contains_nil part (subst (λ xs. Contains xs part) c.new-parts.ensures.items before))
      | inr here ↦ (
        subst (λ xs. Contains xs part.term.now) (sym c.in_default.ensures) (subst (Contains (c.args.condition.now ∷ [])) (sym here.0) (contains_first c.args.condition.now [])),
        subst (Covers c.args.decls.now (take part.need c.args.vars.now)) (sym here.0) here.1,
      )
    ]
