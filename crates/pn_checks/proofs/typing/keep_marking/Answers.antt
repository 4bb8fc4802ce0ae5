use Rattle.std.proofs.Common.{◌≡◌, ◌∙◌, false, true, sym}
use Rattle.pn_facts.proofs.Results.{on_ok}
use Rattle.pn_checks.proofs.ValueLemmas.{fault_kept, marking_all, no_value_asked}
use Rattle.pn_checks.proofs.typing.keep_marking.Goals as goal
use Rattle.pn_checks.proofs.typing.keep_marking.Goals.{else-is_right-via-then-is_right+else-is_ground, else-is_right-via-else-is_right}

pub returns-then-is_ground-clause-least : goal.returns-then-is_ground-clause-least
returns-then-is_ground-clause-least c =
    on_ok c.keep_value.result
    (λ keeps p is_sort. marking_all c.args.decls.now c.args.sort.now c.args.term.now p is_sort c.args.least.now c.keep_at_place.new.least c.keep_variables.new.least c.keep_value.new.least
    c.in_ok-is_right.ensures.least c.in_ok-is_ground.ensures.least (keeps p is_sort)) c.keep_value.ensures.least

pub returns-clause-least : goal.returns-clause-least
returns-clause-least c p is_sort =
    let never : c.in_ok-is_right.is_right ≡ true → c.in_ok-is_ground.is_ground ≡ true → ⊥ = elim c.else-is_right.branch [
      | else-is_right-via-then-is_right+else-is_ground w ↦ λ x y. let bad : false ≡ true = sym w.if-is_ground.false ∙ y in cc
      | else-is_right-via-else-is_right w ↦ λ x y. let bad : false ≡ true = sym w.if-is_right.false ∙ x in cc
    ] in
    marking_all c.args.decls.now c.args.sort.now c.args.term.now p is_sort c.args.least.now c.keep_at_place.new.least c.keep_variables.new.least c.keep_variables.new.least c.in_ok-is_right.ensures.least c.in_ok-is_ground.ensures.least
    (no_value_asked c.args.decls.now c.args.sort.now c.args.term.now p is_sort c.in_ok-is_right.is_right c.in_ok-is_ground.is_ground c.in_ok-is_right.ensures.answered c.in_ok-is_ground.ensures.answered never c.keep_variables.new.least)

pub returns-clause-gets : goal.returns-clause-gets
returns-clause-gets c none =
    let never : c.in_ok-is_right.is_right ≡ true → c.in_ok-is_ground.is_ground ≡ true → ⊥ = elim c.else-is_right.branch [
      | else-is_right-via-then-is_right+else-is_ground w ↦ λ x y. let bad : false ≡ true = sym w.if-is_ground.false ∙ y in cc
      | else-is_right-via-else-is_right w ↦ λ x y. let bad : false ≡ true = sym w.if-is_right.false ∙ x in cc
    ] in
    absurd (fault_kept c.args.decls.now c.args.sort.now c.args.term.now c.in_ok-is_right.is_right c.in_ok-is_ground.is_ground c.args.least.now c.keep_at_place.new.least c.keep_variables.new.least c.in_ok-is_right.ensures c.in_ok-is_ground.ensures never none)
