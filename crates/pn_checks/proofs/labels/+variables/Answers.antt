use Rattle.std.proofs.Common.{◌≡◌, ◌+◌, ◌∙◌, true, false, ap, refl, sym, subst, take}
use Rattle.std.specs.List.{Contains}
use Rattle.pn_facts.proofs.Lists.{take_got}
use Rattle.pn_faults.specs.Walks.{StandsInSome}
use Rattle.pn_checks.specs.LabelFaults.{IsVariableIn}
use Rattle.pn_checks.specs.NoValue.{HasNoVariable}
use Rattle.pn_syntax.specs.declared.term.Term.{Term}
use Rattle.pn_syntax.specs.declared.term.TermNode.TheVariants as nodes
use Rattle.pn_checks.proofs.LabelLemmas.{by_args, by_element, by_variable, judged_call, several_all, several_more, several_none}
use Rattle.pn_checks.proofs.SortLemmas.{got_there}
use Rattle.pn_checks.proofs.labels.+variables.Goals as goal
use Rattle.pn_checks.proofs.labels.+variables.Goals.{keep_all_variables-then-not-is_ground, keep_all_variables-else-not-is_ground}

pub keep_variables-returns-in_ok-keep_least_at-in-Variable : goal.keep_variables-returns-in_ok-keep_least_at-in-Variable
keep_variables-returns-in_ok-keep_least_at-in-Variable t c =
    by_variable c.args.term.now c.as_str.result.now (c.in-Variable.is ∙ ap (λ name. nodes.Variable name) (sym c.as_str.ensures)) c.args.least.now c.keep_least_at.new.least c.in_ok-keep_least_at-in-Variable.ensures.lower

pub keep_variables-returns-in-PartitionOf : goal.keep_variables-returns-in-PartitionOf
keep_variables-returns-in-PartitionOf t c =
    let p = c.get.result.now in
    judged_call (HasNoVariable p) (HasNoVariable c.args.term.now) (IsVariableIn p) (IsVariableIn c.args.term.now) c.args.least.now c.keep_variables.new.least
    (λ b judged. by_element c.args.term.now c.in-PartitionOf.partition c.in-PartitionOf.arg p c.in-PartitionOf.is c.get.ensures b c.args.least.now c.keep_variables.new.least judged) c.keep_variables.result c.keep_variables.ensures

pub keep_variables-returns-in-Apply : goal.keep_variables-returns-in-Apply
keep_variables-returns-in-Apply t c =
    let ps = c.as_slice.result.now in
    judged_call ((q : Term) → Contains ps q → HasNoVariable q) (HasNoVariable c.args.term.now) (StandsInSome IsVariableIn ps) (IsVariableIn c.args.term.now) c.args.least.now c.keep_all_variables.new.least
    (λ b judged. by_args c.args.term.now c.in-Apply.op c.in-Apply.args ps c.in-Apply.is c.as_slice.ensures b c.args.least.now c.keep_all_variables.new.least judged) c.keep_all_variables.result c.keep_all_variables.ensures

pub keep_all_variables-loop-term-init : goal.keep_all_variables-loop-term-init
keep_all_variables-loop-term-init t c = several_none c.args.least.now

pub keep_all_variables-loop-term-preserved : goal.keep_all_variables-loop-term-preserved
keep_all_variables-loop-term-preserved t c =
    let all = c.args.terms.now in
    let i = c.loop-term.term-index in
    let e = c.term-item.result in
    let next = take_got all i e (got_there all i e c.loop-term-test.true c.term-item.is) in
    elim c.if-not-is_ground.branch [
      | keep_all_variables-then-not-is_ground w ↦
          several_more (take i all) (take (i + 1) all) e next c.loop-term.are_ground c.in_ok-is_ground.is_ground c.if-not-is_ground.are_ground c.args.least.now c.loop-term.least c.keep_variables.new.least
          (λ p q. let bad : true ≡ false = sym q ∙ w.if-not-is_ground.true in cc) (λ p. w.are_ground-is) (λ q. w.are_ground-is) c.loop-term.invariant c.in_ok-is_ground.ensures
      | keep_all_variables-else-not-is_ground w ↦
          several_more (take i all) (take (i + 1) all) e next c.loop-term.are_ground c.in_ok-is_ground.is_ground c.if-not-is_ground.are_ground c.args.least.now c.loop-term.least c.keep_variables.new.least
          (λ p q. w.are_ground-is ∙ p) (λ p. w.are_ground-is ∙ p) (λ q. let bad : false ≡ true = sym q ∙ w.if-not-is_ground.false in cc) c.loop-term.invariant c.in_ok-is_ground.ensures
    ]

pub keep_all_variables-returns : goal.keep_all_variables-returns
keep_all_variables-returns t c = several_all c.args.terms.now c.loop-term.term-index c.loop-term-test.false c.loop-term.are_ground c.args.least.now c.loop-term.least c.loop-term.invariant
