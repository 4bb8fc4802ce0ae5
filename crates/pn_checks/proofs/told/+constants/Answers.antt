use Rattle.std.proofs.Common.{◌∙◌, sym}
use Rattle.std.specs.List.{find, flat_map}
use Rattle.std.specs.Option.{option_map}
use Rattle.pn_net.specs.Documents.{is_constant_at}
use Rattle.pn_spelling.specs.Parts.{child_elements}
use Rattle.pn_tree.specs.Views.{element_of}
use Rattle.pn_checks.specs.Told.{elements_at}
use Rattle.pn_checks.proofs.ConstantLemmas.{find_behind, find_here_shown, find_inside, find_itself, find_later_shown}
use Rattle.pn_checks.proofs.told.+constants.Goals as goal
use Rattle.pn_checks.proofs.told.+constants.Goals.{constant_inside-in-Element+else-is_some, constant_inside-in_default}

pub constant_in-returns-then-is_constant : goal.constant_in-returns-then-is_constant
constant_in-returns-then-is_constant t c = find_itself (is_constant_at c.args.offset) (element_of c.args.view) (sym c.is_constant.ensures ∙ c.if-is_constant.true)

pub constant_in-returns : goal.constant_in-returns
constant_in-returns t c =
    find_inside (is_constant_at c.args.offset) (element_of c.args.view) (option_map element_of c.constant_inside.result) (sym c.is_constant.ensures ∙ c.if-is_constant.false) c.constant_inside.ensures

pub constant_inside-returns-then-is_some : goal.constant_inside-returns-then-is_some
constant_inside-returns-then-is_some t c =
    find_here_shown (is_constant_at c.args.offset) (element_of c.args.view).kids c.loop-i.i (element_of c.in-Element.inner) c.constant_at-found.result (find (is_constant_at c.args.offset) (flat_map elements_at (child_elements (element_of c.args.view))))
    c.loop-i.invariant c.in-Element.ensures.kid (sym c.is_some.ensures ∙ c.if-is_some.true) c.constant_at-found.ensures

pub constant_inside-loop-i-preserved : goal.constant_inside-loop-i-preserved
constant_inside-loop-i-preserved t c = elim c.match-kid.branch [
  | constant_inside-in-Element+else-is_some w ↦ find_later_shown (is_constant_at c.args.offset) (element_of c.args.view).kids c.loop-i.i (element_of w.in-Element.inner) w.constant_at-found.result
      (find (is_constant_at c.args.offset) (flat_map elements_at (child_elements (element_of c.args.view)))) c.loop-i.invariant w.in-Element.ensures.kid (sym w.is_some.ensures ∙ w.if-is_some.false) w.constant_at-found.ensures
  | constant_inside-in_default w ↦ find_behind (is_constant_at c.args.offset) (element_of c.args.view).kids c.loop-i.i w.in_default.field-0.now
      (find (is_constant_at c.args.offset) (flat_map elements_at (child_elements (element_of c.args.view)))) c.loop-i.invariant w.in_default.ensures.kid
]
