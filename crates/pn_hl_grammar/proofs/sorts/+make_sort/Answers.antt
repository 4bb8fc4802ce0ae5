use Rattle.std.proofs.Common.{map, rules}
use Rattle.pn_tree.specs.Views.{element_of}
use Rattle.pn_spelling.specs.Parts.{child_elements}
use Rattle.pn_spelling.specs.ReadSorts.{sort_read}
use Rattle.pn_spelling.proofs.PartLemmas.{gather_element, gather_text}
use Rattle.pn_spelling.proofs.ReadLemmas.{first_sort_is}
use Rattle.pn_hl_grammar.proofs.sorts.+make_sort.Goals as goal
use Rattle.pn_hl_grammar.proofs.sorts.+make_sort.Goals.{make_all-in-Element+in_ok-make_sort+in_ok-push, make_all-in_default}

pub make_all-loop-i-preserved : goal.make_all-loop-i-preserved
make_all-loop-i-preserved t c = elim c.match-kid.branch [
  | make_all-in-Element+in_ok-make_sort+in_ok-push w ↦ (search (rules, gather_element sort_read (element_of c.args.view).kids c.loop-i.i (element_of w.in-Element.inner) (map sort_read (child_elements (element_of c.args.view))) c.loop-i.all c.loop-i.invariant w.in-Element.ensures.kid))
  | make_all-in_default w ↦ (search (rules, gather_text sort_read (element_of c.args.view).kids c.loop-i.i w.in_default.field-0.now (map sort_read (child_elements (element_of c.args.view))) c.loop-i.all c.loop-i.invariant w.in_default.ensures.kid))
]

pub make_node-returns-in_ok-new-in-list : goal.make_node-returns-in_ok-new-in-list
make_node-returns-in_ok-new-in-list t c = (search (rules, first_sort_is))
