use Rattle.std.proofs.Common.{rules, sym, ◌∙◌, arith}
use Rattle.pn_values.specs.Order.{value_cmp}
use Rattle.pn_values.specs.OrderLaws.{value_cmp-out}
use Rattle.pn_values.proofs.PrefixLemmas.{second_ends, first_ends, both_end}
use Rattle.pn_values.specs.declared.value.Value.TheViews.{the_lemmas}
use Rattle.pn_values.proofs.order.+compare.Goals as goal

pub compare-returns-in-Tuple-Tuple : goal.compare-returns-in-Tuple-Tuple
compare-returns-in-Tuple-Tuple t c = search (rules, the_lemmas, value_cmp-out)

pub compare-returns-in-List-List : goal.compare-returns-in-List-List
compare-returns-in-List-List t c = search (rules, the_lemmas, value_cmp-out)

pub compare_all-returns-then-i-twos : goal.compare_all-returns-then-i-twos
compare_all-returns-then-i-twos t c = sym (second_ends value_cmp c.args.ones.now c.args.twos.now c.loop-i.i (omega arith) (omega arith)) ∙ c.loop-i.invariant

pub compare_all-returns-then-ones-twos : goal.compare_all-returns-then-ones-twos
compare_all-returns-then-ones-twos t c = sym (first_ends value_cmp c.args.ones.now c.args.twos.now c.loop-i.i (omega arith) (omega arith)) ∙ c.loop-i.invariant

pub compare_all-returns-else-ones-twos : goal.compare_all-returns-else-ones-twos
compare_all-returns-else-ones-twos t c = sym (both_end value_cmp c.args.ones.now c.args.twos.now c.loop-i.i (omega arith) (omega arith)) ∙ c.loop-i.invariant
