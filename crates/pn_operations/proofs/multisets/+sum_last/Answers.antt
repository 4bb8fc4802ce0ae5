use Rattle.std.proofs.Common.{◌≡◌, ◌-◌, ◌/◌, ◌≤◌, ◌∙◌, length, drop, rules, arith}
use Rattle.pn_facts.proofs.Results.{if_ok}
use Rattle.pn_operations.specs.Multisets.{bag_sum}
use Rattle.pn_operations.specs.Halves.{sum_of_both}
use Rattle.pn_operations.proofs.SumLemmas.{last_sum, halves_sum}
use Rattle.pn_operations.proofs.multisets.+sum_last.Goals as goal

pub returns-then-count-eq1-clause-sum : goal.returns-then-count-eq1-clause-sum
returns-then-count-eq1-clause-sum t c =
    let one : c.args.count ≡ 1 = search rules in
    last_sum c.args.bags.now.items c.take_last.new.bags.items c.take_last.result c.args.count one c.take_last.ensures.rest c.take_last.ensures.order

pub returns-clause-sum : goal.returns-clause-sum
returns-clause-sum t c =
    let bags = c.args.bags.now.items in
    let count = c.args.count in
    let small : count / 2 ≤ count = omega arith in
    if_ok (λ bag. bag ≡ sum_of_both c.in_ok-left.left c.in_ok-right.right) (λ bag. bag ≡ bag_sum (drop (length bags - count) bags)) c.join_both.result
    (λ bag e. e ∙ halves_sum bags c.sum_last.new.bags.items count (count / 2) c.in_ok-left.left c.in_ok-right.right small c.requires.within c.in_ok-right.ensures.rest c.in_ok-right.ensures.sum c.in_ok-left.ensures.sum)
    c.join_both.ensures
