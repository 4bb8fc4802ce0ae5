use Rattle.std.proofs.Common.{◌≡◌, ◌++◌}
use Rattle.pn_base_tests.proofs.bags.listed.Given as goal

-- what is listed and what is left are the bag's entries
abbrev pub invariant-loop-key : goal.invariant-loop-key
invariant-loop-key l = l.list.items ++ l.key-iterator ≡ l.bag
