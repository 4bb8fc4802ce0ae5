use denote.Text.{Utf8}
use denote.Shadow.{shadow}
use Rattle.pn_sorts_tests.proofs.carriers.+behind.Given as goal

-- what is left is text
abbrev pub invariant-behind_all-loop-value : goal.invariant-behind_all-loop-value
invariant-behind_all-loop-value l = shadow (Utf8 l.rest)
