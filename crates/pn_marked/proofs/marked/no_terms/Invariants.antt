use Rattle.std.proofs.Common.{◌≤◌}
use Rattle.pn_marked.specs.Gathering.{AreNone}
use Rattle.pn_marked.proofs.marked.no_terms.Given as goal

abbrev pub invariant-loop : goal.invariant-loop
invariant-loop l = (l.counter ≤ l.count) × AreNone l.counter l.terms.items
