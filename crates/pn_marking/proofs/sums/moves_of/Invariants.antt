use Rattle.std.proofs.Common.{◌≡◌, ◌++◌, map}
use Rattle.pn_marking.proofs.sums.moves_of.Given as goal

-- the entries so far, and those to come
abbrev pub invariant-loop-entry : goal.invariant-loop-entry
invariant-loop-entry l =
    (goal.iterator-loop-entry).can_next l.entry-iterator ×
    (goal.iterator-loop-entry).is_finite l.entry-iterator ×
    (l.modes ≡ map (λ e. (e.0.now, e.1)) l.entries.items ++ l.entry-iterator)
