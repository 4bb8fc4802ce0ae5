use Rattle.std.proofs.Common.{◌≡◌, ◌*◌, ◌++◌, map, take, drop}
use Rattle.pn_bag.proofs.scales.multiply.Given as goal

-- the entries so far are multiplied, and the others are as they were
abbrev pub invariant-loop-index : goal.invariant-loop-index
invariant-loop-index g l =
    l.entries.items ≡ map (λ e. (e.0, e.1 * l.by)) (take l.index l.initial.entries.items) ++ drop l.index l.initial.entries.items
