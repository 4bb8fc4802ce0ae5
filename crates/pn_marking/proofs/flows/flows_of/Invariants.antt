use Rattle.std.proofs.Common.{◌≡◌, ◌++◌, ◌*◌, map}
use Rattle.pn_marking.specs.Flows.{flow_of, saturated}
use Rattle.pn_marking.proofs.flows.flows_of.Given as goal

-- the flows of the entries so far
abbrev pub invariant-loop-token : goal.invariant-loop-token
invariant-loop-token l =
    (goal.iterator-loop-token).can_next l.token-iterator ×
    (goal.iterator-loop-token).is_finite l.token-iterator ×
    (map (λ e. flow_of l.side e.0 (saturated (l.times * e.1))) l.tokens ≡ l.flows.items ++ map (λ e. flow_of l.side e.0 (saturated (l.times * e.1))) l.token-iterator)
