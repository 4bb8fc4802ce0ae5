use Rattle.std.proofs.Common.{◌≡◌, drop}
use Rattle.pn_shape.specs.Attributes.{rule_named}
use Rattle.pn_shape_faults.proofs.attrs.rule_named.Given as goal

abbrev pub invariant-loop-rule : goal.invariant-loop-rule
invariant-loop-rule l = rule_named l.name (drop l.rule-index l.rules) ≡ rule_named l.name l.rules
