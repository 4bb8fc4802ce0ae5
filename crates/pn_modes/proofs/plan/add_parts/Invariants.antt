use Rattle.std.proofs.Common.{◌⊎◌, take}
use Rattle.std.specs.List.{Contains}
use Rattle.pn_eval.specs.Assignments.{Covers}
use Rattle.pn_modes.specs.declared.parts.Part.{Part}
use Rattle.pn_modes.proofs.plan.add_parts.Given as goal

abbrev pub invariant-loop-term : goal.invariant-loop-term
invariant-loop-term l = (part : Part) → Contains l.parts.items part → Contains l.initial.parts.items part ⊎ (Contains l.terms part.term.now × Covers l.decls (take part.need l.vars) part.term.now)
