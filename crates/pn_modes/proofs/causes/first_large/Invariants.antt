use Rattle.std.proofs.Common.{◌≡◌, drop}
use Rattle.pn_modes.specs.Causes.{first_with}
use Rattle.pn_modes.specs.Sizes.{is_large}
use Rattle.pn_names.specs.Names.{widths_of}
use Rattle.pn_modes.proofs.causes.first_large.Given as goal

abbrev pub invariant-loop-i : goal.invariant-loop-i
invariant-loop-i l = first_with (is_large (widths_of l.decls)) l.vars l.sorts ≡ first_with (is_large (widths_of l.decls)) (drop l.i l.vars) (drop l.i l.sorts)
