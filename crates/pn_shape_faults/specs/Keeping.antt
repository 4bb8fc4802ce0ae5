-- What a part of the walk keeps.
use Rattle.std.specs.Prelude.{◌≡◌, ℕ, List, Option}
use Rattle.std.specs.List.{slice_index}
use Rattle.pn_faults.specs.declared.fault.Fault.{Fault}
use Rattle.pn_operators.specs.declared.kind.Kind.{Kind}
use Rattle.pn_shape.specs.Spots.{filled}
use Rattle.pn_shape.specs.declared.rule.Slot.{Slot}
use Rattle.pn_tree.specs.declared.element.Child.{Child}
use Rattle.pn_faults.specs.Least.{lower, least_fault}

-- the least of the faults so far and of these
abbrev pub KeepsLower : Option Fault → Option Fault → List Fault → Type 0
KeepsLower old new faults = new ≡ lower old (least_fault faults)

-- the numbers of the kids that stand in each of these places
abbrev pub Counted : Kind → List Slot → List ℕ → List Child → Type 0
Counted k slots counts kids = (i : ℕ) → slice_index counts i ≡ filled k slots i kids

-- behind a part of the faults, of which the rest is left
abbrev pub Goes : Option Fault → Option Fault → List Fault → List Fault → Type 0
Goes old new all rest = lower new (least_fault rest) ≡ lower old (least_fault all)
