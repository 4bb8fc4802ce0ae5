-- The least fault of a list.
use Rattle.std.specs.Prelude.{◌≡◌, IsTrue, false, List, [], ◌∷◌, ◌++◌, All, Option, Some, None, if◌then◌else◌}
use Rattle.pn_faults.specs.declared.fault.Fault.{Fault}
use Rattle.pn_faults.specs.Order.{comes_before}

-- of two faults the one that comes first; the first of the two where neither comes before the other
abbrev pub lower_of : Fault → Fault → Fault
lower_of f g = if comes_before g f then g else f

-- the same where either may be missing
abbrev pub lower : Option Fault → Option Fault → Option Fault
lower None b = b
lower (Some f) None = Some f
lower (Some f) (Some g) = Some (lower_of f g)

-- the fault of a list that comes first: of several that none comes before, the earliest in the list
abbrev pub least_fault : List Fault → Option Fault
least_fault [] = None
least_fault (f ∷ fs) = lower (Some f) (least_fault fs)

-- it stands in the list, comes before each one earlier in the list, and none later comes before it
pub record IsLeast (faults : List Fault) (least : Fault) : Type 0 where
  pub front : List Fault
  pub rest : List Fault
  pub stands : faults ≡ front ++ least ∷ rest
  pub before : All (λ f. IsTrue (comes_before least f)) front
  pub none_before : All (λ f. comes_before f least ≡ false) rest
