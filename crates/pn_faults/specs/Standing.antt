-- The least of the faults that stand.
use Rattle.std.specs.Prelude.{◌≡◌, false, Option, Some, None}
use Rattle.pn_faults.specs.declared.fault.Fault.{Fault}
use Rattle.pn_faults.specs.Order.{comes_before}

-- of the faults of which P holds none comes before this one, of which it holds; or it holds of none
abbrev pub IsLeastOf : (Fault → Type 0) → Option Fault → Type 0
IsLeastOf P None = (f : Fault) → P f → ⊥
IsLeastOf P (Some least) = P least × ((f : Fault) → P f → comes_before f least ≡ false)
