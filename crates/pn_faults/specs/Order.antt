-- The order of faults.
use Rattle.std.specs.Prelude.{Bool, ℕ, List}
use Rattle.std.specs.Ordering.{nat_cmp, on, then_cmp, is_lt}
use Rattle.std.specs.declared.cmp.Ordering.{Ordering}
use Rattle.pn_faults.specs.declared.fault.Fault.{Fault}
use Rattle.pn_faults.specs.declared.reason.Reason.{Reason}
use Rattle.pn_faults.specs.Reasons.{number_of, phase_of}

-- by phase, then by offset, then by number; details do not count
abbrev pub fault_cmp : Fault → Fault → Ordering
fault_cmp = then_cmp (on (λ f. phase_of f.reason) nat_cmp) (then_cmp (on (λ f. f.at) nat_cmp) (on (λ f. number_of f.reason) nat_cmp))

-- whether the first fault comes before the second
abbrev pub comes_before : Fault → Fault → Bool
comes_before f g = is_lt (fault_cmp f g)

-- a fault by its parts
abbrev pub fault_at : Reason → ℕ → List ℕ → Fault
fault_at reason offset detail = record { reason = reason; at = offset; detail = detail }
