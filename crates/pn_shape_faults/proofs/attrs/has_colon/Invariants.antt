use Rattle.std.proofs.Common.{◌≡◌, ◌==◌, drop}
use Rattle.std.specs.List.{list_any}
use Rattle.pn_shape_faults.proofs.attrs.has_colon.Given as goal

abbrev pub invariant-loop-byte : goal.invariant-loop-byte
invariant-loop-byte l = list_any (λ b. b == 58) (drop l.byte-index l.name) ≡ list_any (λ b. b == 58) l.name
