use Rattle.std.proofs.Common.{◌≡◌, not, drop}
use Rattle.std.specs.List.{list_all}
use Rattle.pn_markup.specs.Bytes.{is_space}
use Rattle.pn_shape.proofs.values.may_be_id.Given as goal

abbrev pub invariant-loop-byte : goal.invariant-loop-byte
invariant-loop-byte l = list_all (λ c. not (is_space c)) (drop l.byte-index l.bytes) ≡ list_all (λ c. not (is_space c)) l.bytes
