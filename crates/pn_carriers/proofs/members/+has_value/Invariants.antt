use Rattle.std.proofs.Common.{◌≡◌, map, length, drop}
use Rattle.std.specs.List.{list_all}
use Rattle.pn_carriers.specs.Members.{is_member, pass_each}
use Rattle.pn_carriers.proofs.members.+has_value.Given as goal

abbrev pub invariant-all_pass-loop-value : goal.invariant-all_pass-loop-value
invariant-all_pass-loop-value l = list_all (is_member l.widths l.item) (drop l.value-index l.values) ≡ list_all (is_member l.widths l.item) l.values

abbrev pub invariant-pass_each-loop-i : goal.invariant-pass_each-loop-i
invariant-pass_each-loop-i l = record {
  same : length l.parts ≡ length l.values;
  rest : pass_each (map (is_member l.widths) (drop l.i l.parts)) (drop l.i l.values) ≡ pass_each (map (is_member l.widths) l.parts) l.values;
}
