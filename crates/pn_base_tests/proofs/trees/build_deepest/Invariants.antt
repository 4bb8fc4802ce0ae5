use Rattle.std.proofs.Common.{◌≡◌, ◌+◌, length, None, IsSome}
use Rattle.pn_base_tests.proofs.trees.build_deepest.Given as goal

abbrev pub invariant-loop-offset : goal.invariant-loop-offset
invariant-loop-offset l = record {
  root : l.builder.root ≡ None;
  held : length l.builder.open_elements ≡ l.offset;
}

abbrev pub invariant-loop-ended : goal.invariant-loop-ended
invariant-loop-ended l = record {
  left : length l.builder.open_elements + l._ended ≡ 256;
  root : l._ended ≡ 256 → IsSome l.builder.root;
}
