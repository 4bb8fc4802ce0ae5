use Rattle.std.proofs.Common.{◌≡◌, ◌*◌, ◌≤◌, take}
use Rattle.pn_bag.specs.declared.TheConstants.{MAX_COUNT}
use Rattle.pn_bag.specs.Copies.{total_of}
use Rattle.pn_bag.proofs.reads.total.Given as goal

abbrev pub invariant-loop-entry : goal.invariant-loop-entry
invariant-loop-entry g l = record {
  sum : l.sum ≡ total_of (take l.entry-index l.entries);
  bound : l.sum ≤ l.entry-index * MAX_COUNT;
}
