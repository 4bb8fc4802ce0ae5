use Rattle.std.proofs.Common.{◌≡◌, take, Ok}
use Rattle.std.specs.Fn.{FnReturnsAt}
use Rattle.pn_bag.specs.Copies.{IsCopy}
use Rattle.pn_bag.proofs.copies.copy_into.Given as goal

-- the entries so far are copied
abbrev pub invariant-loop-entry : goal.invariant-loop-entry
invariant-loop-entry g l = record {
  callable : goal.F-IsAlwaysCallable g l.copy;
  copied : IsCopy g.K.Ord.cmp (take l.entry-index l.entries) l.copied.items;
  equal : ((key again : g.row.K.Denot) → FnReturnsAt g.F.Fn l.copy key (Ok again) → again ≡ key) → l.copied.items ≡ take l.entry-index l.entries;
}
