use Rattle.std.proofs.Common.{◌≡◌, ℕ, ◌<◌, None, vec_len}
use Rattle.pn_cycles.specs.declared.search.Mark.TheVariants.{New}
use Rattle.pn_cycles.specs.Searches.{mark_of}
use Rattle.pn_cycles.specs.States.{IsSearch}
use Rattle.pn_cycles.proofs.order.order_of.Given as goal

abbrev pub invariant-loop-root : goal.invariant-loop-root
invariant-loop-root l = record {
  search : IsSearch l.graph None l.search;
  empty : vec_len l.search.path ≡ 0;
  visited : (node : ℕ) → node < l.root → mark_of l.search.marks.items node ≡ New → ⊥;
}
