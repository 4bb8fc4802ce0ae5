use Rattle.std.proofs.Common.{◌≡◌, None}
use Rattle.pn_cycles.specs.declared.search.Mark.TheVariants.{New}
use Rattle.pn_cycles.specs.Searches.{mark_of}
use Rattle.pn_cycles.specs.States.{IsSearch, KeepsVisits, rest_of}
use Rattle.pn_cycles.proofs.search.Search.explore.Given as goal

abbrev pub invariant-loop-self : goal.invariant-loop-self
invariant-loop-self l = record {
  search : IsSearch l.graph None l.self;
  visits : KeepsVisits l.fn.self l.self;
  root : mark_of l.self.marks.items l.root ≡ New → ⊥;
}

abbrev pub decreases-loop-self : goal.decreases-loop-self
decreases-loop-self l = rest_of l.graph l.self
