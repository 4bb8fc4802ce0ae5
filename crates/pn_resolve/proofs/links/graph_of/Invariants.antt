use Rattle.std.proofs.Common.{[]}
use Rattle.pn_resolve.specs.Links.{row_of}
use Rattle.pn_resolve.proofs.MakeLemmas.{Made}
use Rattle.pn_resolve.proofs.links.graph_of.Given as goal

abbrev pub invariant-loop-place : goal.invariant-loop-place
invariant-loop-place l = Made l.items (row_of l.index l.sources) [] l.place l.graph
