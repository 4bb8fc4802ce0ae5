use Rattle.std.proofs.Common.{◌+◌, [], ◌∙◌, sym, subst, arith}
use Rattle.pn_resolve.specs.Links.{row_of}
use Rattle.pn_resolve.proofs.MakeLemmas.{Made, none_made, next_made, all_made}
use Rattle.pn_resolve.proofs.links.graph_of.Goals as goal

pub loop-place-init : goal.loop-place-init
loop-place-init c = subst (Made c.args.items.now (row_of c.args.index.now c.args.sources) [] 0) (sym c.new-graph.ensures) (none_made c.args.items.now (row_of c.args.index.now c.args.sources) [])

pub loop-place-preserved : goal.loop-place-preserved
loop-place-preserved c =
    let row = c.deref.ensures.value ∙ c.in_ok-ends.ensures in
    subst (Made c.args.items.now (row_of c.args.index.now c.args.sources) [] (c.loop-place.place + 1)) (sym c.in_ok-add_node.ensures)
    (next_made c.args.items.now (row_of c.args.index.now c.args.sources) [] c.loop-place.graph c.loop-place.place c.index-items-place.result c.deref.result.now c.loop-place.invariant c.loop-place-test.true c.index-items-place.is row)

pub returns : goal.returns
returns c = record {
  sized = omega (arith, c.loop-place.invariant.sized);
  rows = all_made c.args.items.now (row_of c.args.index.now c.args.sources) [] c.loop-place.place c.loop-place.graph c.loop-place.invariant (omega arith);
}
