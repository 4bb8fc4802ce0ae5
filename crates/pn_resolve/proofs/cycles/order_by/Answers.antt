use Rattle.std.proofs.Common.{◌∙◌, subst}
use Rattle.pn_resolve.specs.Links.{IsGraph}
use Rattle.pn_resolve.proofs.LinkLemmas.{is_whole}
use Rattle.pn_resolve.proofs.cycles.order_by.Goals as goal

pub order_of-requires : goal.order_of-requires
order_of-requires c = is_whole c.args.items.now c.args.sources c.in_ok-graph.graph (subst (λ n. IsGraph c.args.items.now n c.args.sources c.in_ok-graph.graph) c.requires c.in_ok-graph.ensures)

pub returns : goal.returns
returns c = record {
  graph = c.in_ok-graph.graph;
  is_graph = subst (λ n. IsGraph c.args.items.now n c.args.sources c.in_ok-graph.graph) c.requires c.in_ok-graph.ensures;
  sized = c.in_ok-order.ensures.sized ∙ (c.in_ok-graph.ensures).sized;
  tells = c.in_ok-order.ensures.on_cycle;
}
