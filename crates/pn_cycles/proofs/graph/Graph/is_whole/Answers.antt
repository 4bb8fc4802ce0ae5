use Rattle.std.proofs.Common.{◌≡◌, ℕ, ◌<◌, ◌≤◌, List, [], length, get_or, ◌⊎◌, inl, inr, refl, sym, ◌∙◌, subst, arith}
use Rattle.std.specs.List.{All}
use Rattle.std.proofs.lemmas.Bool.{cases_lt}
use Rattle.std.proofs.lemmas.List.Elements.{All-contains, Contains-get_or, All-from_get_or}
use Rattle.pn_cycles.specs.Graphs.{IsEdge, IsWhole}
use Rattle.pn_cycles.proofs.Ways.{edge_start}
use Rattle.pn_cycles.proofs.graph.Graph.is_whole.Goals as goal

-- in a whole graph the ends of each node's edges are below the number of nodes
row_below : (edges : List (List ℕ)) (node : ℕ) → IsWhole edges → All (λ end. end < length edges) (get_or edges node [])
row_below edges node whole = All-from_get_or (λ end. end < length edges) (get_or edges node []) 0 (λ i h. whole.ends node (get_or (get_or edges node []) i 0) (Contains-get_or (get_or edges node []) i 0 h))

pub returns-then-not-are_below : goal.returns-then-not-are_below
returns-then-not-are_below c = (λ never. absurd cc, λ whole. sym c.if-not-are_below.true ∙ c.are_below.ensures.1 (subst (λ n. All (λ end. end < n) c.targets.result.now) (sym c.len-count.ensures) (subst (All (λ end. end < length c.args.self.now)) (sym c.targets.ensures) (row_below c.args.self.now c.loop-node.node whole))))

pub loop-node-preserved : goal.loop-node-preserved
loop-node-preserved c start end below edge = go (cases_lt start c.loop-node.node)
  where
    row : All (λ end. end < c.len-count.result) (get_or c.args.self.now c.loop-node.node [])
    row = subst (All (λ end. end < c.len-count.result)) c.targets.ensures (c.are_below.ensures.0 c.if-not-are_below.false)

    go : (start < c.loop-node.node) ⊎ (c.loop-node.node ≤ start) → end < length c.args.self.now
    go (inl before) = c.loop-node.invariant start end before edge
    go (inr after) =
        let here : start ≡ c.loop-node.node = omega arith in
        omega (arith, All-contains (λ end. end < c.len-count.result) (get_or c.args.self.now c.loop-node.node []) end row (subst (λ n. IsEdge c.args.self.now n end) here edge))

pub returns : goal.returns
returns c = (λ yes. record { ends = λ start end edge. c.loop-node.invariant start end (omega (arith, edge_start c.args.self.now start end edge)) edge }, λ whole. refl)
