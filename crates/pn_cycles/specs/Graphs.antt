-- Finite directed graphs. A graph is seen as the list of the nodes that each node leads to directly,
-- node by node.
use Rattle.std.specs.Prelude.{ℕ, ◌<◌, List, [], length, slice_index_or}
use Rattle.std.specs.List.{Contains}

-- an edge leads from one node to another
abbrev pub IsEdge : List (List ℕ) → ℕ → ℕ → Type 0
IsEdge edges start end = Contains (slice_index_or edges start []) end

-- one or more edges lead from one node to another
pub data Leads (edges : List (List ℕ)) : ℕ → ℕ → Type 0 where
  by_edge : {start end : ℕ} → IsEdge edges start end → Leads edges start end
  by_path : {start via end : ℕ} → IsEdge edges start via → Leads edges via end → Leads edges start end

-- each edge leads to a node of the graph
pub record IsWhole (edges : List (List ℕ)) : Type 0 where
  pub ends : (start end : ℕ) → IsEdge edges start end → end < length edges
