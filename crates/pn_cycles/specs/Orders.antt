-- Orders of the nodes of a graph.
use Rattle.std.specs.Prelude.{◌≡◌, ℕ, ◌<◌, List, length, slice_index, Bool, false, IsTrue, ◌↔◌, ◌⊎◌, slice_index_or}
use Rattle.std.specs.List.{All, Contains}
use Rattle.pn_cycles.specs.Graphs.{IsEdge, Leads}

-- what is said of the nodes: whether each is on a cycle, by its number, and all of them in an order
pub record NodeOrder : Type 0 where
  pub on_cycle : List Bool
  pub nodes : List ℕ

-- the numbers below `count`, each once
pub record ListsEachOnce (count : ℕ) (nodes : List ℕ) : Type 0 where
  pub size : length nodes ≡ count
  pub only : All (λ node. node < count) nodes
  pub every : (node : ℕ) → node < count → Contains nodes node
  pub once : (i j : ℕ) → i < length nodes → j < length nodes → slice_index nodes i ≡ slice_index nodes j → i ≡ j

-- one number stands before another in a list
abbrev pub StandsBefore : List ℕ → ℕ → ℕ → Type 0
StandsBefore nodes first second = (i j : ℕ) × (i < j) × (j < length nodes) × (slice_index nodes i ≡ first) × (slice_index nodes j ≡ second)

-- each node stands behind the nodes that it leads to directly, unless they lead back to it
abbrev pub StandBehindTargets : List (List ℕ) → List ℕ → Type 0
StandBehindTargets edges nodes = (start end : ℕ) → IsEdge edges start end → StandsBefore nodes end start ⊎ Leads edges end start

-- a node that is on no cycle stands behind all nodes that it leads to directly
abbrev pub StandBehindOffCycles : List (List ℕ) → List ℕ → Type 0
StandBehindOffCycles edges nodes = (start end : ℕ) → IsEdge edges start end → ¬ Leads edges start start → StandsBefore nodes end start

-- the nodes that are said to be on a cycle are those that lead to themselves
abbrev pub TellsCycles : List (List ℕ) → List Bool → Type 0
TellsCycles edges on_cycle = (node : ℕ) → node < length edges → IsTrue (slice_index_or on_cycle node false) ↔ Leads edges node node
