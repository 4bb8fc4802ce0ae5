-- How deep and how large a sort is.
use Rattle.std.specs.Prelude.{ℕ, suc, max, sum, List, [], ◌∷◌}
use Rattle.pn_values.specs.declared.sort.Sort.{Sort, fold-Sort}
use Rattle.pn_values.specs.declared.sort.Sort.TheOpen as layer

abbrev pub greatest : List ℕ → ℕ
greatest [] = 0
greatest (n ∷ ns) = max n (greatest ns)

-- one sort, with the depths of its parts in their places
abbrev pub depth_step : layer.Sort-F ℕ → ℕ
depth_step (layer.Product depths) = suc (greatest depths)
depth_step (layer.List depth) = suc depth
depth_step _ = 1

-- one more than the deepest part of a product or a list, and 1 for any other sort
abbrev pub depth_of : Sort → ℕ
depth_of = fold-Sort ℕ depth_step

-- one sort, with the nodes of its parts in their places
abbrev pub nodes_step : layer.Sort-F ℕ → ℕ
nodes_step (layer.Product nodes) = suc (sum nodes)
nodes_step (layer.List nodes) = suc nodes
nodes_step _ = 1

-- one more than the nodes of all parts of a product or a list, and 1 for any other sort
abbrev pub nodes_of : Sort → ℕ
nodes_of = fold-Sort ℕ nodes_step
