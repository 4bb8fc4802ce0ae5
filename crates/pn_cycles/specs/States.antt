-- The search as a whole.
use Rattle.std.specs.Prelude.{◌≡◌, ℕ, ◌+◌, List, Option, vec_len}
use Rattle.pn_cycles.specs.declared.search.Mark.TheVariants.{New}
use Rattle.pn_cycles.specs.declared.search.Search.{Search}
use Rattle.pn_cycles.specs.Searches.{mark_of, IsUnderWay, work_of}

-- what holds of the search between two steps
abbrev pub IsSearch : List (List ℕ) → Option ℕ → Search → Type 0
IsSearch edges due search = IsUnderWay edges due search.marks.items search.stack.items search.pending.items search.path.items search.nodes.items search.cyclic.items

-- the search of some graph
abbrev pub IsSomeSearch : Search → Type 0
IsSomeSearch search = (edges : List (List ℕ)) × (due : Option ℕ) × IsSearch edges due search

-- how much is left to do
abbrev pub rest_of : List (List ℕ) → Search → ℕ
rest_of edges search = work_of search.marks.items edges + vec_len search.pending + vec_len search.path

-- no node is new again
abbrev pub KeepsVisits : Search → Search → Type 0
KeepsVisits old new = (node : ℕ) → mark_of new.marks.items node ≡ New → mark_of old.marks.items node ≡ New
