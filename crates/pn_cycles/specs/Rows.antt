-- How a graph is kept: all ends of edges in one list, and where in it each node begins.
use Rattle.std.specs.Prelude.{ℕ, ◌≤◌, List, [], ◌∷◌, length, drop, slice_range}

-- the ends of each node's edges
abbrev pub rows_of : List ℕ → List ℕ → List (List ℕ)
rows_of [] ends = []
rows_of (start ∷ []) ends = drop start ends ∷ []
rows_of (start ∷ next ∷ starts) ends = slice_range ends start next ∷ rows_of (next ∷ starts) ends

-- the nodes begin one behind the other, within the list
abbrev pub AreStarts : List ℕ → List ℕ → Type 0
AreStarts [] ends = Unit {0}
AreStarts (start ∷ []) ends = start ≤ length ends
AreStarts (start ∷ next ∷ starts) ends = (start ≤ next) × AreStarts (next ∷ starts) ends
