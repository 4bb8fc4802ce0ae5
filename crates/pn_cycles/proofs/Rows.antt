-- Rows that are cut out of one list.
use Rattle.std.proofs.Common.{◌≡◌, ℕ, zero, suc, ◌+◌, ◌-◌, ◌<◌, ◌≤◌, List, [], ◌∷◌, ◌++◌, length, get_or, take, drop, refl, sym, ap, ◌∙◌, arith, add-one}
use Rattle.std.proofs.lemmas.List.{length-drop, length_push, take_rest, take-append-le, drop-append-le, drop_all}
use Rattle.pn_cycles.specs.Rows.{rows_of, AreStarts}

pub length-rows_of : (starts ends : List ℕ) → length (rows_of starts ends) ≡ length starts
length-rows_of [] ends = refl
length-rows_of (start ∷ []) ends = refl
length-rows_of (start ∷ next ∷ starts) ends = ap suc (length-rows_of (next ∷ starts) ends)

-- where the first node begins
first_within : (start : ℕ) (starts ends : List ℕ) → AreStarts (start ∷ starts) ends → start ≤ length ends
first_within start [] ends are = are
first_within start (next ∷ starts) ends are = omega (arith, are.0, first_within next starts ends are.1)

-- where a node begins
pub start_within : (starts ends : List ℕ) (node : ℕ) → AreStarts starts ends → node < length starts → get_or starts node 0 ≤ length ends
start_within [] ends node are within = absurd (omega arith)
start_within (start ∷ starts) ends zero are within = first_within start starts ends are
start_within (start ∷ []) ends (suc node) are within = absurd (omega arith)
start_within (start ∷ next ∷ starts) ends (suc node) are within = start_within (next ∷ starts) ends node are.1 (omega arith)

pub next_behind : (starts ends : List ℕ) (node : ℕ) → AreStarts starts ends → node + 1 < length starts → get_or starts node 0 ≤ get_or starts (node + 1) 0
next_behind starts ends node are within = rw add-one (go starts node are (omega arith))
  where
    go : (starts : List ℕ) (node : ℕ) → AreStarts starts ends → suc node < length starts → get_or starts node 0 ≤ get_or starts (suc node) 0
    go [] node are within = absurd (omega arith)
    go (start ∷ []) node are within = absurd (omega arith)
    go (start ∷ next ∷ starts) zero are within = are.0
    go (start ∷ next ∷ starts) (suc node) are within = go (next ∷ starts) node are.1 (omega arith)

-- a node's row
pub row_is : (starts ends : List ℕ) (node : ℕ) → node < length starts → get_or (rows_of starts ends) node [] ≡ take (get_or starts (suc node) (length ends) - get_or starts node 0) (drop (get_or starts node 0) ends)
row_is [] ends node within = absurd (omega arith)
row_is (start ∷ []) ends zero within = sym (take_rest ends start)
row_is (start ∷ []) ends (suc node) within = absurd (omega arith)
row_is (start ∷ next ∷ starts) ends zero within = refl
row_is (start ∷ next ∷ starts) ends (suc node) within = row_is (next ∷ starts) ends node (omega arith)

-- one more node begins at the end of the list
pub starts_more : (starts ends : List ℕ) → AreStarts starts ends → AreStarts (starts ++ length ends ∷ []) ends
starts_more [] ends are = omega arith
starts_more (start ∷ []) ends are = (are, omega arith)
starts_more (start ∷ next ∷ starts) ends are = (are.0, starts_more (next ∷ starts) ends are.1)

pub rows_more : (starts ends : List ℕ) → rows_of (starts ++ length ends ∷ []) ends ≡ rows_of starts ends ++ [] ∷ []
rows_more [] ends = ap (λ row. row ∷ []) (drop_all (length ends) ends (omega arith))
rows_more (start ∷ []) ends = ap (λ row. take (length ends - start) (drop start ends) ∷ row ∷ []) (drop_all (length ends) ends (omega arith)) ∙ ap (λ row. row ∷ [] ∷ []) (take_rest ends start)
rows_more (start ∷ next ∷ starts) ends = ap (λ rows. take (next - start) (drop start ends) ∷ rows) (rows_more (next ∷ starts) ends)

-- the last node leads to one more
pub starts_with_edge : (starts ends : List ℕ) (end : ℕ) → AreStarts starts ends → AreStarts starts (ends ++ end ∷ [])
starts_with_edge [] ends end are = tt
starts_with_edge (start ∷ []) ends end are = omega (arith, length_push ends end)
starts_with_edge (start ∷ next ∷ starts) ends end are = (are.0, starts_with_edge (next ∷ starts) ends end are.1)

pub rows_with_edge : (starts ends : List ℕ) (end : ℕ) (rows : List (List ℕ)) (last : List ℕ) → AreStarts starts ends → rows_of starts ends ≡ rows ++ last ∷ [] → rows_of starts (ends ++ end ∷ []) ≡ rows ++ (last ++ end ∷ []) ∷ []
rows_with_edge [] ends end [] last are e = absurd cc
rows_with_edge [] ends end (row ∷ rows) last are e = absurd cc
rows_with_edge (start ∷ []) ends end [] last are e =
    let same : drop start ends ≡ last = cc in
    ap (λ row. row ∷ []) (drop-append-le start ends (end ∷ []) are ∙ ap (λ xs. xs ++ end ∷ []) same)
rows_with_edge (start ∷ []) ends end (row ∷ []) last are e = absurd cc
rows_with_edge (start ∷ []) ends end (row ∷ row' ∷ rows) last are e = absurd cc
rows_with_edge (start ∷ next ∷ []) ends end [] last are e = absurd cc
rows_with_edge (start ∷ next ∷ next' ∷ starts) ends end [] last are e = absurd cc
rows_with_edge (start ∷ next ∷ starts) ends end (row ∷ rows) last are e =
    let first : take (next - start) (drop start ends) ≡ row = cc in
    let others : rows_of (next ∷ starts) ends ≡ rows ++ last ∷ [] = cc in
    let within : next ≤ length ends = first_within next starts ends are.1 in
    let low : start ≤ length ends = omega (arith, are.0) in
    let same : take (next - start) (drop start (ends ++ end ∷ [])) ≡ take (next - start) (drop start ends) = ap (take (next - start)) (drop-append-le start ends (end ∷ []) low) ∙ take-append-le (next - start) (drop start ends) (end ∷ []) (omega (arith, length-drop start ends)) in
    ap (λ r. r ∷ rows_of (next ∷ starts) (ends ++ end ∷ [])) (same ∙ first) ∙ ap (λ rs. row ∷ rs) (rows_with_edge (next ∷ starts) ends end rows last are.1 others)
