-- Ways along several edges.
use Rattle.std.proofs.Common.{ℕ, ◌<◌, ◌≤◌, List, [], length, subst, ◌⊎◌, inl, inr, arith}
use Rattle.std.proofs.lemmas.List.{get_or_past}
use Rattle.std.proofs.lemmas.Bool.{cases_lt}
use Rattle.pn_cycles.specs.Graphs.{IsEdge, IsWhole, Leads, by_edge, by_path}

module _ {edges : List (List ℕ)} where
  -- one way after another
  pub leads_on : {a b c : ℕ} → Leads edges a b → Leads edges b c → Leads edges a c
  leads_on (by_edge e) w = by_path e w
  leads_on (by_path e v) w = by_path e (leads_on v w)

  pub leads_to_edge : {a b c : ℕ} → Leads edges a b → IsEdge edges b c → Leads edges a c
  leads_to_edge w e = leads_on w (by_edge e)

-- an edge starts at a node of the graph
pub edge_start : (edges : List (List ℕ)) (start end : ℕ) → IsEdge edges start end → start < length edges
edge_start edges start end e = go (cases_lt start (length edges))
  where
    go : (start < length edges) ⊎ (length edges ≤ start) → start < length edges
    go (inl within) = within
    go (inr past) = absurd (omega (arith, subst (λ row. e.0 < length row) (get_or_past edges start [] past) e.1))

pub leads_from : {edges : List (List ℕ)} {start end : ℕ} → Leads edges start end → start < length edges
leads_from (by_edge e) = edge_start _ _ _ e
leads_from (by_path e w) = edge_start _ _ _ e

pub leads_to : {edges : List (List ℕ)} {start end : ℕ} → IsWhole edges → Leads edges start end → end < length edges
leads_to whole (by_edge e) = whole.ends _ _ e
leads_to whole (by_path e w) = leads_to whole w
