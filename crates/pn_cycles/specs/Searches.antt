-- What holds between two steps of the search.
--
-- Its stack holds the nodes that are open, in groups one behind the other: in a group of several nodes
-- each leads to each, and each node of a group leads to those of the later groups.
use Rattle.std.specs.Prelude.{◌≡◌, ℕ, zero, suc, ◌+◌, ◌-◌, ◌++◌, slice_range, ◌<◌, ◌≤◌, List, [], ◌∷◌, length, slice_index, slice_index_or, Bool, true, false, Option, Some, ◌⊎◌}
use Rattle.pn_cycles.specs.declared.search.Mark.{Mark}
use Rattle.pn_cycles.specs.declared.search.Mark.TheVariants.{New, Open, Done}
use Rattle.pn_cycles.specs.declared.search.Group.{Group}
use Rattle.pn_cycles.specs.Graphs.{IsEdge, Leads}

-- the mark of a node
abbrev pub mark_of : List Mark → ℕ → Mark
mark_of marks node = slice_index_or marks node New

-- the group at a place of the path
abbrev pub group_at : List Group → ℕ → Group
group_at path at = slice_index_or path at (record { start = 0; edges = 0; cyclic = false })

-- where an edge out of a group leads: to a node that is done, to an open node at the group's start or
-- behind it (behind it alone where nothing leads back so far), to a node that is still to be looked at,
-- or to the one that is due now
pub data IsAccounted (marks : List Mark) (pending : List ℕ) (due : Option ℕ) (group : Group) (end : ℕ) : Type 0 where
  is_done : (place : ℕ) → mark_of marks end ≡ Done place → IsAccounted marks pending due group end
  is_open : (place : ℕ) → mark_of marks end ≡ Open place → group.start ≤ place → (group.cyclic ≡ false → group.start < place) → IsAccounted marks pending due group end
  is_pending : (at : ℕ) → group.edges ≤ at → at < length pending → slice_index pending at ≡ end → IsAccounted marks pending due group end
  is_due : due ≡ Some end → IsAccounted marks pending due group end

module _ (edges : List (List ℕ)) (due : Option ℕ) (marks : List Mark) (stack pending : List ℕ) where
  -- a group whose nodes end before a place of the stack, and whose edges before one of those to be looked at
  pub record IsGroup (group : Group) (nodes_end edges_end : ℕ) : Type 0 where
    pub some : group.start < nodes_end
    pub within : group.edges ≤ edges_end
    pub strong : group.cyclic ≡ true → (a b : ℕ) → group.start ≤ a → a < nodes_end → group.start ≤ b → b < nodes_end → Leads edges (slice_index stack a) (slice_index stack b)
    pub single : group.cyclic ≡ false → nodes_end ≡ suc group.start
    pub sources : (at : ℕ) → group.edges ≤ at → at < edges_end → (a : ℕ) × (group.start ≤ a) × (a < nodes_end) × IsEdge edges (slice_index stack a) (slice_index pending at)
    pub kept : (a : ℕ) → group.start ≤ a → a < nodes_end → (end : ℕ) → IsEdge edges (slice_index stack a) end → IsAccounted marks pending due group end

  -- the groups before a place of the path, the first of which begins at the bottom
  abbrev pub IsPath : List Group → ℕ → ℕ → ℕ → Type 0
  IsPath path zero nodes_end edges_end = (nodes_end ≡ 0) × (edges_end ≡ 0)
  IsPath path (suc at) nodes_end edges_end = IsGroup (group_at path at) nodes_end edges_end × IsPath path at (group_at path at).start (group_at path at).edges

-- how many nodes are new
abbrev pub new_count : List Mark → ℕ
new_count [] = 0
new_count (New ∷ marks) = suc (new_count marks)
new_count (Open at ∷ marks) = new_count marks
new_count (Done at ∷ marks) = new_count marks

-- the search between two steps; where a node is due, edges that lead to it wait for it
pub record IsUnderWay (edges : List (List ℕ)) (due : Option ℕ) (marks : List Mark) (stack pending : List ℕ) (path : List Group) (nodes : List ℕ) (cyclic : List Bool) : Type 0 where
  pub marked : length marks ≡ length edges
  pub told : length cyclic ≡ length edges
  pub stacked : (at : ℕ) → at < length stack → (slice_index stack at < length edges) × (mark_of marks (slice_index stack at) ≡ Open at)
  pub stacked_at : (node at : ℕ) → mark_of marks node ≡ Open at → (at < length stack) × (slice_index stack at ≡ node)
  pub listed : (at : ℕ) → at < length nodes → (slice_index nodes at < length edges) × (mark_of marks (slice_index nodes at) ≡ Done at)
  pub listed_at : (node at : ℕ) → mark_of marks node ≡ Done at → (at < length nodes) × (slice_index nodes at ≡ node)
  pub grouped : IsPath edges due marks stack pending path (length path) (length stack) (length pending)
  pub counted : new_count marks + (length stack + length nodes) ≡ length edges
  pub forward : (a b : ℕ) → a < b → b < length stack → Leads edges (slice_index stack a) (slice_index stack b)
  pub closed : (start at end : ℕ) → mark_of marks start ≡ Done at → IsEdge edges start end → (place : ℕ) × (mark_of marks end ≡ Done place) × ((place < at) ⊎ Leads edges end start)
  pub cycles : (node at : ℕ) → mark_of marks node ≡ Done at → (slice_index_or cyclic node false ≡ true → Leads edges node node) × (Leads edges node node → slice_index_or cyclic node false ≡ true)

-- each open node leads to this one
abbrev pub LeadTo : List (List ℕ) → List ℕ → ℕ → Type 0
LeadTo edges stack node = (at : ℕ) → at < length stack → Leads edges (slice_index stack at) node

-- what is left to do at nodes that are new
abbrev pub work_at : Mark → List ℕ → ℕ
work_at New targets = length targets + 2
work_at (Open at) targets = 0
work_at (Done at) targets = 0

abbrev pub work_of : List Mark → List (List ℕ) → ℕ
work_of [] edges = 0
work_of (mark ∷ marks) [] = 0
work_of (mark ∷ marks) (targets ∷ edges) = work_at mark targets + work_of marks edges

-- the nodes of a group, before a place of the stack, are done, and all else is as it was
pub record IsFinish (stack : List ℕ) (group : Group) (end : ℕ) (marks : List Mark) (nodes : List ℕ) (cyclic : List Bool) (marks' : List Mark) (nodes' : List ℕ) (cyclic' : List Bool) : Type 0 where
  pub listed : nodes' ≡ nodes ++ slice_range stack group.start end
  pub marks_sized : length marks' ≡ length marks
  pub cyclic_sized : length cyclic' ≡ length cyclic
  pub marked : (at : ℕ) → group.start ≤ at → at < end → mark_of marks' (slice_index stack at) ≡ Done (length nodes + (at - group.start))
  pub told : (at : ℕ) → group.start ≤ at → at < end → slice_index_or cyclic' (slice_index stack at) false ≡ group.cyclic
  pub others_marked : (node : ℕ) → ((at : ℕ) → group.start ≤ at → at < end → slice_index stack at ≡ node → ⊥) → mark_of marks' node ≡ mark_of marks node
  pub others_told : (node : ℕ) → ((at : ℕ) → group.start ≤ at → at < end → slice_index stack at ≡ node → ⊥) → slice_index_or cyclic' node false ≡ slice_index_or cyclic node false
