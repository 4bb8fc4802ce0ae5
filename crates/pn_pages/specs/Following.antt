-- What references refer to.
use Rattle.std.specs.Prelude.{◌≡◌, ℕ, Bool, true, false, List, [], ◌∷◌, length, map, nat_le, nat_lt, Option, None, Some, if◌then◌else◌, slice_index_or}
use Rattle.std.specs.List.{slice_get}
use Rattle.pn_cycles.specs.Orders.{ListsEachOnce, StandBehindOffCycles, TellsCycles}
use Rattle.pn_net.specs.Ids.{IdHolder}
use Rattle.pn_objects.specs.declared.object.Reference.{Reference}
use Rattle.pn_pages.specs.declared.follow.Goal.{Goal}
use Rattle.pn_pages.specs.declared.names.Node.{Node}
use Rattle.pn_pages.specs.declared.names.Node.TheVariants as nodes
use Rattle.pn_pages.specs.declared.numbered.Objects.{Objects}
use Rattle.pn_pages.specs.Naming.{FindsNode}

-- the node shows what the reference refers to
abbrev pub IsTarget : Objects → List IdHolder → Reference → Option Node → Type 0
IsTarget o hs r target = FindsNode o hs r.refers target

-- the references that a reference leads to directly: one at most
abbrev pub targets_row : Option Node → List ℕ
targets_row None = []
targets_row (Some (nodes.Place i)) = []
targets_row (Some (nodes.Transition i)) = []
targets_row (Some (nodes.Reference k)) = k ∷ []
targets_row (Some nodes.Other) = []

abbrev pub rows_of_targets : List (Option Node) → List (List ℕ)
rows_of_targets targets = map targets_row targets

-- a reference that leads nowhere
abbrev pub lost : Goal
lost = record { end = None; endless = false }

abbrev pub goal_through : Bool → Option Goal → Goal
goal_through right None = lost
goal_through right (Some g) = if right then g else record { end = None; endless = g.endless }

-- both references are to places, or both to transitions
abbrev pub of_one_side : ℕ → ℕ → ℕ → Bool
of_one_side place_refs k j = if nat_lt k place_refs then nat_lt j place_refs else nat_le place_refs j

-- where the reference of this number leads, by what it refers to and by where the others lead: over references of its own side alone
abbrev pub goal_at : ℕ → ℕ → Option Node → List Goal → Goal
goal_at place_refs k None goals = lost
goal_at place_refs k (Some (nodes.Place i)) goals = if nat_lt k place_refs then record { end = Some i; endless = false } else lost
goal_at place_refs k (Some (nodes.Transition i)) goals = if nat_le place_refs k then record { end = Some i; endless = false } else lost
goal_at place_refs k (Some (nodes.Reference j)) goals = goal_through (of_one_side place_refs k j) (slice_get goals j)
goal_at place_refs k (Some nodes.Other) goals = lost

-- a reference on a cycle
abbrev pub round : Goal
round = record { end = None; endless = true }

-- where a reference leads, also on a cycle
abbrev pub settled_goal : ℕ → List Bool → ℕ → Option Node → List Goal → Goal
settled_goal place_refs on_cycle k target goals = if slice_index_or on_cycle k false then round else goal_at place_refs k target goals

-- each reference has the goal that what it refers to gives it
pub record AreGoals (place_refs : ℕ) (targets : List (Option Node)) (on_cycle : List Bool) (goals : List Goal) : Type 0 where
  pub size : length goals ≡ length targets
  pub each : (k : ℕ) (target : Option Node) → slice_get targets k ≡ Some target → slice_get goals k ≡ Some (settled_goal place_refs on_cycle k target goals)

-- the same, where those are on a cycle that lead to themselves, and each of the others stands behind the one that it refers to in some order
pub record HaveGoals (place_refs : ℕ) (targets : List (Option Node)) (goals : List Goal) : Type 0 where
  pub on_cycle : List Bool
  pub order : List ℕ
  pub tells : TellsCycles (rows_of_targets targets) on_cycle
  pub each : ListsEachOnce (length (rows_of_targets targets)) order
  pub behind : StandBehindOffCycles (rows_of_targets targets) order
  pub are_goals : AreGoals place_refs targets on_cycle goals
