-- What is asked of a flat net before its tables are made.
use Rattle.std.specs.Prelude.{ℕ, ◌<◌, List, Option, None, Some}
use Rattle.std.specs.List.{Contains}
use Rattle.pn_faults.specs.declared.fault.Fault.{Fault}
use Rattle.pn_objects.specs.declared.object.Place.{Place}
use Rattle.pn_resolve.specs.Standing.{StandsInSort}
use Rattle.pn_syntax.specs.declared.declaration.Declaration.{Declaration}
use Rattle.pn_syntax.specs.declared.sort_expr.SortExpr.{SortExpr}
use Rattle.pn_net.specs.declared.flat.FlatArc.{FlatArc}
use Rattle.pn_net.specs.Labels.{said}

-- no fault stands in a sort, where there is one
abbrev pub HasSoundSort : List Declaration → Option SortExpr → Type 0
HasSoundSort items None = Unit {0}
HasSoundSort items (Some e) = (f : Fault) → StandsInSort items e f → ⊥

-- no fault stands in the sorts of places
abbrev pub HaveSoundSorts : List Declaration → List Place → Type 0
HaveSoundSorts items places = (p : Place) → Contains places p → HasSoundSort items (said p.sort)

-- the transition of each arc is in range
abbrev pub HasRow : List FlatArc → ℕ → Type 0
HasRow arcs count = (a : FlatArc) → Contains arcs a → a.transition < count
