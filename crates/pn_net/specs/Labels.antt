-- The terms and sorts that the labels of a net say (ISO/IEC 15909-2, labels of high-level nets).
use Rattle.std.specs.Prelude.{◌≡◌, List, ◌++◌, Option, Some, None}
use Rattle.std.specs.List.{filter_map}
use Rattle.std.specs.Option.{option_map}
use Rattle.pn_objects.specs.declared.label.Label.{Label}
use Rattle.pn_objects.specs.declared.net.Net.{Net}
use Rattle.pn_objects.specs.declared.object.Place.{Place}
use Rattle.pn_resolve.specs.Meaning.{Resolves}
use Rattle.pn_syntax.specs.declared.declaration.Declaration.{Declaration}
use Rattle.pn_syntax.specs.declared.sort_expr.SortExpr.{SortExpr}
use Rattle.pn_syntax.specs.declared.term.Term.{Term}
use Rattle.pn_values.specs.declared.sort.Sort.{Sort}
use Rattle.pn_values.specs.declared.sort.Sort.TheVariants as sorts
use Rattle.pn_net.specs.Objects.{net_arcs, net_places, net_transitions}

-- what a label says, where it is there
abbrev pub said : {T : Type 0} → Option (Label T) → Option T
said = option_map (λ l. l.value)

-- the initial markings of a net
abbrev pub marking_terms : Net → List Term
marking_terms n = filter_map (λ p. said p.hl_marking) (net_places n)

-- the conditions of a net
abbrev pub condition_terms : Net → List Term
condition_terms n = filter_map (λ t. said t.condition) (net_transitions n)

-- the inscriptions of a net
abbrev pub inscription_terms : Net → List Term
inscription_terms n = filter_map (λ a. said a.inscription) (net_arcs n)

-- all terms that stand in a net
abbrev pub net_terms : Net → List Term
net_terms n = marking_terms n ++ (condition_terms n ++ inscription_terms n)

-- the types of places
abbrev pub type_exprs : Net → List SortExpr
type_exprs n = filter_map (λ p. said p.sort) (net_places n)

-- the sort that a type says; places without one, as those of place/transition nets, have the sort of the one value
abbrev pub IsSortBy : List Declaration → Option SortExpr → Sort → Type 0
IsSortBy items None sort = sort ≡ sorts.Dot
IsSortBy items (Some e) sort = Resolves items e sort

-- the place has this sort
abbrev pub IsPlaceSort : List Declaration → Place → Sort → Type 0
IsPlaceSort items p sort = IsSortBy items (said p.sort) sort
