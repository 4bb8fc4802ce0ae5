-- What a typed net keeps, and what it tells of its flat net (ISO/IEC 15909-1, high-level nets).
use Rattle.std.specs.Prelude.{◌≡◌, ◌==◌, ◌^◌, ◌<◌, ◌↔◌, ℕ, suc, Bool, List, [], ◌∷◌, ◌++◌, length, Option, Some, IfSome, if◌then◌else◌}
use Rattle.std.specs.List.{AllByRecursion, AllZip, Contains, filter, filter_map, flat_map, slice_get}
use Rattle.std.specs.List.Sorted.{IsStrictlyIncreasing}
use Rattle.std.specs.Option.{option_and_then, option_to_list}
use Rattle.pn_ids.specs.Names.{named_in}
use Rattle.pn_objects.specs.declared.net.Net.{Net}
use Rattle.pn_objects.specs.declared.object.Place.{Place}
use Rattle.pn_objects.specs.declared.object.Transition.{Transition}
use Rattle.pn_objects.specs.Offsets.{IsSameNet}
use Rattle.pn_sorts.specs.Standing.{IsFaultless}
use Rattle.pn_spelling.specs.ReadNets.{net_of}
use Rattle.pn_syntax.specs.declared.declaration.Declaration.{Declaration}
use Rattle.pn_syntax.specs.declared.term.Term.{Term}
use Rattle.pn_terms.specs.Sorts.{HasSort}
use Rattle.pn_terms.specs.Standing.{HasSoundSorts}
use Rattle.pn_terms.specs.Variables.{variables_in_term}
use Rattle.pn_terms.specs.declared.term_sort.TermSort.{TermSort}
use Rattle.pn_tree.specs.Elements.{IsTree}
use Rattle.pn_tree.specs.declared.element.Element.{Element}
use Rattle.pn_values.specs.declared.sort.Sort.{Sort}
use Rattle.pn_net.specs.declared.flat.Flat.{Flat}
use Rattle.pn_net.specs.declared.flat.FlatArc.{FlatArc}
use Rattle.pn_net.specs.declared.tables.Row.{Row}
use Rattle.pn_net.specs.Documents.{IsWellTyped}
use Rattle.pn_net.specs.Flattening.{IsFlattened, net_of_flat, source_id, target_id}
use Rattle.pn_net.specs.Labels.{IsPlaceSort, said}

-- the ends of an arc are in range, and are those that the ids in the arc name
pub record IsWired (f : Flat) (a : FlatArc) : Type 0 where
  pub place : a.place < length f.places
  pub transition : a.transition < length f.transitions
  pub source : a.arc.source ≡ source_id f a
  pub target : a.arc.target ≡ target_id f a

-- as a net it is the flat net of what some tree spells, in which no fault stands but that an initial marking may have no value
pub record IsOfDocument (f : Flat) : Type 0 where
  pub tree : Element
  pub is_tree : IsTree tree
  pub well_typed : IsWellTyped tree
  pub net : Net
  pub is_flat : IsFlattened (net_of tree) net
  pub same : IsSameNet (net_of_flat f) net

-- no fault stands in the sorts that a term writes, and it has a sort
abbrev pub IsTypedTerm : List Declaration → Term → Type 0
IsTypedTerm items e = HasSoundSorts items e × ((s : TermSort) × HasSort items e s)

-- so it is with each condition and each inscription
pub record HasTypedLabels (f : Flat) : Type 0 where
  pub conditions : (t : Transition) → Contains f.transitions t → IfSome (said t.condition) (IsTypedTerm f.declarations)
  pub inscriptions : (a : FlatArc) → Contains f.arcs a → IfSome (said a.arc.inscription) (IsTypedTerm f.declarations)

-- what holds of the flat net of each typed net
pub record IsTyped (f : Flat) : Type 0 where
  pub labels : HasTypedLabels f
  pub wired : (a : FlatArc) → Contains f.arcs a → IsWired f a
  pub document : IsOfDocument f

-- places, transitions and arcs are fewer than 2^32
pub record HasNumbers (f : Flat) : Type 0 where
  pub places : length f.places < 2 ^ 32
  pub transitions : length f.transitions < 2 ^ 32
  pub arcs : length f.arcs < 2 ^ 32

-- the place of this number has this sort
abbrev pub IsSortOfPlace : Flat → ℕ → Sort → Type 0
IsSortOfPlace f i sort = (p : Place) × (slice_get f.places i ≡ Some p) × IsPlaceSort f.declarations p sort

-- the arc leads from the transition of this number or to it
abbrev pub is_at : ℕ → FlatArc → Bool
is_at t a = a.transition == t

-- the numbers of those that pass the test, from this number on
abbrev pub numbers_where : {A : Type 0} → (A → Bool) → ℕ → List A → List ℕ
numbers_where p i [] = []
numbers_where p i (x ∷ xs) = if p x then i ∷ numbers_where p (suc i) xs else numbers_where p (suc i) xs

-- the numbers of the arcs from a transition and to it
abbrev pub arc_numbers_at : Flat → ℕ → List ℕ
arc_numbers_at f t = numbers_where (is_at t) 0 f.arcs

-- the condition that a transition has
abbrev pub condition_of : Transition → Option Term
condition_of x = said x.condition

-- the condition of a transition, where there is one
abbrev pub condition_at : Flat → ℕ → Option Term
condition_at f t = option_and_then condition_of (slice_get f.transitions t)

-- this condition, where there is one, and the inscriptions of those arcs that are at the transition
abbrev pub terms_of : Option Term → ℕ → List FlatArc → List Term
terms_of condition t arcs = option_to_list condition ++ filter_map (λ a. said a.arc.inscription) (filter (is_at t) arcs)

-- the condition of a transition, and the inscriptions of all its arcs
abbrev pub terms_at : Flat → ℕ → List Term
terms_at f t = terms_of (condition_at f t) t f.arcs

-- they are the variables in these terms
abbrev pub HasVariables : List Declaration → List Term → List ℕ → Type 0
HasVariables items terms vs = (v : ℕ) → Contains vs v ↔ Contains (flat_map (variables_in_term items) terms) v

-- they are all variables in the condition of a transition and in the inscriptions of its arcs, in the order of their declarations
pub record AreVariablesAt (f : Flat) (t : ℕ) (vs : List ℕ) : Type 0 where
  pub ascending : IsStrictlyIncreasing vs
  pub each : HasVariables f.declarations (terms_at f t) vs

-- transitions from this number on, by their ids
abbrev pub transitions_from : ℕ → List Transition → List (List ℕ × ℕ)
transitions_from i [] = []
transitions_from i (t ∷ ts) = (t.id, i) ∷ transitions_from (suc i) ts

-- the number of the transition of this id
abbrev pub transition_named : Flat → List ℕ → Option ℕ
transition_named f id = named_in (transitions_from 0 f.transitions) id

-- what is kept of a transition, by its condition and by these arcs
pub record IsRowBy (items : List Declaration) (condition : Option Term) (arcs : List FlatArc) (t : ℕ) (row : Row) : Type 0 where
  pub arcs_at : row.arcs.items ≡ numbers_where (is_at t) 0 arcs
  pub variables : HasVariables items (terms_of condition t arcs) row.variables.items

-- each transition, numbered from this number on, has its row, by these arcs
abbrev pub AreRowsFrom : List Declaration → List FlatArc → ℕ → List Transition → List Row → Type 0
AreRowsFrom items arcs t [] [] = Unit {0}
AreRowsFrom items arcs t [] (row ∷ rows) = ⊥
AreRowsFrom items arcs t (x ∷ xs) [] = ⊥
AreRowsFrom items arcs t (x ∷ xs) (row ∷ rows) = IsRowBy items (condition_of x) arcs t row × AreRowsFrom items arcs (suc t) xs rows

-- each transition has its row
abbrev pub AreRowsBy : List Declaration → List Transition → List FlatArc → List Row → Type 0
AreRowsBy items transitions arcs rows = AreRowsFrom items arcs 0 transitions rows

-- the variables of a row ascend
abbrev pub IsSettled : Row → Type 0
IsSettled row = IsStrictlyIncreasing row.variables.items

-- the variables of each row ascend
abbrev pub AreSettled : List Row → Type 0
AreSettled = AllByRecursion IsSettled

-- what the tables of a typed net keep
pub record TablesKeep (f : Flat) (sorts : List Sort) (rows : List Row) (ids : List (List ℕ × ℕ)) : Type 0 where
  pub places : AllZip (IsPlaceSort f.declarations) f.places sorts
  pub transitions : AreRowsBy f.declarations f.transitions f.arcs rows
  pub settled : AreSettled rows
  pub names : (id : List ℕ) → named_in ids id ≡ transition_named f id

-- what a typed net keeps: its flat net is one of a document, the declarations are those of the flat net and have no fault, and the tables are those of both
pub record TypedKeeps (f : Flat) (items : List Declaration) (sorts : List Sort) (rows : List Row) (ids : List (List ℕ × ℕ)) : Type 0 where
  pub declared : items ≡ f.declarations
  pub typed : IsTyped f
  pub faultless : IsFaultless f.declarations
  pub tables : TablesKeep f sorts rows ids
