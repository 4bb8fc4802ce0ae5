-- The value of a term under an assignment of its variables (ISO/IEC 15909-2, terms): one case for each leaf, and for the operators
-- their table. It is a value, a multiset, or none.
use Rattle.std.specs.Prelude.{◌≡◌, ℕ, List, [], ◌∷◌, map, Some}
use Rattle.pn_carriers.specs.Carriers.{carrier}
use Rattle.pn_carriers.specs.Sizes.{size_of}
use Rattle.pn_names.specs.Names.{constant_named, partition_named, variable_named, widths_of}
use Rattle.pn_operations.specs.Rows.{value_given}
use Rattle.pn_operations.specs.declared.outcome.Outcome.{Outcome}
use Rattle.pn_operations.specs.declared.outcome.Outcome.TheVariants as outcomes
use Rattle.pn_operators.specs.declared.op.Op.{Op}
use Rattle.pn_operators.specs.declared.op.Op.TheVariants as op
use Rattle.pn_resolve.specs.Meaning.{Resolves}
use Rattle.pn_sorts.specs.Lookups.{IsPartOf}
use Rattle.pn_syntax.specs.declared.declaration.Declaration.{Declaration}
use Rattle.pn_syntax.specs.declared.sort_expr.SortExpr.{SortExpr}
use Rattle.pn_syntax.specs.declared.term.Term.{Term}
use Rattle.pn_syntax.specs.declared.term.TermNode.TheOpen as layer
use Rattle.pn_terms.specs.Rows.{first_of}
use Rattle.pn_terms.specs.Sorts.{HaveSorts}
use Rattle.pn_terms.specs.Terms.{Layer, layer_of, parts_of}
use Rattle.pn_terms.specs.declared.term_sort.TermSort.{TermSort}
use Rattle.pn_terms.specs.declared.term_sort.TermSort.TheVariants as terms
use Rattle.pn_values.specs.declared.constant_ref.ConstantRef.{ConstantRef}
use Rattle.pn_values.specs.declared.sort.Sort.{Sort}
use Rattle.pn_values.specs.declared.value.Value.{Value}
use Rattle.pn_values.specs.declared.value.Value.TheVariants as values
use Rattle.pn_eval.specs.Assignments.{value_of_variable}

-- the value that the variable of this name has
abbrev pub IsVariableValue : List Declaration → List ℕ → List Value → List ℕ → Outcome → Type 0
IsVariableValue items vars given name o = (v : ℕ) × (value : Value) × (variable_named items name ≡ Some v) × (value_of_variable vars given v ≡ Some value) × (o ≡ outcomes.Value value)

-- the constant or partition element of this name, which is its place in its declaration
abbrev pub IsConstantValue : List Declaration → List ℕ → Outcome → Type 0
IsConstantValue items name o = (c : ConstantRef) × (constant_named items name ≡ Some c) × (o ≡ outcomes.Value (values.Const c.index))

-- the multiset that has each value of the sort once
abbrev pub IsEachOnce : List Declaration → SortExpr → Outcome → Type 0
IsEachOnce items e o = (sort : Sort) × Resolves items e sort × (o ≡ outcomes.Bag (map (λ value. (value, 1)) (carrier (widths_of items) sort)))

-- the element of the partition of this name that lists the value, and none where there is no value
abbrev pub IsElementValue : List Declaration → List ℕ → Outcome → Outcome → Type 0
IsElementValue items name outcomes.NoValue o = o ≡ outcomes.NoValue
IsElementValue items name (outcomes.Bag bag) o = ⊥
IsElementValue items name (outcomes.Value value) o =
    (p number : ℕ) × (partition_named items name ≡ Some p) × IsPartOf items p value number × (o ≡ outcomes.Value (values.Const number))

-- the number of values of this basis sort
abbrev pub IsRound : List Declaration → TermSort → ℕ → Type 0
IsRound items s round = (basis : Sort) × (s ≡ terms.Basis basis) × (size_of (widths_of items) basis ≡ Some round)

-- the number at which `successor` and `predecessor` go round, where their argument has this sort; other operators have 0
abbrev pub IsRoundFor : List Declaration → Op → TermSort → ℕ → Type 0
IsRoundFor items op.Successor s round = IsRound items s round
IsRoundFor items op.Predecessor s round = IsRound items s round
IsRoundFor items _ s round = round ≡ 0

-- the same by the sorts that the arguments have
abbrev pub GoesRound : List Declaration → Op → List Term → ℕ → Type 0
GoesRound items o args round = (ts : List TermSort) × HaveSorts items args ts × IsRoundFor items o (first_of ts) round

-- what the operator gives for what its arguments gave
abbrev pub IsOperatorValue : List Declaration → Op → List Term → List Outcome → Outcome → Type 0
IsOperatorValue items o args os out = (round : ℕ) × GoesRound items o args round × (out ≡ value_given round o os)

-- a layer gives this, where its parts have given those
abbrev pub GivesValue : List Declaration → List ℕ → List Value → Layer → List Outcome → Outcome → Type 0
GivesValue items vars given (layer.Variable name) os o = IsVariableValue items vars given name o
GivesValue items vars given (layer.UserOp name) os o = IsConstantValue items name o
GivesValue items vars given (layer.Bool truth) os o = o ≡ outcomes.Value (values.Bool truth)
GivesValue items vars given (layer.Number value sort) os o = o ≡ outcomes.Value (values.Int value)
GivesValue items vars given (layer.RangeConst value start end) os o = o ≡ outcomes.Value (values.Int value)
GivesValue items vars given (layer.Text text) os o = o ≡ outcomes.Value (values.Text text)
GivesValue items vars given (layer.All e) os o = IsEachOnce items e o
GivesValue items vars given (layer.Empty e) os o = o ≡ outcomes.Bag []
GivesValue items vars given (layer.EmptyList e) os o = o ≡ outcomes.Value (values.List [])
GivesValue items vars given (layer.PartitionOf name arg) os o = (p : Outcome) × (os ≡ p ∷ []) × IsElementValue items name p o
GivesValue items vars given (layer.Apply op args) os o = IsOperatorValue items op args os o

-- the terms give these, one each
pub data HaveValues (items : List Declaration) (vars : List ℕ) (given : List Value) : List Term → List Outcome → Type 0 where
  none : (es : List Term) (os : List Outcome) → es ≡ [] → os ≡ [] → HaveValues items vars given es os
  more : (es : List Term) (os : List Outcome) (e : Term) (rest : List Term) (o : Outcome) (others ps : List Outcome) → es ≡ e ∷ rest → os ≡ o ∷ others
      → HaveValues items vars given (parts_of e) ps → GivesValue items vars given (layer_of e) ps o → HaveValues items vars given rest others → HaveValues items vars given es os

-- the term gives this: its parts give what they give, and it gives this by them
abbrev pub HasValue : List Declaration → List ℕ → List Value → Term → Outcome → Type 0
HasValue items vars given e o = (os : List Outcome) × HaveValues items vars given (parts_of e) os × GivesValue items vars given (layer_of e) os o
