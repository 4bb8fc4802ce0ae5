-- The ground term of a value, by its sort (ISO/IEC 15909-2, terms): the term without variables that is written for the value.
use Rattle.std.specs.Prelude.{ℕ, Bool, true, not, ◌&&◌, int_lt, nat_lt, List, [], ◌∷◌, length, map}
use Rattle.std.specs.List.{list_all, slice_get}
use Rattle.std.specs.Option.{option_map, unwrap_or}
use Rattle.pn_names.specs.Names.{id_of, id_of_constant}
use Rattle.pn_operations.specs.Outcomes.{items_of, number_of, place_of, text_of, truth_of}
use Rattle.pn_operators.specs.declared.op.Op.{Op}
use Rattle.pn_operators.specs.declared.op.Op.TheVariants as op
use Rattle.pn_syntax.specs.declared.declaration.Declaration.{Declaration}
use Rattle.pn_syntax.specs.declared.sort_expr.SortExpr.{SortExpr}
use Rattle.pn_syntax.specs.declared.sort_expr.SortNode.{SortNode}
use Rattle.pn_syntax.specs.declared.sort_expr.SortNode.TheVariants as written
use Rattle.pn_syntax.specs.declared.term.NumberSort.TheVariants as numbers
use Rattle.pn_syntax.specs.declared.term.Term.{Term}
use Rattle.pn_syntax.specs.declared.term.TermNode.{TermNode}
use Rattle.pn_syntax.specs.declared.term.TermNode.TheVariants as nodes
use Rattle.pn_values.specs.declared.sort.Sort.{Sort}
use Rattle.pn_values.specs.declared.sort.Sort.TheFolds.{fold-Sort}
use Rattle.pn_values.specs.declared.sort.Sort.TheOpen as layer
use Rattle.pn_values.specs.declared.value.Value.{Value}
use Rattle.pn_values.specs.declared.value.Value.TheOpen as value_layer
use Rattle.pn_values.specs.declared.value.Value.TheViews.{out-Value}
use Rattle.pn_eval.specs.Values.{HasValue}
use Rattle.pn_operations.specs.declared.outcome.Outcome.TheVariants as outcomes
use Rattle.pn_terms.specs.Sorts.{HasSort}
use Rattle.pn_terms.specs.declared.term_sort.TermSort.TheVariants as terms

-- an expression, a term and an operator with its arguments that are made, not read: their offsets are 0
abbrev pub sort_of_node : SortNode → SortExpr
sort_of_node node = record { at = 0; node = node }

abbrev pub term_of_node : TermNode → Term
term_of_node node = record { at = 0; node = node }

abbrev pub applied : Op → List Term → Term
applied o args = term_of_node (nodes.Apply o args)

-- the id of the declaration at this place: empty where there is none
abbrev pub declared_id : List Declaration → ℕ → List ℕ
declared_id items place = unwrap_or (option_map id_of (slice_get items place)) []

-- the id of the constant or partition element at this place of this declaration: empty where there is none
abbrev pub constant_id : List Declaration → ℕ → ℕ → List ℕ
constant_id items place index = unwrap_or (id_of_constant items (record { declaration = place; index = index })) []

-- the parts of a tuple
abbrev pub parts_of_tuple : value_layer.Value-F Value → List Value
parts_of_tuple (value_layer.Tuple values) = values
parts_of_tuple _ = []

-- how a sort is written, and the term of each of its values
pub record Writing : Type 0 where
  pub sort : SortExpr
  pub term : Value → Term

-- the terms of the parts of a tuple, each by its own sort
abbrev pub terms_of_parts : List Writing → List Value → List Term
terms_of_parts [] values = []
terms_of_parts (w ∷ ws) [] = []
terms_of_parts (w ∷ ws) (v ∷ vs) = w.term v ∷ terms_of_parts ws vs

-- the list of these items: where it has none, the empty list of its sort
abbrev pub term_of_list : Writing → List Value → Term
term_of_list w [] = term_of_node (nodes.EmptyList w.sort)
term_of_list w (v ∷ vs) = applied op.MakeList (map w.term (v ∷ vs))

-- a sort, where it is known of its parts: an enumeration or a partition is written by the name of its declaration
abbrev pub writing_layer : List Declaration → layer.Sort-F Writing → Writing
writing_layer items layer.Dot = record { sort = sort_of_node written.Dot; term = λ v. applied op.DotConstant [] }
writing_layer items layer.Bool = record { sort = sort_of_node written.Bool; term = λ v. term_of_node (nodes.Bool (truth_of (out-Value v))) }
writing_layer items (layer.Enumeration place) = record {
  sort = sort_of_node (written.User (declared_id items place));
  term = λ v. term_of_node (nodes.UserOp (constant_id items place (place_of (out-Value v))));
}
writing_layer items (layer.Partition place) = record {
  sort = sort_of_node (written.User (declared_id items place));
  term = λ v. term_of_node (nodes.UserOp (constant_id items place (place_of (out-Value v))));
}
writing_layer items (layer.Range start end) = record {
  sort = sort_of_node (written.Range start end);
  term = λ v. term_of_node (nodes.RangeConst (number_of (out-Value v)) start end);
}
writing_layer items (layer.Product parts) = record {
  sort = sort_of_node (written.Product (map (λ w. w.sort) parts));
  term = λ v. applied op.Tuple (terms_of_parts parts (parts_of_tuple (out-Value v)));
}
writing_layer items layer.Integer = record { sort = sort_of_node written.Integer; term = λ v. term_of_node (nodes.Number (number_of (out-Value v)) numbers.Integer) }
writing_layer items layer.Natural = record { sort = sort_of_node written.Natural; term = λ v. term_of_node (nodes.Number (number_of (out-Value v)) numbers.Natural) }
writing_layer items layer.Positive = record { sort = sort_of_node written.Positive; term = λ v. term_of_node (nodes.Number (number_of (out-Value v)) numbers.Positive) }
writing_layer items layer.Text = record { sort = sort_of_node written.Text; term = λ v. term_of_node (nodes.Text (text_of (out-Value v))) }
writing_layer items (layer.List item) = record { sort = sort_of_node (written.List item.sort); term = λ v. term_of_list item (items_of (out-Value v)) }

abbrev pub writing_of : List Declaration → Sort → Writing
writing_of items = fold-Sort Writing (writing_layer items)

-- how a sort is written
abbrev pub sort_written : List Declaration → Sort → SortExpr
sort_written items s = (writing_of items s).sort

-- the ground term of a value of this sort
abbrev pub ground_term : List Declaration → Sort → Value → Term
ground_term items s v = (writing_of items s).term v

-- whether no range in the sort has its start above its end and every product in it has a part, where it is known of its parts
abbrev pub is_sound_layer : layer.Sort-F Bool → Bool
is_sound_layer (layer.Range start end) = not (int_lt end start)
is_sound_layer (layer.Product parts) = nat_lt 0 (length parts) && list_all (λ part. part) parts
is_sound_layer (layer.List item) = item
is_sound_layer _ = true

-- no range in the sort has its start above its end, and every product in it has a part
abbrev pub is_sound : Sort → Bool
is_sound = fold-Sort Bool is_sound_layer

-- the term has this value without any variable, and is of this sort
pub record IsTermOf (items : List Declaration) (kin : Sort) (v : Value) (e : Term) : Type 0 where
  pub sort : HasSort items e (terms.Basis kin)
  pub value : HasValue items [] [] e (outcomes.Value v)

-- the term has this multiset without any variable, and is of the multisets over this sort
pub record IsBagTermOf (items : List Declaration) (kin : Sort) (bag : List (Value × ℕ)) (e : Term) : Type 0 where
  pub sort : HasSort items e (terms.Bag kin)
  pub value : HasValue items [] [] e (outcomes.Bag bag)
