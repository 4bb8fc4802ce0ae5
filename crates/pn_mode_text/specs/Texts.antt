-- Values, tokens and modes as texts, without white space, so that they can be words of a command and parts of a line. Values and modes: ISO/IEC 15909-1,
-- high-level nets; sorts: ISO/IEC 15909-2. The texts are this project's own.
use Rattle.std.specs.Prelude.{◌≡◌, ℕ, true, false, List, [], ◌∷◌, ◌++◌, codes, map, Option, None, Some}
use Rattle.std.specs.Fmt.{signed_decimal}
use Rattle.std.specs.List.{AllZip, flat_map, slice_get}
use Rattle.pn_lines.specs.Escapes.{escaped}
use Rattle.pn_names.specs.Names.{Variable, id_of_constant, variables_of}
use Rattle.pn_net.specs.Labels.{IsPlaceSort}
use Rattle.pn_net.specs.Typed.{AreVariablesAt}
use Rattle.pn_net.specs.declared.flat.Flat.{Flat}
use Rattle.pn_net.specs.declared.mode.Mode.{Mode}
use Rattle.pn_net.specs.declared.token.Token.{Token}
use Rattle.pn_objects.specs.declared.object.Place.{Place}
use Rattle.pn_objects.specs.declared.object.Transition.{Transition}
use Rattle.pn_resolve.specs.Meaning.{Resolves}
use Rattle.pn_syntax.specs.declared.declaration.Declaration.{Declaration}
use Rattle.pn_values.specs.declared.sort.Sort.{Sort}
use Rattle.pn_values.specs.declared.sort.Sort.TheOpen as sort_layer
use Rattle.pn_values.specs.declared.sort.Sort.TheFolds.{fold-Sort}
use Rattle.pn_values.specs.declared.value.Value.{Value}
use Rattle.pn_values.specs.declared.value.Value.TheOpen as value_layer
use Rattle.pn_values.specs.declared.value.Value.TheViews.{out-Value}

-- texts with a comma between each two
abbrev pub with_commas : List (List ℕ) → List ℕ
with_commas [] = []
with_commas (part ∷ parts) = part ++ flat_map (λ next. codes "," ++ next) parts

-- the texts of values, each by its own rule
abbrev pub each_text : List (Value → List ℕ) → List Value → List (List ℕ)
each_text [] vs = []
each_text (text ∷ texts) [] = []
each_text (text ∷ texts) (v ∷ vs) = text v ∷ each_text texts vs

-- an id, escaped, where there is one
abbrev pub id_text : Option (List ℕ) → List ℕ
id_text None = []
id_text (Some id) = escaped id

-- a truth value
abbrev pub truth_word : value_layer.Value-F Value → List ℕ
truth_word (value_layer.Bool false) = codes "false"
truth_word (value_layer.Bool true) = codes "true"
truth_word _ = []

-- a constant of an enumeration or an element of a partition, of the declaration at this place: its id, escaped
abbrev pub constant_text : List Declaration → ℕ → value_layer.Value-F Value → List ℕ
constant_text items place (value_layer.Const c) = id_text (id_of_constant items (record { declaration = place; index = c }))
constant_text items place _ = []

-- a whole number: in decimal, `-` before a negative one
abbrev pub number_text : value_layer.Value-F Value → List ℕ
number_text (value_layer.Int z) = signed_decimal z
number_text _ = []

-- a text: escaped, between quotation marks
abbrev pub quoted_text : value_layer.Value-F Value → List ℕ
quoted_text (value_layer.Text t) = codes "\"" ++ (escaped t ++ codes "\"")
quoted_text _ = []

-- a tuple: its parts in parentheses, with commas between them
abbrev pub tuple_text : List (Value → List ℕ) → value_layer.Value-F Value → List ℕ
tuple_text texts (value_layer.Tuple vs) = codes "(" ++ (with_commas (each_text texts vs) ++ codes ")")
tuple_text texts _ = []

-- a list: its items in brackets, with commas between them
abbrev pub list_text : (Value → List ℕ) → value_layer.Value-F Value → List ℕ
list_text text (value_layer.List vs) = codes "[" ++ (with_commas (map text vs) ++ codes "]")
list_text text _ = []

-- the text of a value, open one level, of a sort, where the texts of the parts' values are known
abbrev pub value_text_layer : List Declaration → sort_layer.Sort-F (Value → List ℕ) → value_layer.Value-F Value → List ℕ
value_text_layer items sort_layer.Dot v = codes "dot"
value_text_layer items sort_layer.Bool v = truth_word v
value_text_layer items (sort_layer.Enumeration place) v = constant_text items place v
value_text_layer items (sort_layer.Partition place) v = constant_text items place v
value_text_layer items (sort_layer.Range start end) v = number_text v
value_text_layer items (sort_layer.Product texts) v = tuple_text texts v
value_text_layer items sort_layer.Integer v = number_text v
value_text_layer items sort_layer.Natural v = number_text v
value_text_layer items sort_layer.Positive v = number_text v
value_text_layer items sort_layer.Text v = quoted_text v
value_text_layer items (sort_layer.List text) v = list_text text v

-- the text of a value of a sort
abbrev pub value_text : List Declaration → Sort → Value → List ℕ
value_text items = fold-Sort (Value → List ℕ) (λ sort v. value_text_layer items sort (out-Value v))

-- the text of a token: the escaped id of its place, and its value of the place's sort in braces
abbrev pub token_text : List Declaration → List ℕ → Sort → Value → List ℕ
token_text items id sort v = escaped id ++ (codes "{" ++ (value_text items sort v ++ codes "}"))

-- a token of a net has this text
pub record IsTokenText (f : Flat) (k : Token) (text : List ℕ) : Type 0 where
  pub place : Place
  pub is_place : slice_get f.places k.place ≡ Some place
  pub sort : Sort
  pub of_sort : IsPlaceSort f.declarations place sort
  pub text_is : text ≡ token_text f.declarations place.id sort k.value

-- a variable, by its id and its sort
pub record TypedVariable : Type 0 where
  pub id : List ℕ
  pub sort : Sort

-- the variable of this number has this id and this sort
abbrev pub IsTypedVariable : List Declaration → ℕ → TypedVariable → Type 0
IsTypedVariable items v x = (declared : Variable) × (slice_get (variables_of items) v ≡ Some declared) × (x.id ≡ declared.id) × Resolves items declared.sort x.sort

-- a variable and its value: the escaped id, `=`, and the value
abbrev pub given_text : List Declaration → TypedVariable → Value → List ℕ
given_text items x v = escaped x.id ++ (codes "=" ++ value_text items x.sort v)

-- the text of a mode: the escaped id of its transition, and in brackets its variables with their values, with commas between them
abbrev pub mode_text : List Declaration → List ℕ → List TypedVariable → List Value → List ℕ
mode_text items id xs values = escaped id ++ (codes "[" ++ (with_commas (each_text (map (given_text items) xs) values) ++ codes "]"))

-- a transition of a net with values for its variables has this text
pub record IsModeText (f : Flat) (mode : Mode) (text : List ℕ) : Type 0 where
  pub transition : Transition
  pub is_transition : slice_get f.transitions mode.transition ≡ Some transition
  pub vars : List ℕ
  pub variables : AreVariablesAt f mode.transition vars
  pub typed : List TypedVariable
  pub are_typed : AllZip (IsTypedVariable f.declarations) vars typed
  pub text_is : text ≡ mode_text f.declarations transition.id typed mode.values
