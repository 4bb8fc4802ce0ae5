-- The languages of the parts of values, and of single sorts (ISO/IEC 15909-2, sorts).
use Rattle.std.specs.Prelude.{◌≡◌, ◌<◌, ℕ, ℤ, Bool, true, false, List, [], ◌∷◌, ◌++◌, codes, length, map, Some}
use Rattle.std.specs.List.{list_all}
use Rattle.pn_carriers.specs.Members.{IsMember, is_member, pass_each}
use Rattle.pn_names.specs.Names.{id_of_constant, widths_of}
use Rattle.pn_syntax.specs.declared.declaration.Declaration.{Declaration}
use Rattle.pn_values.specs.declared.sort.Sort.{Sort}
use Rattle.pn_values.specs.declared.value.Value.{Value}
use Rattle.pn_values.specs.declared.value.Value.TheOpen as value_layer
use Rattle.pn_values.specs.declared.value.Value.TheVariants as values
use Rattle.pn_words.specs.Numbers.{SignedDecimal}
use Rattle.pn_mode_text.specs.Quoted.{IsQuoted}
use Rattle.pn_mode_text.specs.Texts.{truth_word, value_text}

-- no constant's id is empty
abbrev pub HaveIds : List Declaration → Type 0
HaveIds items = (place index : ℕ) → id_of_constant items (record { declaration = place; index = index }) ≡ Some [] → ⊥

-- the sort has a value
abbrev pub IsInhabited : List Declaration → Sort → Type 0
IsInhabited items sort = (v : Value) × IsMember (widths_of items) v sort

-- each of the sorts has a value
abbrev pub AreInhabitedParts : List Declaration → List Sort → Type 0
AreInhabitedParts items [] = Unit {0}
AreInhabitedParts items (sort ∷ sorts) = IsInhabited items sort × AreInhabitedParts items sorts

-- the value of the sort Dot, and its text
abbrev pub IsDotText : Value → List ℕ → Type 0
IsDotText v t = (v ≡ values.Dot) × (t ≡ codes "dot")

-- a truth value, and its text
abbrev pub IsTruthText : Value → List ℕ → Type 0
IsTruthText v t = (b : Bool) × (v ≡ values.Bool b) × (t ≡ truth_word (value_layer.Bool b))

-- a whole number within these bounds, and its text
abbrev pub IsNumberText : ℤ → ℤ → Value → List ℕ → Type 0
IsNumberText low high v t = (z : ℤ) × (v ≡ values.Int z) × SignedDecimal low high z t

-- a text, and its text
abbrev pub IsTextText : Value → List ℕ → Type 0
IsTextText v t = (u : List ℕ) × (v ≡ values.Text u) × IsQuoted u t

-- the mark behind a part where parts of these sorts are behind it
abbrev pub mark_before_parts : List Sort → ℕ
mark_before_parts [] = 41
mark_before_parts (sort ∷ sorts) = 44

-- the parts of a tuple with the marks behind them
abbrev pub part_texts : List Declaration → List Sort → List Value → List ℕ
part_texts items [] vs = []
part_texts items (sort ∷ sorts) [] = []
part_texts items (sort ∷ sorts) (v ∷ vs) = value_text items sort v ++ mark_before_parts sorts ∷ part_texts items sorts vs

-- a value of each of these sorts, with the marks behind them
abbrev pub ArePartTexts : List Declaration → List Sort → List Value → List ℕ → Type 0
ArePartTexts items sorts vs w = (pass_each (map (is_member (widths_of items)) sorts) vs ≡ true) × (w ≡ part_texts items sorts vs)

-- what stands behind the `(` of a tuple
abbrev pub IsTupleRest : List Declaration → List Sort → List Value → List ℕ → Type 0
IsTupleRest items [] vs w = (vs ≡ []) × (w ≡ codes ")")
IsTupleRest items (sort ∷ sorts) vs w = ArePartTexts items (sort ∷ sorts) vs w

-- the mark behind an item where these items are behind it
abbrev pub mark_before_items : List Value → ℕ
mark_before_items [] = 93
mark_before_items (v ∷ vs) = 44

-- the items of a list with the marks behind them
abbrev pub item_texts : List Declaration → Sort → List Value → List ℕ
item_texts items sort [] = []
item_texts items sort (v ∷ vs) = value_text items sort v ++ mark_before_items vs ∷ item_texts items sort vs

-- some values of the sort, with the marks behind them
abbrev pub AreItemTexts : List Declaration → Sort → List Value → List ℕ → Type 0
AreItemTexts items sort vs w = (0 < length vs) × (list_all (is_member (widths_of items) sort) vs ≡ true) × (w ≡ item_texts items sort vs)

-- the same behind `,`, and nothing behind `]`
abbrev pub AreFurtherItems : List Declaration → Sort → Bool → List Value → List ℕ → Type 0
AreFurtherItems items sort true vs w = AreItemTexts items sort vs w
AreFurtherItems items sort false vs w = (vs ≡ []) × (w ≡ [])

-- what stands behind the `[` of a list
abbrev pub IsListRest : List Declaration → Sort → List Value → List ℕ → Type 0
IsListRest items sort [] w = w ≡ codes "]"
IsListRest items sort (v ∷ vs) w = AreItemTexts items sort (v ∷ vs) w

-- a value made of some parts, and its text: this bracket, and what stands behind it
abbrev pub IsOpened : List ℕ → (List Value → Value) → (List Value → List ℕ → Type 0) → Value → List ℕ → Type 0
IsOpened open_bracket made IsRest v t = (vs : List Value) × (v ≡ made vs) × (w : List ℕ) × (t ≡ open_bracket ++ w) × IsRest vs w

-- it is told whether the sort has a value
abbrev pub TellsValues : List Declaration → Sort → Bool → Type 0
TellsValues items sort true = IsInhabited items sort
TellsValues items sort false = (v : Value) → IsMember (widths_of items) v sort → ⊥

-- it is told whether each of the sorts has a value
abbrev pub TellsParts : List Declaration → List Sort → Bool → Type 0
TellsParts items sorts true = AreInhabitedParts items sorts
TellsParts items sorts false = (vs : List Value) → pass_each (map (is_member (widths_of items)) sorts) vs ≡ true → ⊥

-- a bracket, and behind it the parts of a value
abbrev pub IsBracketed : List ℕ → (List Value → List ℕ → Type 0) → List Value → List ℕ → Type 0
IsBracketed open_bracket IsRest vs t = (w : List ℕ) × (t ≡ open_bracket ++ w) × IsRest vs w
