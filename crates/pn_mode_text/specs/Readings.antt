-- The languages of mode words, and what it is to read one of their words where memory may be missing.
use Rattle.std.specs.Prelude.{◌≡◌, ℕ, Bool, true, not, List, [], Some}
use Rattle.std.specs.List.{list_all, slice_get}
use Rattle.std.specs.Option.{option_map, unwrap_or}
use Rattle.std.specs.declared.result.Result.{Result}
use Rattle.std.specs.declared.result.Result.TheVariants.{Ok, Err}
use Rattle.pn_carriers.specs.Carriers.{width_of}
use Rattle.pn_carriers.specs.Members.{IsMember, is_constant}
use Rattle.pn_lines.specs.Escapes.{is_line_byte}
use Rattle.pn_names.specs.Names.{constant_ids, widths_of}
use Rattle.pn_syntax.specs.declared.declaration.Declaration.{Declaration}
use Rattle.pn_values.specs.declared.sort.Sort.{Sort}
use Rattle.pn_values.specs.declared.value.Value.{Value}
use Rattle.pn_values.specs.declared.value.Value.TheViews.{out-Value}
use Rattle.pn_words.specs.Languages.{Broken, IsRead}
use Rattle.pn_mode_text.specs.Texts.{constant_text, value_text}
use Rattle.pn_mode_text.specs.declared.reading.ReadFault.{ReadFault}
use Rattle.pn_mode_text.specs.declared.reading.ReadFault.TheVariants as faults

-- a word was read, its value and the bytes behind it answered; or there was no memory; or so many bytes are left, as they are broken for the language
abbrev pub ReadsOr : {V T : Type 0} → (V → List ℕ → Type 0) → List ℕ → (T → V) → (T → List ℕ) → Result T ReadFault → Type 0
ReadsOr L b value rest (Ok x) = IsRead L b (value x) (rest x)
ReadsOr L b value rest (Err (faults.Memory e)) = Unit {0}
ReadsOr L b value rest (Err (faults.Broken left)) = Broken L b left

-- a byte that stands in no escaped text
abbrev pub is_stop : ℕ → Bool
is_stop b = not (is_line_byte b)

-- marks that end an escaped text
abbrev pub AreStops : List ℕ → Type 0
AreStops marks = list_all is_stop marks ≡ true

-- no id of these stands twice
abbrev pub StandOnce : List (List ℕ) → Type 0
StandOnce ids = (i j : ℕ) (id : List ℕ) → slice_get ids i ≡ Some id → slice_get ids j ≡ Some id → i ≡ j

-- the ids of the constants or elements of the declaration at this place
abbrev pub ids_at : List Declaration → ℕ → List (List ℕ)
ids_at items place = unwrap_or (option_map constant_ids (slice_get items place)) []

-- a constant or an element of the declaration at this place, and its text
abbrev pub IsConstantText : List Declaration → ℕ → Value → List ℕ → Type 0
IsConstantText items place v t = (is_constant (width_of (widths_of items) place) (out-Value v) ≡ true) × (t ≡ constant_text items place (out-Value v))

-- a value of a sort, and its text
abbrev pub IsValueText : List Declaration → Sort → Value → List ℕ → Type 0
IsValueText items sort v t = IsMember (widths_of items) v sort × (t ≡ value_text items sort v)
