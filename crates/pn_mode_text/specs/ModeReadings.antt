-- The languages of the parts of a mode word (ISO/IEC 15909-1, modes).
use Rattle.std.specs.Prelude.{◌≡◌, ℕ, List, [], ◌∷◌, ◌++◌, ◌-◌, length, map, min, codes}
use Rattle.std.specs.List.{AllZip}
use Rattle.pn_carriers.specs.Members.{IsMember}
use Rattle.pn_ids.specs.Names.{AreDistinct}
use Rattle.pn_lines.specs.Escapes.{escaped}
use Rattle.pn_marking.specs.Modes.{IsAssigned}
use Rattle.pn_names.specs.Names.{names_of, widths_of}
use Rattle.pn_net.specs.Typed.{AreVariablesAt}
use Rattle.pn_net.specs.declared.flat.Flat.{Flat}
use Rattle.pn_net.specs.declared.mode.Mode.{Mode}
use Rattle.pn_resolve.specs.Meaning.{Resolves}
use Rattle.pn_syntax.specs.declared.declaration.Declaration.{Declaration}
use Rattle.pn_syntax.specs.declared.sort_expr.SortExpr.{SortExpr}
use Rattle.pn_values.specs.declared.sort.Sort.{Sort}
use Rattle.pn_values.specs.declared.value.Value.{Value}
use Rattle.pn_words.specs.Languages.{Listed}
use Rattle.pn_mode_text.specs.Readings.{StandOnce}
use Rattle.pn_mode_text.specs.Texts.{IsModeText, IsTypedVariable, TypedVariable, given_text}
use Rattle.pn_mode_text.specs.ValueReadings.{HaveIds}
use Rattle.pn_mode_text.specs.Words.{IsModeWord}
use Rattle.pn_mode_text.specs.declared.reading.ReadFault.{ReadFault}
use Rattle.pn_mode_text.specs.declared.words.ModeTextFault.{ModeTextFault}
use Rattle.pn_mode_text.specs.declared.words.ModeTextFault.TheVariants as told
use Rattle.pn_mode_text.specs.declared.reading.ReadFault.TheVariants as faults

-- the ids of the transitions
abbrev pub transition_ids : Flat → List (List ℕ)
transition_ids f = map (λ t. t.id) f.transitions

-- a transition by its number, and its escaped id
abbrev pub IsTransitionText : Flat → ℕ → List ℕ → Type 0
IsTransitionText f = Listed (map escaped (transition_ids f)) (length (transition_ids f))

-- each sort that is written has a value
abbrev pub AreInhabited : List Declaration → Type 0
AreInhabited items = (e : SortExpr) (s : Sort) → Resolves items e s → (v : Value) × IsMember (widths_of items) v s

-- in a net of a document: no id is given twice, those of constants are not empty, and each sort has a value
pub record IsReadable (f : Flat) : Type 0 where
  pub once : StandOnce (transition_ids f)
  pub distinct : AreDistinct (names_of f.declarations)
  pub named : HaveIds f.declarations
  pub inhabited : AreInhabited f.declarations

-- a value of the variable's sort, behind the variable's escaped id and `=`
abbrev pub IsGivenText : List Declaration → TypedVariable → Value → List ℕ → Type 0
IsGivenText items x v t = IsMember (widths_of items) v x.sort × (t ≡ given_text items x v)

-- the mark behind a value where these variables are behind it: `]` behind the last
abbrev pub mark_before : List TypedVariable → ℕ
mark_before [] = 93
mark_before (x ∷ xs) = 44

-- each of the variables with its value and the mark behind it
abbrev pub given_texts : List Declaration → List TypedVariable → List Value → List ℕ
given_texts items [] vs = []
given_texts items (x ∷ xs) [] = []
given_texts items (x ∷ xs) (v ∷ vs) = given_text items x v ++ mark_before xs ∷ given_texts items xs vs

-- a value of its sort for each of the variables, with the marks behind them
abbrev pub AreGivenTexts : List Declaration → List TypedVariable → List Value → List ℕ → Type 0
AreGivenTexts items xs vs w = AllZip (λ x v. IsMember (widths_of items) v x.sort) xs vs × (w ≡ given_texts items xs vs)

-- what stands behind `[`: the variables with their values, and `]`
abbrev pub AreClosedTexts : List Declaration → List TypedVariable → List Value → List ℕ → Type 0
AreClosedTexts items [] vs w = (vs ≡ []) × (w ≡ codes "]")
AreClosedTexts items (x ∷ xs) vs w = AreGivenTexts items (x ∷ xs) vs w

-- these are the variables of the transition of this number, with their sorts
abbrev pub AreTypedAt : Flat → ℕ → List TypedVariable → Type 0
AreTypedAt f t typed = (vars : List ℕ) × AreVariablesAt f t vars × AllZip (IsTypedVariable f.declarations) vars typed

-- the values of a transition's variables, as they stand behind `[`
abbrev pub IsBracketText : Flat → ℕ → List Value → List ℕ → Type 0
IsBracketText f t vs w = (typed : List TypedVariable) × AreTypedAt f t typed × AreClosedTexts f.declarations typed vs w

-- a mode of the transition of this number, by what stands behind `[`
abbrev pub IsTailText : Flat → ℕ → Mode → List ℕ → Type 0
IsTailText f t mode w = (mode.transition ≡ t) × IsBracketText f t mode.values w

-- a transition with a value of its sort for each of its variables, and its text
abbrev pub IsAssignedText : Flat → Mode → List ℕ → Type 0
IsAssignedText f mode w = ((vars : List ℕ) × IsAssigned f mode vars) × IsModeText f mode w

-- a mode word, by its number and mode
abbrev pub IsWord : Flat → ℕ × Mode → List ℕ → Type 0
IsWord f p w = IsModeWord f w p.0 p.1

-- a fault where bytes are broken for another language too: fewer of them are left
abbrev pub IsNearer : ReadFault → ℕ → ReadFault → Type 0
IsNearer (faults.Memory e) less r = r ≡ faults.Memory e
IsNearer (faults.Broken left) less r = r ≡ faults.Broken (min left less)

-- what is told of a word of so many bytes: where it is broken, how many bytes are before the break
abbrev pub IsToldBreak : ReadFault → ℕ → ModeTextFault → Type 0
IsToldBreak (faults.Memory e) n r = r ≡ told.Memory e
IsToldBreak (faults.Broken left) n r = r ≡ told.BadMode (n - min left n)
