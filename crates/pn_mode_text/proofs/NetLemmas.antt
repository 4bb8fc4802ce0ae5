-- What is put of a net's tokens and modes is their text.
use Rattle.std.proofs.Common.{◌≡◌, ℕ, ◌<◌, List, length, get_or, Some, slice_get, sym, ap, ◌∙◌, subst, refl}
use Rattle.std.proofs.lemmas.Option.{slice_get_read}
use Rattle.std.specs.List.{AllZip}
use Rattle.pn_carriers.specs.Members.{IsMember}
use Rattle.pn_eval.specs.Assignments.{IsAssignment}
use Rattle.pn_marking.proofs.OnceLemmas.{variables_once}
use Rattle.pn_marking.specs.Modes.{IsAssigned}
use Rattle.pn_marking.specs.Totals.{IsTokenOf}
use Rattle.pn_names.specs.Names.{widths_of}
use Rattle.pn_net.specs.Typed.{AreVariablesAt, IsSortOfPlace}
use Rattle.pn_net.specs.declared.flat.Flat.{Flat}
use Rattle.pn_net.specs.declared.mode.Mode.{Mode}
use Rattle.pn_net.specs.declared.token.Token.{Token}
use Rattle.pn_objects.specs.declared.object.Place.{Place}
use Rattle.pn_objects.specs.declared.object.Transition.{Transition}
use Rattle.pn_syntax.specs.declared.declaration.Declaration.{Declaration}
use Rattle.pn_terms.proofs.SortLemmas.{same_some}
use Rattle.pn_values.specs.declared.sort.Sort.{Sort}
use Rattle.pn_values.specs.declared.value.Value.{Value}
use Rattle.pn_mode_text.specs.Texts.{IsModeText, IsTokenText, IsTypedVariable, TypedVariable, mode_text, token_text}
use Rattle.pn_mode_text.proofs.VariableLemmas.{place_sort_once}

-- the value of a token is of the sort that its place is told to have
pub member_of : (f : Flat) (k : Token) (ds : List Declaration) (sort : Sort) → ds ≡ f.declarations → IsSortOfPlace f k.place sort → IsTokenOf f k → IsMember (widths_of ds) k.value sort
member_of f k ds sort declared of_place (s, also, member) =
    subst (λ (items : List Declaration). IsMember (widths_of items) k.value sort) (sym declared)
    (subst (λ (r : Sort). IsMember (widths_of f.declarations) k.value r) (place_sort_once f k.place s sort also of_place) member)

pub is_token_text : (f : Flat) (k : Token) (ds : List Declaration) (places : List Place) (x : Place) (id : List ℕ) (sort : Sort) → ds ≡ f.declarations → places ≡ f.places → k.place < length places
    → x ≡ get_or places k.place x → id ≡ x.id → IsSortOfPlace f k.place sort → IsTokenText f k (token_text ds id sort k.value)
is_token_text f k ds places x id sort declared same within at named (p, is, has) =
    let here : slice_get f.places k.place ≡ Some x = subst (λ (ps : List Place). slice_get ps k.place ≡ Some x) same (slice_get_read places _ k.place x refl within at) in
    let one : x ≡ p = same_some x p _ here is in
    record {
      place = p;
      is_place = is;
      sort = sort;
      of_sort = has;
      text_is = ap (λ items. token_text items id sort k.value) declared ∙ ap (λ i. token_text f.declarations i sort k.value) (named ∙ ap (λ (q : Place). q.id) one);
    }

-- the values of a mode are those of the transition's variables as they are told
pub assigned_to : (f : Flat) (mode : Mode) (ds : List Declaration) (vars : List ℕ) (values : List Value) → ds ≡ f.declarations → values ≡ mode.values → AreVariablesAt f mode.transition vars
    → (vs : List ℕ) → IsAssigned f mode vs → IsAssignment ds vars values
assigned_to f mode ds vars values declared same are vs assigned =
    subst (λ (items : List Declaration). IsAssignment items vars values) (sym declared)
    (subst (λ (us : List Value). IsAssignment f.declarations vars us) (sym same)
    (subst (λ (ns : List ℕ). IsAssignment f.declarations ns mode.values) (variables_once f mode.transition vs vars assigned.variables are) assigned.assignment))

pub is_mode_text : (f : Flat) (mode : Mode) (ds : List Declaration) (transitions : List Transition) (x : Transition) (id : List ℕ) (vars : List ℕ) (values : List Value) (typed : List TypedVariable)
    → ds ≡ f.declarations → transitions ≡ f.transitions → mode.transition < length transitions → x ≡ get_or transitions mode.transition x → id ≡ x.id → AreVariablesAt f mode.transition vars
    → AllZip (IsTypedVariable ds) vars typed → values ≡ mode.values → IsModeText f mode (mode_text ds id typed values)
is_mode_text f mode ds transitions x id vars values typed declared same within at named are told values_are = record {
  transition = x;
  is_transition = subst (λ (ts : List Transition). slice_get ts mode.transition ≡ Some x) same (slice_get_read transitions _ mode.transition x refl within at);
  vars = vars;
  variables = are;
  typed = typed;
  are_typed = subst (λ (items : List Declaration). AllZip (IsTypedVariable items) vars typed) declared told;
  text_is =
      ap (λ items. mode_text items id typed values) declared ∙ ap (λ i. mode_text f.declarations i typed values) named ∙ ap (λ (vs : List Value). mode_text f.declarations x.id typed vs) values_are;
}
