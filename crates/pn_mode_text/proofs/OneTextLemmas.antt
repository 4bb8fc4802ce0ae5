-- A mode has one text.
use Rattle.std.proofs.Common.{◌≡◌, ℕ, List, [], ◌∷◌, map, Some, refl, sym, ap, ◌∙◌, subst}
use Rattle.std.specs.List.{AllZip}
use Rattle.pn_marking.proofs.OnceLemmas.{variables_once}
use Rattle.pn_names.specs.Names.{Variable}
use Rattle.pn_net.specs.declared.flat.Flat.{Flat}
use Rattle.pn_net.specs.declared.mode.Mode.{Mode}
use Rattle.pn_objects.specs.declared.object.Transition.{Transition}
use Rattle.pn_resolve.specs.Meaning.{Resolves}
use Rattle.pn_resolve.proofs.Meanings.{resolves_once}
use Rattle.pn_sorts.specs.Lookups.{IsVariableSort}
use Rattle.pn_syntax.specs.declared.declaration.Declaration.{Declaration}
use Rattle.pn_terms.proofs.SortLemmas.{same_some}
use Rattle.pn_values.specs.declared.sort.Sort.{Sort}
use Rattle.pn_mode_text.specs.Texts.{IsModeText, IsTypedVariable, TypedVariable, mode_text}

-- a variable has one id and one sort
one_typed : (items : List Declaration) (v : ℕ) (x y : TypedVariable) → IsTypedVariable items v x → IsTypedVariable items v y → x ≡ y
one_typed items v x y (a, is, id_is, has) (b, also, id_also, other) =
    let same : a ≡ b = same_some a b _ is also in
    let id : x.id ≡ y.id = id_is ∙ ap (λ (z : Variable). z.id) same ∙ sym id_also in
    let sort : x.sort ≡ y.sort = resolves_once items b.sort x.sort y.sort (subst (λ (z : Variable). Resolves items z.sort x.sort) same has) other in
    λ i. record { id = id i; sort = sort i }

each_one_typed : (items : List Declaration) (vs : List ℕ) (xs ys : List TypedVariable) → AllZip (IsTypedVariable items) vs xs → AllZip (IsTypedVariable items) vs ys → xs ≡ ys
each_one_typed items [] [] [] is also = refl
each_one_typed items [] (x ∷ xs) ys is also = absurd is
each_one_typed items [] [] (y ∷ ys) is also = absurd also
each_one_typed items (v ∷ vs) [] ys is also = absurd is
each_one_typed items (v ∷ vs) (x ∷ xs) [] is also = absurd also
each_one_typed items (v ∷ vs) (x ∷ xs) (y ∷ ys) is also =
    let first = one_typed items v x y is.0 also.0 in
    let rest = each_one_typed items vs xs ys is.1 also.1 in
    λ i. first i ∷ rest i

-- a mode has one text
pub mode_text_once : (f : Flat) (m : Mode) (t u : List ℕ) → IsModeText f m t → IsModeText f m u → t ≡ u
mode_text_once f m t u p q =
    let items = f.declarations in
    let transition : p.transition ≡ q.transition = same_some p.transition q.transition _ p.is_transition q.is_transition in
    let vars : p.vars ≡ q.vars = variables_once f m.transition p.vars q.vars p.variables q.variables in
    let typed : p.typed ≡ q.typed = each_one_typed items q.vars p.typed q.typed (subst (λ vs. AllZip (IsTypedVariable items) vs p.typed) vars p.are_typed) q.are_typed in
    p.text_is ∙ ap (λ (x : Transition). mode_text items x.id p.typed m.values) transition ∙ ap (λ xs. mode_text items q.transition.id xs m.values) typed ∙ sym q.text_is

-- the variables have ids and sorts where they have sorts
pub typed_of_sorts : (items : List Declaration) (vs : List ℕ) (sorts : List Sort) → AllZip (IsVariableSort items) vs sorts → (typed : List TypedVariable) × AllZip (IsTypedVariable items) vs typed
typed_of_sorts items [] sorts zip = ([], tt)
typed_of_sorts items (v ∷ vs) [] zip = absurd zip
typed_of_sorts items (v ∷ vs) (sort ∷ sorts) zip =
    let rest = typed_of_sorts items vs sorts zip.1 in
    let declared : Variable = zip.0.0 in
    (record { id = declared.id; sort = sort } ∷ rest.0, ((declared, zip.0.1, refl, zip.0.2), rest.1))
