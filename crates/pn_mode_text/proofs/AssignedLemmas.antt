-- A transition with values for its variables is its id, and behind the bracket the variables with their values.
use Rattle.std.proofs.Common.{◌≡◌, ℕ, zero, suc, ◌<◌, ◌==◌, Bool, true, false, cond, List, [], ◌∷◌, ◌++◌, codes, length, map, get_or, Some, option_map, append_assoc, refl, sym, ap, ◌∙◌, subst, arith}
use Rattle.std.specs.List.{AllZip, flat_map, slice_get}
use Rattle.std.specs.List.Sorted.{IsStrictlyIncreasing}
use Rattle.std.proofs.lemmas.Bool.Decides.{nat_tests}
use Rattle.std.proofs.lemmas.Option.{slice_get-get_or, slice_get-map, slice_get_within}
use Rattle.pn_carriers.specs.Members.{IsMember}
use Rattle.pn_eval.specs.Assignments.{IsAssignment, value_of_variable}
use Rattle.pn_facts.proofs.Contained.{contains_first, contains_one}
use Rattle.pn_facts.proofs.Lists.{got}
use Rattle.pn_lines.specs.Escapes.{escaped}
use Rattle.pn_marking.proofs.OnceLemmas.{variables_once}
use Rattle.pn_names.specs.Names.{Variable, variable_name, variables_of, widths_of}
use Rattle.pn_net.specs.Typed.{AreVariablesAt}
use Rattle.pn_net.specs.declared.flat.Flat.{Flat}
use Rattle.pn_net.specs.declared.mode.Mode.{Mode}
use Rattle.pn_objects.specs.declared.object.Transition.{Transition}
use Rattle.pn_resolve.proofs.Meanings.{resolves_once}
use Rattle.pn_resolve.specs.Meaning.{Resolves}
use Rattle.pn_sorts.specs.Lookups.{IsVariableSort}
use Rattle.pn_syntax.specs.declared.declaration.Declaration.{Declaration}
use Rattle.pn_terms.proofs.SortLemmas.{same_some}
use Rattle.pn_values.specs.declared.sort.Sort.{Sort}
use Rattle.pn_values.specs.declared.value.Value.{Value}
use Rattle.pn_words.proofs.ThenLemmas.{first_broken_among}
use Rattle.pn_words.proofs.WayLemmas.{onward, renamed, then_continues_at}
use Rattle.pn_words.specs.Languages.{Broken, Closed, Continues, IsRead, Then}
use Rattle.pn_mode_text.specs.ModeReadings.{AreClosedTexts, AreInhabited, AreTypedAt, IsAssignedText, IsBracketText, IsTailText, IsTransitionText, given_texts, mark_before, transition_ids}
use Rattle.pn_mode_text.specs.Texts.{IsTypedVariable, TypedVariable, each_text, given_text, mode_text, with_commas}
use Rattle.pn_mode_text.proofs.GivenLemmas.{given_some, have_members}
use Rattle.pn_mode_text.proofs.VariableLemmas.{member_at, typed_once, zip_as_many, zip_at}

-- ---- the texts

-- texts behind each other with the marks behind them are texts with commas between them, and `]`
texts_are : (items : List Declaration) (xs : List TypedVariable) (vs : List Value) → length xs ≡ length vs
    → mark_before xs ∷ given_texts items xs vs ≡ flat_map (λ next. codes "," ++ next) (each_text (map (given_text items) xs) vs) ++ codes "]"
texts_are items [] [] same = refl
texts_are items [] (v ∷ vs) same = absurd (omega (arith, same))
texts_are items (x ∷ xs) [] same = absurd (omega (arith, same))
texts_are items (x ∷ xs) (v ∷ vs) same =
    let rest = flat_map (λ next. codes "," ++ next) (each_text (map (given_text items) xs) vs) in
    ap (λ l. 44 ∷ (given_text items x v ++ l)) (texts_are items xs vs (omega (arith, same))) ∙ sym (append_assoc (44 ∷ given_text items x v) rest (codes "]"))

abbrev inside : List Declaration → List TypedVariable → List Value → List ℕ
inside items xs vs = with_commas (each_text (map (given_text items) xs) vs) ++ codes "]"

some_inside : (items : List Declaration) (x : TypedVariable) (xs : List TypedVariable) (v : Value) (vs : List Value) → length xs ≡ length vs
    → given_texts items (x ∷ xs) (v ∷ vs) ≡ inside items (x ∷ xs) (v ∷ vs)
some_inside items x xs v vs same =
    let rest = flat_map (λ next. codes "," ++ next) (each_text (map (given_text items) xs) vs) in
    ap (λ l. given_text items x v ++ l) (texts_are items xs vs same) ∙ sym (append_assoc (given_text items x v) rest (codes "]"))

abbrev AreMembers : List Declaration → List TypedVariable → List Value → Type 0
AreMembers items = AllZip (λ x v. IsMember (widths_of items) v x.sort)

closed_is : (items : List Declaration) (xs : List TypedVariable) (vs : List Value) (w : List ℕ) → AreClosedTexts items xs vs w → AreMembers items xs vs × (w ≡ inside items xs vs)
closed_is items [] vs w (none, is) = (subst (λ (us : List Value). AreMembers items [] us) (sym none) tt, is)
closed_is items (x ∷ xs) [] w h = absurd h.0
closed_is items (x ∷ xs) (v ∷ vs) w h = (h.0, h.1 ∙ some_inside items x xs v vs (zip_as_many (λ (y : TypedVariable) (u : Value). IsMember (widths_of items) u y.sort) xs vs h.0.1))

is_closed : (items : List Declaration) (xs : List TypedVariable) (vs : List Value) (w : List ℕ) → AreMembers items xs vs → w ≡ inside items xs vs → AreClosedTexts items xs vs w
is_closed items [] [] w are is = (refl, is)
is_closed items [] (v ∷ vs) w are is = absurd are
is_closed items (x ∷ xs) [] w are is = absurd are
is_closed items (x ∷ xs) (v ∷ vs) w are is = (are, is ∙ sym (some_inside items x xs v vs (zip_as_many (λ (y : TypedVariable) (u : Value). IsMember (widths_of items) u y.sort) xs vs are.1)))

-- ---- the values

zip_from : {A B : Type 0} (R : A → B → Type 0) (xs : List A) (ys : List B) → length xs ≡ length ys
    → ((i : ℕ) (x : A) (y : B) → slice_get xs i ≡ Some x → slice_get ys i ≡ Some y → R x y) → AllZip R xs ys
zip_from R [] [] same all = tt
zip_from R [] (y ∷ ys) same all = absurd (omega (arith, same))
zip_from R (x ∷ xs) [] same all = absurd (omega (arith, same))
zip_from R (x ∷ xs) (y ∷ ys) same all = (all 0 x y refl refl, zip_from R xs ys (omega (arith, same)) (λ i. all (suc i)))

variable_sort_of : (items : List Declaration) (v : ℕ) (x : TypedVariable) → IsTypedVariable items v x → IsVariableSort items v x.sort
variable_sort_of items v x (declared, at, id, resolves) = (declared, at, resolves)

-- an assignment has a value of its sort for each variable
members_of : (items : List Declaration) (vars : List ℕ) (xs : List TypedVariable) (vs : List Value) → IsAssignment items vars vs → AllZip (IsTypedVariable items) vars xs → AreMembers items xs vs
members_of items vars xs vs a are =
    zip_from (λ (x : TypedVariable) (v : Value). IsMember (widths_of items) v x.sort) xs vs (omega (arith, many, a.size)) at
  where
    many : length vars ≡ length xs
    many = zip_as_many (IsTypedVariable items) vars xs are

    at : (i : ℕ) (x : TypedVariable) (v : Value) → slice_get xs i ≡ Some x → slice_get vs i ≡ Some v → IsMember (widths_of items) v x.sort
    at i x v has_x has_v =
        let within : i < length vars = omega (arith, many, slice_get_within xs i x has_x) in
        let n = got vars i within in
        let y = zip_at (IsTypedVariable items) vars xs i n.0 are n.1 in
        let same : y.0 ≡ x = same_some y.0 x _ y.1 has_x in
        member_at items vars vs i n.0 v a within n.1 (same_some v (get_or vs i v) _ has_v (slice_get-get_or vs i v (slice_get_within vs i v has_v))) x.sort
        (variable_sort_of items n.0 x (subst (λ (z : TypedVariable). IsTypedVariable items n.0 z) same y.2))

-- and such values are an assignment
assignment_of : (items : List Declaration) (vars : List ℕ) (xs : List TypedVariable) (vs : List Value) → IsStrictlyIncreasing vars → AllZip (IsTypedVariable items) vars xs → AreMembers items xs vs → IsAssignment items vars vs
assignment_of items vars xs vs ascending are members =
    record { ascending = ascending; size = as_many; members = λ v value sort has of_sort. each vars xs vs are members v value sort has of_sort }
  where
    as_many : length vs ≡ length vars
    as_many = sym (zip_as_many (IsTypedVariable items) vars xs are ∙ zip_as_many (λ (x : TypedVariable) (v : Value). IsMember (widths_of items) v x.sort) xs vs members)

    each : (ns : List ℕ) (ys : List TypedVariable) (us : List Value) → AllZip (IsTypedVariable items) ns ys → AreMembers items ys us → (v : ℕ) (value : Value) (sort : Sort)
        → value_of_variable ns us v ≡ Some value → IsVariableSort items v sort → IsMember (widths_of items) value sort
    each [] ys us are all v value sort has of_sort = absurd cc
    each (n ∷ ns) [] us are all v value sort has of_sort = absurd are
    each (n ∷ ns) (y ∷ ys) [] are all v value sort has of_sort = absurd all
    each (n ∷ ns) (y ∷ ys) (u ∷ us) are all v value sort has of_sort =
        by (n == v) refl has (λ later. each ns ys us are.1 all.1 v value sort later of_sort)
      where
        first : n ≡ v → u ≡ value → IsMember (widths_of items) value sort
        first same is =
            let of_first : IsVariableSort items n sort = subst (λ k. IsVariableSort items k sort) (sym same) of_sort in
            let one : sort ≡ y.sort = once (variable_sort_of items n y are.0) of_first in
            subst (λ (r : Sort). IsMember (widths_of items) value r) (sym one) (subst (λ (x : Value). IsMember (widths_of items) x y.sort) is all.0)
          where
            once : IsVariableSort items n y.sort → IsVariableSort items n sort → sort ≡ y.sort
            once (x, at, resolves) (z, also, other) =
                let declared = same_some z x _ also at in
                resolves_once items x.sort sort y.sort (subst (λ (w : Variable). Resolves items w.sort sort) declared other) resolves

        by : (t : Bool) → (n == v) ≡ t → cond t (Some u) (value_of_variable ns us v) ≡ Some value → (value_of_variable ns us v ≡ Some value → IsMember (widths_of items) value sort) → IsMember (widths_of items) value sort
        by true e is later = first (grind (arith, nat_tests)) cc
        by false e is later = later is

-- ---- typed variables

-- the variables of a transition are typed in one way
typed_lists_once : (items : List Declaration) (vars : List ℕ) (xs ys : List TypedVariable) → AllZip (IsTypedVariable items) vars xs → AllZip (IsTypedVariable items) vars ys → xs ≡ ys
typed_lists_once items [] [] [] are also = refl
typed_lists_once items [] (x ∷ xs) ys are also = absurd are
typed_lists_once items [] [] (y ∷ ys) are also = absurd also
typed_lists_once items (v ∷ vars) [] ys are also = absurd are
typed_lists_once items (v ∷ vars) (x ∷ xs) [] are also = absurd also
typed_lists_once items (v ∷ vars) (x ∷ xs) (y ∷ ys) are also = λ i. one i ∷ typed_lists_once items vars xs ys are.1 also.1 i
  where
    one : x ≡ y
    one =
        let named : option_map variable_name (slice_get (variables_of items) v) ≡ Some x.id = ap (option_map variable_name) are.0.1 ∙ ap Some (sym are.0.2) in
        let told = typed_once items v x.id x.sort y named (variable_sort_of items v x are.0) also.0 in
        λ i. record { id = told.0 i; sort = told.1 i }

pub typed_at_once : (f : Flat) (t : ℕ) (xs ys : List TypedVariable) → AreTypedAt f t xs → AreTypedAt f t ys → xs ≡ ys
typed_at_once f t xs ys is also =
    typed_lists_once f.declarations is.0 xs ys is.2
    (subst (λ (vs : List ℕ). AllZip (IsTypedVariable f.declarations) vs ys) (variables_once f t also.0 is.0 also.1 is.1) also.2)

-- what stands behind `[`, by the variables as they are told
pub bracket_is : (f : Flat) (t : ℕ) (ds : List Declaration) (xs : List TypedVariable) (b : List ℕ) → ds ≡ f.declarations → AreTypedAt f t xs → Continues (IsBracketText f t) b (AreClosedTexts ds xs) b (λ vs. vs)
bracket_is f t ds xs b same are =
    subst (λ (items : List Declaration). Continues (IsBracketText f t) b (AreClosedTexts items xs) b (λ vs. vs)) (sym same)
    (renamed (IsBracketText f t) (AreClosedTexts f.declarations xs) (λ vs. vs) b (λ vs w h. (xs, are, h))
    (λ vs w h. (vs, refl, subst (λ (ys : List TypedVariable). AreClosedTexts f.declarations ys vs w) (typed_at_once f t h.0 xs h.1 are) h.2)))

pub tail_is : (f : Flat) (t : ℕ) (b : List ℕ) → Continues (IsTailText f t) b (IsBracketText f t) b (λ vs. record { transition = t; values = vs })
tail_is f t b =
    renamed (IsTailText f t) (IsBracketText f t) (λ vs. record { transition = t; values = vs }) b (λ vs w h. (refl, h)) (λ mode w h. (mode.values, (λ i. record { transition = h.0 i; values = mode.values }), h.1))

-- where each sort has a value, each transition whose variables have sorts has values for them
pub tail_some : (f : Flat) (t : ℕ) → AreInhabited f.declarations → (xs : List TypedVariable) × AreTypedAt f t xs → (mode : Mode) × (w : List ℕ) × IsTailText f t mode w
tail_some f t all (xs, are) =
    let given = given_some f.declarations xs (have_members f.declarations are.0 xs all are.2) in
    let w = inside f.declarations xs given.0 in
    (record { transition = t; values = given.0 }, w, (refl, (xs, are, is_closed f.declarations xs given.0 w given.2.0 refl)))

-- ---- the whole text

-- the id of a transition with the bracket, and the mode behind it
abbrev pub IdThenTail : Flat → (ℕ × ℕ) × Mode → List ℕ → Type 0
IdThenTail f = Then (Closed (IsTransitionText f) (91 ∷ [])) (λ p. IsTailText f p.0)

whole_text : (items : List Declaration) (id : List ℕ) (xs : List TypedVariable) (vs : List Value) → (escaped id ++ 91 ∷ []) ++ inside items xs vs ≡ mode_text items id xs vs
whole_text items id xs vs = append_assoc (escaped id) (91 ∷ []) (inside items xs vs)

id_text_at : (f : Flat) (t : ℕ) (x : Transition) → slice_get f.transitions t ≡ Some x → slice_get (map escaped (transition_ids f)) t ≡ Some (escaped x.id)
id_text_at f t x got =
    slice_get-map escaped (transition_ids f) t ∙ ap (option_map escaped) (slice_get-map (λ (y : Transition). y.id) f.transitions t ∙ ap (option_map (λ (y : Transition). y.id)) got)

id_count : (ts : List Transition) → length (map (λ (y : Transition). y.id) ts) ≡ length ts
id_count [] = refl
id_count (t ∷ ts) = ap suc (id_count ts)

pub is_assigned : (f : Flat) (q : (ℕ × ℕ) × Mode) (w : List ℕ) → IdThenTail f q w → IsAssignedText f q.1 w
is_assigned f q w (a, c, (t, (lt, is), mark, a_is), (same, (xs, (vars, are, zip), closed)), cut) =
    let mode = q.1 in
    let x = got f.transitions q.0.0 (omega (arith, lt, id_count f.transitions)) in
    let here : slice_get f.transitions mode.transition ≡ Some x.0 = subst (λ n. slice_get f.transitions n ≡ Some x.0) (sym same) x.1 in
    let variables : AreVariablesAt f mode.transition vars = subst (λ n. AreVariablesAt f n vars) (sym same) are in
    let parts = closed_is f.declarations xs mode.values c closed in
    let id : t ≡ escaped x.0.id = same_some t (escaped x.0.id) _ is (id_text_at f q.0.0 x.0 x.1) in (
      (
        vars,
        record {
          within = slice_get_within f.transitions mode.transition x.0 here;
          variables = variables;
          assignment = assignment_of f.declarations vars xs mode.values variables.ascending zip parts.0;
        },
      ),
      record {
        transition = x.0;
        is_transition = here;
        vars = vars;
        variables = variables;
        typed = xs;
        are_typed = zip;
        text_is = cut ∙ (λ i. (a_is ∙ (λ j. id j ++ contains_one 91 q.0.1 mark j ∷ [])) i ++ parts.1 i) ∙ whole_text f.declarations x.0.id xs mode.values;
      },
    )

pub assigned_is : (f : Flat) (b : List ℕ) → Continues (IsAssignedText f) b (IdThenTail f) b (λ q. q.1)
assigned_is f b = renamed (IsAssignedText f) (IdThenTail f) (λ q. q.1) b (is_assigned f) from
  where
    from : (mode : Mode) (w : List ℕ) → IsAssignedText f mode w → (q : (ℕ × ℕ) × Mode) × (mode ≡ q.1) × IdThenTail f q w
    from mode w ((vars, assigned), text) =
        let items = f.declarations in
        let assignment = subst (λ (ns : List ℕ). IsAssignment items ns mode.values) (variables_once f mode.transition vars text.vars assigned.variables text.variables) assigned.assignment in
        let members = members_of items text.vars text.typed mode.values assignment text.are_typed in (
          ((mode.transition, 91), mode),
          refl,
          (
            escaped text.transition.id ++ 91 ∷ [],
            inside items text.typed mode.values,
            (
              escaped text.transition.id,
              (omega (arith, assigned.within, id_count f.transitions), id_text_at f mode.transition text.transition text.is_transition),
              contains_first 91 [],
              refl,
            ),
            (refl, (text.typed, (text.vars, text.variables, text.are_typed), is_closed items text.typed mode.values (inside items text.typed mode.values) members refl)),
            text.text_is ∙ sym (whole_text items text.transition.id text.typed mode.values),
          ),
        )

-- behind the id of a transition and the bracket the rest of the text goes on
pub assigned_goes_on : (f : Flat) (t : ℕ) (b c : List ℕ) → AreInhabited f.declarations → (xs : List TypedVariable) × AreTypedAt f t xs → IsRead (Closed (IsTransitionText f) (91 ∷ [])) b (t, 91) c
    → Continues (IsAssignedText f) b (IsTailText f t) c (λ mode. mode)
assigned_goes_on f t b c all are read =
    onward (IsAssignedText f) b (IdThenTail f) b (λ q. q.1) (IsTailText f t) c (λ mode. ((t, 91), mode)) (assigned_is f b)
    (then_continues_at (Closed (IsTransitionText f) (91 ∷ [])) (λ p. IsTailText f p.0) b (t, 91) c (tail_some f t all are) read)

pub assigned_breaks : (f : Flat) (b : List ℕ) (left : ℕ) → AreInhabited f.declarations → ((t : ℕ) → t < length f.transitions → (xs : List TypedVariable) × AreTypedAt f t xs)
    → Broken (Closed (IsTransitionText f) (91 ∷ [])) b left → Broken (IsAssignedText f) b left
assigned_breaks f b left all are broken =
    (assigned_is f b).broken left
    (first_broken_among (Closed (IsTransitionText f) (91 ∷ [])) (λ p. IsTailText f p.0) b left (λ p a h. tail_some f p.0 all (are p.0 (omega (arith, h.1.0, id_count f.transitions)))) broken)

pub number_within : (f : Flat) (t : ℕ) (b c : List ℕ) → IsRead (Closed (IsTransitionText f) (91 ∷ [])) b (t, 91) c → t < length f.transitions
number_within f t b c read = omega (arith, read.is_word.1.0, id_count f.transitions)

pub typed_at : (f : Flat) (t : ℕ) (ds : List Declaration) (vars : List ℕ) (xs : List TypedVariable) → ds ≡ f.declarations → AreVariablesAt f t vars → AllZip (IsTypedVariable ds) vars xs → AreTypedAt f t xs
typed_at f t ds vars xs same are zip = (vars, are, subst (λ (items : List Declaration). AllZip (IsTypedVariable items) vars xs) same zip)

-- where there is a transition whose variables have sorts, and each sort has a value, there is such a text
pub assigned_some : (f : Flat) (t : ℕ) → t < length f.transitions → AreInhabited f.declarations → (xs : List TypedVariable) × AreTypedAt f t xs → (mode : Mode) × (w : List ℕ) × IsAssignedText f mode w
assigned_some f t within all are =
    let tail = tail_some f t all are in
    let x = got f.transitions t within in
    let w = (escaped x.0.id ++ 91 ∷ []) ++ tail.1 in (
      tail.0,
      w,
      is_assigned f ((t, 91), tail.0) w
          (escaped x.0.id ++ 91 ∷ [], tail.1, (escaped x.0.id, (omega (arith, within, id_count f.transitions), id_text_at f t x.0 x.1), contains_first 91 [], refl), tail.2, refl),
    )

-- such a text begins with an escaped id and `[`
pub begins_with_id : (f : Flat) (mode : Mode) (w : List ℕ) → IsAssignedText f mode w → (id : List ℕ) × (rest : List ℕ) × (w ≡ (escaped id ++ 91 ∷ []) ++ rest)
begins_with_id f mode w (assigned, text) =
    (text.transition.id, inside f.declarations text.typed mode.values, text.text_is ∙ sym (whole_text f.declarations text.transition.id text.typed mode.values))
