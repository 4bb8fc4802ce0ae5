-- The variables of a transition with their values, one behind the other.
use Rattle.std.proofs.Common.{◌≡◌, ◌⊎◌, inl, ℕ, zero, suc, ◌+◌, ◌<◌, ◌≤◌, List, [], ◌∷◌, ◌++◌, length, drop, Some, codes, append-nil, append_assoc, refl, sym, ap, ◌∙◌, subst, arith}
use Rattle.std.specs.List.{AllZip, slice_get}
use Rattle.std.specs.declared.result.Result.{Result}
use Rattle.pn_carriers.specs.Members.{IsMember}
use Rattle.pn_facts.proofs.Contained.{contains_first, contains_one}
use Rattle.pn_facts.proofs.Lists.{drop_got}
use Rattle.pn_lines.specs.Escapes.{escaped}
use Rattle.pn_names.specs.Names.{widths_of}
use Rattle.pn_syntax.specs.declared.declaration.Declaration.{Declaration}
use Rattle.pn_values.specs.declared.value.Value.{Value}
use Rattle.pn_words.proofs.PieceLemmas.{closed_some}
use Rattle.pn_words.proofs.ThenLemmas.{first_broken}
use Rattle.pn_words.proofs.WayLemmas.{onward, renamed, then_continues}
use Rattle.pn_words.specs.Languages.{Apart, Broken, Closed, Continues, IsRead, Only, Then}
use Rattle.pn_mode_text.specs.ModeReadings.{AreClosedTexts, AreGivenTexts, AreInhabited, IsGivenText, given_texts, mark_before}
use Rattle.pn_mode_text.specs.Readings.{IsValueText, ReadsOr}
use Rattle.pn_mode_text.specs.Texts.{IsTypedVariable, TypedVariable, given_text, value_text}
use Rattle.pn_mode_text.specs.declared.reading.ReadFault.{ReadFault}

-- ---- one variable and its value

-- a variable's id with `=`, and the value behind them
abbrev IdThenValue : List Declaration → TypedVariable → List ℕ → (Unit {0} × ℕ) × (Value × ℕ) → List ℕ → Type 0
IdThenValue items x marks = Then (Closed (Only (escaped x.id)) (61 ∷ [])) (λ p. Closed (IsValueText items x.sort) marks)

given_parts : (items : List Declaration) (x : TypedVariable) (marks b : List ℕ) → Continues (Closed (IsGivenText items x) marks) b (IdThenValue items x marks) b (λ q. q.1)
given_parts items x marks b = renamed (Closed (IsGivenText items x) marks) (IdThenValue items x marks) (λ q. q.1) b to from
  where
    joined : (v : Value) (m : ℕ) → (escaped x.id ++ 61 ∷ []) ++ (value_text items x.sort v ++ m ∷ []) ≡ given_text items x v ++ m ∷ []
    joined v m =
        append_assoc (escaped x.id) (61 ∷ []) (value_text items x.sort v ++ m ∷ []) ∙ sym (append_assoc (escaped x.id) (61 ∷ value_text items x.sort v) (m ∷ []))

    to : (q : (Unit {0} × ℕ) × (Value × ℕ)) (w : List ℕ) → IdThenValue items x marks q w → Closed (IsGivenText items x) marks q.1 w
    to q w (a, c, (t, is, equals, a_is), (u, (member, text), mark, c_is), cut) = (
      given_text items x q.1.0,
      (member, refl),
      mark,
      cut ∙ (λ i. (a_is ∙ (λ j. is j ++ contains_one 61 q.0.1 equals j ∷ [])) i ++ (c_is ∙ ap (λ l. l ++ q.1.1 ∷ []) text) i) ∙ joined q.1.0 q.1.1,
    )

    from : (p : Value × ℕ) (w : List ℕ) → Closed (IsGivenText items x) marks p w → (q : (Unit {0} × ℕ) × (Value × ℕ)) × (p ≡ q.1) × IdThenValue items x marks q w
    from p w (t, (member, text), mark, cut) = (
      ((tt, 61), p),
      refl,
      (
        escaped x.id ++ 61 ∷ [],
        value_text items x.sort p.0 ++ p.1 ∷ [],
        (escaped x.id, refl, contains_first 61 [], refl),
        (value_text items x.sort p.0, (member, refl), mark, refl),
        cut ∙ ap (λ l. l ++ p.1 ∷ []) text ∙ sym (joined p.0 p.1),
      ),
    )

value_some : (items : List Declaration) (x : TypedVariable) (marks : List ℕ) → 0 < length marks → (v : Value) × IsMember (widths_of items) v x.sort
    → (p : Unit {0} × ℕ) → (y : Value × ℕ) × (w : List ℕ) × Closed (IsValueText items x.sort) marks y w
value_some items x marks some member p = closed_some (IsValueText items x.sort) marks some member.0 (value_text items x.sort member.0) (member.1, refl)

-- behind the id and `=` the value goes on
pub value_goes_on : (items : List Declaration) (x : TypedVariable) (marks b : List ℕ) (m : ℕ) (c : List ℕ) → 0 < length marks → (v : Value) × IsMember (widths_of items) v x.sort
    → IsRead (Closed (Only (escaped x.id)) (61 ∷ [])) b (tt, m) c → Continues (Closed (IsGivenText items x) marks) b (Closed (IsValueText items x.sort) marks) c (λ u. u)
value_goes_on items x marks b m c some member f =
    onward (Closed (IsGivenText items x) marks) b (IdThenValue items x marks) b (λ q. q.1) (Closed (IsValueText items x.sort) marks) c (λ u. ((tt, m), u)) (given_parts items x marks b)
    (then_continues (Closed (Only (escaped x.id)) (61 ∷ [])) (λ p. Closed (IsValueText items x.sort) marks) b (tt, m) c (value_some items x marks some member) f)

pub id_breaks : (items : List Declaration) (x : TypedVariable) (marks b : List ℕ) (left : ℕ) → 0 < length marks → (v : Value) × IsMember (widths_of items) v x.sort
    → Broken (Closed (Only (escaped x.id)) (61 ∷ [])) b left → Broken (Closed (IsGivenText items x) marks) b left
id_breaks items x marks b left some member f =
    (given_parts items x marks b).broken left (first_broken (Closed (Only (escaped x.id)) (61 ∷ [])) (λ p. Closed (IsValueText items x.sort) marks) b left (value_some items x marks some member) f)

-- ---- one behind the other

-- each of the variables has a value
abbrev pub HaveMembers : List Declaration → List TypedVariable → Type 0
HaveMembers items [] = Unit {0}
HaveMembers items (x ∷ xs) = ((v : Value) × IsMember (widths_of items) v x.sort) × HaveMembers items xs

pub given_some : (items : List Declaration) (xs : List TypedVariable) → HaveMembers items xs → (vs : List Value) × (w : List ℕ) × AreGivenTexts items xs vs w
given_some items [] all = ([], [], (tt, refl))
given_some items (x ∷ xs) all =
    let more = given_some items xs all.1 in (all.0.0 ∷ more.0, given_texts items (x ∷ xs) (all.0.0 ∷ more.0), ((all.0.1, more.2.0), refl))

abbrev OneThenMore : List Declaration → TypedVariable → List TypedVariable → (Value × ℕ) × List Value → List ℕ → Type 0
OneThenMore items x xs = Then (Closed (IsGivenText items x) (mark_before xs ∷ [])) (λ p. AreGivenTexts items xs)

one_more : (items : List Declaration) (x : TypedVariable) (xs : List TypedVariable) (b : List ℕ) → Continues (AreGivenTexts items (x ∷ xs)) b (OneThenMore items x xs) b (λ q. q.0.0 ∷ q.1)
one_more items x xs b = renamed (AreGivenTexts items (x ∷ xs)) (OneThenMore items x xs) (λ q. q.0.0 ∷ q.1) b to from
  where
    joined : (v : Value) (vs : List Value) → (given_text items x v ++ mark_before xs ∷ []) ++ given_texts items xs vs ≡ given_texts items (x ∷ xs) (v ∷ vs)
    joined v vs = append_assoc (given_text items x v) (mark_before xs ∷ []) (given_texts items xs vs)

    to : (q : (Value × ℕ) × List Value) (w : List ℕ) → OneThenMore items x xs q w → AreGivenTexts items (x ∷ xs) (q.0.0 ∷ q.1) w
    to q w (a, c, (t, (member, text), mark, a_is), (members, c_is), cut) = (
      (member, members),
      cut ∙ (λ i. (a_is ∙ (λ j. text j ++ contains_one (mark_before xs) q.0.1 mark j ∷ [])) i ++ c_is i) ∙ joined q.0.0 q.1,
    )

    from : (vs : List Value) (w : List ℕ) → AreGivenTexts items (x ∷ xs) vs w → (q : (Value × ℕ) × List Value) × (vs ≡ q.0.0 ∷ q.1) × OneThenMore items x xs q w
    from [] w h = absurd h.0
    from (v ∷ vs) w ((member, members), is) = (
      ((v, mark_before xs), vs),
      refl,
      (
        given_text items x v ++ mark_before xs ∷ [],
        given_texts items xs vs,
        (given_text items x v, (member, refl), contains_first (mark_before xs) [], refl),
        (members, refl),
        is ∙ sym (joined v vs),
      ),
    )

-- what was read of the variables so far
abbrev pub AreReadUpTo : List Declaration → List TypedVariable → List ℕ → ℕ → List Value → List ℕ → Type 0
AreReadUpTo items xs b i values c = Continues (AreGivenTexts items xs) b (AreGivenTexts items (drop i xs)) c (λ vs. values ++ vs)

pub none_read : (items : List Declaration) (xs : List TypedVariable) (b : List ℕ) (values : List Value) → values ≡ [] → AreReadUpTo items xs b 0 values b
none_read items xs b values none =
    subst (λ (vs : List Value). AreReadUpTo items xs b 0 vs b) (sym none) (record { found = λ u rest x. x; broken = λ left x. x })

rest_has : (items : List Declaration) (xs : List TypedVariable) (i : ℕ) → HaveMembers items xs → HaveMembers items (drop i xs)
rest_has items xs zero all = all
rest_has items [] (suc i) all = all
rest_has items (x ∷ xs) (suc i) all = rest_has items xs i all.1

pub given_next : (items : List Declaration) (xs : List TypedVariable) (b : List ℕ) (i : ℕ) (values now : List Value) (c d : List ℕ) (x : TypedVariable) (v : Value) (m : ℕ) → HaveMembers items xs
    → slice_get xs i ≡ Some x → now ≡ values ++ v ∷ [] → AreReadUpTo items xs b i values c → IsRead (Closed (IsGivenText items x) (mark_before (drop (i + 1) xs) ∷ [])) c (v, m) d
    → AreReadUpTo items xs b (i + 1) now d
given_next items xs b i values now c d x v m all got now_is so_far f =
    let more = drop (i + 1) xs in
    let here : drop i xs ≡ x ∷ more = drop_got xs i x got in
    let step : Continues (AreGivenTexts items (x ∷ more)) c (AreGivenTexts items more) d (λ vs. v ∷ vs) =
    onward (AreGivenTexts items (x ∷ more)) c (OneThenMore items x more) c (λ q. q.0.0 ∷ q.1) (AreGivenTexts items more) d (λ vs. ((v, m), vs)) (one_more items x more c)
    (then_continues (Closed (IsGivenText items x) (mark_before more ∷ [])) (λ p. AreGivenTexts items more) c (v, m) d (λ p. given_some items more (rest_has items xs (i + 1) all)) f) in
    let whole : Continues (AreGivenTexts items xs) b (AreGivenTexts items more) d (λ vs. values ++ (v ∷ vs)) =
    onward (AreGivenTexts items xs) b (AreGivenTexts items (drop i xs)) c (λ vs. values ++ vs) (AreGivenTexts items more) d (λ vs. v ∷ vs) so_far
    (subst (λ l. Continues (AreGivenTexts items l) c (AreGivenTexts items more) d (λ vs. v ∷ vs)) (sym here) step) in
    subst (λ (us : List Value). AreReadUpTo items xs b (i + 1) us d) (sym now_is)
    (subst (Continues (AreGivenTexts items xs) b (AreGivenTexts items more) d) (λ j vs. sym (append_assoc values (v ∷ []) vs) j) whole)

pub given_breaks : (items : List Declaration) (xs : List TypedVariable) (b : List ℕ) (i : ℕ) (values : List Value) (c : List ℕ) (x : TypedVariable) (left : ℕ) → HaveMembers items xs
    → slice_get xs i ≡ Some x → AreReadUpTo items xs b i values c → Broken (Closed (IsGivenText items x) (mark_before (drop (i + 1) xs) ∷ [])) c left → Broken (AreGivenTexts items xs) b left
given_breaks items xs b i values c x left all got so_far f =
    let more = drop (i + 1) xs in
    so_far.broken left
    (subst (λ l. Broken (AreGivenTexts items l) c left) (sym (drop_got xs i x got))
    ((one_more items x more c).broken left
    (first_broken (Closed (IsGivenText items x) (mark_before more ∷ [])) (λ p. AreGivenTexts items more) c left (λ p. given_some items more (rest_has items xs (i + 1) all)) f)))

pub all_given : (items : List Declaration) (xs : List TypedVariable) (b : List ℕ) (i : ℕ) (values : List Value) (c : List ℕ) → length xs ≤ i → AreReadUpTo items xs b i values c
    → IsRead (AreGivenTexts items xs) b values c
all_given items xs b i values c long so_far =
    subst (λ (vs : List Value). IsRead (AreGivenTexts items xs) b vs c) (append-nil values) (so_far.found [] c (subst (λ l. IsRead (AreGivenTexts items l) c [] c) (sym (past i xs long)) none))
  where
    past : (n : ℕ) (ys : List TypedVariable) → length ys ≤ n → drop n ys ≡ []
    past zero [] le = refl
    past zero (y ∷ ys) le = absurd (omega (arith, le))
    past (suc n) [] le = refl
    past (suc n) (y ∷ ys) le = past n ys (omega (arith, le))

    only : (u : List Value) (w : List ℕ) → AreGivenTexts items [] u w → ((u ≡ []) × (w ≡ [])) ⊎ Apart w []
    only [] w h = inl (refl, h.1)
    only (v ∷ vs) w h = absurd h.0

    none : IsRead (AreGivenTexts items []) c [] c
    none = record { word = []; is_word = (tt, refl); cut = refl; only = only }

comma_at : (xs : List TypedVariable) (i : ℕ) → suc i < length xs → mark_before (drop (suc i) xs) ≡ 44
comma_at [] i lt = absurd (omega (arith, lt))
comma_at (x ∷ []) i lt = absurd (omega (arith, lt))
comma_at (x ∷ y ∷ xs) zero lt = refl
comma_at (x ∷ y ∷ xs) (suc i) lt = comma_at (y ∷ xs) i (omega (arith, lt))

-- the mark behind a variable that is not the last
pub comma_is : (xs : List TypedVariable) (i : ℕ) → i + 1 < length xs → mark_before (drop (i + 1) xs) ≡ 44
comma_is xs i lt = let same : suc i ≡ i + 1 = omega arith in subst (λ n. mark_before (drop n xs) ≡ 44) same (comma_at xs i (omega (arith, lt)))

-- where each sort has a value, each typed variable has one
pub have_members : (items : List Declaration) (vars : List ℕ) (xs : List TypedVariable) → AreInhabited items → AllZip (IsTypedVariable items) vars xs → HaveMembers items xs
have_members items [] [] all are = tt
have_members items [] (x ∷ xs) all are = absurd are
have_members items (v ∷ vars) [] all are = absurd are
have_members items (v ∷ vars) (x ∷ xs) all are = (all are.0.0.sort x.sort are.0.3, have_members items vars xs all are.1)

-- ---- with the closing bracket

-- of some variables, what stands behind `[` are they with their values
pub closed_of_given : {T : Type 0} (items : List Declaration) (vars : List ℕ) (xs : List TypedVariable) (b : List ℕ) (value : T → List Value) (rest : T → List ℕ) (r : Result T ReadFault)
    → AllZip (IsTypedVariable items) vars xs → 0 < length vars → ReadsOr (AreGivenTexts items xs) b value rest r → ReadsOr (AreClosedTexts items xs) b value rest r
closed_of_given items [] xs b value rest r are some h = absurd (omega (arith, some))
closed_of_given items (v ∷ vars) [] b value rest r are some h = absurd are
closed_of_given items (v ∷ vars) (x ∷ xs) b value rest r are some h = h

none_closed : (items : List Declaration) (b : List ℕ) → Continues (AreClosedTexts items []) b (Only (codes "]")) b (λ u. [])
none_closed items b = renamed (AreClosedTexts items []) (Only (codes "]")) (λ u. []) b (λ u w h. (refl, h)) (λ vs w h. (tt, h.0, h.1))

-- without variables it is `]`
pub none_found : (items : List Declaration) (vars : List ℕ) (xs : List TypedVariable) (b rest : List ℕ) (values : List Value) → AllZip (IsTypedVariable items) vars xs → length vars ≡ 0 → values ≡ []
    → IsRead (Only (codes "]")) b tt rest → IsRead (AreClosedTexts items xs) b values rest
none_found items [] [] b rest values are none empty h = subst (λ (vs : List Value). IsRead (AreClosedTexts items []) b vs rest) (sym empty) ((none_closed items b).found tt rest h)
none_found items [] (x ∷ xs) b rest values are none empty h = absurd are
none_found items (v ∷ vars) xs b rest values are none empty h = absurd (omega (arith, none))

pub none_broken : (items : List Declaration) (vars : List ℕ) (xs : List TypedVariable) (b : List ℕ) (left : ℕ) → AllZip (IsTypedVariable items) vars xs → length vars ≡ 0
    → Broken (Only (codes "]")) b left → Broken (AreClosedTexts items xs) b left
none_broken items [] [] b left are none h = (none_closed items b).broken left h
none_broken items [] (x ∷ xs) b left are none h = absurd are
none_broken items (v ∷ vars) xs b left are none h = absurd (omega (arith, none))
