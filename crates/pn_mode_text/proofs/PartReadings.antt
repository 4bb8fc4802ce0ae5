-- The parts of a tuple, one behind the other.
use Rattle.std.proofs.Common.{◌≡◌, ◌⊎◌, inl, ℕ, zero, suc, ◌+◌, ◌<◌, ◌≤◌, Bool, List, [], ◌∷◌, ◌++◌, length, map, drop, Some, codes, append-nil, append_assoc, refl, sym, ◌∙◌, subst, arith}
use Rattle.std.specs.List.{slice_get}
use Rattle.std.specs.declared.result.Result.{Result}
use Rattle.std.proofs.lemmas.Bool.{false≢true}
use Rattle.pn_carriers.specs.Members.{is_member, pass_each}
use Rattle.pn_facts.proofs.Contained.{contains_first, contains_one}
use Rattle.pn_facts.proofs.Lists.{drop_got}
use Rattle.pn_facts.proofs.Truths.{and_left, and_right, and_both}
use Rattle.pn_names.specs.Names.{widths_of}
use Rattle.pn_syntax.specs.declared.declaration.Declaration.{Declaration}
use Rattle.pn_values.specs.declared.sort.Sort.{Sort}
use Rattle.pn_values.specs.declared.value.Value.{Value}
use Rattle.pn_words.proofs.ThenLemmas.{first_broken}
use Rattle.pn_words.proofs.WayLemmas.{onward, renamed, then_continues}
use Rattle.pn_words.specs.Languages.{Apart, Broken, Closed, Continues, IsRead, Only, Then}
use Rattle.pn_mode_text.specs.Readings.{IsValueText, ReadsOr}
use Rattle.pn_mode_text.specs.declared.reading.ReadFault.{ReadFault}
use Rattle.pn_mode_text.specs.Texts.{value_text}
use Rattle.pn_mode_text.specs.ValueReadings.{AreInhabitedParts, ArePartTexts, IsTupleRest, mark_before_parts, part_texts}
use Rattle.pn_mode_text.proofs.InhabitedLemmas.{some_parts}

comma_at : (ss : List Sort) (i : ℕ) → suc i < length ss → mark_before_parts (drop (suc i) ss) ≡ 44
comma_at [] i lt = absurd (omega (arith, lt))
comma_at (s ∷ []) i lt = absurd (omega (arith, lt))
comma_at (s ∷ r ∷ ss) zero lt = refl
comma_at (s ∷ r ∷ ss) (suc i) lt = comma_at (r ∷ ss) i (omega (arith, lt))

-- the mark behind a part that is not the last
pub comma_behind : (ss : List Sort) (i : ℕ) → i + 1 < length ss → mark_before_parts (drop (i + 1) ss) ≡ 44
comma_behind ss i lt = let same : suc i ≡ i + 1 = omega arith in subst (λ n. mark_before_parts (drop n ss) ≡ 44) same (comma_at ss i (omega (arith, lt)))

pub bracket_behind : (ss : List Sort) (i : ℕ) → length ss ≤ i + 1 → mark_before_parts (drop (i + 1) ss) ≡ 41
bracket_behind ss i le = let same : suc i ≡ i + 1 = omega arith in subst (λ n. mark_before_parts (drop n ss) ≡ 41) same (last ss i (omega (arith, le)))
  where
    last : (rs : List Sort) (k : ℕ) → length rs ≤ suc k → mark_before_parts (drop (suc k) rs) ≡ 41
    last [] k le = refl
    last (r ∷ []) zero le = refl
    last (r ∷ q ∷ rs) zero le = absurd (omega (arith, le))
    last (r ∷ rs) (suc k) le = last rs k (omega (arith, le))

module _ (items : List Declaration) where
  abbrev OneThenMore : Sort → List Sort → (Value × ℕ) × List Value → List ℕ → Type 0
  OneThenMore s ss = Then (Closed (IsValueText items s) (mark_before_parts ss ∷ [])) (λ p. ArePartTexts items ss)

  one_more : (s : Sort) (ss : List Sort) (b : List ℕ) → Continues (ArePartTexts items (s ∷ ss)) b (OneThenMore s ss) b (λ q. q.0.0 ∷ q.1)
  one_more s ss b = renamed (ArePartTexts items (s ∷ ss)) (OneThenMore s ss) (λ q. q.0.0 ∷ q.1) b to from
    where
      here : Value → Bool
      here = is_member (widths_of items) s

      others : List Value → Bool
      others = pass_each (map (is_member (widths_of items)) ss)

      joined : (v : Value) (vs : List Value) → (value_text items s v ++ mark_before_parts ss ∷ []) ++ part_texts items ss vs ≡ part_texts items (s ∷ ss) (v ∷ vs)
      joined v vs = append_assoc (value_text items s v) (mark_before_parts ss ∷ []) (part_texts items ss vs)

      to : (q : (Value × ℕ) × List Value) (w : List ℕ) → OneThenMore s ss q w → ArePartTexts items (s ∷ ss) (q.0.0 ∷ q.1) w
      to q w (a, c, (t, (member, text), mark, a_is), (pass, c_is), cut) = (
        and_both (here q.0.0) (others q.1) member pass,
        cut ∙ (λ i. (a_is ∙ (λ j. text j ++ contains_one (mark_before_parts ss) q.0.1 mark j ∷ [])) i ++ c_is i) ∙ joined q.0.0 q.1,
      )

      from : (vs : List Value) (w : List ℕ) → ArePartTexts items (s ∷ ss) vs w → (q : (Value × ℕ) × List Value) × (vs ≡ q.0.0 ∷ q.1) × OneThenMore s ss q w
      from [] w h = absurd (false≢true h.0)
      from (v ∷ vs) w (pass, is) = (
        ((v, mark_before_parts ss), vs),
        refl,
        (
          value_text items s v ++ mark_before_parts ss ∷ [],
          part_texts items ss vs,
          (value_text items s v, (and_left (here v) (others vs) pass, refl), contains_first (mark_before_parts ss) [], refl),
          (and_right (here v) (others vs) pass, refl),
          is ∙ sym (joined v vs),
        ),
      )

  pub parts_some : (ss : List Sort) → AreInhabitedParts items ss → (vs : List Value) × (w : List ℕ) × ArePartTexts items ss vs w
  parts_some ss all = let vs = some_parts items ss all in (vs.0, part_texts items ss vs.0, (vs.1, refl))

  pub tuple_some : (ss : List Sort) → AreInhabitedParts items ss → (vs : List Value) × (w : List ℕ) × IsTupleRest items ss vs w
  tuple_some [] all = ([], codes ")", (refl, refl))
  tuple_some (s ∷ ss) all = parts_some (s ∷ ss) all

  rest_has : (ss : List Sort) (i : ℕ) → AreInhabitedParts items ss → AreInhabitedParts items (drop i ss)
  rest_has ss zero all = all
  rest_has [] (suc i) all = all
  rest_has (s ∷ ss) (suc i) all = rest_has ss i all.1

  -- what was read of the parts so far
  abbrev pub ArePartsReadUpTo : List Sort → List ℕ → ℕ → List Value → List ℕ → Type 0
  ArePartsReadUpTo ss b i values c = Continues (ArePartTexts items ss) b (ArePartTexts items (drop i ss)) c (λ vs. values ++ vs)

  pub no_parts_read : (ss : List Sort) (b : List ℕ) (values : List Value) → values ≡ [] → ArePartsReadUpTo ss b 0 values b
  no_parts_read ss b values none = subst (λ (vs : List Value). ArePartsReadUpTo ss b 0 vs b) (sym none) (record { found = λ u rest x. x; broken = λ left x. x })

  pub part_next : (ss : List Sort) (b : List ℕ) (i : ℕ) (values now : List Value) (c d : List ℕ) (s : Sort) (v : Value) (m : ℕ) → AreInhabitedParts items ss
      → slice_get ss i ≡ Some s → now ≡ values ++ v ∷ [] → ArePartsReadUpTo ss b i values c → IsRead (Closed (IsValueText items s) (mark_before_parts (drop (i + 1) ss) ∷ [])) c (v, m) d
      → ArePartsReadUpTo ss b (i + 1) now d
  part_next ss b i values now c d s v m all got now_is so_far f =
      let more = drop (i + 1) ss in
      let here : drop i ss ≡ s ∷ more = drop_got ss i s got in
      let step : Continues (ArePartTexts items (s ∷ more)) c (ArePartTexts items more) d (λ vs. v ∷ vs) =
      onward (ArePartTexts items (s ∷ more)) c (OneThenMore s more) c (λ q. q.0.0 ∷ q.1) (ArePartTexts items more) d (λ vs. ((v, m), vs)) (one_more s more c)
      (then_continues (Closed (IsValueText items s) (mark_before_parts more ∷ [])) (λ p. ArePartTexts items more) c (v, m) d (λ p. parts_some more (rest_has ss (i + 1) all)) f) in
      let whole : Continues (ArePartTexts items ss) b (ArePartTexts items more) d (λ vs. values ++ (v ∷ vs)) =
      onward (ArePartTexts items ss) b (ArePartTexts items (drop i ss)) c (λ vs. values ++ vs) (ArePartTexts items more) d (λ vs. v ∷ vs) so_far
      (subst (λ (l : List Sort). Continues (ArePartTexts items l) c (ArePartTexts items more) d (λ vs. v ∷ vs)) (sym here) step) in
      subst (λ (us : List Value). ArePartsReadUpTo ss b (i + 1) us d) (sym now_is)
      (subst (Continues (ArePartTexts items ss) b (ArePartTexts items more) d) (λ j vs. sym (append_assoc values (v ∷ []) vs) j) whole)

  pub part_breaks : (ss : List Sort) (b : List ℕ) (i : ℕ) (values : List Value) (c : List ℕ) (s : Sort) (left : ℕ) → AreInhabitedParts items ss
      → slice_get ss i ≡ Some s → ArePartsReadUpTo ss b i values c → Broken (Closed (IsValueText items s) (mark_before_parts (drop (i + 1) ss) ∷ [])) c left → Broken (ArePartTexts items ss) b left
  part_breaks ss b i values c s left all got so_far f =
      let more = drop (i + 1) ss in
      so_far.broken left
      (subst (λ (l : List Sort). Broken (ArePartTexts items l) c left) (sym (drop_got ss i s got))
      ((one_more s more c).broken left
      (first_broken (Closed (IsValueText items s) (mark_before_parts more ∷ [])) (λ p. ArePartTexts items more) c left (λ p. parts_some more (rest_has ss (i + 1) all)) f)))

  pub all_parts_read : (ss : List Sort) (b : List ℕ) (i : ℕ) (values : List Value) (c : List ℕ) → length ss ≤ i → ArePartsReadUpTo ss b i values c → IsRead (ArePartTexts items ss) b values c
  all_parts_read ss b i values c long so_far =
      subst (λ (vs : List Value). IsRead (ArePartTexts items ss) b vs c) (append-nil values)
      (so_far.found [] c (subst (λ (l : List Sort). IsRead (ArePartTexts items l) c [] c) (sym (past i ss long)) none))
    where
      past : (n : ℕ) (ys : List Sort) → length ys ≤ n → drop n ys ≡ []
      past zero [] le = refl
      past zero (y ∷ ys) le = absurd (omega (arith, le))
      past (suc n) [] le = refl
      past (suc n) (y ∷ ys) le = past n ys (omega (arith, le))

      only : (u : List Value) (w : List ℕ) → ArePartTexts items [] u w → ((u ≡ []) × (w ≡ [])) ⊎ Apart w []
      only [] w h = inl (refl, h.1)
      only (v ∷ vs) w h = absurd (false≢true h.0)

      none : IsRead (ArePartTexts items []) c [] c
      none = record { word = []; is_word = (refl, refl); cut = refl; only = only }

  no_parts : (b : List ℕ) → Continues (IsTupleRest items []) b (Only (codes ")")) b (λ u. [])
  no_parts b = renamed (IsTupleRest items []) (Only (codes ")")) (λ u. []) b (λ u w h. (refl, h)) (λ vs w h. (tt, h.0, h.1))

  pub no_parts_found : (ss : List Sort) (b rest : List ℕ) (values : List Value) → length ss ≡ 0 → values ≡ [] → IsRead (Only (codes ")")) b tt rest → IsRead (IsTupleRest items ss) b values rest
  no_parts_found [] b rest values none is h = subst (λ (vs : List Value). IsRead (IsTupleRest items []) b vs rest) (sym is) ((no_parts b).found tt rest h)
  no_parts_found (s ∷ ss) b rest values none is h = absurd (omega (arith, none))

  pub no_parts_broken : (ss : List Sort) (b : List ℕ) (left : ℕ) → length ss ≡ 0 → Broken (Only (codes ")")) b left → Broken (IsTupleRest items ss) b left
  no_parts_broken [] b left none h = (no_parts b).broken left h
  no_parts_broken (s ∷ ss) b left none h = absurd (omega (arith, none))

  -- of some sorts, what stands behind `(` are values of them with the marks behind them
  pub rest_of_parts : {T : Type 0} (ss : List Sort) (b : List ℕ) (value : T → List Value) (rest : T → List ℕ) (r : Result T ReadFault) → 0 < length ss
      → ReadsOr (ArePartTexts items ss) b value rest r → ReadsOr (IsTupleRest items ss) b value rest r
  rest_of_parts [] b value rest r some h = absurd (omega (arith, some))
  rest_of_parts (s ∷ ss) b value rest r some h = h
