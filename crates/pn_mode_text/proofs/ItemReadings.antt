-- The items of a list, one behind the other.
use Rattle.std.proofs.Common.{◌≡◌, ◌⊎◌, inl, inr, ℕ, ◌<◌, ◌==◌, Bool, true, false, List, [], ◌∷◌, ◌++◌, length, codes, append-nil, append_assoc, refl, sym, ap, ◌∙◌, subst, arith}
use Rattle.std.specs.List.{Contains, list_all}
use Rattle.pn_carriers.specs.Members.{IsMember, is_member}
use Rattle.pn_facts.proofs.Contained.{contains_cases, contains_first, contains_one}
use Rattle.pn_facts.proofs.Truths.{and_left, and_right, and_both}
use Rattle.pn_names.specs.Names.{widths_of}
use Rattle.pn_syntax.specs.declared.declaration.Declaration.{Declaration}
use Rattle.pn_values.specs.declared.sort.Sort.{Sort}
use Rattle.pn_values.specs.declared.value.Value.{Value}
use Rattle.pn_words.proofs.HeadLemmas.{Elsewhere, among_others, head_elsewhere, none_begins, other_head}
use Rattle.pn_words.proofs.SameLemmas.{length_both}
use Rattle.pn_words.proofs.ThenLemmas.{first_broken}
use Rattle.pn_words.proofs.WayLemmas.{onward, renamed, then_continues}
use Rattle.pn_words.specs.Languages.{Broken, Closed, Continues, IsRead, Only, Then}
use Rattle.pn_mode_text.specs.Readings.{IsValueText}
use Rattle.pn_mode_text.specs.Texts.{value_text}
use Rattle.pn_mode_text.specs.ValueReadings.{AreFurtherItems, AreItemTexts, HaveIds, IsInhabited, IsListRest, item_texts, mark_before_items}
use Rattle.pn_mode_text.proofs.TextHeads.{value_head}

-- a text with a mark behind it is not empty
pub closed_shorter : {V : Type 0} (L : V → List ℕ → Type 0) (marks b : List ℕ) (p : V × ℕ) (c : List ℕ) → IsRead (Closed L marks) b p c → length c < length b
closed_shorter L marks b p c f =
    let word = f.is_word in
    let whole = ap length f.cut in
    let parts = length_both f.word c in
    let mark = ap length word.3 in
    let both = length_both word.0 (p.1 ∷ []) in
    omega (arith, whole, parts, mark, both)

module _ (items : List Declaration) (s : Sort) where
  abbrev marks : List ℕ
  marks = 44 ∷ 93 ∷ []

  abbrev text : Value → List ℕ
  text = value_text items s

  abbrev test : Value → Bool
  test = is_member (widths_of items) s

  abbrev OneThenFurther : (Value × ℕ) × List Value → List ℕ → Type 0
  OneThenFurther = Then (Closed (IsValueText items s) marks) (λ p. AreFurtherItems items s (p.1 == 44))

  one_item_more : (b : List ℕ) → Continues (AreItemTexts items s) b OneThenFurther b (λ q. q.0.0 ∷ q.1)
  one_item_more b = renamed (AreItemTexts items s) OneThenFurther (λ q. q.0.0 ∷ q.1) b to from
    where
      with_comma : (v : Value) (vs : List Value) (w a c : List ℕ) → test v ≡ true → a ≡ text v ++ 44 ∷ [] → AreItemTexts items s vs c → w ≡ a ++ c → AreItemTexts items s (v ∷ vs) w
      with_comma v [] w a c member a_is h cut = absurd (omega (arith, h.0))
      with_comma v (u ∷ us) w a c member a_is (some, pass, c_is) cut = (
        omega arith,
        and_both (test v) (list_all test (u ∷ us)) member pass,
        cut ∙ (λ i. a_is i ++ c_is i) ∙ append_assoc (text v) (44 ∷ []) (item_texts items s (u ∷ us)),
      )

      with_bracket : (v : Value) (vs : List Value) (w a c : List ℕ) → test v ≡ true → a ≡ text v ++ 93 ∷ [] → (vs ≡ []) × (c ≡ []) → w ≡ a ++ c → AreItemTexts items s (v ∷ vs) w
      with_bracket v vs w a c member a_is (none, c_is) cut =
          subst (λ (us : List Value). AreItemTexts items s (v ∷ us) w) (sym none)
          (omega arith, and_both (test v) true member refl, cut ∙ (λ i. a_is i ++ c_is i) ∙ append-nil (text v ++ 93 ∷ []))

      by_mark : (v : Value) (m : ℕ) (vs : List Value) (w a c : List ℕ) → test v ≡ true → a ≡ text v ++ m ∷ [] → AreFurtherItems items s (m == 44) vs c → w ≡ a ++ c
          → (44 ≡ m) ⊎ Contains (93 ∷ []) m → AreItemTexts items s (v ∷ vs) w
      by_mark v m vs w a c member a_is further cut (inl e) =
          with_comma v vs w a c member (a_is ∙ ap (λ k. text v ++ k ∷ []) (sym e)) (subst (λ k. AreFurtherItems items s (k == 44) vs c) (sym e) further) cut
      by_mark v m vs w a c member a_is further cut (inr h) =
          let e = contains_one 93 m h in
          with_bracket v vs w a c member (a_is ∙ ap (λ k. text v ++ k ∷ []) e) (subst (λ k. AreFurtherItems items s (k == 44) vs c) e further) cut

      to : (q : (Value × ℕ) × List Value) (w : List ℕ) → OneThenFurther q w → AreItemTexts items s (q.0.0 ∷ q.1) w
      to q w (a, c, (t, (member, is), mark, a_is), further, cut) =
          by_mark q.0.0 q.0.1 q.1 w a c member (a_is ∙ ap (λ l. l ++ q.0.1 ∷ []) is) further cut (contains_cases 44 (93 ∷ []) q.0.1 mark)

      from : (vs : List Value) (w : List ℕ) → AreItemTexts items s vs w → (q : (Value × ℕ) × List Value) × (vs ≡ q.0.0 ∷ q.1) × OneThenFurther q w
      from [] w h = absurd (omega (arith, h.0))
      from (v ∷ []) w (some, pass, is) = (
        ((v, 93), []),
        refl,
        (text v ++ 93 ∷ [], [], (text v, (and_left (test v) true pass, refl), (1, omega arith, refl), refl), (refl, refl), is ∙ sym (append-nil (text v ++ 93 ∷ []))),
      )
      from (v ∷ u ∷ us) w (some, pass, is) = (
        ((v, 44), u ∷ us),
        refl,
        (
          text v ++ 44 ∷ [],
          item_texts items s (u ∷ us),
          (text v, (and_left (test v) (list_all test (u ∷ us)) pass, refl), contains_first 44 (93 ∷ []), refl),
          (omega arith, and_right (test v) (list_all test (u ∷ us)) pass, refl),
          is ∙ sym (append_assoc (text v) (44 ∷ []) (item_texts items s (u ∷ us))),
        ),
      )

  further_some : IsInhabited items s → (t : Bool) → (vs : List Value) × (w : List ℕ) × AreFurtherItems items s t vs w
  further_some h true = (h.0 ∷ [], item_texts items s (h.0 ∷ []), (omega arith, and_both (test h.0) true h.1 refl, refl))
  further_some h false = ([], [], (refl, refl))

  -- what was read of the items so far, and whether more come
  abbrev pub AreItemsReadUpTo : List ℕ → Bool → List Value → List ℕ → Type 0
  AreItemsReadUpTo b more values c = Continues (AreItemTexts items s) b (AreFurtherItems items s more) c (λ vs. values ++ vs)

  pub no_items_read : (b : List ℕ) (values : List Value) → values ≡ [] → AreItemsReadUpTo b true values b
  no_items_read b values none = subst (λ (vs : List Value). AreItemsReadUpTo b true vs b) (sym none) (record { found = λ u rest x. x; broken = λ left x. x })

  pub item_next : (b : List ℕ) (values now : List Value) (c d : List ℕ) (v : Value) (m : ℕ) → IsInhabited items s → now ≡ values ++ v ∷ [] → AreItemsReadUpTo b true values c
      → IsRead (Closed (IsValueText items s) (44 ∷ 93 ∷ [])) c (v, m) d → AreItemsReadUpTo b (m == 44) now d
  item_next b values now c d v m some now_is so_far f =
      let step : Continues (AreItemTexts items s) c (AreFurtherItems items s (m == 44)) d (λ vs. v ∷ vs) =
      onward (AreItemTexts items s) c OneThenFurther c (λ q. q.0.0 ∷ q.1) (AreFurtherItems items s (m == 44)) d (λ vs. ((v, m), vs)) (one_item_more c)
      (then_continues (Closed (IsValueText items s) marks) (λ p. AreFurtherItems items s (p.1 == 44)) c (v, m) d (λ p. further_some some (p.1 == 44)) f) in
      let whole : Continues (AreItemTexts items s) b (AreFurtherItems items s (m == 44)) d (λ vs. values ++ (v ∷ vs)) =
      onward (AreItemTexts items s) b (AreItemTexts items s) c (λ vs. values ++ vs) (AreFurtherItems items s (m == 44)) d (λ vs. v ∷ vs) so_far step in
      subst (λ (us : List Value). AreItemsReadUpTo b (m == 44) us d) (sym now_is)
      (subst (Continues (AreItemTexts items s) b (AreFurtherItems items s (m == 44)) d) (λ j vs. sym (append_assoc values (v ∷ []) vs) j) whole)

  pub item_breaks : (b : List ℕ) (values : List Value) (c : List ℕ) (left : ℕ) → IsInhabited items s → AreItemsReadUpTo b true values c
      → Broken (Closed (IsValueText items s) (44 ∷ 93 ∷ [])) c left → Broken (AreItemTexts items s) b left
  item_breaks b values c left some so_far f =
      so_far.broken left
      ((one_item_more c).broken left (first_broken (Closed (IsValueText items s) marks) (λ p. AreFurtherItems items s (p.1 == 44)) c left (λ p. further_some some (p.1 == 44)) f))

  pub all_items_read : (b : List ℕ) (values : List Value) (c : List ℕ) → AreItemsReadUpTo b false values c → IsRead (AreItemTexts items s) b values c
  all_items_read b values c so_far = subst (λ (vs : List Value). IsRead (AreItemTexts items s) b vs c) (append-nil values) (so_far.found [] c none)
    where
      none : IsRead (AreFurtherItems items s false) c [] c
      none = record { word = []; is_word = (refl, refl); cut = refl; only = λ u w h. inl h }

  -- ---- with the closing bracket

  pub list_some : (vs : List Value) × (w : List ℕ) × IsListRest items s vs w
  list_some = ([], codes "]", refl)

  items_elsewhere : HaveIds items → (v : Value) (vs : List Value) (w b : List ℕ) → AreItemTexts items s (v ∷ vs) w → Elsewhere w (93 ∷ b)
  items_elsewhere named v vs w b (some, pass, is) =
      let head = value_head items named s v (and_left (test v) (list_all test vs) pass) in
      let rest = head.1 ++ mark_before_items vs ∷ item_texts items s vs in
      let whole : w ≡ head.0 ∷ rest = is ∙ ap (λ l. l ++ mark_before_items vs ∷ item_texts items s vs) head.2 in
      subst (λ l. Elsewhere l (93 ∷ b)) (sym whole) (other_head head.0 93 rest b head.3)

  pub no_items_found : HaveIds items → (b c : List ℕ) (values : List Value) → values ≡ [] → IsRead (Only (codes "]")) b tt c → IsRead (IsListRest items s) b values c
  no_items_found named b c values none f =
      subst (λ (vs : List Value). IsRead (IsListRest items s) b vs c) (sym none) ((among_others (IsListRest items s) (Only (codes "]")) (λ u. []) b (λ u w h. h) from long).found tt c f)
    where
      starts : 93 ∷ c ≡ b
      starts = sym (f.cut ∙ ap (λ l. l ++ c) f.is_word)

      from : (vs : List Value) (w : List ℕ) → IsListRest items s vs w → ((u : Unit {0}) × (vs ≡ []) × Only (codes "]") u w) ⊎ Elsewhere w b
      from [] w h = inl (tt, refl, h)
      from (v ∷ vs) w h = inr (subst (Elsewhere w) starts (items_elsewhere named v vs w c h))

      long : (u : Unit {0}) (w : List ℕ) → Only (codes "]") u w → 0 < length w
      long u w h = let n = ap length h in omega (arith, n)

  -- where the bytes don't begin with `]`, there are items
  pub some_items : (b : List ℕ) (left : ℕ) → Broken (Only (codes "]")) b left → Continues (IsListRest items s) b (AreItemTexts items s) b (λ vs. vs)
  some_items b left f = among_others (IsListRest items s) (AreItemTexts items s) (λ vs. vs) b to from long
    where
      to : (vs : List Value) (w : List ℕ) → AreItemTexts items s vs w → IsListRest items s vs w
      to [] w h = absurd (omega (arith, h.0))
      to (v ∷ vs) w h = h

      from : (vs : List Value) (w : List ℕ) → IsListRest items s vs w → ((us : List Value) × (vs ≡ us) × AreItemTexts items s us w) ⊎ Elsewhere w b
      from [] w h = inr (subst (λ l. Elsewhere l b) (sym h) (head_elsewhere 93 [] b left f))
      from (v ∷ vs) w h = inl (v ∷ vs, refl, h)

      long : (vs : List Value) (w : List ℕ) → AreItemTexts items s vs w → 0 < length w
      long [] w h = absurd (omega (arith, h.0))
      long (v ∷ vs) w (some, pass, is) =
          let n = ap length is in let k = length_both (text v) (mark_before_items vs ∷ item_texts items s vs) in omega (arith, n, k)

  -- without `]` no list is there where no value is
  pub no_list : (b : List ℕ) (left : ℕ) → ((v : Value) → IsMember (widths_of items) v s → ⊥) → Broken (Only (codes "]")) b left → Broken (IsListRest items s) b (length b)
  no_list b left none f = none_begins (IsListRest items s) b elsewhere
    where
      elsewhere : (vs : List Value) (w : List ℕ) → IsListRest items s vs w → Elsewhere w b
      elsewhere [] w h = subst (λ l. Elsewhere l b) (sym h) (head_elsewhere 93 [] b left f)
      elsewhere (v ∷ vs) w (some, pass, is) = absurd (none v (and_left (test v) (list_all test vs) pass))
