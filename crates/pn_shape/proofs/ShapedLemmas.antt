-- An element has no fault of shape exactly where it is as its row says.
use Rattle.std.proofs.Common.{◌≡◌, ℕ, zero, suc, ◌+◌, ◌<◌, ◌≤◌, Bool, true, false, cond, not, ◌&&◌, ◌==◌, nat_le, nat_lt, List, [], ◌∷◌, ◌++◌, Option, Some, None, IfSome, refl, sym, ap, subst, ◌∙◌, arith, append_assoc, append-nil}
use Rattle.std.specs.List.{flat_map, slice_get, slice_index_or, AllByRecursion}
use Rattle.std.specs.Prelude.{codes, is_some}
use Rattle.std.specs.Option.{option_and_then, unwrap_or}
use Rattle.std.proofs.lemmas.Bool.Decides.{nat_tests}
use Rattle.pn_faults.specs.declared.reason.Reason.{Reason}
use Rattle.pn_faults.specs.declared.reason.Reason.TheVariants as reason
use Rattle.pn_facts.proofs.Lists.{first_empty, second_empty, both_empty}
use Rattle.pn_operators.specs.declared.kind.Kind.{Kind}
use Rattle.pn_operators.specs.declared.kind.Kind.TheVariants as kind
use Rattle.pn_tree.specs.declared.element.Element.{Element}
use Rattle.pn_tree.specs.declared.element.Child.{Child}
use Rattle.pn_tree.specs.declared.element.Child.TheOpen as layer
use Rattle.pn_tree.specs.declared.element.Child.TheViews.{out-Child}
use Rattle.pn_shape.specs.Attributes.{attr_fault, lack_fault}
use Rattle.pn_shape.specs.Faults.{told, own_text, text_fault, stray_fault, over_fault, over_reason, asks_inside, passes_most, placed_faults, layer_faults, kids_faults, attrs_faults, lacks_faults, missing_fault, missing_faults, row_faults, faults_by, kind_inside, is_opaque, all_faults, no_slot, IsShaped}
use Rattle.pn_shape.specs.Rules.{Saying, rule_for, attr_name, fill_name}
use Rattle.pn_shape.specs.Shaped.{IsPlaced, IsPlacedLayer, HasShape}
use Rattle.pn_shape.specs.Spots.{spot_in, has_slot, is_at, stands_in, stands_layer, filled}
use Rattle.pn_shape.specs.declared.rule.Over.{Over}
use Rattle.pn_shape.specs.declared.rule.Over.TheVariants as over
use Rattle.pn_shape.specs.declared.rule.Slot.{Slot}
use Rattle.pn_shape.specs.declared.search.Spot.{Spot}
use Rattle.pn_shape.specs.declared.tag.Tag.{Tag}
use Rattle.pn_shape.specs.Numbers.{net_kind}
use Rattle.pn_shape.specs.declared.rows.TheConstants as table
use Rattle.pn_shape.specs.declared.rule.AttrName.TheVariants as names
use Rattle.pn_shape.specs.declared.rule.Form.TheVariants as form
use Rattle.pn_shape.specs.declared.tag.Tag.TheVariants as tag
use Rattle.pn_shape.proofs.AttrLemmas.{needed_there, value_right, kind_there}
use Rattle.pn_shape.proofs.LevelLemmas.{all_faults_is}

-- lists of faults that are empty

pub not_told : (at : ℕ) (d : List ℕ) (r : Option Reason) → told at d r ≡ [] → r ≡ None
not_told at d None is = refl
not_told at d (Some r) is = absurd cc

pub none_told : (at : ℕ) (d : List ℕ) (r : Option Reason) → r ≡ None → told at d r ≡ []
none_told at d r is = ap (told at d) is

each_none : {X : Type 0} (at : ℕ) (name : X → List ℕ) (reason : X → Option Reason) (xs : List X) → flat_map (λ x. told at (name x) (reason x)) xs ≡ [] → AllByRecursion (λ x. reason x ≡ None) xs
each_none at name reason [] is = tt
each_none at name reason (x ∷ xs) is = (
  not_told at (name x) (reason x) (first_empty (told at (name x) (reason x)) (flat_map (λ x. told at (name x) (reason x)) xs) is),
  each_none at name reason xs (second_empty (told at (name x) (reason x)) (flat_map (λ x. told at (name x) (reason x)) xs) is),
)

none_each : {X : Type 0} (at : ℕ) (name : X → List ℕ) (reason : X → Option Reason) (xs : List X) → AllByRecursion (λ x. reason x ≡ None) xs → flat_map (λ x. told at (name x) (reason x)) xs ≡ []
none_each at name reason [] h = refl
none_each at name reason (x ∷ xs) h = both_empty (told at (name x) (reason x)) (flat_map (λ x. told at (name x) (reason x)) xs) (none_told at (name x) (reason x) h.0) (none_each at name reason xs h.1)

-- how many kids stand in a place

pub filled_both : (k : Kind) (slots : List Slot) (i : ℕ) (before more : List Child) → filled k slots i (before ++ more) ≡ filled k slots i before + filled k slots i more
filled_both k slots i [] more = omega arith
filled_both k slots i (b ∷ bs) more = omega (arith, filled_both k slots i bs more)

-- one more is not too many exactly where the greatest number isn't reached

abbrev one_if : Bool → ℕ
one_if b = cond b 1 0

over_none : (s : Slot) (n : ℕ) → over_fault s n ≡ None → IfSome s.most (λ most. n < most)
over_none s n is = go s.most is
  where
    go : (m : Option ℕ) → cond (passes_most m n) (Some s.over) None ≡ None → IfSome m (λ most. n < most)
    go None h = tt
    go (Some m) h = step (nat_le m n) refl h
      where
        step : (b : Bool) → nat_le m n ≡ b → cond b (Some s.over) None ≡ None → n < m
        step true e h = absurd cc
        step false e h = grind (arith, nat_tests)

none_over : (s : Slot) (n : ℕ) → IfSome s.most (λ most. n < most) → over_fault s n ≡ None
none_over s n h = go s.most h
  where
    go : (m : Option ℕ) → IfSome m (λ most. n < most) → cond (passes_most m n) (Some s.over) None ≡ None
    go None h = refl
    go (Some m) h = step (nat_le m n) refl
      where
        step : (b : Bool) → nat_le m n ≡ b → cond b (Some s.over) None ≡ None
        step true e = absurd (grind (arith, nat_tests))
        step false e = refl

reason_none : (past : Option Over) → over_reason past ≡ None → past ≡ None
reason_none None h = refl
reason_none (Some over.Repeated) h = absurd cc
reason_none (Some over.SecondNet) h = absurd cc

if_some : {X : Type 0} (P Q : X → Type 0) (o : Option X) → ((x : X) → P x → Q x) → IfSome o P → IfSome o Q
if_some P Q None f h = h
if_some P Q (Some x) f h = f x h

none_more : (i : ℕ) → 0 + i ≡ i
none_more i = omega arith

same_number : (n : ℕ) → (n == n) ≡ true
same_number n = grind (arith, nat_tests)

-- a kid that has no fault of its own or inside

module _ (k : Kind) (says : Saying) (e : Element) where
  abbrev Slots : ℕ → Slot
  Slots i = slice_index_or says.slots i no_slot

  pub placed_of : (before : List Child) (l : layer.Child-F Child Element) → layer_faults all_faults true k says e before l ≡ [] → IsPlacedLayer k says l
  placed_of before (layer.Text t) h = not_told e.at e.name (stray_fault says.content t) h
  placed_of before (layer.Element x) h = go (spot_in k x.name 0 says.slots) refl h
    where
      go : (o : Option Spot) → spot_in k x.name 0 says.slots ≡ o → placed_faults all_faults k says.slots before x o ≡ [] → (s : Spot) × (spot_in k x.name 0 says.slots ≡ Some s) × IsShaped k s.tag x
      go None is h = absurd cc
      go (Some s) is h =
          let past = over_fault (slice_index_or says.slots s.place no_slot) (filled k says.slots s.place before) in
          let none = reason_none past (not_told x.at x.name (over_reason past) (first_empty (told x.at x.name (over_reason past)) (cond (asks_inside past) (all_faults k s.tag x) []) h)) in
          (s, is, ap (λ p. cond (asks_inside p) (all_faults k s.tag x) []) (sym none) ∙ second_empty (told x.at x.name (over_reason past)) (cond (asks_inside past) (all_faults k s.tag x) []) h)

  pub kids_of : (before cs : List Child) → kids_faults all_faults true k says e before cs ≡ [] → AllByRecursion (IsPlaced k says) cs
  kids_of before [] h = tt
  kids_of before (c ∷ cs) h =
      let first = layer_faults all_faults true k says e before (out-Child c) in
      let rest = kids_faults all_faults true k says e (before ++ c ∷ []) cs in
      (placed_of before (out-Child c) (first_empty first rest h), kids_of (before ++ c ∷ []) cs (second_empty first rest h))

  -- so many elements may stand in a place
  abbrev Fits : ℕ → ℕ → Type 0
  Fits i n = IfSome (Slots i).most (λ most. n ≤ most)

  one_more : (before : List Child) (c : Child) (i : ℕ) (b : Bool) → stands_in k says.slots i c ≡ b → filled k says.slots i (before ++ c ∷ []) ≡ filled k says.slots i before + one_if b
  one_more before c i b is = omega (arith, filled_both k says.slots i before (c ∷ []), ap one_if is)

  fits_as : (i n m : ℕ) → n ≡ m → Fits i n → Fits i m
  fits_as i n m is h = subst (Fits i) is h

  kid_fits : (before : List Child) (c : Child) (l : layer.Child-F Child Element) → out-Child c ≡ l → layer_faults all_faults true k says e before l ≡ [] → (i : ℕ)
      → Fits i (filled k says.slots i before) → Fits i (filled k says.slots i (before ++ c ∷ []))
  kid_fits before c (layer.Text t) is h i fits =
      fits_as i (filled k says.slots i before) (filled k says.slots i (before ++ c ∷ [])) (omega (arith, one_more before c i false (ap (stands_layer k says.slots i) is))) fits
  kid_fits before c (layer.Element x) is h i fits = go (spot_in k x.name 0 says.slots) refl h
    where
      go : (o : Option Spot) → spot_in k x.name 0 says.slots ≡ o → placed_faults all_faults k says.slots before x o ≡ [] → Fits i (filled k says.slots i (before ++ c ∷ []))
      go None spot h = absurd cc
      go (Some s) spot h = step (s.place == i) refl
        where
          past : Option Over
          past = over_fault (Slots s.place) (filled k says.slots s.place before)

          room : IfSome (Slots s.place).most (λ most. filled k says.slots s.place before < most)
          room = over_none (Slots s.place) (filled k says.slots s.place before)
              (reason_none past (not_told x.at x.name (over_reason past) (first_empty (told x.at x.name (over_reason past)) (cond (asks_inside past) (all_faults k s.tag x) []) h)))

          stands : stands_in k says.slots i c ≡ (s.place == i)
          stands = ap (stands_layer k says.slots i) is ∙ ap (is_at i) spot

          step : (b : Bool) → (s.place == i) ≡ b → Fits i (filled k says.slots i (before ++ c ∷ []))
          step false other = fits_as i (filled k says.slots i before) (filled k says.slots i (before ++ c ∷ [])) (omega (arith, one_more before c i false (stands ∙ other))) fits
          step true same =
              let here : s.place ≡ i = grind (arith, nat_tests) in
              if_some (λ most. filled k says.slots i before < most) (λ most. filled k says.slots i (before ++ c ∷ []) ≤ most) (Slots i).most
              (λ most lt. omega (arith, one_more before c i true (stands ∙ same)))
              (subst (λ j. IfSome (Slots j).most (λ most. filled k says.slots j before < most)) here room)

  pub most_of : (before cs : List Child) → kids_faults all_faults true k says e before cs ≡ [] → (i : ℕ) → Fits i (filled k says.slots i before) → Fits i (filled k says.slots i (before ++ cs))
  most_of before [] h i fits = fits_as i (filled k says.slots i before) (filled k says.slots i (before ++ [])) (ap (filled k says.slots i) (sym (append-nil before))) fits
  most_of before (c ∷ cs) h i fits =
      let first = layer_faults all_faults true k says e before (out-Child c) in
      let rest = kids_faults all_faults true k says e (before ++ c ∷ []) cs in
      fits_as i (filled k says.slots i ((before ++ c ∷ []) ++ cs)) (filled k says.slots i (before ++ c ∷ cs)) (ap (filled k says.slots i) (append_assoc before (c ∷ []) cs))
      (most_of (before ++ c ∷ []) cs (second_empty first rest h) i (kid_fits before c (out-Child c) refl (first_empty first rest h) i fits))

  none_fits : (i : ℕ) → Fits i 0
  none_fits i = go (Slots i).most
    where
      go : (o : Option ℕ) → IfSome o (λ most. 0 ≤ most)
      go None = tt
      go (Some m) = omega arith

  -- the other way round: a kid that is placed has no fault, where there is room for all

  kid_none : (before : List Child) (c : Child) (cs : List Child) (l : layer.Child-F Child Element) → out-Child c ≡ l → IsPlacedLayer k says l
      → ((i : ℕ) → Fits i (filled k says.slots i (before ++ c ∷ cs))) → layer_faults all_faults true k says e before l ≡ []
  kid_none before c cs (layer.Text t) is h fits = none_told e.at e.name (stray_fault says.content t) h
  kid_none before c cs (layer.Element x) is (s, spot, shaped) fits =
      ap (placed_faults all_faults k says.slots before x) spot
      ∙ both_empty (told x.at x.name (over_reason past)) (cond (asks_inside past) (all_faults k s.tag x) []) (none_told x.at x.name (over_reason past) (ap over_reason none))
      (ap (λ p. cond (asks_inside p) (all_faults k s.tag x) []) none ∙ shaped)
    where
      past : Option Over
      past = over_fault (Slots s.place) (filled k says.slots s.place before)

      stands : stands_in k says.slots s.place c ≡ true
      stands = ap (stands_layer k says.slots s.place) is ∙ (ap (is_at s.place) spot ∙ same_number s.place)

      counted : filled k says.slots s.place (before ++ c ∷ cs) ≡ filled k says.slots s.place before + (1 + filled k says.slots s.place cs)
      counted = omega (arith, filled_both k says.slots s.place before (c ∷ cs), ap one_if stands)

      none : past ≡ None
      none = none_over (Slots s.place) (filled k says.slots s.place before)
          (if_some (λ most. filled k says.slots s.place (before ++ c ∷ cs) ≤ most) (λ most. filled k says.slots s.place before < most) (Slots s.place).most (λ most le. omega (arith, counted)) (fits s.place))

  pub kids_none : (before cs : List Child) → AllByRecursion (IsPlaced k says) cs → ((i : ℕ) → Fits i (filled k says.slots i (before ++ cs))) → kids_faults all_faults true k says e before cs ≡ []
  kids_none before [] h fits = refl
  kids_none before (c ∷ cs) h fits =
      both_empty (layer_faults all_faults true k says e before (out-Child c)) (kids_faults all_faults true k says e (before ++ c ∷ []) cs) (kid_none before c cs (out-Child c) refl h.0 fits)
      (kids_none (before ++ c ∷ []) cs h.1
      (λ i. fits_as i (filled k says.slots i (before ++ c ∷ cs)) (filled k says.slots i ((before ++ c ∷ []) ++ cs)) (ap (filled k says.slots i) (sym (append_assoc before (c ∷ []) cs))) (fits i)))

  -- the places in which too few elements stand

  enough_of : (s : Slot) (n : ℕ) → missing_fault k s n ≡ None → has_slot k s.fill ≡ true → s.least ≤ n
  enough_of s n h had = step (nat_lt n s.least) refl (ap (λ b. cond (not (b && nat_lt n s.least)) None (Some reason.MissingElement)) (sym had) ∙ h)
    where
      step : (b : Bool) → nat_lt n s.least ≡ b → cond (not b) None (Some reason.MissingElement) ≡ None → s.least ≤ n
      step true is no_fault = absurd cc
      step false is no_fault = grind (arith, nat_tests)

  of_enough : (s : Slot) (n : ℕ) → (has_slot k s.fill ≡ true → s.least ≤ n) → missing_fault k s n ≡ None
  of_enough s n h = step (has_slot k s.fill) refl (nat_lt n s.least) refl
    where
      step : (had : Bool) → has_slot k s.fill ≡ had → (few : Bool) → nat_lt n s.least ≡ few → cond (not (had && few)) None (Some reason.MissingElement) ≡ None
      step false is few lt = refl
      step true is false lt = refl
      step true is true lt = let enough = h is in absurd (grind (arith, nat_tests))

  least_of : (all : List Slot) (i : ℕ) (slots : List Slot) → missing_faults k all e i slots ≡ [] → (j : ℕ) (s : Slot) → slice_get slots j ≡ Some s → has_slot k s.fill ≡ true
      → s.least ≤ filled k all (i + j) e.kids
  least_of all i [] h j s is had = absurd cc
  least_of all i (t ∷ ts) h zero s is had =
      let same : t ≡ s = cc in
      let none = not_told e.at (fill_name t.fill) (missing_fault k t (filled k all i e.kids)) (first_empty (told e.at (fill_name t.fill) (missing_fault k t (filled k all i e.kids))) (missing_faults k all e (i + 1) ts) h) in
      let at : i ≡ i + 0 = omega arith in
      subst (λ n. s.least ≤ filled k all n e.kids) at (subst (λ r. r.least ≤ filled k all i e.kids) same (enough_of t (filled k all i e.kids) none (ap (λ r. has_slot k r.fill) same ∙ had)))
  least_of all i (t ∷ ts) h (suc j) s is had =
      let at : (i + 1) + j ≡ i + suc j = omega arith in
      subst (λ n. s.least ≤ filled k all n e.kids) at
      (least_of all (i + 1) ts (second_empty (told e.at (fill_name t.fill) (missing_fault k t (filled k all i e.kids))) (missing_faults k all e (i + 1) ts) h) j s is had)

  of_least : (all : List Slot) (i : ℕ) (slots : List Slot) → ((j : ℕ) (s : Slot) → slice_get slots j ≡ Some s → has_slot k s.fill ≡ true → s.least ≤ filled k all (i + j) e.kids)
      → missing_faults k all e i slots ≡ []
  of_least all i [] h = refl
  of_least all i (t ∷ ts) h =
      let here : i + 0 ≡ i = omega arith in
      both_empty (told e.at (fill_name t.fill) (missing_fault k t (filled k all i e.kids))) (missing_faults k all e (i + 1) ts)
      (none_told e.at (fill_name t.fill) (missing_fault k t (filled k all i e.kids))
      (of_enough t (filled k all i e.kids) (λ had. subst (λ n. t.least ≤ filled k all n e.kids) here (h 0 t refl had))))
      (of_least all (i + 1) ts (λ j s is had. let at : i + suc j ≡ (i + 1) + j = omega arith in subst (λ n. s.least ≤ filled k all n e.kids) at (h (suc j) s is had)))

  -- all of it

  pub row_of : row_faults all_faults true k says e ≡ [] → HasShape k says e
  row_of h =
      let attrs = attrs_faults says e in
      let lacks = lacks_faults says e in
      let text = told e.at e.name (text_fault says.content (own_text e.kids)) in
      let kids = kids_faults all_faults true k says e [] e.kids in
      let missing = missing_faults k says.slots e 0 says.slots in
      let second = second_empty attrs (lacks ++ (text ++ (kids ++ missing))) h in
      let third = second_empty lacks (text ++ (kids ++ missing)) second in
      let fourth = second_empty text (kids ++ missing) third in
      let no_kids = first_empty kids missing fourth in
      record {
        attrs = each_none e.at (λ a. a.name) (attr_fault says.attrs) e.attrs (first_empty attrs (lacks ++ (text ++ (kids ++ missing))) h);
        lacks = each_none e.at (λ r. attr_name r.name) (lack_fault e.attrs) says.attrs (first_empty lacks (text ++ (kids ++ missing)) second);
        text = not_told e.at e.name (text_fault says.content (own_text e.kids)) (first_empty text (kids ++ missing) third);
        kids = kids_of [] e.kids no_kids;
        most = λ i. most_of [] e.kids no_kids i (none_fits i);
        least = λ i s is had. subst (λ n. s.least ≤ filled k says.slots n e.kids) (none_more i) (least_of says.slots 0 says.slots (second_empty kids missing fourth) i s is had);
      }

  pub of_row : HasShape k says e → row_faults all_faults true k says e ≡ []
  of_row h =
      let text = told e.at e.name (text_fault says.content (own_text e.kids)) in
      let kids = kids_faults all_faults true k says e [] e.kids in
      let missing = missing_faults k says.slots e 0 says.slots in
      both_empty (attrs_faults says e) (lacks_faults says e ++ (text ++ (kids ++ missing))) (none_each e.at (λ a. a.name) (attr_fault says.attrs) e.attrs h.attrs)
      (both_empty (lacks_faults says e) (text ++ (kids ++ missing)) (none_each e.at (λ r. attr_name r.name) (lack_fault e.attrs) says.attrs h.lacks)
      (both_empty text (kids ++ missing) (none_told e.at e.name (text_fault says.content (own_text e.kids)) h.text)
      (both_empty kids missing (kids_none [] e.kids h.kids h.most) (of_least says.slots 0 says.slots (λ i s is had. subst (λ n. s.least ≤ filled k says.slots n e.kids) (sym (none_more i)) (h.least i s is had))))))

-- an element of a tag, where the kind of the elements in it is known

shaped_is : (k own : Kind) (t : Tag) (e : Element) → is_opaque (rule_for t).content ≡ false → kind_inside k (rule_for t).content e.attrs ≡ Some own
    → all_faults k t e ≡ row_faults all_faults true own (rule_for t) e
shaped_is k own t e asked inside =
    all_faults_is k t e
    ∙ (ap (λ b. cond b [] (faults_by all_faults (kind_inside k (rule_for t).content e.attrs) (rule_for t) e)) asked ∙ ap (λ o. faults_by all_faults o (rule_for t) e) inside)

pub shape_of : (k own : Kind) (t : Tag) (e : Element) → is_opaque (rule_for t).content ≡ false → kind_inside k (rule_for t).content e.attrs ≡ Some own → IsShaped k t e → HasShape own (rule_for t) e
shape_of k own t e asked inside h = row_of own (rule_for t) e (sym (shaped_is k own t e asked inside) ∙ h)

pub of_shape : (k own : Kind) (t : Tag) (e : Element) → is_opaque (rule_for t).content ≡ false → kind_inside k (rule_for t).content e.attrs ≡ Some own → HasShape own (rule_for t) e → IsShaped k t e
of_shape k own t e asked inside h = shaped_is k own t e asked inside ∙ of_row own (rule_for t) e h

-- an element whose content is opaque has no fault of shape
pub opaque_shaped : (k : Kind) (t : Tag) (e : Element) → is_opaque (rule_for t).content ≡ true → IsShaped k t e
opaque_shaped k t e opaque = all_faults_is k t e ∙ ap (λ b. cond b [] (faults_by all_faults (kind_inside k (rule_for t).content e.attrs) (rule_for t) e)) opaque

-- a net without a fault of shape is of a kind

heads_of : (k : Kind) (asks : Bool) (says : Saying) (e : Element) → row_faults all_faults asks k says e ≡ [] → AllByRecursion (λ a. attr_fault says.attrs a ≡ None) e.attrs × AllByRecursion (λ r. lack_fault e.attrs r ≡ None) says.attrs
heads_of k asks says e h =
    let rest = told e.at e.name (text_fault says.content (own_text e.kids)) ++ (kids_faults all_faults asks k says e [] e.kids ++ missing_faults k says.slots e 0 says.slots) in (
      each_none e.at (λ a. a.name) (attr_fault says.attrs) e.attrs (first_empty (attrs_faults says e) (lacks_faults says e ++ rest) h),
      each_none e.at (λ r. attr_name r.name) (lack_fault e.attrs) says.attrs (first_empty (lacks_faults says e) rest (second_empty (attrs_faults says e) (lacks_faults says e ++ rest) h)),
    )

net_kind_there : (k : Kind) (e : Element) → AllByRecursion (λ a. attr_fault (rule_for tag.Net).attrs a ≡ None) e.attrs → AllByRecursion (λ r. lack_fault e.attrs r ≡ None) (rule_for tag.Net).attrs
    → (own : Kind) × (kind_inside k (rule_for tag.Net).content e.attrs ≡ Some own)
unfolding rule_for
net_kind_there k e attrs lacks =
    let value = needed_there e.attrs (record { name = names.Type; is_needed = true; form = form.NetType }) lacks.1.0 refl in
    let named = kind_there value.0 (value_right table.NET_ATTRS.now e.attrs (codes "type") value.0 attrs value.1) in
    (named.0, ap (option_and_then net_kind) value.1 ∙ named.1)

net_row : (k : Kind) (e : Element) → all_faults k tag.Net e ≡ faults_by all_faults (kind_inside k (rule_for tag.Net).content e.attrs) (rule_for tag.Net) e
unfolding rule_for
net_row k e = all_faults_is k tag.Net e ∙ refl

net_asked : is_opaque (rule_for tag.Net).content ≡ false
unfolding rule_for
net_asked = refl

pub net_shape : (k : Kind) (e : Element) → IsShaped k tag.Net e → (own : Kind) × (kind_inside k (rule_for tag.Net).content e.attrs ≡ Some own) × HasShape own (rule_for tag.Net) e
net_shape k e h =
    let inside = kind_inside k (rule_for tag.Net).content e.attrs in
    let heads = heads_of (unwrap_or inside kind.PtNet) (is_some inside) (rule_for tag.Net) e (sym (net_row k e) ∙ h) in
    let own = net_kind_there k e heads.0 heads.1 in
    (own.0, own.1, shape_of k own.0 tag.Net e net_asked own.1 h)
