-- Elements that are made of what was read are such as a tree may have, where their kids are.
use Rattle.std.proofs.Common.{◌≡◌, ◌⊎◌, inl, inr, ℕ, suc, ◌+◌, ◌≤◌, Bool, true, false, cond, not, ◌&&◌, ◌==◌, List, [], ◌∷◌, ◌++◌, map, Option, Some, None, refl, sym, ap, subst, ◌∙◌, arith}
use Rattle.std.specs.List.{AllByRecursion, Contains, find, list_all, slice_get}
use Rattle.std.specs.Option.{option_map}
use Rattle.std.specs.Prelude.{codes}
use Rattle.std.proofs.lemmas.Bool.{false≢true}
use Rattle.std.proofs.lemmas.Bool.Decides.{nat_tests}
use Rattle.std.proofs.lemmas.Slice.Eq.{bytes_eq-Decides}
use Rattle.pn_facts.proofs.Contained.{contains_first, contains_next, contains_nil, contains_cases}
use Rattle.pn_facts.proofs.Lists.{all_append}
use Rattle.pn_facts.proofs.Truths.{and_left, and_right, and_both}
use Rattle.pn_text.specs.Characters.{is_name, is_text}
use Rattle.pn_operators.specs.declared.kind.Kind.{Kind}
use Rattle.pn_tree.specs.Elements.{are_apart, are_attrs, begins_with_text, is_element, is_kid, is_kid_layer, is_text_layer}
use Rattle.pn_tree.specs.declared.element.Attr.{Attr}
use Rattle.pn_tree.specs.declared.element.Element.{Element}
use Rattle.pn_tree.specs.declared.element.Child.{Child}
use Rattle.pn_tree.specs.declared.element.Child.TheOpen as layer
use Rattle.pn_tree.specs.declared.element.Child.TheVariants as children
use Rattle.pn_tree.specs.declared.element.Child.TheViews.{out-Child}
use Rattle.pn_tree.proofs.ElementLemmas.{is_kid-text, is_text_kid-text, out_element}
use Rattle.pn_tree.proofs.TreeLemmas.{Parts, of_parts, parts_of}
use Rattle.pn_shape.specs.Faults.{fill_faults, IsShaped}
use Rattle.pn_shape.specs.Rules.{Saying, rule_for}
use Rattle.pn_shape.specs.Shaped.{HasShape}
use Rattle.pn_shape.specs.Spots.{filled, has_slot, is_at, spot_at, spot_in, stands_layer, tag_of}
use Rattle.pn_shape.specs.declared.rule.Content.TheVariants as contents
use Rattle.pn_shape.specs.declared.rule.Fill.{Fill}
use Rattle.pn_shape.specs.declared.rule.Fill.TheVariants as fill
use Rattle.pn_shape.specs.declared.rule.Over.TheVariants as over
use Rattle.pn_shape.specs.declared.rule.Slot.{Slot}
use Rattle.pn_shape.specs.declared.search.Spot.{Spot}
use Rattle.pn_shape.specs.declared.tag.Tag.{Tag}
use Rattle.pn_shape.proofs.PlaceLemmas.{one_is, spot_fills, tag_is}
use Rattle.pn_spelling.specs.Parts.{child_elements, child_named, children_named, elements_among, has_name}
use Rattle.pn_spelling.specs.Writing.{all_kids, attributed, attribute, enclosing, made, text_element}
use Rattle.pn_spelling.specs.WriteNets.{kids_of}
use Rattle.pn_facts.proofs.Each.{each_both, filtered}
use Rattle.pn_round_trip.proofs.KidLemmas.{Stands, elements_shape, stand_among, the_only}
use Rattle.pn_round_trip.proofs.ReturnLemmas.{slot_at}

-- kids that are elements, of so many levels at most

abbrev pub layer_fits : (Element → Bool) → layer.Child-F Child Element → Bool
layer_fits test (layer.Element e) = test e
layer_fits test (layer.Text t) = false

abbrev pub kid_fits : ℕ → Child → Bool
kid_fits n k = layer_fits (is_element n) (out-Child k)

abbrev pub AllFit : ℕ → List Child → Type 0
AllFit n ks = list_all (kid_fits n) ks ≡ true

layer_is_kid : (test : Element → Bool) (l : layer.Child-F Child Element) → layer_fits test l ≡ true → is_kid_layer test l ≡ true
layer_is_kid test (layer.Element e) h = h
layer_is_kid test (layer.Text t) h = absurd (false≢true h)

layer_no_text : (test : Element → Bool) (l : layer.Child-F Child Element) → layer_fits test l ≡ true → is_text_layer l ≡ false
layer_no_text test (layer.Element e) h = refl
layer_no_text test (layer.Text t) h = absurd (false≢true h)

fit_kids : (n : ℕ) (ks : List Child) → AllFit n ks → list_all (is_kid (is_element n)) ks ≡ true
fit_kids n [] h = refl
fit_kids n (k ∷ ks) h =
    and_both (is_kid (is_element n) k) (list_all (is_kid (is_element n)) ks) (layer_is_kid (is_element n) (out-Child k) (and_left (kid_fits n k) (list_all (kid_fits n) ks) h))
    (fit_kids n ks (and_right (kid_fits n k) (list_all (kid_fits n) ks) h))

fit_apart : (n : ℕ) (ks : List Child) → AllFit n ks → are_apart ks ≡ true
fit_apart n [] h = refl
fit_apart n (k ∷ ks) h =
    ap (λ b. not (b && begins_with_text ks) && are_apart ks) (layer_no_text (is_element n) (out-Child k) (and_left (kid_fits n k) (list_all (kid_fits n) ks) h))
    ∙ fit_apart n ks (and_right (kid_fits n k) (list_all (kid_fits n) ks) h)

pub made_fits : (n : ℕ) (name : List ℕ) (attrs : List Attr) (ks : List Child) → is_name name ≡ true → are_attrs attrs ≡ true → AllFit n ks → is_element (suc n) (made name attrs ks) ≡ true
made_fits n name attrs ks named are all = of_parts n (made name attrs ks) (record { name = named; attrs = are; apart = fit_apart n ks all; kids = fit_kids n ks all })

pub none_fits : (n : ℕ) → AllFit n []
none_fits n = refl

pub both_fit : (n : ℕ) (xs ys : List Child) → AllFit n xs → AllFit n ys → AllFit n (xs ++ ys)
both_fit n xs ys first second = all_append (kid_fits n) xs ys first second

pub kid_fits-element : (n : ℕ) (e : Element) → is_element n e ≡ true → kid_fits n (children.Element e) ≡ true
kid_fits-element n e h = ap (layer_fits (is_element n)) (out_element e) ∙ h

pub first_fits : (n : ℕ) (e : Element) (ks : List Child) → is_element n e ≡ true → AllFit n ks → AllFit n (children.Element e ∷ ks)
first_fits n e ks h more = and_both (kid_fits n (children.Element e)) (list_all (kid_fits n) ks) (kid_fits-element n e h) more

pub one_fits : (n : ℕ) (e : Element) → is_element n e ≡ true → AllFit n (children.Element e ∷ [])
one_fits n e h = first_fits n e [] h refl

pub around_fits : (n : ℕ) (name : List ℕ) (e : Element) → is_name name ≡ true → is_element n e ≡ true → is_element (suc n) (enclosing name e) ≡ true
around_fits n name e named h = made_fits n name [] (children.Element e ∷ []) named refl (one_fits n e h)

pub value_attrs : (key value : List ℕ) → is_name key ≡ true → is_text value ≡ true → are_attrs (attribute key value ∷ []) ≡ true
value_attrs key value named is = and_both (is_name key) (is_text value && true) named (and_both (is_text value) true is refl)

pub attributed_fits : (n : ℕ) (name key value : List ℕ) → is_name name ≡ true → is_name key ≡ true → is_text value ≡ true → is_element (suc n) (attributed name key value) ≡ true
attributed_fits n name key value named keyed is = made_fits n name (attribute key value ∷ []) [] named (value_attrs key value keyed is) refl

pub text_fits : (n : ℕ) (t : List ℕ) → is_text t ≡ true → is_element (suc n) (text_element t) ≡ true
text_fits n [] is = made_fits n (codes "text") [] [] refl refl refl
text_fits n (b ∷ bs) is = of_parts n (text_element (b ∷ bs)) (record {
  name = refl;
  attrs = refl;
  apart = ap (λ x. not (x && false) && true) (is_text_kid-text (b ∷ bs));
  kids = and_both (is_kid (is_element n) (children.Text (b ∷ bs))) true (is_kid-text (is_element n) (b ∷ bs) ∙ is) refl;
})

-- what is made of things that were read

pub all_kids_fit : {A X : Type 0} (P : X → Type 0) (n : ℕ) (spell : A → Element) (read : X → A) → ((x : X) → P x → is_element n (spell (read x)) ≡ true) → (xs : List X) → AllByRecursion P xs
    → AllFit n (all_kids spell (map read xs))
all_kids_fit P n spell read f [] all = refl
all_kids_fit P n spell read f (x ∷ xs) all = first_fits n (spell (read x)) (all_kids spell (map read xs)) (f x all.0) (all_kids_fit P n spell read f xs all.1)

pub kids_of_fit : {A X : Type 0} (n : ℕ) (spell : A → Element) (read : X → A) (o : Option X) → ((x : X) → o ≡ Some x → is_element n (spell (read x)) ≡ true) → AllFit n (kids_of spell (option_map read o))
kids_of_fit n spell read None f = refl
kids_of_fit n spell read (Some x) f = one_fits n (spell (read x)) (f x refl)

pub elements_fit : (n : ℕ) (xs : List Element) → AllByRecursion (λ x. is_element n x ≡ true) xs → AllFit n (map children.Element xs)
elements_fit n [] all = refl
elements_fit n (x ∷ xs) all = first_fits n x (map children.Element xs) all.0 (elements_fit n xs all.1)

-- an element of a row, without a fault of shape, in a tree

pub record IsSoundElement (n : ℕ) (k : Kind) (says : Saying) (e : Element) : Type 0 where
  pub parts : Parts n e
  pub shape : HasShape k says e

pub whole_of : (n : ℕ) (k : Kind) (t : Tag) (e : Element) → (rule_for t).content ≡ contents.Elements → is_element (suc n) e ≡ true → IsShaped k t e → IsSoundElement n k (rule_for t) e
whole_of n k t e content fits shaped = record {
  parts = parts_of n e fits;
  shape = elements_shape k t e content shaped;
}

inside_among : (n : ℕ) (ks : List Child) → list_all (is_kid (is_element n)) ks ≡ true → AllByRecursion (λ x. is_element n x ≡ true) (elements_among ks)
inside_among n [] all = tt
inside_among n (c ∷ ks) all =
    step (out-Child c) refl (and_left (is_kid (is_element n) c) (list_all (is_kid (is_element n)) ks) all)
    (inside_among n ks (and_right (is_kid (is_element n) c) (list_all (is_kid (is_element n)) ks) all))
  where
    step : (l : layer.Child-F Child Element) → out-Child c ≡ l → is_kid_layer (is_element n) (out-Child c) ≡ true → AllByRecursion (λ x. is_element n x ≡ true) (elements_among ks)
        → AllByRecursion (λ x. is_element n x ≡ true) (elements_among (c ∷ ks))
    step (layer.Element x) is h rest = rw is (ap (is_kid_layer (is_element n)) (sym is) ∙ h, rest)
    step (layer.Text t) is h rest = rw is rest

-- the elements in it may stand in a tree
pub inside_fit : (n : ℕ) (e : Element) → Parts n e → AllByRecursion (λ x. is_element n x ≡ true) (child_elements e)
inside_fit n e p = inside_among n e.kids p.kids

-- a place for one element that has to stand in it
abbrev pub needed_one : Fill → Slot
needed_one f = record { fill = f; least = 1; most = Some 1; over = over.Repeated }

-- the element in an element whose row has such a place and no other
pub record HasOnly (n : ℕ) (k : Kind) (f : Fill) (e : Element) : Type 0 where
  pub x : Element
  pub only : child_elements e ≡ x ∷ []
  pub fits : is_element n x ≡ true
  pub shaped : fill_faults k f x ≡ []

pub only_inside : (n : ℕ) (k : Kind) (t : Tag) (e : Element) (f : Fill) → (rule_for t).content ≡ contents.Elements → (rule_for t).slots ≡ needed_one f ∷ [] → has_slot k f ≡ true
    → is_element (suc n) e ≡ true → IsShaped k t e → HasOnly n k f e
only_inside n k t e f content only had fits shaped =
    let w = whole_of n k t e content fits shaped in
    let one = the_only k (rule_for t) (needed_one f) only e refl refl had w.shape in
    record { x = one.0; only = one.1; fits = (subst (AllByRecursion (λ x. is_element n x ≡ true)) one.1 (inside_fit n e w.parts)).0; shaped = one.2 }

-- an element in it, of this name
pub record Inner (n : ℕ) (k : Kind) (slots : List Slot) (name : List ℕ) (x : Element) : Type 0 where
  pub fits : is_element n x ≡ true
  pub spot : Spot
  pub found : spot_in k name 0 slots ≡ Some spot
  pub shaped : IsShaped k spot.tag x

pub find_is : {X : Type 0} (P : X → Type 0) (p : X → Bool) (xs : List X) (x : X) → AllByRecursion P xs → find p xs ≡ Some x → P x × (p x ≡ true)
find_is P p [] x all is = absurd (let no : None ≡ Some x = is in cc)
find_is P p (y ∷ ys) x all is = step (p y) refl is (λ more. find_is P p ys x all.1 more)
  where
    step : (b : Bool) → p y ≡ b → cond b (Some y) (find p ys) ≡ Some x → (find p ys ≡ Some x → P x × (p x ≡ true)) → P x × (p x ≡ true)
    step true is found more = let same : y ≡ x = cc in (subst P same all.0, ap p (sym same) ∙ is)
    step false is found more = more found

module _ (n : ℕ) (k : Kind) (says : Saying) (e : Element) (w : IsSoundElement n k says e) where
  abbrev pub Standing : Element → Type 0
  Standing x = (is_element n x ≡ true) × Stands k says x

  pub standing : AllByRecursion Standing (child_elements e)
  standing = each_both (λ x. is_element n x ≡ true) (Stands k says) Standing (λ x fits stands. (fits, stands)) (child_elements e) (inside_fit n e w.parts) (stand_among k says e.kids w.shape.kids)

  inner : (name : List ℕ) (x : Element) → Standing x → has_name name x ≡ true → Inner n k says.slots name x
  inner name x s is =
      let same = (bytes_eq-Decides x.name name).0 is in
      record { fits = s.0; spot = s.1.0; found = ap (λ m. spot_in k m 0 says.slots) (sym same) ∙ s.1.1; shaped = s.1.2 }

  pub inner_named : (name : List ℕ) → AllByRecursion (Inner n k says.slots name) (children_named name e)
  inner_named name = filtered Standing (Inner n k says.slots name) (has_name name) (λ x s is. inner name x s is) (child_elements e) standing

  pub inner_first : (name : List ℕ) (x : Element) → child_named name e ≡ Some x → Inner n k says.slots name x
  inner_first name x is = let found = find_is Standing (has_name name) (child_elements e) x standing is in inner name x found.0 found.1

-- the tag of an element that has this place

pub same_tag : (i : ℕ) (u : Tag) (s : Spot) → Some (spot_at i u) ≡ Some s → s.tag ≡ u
same_tag i u s is = cc

-- what holds of the elements that fill each place holds of the one that is found
pub by_spot : (Q : Tag → Type 0) (k : Kind) (name : List ℕ) (slots : List Slot) (s : Spot) → spot_in k name 0 slots ≡ Some s
    → AllByRecursion (λ slot. (t : Tag) → tag_of k name slot.fill ≡ Some t → Q t) slots → Q s.tag
by_spot Q k name slots s is all =
    let f = spot_fills k name slots s is in slot_at (λ (slot : Slot). (t : Tag) → tag_of k name slot.fill ≡ Some t → Q t) slots s.place f.0 all f.1 s.tag f.2

pub by_one : (Q : Tag → Type 0) (k : Kind) (name : List ℕ) (u : Tag) → Q u → (t : Tag) → tag_of k name (fill.One u) ≡ Some t → Q t
by_one Q k name u h t is = subst Q (sym (one_is k name u t is)) h

-- where an element has to stand, one is found

find_there : (p : Element → Bool) (xs : List Element) (x : Element) → Contains xs x → p x ≡ true → (y : Element) × (find p xs ≡ Some y)
find_there p [] x is h = absurd (contains_nil x is)
find_there p (y ∷ ys) x is h = step (p y) refl (contains_cases y ys x is) (λ more. find_there p ys x more h)
  where
    step : (b : Bool) → p y ≡ b → (y ≡ x) ⊎ Contains ys x → (Contains ys x → (z : Element) × (find p ys ≡ Some z)) → (z : Element) × (cond b (Some y) (find p ys) ≡ Some z)
    step true is cases more = (y, refl)
    step false is (inl same) more = absurd (false≢true (sym is ∙ ap p same ∙ h))
    step false is (inr there) more = more there

pub record HasKidAt (k : Kind) (slots : List Slot) (i : ℕ) (ks : List Child) : Type 0 where
  pub x : Element
  pub there : Contains (elements_among ks) x
  pub spot : Spot
  pub found : spot_in k x.name 0 slots ≡ Some spot
  pub place : spot.place ≡ i

has_kid_at : (k : Kind) (slots : List Slot) (i : ℕ) (ks : List Child) → 1 ≤ filled k slots i ks → HasKidAt k slots i ks
has_kid_at k slots i [] some = absurd (omega arith)
has_kid_at k slots i (c ∷ ks) some = on_kid (out-Child c) refl some (λ more. has_kid_at k slots i ks more)
  where
    later : (xs : List Element) → elements_among (c ∷ ks) ≡ xs → ((x : Element) → Contains (elements_among ks) x → Contains xs x) → HasKidAt k slots i ks → HasKidAt k slots i (c ∷ ks)
    later xs is f s = record { x = s.x; there = subst (λ l. Contains l s.x) (sym is) (f s.x s.there); spot = s.spot; found = s.found; place = s.place }

    on_spot : (x : Element) (o : Option Spot) → out-Child c ≡ layer.Element x → spot_in k x.name 0 slots ≡ o → 1 ≤ cond (is_at i o) 1 0 + filled k slots i ks
        → (1 ≤ filled k slots i ks → HasKidAt k slots i ks) → HasKidAt k slots i (c ∷ ks)
    on_spot x None is found some more = later (x ∷ elements_among ks) (rw is refl) (λ y there. contains_next x (elements_among ks) y there) (more (omega (arith, some)))
    on_spot x (Some s) is found some more = by (s.place == i) refl some
      where
        by : (b : Bool) → (s.place == i) ≡ b → 1 ≤ cond b 1 0 + filled k slots i ks → HasKidAt k slots i (c ∷ ks)
        by true same some =
            let list : elements_among (c ∷ ks) ≡ x ∷ elements_among ks = rw is refl in
            record { x = x; there = subst (λ l. Contains l x) (sym list) (contains_first x (elements_among ks)); spot = s; found = found; place = grind (arith, nat_tests) }
        by false other some = later (x ∷ elements_among ks) (rw is refl) (λ y there. contains_next x (elements_among ks) y there) (more (omega (arith, some)))

    on_kid : (l : layer.Child-F Child Element) → out-Child c ≡ l → 1 ≤ cond (stands_layer k slots i (out-Child c)) 1 0 + filled k slots i ks → (1 ≤ filled k slots i ks → HasKidAt k slots i ks)
        → HasKidAt k slots i (c ∷ ks)
    on_kid (layer.Element x) is some more =
        on_spot x (spot_in k x.name 0 slots) is refl (subst (λ l. 1 ≤ cond (stands_layer k slots i l) 1 0 + filled k slots i ks) is some) more
    on_kid (layer.Text t) is some more =
        later (elements_among ks) (rw is refl) (λ y there. there) (more (omega (arith, subst (λ l. 1 ≤ cond (stands_layer k slots i l) 1 0 + filled k slots i ks) is some)))

-- a kid in this place, where one has to stand in it
pub stands_needed : (k : Kind) (says : Saying) (e : Element) (i : ℕ) (slot : Slot) → HasShape k says e → slice_get says.slots i ≡ Some slot → has_slot k slot.fill ≡ true → 1 ≤ slot.least
    → HasKidAt k says.slots i e.kids
stands_needed k says e i slot shape at had least = let enough = shape.least i slot at had in has_kid_at k says.slots i e.kids (omega (arith, enough))

-- the first element of which the test holds, where it holds of those in this place
pub find_needed : (k : Kind) (slots : List Slot) (i : ℕ) (p : Element → Bool) (e : Element) → ((x : Element) (s : Spot) → spot_in k x.name 0 slots ≡ Some s → s.place ≡ i → p x ≡ true)
    → HasKidAt k slots i e.kids → (y : Element) × (find p (child_elements e) ≡ Some y)
find_needed k slots i p e f s = find_there p (child_elements e) s.x s.there (f s.x s.spot s.found s.place)

pub slot_same : (slots : List Slot) (i j : ℕ) (s t : Slot) → i ≡ j → slice_get slots i ≡ Some s → slice_get slots j ≡ Some t → s ≡ t
slot_same slots i j s t same first second = let both : Some s ≡ Some t = sym first ∙ ap (slice_get slots) same ∙ second in cc

-- the element of this name, where one has to be there
pub needed_named : (k : Kind) (says : Saying) (e : Element) (i : ℕ) (slot : Slot) (t : Tag) → HasShape k says e → slice_get says.slots i ≡ Some slot → slot.fill ≡ fill.One t → has_slot k slot.fill ≡ true
    → 1 ≤ slot.least → (y : Element) × (child_named (rule_for t).name e ≡ Some y)
needed_named k says e i slot t shape at filling had least =
    find_needed k says.slots i (has_name (rule_for t).name) e named (stands_needed k says e i slot shape at had least)
  where
    named : (x : Element) (s : Spot) → spot_in k x.name 0 says.slots ≡ Some s → s.place ≡ i → has_name (rule_for t).name x ≡ true
    named x s found place =
        let filled = spot_fills k x.name says.slots s found in
        let same = slot_same says.slots s.place i filled.0 slot place filled.1 at in
        let tagged = ap (λ (r : Slot). tag_of k x.name r.fill) (sym same) ∙ filled.2 in
        let one = one_is k x.name t s.tag (ap (λ f. tag_of k x.name f) (sym filling) ∙ tagged) in
        let is = (tag_is k x.name (fill.One t) s.tag (ap (λ f. tag_of k x.name f) (sym filling) ∙ tagged)).0 in
        (bytes_eq-Decides x.name (rule_for t).name).1 (sym is ∙ ap (λ u. (rule_for u).name) one)
