-- The elements in an element without a fault of shape, and others that stand in their places.
use Rattle.std.proofs.Common.{suc, ◌≡◌, ◌⊎◌, inl, inr, ℕ, ◌+◌, ◌<◌, ◌≤◌, true, cond, ◌||◌, ◌==◌, List, [], ◌∷◌, map, length, Option, Some, None, IfSome, refl, sym, ap, subst, ◌∙◌, arith, Bool, false, not}
use Rattle.std.specs.List.{slice_get, list_any, slice_index_or, AllByRecursion, Contains, filter}
use Rattle.std.specs.Option.{option_map, option_or}
use Rattle.pn_operators.specs.declared.kind.Kind.{Kind}
use Rattle.pn_tree.specs.Depth.{depth_of, greatest, kid_depth}
use Rattle.pn_tree.specs.declared.element.Attr.{Attr}
use Rattle.pn_tree.specs.declared.element.Element.{Element}
use Rattle.pn_tree.specs.declared.element.Child.{Child}
use Rattle.pn_tree.specs.declared.element.Child.TheOpen as layer
use Rattle.pn_tree.specs.declared.element.Child.TheVariants as children
use Rattle.pn_tree.specs.declared.element.Child.TheViews.{out-Child}
use Rattle.pn_tree.proofs.DepthLemmas.{depth_is, kid_depth-element}
use Rattle.pn_tree.proofs.ElementLemmas.{out_element}
use Rattle.pn_facts.proofs.Contained.{contains_nil, contains_cases}
use Rattle.pn_facts.proofs.Each.{each}
use Rattle.pn_shape.specs.Attributes.{attr_fault, lack_fault}
use Rattle.pn_shape.specs.Faults.{fill_faults, is_opaque, kind_inside, no_slot, own_text, text_fault, IsShaped}
use Rattle.pn_shape.specs.Rules.{Saying, alternatives, is_had, rule_for}
use Rattle.pn_shape.specs.Shaped.{HasShape, IsPlaced, IsPlacedLayer}
use Rattle.pn_shape.specs.Spots.{filled, has_slot, is_at, spot_at, spot_in, stands_layer, tag_of}
use Rattle.pn_shape.specs.declared.rule.Content.TheVariants as contents
use Rattle.pn_shape.specs.declared.rule.Fill.{Fill}
use Rattle.pn_shape.specs.declared.rule.Slot.{Slot}
use Rattle.pn_shape.specs.declared.search.Spot.{Spot}
use Rattle.pn_shape.specs.declared.tag.Tag.{Tag}
use Rattle.pn_shape.proofs.LevelLemmas.{kid_is}
use Rattle.pn_shape.proofs.PlaceLemmas.{fill_of, of_fill, placed_element}
use Rattle.pn_shape.proofs.ShapedLemmas.{of_shape, shape_of}
use Rattle.pn_spelling.specs.Parts.{child_elements, elements_among}
use Rattle.pn_spelling.specs.Writing.{made}

-- the elements among kids that are elements

pub elements_again : (xs : List Element) → elements_among (map children.Element xs) ≡ xs
elements_again [] = refl
elements_again (x ∷ xs) = rw (out_element x) (ap (λ ys. x ∷ ys) (elements_again xs))

-- a kid that is an element is deeper than the element it stands in

pub shallower_among : (levels : ℕ) (ks : List Child) → greatest (map kid_depth ks) ≤ levels → AllByRecursion (λ x. depth_of x ≤ levels) (elements_among ks)
shallower_among levels [] within = tt
shallower_among levels (c ∷ ks) within = on_kid (out-Child c) refl (shallower_among levels ks (omega arith))
  where
    on_kid : (l : layer.Child-F Child Element) → out-Child c ≡ l → AllByRecursion (λ x. depth_of x ≤ levels) (elements_among ks) → AllByRecursion (λ x. depth_of x ≤ levels) (elements_among (c ∷ ks))
    on_kid (layer.Element x) is rest = rw is (omega (arith, ap kid_depth (kid_is c x is), kid_depth-element x), rest)
    on_kid (layer.Text t) is rest = rw is rest

pub shallower : (e : Element) → AllByRecursion (λ x. depth_of x < depth_of e) (child_elements e)
shallower e =
    each (λ x. depth_of x ≤ greatest (map kid_depth e.kids)) (λ x. depth_of x < depth_of e) (λ x le. omega (arith, depth_is e)) (child_elements e)
    (shallower_among (greatest (map kid_depth e.kids)) e.kids (omega arith))

module _ (k : Kind) (says : Saying) where
  -- an element has a place and no fault of shape there
  abbrev pub Stands : Element → Type 0
  Stands x = (s : Spot) × (spot_in k x.name 0 says.slots ≡ Some s) × IsShaped k s.tag x

  -- the second stands in the place of the first
  abbrev pub StandsFor : Element → Element → Type 0
  StandsFor x y = (s : Spot) × (t : Spot) × (spot_in k x.name 0 says.slots ≡ Some s) × (spot_in k y.name 0 says.slots ≡ Some t) × (s.place ≡ t.place) × IsShaped k t.tag y

  pub stand_among : (ks : List Child) → AllByRecursion (IsPlaced k says) ks → AllByRecursion Stands (elements_among ks)
  stand_among [] all = tt
  stand_among (c ∷ ks) all = on_kid (out-Child c) refl all.0 (stand_among ks all.1)
    where
      on_kid : (l : layer.Child-F Child Element) → out-Child c ≡ l → IsPlacedLayer k says l → AllByRecursion Stands (elements_among ks) → AllByRecursion Stands (elements_among (c ∷ ks))
      on_kid (layer.Element x) is placed rest = rw is (placed, rest)
      on_kid (layer.Text t) is placed rest = rw is rest

  -- texts fill no place
  pub filled_elements : (i : ℕ) (ks : List Child) → filled k says.slots i (map children.Element (elements_among ks)) ≡ filled k says.slots i ks
  filled_elements i [] = refl
  filled_elements i (c ∷ ks) = on_kid (out-Child c) refl (filled_elements i ks)
    where
      on_kid : (l : layer.Child-F Child Element) → out-Child c ≡ l → filled k says.slots i (map children.Element (elements_among ks)) ≡ filled k says.slots i ks
          → filled k says.slots i (map children.Element (elements_among (c ∷ ks))) ≡ filled k says.slots i (c ∷ ks)
      on_kid (layer.Element x) is rest = rw (is, out_element x, rest) refl
      on_kid (layer.Text t) is rest = rw (is, rest) (omega arith)

  -- an element fills the place that it has
  pub filled_first : (i : ℕ) (x : Element) (s : Spot) (ks : List Child) → spot_in k x.name 0 says.slots ≡ Some s
      → filled k says.slots i (children.Element x ∷ ks) ≡ cond (s.place == i) 1 0 + filled k says.slots i ks
  filled_first i x s ks is = ap (λ l. cond (stands_layer k says.slots i l) 1 0 + filled k says.slots i ks) (out_element x) ∙ ap (λ o. cond (is_at i o) 1 0 + filled k says.slots i ks) is

  -- the elements of which a test holds, and those of which it does not
  pub filled_split : (test : Element → Bool) (i : ℕ) (xs : List Element) → filled k says.slots i (map children.Element xs)
      ≡ filled k says.slots i (map children.Element (filter (λ x. not (test x)) xs)) + filled k says.slots i (map children.Element (filter test xs))
  filled_split test i [] = refl
  filled_split test i (x ∷ xs) = step (test x) (filled_split test i xs)
    where
      count : List Element → ℕ
      count ys = filled k says.slots i (map children.Element ys)

      step : (b : Bool) → count xs ≡ count (filter (λ x. not (test x)) xs) + count (filter test xs)
          → count (x ∷ xs) ≡ count (cond (not b) (x ∷ filter (λ x. not (test x)) xs) (filter (λ x. not (test x)) xs)) + count (cond b (x ∷ filter test xs) (filter test xs))
      step true rest = omega arith
      step false rest = omega arith

  -- an element has the place of this number
  abbrev pub HasPlace : ℕ → Element → Type 0
  HasPlace n x = (s : Spot) × (spot_in k x.name 0 says.slots ≡ Some s) × (s.place ≡ n)

  pub filled_there : (n i : ℕ) (b : Bool) → (n == i) ≡ b → (xs : List Element) → AllByRecursion (HasPlace n) xs → filled k says.slots i (map children.Element xs) ≡ cond b (length xs) 0
  filled_there n i true is [] all = refl
  filled_there n i false is [] all = refl
  filled_there n i b is (x ∷ xs) all =
      filled_first i x all.0.0 (map children.Element xs) all.0.1
      ∙ ap (λ p. cond (p == i) 1 0 + filled k says.slots i (map children.Element xs)) all.0.2
      ∙ step b is (filled_there n i b is xs all.1)
    where
      step : (b : Bool) → (n == i) ≡ b → filled k says.slots i (map children.Element xs) ≡ cond b (length xs) 0 → cond (n == i) 1 0 + filled k says.slots i (map children.Element xs) ≡ cond b (suc (length xs)) 0
      step true is rest = ap (λ c. cond c 1 0 + filled k says.slots i (map children.Element xs)) is ∙ omega (arith, rest)
      step false is rest = ap (λ c. cond c 1 0 + filled k says.slots i (map children.Element xs)) is ∙ omega (arith, rest)

  pub placed_for : (f : Element → Element) (xs : List Element) → AllByRecursion (λ x. StandsFor x (f x)) xs → AllByRecursion (IsPlaced k says) (map children.Element (map f xs))
  placed_for f [] all = tt
  placed_for f (x ∷ xs) all = let one = all.0 in (placed_element k says (f x) one.1 one.3 one.5, placed_for f xs all.1)

  pub filled_for : (f : Element → Element) (i : ℕ) (xs : List Element) → AllByRecursion (λ x. StandsFor x (f x)) xs
      → filled k says.slots i (map children.Element xs) ≡ filled k says.slots i (map children.Element (map f xs))
  filled_for f i [] all = refl
  filled_for f i (x ∷ xs) all =
      let one = all.0 in
      filled_first i x one.0 (map children.Element xs) one.2
      ∙ ap (λ p. cond (p == i) 1 0 + filled k says.slots i (map children.Element xs)) one.4
      ∙ ap (λ n. cond (one.1.place == i) 1 0 + n) (filled_for f i xs all.1)
      ∙ sym (filled_first i (f x) one.1 (map children.Element (map f xs)) one.3)

  -- where so many elements fill each place as in an element that is as its row says, and its attributes are as they have to be, so is another
  pub shape_from : (e : Element) (xs : List Element) (name : List ℕ) (attrs : List Attr) → says.content ≡ contents.Elements → HasShape k says e
      → AllByRecursion (IsPlaced k says) (map children.Element xs) → ((i : ℕ) → filled k says.slots i e.kids ≡ filled k says.slots i (map children.Element xs))
      → AllByRecursion (λ a. attr_fault says.attrs a ≡ None) attrs → AllByRecursion (λ r. lack_fault attrs r ≡ None) says.attrs
      → HasShape k says (made name attrs (map children.Element xs))
  shape_from e xs name attrs content shape placed same no_fault no_lack = record {
    attrs = no_fault;
    lacks = no_lack;
    text = ap (λ c. text_fault c (own_text (map children.Element xs))) content;
    kids = placed;
    most = λ i. subst (λ n. IfSome (slice_index_or says.slots i no_slot).most (λ most. n ≤ most)) (same i) (shape.most i);
    least = λ i s is had. subst (λ n. s.least ≤ n) (same i) (shape.least i s is had);
  }

  -- the same where others stand in the places of the elements in it
  pub shape_with : (e : Element) (f : Element → Element) (name : List ℕ) (attrs : List Attr) → says.content ≡ contents.Elements → HasShape k says e
      → AllByRecursion (λ x. StandsFor x (f x)) (child_elements e) → AllByRecursion (λ a. attr_fault says.attrs a ≡ None) attrs → AllByRecursion (λ r. lack_fault attrs r ≡ None) says.attrs
      → HasShape k says (made name attrs (map children.Element (map f (child_elements e))))
  shape_with e f name attrs content shape all no_fault no_lack =
      shape_from e (map f (child_elements e)) name attrs content shape (placed_for f (child_elements e) all) (λ i. sym (filled_elements i e.kids) ∙ filled_for f i (child_elements e) all) no_fault no_lack

-- an element of a row in which elements stand

pub elements_shape : (k : Kind) (t : Tag) (e : Element) → (rule_for t).content ≡ contents.Elements → IsShaped k t e → HasShape k (rule_for t) e
elements_shape k t e content shaped = shape_of k k t e (ap is_opaque content) (ap (λ c. kind_inside k c e.attrs) content) shaped

pub shaped_elements : (k : Kind) (t : Tag) (e : Element) → (rule_for t).content ≡ contents.Elements → HasShape k (rule_for t) e → IsShaped k t e
shaped_elements k t e content shape = of_shape k k t e (ap is_opaque content) (ap (λ c. kind_inside k c e.attrs) content) shape

-- where nets have one of the elements that fill a place, they have the place
pub place_there : (k : Kind) (f : Fill) (t : Tag) → Contains (alternatives f) t → is_had k t ≡ true → has_slot k f ≡ true
unfolding has_slot
place_there k f t is had = among (alternatives f) is
  where
    among : (ts : List Tag) → Contains ts t → list_any (is_had k) ts ≡ true
    among [] is = absurd (contains_nil t is)
    among (u ∷ ts) is = step (contains_cases u ts t is) (is_had k u) refl (λ more. among ts more)
      where
        step : (u ≡ t) ⊎ Contains ts t → (b : Bool) → is_had k u ≡ b → (Contains ts t → list_any (is_had k) ts ≡ true) → (b || list_any (is_had k) ts) ≡ true
        step c true own more = refl
        step (inl same) false own more = absurd (let no : false ≡ true = sym own ∙ ap (is_had k) same ∙ had in cc)
        step (inr there) false own more = more there

-- a row that has one place

pub only_spot : (k : Kind) (slot : Slot) (name : List ℕ) (s : Spot) → spot_in k name 0 (slot ∷ []) ≡ Some s → (s.place ≡ 0) × (tag_of k name slot.fill ≡ Some s.tag)
unfolding spot_in
only_spot k slot name s is = step (tag_of k name slot.fill) refl is
  where
    step : (o : Option Tag) → tag_of k name slot.fill ≡ o → option_or (option_map (spot_at 0) o) None ≡ Some s → (s.place ≡ 0) × (tag_of k name slot.fill ≡ Some s.tag)
    step (Some t) tagged found = let same : spot_at 0 t ≡ s = cc in (ap (λ (x : Spot). x.place) (sym same), tagged ∙ ap (λ (x : Spot). Some x.tag) same)
    step None tagged found = absurd cc

pub spot_first : (k : Kind) (slot : Slot) (slots : List Slot) (name : List ℕ) (t : Tag) → tag_of k name slot.fill ≡ Some t → spot_in k name 0 (slot ∷ slots) ≡ Some (spot_at 0 t)
unfolding spot_in
spot_first k slot slots name t is = ap (λ o. option_or (option_map (spot_at 0) o) (spot_in k name 1 slots)) is

module _ (k : Kind) (says : Saying) (slot : Slot) (only : says.slots ≡ slot ∷ []) where
  abbrev Fills : Element → Type 0
  Fills x = fill_faults k slot.fill x ≡ []

  pub fills_only : (x : Element) → Stands k says x → Fills x
  fills_only x (s, is, shaped) = of_fill k slot.fill x s.tag (only_spot k slot x.name s (ap (spot_in k x.name 0) (sym only) ∙ is)).1 shaped

  pub stands_for_only : (x y : Element) → Fills x → Fills y → StandsFor k says x y
  stands_for_only x y first second =
      let a = fill_of k slot.fill x first in
      let b = fill_of k slot.fill y second in
      (spot_at 0 a.0, spot_at 0 b.0, ap (spot_in k x.name 0) only ∙ spot_first k slot [] x.name a.0 a.1, ap (spot_in k y.name 0) only ∙ spot_first k slot [] y.name b.0 b.1, refl, b.2)

  pub all_fill : (e : Element) → HasShape k says e → AllByRecursion Fills (child_elements e)
  all_fill e shape = each (Stands k says) Fills fills_only (child_elements e) (stand_among k says e.kids shape.kids)

  pub filled_only : (xs : List Element) → AllByRecursion (Stands k says) xs → filled k says.slots 0 (map children.Element xs) ≡ length xs
  filled_only [] all = refl
  filled_only (x ∷ xs) (one, more) =
      filled_first k says 0 x one.0 (map children.Element xs) one.1
      ∙ ap (λ p. cond (p == 0) 1 0 + filled k says.slots 0 (map children.Element xs)) (only_spot k slot x.name one.0 (ap (spot_in k x.name 0) (sym only) ∙ one.1)).0
      ∙ omega (arith, filled_only xs more)

  -- so many elements stand in it
  pub number_only : (e : Element) → HasShape k says e → filled k says.slots 0 e.kids ≡ length (child_elements e)
  number_only e shape = sym (filled_elements k says 0 e.kids) ∙ filled_only (child_elements e) (stand_among k says e.kids shape.kids)

  -- where one has to stand in it, and no more, there is one
  pub the_only : (e : Element) → slot.least ≡ 1 → slot.most ≡ Some 1 → has_slot k slot.fill ≡ true → HasShape k says e → (x : Element) × (child_elements e ≡ x ∷ []) × Fills x
  the_only e least most had shape = among (child_elements e) refl (all_fill e shape)
    where
      no_less : 1 ≤ length (child_elements e)
      no_less = omega (arith, least, number_only e shape, shape.least 0 slot (ap (λ slots. slice_get slots 0) only) had)

      no_more : length (child_elements e) ≤ 1
      no_more =
          subst (λ n. n ≤ 1) (number_only e shape)
          (subst (λ m. IfSome m (λ most. filled k says.slots 0 e.kids ≤ most)) (ap (λ slots. (slice_index_or slots 0 no_slot).most) only ∙ most) (shape.most 0))

      among : (xs : List Element) → child_elements e ≡ xs → AllByRecursion Fills xs → (x : Element) × (child_elements e ≡ x ∷ []) × Fills x
      among [] is all = absurd (omega (arith, ap length is, no_less))
      among (x ∷ []) is all = (x, is, all.0)
      among (x ∷ (y ∷ ys)) is all = absurd (omega (arith, ap length is, no_more))

-- an element with nothing in it, where its row has no place
pub leaf_shape : (k : Kind) (says : Saying) (name : List ℕ) (attrs : List Attr) → says.content ≡ contents.Elements → says.slots ≡ []
    → AllByRecursion (λ a. attr_fault says.attrs a ≡ None) attrs → AllByRecursion (λ r. lack_fault attrs r ≡ None) says.attrs → HasShape k says (made name attrs [])
leaf_shape k says name attrs content none no_fault no_lack = record {
  attrs = no_fault;
  lacks = no_lack;
  text = ap (λ c. text_fault c []) content;
  kids = tt;
  most = λ i. none_filled (slice_index_or says.slots i no_slot).most;
  least = λ i s is had. absurd (let no : None ≡ Some s = ap (λ slots. slice_get slots i) (sym none) ∙ is in cc);
}
  where
    none_filled : (o : Option ℕ) → IfSome o (λ most. 0 ≤ most)
    none_filled None = tt
    none_filled (Some most) = omega arith
