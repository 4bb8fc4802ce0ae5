-- An element whose kids come in groups, one group for each place of its row, in the order of the row.
use Rattle.std.proofs.Common.{◌≡◌, ◌⊎◌, inl, inr, ℕ, zero, suc, ◌+◌, ◌<◌, ◌≤◌, Bool, true, false, cond, ◌==◌, ◌||◌, List, [], ◌∷◌, ◌++◌, map, length, codes, Option, Some, None, IfSome, refl, sym, ap, subst, ◌∙◌, arith}
use Rattle.std.specs.List.{slice_get, slice_index_or, filter, flat_map, AllByRecursion}
use Rattle.std.specs.Str.{bytes_eq}
use Rattle.std.proofs.lemmas.List.{map-append}
use Rattle.std.proofs.lemmas.List.Elements.{filter-append}
use Rattle.std.proofs.lemmas.Bool.Decides.{nat_tests}
use Rattle.std.proofs.lemmas.Slice.Eq.{bytes_eq-Decides}
use Rattle.pn_operators.specs.declared.kind.Kind.{Kind}
use Rattle.pn_tree.specs.declared.element.Attr.{Attr}
use Rattle.pn_tree.specs.declared.element.Element.{Element}
use Rattle.pn_tree.specs.declared.element.Child.TheVariants as children
use Rattle.pn_shape.specs.Attributes.{attr_fault, lack_fault}
use Rattle.pn_shape.specs.Faults.{no_slot, own_text, text_fault}
use Rattle.pn_shape.specs.Rules.{Saying}
use Rattle.pn_shape.specs.Shaped.{HasShape, IsPlaced}
use Rattle.pn_shape.specs.Spots.{filled, has_slot}
use Rattle.pn_shape.specs.declared.rule.Content.TheVariants as contents
use Rattle.pn_shape.specs.declared.rule.Slot.{Slot}
use Rattle.pn_shape.proofs.ShapedLemmas.{filled_both}
use Rattle.pn_shape.proofs.WrittenLemmas.{FillsPlace, as_kids, all_filled, all_placed, both_all}
use Rattle.pn_spelling.specs.ReadNets.{is_opaque_part}
use Rattle.pn_spelling.specs.Writing.{made}

-- the elements in one place; they have one name, or are parts that are kept as they are
pub record Group : Type 0 where
  pub slot : Slot
  pub called : Option (List ℕ)
  pub members : List Element

abbrev pub members_of : List Group → List Element
members_of = flat_map (λ g. g.members)

abbrev pub slots_of : List Group → List Slot
slots_of = map (λ g. g.slot)

module _ (k : Kind) (says : Saying) where
  -- the elements stand in the place of this number, and are as many as there have to be
  pub record FitsAt (i : ℕ) (g : Group) : Type 0 where
    pub stands : AllByRecursion (FillsPlace k says i) g.members
    pub most : IfSome g.slot.most (λ most. length g.members ≤ most)
    pub least : has_slot k g.slot.fill ≡ true → g.slot.least ≤ length g.members

  -- so do all groups, from this place on
  abbrev pub Fit : ℕ → List Group → Type 0
  Fit i [] = Unit {0}
  Fit i (g ∷ gs) = FitsAt i g × Fit (i + 1) gs

  abbrev Number : ℕ → List Group → ℕ
  Number j gs = filled k says.slots j (as_kids (members_of gs))

  placed_groups : (i : ℕ) (gs : List Group) → Fit i gs → AllByRecursion (IsPlaced k says) (as_kids (members_of gs))
  placed_groups i [] fit = tt
  placed_groups i (g ∷ gs) fit =
      subst (AllByRecursion (IsPlaced k says)) (sym (map-append children.Element g.members (members_of gs)))
      (both_all (IsPlaced k says) (as_kids g.members) (as_kids (members_of gs)) (all_placed k says i g.members fit.0.stands) (placed_groups (i + 1) gs fit.1))

  number_split : (j : ℕ) (g : Group) (gs : List Group) → Number j (g ∷ gs) ≡ filled k says.slots j (as_kids g.members) + Number j gs
  number_split j g gs = ap (filled k says.slots j) (map-append children.Element g.members (members_of gs)) ∙ filled_both k says.slots j (as_kids g.members) (as_kids (members_of gs))

  number_apart : (i j : ℕ) (g : Group) → FitsAt i g → (i == j) ≡ false → filled k says.slots j (as_kids g.members) ≡ 0
  number_apart i j g fit apart = all_filled k says i j g.members fit.stands ∙ ap (λ b. cond b (length g.members) 0) apart

  number_there : (i : ℕ) (g : Group) → FitsAt i g → filled k says.slots i (as_kids g.members) ≡ length g.members
  number_there i g fit =
      let same : (i == i) ≡ true = grind (arith, nat_tests) in
      all_filled k says i i g.members fit.stands ∙ ap (λ b. cond b (length g.members) 0) same

  number_before : (i j : ℕ) (gs : List Group) → j < i → Fit i gs → Number j gs ≡ 0
  number_before i j [] lt fit = refl
  number_before i j (g ∷ gs) lt fit =
      let apart : (i == j) ≡ false = grind (arith, nat_tests) in
      omega (arith, number_split j g gs, number_apart i j g fit.0 apart, number_before (i + 1) j gs (omega arith) fit.1)

  number_first : (i : ℕ) (g : Group) (gs : List Group) → Fit i (g ∷ gs) → Number i (g ∷ gs) ≡ length g.members
  number_first i g gs fit = omega (arith, number_split i g gs, number_there i g fit.0, number_before (i + 1) i gs (omega arith) fit.1)

  number_later : (i j : ℕ) (g : Group) (gs : List Group) → Fit i (g ∷ gs) → Number ((i + 1) + j) gs ≡ Number (i + suc j) (g ∷ gs)
  number_later i j g gs fit =
      let apart : (i == (i + suc j)) ≡ false = grind (arith, nat_tests) in
      let same : (i + 1) + j ≡ i + suc j = omega arith in
      ap (λ n. Number n gs) same ∙ omega (arith, number_split (i + suc j) g gs, number_apart i (i + suc j) g fit.0 apart)

  most_at : (i j : ℕ) (gs : List Group) → Fit i gs → IfSome (slice_index_or (slots_of gs) j no_slot).most (λ most. Number (i + j) gs ≤ most)
  most_at i j [] fit = tt
  most_at i zero (g ∷ gs) fit =
      let here : i ≡ i + 0 = omega arith in
      subst (λ n. IfSome g.slot.most (λ most. n ≤ most)) (sym (number_first i g gs fit) ∙ ap (λ n. Number n (g ∷ gs)) here) fit.0.most
  most_at i (suc j) (g ∷ gs) fit = subst (λ n. IfSome (slice_index_or (slots_of gs) j no_slot).most (λ most. n ≤ most)) (number_later i j g gs fit) (most_at (i + 1) j gs fit.1)

  least_at : (i j : ℕ) (gs : List Group) (s : Slot) → Fit i gs → slice_get (slots_of gs) j ≡ Some s → has_slot k s.fill ≡ true → s.least ≤ Number (i + j) gs
  least_at i j [] s fit is had = absurd cc
  least_at i zero (g ∷ gs) s fit is had =
      let same : g.slot ≡ s = cc in
      let here : i ≡ i + 0 = omega arith in
      subst (λ n. s.least ≤ n) (sym (number_first i g gs fit) ∙ ap (λ n. Number n (g ∷ gs)) here)
      (subst (λ r. r.least ≤ length g.members) same (fit.0.least (ap (λ r. has_slot k r.fill) same ∙ had)))
  least_at i (suc j) (g ∷ gs) s fit is had = subst (λ n. s.least ≤ n) (number_later i j g gs fit) (least_at (i + 1) j gs s fit.1 is had)

  -- an element whose kids are the groups of all its places is as its row says
  pub groups_shape : (name : List ℕ) (attrs : List Attr) (gs : List Group) → text_fault says.content (own_text (as_kids (members_of gs))) ≡ None → says.slots ≡ slots_of gs → Fit 0 gs
      → AllByRecursion (λ a. attr_fault says.attrs a ≡ None) attrs → AllByRecursion (λ r. lack_fault attrs r ≡ None) says.attrs
      → HasShape k says (made name attrs (as_kids (members_of gs)))
  groups_shape name attrs gs text slots fit no_fault no_lack = record {
    attrs = no_fault;
    lacks = no_lack;
    text = text;
    kids = placed_groups 0 gs fit;
    most = λ i. subst (λ all. IfSome (slice_index_or all i no_slot).most (λ most. Number i gs ≤ most)) (sym slots)
        (subst (λ n. IfSome (slice_index_or (slots_of gs) i no_slot).most (λ most. Number n gs ≤ most)) (from_none i) (most_at 0 i gs fit));
    least = λ i s is had. subst (λ n. s.least ≤ Number n gs) (from_none i) (least_at 0 i gs s fit (ap (λ all. slice_get all i) (sym slots) ∙ is) had);
  }
    where
      from_none : (i : ℕ) → 0 + i ≡ i
      from_none i = omega arith

  -- the same where there may be no characters but white space between them
  pub fit_shape : (name : List ℕ) (attrs : List Attr) (gs : List Group) → says.content ≡ contents.Elements → says.slots ≡ slots_of gs → Fit 0 gs
      → AllByRecursion (λ a. attr_fault says.attrs a ≡ None) attrs → AllByRecursion (λ r. lack_fault attrs r ≡ None) says.attrs
      → HasShape k says (made name attrs (as_kids (members_of gs)))
  fit_shape name attrs gs content = groups_shape name attrs gs (ap (λ c. text_fault c (own_text (as_kids (members_of gs)))) content)

-- which of the groups pass a test of their names

abbrev pub IsCalled : Option (List ℕ) → Element → Type 0
IsCalled (Some name) x = x.name ≡ name
IsCalled None x = is_opaque_part x ≡ true

abbrev pub AreCalled : List Group → Type 0
AreCalled = AllByRecursion (λ g. AllByRecursion (IsCalled g.called) g.members)

-- the name of a part that is kept as it is
pub opaque_name : (x : Element) → is_opaque_part x ≡ true → (x.name ≡ codes "graphics") ⊎ (x.name ≡ codes "toolspecific")
opaque_name x h = by (bytes_eq x.name (codes "graphics")) (bytes_eq x.name (codes "toolspecific")) refl refl h
  where
    by : (a b : Bool) → bytes_eq x.name (codes "graphics") ≡ a → bytes_eq x.name (codes "toolspecific") ≡ b → (a || b) ≡ true → (x.name ≡ codes "graphics") ⊎ (x.name ≡ codes "toolspecific")
    by true b is other h = inl ((bytes_eq-Decides x.name (codes "graphics")).0 is)
    by false true is other h = inr ((bytes_eq-Decides x.name (codes "toolspecific")).0 other)
    by false false is other h = absurd cc

module _ (q : List ℕ → Bool) where
  abbrev pub verdict : Option (List ℕ) → Bool
  verdict (Some name) = q name
  verdict None = q (codes "graphics")

  abbrev pub picked : List Group → List Element
  picked = flat_map (λ g. cond (verdict g.called) g.members [])

  one_passes : q (codes "graphics") ≡ q (codes "toolspecific") → (c : Option (List ℕ)) (x : Element) → IsCalled c x → q x.name ≡ verdict c
  one_passes alike (Some name) x is = ap q is
  one_passes alike None x is = by (opaque_name x is)
    where
      by : (x.name ≡ codes "graphics") ⊎ (x.name ≡ codes "toolspecific") → q x.name ≡ q (codes "graphics")
      by (inl e) = ap q e
      by (inr e) = ap q e ∙ sym alike

  all_pass : (b : Bool) (xs : List Element) → AllByRecursion (λ x. q x.name ≡ b) xs → filter (λ x. q x.name) xs ≡ cond b xs []
  all_pass true [] h = refl
  all_pass false [] h = refl
  all_pass true (x ∷ xs) h = ap (λ b. cond b (x ∷ filter (λ x. q x.name) xs) (filter (λ x. q x.name) xs)) h.0 ∙ ap (λ ys. x ∷ ys) (all_pass true xs h.1)
  all_pass false (x ∷ xs) h = ap (λ b. cond b (x ∷ filter (λ x. q x.name) xs) (filter (λ x. q x.name) xs)) h.0 ∙ all_pass false xs h.1

  each_passes : q (codes "graphics") ≡ q (codes "toolspecific") → (c : Option (List ℕ)) (xs : List Element) → AllByRecursion (IsCalled c) xs → AllByRecursion (λ x. q x.name ≡ verdict c) xs
  each_passes alike c [] h = tt
  each_passes alike c (x ∷ xs) h = (one_passes alike c x h.0, each_passes alike c xs h.1)

  -- the elements whose names pass are the groups that do
  pub picked_is : q (codes "graphics") ≡ q (codes "toolspecific") → (gs : List Group) → AreCalled gs → filter (λ x. q x.name) (members_of gs) ≡ picked gs
  picked_is alike [] h = refl
  picked_is alike (g ∷ gs) h =
      filter-append (λ (x : Element). q x.name) g.members (members_of gs)
      ∙ ap (λ l. l ++ filter (λ x. q x.name) (members_of gs)) (all_pass (verdict g.called) g.members (each_passes alike g.called g.members h.0))
      ∙ ap (λ l. cond (verdict g.called) g.members [] ++ l) (picked_is alike gs h.1)
