-- Parts of one kind, each spelled by an element of its own: where each is written without a fault of shape, and read back without offsets, so are all of them.
use Rattle.std.proofs.Common.{◌≡◌, ℕ, zero, suc, true, List, [], ◌∷◌, map, Some, None, refl, sym, ap, subst, ◌∙◌}
use Rattle.std.specs.List.{AllByRecursion, slice_get}
use Rattle.std.proofs.lemmas.Simd.{map-map}
use Rattle.pn_operators.specs.declared.kind.Kind.{Kind}
use Rattle.pn_tree.specs.declared.element.Attr.{Attr}
use Rattle.pn_tree.specs.declared.element.Element.{Element}
use Rattle.pn_tree.specs.declared.element.Child.TheVariants as children
use Rattle.pn_shape.specs.Attributes.{attr_fault, lack_fault}
use Rattle.pn_shape.specs.Faults.{IsShaped}
use Rattle.pn_shape.specs.Rules.{Saying, alternatives, is_had, rule_for}
use Rattle.pn_shape.specs.Shaped.{HasShape}
use Rattle.pn_shape.specs.Spots.{spot_in}
use Rattle.pn_shape.specs.declared.rule.Content.TheVariants as contents
use Rattle.pn_shape.specs.declared.rule.Slot.{Slot}
use Rattle.pn_shape.specs.declared.tag.Tag.{Tag}
use Rattle.pn_shape.proofs.PlaceLemmas.{spot_fills, tag_is}
use Rattle.pn_spelling.specs.Parts.{child_elements}
use Rattle.pn_spelling.specs.Writing.{all_kids, made}
use Rattle.pn_facts.proofs.Each.{each, map_each, one_of}
use Rattle.pn_round_trip.proofs.KidLemmas.{Stands, StandsFor, elements_again, shape_with, stand_among}
use Rattle.pn_round_trip.proofs.SortLemmas.{named}

pub slot_at : (P : Slot → Type 0) (slots : List Slot) (i : ℕ) (slot : Slot) → AllByRecursion P slots → slice_get slots i ≡ Some slot → P slot
slot_at P [] i slot all is = absurd cc
slot_at P (s ∷ slots) zero slot all is = let same : s ≡ slot = cc in subst P same all.0
slot_at P (s ∷ slots) (suc i) slot all is = slot_at P slots i slot all.1 is

module _ (k : Kind) {A : Type 0} (read : Element → A) (write : A → Element) (bare : A → A) where
  abbrev pub again : Element → Element
  again x = write (read x)

  -- what an element of a tag has where its part returns
  abbrev pub Result : Tag → Element → Type 0
  Result t x = IsShaped k t (again x) × ((again x).name ≡ x.name) × (read (again x) ≡ bare (read x))

  -- each element of a tag, of its name, has it
  abbrev pub Step : Tag → Type 0
  Step t = (e : Element) → is_had k t ≡ true → IsShaped k t (named (rule_for t).name e) → Result t (named (rule_for t).name e)

  -- each element that may stand in these places
  abbrev pub Steps : List Slot → Type 0
  Steps slots = AllByRecursion (λ slot. AllByRecursion Step (alternatives slot.fill)) slots

  abbrev pub KidReturns : Saying → Element → Type 0
  KidReturns says x = StandsFor k says x (again x) × (read (again x) ≡ bare (read x))

  pub kid_returns : (says : Saying) → Steps says.slots → (x : Element) → Stands k says x → KidReturns says x
  kid_returns says steps x (s, is, shaped) =
      let place = spot_fills k x.name says.slots s is in
      let row = tag_is k x.name place.0.fill s.tag place.2 in
      let step = one_of Step (alternatives place.0.fill) s.tag (slot_at (λ slot. AllByRecursion Step (alternatives slot.fill)) says.slots s.place place.0 steps place.1) row.2 in
      let result = subst (λ name. Result s.tag (named name x)) row.0 (step x row.1 (subst (λ name. IsShaped k s.tag (named name x)) (sym row.0) shaped)) in
      ((s, s, is, ap (λ name. spot_in k name 0 says.slots) result.1 ∙ is, refl, result.0), result.2)

  pub kids_return : (says : Saying) → Steps says.slots → (xs : List Element) → AllByRecursion (Stands k says) xs → AllByRecursion (KidReturns says) xs
  kids_return says steps xs = each (Stands k says) (KidReturns says) (kid_returns says steps) xs

  pub kids_stand : (says : Saying) (xs : List Element) → AllByRecursion (KidReturns says) xs → AllByRecursion (λ x. StandsFor k says x (again x)) xs
  kids_stand says xs = each (KidReturns says) (λ x. StandsFor k says x (again x)) (λ x back. back.0) xs

  pub kids_read : (says : Saying) (xs : List Element) → AllByRecursion (KidReturns says) xs → map read (map again xs) ≡ map bare (map read xs)
  kids_read says xs back =
      map-map read again xs
      ∙ map_each (λ x. read (again x)) (λ x. bare (read x)) xs (each (KidReturns says) (λ x. read (again x) ≡ bare (read x)) (λ x one. one.1) xs back)
      ∙ sym (map-map bare read xs)

  -- an element in which such parts stand alone
  pub all_return : (t : Tag) (name : List ℕ) (attrs : List Attr) (e : Element) → (rule_for t).content ≡ contents.Elements → Steps (rule_for t).slots → HasShape k (rule_for t) e
      → AllByRecursion (λ a. attr_fault (rule_for t).attrs a ≡ None) attrs → AllByRecursion (λ r. lack_fault attrs r ≡ None) (rule_for t).attrs
      → HasShape k (rule_for t) (made name attrs (all_kids write (map read (child_elements e))))
      × (map read (child_elements (made name attrs (all_kids write (map read (child_elements e))))) ≡ map bare (map read (child_elements e)))
  all_return t name attrs e content steps shape no_fault no_lack =
      let xs = child_elements e in
      let back = kids_return (rule_for t) steps xs (stand_among k (rule_for t) e.kids shape.kids) in
      let written : map again xs ≡ map write (map read xs) = sym (map-map write read xs) in (
        subst (λ ys. HasShape k (rule_for t) (made name attrs (map children.Element ys))) written (shape_with k (rule_for t) e again name attrs content shape (kids_stand (rule_for t) xs back) no_fault no_lack),
        ap (map read) (elements_again (map write (map read xs)) ∙ sym written) ∙ kids_read (rule_for t) xs back,
      )
