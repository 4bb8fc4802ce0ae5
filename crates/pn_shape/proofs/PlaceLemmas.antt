-- Which element fills a place, and which kid stands there.
use Rattle.std.proofs.Common.{◌≡◌, ℕ, zero, suc, ◌+◌, Bool, true, false, cond, List, [], ◌∷◌, Option, Some, None, refl, sym, ap, subst, ◌∙◌, arith}
use Rattle.std.specs.List.{slice_get, AllByRecursion, Contains}
use Rattle.std.specs.Option.{option_or, option_map}
use Rattle.std.specs.Str.{bytes_eq}
use Rattle.std.proofs.lemmas.Slice.Eq.{bytes_eq-Decides}
use Rattle.pn_facts.proofs.Truths.{and_left, and_right}
use Rattle.pn_operators.specs.declared.kind.Kind.{Kind}
use Rattle.pn_tree.specs.declared.element.Element.{Element}
use Rattle.pn_tree.specs.declared.element.Child.{Child}
use Rattle.pn_tree.specs.declared.element.Child.TheVariants as children
use Rattle.pn_tree.proofs.ElementLemmas.{out_element, out_text}
use Rattle.pn_shape.specs.Faults.{fill_faults, tagged_faults, stray_fault, IsShaped}
use Rattle.pn_shape.specs.Rules.{Saying, rule_for, is_had, is_named, alternatives}
use Rattle.pn_shape.specs.Shaped.{IsPlaced, IsPlacedLayer}
use Rattle.pn_shape.specs.Spots.{first_named, tag_of, spot_at, spot_in}
use Rattle.pn_shape.specs.declared.rule.Fill.{Fill}
use Rattle.pn_shape.specs.declared.rule.Fill.TheVariants as fill
use Rattle.pn_shape.specs.declared.rule.Slot.{Slot}
use Rattle.pn_shape.specs.declared.search.Spot.{Spot}
use Rattle.pn_shape.specs.declared.tag.Tag.{Tag}

-- an element that has no fault where it fills a place

pub fill_of : (k : Kind) (f : Fill) (e : Element) → fill_faults k f e ≡ [] → (t : Tag) × (tag_of k e.name f ≡ Some t) × IsShaped k t e
unfolding fill_faults
fill_of k f e h = go (tag_of k e.name f) refl h
  where
    go : (o : Option Tag) → tag_of k e.name f ≡ o → tagged_faults k e o ≡ [] → (t : Tag) × (tag_of k e.name f ≡ Some t) × IsShaped k t e
    go None is h = absurd cc
    go (Some t) is h = (t, is, h)

pub of_fill : (k : Kind) (f : Fill) (e : Element) (t : Tag) → tag_of k e.name f ≡ Some t → IsShaped k t e → fill_faults k f e ≡ []
unfolding fill_faults
of_fill k f e t is h = ap (tagged_faults k e) is ∙ h

-- an element that is found has its name, and is one of those that fill the place

first_is : (k : Kind) (name : List ℕ) (ts : List Tag) (t : Tag) → first_named k name ts ≡ Some t → (is_named k name t ≡ true) × Contains ts t
first_is k name [] t h = absurd cc
first_is k name (u ∷ us) t h = step (is_named k name u) refl h (λ more. first_is k name us t more)
  where
    step : (b : Bool) → is_named k name u ≡ b → cond b (Some u) (first_named k name us) ≡ Some t → (first_named k name us ≡ Some t → (is_named k name t ≡ true) × Contains us t)
        → (is_named k name t ≡ true) × Contains (u ∷ us) t
    step true is found more = let same : u ≡ t = cc in (ap (is_named k name) (sym same) ∙ is, (0, omega arith, same))
    step false is found more = let rest = more found in (rest.0, (suc rest.1.0, omega (arith, rest.1.1), rest.1.2))

pub tag_is : (k : Kind) (name : List ℕ) (f : Fill) (t : Tag) → tag_of k name f ≡ Some t → ((rule_for t).name ≡ name) × (is_had k t ≡ true) × Contains (alternatives f) t
unfolding tag_of
tag_is k name f t h =
    let found = first_is k name (alternatives f) t h in
    ((bytes_eq-Decides (rule_for t).name name).0 (and_left (bytes_eq (rule_for t).name name) (is_had k t) found.0), and_right (bytes_eq (rule_for t).name name) (is_had k t) found.0, found.1)

-- a place for elements of one name has these
pub one_is : (k : Kind) (name : List ℕ) (u t : Tag) → tag_of k name (fill.One u) ≡ Some t → t ≡ u
unfolding tag_of
one_is k name u t h = step (is_named k name u) h
  where
    step : (b : Bool) → cond b (Some u) None ≡ Some t → t ≡ u
    step true h = cc
    step false h = absurd cc

-- the place that is found

record Found (k : Kind) (name : List ℕ) (i : ℕ) (slots : List Slot) (s : Spot) : Type 0 where
  j : ℕ
  slot : Slot
  place : s.place ≡ i + j
  at : slice_get slots j ≡ Some slot
  fills : tag_of k name slot.fill ≡ Some s.tag

found : (k : Kind) (name : List ℕ) (i : ℕ) (slots : List Slot) (s : Spot) → spot_in k name i slots ≡ Some s → Found k name i slots s
unfolding spot_in
found k name i [] s h = absurd cc
found k name i (slot ∷ slots) s h = step (tag_of k name slot.fill) refl h (λ more. found k name (i + 1) slots s more)
  where
    step : (o : Option Tag) → tag_of k name slot.fill ≡ o → option_or (option_map (spot_at i) o) (spot_in k name (i + 1) slots) ≡ Some s
        → (spot_in k name (i + 1) slots ≡ Some s → Found k name (i + 1) slots s) → Found k name i (slot ∷ slots) s
    step (Some t) is h more =
        let same : spot_at i t ≡ s = cc in
        record { j = 0; slot = slot; place = omega (arith, ap (λ (x : Spot). x.place) same); at = refl; fills = is ∙ ap (λ (x : Spot). Some x.tag) same }
    step None is h more = let rest = more h in record { j = suc rest.j; slot = rest.slot; place = omega (arith, rest.place); at = rest.at; fills = rest.fills }

-- the place that is found is one of these, and the element fills it
pub spot_fills : (k : Kind) (name : List ℕ) (slots : List Slot) (s : Spot) → spot_in k name 0 slots ≡ Some s → (slot : Slot) × (slice_get slots s.place ≡ Some slot) × (tag_of k name slot.fill ≡ Some s.tag)
spot_fills k name slots s h =
    let f = found k name 0 slots s h in
    let place : f.j ≡ s.place = omega (arith, f.place) in
    (f.slot, subst (λ n. slice_get slots n ≡ Some f.slot) place f.at, f.fills)

-- the kid at a place among the kids

pub placed_at : (k : Kind) (says : Saying) (kids : List Child) (i : ℕ) (c : Child) → AllByRecursion (IsPlaced k says) kids → slice_get kids i ≡ Some c → IsPlaced k says c
placed_at k says [] i c h is = absurd cc
placed_at k says (d ∷ kids) zero c h is = let same : d ≡ c = cc in subst (IsPlaced k says) same h.0
placed_at k says (d ∷ kids) (suc i) c h is = placed_at k says kids i c h.1 is

pub placed_element : (k : Kind) (says : Saying) (x : Element) (s : Spot) → spot_in k x.name 0 says.slots ≡ Some s → IsShaped k s.tag x → IsPlaced k says (children.Element x)
placed_element k says x s is h = subst (IsPlacedLayer k says) (sym (out_element x)) (s, is, h)

pub placed_text : (k : Kind) (says : Saying) (t : List ℕ) → stray_fault says.content t ≡ None → IsPlaced k says (children.Text t)
placed_text k says t h = subst (IsPlacedLayer k says) (sym (out_text t)) h
