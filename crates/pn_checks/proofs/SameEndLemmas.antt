-- In a net that is the same but for offsets as the flat net of a net, the place at an arc is the place at the arc that it comes from, where no fault of ids and links stands.
use Rattle.std.proofs.Common.{◌≡◌, ◌⊎◌, inl, inr, ℕ, zero, suc, List, [], ◌∷◌, ◌++◌, map, Some, refl, sym, ap, ◌∙◌, subst}
use Rattle.std.specs.List.{Contains, slice_get}
use Rattle.std.specs.Option.{option_map}
use Rattle.std.proofs.lemmas.Option.{slice_get-map}
use Rattle.std.proofs.lemmas.List.Elements.{Contains-append_left}
use Rattle.pn_facts.proofs.Contained.{contains_at, contains_nil}
use Rattle.pn_net.proofs.AlikeLemmas.{alike_get}
use Rattle.pn_net.specs.Ends.{End, IsPlaceOfArc, Reaches, ReachesEnd, at_place, at_transition, by_reference, place, transition}
use Rattle.pn_net.specs.Flattening.{IsFlattened}
use Rattle.pn_net.specs.Ids.{IdHolder, arc_holder, place_holder, place_reference_holder, transition_holder, transition_reference_holder}
use Rattle.pn_net.specs.Links.{IsReference}
use Rattle.pn_net.specs.Objects.{net_arcs, net_place_references, net_places, net_transition_references, net_transitions}
use Rattle.pn_objects.specs.Offsets.{IsSameNet, place_without_offsets}
use Rattle.pn_objects.specs.declared.net.Net.{Net}
use Rattle.pn_objects.specs.declared.object.Arc.{Arc}
use Rattle.pn_objects.specs.declared.object.Place.{Place}
use Rattle.pn_objects.specs.declared.object.Reference.{Reference}
use Rattle.pn_resolve.proofs.Options.{mapped_some}
use Rattle.pn_checks.proofs.SameFlatLemmas.{IsSameArc, no_place_references, no_transition_references, places_alike}
use Rattle.pn_checks.proofs.UniqueLemmas.{AreUnique, HasSound, contains_map, objects_unique, unique_across, unique_front}

-- where no id stands twice, two numbers of one id are one
pub once : (hs : List IdHolder) (i j : ℕ) (x y : IdHolder) → AreUnique hs → slice_get hs i ≡ Some x → slice_get hs j ≡ Some y → x.id ≡ y.id → i ≡ j
once [] i j x y u p q same = absurd cc
once (h ∷ hs) zero zero x y u p q same = refl
once (h ∷ hs) zero (suc j) x y u p q same = let here : h ≡ x = cc in absurd (u.0 y (contains_at hs j y q) (ap (λ z. z.id) here ∙ same))
once (h ∷ hs) (suc i) zero x y u p q same = let here : h ≡ y = cc in absurd (u.0 x (contains_at hs i x p) (ap (λ z. z.id) here ∙ sym same))
once (h ∷ hs) (suc i) (suc j) x y u p q same = ap suc (once hs i j x y u.1 p q same)

-- transitions, references and arcs, as they stand behind places among those that have an id
abbrev references_held : Net → List IdHolder
references_held n = map place_reference_holder (net_place_references n) ++ (map transition_reference_holder (net_transition_references n) ++ map arc_holder (net_arcs n))

abbrev behind_places : Net → List IdHolder
behind_places n = map transition_holder (net_transitions n) ++ references_held n

-- places are found by their ids
module _ (n : Net) (sound : HasSound n) where
  place_once : (i j : ℕ) (p q : Place) → slice_get (net_places n) i ≡ Some p → slice_get (net_places n) j ≡ Some q → p.id ≡ q.id → i ≡ j
  place_once i j p q got found same =
      once (map place_holder (net_places n)) i j (place_holder p) (place_holder q) (unique_front (map place_holder (net_places n)) (behind_places n) (objects_unique n sound))
      (slice_get-map place_holder (net_places n) i ∙ ap (option_map place_holder) got) (slice_get-map place_holder (net_places n) j ∙ ap (option_map place_holder) found) same

  -- what is reached that has the id of a place is this place
  reached_place : (from id : List ℕ) → Reaches n from id → (i : ℕ) (p : Place) → slice_get (net_places n) i ≡ Some p → p.id ≡ id → ReachesEnd n from (place i)
  reached_place from id (place j, way, is) i p got has =
      let found = mapped_some (λ x. x.id) (slice_get (net_places n) j) id is in
      subst (λ k. ReachesEnd n from (place k)) (place_once j i found.0 p found.1 got (found.2 ∙ sym has)) way
  reached_place from id (transition j, way, is) i p got has =
      let found = mapped_some (λ x. x.id) (slice_get (net_transitions n) j) id is in
      absurd (unique_across (map place_holder (net_places n)) (behind_places n) (place_holder p) (transition_holder found.0) (objects_unique n sound) (contains_map place_holder (net_places n) p (contains_at (net_places n) i p got))
      (Contains-append_left (map transition_holder (net_transitions n)) (references_held n) (transition_holder found.0) (contains_map transition_holder (net_transitions n) found.0 (contains_at (net_transitions n) j found.0 found.1)))
      (has ∙ sym found.2))

-- where there are no references, an id leads to the place that has it
reached_id : (w : Net) → ((r : Reference) → IsReference w r → ⊥) → (id : List ℕ) (i : ℕ) (p : Place) (end : End) → slice_get (net_places w) i ≡ Some p → end ≡ place i → ReachesEnd w id end → p.id ≡ id
reached_id w none id i p end got is (at_place _ _ j q found has also) =
    let number : j ≡ i = (let both : place j ≡ place i = sym also ∙ is in cc) in
    let one : q ≡ p = (let both : Some q ≡ Some p = sym found ∙ ap (slice_get (net_places w)) number ∙ got in cc) in
    ap (λ x. x.id) (sym one) ∙ has
reached_id w none id i p end got is (at_transition _ _ j t found has also) = absurd (let bad : transition j ≡ place i = sym also ∙ is in cc)
reached_id w none id i p end got is (by_reference _ _ r stands has rest) = absurd (none r stands)

module _ (n flat w : Net) (p : IsFlattened n flat) (alike : IsSameNet w flat) where
  no_reference : (r : Reference) → IsReference w r → ⊥
  no_reference r (inl c) = contains_nil r (subst (λ l. Contains l r) (no_place_references n flat w p alike) c)
  no_reference r (inr c) = contains_nil r (subst (λ l. Contains l r) (no_transition_references n flat w p alike) c)

  -- the place at an arc is that at the arc from which it comes
  pub place_of_arc : HasSound n → (a c : Arc) → IsSameArc n a c → (q : Place) → IsPlaceOfArc w c q → (r : Place) × IsPlaceOfArc n a r × (place_without_offsets q ≡ place_without_offsets r)
  place_of_arc sound a c from q (i, got, ways) =
      let there = alike_get place_without_offsets (net_places w) (net_places n) i q (places_alike n flat w p alike) got in
      let named : (id : List ℕ) → ReachesEnd w id (place i) → there.0.id ≡ id = λ id way. ap (λ (x : Place). x.id) (sym there.2) ∙ reached_id w no_reference id i q (place i) got refl way in
      let source : c.source ≡ from.rewired.source = ap (λ (x : Arc). x.source) from.alike ∙ ap (λ (x : Arc). x.source) from.rewired.is in
      let target : c.target ≡ from.rewired.target = ap (λ (x : Arc). x.target) from.alike ∙ ap (λ (x : Arc). x.target) from.rewired.is in
      let both : ReachesEnd n a.source (place i) ⊎ ReachesEnd n a.target (place i) = elim ways [
        | inl way ↦ inl (reached_place n sound a.source from.rewired.source from.rewired.from i there.0 there.1 (named c.source way ∙ source))
        | inr way ↦ inr (reached_place n sound a.target from.rewired.target from.rewired.to i there.0 there.1 (named c.target way ∙ target))
      ] in
      (there.0, (i, there.1, both), there.2)
