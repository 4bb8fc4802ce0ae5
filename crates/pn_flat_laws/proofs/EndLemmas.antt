-- The ends of arcs of flat nets whose places and transitions have the same ids, by their numbers.
use Rattle.std.proofs.Common.{◌≡◌, ◌<◌, ℕ, Bool, true, false, cond, List, [], ◌++◌, map, length, Option, Some, None, refl, sym, ap, ◌∙◌, subst}
use Rattle.std.specs.List.{Contains, slice_get}
use Rattle.std.specs.Option.{option_map, unwrap_or}
use Rattle.std.proofs.lemmas.Option.{slice_get-map}
use Rattle.pn_checks.proofs.SameEndLemmas.{once}
use Rattle.pn_checks.proofs.UniqueLemmas.{AreUnique, HasSound, no_transition, objects_unique, unique_front, unique_rest}
use Rattle.pn_facts.proofs.Lists.{got}
use Rattle.pn_facts.proofs.Contained.{contains_at}
use Rattle.pn_net.specs.Flattening.{arc_of_flat, place_id, transition_id}
use Rattle.pn_net.specs.Ids.{IdHolder, arc_holder, place_holder, place_reference_holder, transition_holder, transition_reference_holder}
use Rattle.pn_net.specs.Objects.{net_arcs, net_place_references, net_places, net_transition_references, net_transitions}
use Rattle.pn_net.specs.Typed.{IsWired}
use Rattle.pn_net.specs.declared.flat.Flat.{Flat}
use Rattle.pn_net.specs.declared.flat.FlatArc.{FlatArc}
use Rattle.pn_objects.specs.Offsets.{place_without_offsets, transition_without_offsets}
use Rattle.pn_objects.specs.declared.net.Net.{Net}
use Rattle.pn_objects.specs.declared.object.Place.{Place}
use Rattle.pn_objects.specs.declared.object.Transition.{Transition}
use Rattle.pn_flat_laws.proofs.AlikeNetLemmas.{same_length}

-- the arcs join the same place and transition, in the same direction
pub record Joins (a b : FlatArc) (x y : Bool) : Type 0 where
  pub place : a.place ≡ b.place
  pub transition : a.transition ≡ b.transition
  pub direction : x ≡ y

pub own_arc : (f : Flat) (a : FlatArc) → IsWired f a → arc_of_flat f a ≡ a.arc
own_arc f a wired = λ i. record a.arc { source = sym wired.source i; target = sym wired.target i }

module _ (f g : Flat) (w : Net) (sound : HasSound w)
    (places_are : g.places ≡ net_places w) (transitions_are : g.transitions ≡ net_transitions w)
    (places_same : map place_without_offsets f.places ≡ map place_without_offsets g.places) (transitions_same : map transition_without_offsets f.transitions ≡ map transition_without_offsets g.transitions) where
  place_ids : (i : ℕ) → place_id f i ≡ place_id g i
  place_ids i = ap (λ o. unwrap_or o []) (told f.places ∙ ap (λ ps. option_map (λ (p : Place). p.id) (slice_get ps i)) places_same ∙ sym (told g.places))
    where
      told : (ps : List Place) → option_map (λ (p : Place). p.id) (slice_get ps i) ≡ option_map (λ (p : Place). p.id) (slice_get (map place_without_offsets ps) i)
      told ps = blind (slice_get ps i) ∙ ap (option_map (λ (p : Place). p.id)) (sym (slice_get-map place_without_offsets ps i))
        where
          blind : (o : Option Place) → option_map (λ (p : Place). p.id) o ≡ option_map (λ (p : Place). p.id) (option_map place_without_offsets o)
          blind None = refl
          blind (Some p) = refl

  transition_ids : (i : ℕ) → transition_id f i ≡ transition_id g i
  transition_ids i = ap (λ o. unwrap_or o []) (told f.transitions ∙ ap (λ ts. option_map (λ (t : Transition). t.id) (slice_get ts i)) transitions_same ∙ sym (told g.transitions))
    where
      told : (ts : List Transition) → option_map (λ (t : Transition). t.id) (slice_get ts i) ≡ option_map (λ (t : Transition). t.id) (slice_get (map transition_without_offsets ts) i)
      told ts = blind (slice_get ts i) ∙ ap (option_map (λ (t : Transition). t.id)) (sym (slice_get-map transition_without_offsets ts i))
        where
          blind : (o : Option Transition) → option_map (λ (t : Transition). t.id) o ≡ option_map (λ (t : Transition). t.id) (option_map transition_without_offsets o)
          blind None = refl
          blind (Some t) = refl

  abbrev on_arcs : List IdHolder
  on_arcs = map place_reference_holder (net_place_references w) ++ (map transition_reference_holder (net_transition_references w) ++ map arc_holder (net_arcs w))

  unique_places : AreUnique (map place_holder g.places)
  unique_places = subst (λ ps. AreUnique (map place_holder ps)) (sym places_are) (unique_front (map place_holder (net_places w)) (map transition_holder (net_transitions w) ++ on_arcs) (objects_unique w sound))

  unique_transitions : AreUnique (map transition_holder g.transitions)
  unique_transitions = subst (λ ts. AreUnique (map transition_holder ts)) (sym transitions_are)
      (unique_front (map transition_holder (net_transitions w)) on_arcs (unique_rest (map place_holder (net_places w)) (map transition_holder (net_transitions w) ++ on_arcs) (objects_unique w sound)))

  has_place_id : (i : ℕ) (p : Place) → slice_get g.places i ≡ Some p → place_id g i ≡ p.id
  has_place_id i p got = ap (λ o. unwrap_or (option_map (λ (x : Place). x.id) o) []) got

  has_transition_id : (i : ℕ) (t : Transition) → slice_get g.transitions i ≡ Some t → transition_id g i ≡ t.id
  has_transition_id i t got = ap (λ o. unwrap_or (option_map (λ (x : Transition). x.id) o) []) got

  one_place_number : (i j : ℕ) → i < length f.places → j < length g.places → place_id f i ≡ place_id g j → i ≡ j
  one_place_number i j lt within same =
      let p = got g.places i (subst (λ n. i < n) (same_length place_without_offsets f.places g.places places_same) lt) in
      let q = got g.places j within in
      once (map place_holder g.places) i j (place_holder p.0) (place_holder q.0) unique_places
      (slice_get-map place_holder g.places i ∙ ap (option_map place_holder) p.1) (slice_get-map place_holder g.places j ∙ ap (option_map place_holder) q.1)
      (sym (has_place_id i p.0 p.1) ∙ sym (place_ids i) ∙ same ∙ has_place_id j q.0 q.1)

  one_transition_number : (i j : ℕ) → i < length f.transitions → j < length g.transitions → transition_id f i ≡ transition_id g j → i ≡ j
  one_transition_number i j lt within same =
      let s = got g.transitions i (subst (λ n. i < n) (same_length transition_without_offsets f.transitions g.transitions transitions_same) lt) in
      let t = got g.transitions j within in
      once (map transition_holder g.transitions) i j (transition_holder s.0) (transition_holder t.0) unique_transitions
      (slice_get-map transition_holder g.transitions i ∙ ap (option_map transition_holder) s.1) (slice_get-map transition_holder g.transitions j ∙ ap (option_map transition_holder) t.1)
      (sym (has_transition_id i s.0 s.1) ∙ sym (transition_ids i) ∙ same ∙ has_transition_id j t.0 t.1)

  -- no place has the id of a transition
  clash : (i j : ℕ) → i < length g.places → j < length g.transitions → place_id g i ≡ transition_id g j → ⊥
  clash i j lt within same =
      let p = got g.places i lt in
      let t = got g.transitions j within in
      no_transition w sound p.0 t.0 (subst (λ ps. Contains ps p.0) places_are (contains_at g.places i p.0 p.1)) (subst (λ ts. Contains ts t.0) transitions_are (contains_at g.transitions j t.0 t.1))
      (sym (has_place_id i p.0 p.1) ∙ same ∙ has_transition_id j t.0 t.1)

  pub joins : (a b : FlatArc) → IsWired f a → IsWired g b → (x y : Bool) → cond x (transition_id f a.transition) (place_id f a.place) ≡ cond y (transition_id g b.transition) (place_id g b.place)
      → cond x (place_id f a.place) (transition_id f a.transition) ≡ cond y (place_id g b.place) (transition_id g b.transition) → Joins a b x y
  joins a b from to true true source target = record { place = one_place_number a.place b.place from.place to.place target; transition = one_transition_number a.transition b.transition from.transition to.transition source; direction = refl }
  joins a b from to false false source target = record { place = one_place_number a.place b.place from.place to.place source; transition = one_transition_number a.transition b.transition from.transition to.transition target; direction = refl }
  joins a b from to true false source target =
      absurd (clash a.place b.transition (subst (λ n. a.place < n) (same_length place_without_offsets f.places g.places places_same) from.place) to.transition (sym (place_ids a.place) ∙ target))
  joins a b from to false true source target =
      absurd (clash a.place b.transition (subst (λ n. a.place < n) (same_length place_without_offsets f.places g.places places_same) from.place) to.transition (sym (place_ids a.place) ∙ source))
