-- Which place an arc of a net has at one end: the one that its arc in the flat net names.
use Rattle.std.proofs.Common.{◌≡◌, ◌⊎◌, inl, inr, ◌<◌, ℕ, zero, suc, List, [], ◌∷◌, Bool, true, false, cond, length, map, Option, Some, None, refl, sym, ap, ◌∙◌, subst}
use Rattle.std.specs.List.{AllZip, Contains, slice_get}
use Rattle.std.specs.Option.{option_map, unwrap_or}
use Rattle.pn_facts.proofs.Contained.{contains_at, contains_cases, contains_first, contains_next, contains_nil}
use Rattle.pn_checks.proofs.UniqueLemmas.{HasSound, ends_alike, no_transition, one_place}
use Rattle.pn_net.specs.Ends.{End, IsPlaceOfArc, Reaches, ReachesEnd, id_at, place, transition}
use Rattle.pn_net.specs.Flattening.{IsRewired, arc_of_flat, place_id, source_id, target_id, transition_id}
use Rattle.pn_net.specs.Objects.{net_places, net_transitions}
use Rattle.pn_net.specs.declared.flat.Flat.{Flat}
use Rattle.pn_net.specs.declared.flat.FlatArc.{FlatArc}
use Rattle.pn_objects.specs.declared.net.Net.{Net}
use Rattle.pn_objects.specs.declared.object.Arc.{Arc}
use Rattle.pn_objects.specs.declared.object.Place.{Place}
use Rattle.pn_objects.specs.declared.object.Transition.{Transition}

-- ---- lists that go along with one another

pub beside : {X Y : Type 0} (R : X → Y → Type 0) (xs : List X) (ys : List Y) → AllZip R xs ys → (x : X) → Contains xs x → (y : Y) × Contains ys y × R x y
beside R [] ys zip x c = absurd (contains_nil x c)
beside R (z ∷ xs) [] zip x c = absurd zip
beside R (z ∷ xs) (y ∷ ys) zip x c = by (contains_cases z xs x c) (λ d. beside R xs ys zip.1 x d)
  where
    by : (z ≡ x) ⊎ Contains xs x → (Contains xs x → (w : _) × Contains ys w × R x w) → (w : _) × Contains (y ∷ ys) w × R x w
    by (inl same) more = (y, contains_first y ys, subst (λ u. R u y) same zip.0)
    by (inr d) more = let found = more d in (found.0, contains_next y ys found.0 found.1, found.2)

pub across : {X Y : Type 0} (R : X → Y → Type 0) (xs : List X) (ys : List Y) → AllZip R xs ys → (y : Y) → Contains ys y → (x : X) × Contains xs x × R x y
across R [] [] zip y c = absurd (contains_nil y c)
across R [] (w ∷ ys) zip y c = absurd zip
across R (z ∷ xs) [] zip y c = absurd zip
across R (z ∷ xs) (w ∷ ys) zip y c = by (contains_cases w ys y c) (λ d. across R xs ys zip.1 y d)
  where
    by : (w ≡ y) ⊎ Contains ys y → (Contains ys y → (x : _) × Contains xs x × R x y) → (x : _) × Contains (z ∷ xs) x × R x y
    by (inl same) more = (z, contains_first z xs, subst (R z) same zip.0)
    by (inr d) more = let found = more d in (found.0, contains_next z xs found.0 found.1, found.2)

pub zip_mapped : {X Y Z : Type 0} (R : X → Z → Type 0) (g : Y → Z) (xs : List X) (ys : List Y) → AllZip R xs (map g ys) → AllZip (λ x y. R x (g y)) xs ys
zip_mapped R g [] [] zip = tt
zip_mapped R g [] (y ∷ ys) zip = absurd zip
zip_mapped R g (x ∷ xs) [] zip = absurd zip
zip_mapped R g (x ∷ xs) (y ∷ ys) zip = (zip.0, zip_mapped R g xs ys zip.1)

pub zip_length : {X Y : Type 0} (R : X → Y → Type 0) (xs : List X) (ys : List Y) → AllZip R xs ys → length xs ≡ length ys
zip_length R [] [] zip = refl
zip_length R [] (y ∷ ys) zip = absurd zip
zip_length R (x ∷ xs) [] zip = absurd zip
zip_length R (x ∷ xs) (y ∷ ys) zip = ap suc (zip_length R xs ys zip.1)

pub zip_at : {X Y : Type 0} (R : X → Y → Type 0) (xs : List X) (ys : List Y) → AllZip R xs ys → (i : ℕ) (y : Y) → slice_get ys i ≡ Some y → (x : X) × (slice_get xs i ≡ Some x) × R x y
zip_at R [] [] zip i y got = absurd (let no : None ≡ Some y = got in cc)
zip_at R [] (w ∷ ys) zip i y got = absurd zip
zip_at R (z ∷ xs) [] zip i y got = absurd zip
zip_at R (z ∷ xs) (w ∷ ys) zip zero y got = (z, refl, subst (R z) (let both : Some w ≡ Some y = got in cc) zip.0)
zip_at R (z ∷ xs) (w ∷ ys) zip (suc i) y got = zip_at R xs ys zip.1 i y got

-- what stands at one place of both
pub zip_pair : {X Y : Type 0} (R : X → Y → Type 0) (xs : List X) (ys : List Y) → AllZip R xs ys → (i : ℕ) (x : X) (y : Y) → slice_get xs i ≡ Some x → slice_get ys i ≡ Some y → R x y
zip_pair R xs ys zip i x y got also =
    let found = zip_at R xs ys zip i y also in
    let same : found.0 ≡ x = (let both : Some found.0 ≡ Some x = sym found.1 ∙ got in cc) in
    subst (λ z. R z y) same found.2

-- ---- one end

module _ (n : Net) (sound : HasSound n) where
  -- a place that is reached from an id has the id that is reached from there
  reached_has : (from to : List ℕ) (i : ℕ) (p : Place) → slice_get (net_places n) i ≡ Some p → Reaches n from to → ReachesEnd n from (place i) → p.id ≡ to
  reached_has from to i p got (end, reaches, is) there =
      let same : Some p.id ≡ Some to = sym (ap (option_map (λ x. x.id)) got) ∙ ends_alike n sound from (place i) end there reaches ∙ is in cc

  -- where the id of a place is reached, the place is
  place_reached : (from : List ℕ) (p : Place) → Contains (net_places n) p → Reaches n from p.id → (i : ℕ) × (slice_get (net_places n) i ≡ Some p) × ReachesEnd n from (place i)
  place_reached from p here (end, reaches, is) = by end is reaches
    where
      at_place : (i : ℕ) → ReachesEnd n from (place i) → (o : Option Place) → slice_get (net_places n) i ≡ o → option_map (λ x. x.id) o ≡ Some p.id → (j : ℕ) × (slice_get (net_places n) j ≡ Some p) × ReachesEnd n from (place j)
      at_place i reaches None got is = absurd (let no : None ≡ Some p.id = is in cc)
      at_place i reaches (Some q) got is =
          let same : q.id ≡ p.id = (let both : Some q.id ≡ Some p.id = is in cc) in
          (i, got ∙ ap (λ x. Some x) (one_place n sound q p (contains_at (net_places n) i q got) here same), reaches)

      at_transition : (j : ℕ) → (o : Option Transition) → slice_get (net_transitions n) j ≡ o → option_map (λ x. x.id) o ≡ Some p.id → ⊥
      at_transition j None got is = let no : None ≡ Some p.id = is in cc
      at_transition j (Some t) got is =
          let same : t.id ≡ p.id = (let both : Some t.id ≡ Some p.id = is in cc) in
          no_transition n sound p t here (contains_at (net_transitions n) j t got) (sym same)

      by : (end : End) → id_at n end ≡ Some p.id → ReachesEnd n from end → (i : ℕ) × (slice_get (net_places n) i ≡ Some p) × ReachesEnd n from (place i)
      by (place i) is reaches = at_place i reaches (slice_get (net_places n) i) refl is
      by (transition j) is reaches = absurd (at_transition j (slice_get (net_transitions n) j) refl is)

  -- an arc between a place and a transition has this place and no other
  module _ (a : Arc) (p : Place) (t : Transition) (here : Contains (net_places n) p) (there : Contains (net_transitions n) t) where
    abbrev pub Joins : Type 0
    Joins = (Reaches n a.source p.id × Reaches n a.target t.id) ⊎ (Reaches n a.source t.id × Reaches n a.target p.id)

    pub joins_place : Joins → IsPlaceOfArc n a p
    joins_place (inl (from, to)) = let found = place_reached a.source p here from in (found.0, found.1, inl found.2)
    joins_place (inr (from, to)) = let found = place_reached a.target p here to in (found.0, found.1, inr found.2)

    same_place : (q : Place) (i : ℕ) (id : List ℕ) → slice_get (net_places n) i ≡ Some q → Reaches n id p.id → ReachesEnd n id (place i) → q ≡ p
    same_place q i id got to reaches = one_place n sound q p (contains_at (net_places n) i q got) here (reached_has id p.id i q got to reaches)

    not_there : (q : Place) (i : ℕ) (id : List ℕ) → slice_get (net_places n) i ≡ Some q → Reaches n id t.id → ReachesEnd n id (place i) → ⊥
    not_there q i id got to reaches = no_transition n sound q t (contains_at (net_places n) i q got) there (reached_has id t.id i q got to reaches)

    pub joins_only : Joins → (q : Place) → IsPlaceOfArc n a q → q ≡ p
    joins_only (inl (from, to)) q (i, got, inl reaches) = same_place q i a.source got from reaches
    joins_only (inl (from, to)) q (i, got, inr reaches) = absurd (not_there q i a.target got to reaches)
    joins_only (inr (from, to)) q (i, got, inl reaches) = absurd (not_there q i a.source got from reaches)
    joins_only (inr (from, to)) q (i, got, inr reaches) = same_place q i a.target got to reaches

-- ---- the arc of a flat net

-- what is rewired to an arc of the flat net joins the place and the transition of these numbers
pub rewired_joins : (n : Net) (f : Flat) (a : Arc) (w : FlatArc) (p : Place) (t : Transition) (sound : HasSound n) (here : Contains (net_places n) p) (there : Contains (net_transitions n) t)
    → IsRewired n a (arc_of_flat f w) → slice_get f.places w.place ≡ Some p → slice_get f.transitions w.transition ≡ Some t → Joins n sound a p t here there
rewired_joins n f a w p t sound here there rewired at_p at_t = by w.into_place refl
  where
    of_place : place_id f w.place ≡ p.id
    of_place = ap (λ o. unwrap_or (option_map (λ x. x.id) o) []) at_p

    of_transition : transition_id f w.transition ≡ t.id
    of_transition = ap (λ o. unwrap_or (option_map (λ x. x.id) o) []) at_t

    source : source_id f w ≡ rewired.source
    source = ap (λ (x : Arc). x.source) rewired.is

    target : target_id f w ≡ rewired.target
    target = ap (λ (x : Arc). x.target) rewired.is

    by : (b : Bool) → w.into_place ≡ b → Joins n sound a p t here there
    by true is = inr (
      subst (Reaches n a.source) (sym source ∙ ap (λ c. cond c (transition_id f w.transition) (place_id f w.place)) is ∙ of_transition) rewired.from,
      subst (Reaches n a.target) (sym target ∙ ap (λ c. cond c (place_id f w.place) (transition_id f w.transition)) is ∙ of_place) rewired.to,
    )
    by false is = inl (
      subst (Reaches n a.source) (sym source ∙ ap (λ c. cond c (transition_id f w.transition) (place_id f w.place)) is ∙ of_place) rewired.from,
      subst (Reaches n a.target) (sym target ∙ ap (λ c. cond c (place_id f w.place) (transition_id f w.transition)) is ∙ of_transition) rewired.to,
    )
