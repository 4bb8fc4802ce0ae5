-- What arcs join, where no fault of ids and links stands; and the flat net by it.
use Rattle.std.proofs.Common.{◌≡◌, ◌⊎◌, inl, inr, ℕ, ◌<◌, Bool, true, false, cond, List, [], ◌∷◌, length, map, get_or, Option, Some, None, refl, sym, ap, ◌∙◌, subst, arith}
use Rattle.std.specs.List.{AllZip, Contains, slice_get}
use Rattle.std.specs.Option.{option_map, unwrap_or}
use Rattle.std.proofs.lemmas.Option.{slice_get-get_or, slice_get_within}
use Rattle.pn_facts.proofs.Contained.{contains_cases, contains_first, contains_next, contains_nil}
use Rattle.pn_faults.specs.declared.fault.Fault.{Fault}
use Rattle.pn_faults.specs.declared.reason.Reason.TheVariants as reasons
use Rattle.pn_faults.specs.Order.{fault_at}
use Rattle.pn_net.specs.Ends.{End, Reaches, ReachesEnd, id_at}
use Rattle.pn_net.specs.Ends as ends
use Rattle.pn_net.specs.Flattening.{IsRewired, arc_of_flat, place_id, transition_id}
use Rattle.pn_net.specs.Ids.{holders_of}
use Rattle.pn_net.specs.Links.{IsOnSide, Side, StandsInLinks, places, transitions}
use Rattle.pn_net.specs.Links as links
use Rattle.pn_net.specs.Objects.{net_arcs, net_places, net_transitions}
use Rattle.pn_net.specs.Typed.{IsWired}
use Rattle.pn_net.specs.declared.flat.Flat.{Flat}
use Rattle.pn_net.specs.declared.flat.FlatArc.{FlatArc}
use Rattle.pn_objects.specs.declared.net.Net.{Net}
use Rattle.pn_objects.specs.declared.object.Arc.{Arc}
use Rattle.pn_objects.specs.declared.object.Place.{Place}
use Rattle.pn_objects.specs.declared.object.Transition.{Transition}
use Rattle.pn_pages.specs.declared.ends.Ends.{Ends}
use Rattle.pn_pages.specs.declared.follow.Goal.{Goal}
use Rattle.pn_pages.specs.declared.names.Node.{Node}
use Rattle.pn_pages.specs.declared.numbered.Objects.{Objects}
use Rattle.pn_pages.specs.declared.wiring.Wire.{Wire}
use Rattle.pn_pages.specs.Following.{HaveGoals, IsTarget}
use Rattle.pn_pages.specs.Linking.{AreEnds, is_of_places, node_side}
use Rattle.pn_pages.specs.Sides.{HoldsAll}
use Rattle.pn_pages.specs.Wiring.{IsWire, end_number, flat_arc_of, flat_arcs, wire_by, wire_of}
use Rattle.pn_pages.proofs.GoalLemmas.{end_of, node_leads}
use Rattle.pn_pages.proofs.NodeLemmas.{no_node, on_side}

module _ (n : Net) where
  -- an end that is in range
  IsThere : End → Type 0
  IsThere (ends.place i) = i < length (net_places n)
  IsThere (ends.transition i) = i < length (net_transitions n)

  -- what is reached is there
  there : (id : List ℕ) (end : End) → ReachesEnd n id end → IsThere end
  unfolding IsThere
  there id end (ends.at_place _ _ i p stands same is) = subst IsThere (sym is) (slice_get_within (net_places n) i p stands)
  there id end (ends.at_transition _ _ i t stands same is) = subst IsThere (sym is) (slice_get_within (net_transitions n) i t stands)
  there id end (ends.by_reference _ _ r stands same rest) = there r.refers end rest

  module _ (o : Objects) (holds : HoldsAll n.declarations n.pages o) (targets : List (Option Node)) (found : AllZip (IsTarget o (holders_of n)) o.references targets)
      (goals : List Goal) (have : HaveGoals o.place_refs targets goals) (sound : (f : Fault) → StandsInLinks n f → ⊥) where
    -- what an arc joins
    pub wire_is : (a : Arc) (e : Ends) → Contains (net_arcs n) a → AreEnds o (holders_of n) a e → IsWire n a (wire_of o.place_refs goals e)
    unfolding IsThere
    wire_is a e within (from, to) = step (node_side o.place_refs e.source) refl (node_side o.place_refs e.target) refl
      where
        unknown : List ℕ → Fault
        unknown id = fault_at reasons.UnknownEnd a.at id

        wrong : Fault
        wrong = fault_at reasons.WrongEnd a.at a.id

        starts : (side : Side) → node_side o.place_refs e.source ≡ Some side → IsOnSide n a.source side
        starts side is = on_side n o a.source e.source side from is

        stops : (side : Side) → node_side o.place_refs e.target ≡ Some side → IsOnSide n a.target side
        stops side is = on_side n o a.target e.target side to is

        source : (side : Side) → node_side o.place_refs e.source ≡ Some side → ReachesEnd n a.source (end_of side (end_number goals e.source))
        source side is = node_leads n o holds targets found goals have sound a.source e.source side from is

        target : (side : Side) → node_side o.place_refs e.target ≡ Some side → ReachesEnd n a.target (end_of side (end_number goals e.target))
        target side is = node_leads n o holds targets found goals have sound a.target e.target side to is

        step : (s : Option Side) → node_side o.place_refs e.source ≡ s → (t : Option Side) → node_side o.place_refs e.target ≡ t
            → IsWire n a (wire_by (unwrap_or (option_map is_of_places s) false) (end_number goals e.source) (end_number goals e.target))
        step None is t also = absurd (sound (unknown a.source) (links.unknown_end (unknown a.source) (links.source (unknown a.source) a within (no_node n o a.source e.source from is) refl)))
        step (Some side) is None also = absurd (sound (unknown a.target) (links.unknown_end (unknown a.target)
            (links.target (unknown a.target) a side within (starts side is) (no_node n o a.target e.target to also) refl)))
        step (Some places) is (Some places) also = absurd (sound wrong (links.wrong_end wrong (links.arc wrong a places within (starts places is) (stops places also) refl)))
        step (Some transitions) is (Some transitions) also = absurd (sound wrong (links.wrong_end wrong (links.arc wrong a transitions within (starts transitions is) (stops transitions also) refl)))
        step (Some places) is (Some transitions) also = record {
          place = there a.source (ends.place (end_number goals e.source)) (source places is);
          transition = there a.target (ends.transition (end_number goals e.target)) (target transitions also);
          source = source places is;
          target = target transitions also;
        }
        step (Some transitions) is (Some places) also = record {
          place = there a.target (ends.place (end_number goals e.target)) (target places also);
          transition = there a.source (ends.transition (end_number goals e.source)) (source transitions is);
          source = source transitions is;
          target = target places also;
        }

    -- what all arcs join
    pub all_wired : (arcs : List Arc) (es : List Ends) → ((a : Arc) → Contains arcs a → Contains (net_arcs n) a) → AllZip (AreEnds o (holders_of n)) arcs es → AllZip (IsWire n) arcs (map (wire_of o.place_refs goals) es)
    all_wired [] [] within have = tt
    all_wired [] (e ∷ es) within have = absurd have
    all_wired (a ∷ arcs) [] within have = absurd have
    all_wired (a ∷ arcs) (e ∷ es) within have = (wire_is a e (within a (contains_first a arcs)) have.0, all_wired arcs es (λ x c. within x (contains_next a arcs x c)) have.1)

  -- ---- the flat net

  module _ (f : Flat) (same_places : f.places ≡ net_places n) (same_transitions : f.transitions ≡ net_transitions n) where
    some_id : {X : Type 0} (of : X → List ℕ) (xs ys : List X) → xs ≡ ys → (i : ℕ) → i < length ys → option_map of (slice_get ys i) ≡ Some (unwrap_or (option_map of (slice_get xs i)) [])
    some_id of [] ys same i small = absurd (omega (arith, small, ap length same))
    some_id of (x ∷ xs) ys same i small =
        let at : slice_get ys i ≡ Some (get_or ys i x) = slice_get-get_or ys i x small in
        ap (option_map of) at ∙ sym (ap (λ zs. Some (unwrap_or (option_map of (slice_get zs i)) [])) same ∙ ap (λ y. Some (unwrap_or (option_map of y) [])) at)

    at_place : (i : ℕ) (id : List ℕ) → i < length (net_places n) → ReachesEnd n id (ends.place i) → Reaches n id (place_id f i)
    at_place i id small reach = (ends.place i, reach, some_id (λ (p : Place). p.id) f.places (net_places n) same_places i small)

    at_transition : (i : ℕ) (id : List ℕ) → i < length (net_transitions n) → ReachesEnd n id (ends.transition i) → Reaches n id (transition_id f i)
    at_transition i id small reach = (ends.transition i, reach, some_id (λ (t : Transition). t.id) f.transitions (net_transitions n) same_transitions i small)

    begins : (b : Bool) (i j : ℕ) (id : List ℕ) → i < length (net_places n) → j < length (net_transitions n) → ReachesEnd n id (cond b (ends.transition j) (ends.place i)) → Reaches n id (cond b (transition_id f j) (place_id f i))
    begins true i j id p t reach = at_transition j id t reach
    begins false i j id p t reach = at_place i id p reach

    ends_there : (b : Bool) (i j : ℕ) (id : List ℕ) → i < length (net_places n) → j < length (net_transitions n) → ReachesEnd n id (cond b (ends.place i) (ends.transition j)) → Reaches n id (cond b (place_id f i) (transition_id f j))
    ends_there true i j id p t reach = at_place i id p reach
    ends_there false i j id p t reach = at_transition j id t reach

    rewired_one : (a : Arc) (w : Wire) → IsWire n a w → IsRewired n a (arc_of_flat f (flat_arc_of f.places f.transitions a w))
    rewired_one a w is = record {
      source = cond w.into_place (transition_id f w.transition) (place_id f w.place);
      target = cond w.into_place (place_id f w.place) (transition_id f w.transition);
      from = begins w.into_place w.place w.transition a.source is.place is.transition is.source;
      to = ends_there w.into_place w.place w.transition a.target is.place is.transition is.target;
      is = refl;
    }

    pub rewired : (arcs : List Arc) (ws : List Wire) → AllZip (IsWire n) arcs ws → AllZip (IsRewired n) arcs (map (arc_of_flat f) (flat_arcs f.places f.transitions arcs ws))
    rewired [] [] have = tt
    rewired [] (w ∷ ws) have = absurd have
    rewired (a ∷ arcs) [] have = absurd have
    rewired (a ∷ arcs) (w ∷ ws) have = (rewired_one a w have.0, rewired arcs ws have.1)

    wired_one : (a : Arc) (w : Wire) → IsWire n a w → IsWired f (flat_arc_of f.places f.transitions a w)
    wired_one a w is = record {
      place = subst (λ ps. w.place < length ps) (sym same_places) is.place;
      transition = subst (λ ts. w.transition < length ts) (sym same_transitions) is.transition;
      source = refl;
      target = refl;
    }

    pub wired : (arcs : List Arc) (ws : List Wire) → AllZip (IsWire n) arcs ws → (x : FlatArc) → Contains (flat_arcs f.places f.transitions arcs ws) x → IsWired f x
    wired [] [] have x c = absurd (contains_nil x c)
    wired [] (w ∷ ws) have x c = absurd have
    wired (a ∷ arcs) [] have x c = absurd have
    wired (a ∷ arcs) (w ∷ ws) have x c = step (contains_cases (flat_arc_of f.places f.transitions a w) (flat_arcs f.places f.transitions arcs ws) x c) (wired arcs ws have.1 x)
      where
        step : (flat_arc_of f.places f.transitions a w ≡ x) ⊎ Contains (flat_arcs f.places f.transitions arcs ws) x → (Contains (flat_arcs f.places f.transitions arcs ws) x → IsWired f x) → IsWired f x
        step (inl same) more = subst (IsWired f) same (wired_one a w have.0)
        step (inr behind) more = more behind
