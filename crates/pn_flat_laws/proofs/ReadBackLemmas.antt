-- What is read back from what is written of a flat net is equal to it but for offsets.
use Rattle.std.proofs.Common.{◌≡◌, inl, inr, ℕ, List, [], ◌∷◌, map, Some, sym, ap, ◌∙◌, subst}
use Rattle.std.specs.List.{AllZip, Contains}
use Rattle.std.specs.Option.{option_map}
use Rattle.pn_checks.specs.Linked.{IsLinked}
use Rattle.pn_checks.proofs.FlatLemmas.{flat_arcs_are, flat_declarations, flat_places_are, flat_transitions_are}
use Rattle.pn_checks.proofs.SameFlatLemmas.{arcs_alike, declared_alike, no_place_references, no_transition_references, places_alike, transitions_alike}
use Rattle.pn_checks.proofs.UniqueLemmas.{HasSound}
use Rattle.pn_facts.proofs.Lists.{got}
use Rattle.pn_facts.proofs.Contained.{contains_first, contains_next, contains_nil}
use Rattle.pn_net.specs.Ends.{End, ReachesEnd, at_place, at_transition, by_reference, id_at}
use Rattle.pn_net.specs.Flattening.{IsFlattened, IsRewired, arc_of_flat, net_of_flat}
use Rattle.pn_net.specs.Links.{IsReference}
use Rattle.pn_net.specs.Objects.{net_arcs, net_place_references, net_places, net_transition_references, net_transitions}
use Rattle.pn_net.specs.Typed.{IsWired}
use Rattle.pn_net.specs.declared.flat.Flat.{Flat}
use Rattle.pn_net.specs.declared.flat.FlatArc.{FlatArc}
use Rattle.pn_objects.specs.Offsets.{IsSameNet, arc_without_offsets, place_without_offsets, transition_without_offsets}
use Rattle.pn_objects.specs.declared.net.Net.{Net}
use Rattle.pn_objects.specs.declared.object.Arc.{Arc}
use Rattle.pn_objects.specs.declared.object.Reference.{Reference}
use Rattle.pn_sorts.proofs.SettleLemmas.{same_some}
use Rattle.pn_spelling.specs.ReadNets.{net_of}
use Rattle.pn_syntax.specs.Offsets.{declaration_without_offsets}
use Rattle.pn_tree.specs.declared.element.Element.{Element}
use Rattle.pn_flat_laws.specs.AlikeNets.{AreAlikeNets, IsAlikeArc}
use Rattle.pn_flat_laws.proofs.EndLemmas.{joins, own_arc}

-- ---- without references

module _ (w : Net) (no_places : net_place_references w ≡ []) (no_transitions : net_transition_references w ≡ []) where
  no_reference : (r : Reference) → IsReference w r → ⊥
  no_reference r (inl c) = contains_nil r (subst (λ rs. Contains rs r) no_places c)
  no_reference r (inr c) = contains_nil r (subst (λ rs. Contains rs r) no_transitions c)

  -- an id reaches what has it
  own_end : (id : List ℕ) (e : End) (to : List ℕ) → ReachesEnd w id e → id_at w e ≡ Some to → to ≡ id
  own_end id e to (at_place _ _ i p got has is) at = same_some to id (sym at ∙ ap (id_at w) is ∙ ap (option_map (λ x. x.id)) got ∙ ap Some has)
  own_end id e to (at_transition _ _ i t got has is) at = same_some to id (sym at ∙ ap (id_at w) is ∙ ap (option_map (λ x. x.id)) got ∙ ap Some has)
  own_end id e to (by_reference _ _ r stands has way) at = absurd (no_reference r stands)

-- ---- arcs

module _ (f g : Flat) (w : Net) (no_places : net_place_references w ≡ []) (no_transitions : net_transition_references w ≡ []) (sound : HasSound w)
    (places_are : g.places ≡ net_places w) (transitions_are : g.transitions ≡ net_transitions w)
    (places_same : map place_without_offsets f.places ≡ map place_without_offsets g.places) (transitions_same : map transition_without_offsets f.transitions ≡ map transition_without_offsets g.transitions) where
  arc_read : (a b : FlatArc) (c : Arc) → IsWired f a → IsWired g b → arc_without_offsets c ≡ arc_without_offsets (arc_of_flat f a) → IsRewired w c (arc_of_flat g b) → IsAlikeArc a b
  arc_read a b c from to same rewired =
      let source : rewired.source ≡ c.source = own_end w no_places no_transitions c.source rewired.from.0 rewired.source rewired.from.1 rewired.from.2 in
      let target : rewired.target ≡ c.target = own_end w no_places no_transitions c.target rewired.to.0 rewired.target rewired.to.1 rewired.to.2 in
      let is : arc_of_flat g b ≡ c = rewired.is ∙ (λ i. record c { source = source i; target = target i }) in
      let j = joins f g w sound places_are transitions_are places_same transitions_same a b from to a.into_place b.into_place
      (sym (ap (λ (x : Arc). x.source) same) ∙ sym (ap (λ (x : Arc). x.source) is)) (sym (ap (λ (x : Arc). x.target) same) ∙ sym (ap (λ (x : Arc). x.target) is)) in
      record {
        place = j.place;
        transition = j.transition;
        direction = j.direction;
        arc = ap arc_without_offsets (sym (own_arc f a from)) ∙ sym same ∙ ap arc_without_offsets (sym is) ∙ ap arc_without_offsets (own_arc g b to);
      }

  arcs_read : (one : List FlatArc) (cs : List Arc) (two : List FlatArc) → ((a : FlatArc) → Contains one a → IsWired f a) → ((b : FlatArc) → Contains two b → IsWired g b)
      → map arc_without_offsets cs ≡ map arc_without_offsets (map (arc_of_flat f) one) → AllZip (IsRewired w) cs (map (arc_of_flat g) two) → AllZip IsAlikeArc one two
  arcs_read [] [] [] from to same all = tt
  arcs_read [] [] (b ∷ two) from to same all = absurd all
  arcs_read [] (c ∷ cs) two from to same all = absurd cc
  arcs_read (a ∷ one) [] two from to same all = absurd cc
  arcs_read (a ∷ one) (c ∷ cs) [] from to same all = absurd all
  arcs_read (a ∷ one) (c ∷ cs) (b ∷ two) from to same all =
      let head : arc_without_offsets c ≡ arc_without_offsets (arc_of_flat f a) = cc in
      let tail : map arc_without_offsets cs ≡ map arc_without_offsets (map (arc_of_flat f) one) = cc in (
        arc_read a b c (from a (contains_first a one)) (to b (contains_first b two)) head all.0,
        arcs_read one cs two (λ x has. from x (contains_next a one x has)) (λ x has. to x (contains_next b two x has)) tail all.1,
      )

-- ---- documents

pub read_back_from : (n : Net) (other : Element) (f g : Flat) → IsFlattened n (net_of_flat f) → ((a : FlatArc) → Contains f.arcs a → IsWired f a) → IsLinked other g → IsSameNet (net_of other) (net_of_flat f) → AreAlikeNets f g
read_back_from n other f g p wired to same =
    let w = net_of other in
    let q = to.is_flat in
    let declared : map declaration_without_offsets f.declarations ≡ map declaration_without_offsets g.declarations
    = ap (map declaration_without_offsets) (flat_declarations n f p) ∙ sym (declared_alike n (net_of_flat f) w p same) ∙ ap (map declaration_without_offsets) (sym (flat_declarations w g q)) in
    let places : map place_without_offsets f.places ≡ map place_without_offsets g.places
    = ap (map place_without_offsets) (flat_places_are n f p) ∙ sym (places_alike n (net_of_flat f) w p same) ∙ ap (map place_without_offsets) (sym (flat_places_are w g q)) in
    let transitions : map transition_without_offsets f.transitions ≡ map transition_without_offsets g.transitions
    = ap (map transition_without_offsets) (flat_transitions_are n f p) ∙ sym (transitions_alike n (net_of_flat f) w p same) ∙ ap (map transition_without_offsets) (sym (flat_transitions_are w g q)) in
    record {
      declarations = declared;
      places = places;
      transitions = transitions;
      arcs = arcs_read f g w (no_place_references n (net_of_flat f) w p same) (no_transition_references n (net_of_flat f) w p same) to.sound.links (flat_places_are w g q) (flat_transitions_are w g q) places transitions
          f.arcs (net_arcs w) g.arcs wired to.wired
          (arcs_alike n (net_of_flat f) w p same ∙ ap (map arc_without_offsets) (flat_arcs_are n f p))
          (subst (AllZip (IsRewired w) (net_arcs w)) (flat_arcs_are w g q) q.rewired);
    }

pub read_back : (tree other : Element) (f g : Flat) → IsLinked tree f → IsLinked other g → IsSameNet (net_of other) (net_of_flat f) → AreAlikeNets f g
read_back tree other f g from to same = read_back_from (net_of tree) other f g from.is_flat from.wired to same
