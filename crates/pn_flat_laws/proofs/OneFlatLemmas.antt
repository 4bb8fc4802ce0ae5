-- A document has one flat net.
use Rattle.std.proofs.Common.{◌≡◌, List, [], ◌∷◌, map, refl, sym, ap, ◌∙◌, append-nil}
use Rattle.std.specs.List.{Contains, flat_map}
use Rattle.pn_checks.specs.Linked.{IsLinked}
use Rattle.pn_checks.proofs.FlatLemmas.{flat_declarations, flat_places_are, flat_transitions_are}
use Rattle.pn_checks.proofs.UniqueLemmas.{one_flat_net}
use Rattle.pn_facts.proofs.Contained.{contains_first, contains_next}
use Rattle.pn_net.specs.Flattening.{arc_of_flat, net_of_flat, page_of_objects}
use Rattle.pn_net.specs.Typed.{IsWired}
use Rattle.pn_net.specs.declared.flat.Flat.{Flat}
use Rattle.pn_net.specs.declared.flat.FlatArc.{FlatArc}
use Rattle.pn_objects.specs.Offsets.{place_without_offsets, transition_without_offsets}
use Rattle.pn_objects.specs.declared.net.Net.{Net}
use Rattle.pn_objects.specs.declared.net.Page.{Page}
use Rattle.pn_objects.specs.declared.net.Page.TheOpen as layer
use Rattle.pn_objects.specs.declared.net.Page.TheViews.{out-Page, out-roll-Page}
use Rattle.pn_objects.specs.declared.object.Arc.{Arc}
use Rattle.pn_spelling.specs.ReadNets.{net_of}
use Rattle.pn_tree.specs.declared.element.Element.{Element}
use Rattle.pn_flat_laws.proofs.EndLemmas.{joins, own_arc}

-- what the one page of a flat net tells
abbrev of_pages : {A : Type 0} → (layer.Page-F Page → List A) → Net → List A
of_pages own n = flat_map (λ p. own (out-Page p)) n.pages

abbrev own_page : Flat → layer.Page-F Page
own_page f = record {
  id = f.page_id;
  head = f.page_head;
  declarations = [];
  places = f.places;
  transitions = f.transitions;
  place_refs = [];
  transition_refs = [];
  arcs = map (arc_of_flat f) f.arcs;
  pages = [];
  at = 0;
}

page_tells : {A : Type 0} (f : Flat) (own : layer.Page-F Page → List A) → of_pages own (net_of_flat f) ≡ own (own_page f)
page_tells f own = append-nil (own (out-Page (page_of_objects f.page_id f.page_head f.places f.transitions (map (arc_of_flat f) f.arcs)))) ∙ ap own (out-roll-Page (own_page f))

told_alike : {A : Type 0} (f g : Flat) (own : layer.Page-F Page → A) → net_of_flat f ≡ net_of_flat g → own (own_page f) ≡ own (own_page g)
told_alike {A} f g own same =
    let both : own (own_page f) ∷ [] ≡ own (own_page g) ∷ []
    = sym (page_tells f (λ p. own p ∷ [])) ∙ ap (of_pages (λ p. own p ∷ [])) same ∙ page_tells g (λ p. own p ∷ []) in
    cc

module _ (tree : Element) (f g : Flat) (from : IsLinked tree f) (to : IsLinked tree g) where
  abbrev n : Net
  n = net_of tree

  same : net_of_flat f ≡ net_of_flat g
  same = one_flat_net n from.sound.links (net_of_flat f) (net_of_flat g) from.is_flat to.is_flat

  places_same : f.places ≡ g.places
  places_same = flat_places_are n f from.is_flat ∙ sym (flat_places_are n g to.is_flat)

  transitions_same : f.transitions ≡ g.transitions
  transitions_same = flat_transitions_are n f from.is_flat ∙ sym (flat_transitions_are n g to.is_flat)

  one_arc : (a b : FlatArc) → IsWired f a → IsWired g b → arc_of_flat f a ≡ arc_of_flat g b → a ≡ b
  one_arc a b p q is =
      let arc : a.arc ≡ b.arc = sym (own_arc f a p) ∙ is ∙ own_arc g b q in
      let j = joins f g n from.sound.links (flat_places_are n g to.is_flat) (flat_transitions_are n g to.is_flat) (ap (map place_without_offsets) places_same) (ap (map transition_without_offsets) transitions_same)
      a b p q a.into_place b.into_place (ap (λ (x : Arc). x.source) is) (ap (λ (x : Arc). x.target) is) in
      λ i. record { arc = arc i; place = j.place i; transition = j.transition i; into_place = j.direction i }

  one_arcs : (xs ys : List FlatArc) → ((a : FlatArc) → Contains xs a → IsWired f a) → ((b : FlatArc) → Contains ys b → IsWired g b) → map (arc_of_flat f) xs ≡ map (arc_of_flat g) ys → xs ≡ ys
  one_arcs [] [] p q is = refl
  one_arcs [] (b ∷ ys) p q is = absurd cc
  one_arcs (a ∷ xs) [] p q is = absurd cc
  one_arcs (a ∷ xs) (b ∷ ys) p q is =
      let head : arc_of_flat f a ≡ arc_of_flat g b = cc in
      let tail : map (arc_of_flat f) xs ≡ map (arc_of_flat g) ys = cc in
      let first = one_arc a b (p a (contains_first a xs)) (q b (contains_first b ys)) head in
      let rest = one_arcs xs ys (λ x has. p x (contains_next a xs x has)) (λ x has. q x (contains_next b ys x has)) tail in
      λ i. first i ∷ rest i

  pub one_flat : f ≡ g
  one_flat =
      let arcs = one_arcs f.arcs g.arcs from.wired to.wired (told_alike f g (λ p. p.arcs) same) in
      let declarations = flat_declarations n f from.is_flat ∙ sym (flat_declarations n g to.is_flat) in
      λ i. record {
        id = ap (λ (x : Net). x.id) same i;
        kind = ap (λ (x : Net). x.kind) same i;
        prefixes = ap (λ (x : Net). x.prefixes) same i;
        head = ap (λ (x : Net). x.head) same i;
        page_id = told_alike f g (λ p. p.id) same i;
        page_head = told_alike f g (λ p. p.head) same i;
        declarations = declarations i;
        places = places_same i;
        transitions = transitions_same i;
        arcs = arcs i;
      }
