-- What stands in pages, and in the net of one page that a flat net is.
use Rattle.std.proofs.Common.{◌≡◌, ℕ, List, [], ◌∷◌, ◌++◌, append-nil, map, refl, sym, ap, ◌∙◌}
use Rattle.std.specs.List.{AllByRecursion, flat_map}
use Rattle.pn_net.specs.Flattening.{IsFlattened, arc_of_flat, in_one, net_of_flat, page_of_objects}
use Rattle.pn_net.specs.Objects.{declared_by, in_page, net_arcs, net_declarations, net_places, net_transitions}
use Rattle.pn_net.specs.declared.flat.Flat.{Flat}
use Rattle.pn_objects.specs.declared.label.Head.{Head}
use Rattle.pn_objects.specs.declared.net.Net.{Net}
use Rattle.pn_objects.specs.declared.net.Page.{Page}
use Rattle.pn_objects.specs.declared.net.Page.TheOpen as layer
use Rattle.pn_objects.specs.declared.net.Page.TheViews.{out-Page, out-roll-Page}
use Rattle.pn_objects.specs.declared.object.Arc.{Arc}
use Rattle.pn_objects.specs.declared.object.Place.{Place}
use Rattle.pn_objects.specs.declared.object.Transition.{Transition}
use Rattle.pn_pages.proofs.GatherLemmas.{own_layer, page_law}
use Rattle.pn_shape.proofs.WrittenLemmas.{both_all}
use Rattle.pn_syntax.specs.declared.declaration.Declaration.{Declaration}

pub flat_all : {X Y : Type 0} (P : Y → Type 0) (Q : X → Type 0) (f : X → List Y) → ((x : X) → Q x → AllByRecursion P (f x)) → (xs : List X) → AllByRecursion Q xs → AllByRecursion P (flat_map f xs)
flat_all P Q f each [] all = tt
flat_all P Q f each (x ∷ xs) all = both_all P (f x) (flat_map f xs) (each x all.0) (flat_all P Q f each xs all.1)

-- what stands on one page alone
pub one_page : {A : Type 0} (own : layer.Page-F (List A) → List A) (p : Page) → (out-Page p).pages ≡ [] → flat_map (in_page own) (p ∷ []) ≡ own (own_layer own p)
one_page own p none = append-nil (in_page own p) ∙ page_law own p ∙ ap (λ ps. own (own_layer own p) ++ flat_map (in_page own) ps) none ∙ append-nil (own (own_layer own p))

module _ (id : List ℕ) (head : Head) (ps : List Place) (ts : List Transition) (arcs : List Arc) where
  no_pages : (out-Page (page_of_objects id head ps ts arcs)).pages ≡ []
  no_pages = ap (λ l. l.pages) (out-roll-Page _)

  one_places : flat_map (in_page (λ p. p.places)) (page_of_objects id head ps ts arcs ∷ []) ≡ ps
  one_places = one_page (λ p. p.places) (page_of_objects id head ps ts arcs) no_pages ∙ ap (λ l. l.places) (out-roll-Page _)

  one_transitions : flat_map (in_page (λ p. p.transitions)) (page_of_objects id head ps ts arcs ∷ []) ≡ ts
  one_transitions = one_page (λ p. p.transitions) (page_of_objects id head ps ts arcs) no_pages ∙ ap (λ l. l.transitions) (out-roll-Page _)

  one_arcs : flat_map (in_page (λ p. p.arcs)) (page_of_objects id head ps ts arcs ∷ []) ≡ arcs
  one_arcs = one_page (λ p. p.arcs) (page_of_objects id head ps ts arcs) no_pages ∙ ap (λ l. l.arcs) (out-roll-Page _)

pub one_declared : (ds : List Declaration) → declared_by (in_one ds) ≡ ds
one_declared [] = refl
one_declared (d ∷ ds) = append-nil (d ∷ ds)

-- what a flat net has as a net
module _ (f : Flat) where
  pub flat_places : net_places (net_of_flat f) ≡ f.places
  flat_places = one_places f.page_id f.page_head f.places f.transitions (map (arc_of_flat f) f.arcs)

  pub flat_transitions : net_transitions (net_of_flat f) ≡ f.transitions
  flat_transitions = one_transitions f.page_id f.page_head f.places f.transitions (map (arc_of_flat f) f.arcs)

  pub flat_arcs : net_arcs (net_of_flat f) ≡ map (arc_of_flat f) f.arcs
  flat_arcs = one_arcs f.page_id f.page_head f.places f.transitions (map (arc_of_flat f) f.arcs)

-- where it is the flat net of a net, it has its kind, its declarations and its places
module _ (n : Net) (f : Flat) (is : IsFlattened n (net_of_flat f)) where
  pub flat_kind : f.kind ≡ n.kind
  flat_kind = ap (λ (m : Net). m.kind) is.is

  pub flat_declarations : f.declarations ≡ net_declarations n
  flat_declarations = sym (one_declared f.declarations) ∙ ap (λ (m : Net). declared_by m.declarations) is.is ∙ one_declared (net_declarations n)

  pub flat_places_are : f.places ≡ net_places n
  flat_places_are = sym (flat_places f) ∙ ap net_places is.is ∙ one_places (out-Page is.page).id (out-Page is.page).head (net_places n) (net_transitions n) is.arcs

  pub flat_transitions_are : f.transitions ≡ net_transitions n
  flat_transitions_are = sym (flat_transitions f) ∙ ap net_transitions is.is ∙ one_transitions (out-Page is.page).id (out-Page is.page).head (net_places n) (net_transitions n) is.arcs

  -- and the arcs that it has as a net
  pub flat_arcs_are : is.arcs ≡ map (arc_of_flat f) f.arcs
  flat_arcs_are = sym (one_arcs (out-Page is.page).id (out-Page is.page).head (net_places n) (net_transitions n) is.arcs) ∙ sym (ap net_arcs is.is) ∙ flat_arcs f
