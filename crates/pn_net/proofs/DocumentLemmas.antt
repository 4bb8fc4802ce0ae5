-- What is known of a flat net that is one of a document.
use Rattle.std.proofs.Common.{◌≡◌, ℕ, List, [], ◌∷◌, ◌++◌, ◌⊎◌, inl, inr, map, Option, Some, None, refl, sym, ap, ◌∙◌, subst, append-nil}
use Rattle.std.specs.List.{Contains, filter_map}
use Rattle.std.specs.Option.{option_map, option_to_list}
use Rattle.std.proofs.lemmas.List.Elements.{Contains-append_left, Contains-append_right, filter_map-append}
use Rattle.pn_facts.proofs.Contained.{contains_cases, contains_first, contains_nil}
use Rattle.pn_faults.specs.declared.fault.Fault.{Fault}
use Rattle.pn_objects.specs.Offsets.{declarations_without_offsets, label_with, net_without_offsets, page_at_zero, page_without_offsets, place_without_offsets}
use Rattle.pn_objects.specs.declared.label.Head.{Head}
use Rattle.pn_objects.specs.declared.label.Label.{Label}
use Rattle.pn_objects.specs.declared.net.Net.{Net}
use Rattle.pn_objects.specs.declared.net.Page.{Page}
use Rattle.pn_objects.specs.declared.net.Page.TheViews.{out-Page, out-roll-Page}
use Rattle.pn_objects.specs.declared.net.Page.TheFolds.{fold_out-Page}
use Rattle.pn_objects.specs.declared.object.Arc.{Arc}
use Rattle.pn_objects.specs.declared.object.Place.{Place}
use Rattle.pn_objects.specs.declared.object.Transition.{Transition}
use Rattle.pn_shape.specs.Faults.{shape_faults}
use Rattle.pn_sorts.specs.Standing.{IsFaultless}
use Rattle.pn_spelling.specs.ReadNets.{net_of}
use Rattle.pn_syntax.specs.Offsets.{declaration_without_offsets, sort_without_offsets}
use Rattle.pn_syntax.specs.declared.declaration.Declaration.{Declaration}
use Rattle.pn_syntax.specs.declared.sort_expr.SortExpr.{SortExpr}
use Rattle.pn_tree.specs.declared.element.Element.{Element}
use Rattle.pn_net.proofs.AlikeLemmas.{alike_contains, alike_option, sort_alike, stands_alike}
use Rattle.pn_net.proofs.RowLemmas.{one_kept}
use Rattle.pn_net.specs.Documents.{HasSoundLinks, IsWellTyped, links, shape, sorts, told_in}
use Rattle.pn_net.specs.Flattening.{arc_of_flat, in_one, net_of_flat, on_one_page, page_of_objects}
use Rattle.pn_net.specs.Labels.{said}
use Rattle.pn_net.specs.Objects.{declared_by, net_declarations, net_places, net_transitions}
use Rattle.pn_net.specs.Sound.{HasSoundSort, HaveSoundSorts}
use Rattle.pn_net.specs.Typed.{IsOfDocument}
use Rattle.pn_net.specs.Typing.{StandsInSorts, declared, of_type}
use Rattle.pn_net.specs.declared.flat.Flat.{Flat}

-- ---- no fault of sorts stands in the net of a tree without faults

none_there : {X : Type 0} (xs : List X) → ((x : X) → Contains xs x → ⊥) → xs ≡ []
none_there [] none = refl
none_there (x ∷ xs) none = absurd (none x (contains_first x xs))

sorts_are_sound : (tree : Element) → IsWellTyped tree → (f : Fault) → StandsInSorts (net_of tree) f → ⊥
sorts_are_sound tree typed f stands =
    let spells : shape_faults tree ≡ [] = none_there (shape_faults tree) (λ g has. typed g (shape g has)) in
    let linked : HasSoundLinks tree = record { spells = spells; links = λ g link. typed g (links g spells link) } in
    typed (told_in tree f) (sorts (told_in tree f) f linked stands refl)

-- ---- what two nets have that are the same

declared_bare : (ds : List Declaration) → declared_by (map declarations_without_offsets (in_one ds)) ≡ map declaration_without_offsets ds
declared_bare [] = refl
declared_bare (d ∷ ds) = append-nil (map declaration_without_offsets (d ∷ ds))

page_bare : (p : Page) → (out-Page (page_without_offsets p)).places ≡ map place_without_offsets (out-Page p).places
page_bare p = ap (λ (q : Page). (out-Page q).places) (fold_out-Page Page page_at_zero p) ∙ ap (λ l. l.places) (out-roll-Page _)

abbrev places_of_pages : List Page → List Place
places_of_pages [] = []
places_of_pages (p ∷ ps) = (out-Page p).places

bare_places : (id : List ℕ) (head : Head) (places : List Place) (transitions : List Transition) (arcs : List Arc) → places_of_pages (map page_without_offsets (page_of_objects id head places transitions arcs ∷ [])) ≡ map place_without_offsets places
bare_places id head places transitions arcs = page_bare (page_of_objects id head places transitions arcs) ∙ ap (λ l. map place_without_offsets l.places) (out-roll-Page _)

said_bare : (l : Option (Label SortExpr)) → said (option_map (label_with sort_without_offsets) l) ≡ option_map sort_without_offsets (said l)
said_bare None = refl
said_bare (Some l) = refl

pub contains_kept : {X Y : Type 0} (h : X → Option Y) (xs : List X) (x : X) (y : Y) → Contains xs x → h x ≡ Some y → Contains (filter_map h xs) y
contains_kept h [] x y has is = absurd (contains_nil x has)
contains_kept {X} {Y} h (z ∷ xs) x y has is = subst (λ ys. Contains ys y) (sym (filter_map-append h (z ∷ []) xs ∙ ap (λ ys. ys ++ filter_map h xs) (one_kept h z))) (side (λ later. contains_kept h xs x y later is) (contains_cases z xs x has))
  where
    side : (Contains xs x → Contains (filter_map h xs) y) → (z ≡ x) ⊎ Contains xs x → Contains (option_to_list (h z) ++ filter_map h xs) y
    side rest (inl same) = Contains-append_left (option_to_list (h z)) (filter_map h xs) y (subst (λ o. Contains (option_to_list o) y) (sym (ap h same ∙ is)) (contains_first y []))
    side rest (inr later) = Contains-append_right (option_to_list (h z)) (filter_map h xs) y (rest later)

module _ (f : Flat) (doc : IsOfDocument f) where
  abbrev source : Net
  source = net_of doc.tree

  whole : net_without_offsets (net_of_flat f) ≡ net_without_offsets (on_one_page source doc.is_flat.page doc.is_flat.arcs)
  whole = doc.same ∙ ap net_without_offsets doc.is_flat.is

  declarations_alike : map declaration_without_offsets f.declarations ≡ map declaration_without_offsets (net_declarations source)
  declarations_alike = sym (declared_bare f.declarations) ∙ ap (λ n. declared_by n.declarations) whole ∙ declared_bare (net_declarations source)

  pub is_faultless : IsFaultless f.declarations
  is_faultless g stands =
      let fault = stands_alike f.declarations (net_declarations source) declarations_alike g stands in
      sorts_are_sound doc.tree doc.well_typed fault.0 (declared fault.0 fault.1)

  places_alike : map place_without_offsets f.places ≡ map place_without_offsets (net_places source)
  places_alike = sym (bare_places f.page_id f.page_head f.places f.transitions (map (arc_of_flat f) f.arcs)) ∙ ap (λ n. places_of_pages n.pages) whole
      ∙ bare_places (out-Page doc.is_flat.page).id (out-Page doc.is_flat.page).head (net_places source) (net_transitions source) doc.is_flat.arcs

  pub are_sound : HaveSoundSorts f.declarations f.places
  are_sound p has = step (said p.sort) refl
    where
      step : (o : Option SortExpr) → said p.sort ≡ o → HasSoundSort f.declarations o
      step None is = tt
      step (Some e) is = λ g stands.
          let found = alike_contains place_without_offsets f.places (net_places source) p places_alike has in
          let same : option_map sort_without_offsets (said p.sort) ≡ option_map sort_without_offsets (said found.0.sort) = sym (said_bare p.sort) ∙ ap (λ (q : Place). said q.sort) found.2 ∙ said_bare found.0.sort in
          let expr = alike_option sort_without_offsets (said p.sort) (said found.0.sort) e same is in
          let fault = sort_alike f.declarations (net_declarations source) declarations_alike e expr.0 g expr.2 stands in
          sorts_are_sound doc.tree doc.well_typed fault.0 (of_type fault.0 expr.0 (contains_kept (λ q. said q.sort) (net_places source) found.0 expr.0 found.1 expr.1) fault.1)
