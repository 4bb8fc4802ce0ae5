-- Who has an id, found by a test of all that have one.
use Rattle.std.proofs.Common.{◌≡◌, ◌≤◌, ◌||◌, ℕ, suc, zero, Bool, true, false, not, nat_le, List, [], ◌∷◌, codes, map, ◌++◌, append-nil, Some, refl, ap, ◌∙◌, sym, subst}
use Rattle.std.specs.List.{Contains, flat_map, list_all, slice_get}
use Rattle.std.specs.Str.{bytes_eq}
use Rattle.std.proofs.lemmas.Slice.Eq.{bytes_eq-Decides}
use Rattle.std.proofs.lemmas.Bool.{false≢true, leb-true}
use Rattle.pn_facts.proofs.Contained.{contains_at, contains_first}
use Rattle.pn_facts.proofs.Lists.{list_all_get}
use Rattle.pn_objects.specs.declared.net.Net.{Net}
use Rattle.pn_objects.specs.declared.net.Page.{Page, map-Page}
use Rattle.pn_objects.specs.declared.net.Page.TheOpen as layer
use Rattle.pn_objects.specs.declared.net.Page.TheViews.{roll-Page, out-roll-Page}
use Rattle.pn_objects.specs.declared.net.Page.TheFolds.{fold_out-Page}
use Rattle.pn_objects.specs.declared.object.Arc.{Arc}
use Rattle.pn_objects.specs.declared.object.Place.{Place}
use Rattle.pn_objects.specs.declared.object.Reference.{Reference}
use Rattle.pn_net.specs.Ids.{IdHolder, NamesHolder, arc_holder, declaration_holders, holder, holders_of, other, page_holder, place_holder, place_reference_holder, transition_holder, transition_reference_holder}
use Rattle.pn_net.specs.Objects.{declared_by, in_page, in_pages, net_arcs, net_place_references}
use Rattle.pn_net.specs.Links.{IsOnSide, LeadsOn, places}
use Rattle.pn_net_tests.specs.Nets.{arc, arc_between_places, net, page, place, reference, references_in_a_ring}

abbrev pub comes_later : List ℕ → ℕ → IdHolder → Bool
comes_later id offset h = not (bytes_eq h.id id) || nat_le offset h.at

later_by : (b : Bool) (m k : ℕ) → b ≡ true → (not b || nat_le m k) ≡ true → m ≤ k
later_by true m k same h = leb-true m k h
later_by false m k same h = absurd (false≢true same)

each_later : (id : List ℕ) (offset : ℕ) (hs : List IdHolder) → list_all (comes_later id offset) hs ≡ true → (x : IdHolder) → Contains hs x → comes_later id offset x ≡ true
each_later id offset hs all x has = subst (λ h. comes_later id offset h ≡ true) has.2 (list_all_get (comes_later id offset) hs has.0 x has.1 all)

-- what stands in the one page of a net
pub on_page : {A : Type 0} (own : layer.Page-F (List A) → List A) (ps : List Place) (rs : List Reference) (ks : List Arc) → in_pages own (net ps rs ks) ≡ own (page [] ps rs ks)
on_page {A} own ps rs ks =
    append-nil (in_page own (roll-Page (page [] ps rs ks)))
    ∙ fold_out-Page (List A) (λ p. own p ++ flat_map (λ inner. inner) p.pages) (roll-Page (page [] ps rs ks))
    ∙ ap (λ l. own (map-Page Page (List A) (in_page own) l) ++ flat_map (λ inner. inner) (map-Page Page (List A) (in_page own) l).pages) (out-roll-Page (page [] ps rs ks))
    ∙ append-nil (own (page [] ps rs ks))

abbrev pub holders : List Place → List Reference → List Arc → List IdHolder
holders ps rs ks = holder (codes "n") 60 other ∷ holder (codes "g") 126 other ∷ (map place_holder ps ++ (map place_reference_holder rs ++ map arc_holder ks))

pub holders_are : (ps : List Place) (rs : List Reference) (ks : List Arc) → holders_of (net ps rs ks) ≡ holders ps rs ks
holders_are ps rs ks = λ i. holder (codes "n") 60 other ∷ (on_page (λ p. page_holder p ∷ []) ps rs ks i ++ (flat_map declaration_holders (on_page (λ p. declared_by p.declarations) ps rs ks i)
    ++ (map place_holder (on_page (λ p. p.places) ps rs ks i) ++ (map transition_holder (on_page (λ p. p.transitions) ps rs ks i)
    ++ (map place_reference_holder (on_page (λ p. p.place_refs) ps rs ks i) ++ (map transition_reference_holder (on_page (λ p. p.transition_refs) ps rs ks i)
    ++ map arc_holder (on_page (λ p. p.arcs) ps rs ks i)))))))

pub named_by : (n : Net) (hs : List IdHolder) → holders_of n ≡ hs → (id : List ℕ) (k : ℕ) (h : IdHolder) → slice_get hs k ≡ Some h → h.id ≡ id → list_all (comes_later id h.at) hs ≡ true → NamesHolder n id h
named_by n hs are id k h there same all = record {
  stands = subst (λ xs. Contains xs h) (sym are) (contains_at hs k h there);
  has_id = same;
  is_first = λ x has is. later_by (bytes_eq x.id id) h.at x.at ((bytes_eq-Decides x.id id).1 is) (each_later id h.at hs all x (subst (λ xs. Contains xs x) are has));
}

-- ---- an arc between places

abbrev arc_places : List Place
arc_places = place (codes "a") 139 ∷ place (codes "b") 154 ∷ []

abbrev arc_references : List Reference
arc_references = reference (codes "r") (codes "b") 169 ∷ []

abbrev arcs : List Arc
arcs = arc (codes "u") (codes "a") (codes "r") 201 ∷ []

abbrev ring : List Reference
ring = reference (codes "r") (codes "s") 139 ∷ reference (codes "s") (codes "r") 171 ∷ []

pub source_is_place : IsOnSide arc_between_places (codes "a") places
source_is_place = let h = place_holder (place (codes "a") 139) in (h, named_by arc_between_places _ (holders_are arc_places arc_references arcs) (codes "a") 2 h refl refl refl, refl)

pub target_is_place : IsOnSide arc_between_places (codes "r") places
target_is_place = let h = place_reference_holder (reference (codes "r") (codes "b") 169) in (h, named_by arc_between_places _ (holders_are arc_places arc_references arcs) (codes "r") 4 h refl refl refl, refl)

-- ---- references in a ring

first : NamesHolder references_in_a_ring (codes "r") (place_reference_holder (reference (codes "r") (codes "s") 139))
first = named_by references_in_a_ring _ (holders_are [] ring []) (codes "r") 2 _ refl refl refl

second : NamesHolder references_in_a_ring (codes "s") (place_reference_holder (reference (codes "s") (codes "r") 171))
second = named_by references_in_a_ring _ (holders_are [] ring []) (codes "s") 3 _ refl refl refl

pub lead_on : (steps : ℕ) → LeadsOn references_in_a_ring steps (codes "r") × LeadsOn references_in_a_ring steps (codes "s")
lead_on zero = ((_, codes "s", first, refl), (_, codes "r", second, refl))
lead_on (suc steps) = let more = lead_on steps in ((_, codes "s", first, refl, more.1), (_, codes "r", second, refl, more.0))

-- ---- what stands in the nets

pub arc_stands : Contains (net_arcs arc_between_places) (arc (codes "u") (codes "a") (codes "r") 201)
arc_stands = subst (λ xs. Contains xs (arc (codes "u") (codes "a") (codes "r") 201)) (sym (on_page (λ p. p.arcs) arc_places arc_references arcs)) (contains_first _ [])

pub reference_stands : Contains (net_place_references references_in_a_ring) (reference (codes "r") (codes "s") 139)
reference_stands = subst (λ xs. Contains xs (reference (codes "r") (codes "s") 139)) (sym (on_page (λ p. p.place_refs) [] ring [])) (contains_first _ (reference (codes "s") (codes "r") 171 ∷ []))
