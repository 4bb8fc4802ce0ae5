-- Which elements of a document its objects come from.
use Rattle.std.proofs.Common.{◌≡◌, ◌⊎◌, inl, inr, ℕ, zero, suc, Bool, true, false, cond, List, [], ◌∷◌, ◌++◌, map, codes, Option, None, Some, refl, sym, ap, ◌∙◌, subst}
use Rattle.std.specs.List.{AllByRecursion, Contains, find, filter, flat_map}
use Rattle.std.specs.Option.{unwrap_or}
use Rattle.pn_facts.proofs.Each.{each}
use Rattle.pn_facts.proofs.Contained.{contains_at, contains_first, contains_next}
use Rattle.pn_faults.proofs.RisingLemmas.{IsWithin, itself, inside}
use Rattle.pn_objects.specs.declared.net.Page.{Page}
use Rattle.pn_objects.specs.declared.net.Page.TheOpen as layer
use Rattle.pn_objects.specs.declared.net.Page.TheViews.{out-Page, out-roll-Page}
use Rattle.pn_net.specs.Objects.{declared_by, in_page, in_pages, net_arcs, net_declarations, net_place_references, net_places, net_transition_references, net_transitions}
use Rattle.pn_shape.proofs.WrittenLemmas.{both_all}
use Rattle.pn_pages.proofs.GatherLemmas.{own_layer, page_law}
use Rattle.pn_checks.proofs.FlatLemmas.{flat_all}
use Rattle.pn_spelling.specs.Parts.{child_elements, children_named, first_child, has_name}
use Rattle.pn_spelling.specs.ReadDeclarations.{declaration_read}
use Rattle.pn_spelling.specs.ReadNets.{arc_read, child_or_self, declarations_label, inner_or_self, net_of, page_with, page_within, place_read, reference_read, structured, transition_read}
use Rattle.pn_syntax.specs.declared.declaration.Declaration.{Declaration}
use Rattle.pn_tree.specs.Depth.{depth_of}
use Rattle.pn_tree.specs.declared.element.Element.{Element}

-- it is what an element of this name says that stands in the element
pub record ComesFrom {A : Type 0} (name : List ℕ) (read : Element → A) (e : Element) (a : A) : Type 0 where
  pub source : Element
  pub within : IsWithin child_elements e source
  pub named : has_name name source ≡ true
  pub is : a ≡ read source

pub passing : {X : Type 0} (P : X → Type 0) (p : X → Bool) (whole xs : List X) → ((x : X) → Contains xs x → Contains whole x) → ((x : X) → Contains whole x → p x ≡ true → P x) → AllByRecursion P (filter p xs)
passing P p whole [] part each = tt
passing P p whole (x ∷ xs) part each = by (p x) refl (passing P p whole xs (λ y there. part y (contains_next x xs y there)) each)
  where
    by : (b : Bool) → p x ≡ b → AllByRecursion P (filter p xs) → AllByRecursion P (cond b (x ∷ filter p xs) (filter p xs))
    by true is rest = (each x (part x (contains_first x xs)) is, rest)
    by false is rest = rest

-- what holds of each kid of a name
pub each_named : (P : Element → Type 0) (name : List ℕ) (e : Element) → ((x : Element) → Contains (child_elements e) x → has_name name x ≡ true → P x) → AllByRecursion P (children_named name e)
each_named P name e each = passing P (has_name name) (child_elements e) (child_elements e) (λ x there. there) each

pub mapped_all : {X Y : Type 0} (P : Y → Type 0) (f : X → Y) (xs : List X) → AllByRecursion (λ x. P (f x)) xs → AllByRecursion P (map f xs)
mapped_all P f [] all = tt
mapped_all P f (x ∷ xs) all = (all.0, mapped_all P f xs all.1)

pub flat_mapped : {X Y Z : Type 0} (P : Z → Type 0) (g : Y → List Z) (f : X → Y) (xs : List X) → AllByRecursion (λ x. AllByRecursion P (g (f x))) xs → AllByRecursion P (flat_map g (map f xs))
flat_mapped P g f [] all = tt
flat_mapped P g f (x ∷ xs) all = both_all P (g (f x)) (flat_map g (map f xs)) all.0 (flat_mapped P g f xs all.1)

pub found_or : {X : Type 0} (p : X → Bool) (xs : List X) (d : X) → (unwrap_or (find p xs) d ≡ d) ⊎ Contains xs (unwrap_or (find p xs) d)
found_or p [] d = inl refl
found_or p (x ∷ xs) d = by (p x) (found_or p xs d)
  where
    by : (b : Bool) → (unwrap_or (find p xs) d ≡ d) ⊎ Contains xs (unwrap_or (find p xs) d) → (unwrap_or (cond b (Some x) (find p xs)) d ≡ d) ⊎ Contains (x ∷ xs) (unwrap_or (cond b (Some x) (find p xs)) d)
    by true rest = inr (contains_first x xs)
    by false (inl none) = inl none
    by false (inr there) = inr (contains_next x xs (unwrap_or (find p xs) d) there)

pub pages_in : (pages : List Page) (e : Element) → (out-Page (page_with pages e)).pages ≡ pages
pages_in pages e = ap (λ l. l.pages) (out-roll-Page _)

-- ---- elements within

pub within_kid : (e y z : Element) → IsWithin child_elements e y → Contains (child_elements y) z → IsWithin child_elements e z
within_kid e y z (itself _ _ same) there = inside e z z (subst (λ x. Contains (child_elements x) z) same there) (itself z z refl)
within_kid e y z (inside _ _ p c rest) there = inside e z p c (within_kid p y z rest there)

pub all_contained : {X : Type 0} (P : X → Type 0) (xs : List X) → ((x : X) → Contains xs x → P x) → AllByRecursion P xs
all_contained P [] each = tt
all_contained P (x ∷ xs) each = (each x (contains_first x xs), all_contained P xs (λ y there. each y (contains_next x xs y there)))

pub inner_within : (e y : Element) → IsWithin child_elements e y → IsWithin child_elements e (inner_or_self y)
inner_within e y within = by (first_child y) refl
  where
    by : (o : Option Element) → first_child y ≡ o → IsWithin child_elements e (unwrap_or o y)
    by None is = within
    by (Some z) is = within_kid e y z within (contains_at (child_elements y) 0 z is)

pub or_self_within : (name : List ℕ) (e y : Element) → IsWithin child_elements e y → IsWithin child_elements e (child_or_self name y)
or_self_within name e y within = by (found_or (has_name name) (child_elements y) y)
  where
    by : (child_or_self name y ≡ y) ⊎ Contains (child_elements y) (child_or_self name y) → IsWithin child_elements e (child_or_self name y)
    by (inl same) = subst (IsWithin child_elements e) (sym same) within
    by (inr there) = within_kid e y (child_or_self name y) within there

-- ---- what stands in a net

-- what holds of a thing in an element holds of it in those around
module _ {A : Type 0} (P : Element → A → Type 0) (up : (e k : Element) → Contains (child_elements e) k → (a : A) → P k a → P e a) where
  abbrev All : Element → List A → Type 0
  All e = AllByRecursion (P e)

  -- and so of all in a page
  module _ (own : layer.Page-F (List A) → List A) (own_all : (pages : List Page) (e : Element) → AllByRecursion (P e) (own (own_layer own (page_with pages e)))) where
    page_is : (pages : List Page) (e : Element) → in_page own (page_with pages e) ≡ own (own_layer own (page_with pages e)) ++ flat_map (in_page own) pages
    page_is pages e = page_law own (page_with pages e) ∙ ap (λ ps. own (own_layer own (page_with pages e)) ++ flat_map (in_page own) ps) (pages_in pages e)

    with_pages : (pages : List Page) (e : Element) → All e (flat_map (in_page own) pages) → All e (in_page own (page_with pages e))
    with_pages pages e inner =
        subst (All e) (sym (page_is pages e)) (both_all (P e) (own (own_layer own (page_with pages e))) (flat_map (in_page own) pages) (own_all pages e) inner)

    of_page : (levels : ℕ) (e : Element) → All e (in_page own (page_within levels e))
    unfolding page_within
    of_page zero e = with_pages [] e tt
    of_page (suc levels) e =
        with_pages (map (page_within levels) (children_named (codes "page") e)) e
        (flat_mapped (P e) (in_page own) (page_within levels) (children_named (codes "page") e)
        (each_named (λ x. All e (in_page own (page_within levels x))) (codes "page") e
        (λ x there is. each (P x) (P e) (up e x there) (in_page own (page_within levels x)) (of_page levels x))))

    in_net : (e : Element) → All e (flat_map (in_page own) (map (λ x. page_within (depth_of x) x) (children_named (codes "page") e)))
    in_net e =
        flat_mapped (P e) (in_page own) (λ x. page_within (depth_of x) x) (children_named (codes "page") e)
        (each_named (λ x. All e (in_page own (page_within (depth_of x) x))) (codes "page") e
        (λ x there is. each (P x) (P e) (up e x there) (in_page own (page_within (depth_of x) x)) (of_page (depth_of x) x)))

  -- what stands in the `net` of a root stands in the root
  pub in_root : (root : Element) (xs : List A) → All (child_or_self (codes "net") root) xs → All root xs
  in_root root xs all = by (found_or (has_name (codes "net")) (child_elements root) root)
    where
      by : (child_or_self (codes "net") root ≡ root) ⊎ Contains (child_elements root) (child_or_self (codes "net") root) → All root xs
      by (inl same) = subst (λ e. All e xs) same all
      by (inr there) = each (P (child_or_self (codes "net") root)) (P root) (up root (child_or_self (codes "net") root) there) xs all

  pub all_in_pages : (own : layer.Page-F (List A) → List A) → ((pages : List Page) (e : Element) → All e (own (own_layer own (page_with pages e)))) → (root : Element) → All root (in_pages own (net_of root))
  all_in_pages own own_all root = in_root root (in_pages own (net_of root)) (in_net own own_all (child_or_self (codes "net") root))

-- what the kids of a name say
module _ {A : Type 0} (name : List ℕ) (read : Element → A) where
  of_kids : (e : Element) → AllByRecursion (ComesFrom name read e) (map read (children_named name e))
  of_kids e =
      mapped_all (ComesFrom name read e) read (children_named name e)
      (each_named (λ x. ComesFrom name read e (read x)) name e (λ x there is. record { source = x; within = inside e x x there (itself x x refl); named = is; is = refl }))

  -- and what stands in a kid
  from_kid : (e k : Element) → Contains (child_elements e) k → (a : A) → ComesFrom name read k a → ComesFrom name read e a
  from_kid e k there a from = record { source = from.source; within = inside e from.source k there from.within; named = from.named; is = from.is }

  from_root : (own : layer.Page-F (List A) → List A) → ((pages : List Page) (e : Element) → own (own_layer own (page_with pages e)) ≡ map read (children_named name e)) → (root : Element)
      → AllByRecursion (ComesFrom name read root) (in_pages own (net_of root))
  from_root own own_is root = all_in_pages (ComesFrom name read) from_kid own (λ pages e. subst (AllByRecursion (ComesFrom name read e)) (sym (own_is pages e)) (of_kids e)) root

pub places_from : (root : Element) → AllByRecursion (ComesFrom (codes "place") place_read root) (net_places (net_of root))
places_from root = from_root (codes "place") place_read (λ p. p.places) (λ pages e. ap (λ l. l.places) (out-roll-Page _)) root

pub transitions_from : (root : Element) → AllByRecursion (ComesFrom (codes "transition") transition_read root) (net_transitions (net_of root))
transitions_from root = from_root (codes "transition") transition_read (λ p. p.transitions) (λ pages e. ap (λ l. l.transitions) (out-roll-Page _)) root

pub arcs_from : (root : Element) → AllByRecursion (ComesFrom (codes "arc") arc_read root) (net_arcs (net_of root))
arcs_from root = from_root (codes "arc") arc_read (λ p. p.arcs) (λ pages e. ap (λ l. l.arcs) (out-roll-Page _)) root

pub place_references_from : (root : Element) → AllByRecursion (ComesFrom (codes "referencePlace") reference_read root) (net_place_references (net_of root))
place_references_from root = from_root (codes "referencePlace") reference_read (λ p. p.place_refs) (λ pages e. ap (λ l. l.place_refs) (out-roll-Page _)) root

pub transition_references_from : (root : Element) → AllByRecursion (ComesFrom (codes "referenceTransition") reference_read root) (net_transition_references (net_of root))
transition_references_from root = from_root (codes "referenceTransition") reference_read (λ p. p.transition_refs) (λ pages e. ap (λ l. l.transition_refs) (out-roll-Page _)) root

-- ---- declarations

-- it is what an element says that stands in the element
pub record IsSpelled {A : Type 0} (read : Element → A) (e : Element) (a : A) : Type 0 where
  pub source : Element
  pub within : IsWithin child_elements e source
  pub is : a ≡ read source

spelled_up : {A : Type 0} (read : Element → A) (e k : Element) → Contains (child_elements e) k → (a : A) → IsSpelled read k a → IsSpelled read e a
spelled_up read e k there a from = record { source = from.source; within = inside e from.source k there from.within; is = from.is }

abbrev pub AreSpelledIn : Element → List Declaration → Type 0
AreSpelledIn e = AllByRecursion (IsSpelled declaration_read e)

-- the declarations that stand in a kid
label_declared : (e k : Element) → Contains (child_elements e) k → AreSpelledIn e (declarations_label k).value
label_declared e k there =
    let inner = structured k in
    let within = inner_within e (child_or_self (codes "structure") k) (or_self_within (codes "structure") e k (inside e k k there (itself k k refl))) in
    mapped_all (IsSpelled declaration_read e) declaration_read (child_elements inner)
    (all_contained (λ x. IsSpelled declaration_read e (declaration_read x)) (child_elements inner) (λ x c. record { source = x; within = within_kid e inner x within c; is = refl }))

labels_declared : (e : Element) → AreSpelledIn e (declared_by (map declarations_label (children_named (codes "declaration") e)))
labels_declared e =
    flat_all (IsSpelled declaration_read e) (λ l. AreSpelledIn e l.value) (λ l. l.value) (λ l all. all) (map declarations_label (children_named (codes "declaration") e))
    (mapped_all (λ l. AreSpelledIn e l.value) declarations_label (children_named (codes "declaration") e)
    (each_named (λ k. AreSpelledIn e (declarations_label k).value) (codes "declaration") e (λ k there named. label_declared e k there)))

pub declarations_from : (root : Element) → AreSpelledIn root (net_declarations (net_of root))
declarations_from root =
    let net = child_or_self (codes "net") root in
    both_all (IsSpelled declaration_read root) (declared_by (net_of root).declarations) (in_pages (λ p. declared_by p.declarations) (net_of root))
    (in_root (IsSpelled declaration_read) (spelled_up declaration_read) root (declared_by (net_of root).declarations) (labels_declared net))
    (all_in_pages (IsSpelled declaration_read) (spelled_up declaration_read) (λ p. declared_by p.declarations)
    (λ pages e. subst (AreSpelledIn e) (sym (ap (λ l. declared_by l.declarations) (out-roll-Page _))) (labels_declared e)) root)
