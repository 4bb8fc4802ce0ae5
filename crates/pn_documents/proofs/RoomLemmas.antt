-- A flat net that can be written can be written with other initial markings, where each has room in its place.
use Rattle.std.proofs.Common.{◌≡◌, ℕ, suc, true, Bool, List, [], ◌∷◌, ◌++◌, map, length, codes, Option, Some, None, IfSome, refl, sym, ap, subst, ◌∙◌}
use Rattle.std.specs.List.{AllByRecursion, list_all, slice_get}
use Rattle.pn_facts.proofs.Truths.{and_both, and_left, and_right}
use Rattle.pn_net.specs.Flattening.{arc_of_flat, in_one, net_of_flat}
use Rattle.pn_net.specs.declared.flat.Flat.{Flat}
use Rattle.pn_objects.specs.declared.label.Head.{Head}
use Rattle.pn_objects.specs.declared.net.Page.TheViews.{out-roll-Page}
use Rattle.pn_objects.specs.declared.object.Place.{Place}
use Rattle.pn_round_trip.proofs.WritableParts.{AllFit, both_fit, elements_fit, made_fits, one_fits}
use Rattle.pn_shape.specs.Numbers.{address_of}
use Rattle.pn_spelling.proofs.WriteLemmas.{page_made}
use Rattle.pn_spelling.specs.Writable.{IsWritable}
use Rattle.pn_spelling.specs.WriteNets.{arc_element, declaration_label, head_kids, id_attr, kids_of, label_element, name_element, net_element, number_label, own_kids, page_element, place_element, root_attrs, transition_element, tree_of_net}
use Rattle.pn_spelling.specs.WriteSorts.{sort_element}
use Rattle.pn_spelling.specs.WriteTerms.{term_element}
use Rattle.pn_spelling.specs.Writing.{all_kids, attribute, made}
use Rattle.pn_tree.proofs.ElementLemmas.{is_kid-element}
use Rattle.pn_tree.proofs.TreeLemmas.{Parts, parts_of}
use Rattle.pn_tree.specs.Elements.{is_element, is_kid}
use Rattle.pn_tree.specs.declared.element.Child.{Child}
use Rattle.pn_tree.specs.declared.element.Child.TheVariants as children
use Rattle.pn_tree.specs.declared.element.Element.{Element}
use Rattle.pn_documents.proofs.RemarkedLemmas.{arcs_same, own_page, own_page_layer, unmark, with_places}

-- ---- kids of an element in a tree

-- what passes side by side passes by itself
pub all_split : {X : Type 0} (test : X → Bool) (xs ys : List X) → list_all test (xs ++ ys) ≡ true → (list_all test xs ≡ true) × (list_all test ys ≡ true)
all_split test [] ys h = (refl, h)
all_split test (x ∷ xs) ys h =
    let rest = all_split test xs ys (and_right (test x) (list_all test (xs ++ ys)) h) in
    (and_both (test x) (list_all test xs) (and_left (test x) (list_all test (xs ++ ys)) h) rest.0, rest.1)

abbrev pub Kids : ℕ → List Child → Type 0
Kids n ks = list_all (is_kid (is_element n)) ks ≡ true

-- each of the elements among kids
pub fit_each : (n : ℕ) (es : List Element) → Kids n (map children.Element es) → AllByRecursion (λ e. is_element n e ≡ true) es
fit_each n [] h = tt
fit_each n (e ∷ es) h = (
  sym (is_kid-element (is_element n) e) ∙ and_left (is_kid (is_element n) (children.Element e)) (list_all (is_kid (is_element n)) (map children.Element es)) h,
  fit_each n es (and_right (is_kid (is_element n) (children.Element e)) (list_all (is_kid (is_element n)) (map children.Element es)) h),
)

maybe_fits : {A : Type 0} (n : ℕ) (spell : A → Element) (o : Option A) → Kids n (kids_of spell o) → AllFit n (kids_of spell o)
maybe_fits n spell None h = refl
maybe_fits n spell (Some a) h = one_fits n (spell a) (fit_each n (spell a ∷ []) h).0

head_fits : (n : ℕ) (h : Head) → Kids n (head_kids h) → AllFit n (head_kids h)
head_fits n h fits =
    let both = all_split (is_kid (is_element n)) (kids_of name_element h.name) (map children.Element h.opaque) fits in
    both_fit n (kids_of name_element h.name) (map children.Element h.opaque) (maybe_fits n name_element h.name both.0) (elements_fit n h.opaque (fit_each n h.opaque both.1))

pub of_mapped : {A : Type 0} (spell : A → Element) (P : Element → Type 0) (xs : List A) → AllByRecursion P (map spell xs) → AllByRecursion (λ x. P (spell x)) xs
of_mapped spell P [] all = tt
of_mapped spell P (x ∷ xs) all = (all.0, of_mapped spell P xs all.1)

to_mapped : {A : Type 0} (spell : A → Element) (P : Element → Type 0) (xs : List A) → AllByRecursion (λ x. P (spell x)) xs → AllByRecursion P (map spell xs)
to_mapped spell P [] all = tt
to_mapped spell P (x ∷ xs) all = (all.0, to_mapped spell P xs all.1)

-- ---- a place with another initial marking

module _ (n : ℕ) where
  -- the initial marking has room in its place
  pub record HasRoom (p : Place) : Type 0 where
    pub number : IfSome p.marking (λ l. is_element n (number_label (codes "initialMarking") l) ≡ true)
    pub term : IfSome p.hl_marking (λ l. is_element n (label_element (codes "hlinitialMarking") term_element l) ≡ true)

  some_fits : {A : Type 0} (spell : A → Element) (o : Option A) → IfSome o (λ a. is_element n (spell a) ≡ true) → AllFit n (kids_of spell o)
  some_fits spell None h = refl
  some_fits spell (Some a) h = one_fits n (spell a) h

  pub place_again : (p q : Place) → unmark q ≡ unmark p → HasRoom q → is_element (suc n) (place_element p) ≡ true → is_element (suc n) (place_element q) ≡ true
  place_again p q same room fits =
      let test = is_kid (is_element n) in
      let marking = kids_of (number_label (codes "initialMarking")) p.marking in
      let type = kids_of (label_element (codes "type") sort_element) p.sort in
      let term = kids_of (label_element (codes "hlinitialMarking") term_element) p.hl_marking in
      let parts = parts_of n (place_element p) fits in
      let a = all_split test (head_kids p.head) (marking ++ (type ++ term)) parts.kids in
      let b = all_split test marking (type ++ term) a.1 in
      let c = all_split test type term b.1 in
      subst (λ (u : Place). is_element (suc n) (place_element (record u { marking = q.marking; hl_marking = q.hl_marking })) ≡ true) (sym same)
      (made_fits n (codes "place") (id_attr p.id ∷ []) (head_kids p.head ++ (kids_of (number_label (codes "initialMarking")) q.marking ++ (type ++ kids_of (label_element (codes "hlinitialMarking") term_element) q.hl_marking))) refl parts.attrs
      (both_fit n (head_kids p.head) (kids_of (number_label (codes "initialMarking")) q.marking ++ (type ++ kids_of (label_element (codes "hlinitialMarking") term_element) q.hl_marking)) (head_fits n p.head a.0)
      (both_fit n (kids_of (number_label (codes "initialMarking")) q.marking) (type ++ kids_of (label_element (codes "hlinitialMarking") term_element) q.hl_marking) (some_fits (number_label (codes "initialMarking")) q.marking room.number)
      (both_fit n type (kids_of (label_element (codes "hlinitialMarking") term_element) q.hl_marking) (maybe_fits n (label_element (codes "type") sort_element) p.sort c.0) (some_fits (label_element (codes "hlinitialMarking") term_element) q.hl_marking room.term)))))

-- ---- the net

-- what holds of each item of the one list holds of that at its place in the other
pub all_beside : {X Y : Type 0} (P : X → Type 0) (Q : Y → Type 0) (xs : List X) (ys : List Y) → length ys ≡ length xs → ((i : ℕ) (x : X) (y : Y) → slice_get xs i ≡ Some x → slice_get ys i ≡ Some y → P x → Q y) → AllByRecursion P xs → AllByRecursion Q ys
all_beside P Q [] [] size each all = tt
all_beside P Q [] (y ∷ ys) size each all = absurd cc
all_beside P Q (x ∷ xs) [] size each all = tt
all_beside P Q (x ∷ xs) (y ∷ ys) size each all =
    let rest : length ys ≡ length xs = cc in
    (each 0 x y refl refl all.0, all_beside P Q xs ys rest (λ i u v at there. each (suc i) u v at there) all.1)

module _ (f : Flat) where
  pub page_is : page_element (own_page f) ≡ made (codes "page") (id_attr f.page_id ∷ []) (own_kids (own_page_layer f) ++ [])
  page_is = page_made (own_page f) ∙ ap (λ l. made (codes "page") (id_attr l.id ∷ []) (own_kids l ++ all_kids page_element l.pages)) (out-roll-Page (own_page_layer f))

module _ (f : Flat) (ps : List Place) (same : map unmark ps ≡ map unmark f.places) (size : length ps ≡ length f.places) (w : IsWritable (net_of_flat f))
    (room : (i : ℕ) (p q : Place) → slice_get f.places i ≡ Some p → slice_get ps i ≡ Some q → (unmark q ≡ unmark p) × HasRoom 252 q) where
  abbrev g : Flat
  g = with_places f ps

  root : Parts 255 (tree_of_net (net_of_flat f))
  root = parts_of 255 (tree_of_net (net_of_flat f)) w.tree

  inside : Parts 254 (net_element (net_of_flat f))
  inside = parts_of 254 (net_element (net_of_flat f)) (fit_each 255 (net_element (net_of_flat f) ∷ []) root.kids).0

  ds : List Child
  ds = all_kids declaration_label (in_one f.declarations)

  in_net : Kids 254 (head_kids f.head) × Kids 254 ds × Kids 254 (all_kids page_element (own_page f ∷ []))
  unfolding ds
  in_net =
      let a = all_split (is_kid (is_element 254)) (head_kids f.head) (ds ++ all_kids page_element (own_page f ∷ [])) inside.kids in
      let b = all_split (is_kid (is_element 254)) ds (all_kids page_element (own_page f ∷ [])) a.1 in
      (a.0, b.0, b.1)

  on_page : Parts 253 (made (codes "page") (id_attr f.page_id ∷ []) (own_kids (own_page_layer f) ++ []))
  on_page = parts_of 253 (made (codes "page") (id_attr f.page_id ∷ []) (own_kids (own_page_layer f) ++ [])) (sym (ap (is_element 254) (page_is f)) ∙ (fit_each 254 (page_element (own_page f) ∷ []) in_net.2).0)

  arcs_kids : List Child
  arcs_kids = all_kids arc_element (map (arc_of_flat f) f.arcs)

  new_page : is_element 254 (page_element (own_page g)) ≡ true
  unfolding arcs_kids
  new_page =
      let test = is_kid (is_element 253) in
      let places = all_kids place_element f.places in
      let transitions = all_kids transition_element f.transitions in
      let now = all_kids place_element ps in
      let whole = all_split test (own_kids (own_page_layer f)) [] on_page.kids in
      let a = all_split test (head_kids f.page_head) (places ++ (transitions ++ arcs_kids)) whole.0 in
      let b = all_split test places (transitions ++ arcs_kids) a.1 in
      let c = all_split test transitions arcs_kids b.1 in
      let old = of_mapped place_element (λ e. is_element 253 e ≡ true) f.places (fit_each 253 (map place_element f.places) b.0) in
      let new = all_beside (λ p. is_element 253 (place_element p) ≡ true) (λ q. is_element 253 (place_element q) ≡ true) f.places ps size (λ i p q at there fits. let r = room i p q at there in place_again 252 p q r.0 r.1 fits) old in
      ap (is_element 254) (page_is g)
      ∙ ap (λ arcs. is_element 254 (made (codes "page") (id_attr f.page_id ∷ []) ((head_kids f.page_head ++ (now ++ (transitions ++ all_kids arc_element arcs))) ++ []))) (arcs_same f ps same f.arcs)
      ∙ made_fits 253 (codes "page") (id_attr f.page_id ∷ []) ((head_kids f.page_head ++ (now ++ (transitions ++ arcs_kids))) ++ []) refl on_page.attrs
      (both_fit 253 (head_kids f.page_head ++ (now ++ (transitions ++ arcs_kids))) []
      (both_fit 253 (head_kids f.page_head) (now ++ (transitions ++ arcs_kids)) (head_fits 253 f.page_head a.0)
      (both_fit 253 now (transitions ++ arcs_kids) (elements_fit 253 (map place_element ps) (to_mapped place_element (λ e. is_element 253 e ≡ true) ps new))
      (both_fit 253 transitions arcs_kids (elements_fit 253 (map transition_element f.transitions) (fit_each 253 (map transition_element f.transitions) c.0))
      (elements_fit 253 (map arc_element (map (arc_of_flat f) f.arcs)) (fit_each 253 (map arc_element (map (arc_of_flat f) f.arcs)) c.1))))) refl)

  -- the net can be written
  pub remarked_writable : IsWritable (net_of_flat g)
  unfolding ds
  remarked_writable = record {
    tree = made_fits 255 (codes "pnml") (root_attrs f.prefixes) (children.Element (net_element (net_of_flat g)) ∷ []) refl root.attrs
        (one_fits 255 (net_element (net_of_flat g))
        (made_fits 254 (codes "net") (id_attr f.id ∷ attribute (codes "type") (address_of f.kind) ∷ []) (head_kids f.head ++ (ds ++ all_kids page_element (own_page g ∷ []))) refl inside.attrs
        (both_fit 254 (head_kids f.head) (ds ++ all_kids page_element (own_page g ∷ [])) (head_fits 254 f.head in_net.0)
        (both_fit 254 ds (all_kids page_element (own_page g ∷ [])) (elements_fit 254 (map declaration_label (in_one f.declarations)) (fit_each 254 (map declaration_label (in_one f.declarations)) in_net.1)) (one_fits 254 (page_element (own_page g)) new_page)))));
    prefixes = w.prefixes;
  }
