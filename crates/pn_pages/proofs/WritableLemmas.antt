-- The flat net of a net that can be written can be written.
use Rattle.std.proofs.Common.{◌≡◌, ◌⊎◌, inl, inr, ℕ, zero, suc, ◌<◌, ◌≤◌, true, ◌&&◌, List, [], ◌∷◌, ◌++◌, map, codes, Option, Some, None, refl, sym, ap, ◌∙◌, subst, arith}
use Rattle.std.specs.List.{AllZip, Contains, flat_map, list_all, slice_get}
use Rattle.std.specs.Option.{option_map}
use Rattle.std.proofs.lemmas.List.Elements.{Contains-append_cases}
use Rattle.pn_facts.proofs.Contained.{contains_at, contains_cases, contains_first, contains_next, contains_nil, contains_some_of}
use Rattle.pn_facts.proofs.Truths.{and_both, and_left, and_right}
use Rattle.pn_text.specs.Characters.{is_text}
use Rattle.pn_tree.specs.Elements.{is_element, is_kid}
use Rattle.pn_tree.specs.declared.element.Child.{Child}
use Rattle.pn_tree.specs.declared.element.Child.TheVariants as children
use Rattle.pn_tree.specs.declared.element.Element.{Element}
use Rattle.pn_tree.proofs.ElementLemmas.{is_kid-element}
use Rattle.pn_tree.proofs.TreeLemmas.{Parts, is_element_more, not_element-zero, of_parts, parts_of}
use Rattle.pn_shape.specs.Numbers.{address_of}
use Rattle.pn_syntax.specs.declared.declaration.Declaration.{Declaration}
use Rattle.pn_objects.specs.declared.label.Head.{Head}
use Rattle.pn_objects.specs.declared.label.Label.{Label}
use Rattle.pn_objects.specs.declared.net.Net.{Net}
use Rattle.pn_objects.specs.declared.net.Page.{Page}
use Rattle.pn_objects.specs.declared.net.Page.TheOpen as layer
use Rattle.pn_objects.specs.declared.net.Page.TheViews.{out-Page, out-roll-Page}
use Rattle.pn_objects.specs.declared.object.Arc.{Arc}
use Rattle.pn_objects.specs.declared.object.Place.{Place}
use Rattle.pn_objects.specs.declared.object.Transition.{Transition}
use Rattle.pn_spelling.specs.Writable.{IsWritable}
use Rattle.pn_spelling.specs.WriteDeclarations.{declaration_element, declarations_element}
use Rattle.pn_spelling.specs.WriteNets.{arc_element, declaration_label, head_kids, id_attr, kids_of, name_element, net_element, own_kids, page_element, place_element, reference_element, root_attrs, transition_element, tree_of_net}
use Rattle.pn_spelling.specs.Writing.{all_kids, attribute, enclosing, made, text_element}
use Rattle.pn_spelling.proofs.WriteLemmas.{page_made}
use Rattle.pn_round_trip.proofs.WritableParts.{AllFit, around_fits, both_fit, first_fits, made_fits, one_fits}
use Rattle.pn_net.specs.Ends.{End, id_at}
use Rattle.pn_net.specs.Ends as ends
use Rattle.pn_net.specs.Flattening.{IsFlattened, IsRewired, in_one, page_of_objects}
use Rattle.pn_net.specs.Objects.{declared_by, in_page, net_arcs, net_declarations, net_places, net_transitions}
use Rattle.pn_pages.proofs.GatherLemmas.{own_layer, page_law}

-- ---- more levels

abbrev KidsFit : ℕ → List Child → Type 0
KidsFit n ks = list_all (is_kid (is_element n)) ks ≡ true

-- ---- kids

split_kids : (n : ℕ) (xs ys : List Child) → KidsFit n (xs ++ ys) → KidsFit n xs × KidsFit n ys
split_kids n [] ys h = (refl, h)
split_kids n (x ∷ xs) ys h =
    let rest = split_kids n xs ys (and_right (is_kid (is_element n) x) (list_all (is_kid (is_element n)) (xs ++ ys)) h) in
    (and_both (is_kid (is_element n) x) (list_all (is_kid (is_element n)) xs) (and_left (is_kid (is_element n) x) (list_all (is_kid (is_element n)) (xs ++ ys)) h) rest.0, rest.1)

first_kid : (n : ℕ) (e : Element) (ks : List Child) → KidsFit n (children.Element e ∷ ks) → (is_element n e ≡ true) × KidsFit n ks
first_kid n e ks h = (
  sym (is_kid-element (is_element n) e) ∙ and_left (is_kid (is_element n) (children.Element e)) (list_all (is_kid (is_element n)) ks) h,
  and_right (is_kid (is_element n) (children.Element e)) (list_all (is_kid (is_element n)) ks) h,
)

element_kids : (n : ℕ) (es : List Element) → KidsFit n (map children.Element es) → AllFit n (map children.Element es)
element_kids n [] h = refl
element_kids n (e ∷ es) h = let it = first_kid n e (map children.Element es) h in first_fits n e (map children.Element es) it.0 (element_kids n es it.1)

head_all : (n : ℕ) (h : Head) → KidsFit n (head_kids h) → AllFit n (head_kids h)
head_all n h fits =
    let both = split_kids n (kids_of name_element h.name) (map children.Element h.opaque) fits in
    both_fit n (kids_of name_element h.name) (map children.Element h.opaque) (named h.name both.0) (element_kids n h.opaque both.1)
  where
    named : (o : Option (Label (Unit {0}))) → KidsFit n (kids_of name_element o) → AllFit n (kids_of name_element o)
    named None fit = refl
    named (Some l) fit = one_fits n (name_element l) (first_kid n (name_element l) [] fit).0

items_have : {A : Type 0} (n : ℕ) (spell : A → Element) (xs : List A) → KidsFit n (all_kids spell xs) → (x : A) → Contains xs x → is_element n (spell x) ≡ true
items_have n spell [] h x c = absurd (contains_nil x c)
items_have n spell (y ∷ ys) h x c = let it = first_kid n (spell y) (all_kids spell ys) h in step (contains_cases y ys x c) it.0 (items_have n spell ys it.1 x)
  where
    step : (y ≡ x) ⊎ Contains ys x → is_element n (spell y) ≡ true → (Contains ys x → is_element n (spell x) ≡ true) → is_element n (spell x) ≡ true
    step (inl same) own more = subst (λ z. is_element n (spell z) ≡ true) same own
    step (inr there) own more = more there

items_fit : {A : Type 0} (n : ℕ) (spell : A → Element) (xs : List A) → ((x : A) → Contains xs x → is_element n (spell x) ≡ true) → AllFit n (all_kids spell xs)
items_fit n spell [] fit = refl
items_fit n spell (x ∷ xs) fit = first_fits n (spell x) (all_kids spell xs) (fit x (contains_first x xs)) (items_fit n spell xs (λ y c. fit y (contains_next x xs y c)))

-- ---- what stands in pages

page_kids : (n : ℕ) (p : Page) → is_element (suc n) (page_element p) ≡ true → KidsFit n (own_kids (out-Page p)) × KidsFit n (all_kids page_element (out-Page p).pages)
page_kids n p fits =
    split_kids n (own_kids (out-Page p)) (all_kids page_element (out-Page p).pages)
    (parts_of n (made (codes "page") (id_attr (out-Page p).id ∷ []) (own_kids (out-Page p) ++ all_kids page_element (out-Page p).pages)) (sym (ap (is_element (suc n)) (page_made p)) ∙ fits)).kids

module _ {A : Type 0} (own : layer.Page-F (List A) → List A) (spell : A → Element) (top most : ℕ)
    (pick : (n : ℕ) (p : Page) → n ≤ top → KidsFit n (own_kids (out-Page p)) → (x : A) → Contains (own (own_layer own p)) x → is_element most (spell x) ≡ true) where
  in_one_page : (n : ℕ) (p : Page) → n ≤ suc top → is_element n (page_element p) ≡ true → (x : A) → Contains (in_page own p) x → is_element most (spell x) ≡ true
  in_one_page zero p le fits x c = absurd (not_element-zero (page_element p) fits)
  in_one_page (suc n) p le fits x c =
      step (Contains-append_cases (own (own_layer own p)) (flat_map (in_page own) (out-Page p).pages) x (subst (λ xs. Contains xs x) (page_law own p) c)) (λ q fit d. in_one_page n q (omega (arith, le)) fit x d)
    where
      step : Contains (own (own_layer own p)) x ⊎ Contains (flat_map (in_page own) (out-Page p).pages) x → ((q : Page) → is_element n (page_element q) ≡ true → Contains (in_page own q) x → is_element most (spell x) ≡ true)
          → is_element most (spell x) ≡ true
      step (inl there) more = pick n p (omega (arith, le)) (page_kids n p fits).0 x there
      step (inr below) more =
          let page = contains_some_of (in_page own) (out-Page p).pages x below in
          more page.0 (items_have n page_element (out-Page p).pages (page_kids n p fits).1 page.0 page.1) page.2

  in_all_pages : (ps : List Page) → KidsFit (suc top) (all_kids page_element ps) → (x : A) → Contains (flat_map (in_page own) ps) x → is_element most (spell x) ≡ true
  in_all_pages ps fits x c =
      let page = contains_some_of (in_page own) ps x c in
      in_one_page (suc top) page.0 (omega arith) (items_have (suc top) page_element ps fits page.0 page.1) x page.2

-- what stands on a page itself, kind by kind
record OwnFit (n : ℕ) (p : Page) : Type 0 where
  head : KidsFit n (head_kids (out-Page p).head)
  declarations : KidsFit n (all_kids declaration_label (out-Page p).declarations)
  places : KidsFit n (all_kids place_element (out-Page p).places)
  transitions : KidsFit n (all_kids transition_element (out-Page p).transitions)
  arcs : KidsFit n (all_kids arc_element (out-Page p).arcs)

own_fit : (n : ℕ) (p : Page) → KidsFit n (own_kids (out-Page p)) → OwnFit n p
own_fit n p fits =
    let l = out-Page p in
    let ds = all_kids declaration_label l.declarations in
    let ps = all_kids place_element l.places in
    let ts = all_kids transition_element l.transitions in
    let rs = all_kids (reference_element (codes "referencePlace")) l.place_refs in
    let us = all_kids (reference_element (codes "referenceTransition")) l.transition_refs in
    let xs = all_kids arc_element l.arcs in
    let a = split_kids n (head_kids l.head) (ds ++ (ps ++ (ts ++ (rs ++ (us ++ xs))))) fits in
    let b = split_kids n ds (ps ++ (ts ++ (rs ++ (us ++ xs)))) a.1 in
    let c = split_kids n ps (ts ++ (rs ++ (us ++ xs))) b.1 in
    let d = split_kids n ts (rs ++ (us ++ xs)) c.1 in
    let e = split_kids n rs (us ++ xs) d.1 in
    let f = split_kids n us xs e.1 in
    record { head = a.0; declarations = b.0; places = c.0; transitions = d.0; arcs = f.1 }

-- ---- declarations

-- each declaration in a label fits, three levels down
declared_fit : (n : ℕ) (l : Label (List Declaration)) → is_element (suc (suc (suc n))) (declaration_label l) ≡ true → (d : Declaration) → Contains l.value d → is_element n (declaration_element d) ≡ true
declared_fit n l fits d c =
    let kids = parts_of (suc (suc n)) (declaration_label l) fits in
    let behind = split_kids (suc (suc n)) (kids_of text_element l.text) (children.Element (enclosing (codes "structure") (declarations_element l.value)) ∷ map children.Element l.opaque) kids.kids in
    let structure = first_kid (suc (suc n)) (enclosing (codes "structure") (declarations_element l.value)) (map children.Element l.opaque) behind.1 in
    let inner = parts_of (suc n) (enclosing (codes "structure") (declarations_element l.value)) structure.0 in
    let all = first_kid (suc n) (declarations_element l.value) [] inner.kids in
    items_have n declaration_element l.value (parts_of n (declarations_element l.value) all.0).kids d c

by_levels : (n : ℕ) (l : Label (List Declaration)) → is_element n (declaration_label l) ≡ true → (most : ℕ) → n ≤ suc (suc (suc most)) → (d : Declaration) → Contains l.value d → is_element most (declaration_element d) ≡ true
by_levels n l fits most le d c = declared_fit most l (is_element_more n (suc (suc (suc most))) (declaration_label l) le fits) d c

labels_fit : (n most : ℕ) (ls : List (Label (List Declaration))) → n ≤ suc (suc (suc most)) → KidsFit n (all_kids declaration_label ls) → (d : Declaration) → Contains (declared_by ls) d → is_element most (declaration_element d) ≡ true
labels_fit n most ls le fits d c =
    let label = contains_some_of (λ (l : Label (List Declaration)). l.value) ls d c in
    by_levels n label.0 (items_have n declaration_label ls fits label.0 label.1) most le d label.2

one_label_fits : (n : ℕ) (ds : List Declaration) → ((d : Declaration) → Contains ds d → is_element n (declaration_element d) ≡ true) → AllFit (suc (suc (suc n))) (all_kids declaration_label (in_one ds))
one_label_fits n [] fit = refl
one_label_fits n (d ∷ ds) fit =
    let l : Label (List Declaration) = record { value = d ∷ ds; text = None; opaque = []; at = 0 } in
    let inner = declarations_element (d ∷ ds) in
    one_fits (suc (suc (suc n))) (declaration_label l)
    (made_fits (suc (suc n)) (codes "declaration") [] (children.Element (enclosing (codes "structure") inner) ∷ []) refl refl
    (one_fits (suc (suc n)) (enclosing (codes "structure") inner)
    (around_fits (suc n) (codes "structure") inner refl (made_fits n (codes "declarations") [] (all_kids declaration_element (d ∷ ds)) refl refl (items_fit n declaration_element (d ∷ ds) fit)))))

-- ---- arcs

place_text : (n : ℕ) (p : Place) → is_element (suc n) (place_element p) ≡ true → is_text p.id ≡ true
place_text n p fits = and_left (is_text p.id) true (parts_of n (place_element p) fits).attrs

transition_text : (n : ℕ) (t : Transition) → is_element (suc n) (transition_element t) ≡ true → is_text t.id ≡ true
transition_text n t fits = and_left (is_text t.id) true (parts_of n (transition_element t) fits).attrs

arc_again : (n : ℕ) (a : Arc) (source target : List ℕ) → is_element (suc n) (arc_element a) ≡ true → is_text source ≡ true → is_text target ≡ true → is_element (suc n) (arc_element (record a { source = source; target = target })) ≡ true
arc_again n a source target fits from to =
    let p = parts_of n (arc_element a) fits in
    of_parts n (arc_element (record a { source = source; target = target })) (record {
      name = p.name;
      attrs = and_both (is_text a.id) (is_text source && (is_text target && true)) (and_left (is_text a.id) (is_text a.source && (is_text a.target && true)) p.attrs)
          (and_both (is_text source) (is_text target && true) from (and_both (is_text target) true to refl));
      apart = p.apart;
      kids = p.kids;
    })

module _ (n m : Net) (is : IsFlattened n m) (w : IsWritable n) where
  root_parts : Parts 255 (tree_of_net n)
  root_parts = parts_of 255 (tree_of_net n) w.tree

  net_parts : Parts 254 (net_element n)
  net_parts = parts_of 254 (net_element n) (first_kid 255 (net_element n) [] root_parts.kids).0

  split_net : KidsFit 254 (head_kids n.head) × KidsFit 254 (all_kids declaration_label n.declarations) × KidsFit 254 (all_kids page_element n.pages)
  split_net =
      let a = split_kids 254 (head_kids n.head) (all_kids declaration_label n.declarations ++ all_kids page_element n.pages) net_parts.kids in
      let b = split_kids 254 (all_kids declaration_label n.declarations) (all_kids page_element n.pages) a.1 in
      (a.0, b.0, b.1)

  places_fit : (p : Place) → Contains (net_places n) p → is_element 253 (place_element p) ≡ true
  places_fit = in_all_pages (λ l. l.places) place_element 253 253 (λ k p le fit x c. is_element_more k 253 (place_element x) le (items_have k place_element (out-Page p).places (own_fit k p fit).places x c)) n.pages split_net.2

  transitions_fit : (t : Transition) → Contains (net_transitions n) t → is_element 253 (transition_element t) ≡ true
  transitions_fit = in_all_pages (λ l. l.transitions) transition_element 253 253 (λ k p le fit x c. is_element_more k 253 (transition_element x) le (items_have k transition_element (out-Page p).transitions (own_fit k p fit).transitions x c)) n.pages split_net.2

  arcs_fit : (a : Arc) → Contains (net_arcs n) a → is_element 253 (arc_element a) ≡ true
  arcs_fit = in_all_pages (λ l. l.arcs) arc_element 253 253 (λ k p le fit x c. is_element_more k 253 (arc_element x) le (items_have k arc_element (out-Page p).arcs (own_fit k p fit).arcs x c)) n.pages split_net.2

  declarations_fit : (d : Declaration) → Contains (net_declarations n) d → is_element 251 (declaration_element d) ≡ true
  declarations_fit d c = step (Contains-append_cases (declared_by n.declarations) (flat_map (in_page (λ p. declared_by p.declarations)) n.pages) d c)
    where
      step : Contains (declared_by n.declarations) d ⊎ Contains (flat_map (in_page (λ p. declared_by p.declarations)) n.pages) d → is_element 251 (declaration_element d) ≡ true
      step (inl top) = labels_fit 254 251 n.declarations (omega arith) split_net.1 d top
      step (inr below) = in_all_pages (λ p. declared_by p.declarations) declaration_element 253 251
          (λ k p le fit x there. labels_fit k 251 (out-Page p).declarations (omega (arith, le)) (own_fit k p fit).declarations x there) n.pages split_net.2 d below

  -- what is reached has an id that is a text
  reached_text : (end : End) (id : List ℕ) → id_at n end ≡ Some id → is_text id ≡ true
  reached_text (ends.place i) id is_id = step (slice_get (net_places n) i) refl is_id
    where
      step : (o : Option Place) → slice_get (net_places n) i ≡ o → option_map (λ (p : Place). p.id) o ≡ Some id → is_text id ≡ true
      step None at same = absurd (cc (sym same))
      step (Some p) at same = let own : p.id ≡ id = cc in subst (λ t. is_text t ≡ true) own (place_text 252 p (places_fit p (contains_at (net_places n) i p at)))
  reached_text (ends.transition i) id is_id = step (slice_get (net_transitions n) i) refl is_id
    where
      step : (o : Option Transition) → slice_get (net_transitions n) i ≡ o → option_map (λ (t : Transition). t.id) o ≡ Some id → is_text id ≡ true
      step None at same = absurd (cc (sym same))
      step (Some t) at same = let own : t.id ≡ id = cc in subst (λ u. is_text u ≡ true) own (transition_text 252 t (transitions_fit t (contains_at (net_transitions n) i t at)))

  rewired_fits : (a b : Arc) → is_element 253 (arc_element a) ≡ true → IsRewired n a b → is_element 253 (arc_element b) ≡ true
  rewired_fits a b fits r =
      subst (λ x. is_element 253 (arc_element x) ≡ true) (sym r.is) (arc_again 252 a r.source r.target fits (reached_text r.from.0 r.source r.from.2) (reached_text r.to.0 r.target r.to.2))

  all_rewired : (xs ys : List Arc) → AllZip (IsRewired n) xs ys → ((a : Arc) → Contains xs a → is_element 253 (arc_element a) ≡ true) → AllFit 253 (all_kids arc_element ys)
  all_rewired [] [] have fits = refl
  all_rewired [] (y ∷ ys) have fits = absurd have
  all_rewired (x ∷ xs) [] have fits = absurd have
  all_rewired (x ∷ xs) (y ∷ ys) have fits =
      first_fits 253 (arc_element y) (all_kids arc_element ys) (rewired_fits x y (fits x (contains_first x xs)) have.0) (all_rewired xs ys have.1 (λ a c. fits a (contains_next x xs a c)))

  page_there : is_element 254 (page_element is.page) ≡ true
  page_there = items_have 254 page_element n.pages split_net.2 is.page (contains_at n.pages 0 is.page is.is_first)

  flat_page : Page
  flat_page = page_of_objects (out-Page is.page).id (out-Page is.page).head (net_places n) (net_transitions n) is.arcs

  flat_page_fits : is_element 254 (page_element flat_page) ≡ true
  unfolding flat_page
  flat_page_fits =
      let id = (out-Page is.page).id in
      let head = (out-Page is.page).head in
      let whole = parts_of 253 (made (codes "page") (id_attr id ∷ []) (own_kids (out-Page is.page) ++ all_kids page_element (out-Page is.page).pages)) (sym (ap (is_element 254) (page_made is.page)) ∙ page_there) in
      let ps = all_kids place_element (net_places n) in
      let ts = all_kids transition_element (net_transitions n) in
      let xs = all_kids arc_element is.arcs in
      ap (is_element 254) (page_made flat_page)
      ∙ ap (λ l. is_element 254 (made (codes "page") (id_attr l.id ∷ []) (own_kids l ++ all_kids page_element l.pages))) (out-roll-Page _)
      ∙ made_fits 253 (codes "page") (id_attr id ∷ []) ((head_kids head ++ (ps ++ (ts ++ xs))) ++ []) refl whole.attrs
      (both_fit 253 (head_kids head ++ (ps ++ (ts ++ xs))) []
      (both_fit 253 (head_kids head) (ps ++ (ts ++ xs)) (head_all 253 head (own_fit 253 is.page (page_kids 253 is.page page_there).0).head)
      (both_fit 253 ps (ts ++ xs) (items_fit 253 place_element (net_places n) places_fit)
      (both_fit 253 ts xs (items_fit 253 transition_element (net_transitions n) transitions_fit) (all_rewired (net_arcs n) is.arcs is.rewired arcs_fit)))) refl)

  on_one : Net
  on_one = record {
    id = n.id;
    kind = n.kind;
    prefixes = n.prefixes;
    head = n.head;
    declarations = in_one (net_declarations n);
    pages = flat_page ∷ [];
    at = 0;
  }

  one_is_writable : IsWritable on_one
  unfolding on_one flat_page
  one_is_writable =
      let ds = all_kids declaration_label (in_one (net_declarations n)) in
      let pages = all_kids page_element (flat_page ∷ []) in
      record {
        tree = made_fits 255 (codes "pnml") (root_attrs n.prefixes) (children.Element (net_element on_one) ∷ []) refl root_parts.attrs
            (one_fits 255 (net_element on_one)
            (made_fits 254 (codes "net") (id_attr n.id ∷ attribute (codes "type") (address_of n.kind) ∷ []) (head_kids n.head ++ (ds ++ pages)) refl net_parts.attrs
            (both_fit 254 (head_kids n.head) (ds ++ pages) (head_all 254 n.head split_net.0)
            (both_fit 254 ds pages (one_label_fits 251 (net_declarations n) declarations_fit) (one_fits 254 (page_element flat_page) flat_page_fits)))));
        prefixes = w.prefixes;
      }

  pub flat_is_writable : IsWritable m
  unfolding on_one flat_page
  flat_is_writable = subst IsWritable (sym is.is) one_is_writable
