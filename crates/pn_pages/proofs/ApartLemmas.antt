-- Where the offsets of a tree rise, no two elements with ids in the net that it spells have one id and one offset.
use Rattle.std.proofs.Common.{◌≡◌, ◌⊎◌, inl, inr, ℕ, zero, suc, ◌<◌, Bool, true, false, cond, List, [], ◌∷◌, ◌++◌, append-nil, map, codes, Some, refl, sym, ap, ◌∙◌, subst, arith}
use Rattle.std.specs.List.{Contains, cons_option, filter, find, flat_map, slice_get}
use Rattle.std.specs.Option.{option_map, unwrap_or}
use Rattle.std.specs.Str.{bytes_eq}
use Rattle.std.proofs.lemmas.List.Elements.{Contains-append_cases}
use Rattle.std.proofs.lemmas.Slice.Eq.{bytes_eq-Decides}
use Rattle.pn_facts.proofs.Contained.{contains_all_of, contains_cases, contains_first, contains_next, contains_nil, contains_one, contains_some_of}
use Rattle.pn_faults.specs.Rising.{Rise}
use Rattle.pn_faults.proofs.RisingLemmas.{IsWithin, inside, itself, of_one, one_place, place_offset, rise_one, rise_rest}
use Rattle.pn_markup.specs.Offsets.{AreRising, HasRisingOffsets, kid_offsets, offsets_of}
use Rattle.pn_markup.proofs.OffsetLemmas.{kid_offsets-element, kid_offsets-text, offsets_are}
use Rattle.pn_names.specs.Names.{at_of, constants_of, id_of}
use Rattle.pn_net.specs.Ids.{IdHolder, Role, arc_holder, constant_holder, constants_in, declaration_holders, element_holder, holder, holders_of, page_holder, place_holder, place_reference_holder, transition_holder, transition_reference_holder}
use Rattle.pn_net.specs.Ids as roles
use Rattle.pn_net.specs.Objects.{declared_by, in_page, net_arcs, net_declarations, net_place_references, net_places, net_transition_references, net_transitions}
use Rattle.pn_objects.specs.declared.label.Label.{Label}
use Rattle.pn_objects.specs.declared.net.Net.{Net}
use Rattle.pn_objects.specs.declared.net.Page.{Page}
use Rattle.pn_objects.specs.declared.net.Page.TheOpen as layer
use Rattle.pn_objects.specs.declared.net.Page.TheViews.{out-roll-Page}
use Rattle.pn_objects.specs.declared.net.Prefix.{Prefix}
use Rattle.pn_resolve.specs.Standing.{elements_of}
use Rattle.pn_spelling.specs.Parts.{attribute_of, child_elements, children_named, element_in_layer, elements_among, has_name}
use Rattle.pn_spelling.specs.ReadDeclarations.{body_in, body_of, constant_read, declaration_read, named_read, part_read, partition_read, variable_read}
use Rattle.pn_spelling.specs.ReadSorts.{no_sort, sort_read}
use Rattle.pn_spelling.specs.ReadNets.{arc_read, child_or_self, declarations_label, net_of, net_read, page_read, page_with, page_within, place_read, prefixes_read, reference_read, structured, transition_read}
use Rattle.pn_syntax.specs.declared.declaration.Declaration.{Declaration}
use Rattle.pn_syntax.specs.declared.declaration.SortBody.TheVariants as bodies
use Rattle.pn_tree.specs.Depth.{depth_of}
use Rattle.pn_tree.specs.declared.element.Child.{Child}
use Rattle.pn_tree.specs.declared.element.Child.TheOpen as kid
use Rattle.pn_tree.specs.declared.element.Child.TheVariants.{rolls-Element, rolls-Text}
use Rattle.pn_tree.specs.declared.element.Child.TheViews.{out-Child, roll-Child, roll-out-Child}
use Rattle.pn_tree.specs.declared.element.Element.{Element}
use Rattle.pn_pages.specs.Linking.{AreApart}
use Rattle.pn_pages.proofs.GatherLemmas.{own_layer, page_law}

-- ---- lists

mapped : {X Y : Type 0} (f : X → Y) (xs : List X) (y : Y) → Contains (map f xs) y → (x : X) × Contains xs x × (y ≡ f x)
mapped f [] y c = absurd (contains_nil y c)
mapped f (x ∷ xs) y c = step (contains_cases (f x) (map f xs) y c) (mapped f xs y)
  where
    step : (f x ≡ y) ⊎ Contains (map f xs) y → (Contains (map f xs) y → (z : _) × Contains xs z × (y ≡ f z)) → (z : _) × Contains (x ∷ xs) z × (y ≡ f z)
    step (inl same) more = (x, contains_first x xs, sym same)
    step (inr there) more = let it = more there in (it.0, contains_next x xs it.0 it.1, it.2)

filtered : {X : Type 0} (p : X → Bool) (xs : List X) (x : X) → Contains (filter p xs) x → Contains xs x × (p x ≡ true)
filtered p [] x c = absurd (contains_nil x c)
filtered p (y ∷ ys) x c = by (p y) refl c (filtered p ys x)
  where
    behind : Contains ys x × (p x ≡ true) → Contains (y ∷ ys) x × (p x ≡ true)
    behind (there, passes) = (contains_next y ys x there, passes)

    first : p y ≡ true → (y ≡ x) ⊎ Contains (filter p ys) x → (Contains (filter p ys) x → Contains ys x × (p x ≡ true)) → Contains (y ∷ ys) x × (p x ≡ true)
    first passes (inl same) more = (subst (Contains (y ∷ ys)) same (contains_first y ys), ap p (sym same) ∙ passes)
    first passes (inr there) more = behind (more there)

    by : (b : Bool) → p y ≡ b → Contains (cond b (y ∷ filter p ys) (filter p ys)) x → (Contains (filter p ys) x → Contains ys x × (p x ≡ true)) → Contains (y ∷ ys) x × (p x ≡ true)
    by true passes there more = first passes (contains_cases y (filter p ys) x there) more
    by false fails there more = behind (more there)

-- what is found is there, or else stands in its place
found_or : {X : Type 0} (p : X → Bool) (xs : List X) (d : X) → (unwrap_or (find p xs) d ≡ d) ⊎ (Contains xs (unwrap_or (find p xs) d) × (p (unwrap_or (find p xs) d) ≡ true))
found_or p [] d = inl refl
found_or p (x ∷ xs) d = by (p x) refl (found_or p xs d)
  where
    by : (b : Bool) → p x ≡ b → (unwrap_or (find p xs) d ≡ d) ⊎ (Contains xs (unwrap_or (find p xs) d) × (p (unwrap_or (find p xs) d) ≡ true))
        → (unwrap_or (cond b (Some x) (find p xs)) d ≡ d) ⊎ (Contains (x ∷ xs) (unwrap_or (cond b (Some x) (find p xs)) d) × (p (unwrap_or (cond b (Some x) (find p xs)) d) ≡ true))
    by true passes more = inr (contains_first x xs, passes)
    by false fails (inl none) = inl none
    by false fails (inr (there, passes)) = inr (contains_next x xs (unwrap_or (find p xs) d) there, passes)

-- ---- offsets

rising_above : (n : ℕ) (ns : List ℕ) → AreRising (n ∷ ns) → (m : ℕ) → Contains ns m → n < m
rising_above n [] rises m c = absurd (contains_nil m c)
rising_above n (k ∷ ks) (less, rises) m c = step (contains_cases k ks m c) (rising_above k ks rises m)
  where
    step : (k ≡ m) ⊎ Contains ks m → (Contains ks m → k < m) → n < m
    step (inl same) more = omega (arith, less, same)
    step (inr there) more = omega (arith, less, more there)

pub rise_of : (ns : List ℕ) → AreRising ns → Rise ns
rise_of [] rises = tt
rise_of (n ∷ []) rises = (λ m c. absurd (contains_nil m c), tt)
rise_of (n ∷ m ∷ ns) rises = (rising_above n (m ∷ ns) rises, rise_of (m ∷ ns) rises.1)

kid_law : (k : Child) (l : kid.Child-F Child Element) → out-Child k ≡ l → (rest : List Element) → flat_map offsets_of (cons_option (element_in_layer l) rest) ≡ kid_offsets k ++ flat_map offsets_of rest
kid_law k (kid.Element e) is rest = ap (λ ns. ns ++ flat_map offsets_of rest) (sym (ap kid_offsets (sym (roll-out-Child k) ∙ ap roll-Child is ∙ rolls-Element e) ∙ kid_offsets-element e))
kid_law k (kid.Text t) is rest = ap (λ ns. ns ++ flat_map offsets_of rest) (sym (ap kid_offsets (sym (roll-out-Child k) ∙ ap roll-Child is ∙ rolls-Text t) ∙ kid_offsets-text t))

kids_law : (ks : List Child) → flat_map offsets_of (elements_among ks) ≡ flat_map kid_offsets ks
kids_law [] = refl
kids_law (k ∷ ks) = kid_law k (out-Child k) refl (elements_among ks) ∙ ap (λ ns. kid_offsets k ++ ns) (kids_law ks)

pub offsets_law : (e : Element) → offsets_of e ≡ e.at ∷ flat_map offsets_of (child_elements e)
offsets_law e = offsets_are e ∙ ap (λ ns. e.at ∷ ns) (sym (kids_law e.kids))

abbrev Rises : Element → Type 0
Rises e = Rise (offsets_of e)

rises_in : (e : Element) → Rises e → Rise (flat_map offsets_of (child_elements e))
rises_in e rises = rise_rest (e.at ∷ []) (flat_map offsets_of (child_elements e)) (subst Rise (offsets_law e) rises)

rises_kid : (e k : Element) → Rises e → Contains (child_elements e) k → Rises k
rises_kid e k rises c = rise_one offsets_of (child_elements e) k c (rises_in e rises)

pub offset_in : (e x : Element) → IsWithin child_elements e x → Contains (offsets_of e) x.at
offset_in e x within = place_offset (λ (z : Element). z.at) child_elements offsets_of offsets_law e x within

-- ---- where elements stand

-- in a page, where the pages between are pages of pages
data InPages : Element → Element → Type 0 where
  on_page : (e x : Element) → Contains (child_elements e) x → InPages e x
  on_subpage : (e x p : Element) → Contains (child_elements e) p → has_name (codes "page") p ≡ true → InPages p x → InPages e x

-- in an element, and not that element
IsBelow : Element → Element → Type 0
IsBelow e x = (p : Element) × Contains (child_elements e) p × IsWithin child_elements p x

within_pages : (e x : Element) → InPages e x → IsBelow e x
unfolding IsBelow
within_pages e x (on_page _ _ c) = (x, c, itself x x refl)
within_pages e x (on_subpage _ _ p c named rest) = (p, c, step (within_pages p x rest))
  where
    step : (q : Element) × Contains (child_elements p) q × IsWithin child_elements q x → IsWithin child_elements p x
    step (q, d, within) = inside p x q d within

within_below : (e x : Element) → IsBelow e x → IsWithin child_elements e x
unfolding IsBelow
within_below e x (p, c, within) = inside e x p c within

within_more : (e x y : Element) → IsWithin child_elements e x → IsWithin child_elements x y → IsWithin child_elements e y
within_more e x y (itself _ _ same) more = subst (λ z. IsWithin child_elements z y) same more
within_more e x y (inside _ _ p c rest) more = inside e y p c (within_more p x y rest more)

-- in a kid of an element within
below_kid : (e x k y : Element) → IsWithin child_elements e x → Contains (child_elements x) k → IsWithin child_elements k y → IsBelow e y
unfolding IsBelow
below_kid e x k y (itself _ _ same) c more = (k, subst (λ z. Contains (child_elements z) k) same c, more)
below_kid e x k y (inside _ _ p d rest) c more = (p, d, within_more p x y rest (inside x y k c more))

below_pages : (e d y : Element) → InPages e d → IsBelow d y → IsBelow e y
unfolding IsBelow
below_pages e d y way (k, c, more) = below_kid e d k y (within_below e d (within_pages e d way)) c more

kid_of_page : (e p x : Element) → InPages e p → has_name (codes "page") p ≡ true → Contains (child_elements p) x → InPages e x
kid_of_page e p x (on_page _ _ c) named d = on_subpage e x p c named (on_page p x d)
kid_of_page e p x (on_subpage _ _ q c name rest) named d = on_subpage e x q c name (kid_of_page q p x rest named d)

-- what is below an element has another offset
not_below : (e x : Element) → Rises e → IsBelow e x → e.at ≡ x.at → ⊥
unfolding IsBelow
not_below e x rises (p, c, within) same =
    let above : e.at < x.at = (subst Rise (offsets_law e) rises).0 x.at (contains_all_of offsets_of (child_elements e) p x.at c (offset_in p x within)) in
    omega (arith, above, same)

same_kid : (e k l : Element) (n : ℕ) → Rises e → Contains (child_elements e) k → Contains (child_elements e) l → Contains (offsets_of k) n → Contains (offsets_of l) n → k ≡ l
same_kid e k l n rises c d a b = of_one offsets_of (child_elements e) (rises_in e rises) k l n c d a b

-- an object of a page is nothing in a declaration
apart_ways : (e x d y : Element) → Rises e → InPages e x → InPages e d → has_name (codes "declaration") d ≡ true → IsBelow d y → x.at ≡ y.at → ⊥
apart_ways e x d y rises (on_page _ _ c) (on_page _ _ k) named below same =
    let at : Contains (offsets_of d) x.at = subst (Contains (offsets_of d)) (sym same) (offset_in d y (within_below d y below)) in
    let is : x ≡ d = same_kid e x d x.at rises c k (offset_in x x (itself x x refl)) at in
    not_below d y (rises_kid e d rises k) below (sym (ap (λ (z : Element). z.at) is) ∙ same)
apart_ways e x d y rises (on_page _ _ c) (on_subpage _ _ p k name rest) named below same =
    let under : IsBelow p y = below_pages p d y rest below in
    let at : Contains (offsets_of p) x.at = subst (Contains (offsets_of p)) (sym same) (offset_in p y (within_below p y under)) in
    let is : x ≡ p = same_kid e x p x.at rises c k (offset_in x x (itself x x refl)) at in
    not_below p y (rises_kid e p rises k) under (sym (ap (λ (z : Element). z.at) is) ∙ same)
apart_ways e x d y rises (on_subpage _ _ p c name rest) (on_page _ _ k) named below same =
    let at : Contains (offsets_of d) x.at = subst (Contains (offsets_of d)) (sym same) (offset_in d y (within_below d y below)) in
    let is : p ≡ d = same_kid e p d x.at rises c k (offset_in p x (within_below p x (within_pages p x rest))) at in
    let page : d.name ≡ codes "page" = ap (λ (z : Element). z.name) (sym is) ∙ (bytes_eq-Decides p.name (codes "page")).0 name in
    let bad : bytes_eq (codes "page") (codes "declaration") ≡ true = ap (λ n. bytes_eq n (codes "declaration")) (sym page) ∙ named in
    let worse : false ≡ true = bad in cc
apart_ways e x d y rises (on_subpage _ _ p c name rest) (on_subpage _ _ q k also others) named below same =
    let under : IsBelow q y = below_pages q d y others below in
    let at : Contains (offsets_of q) x.at = subst (Contains (offsets_of q)) (sym same) (offset_in q y (within_below q y under)) in
    let is : p ≡ q = same_kid e p q x.at rises c k (offset_in p x (within_below p x (within_pages p x rest))) at in
    apart_ways p x d y (rises_kid e p rises c) rest (subst (λ z. InPages z d) (sym is) others) named below same

-- ---- elements with ids

-- what an object is to arcs and references, by its name
role_by : List ℕ → Element → Role
role_by name e =
    cond (bytes_eq name (codes "place")) roles.place (cond (bytes_eq name (codes "transition")) roles.transition
    (cond (bytes_eq name (codes "referencePlace")) (roles.place_reference (attribute_of (codes "ref") e))
    (cond (bytes_eq name (codes "referenceTransition")) (roles.transition_reference (attribute_of (codes "ref") e)) roles.other)))

held : Element → Role → IdHolder
held e role = holder (attribute_of (codes "id") e) e.at role

IsObject : Element → IdHolder → Type 0
IsObject e h = (x : Element) × InPages e x × (h ≡ held x (role_by x.name x))

IsDeclared : Element → IdHolder → Type 0
IsDeclared e h = (d : Element) × (y : Element) × InPages e d × (has_name (codes "declaration") d ≡ true) × IsBelow d y × (h ≡ held y roles.other)

data Kind (e : Element) (h : IdHolder) : Type 0 where
  net_kind : h ≡ held e roles.other → Kind e h
  object_kind : IsObject e h → Kind e h
  declared_kind : IsDeclared e h → Kind e h

module _ (e : Element) (rises : Rises e) where
  same_place : (x y : Element) → IsBelow e x → IsBelow e y → x.at ≡ y.at → x ≡ y
  same_place x y a b same = one_place (λ (z : Element). z.at) child_elements offsets_of offsets_law e x y rises (within_below e x a) (within_below e y b) same

  at_of_held : (h : IdHolder) (x : Element) (role : Role) → h ≡ held x role → h.at ≡ x.at
  unfolding held
  at_of_held h x role is = ap (λ (g : IdHolder). g.at) is

  own_object : (x y : IdHolder) → x ≡ held e roles.other → IsObject e y → x.at ≡ y.at → ⊥
  unfolding IsObject
  own_object x y is (z, way, also) same = not_below e z rises (within_pages e z way) (sym (at_of_held x e roles.other is) ∙ same ∙ at_of_held y z (role_by z.name z) also)

  own_declared : (x y : IdHolder) → x ≡ held e roles.other → IsDeclared e y → x.at ≡ y.at → ⊥
  unfolding IsDeclared
  own_declared x y is (d, z, way, named, below, also) same = not_below e z rises (below_pages e d z way below) (sym (at_of_held x e roles.other is) ∙ same ∙ at_of_held y z roles.other also)

  object_declared : (x y : IdHolder) → IsObject e x → IsDeclared e y → x.at ≡ y.at → ⊥
  unfolding IsObject IsDeclared
  object_declared x y (w, way, is) (d, z, other, named, below, also) same =
      apart_ways e w d z rises way other named below (sym (at_of_held x w (role_by w.name w) is) ∙ same ∙ at_of_held y z roles.other also)

  objects_same : (x y : IdHolder) → IsObject e x → IsObject e y → x.at ≡ y.at → x ≡ y
  unfolding IsObject
  objects_same x y (w, way, is) (z, other, also) same =
      let here : w ≡ z = same_place w z (within_pages e w way) (within_pages e z other) (sym (at_of_held x w (role_by w.name w) is) ∙ same ∙ at_of_held y z (role_by z.name z) also) in
      is ∙ ap (λ (v : Element). held v (role_by v.name v)) here ∙ sym also

  declared_same : (x y : IdHolder) → IsDeclared e x → IsDeclared e y → x.at ≡ y.at → x ≡ y
  unfolding IsDeclared
  declared_same x y (c, w, way, name, under, is) (d, z, other, named, below, also) same =
      let here : w ≡ z = same_place w z (below_pages e c w way under) (below_pages e d z other below) (sym (at_of_held x w roles.other is) ∙ same ∙ at_of_held y z roles.other also) in
      is ∙ ap (λ (v : Element). held v roles.other) here ∙ sym also

  told_apart : (x y : IdHolder) → Kind e x → Kind e y → x.at ≡ y.at → x ≡ y
  told_apart x y (net_kind a) (net_kind b) same = a ∙ sym b
  told_apart x y (net_kind a) (object_kind b) same = absurd (own_object x y a b same)
  told_apart x y (net_kind a) (declared_kind b) same = absurd (own_declared x y a b same)
  told_apart x y (object_kind a) (net_kind b) same = absurd (own_object y x b a (sym same))
  told_apart x y (object_kind a) (object_kind b) same = objects_same x y a b same
  told_apart x y (object_kind a) (declared_kind b) same = absurd (object_declared x y a b same)
  told_apart x y (declared_kind a) (net_kind b) same = absurd (own_declared y x b a (sym same))
  told_apart x y (declared_kind a) (object_kind b) same = absurd (object_declared y x b a (sym same))
  told_apart x y (declared_kind a) (declared_kind b) same = declared_same x y a b same

-- ---- what the net of a tree holds

named_kid : (name : List ℕ) (e x : Element) → Contains (children_named name e) x → Contains (child_elements e) x × (has_name name x ≡ true)
named_kid name e x c = filtered (has_name name) (child_elements e) x c

IsPageOf : Element → Element → Type 0
IsPageOf e p = (p ≡ e) ⊎ (InPages e p × (has_name (codes "page") p ≡ true))

deeper_page : (e k p : Element) → Contains (child_elements e) k → has_name (codes "page") k ≡ true → IsPageOf k p → InPages e p × (has_name (codes "page") p ≡ true)
unfolding IsPageOf
deeper_page e k p c named (inl same) = (subst (InPages e) (sym same) (on_page e k c), subst (λ z. has_name (codes "page") z ≡ true) (sym same) named)
deeper_page e k p c named (inr (way, name)) = (on_subpage e p k c named way, name)

module _ {A : Type 0} (own : layer.Page-F (List A) → List A) where
  -- what stands in pages stands on one of them
  OnPage : Element → A → Type 0
  OnPage e x = (p : Element) × IsPageOf e p × (ps : List Page) × Contains (own (own_layer own (page_with ps p))) x

  OnPages : Element → A → Type 0
  OnPages e x = (p : Element) × InPages e p × (has_name (codes "page") p ≡ true) × (ps : List Page) × Contains (own (own_layer own (page_with ps p))) x

  split_page : (ps : List Page) (e : Element) (x : A) → Contains (in_page own (page_with ps e)) x → Contains (own (own_layer own (page_with ps e))) x ⊎ Contains (flat_map (in_page own) ps) x
  split_page ps e x c = Contains-append_cases (own (own_layer own (page_with ps e))) (flat_map (in_page own) ps) x
      (subst (λ xs. Contains xs x) (page_law own (page_with ps e) ∙ ap (λ qs. own (own_layer own (page_with ps e)) ++ flat_map (in_page own) qs) (ap (λ l. l.pages) (out-roll-Page _))) c)

  on_one : (m : ℕ) (e : Element) (x : A) → Contains (in_page own (page_within m e)) x → OnPage e x
  unfolding page_within OnPage IsPageOf
  on_one zero e x c = step (split_page [] e x c)
    where
      step : Contains (own (own_layer own (page_with [] e))) x ⊎ Contains [] x → OnPage e x
      step (inl there) = (e, inl refl, [], there)
      step (inr none) = absurd (contains_nil x none)
  on_one (suc m) e x c = step (split_page pages e x c) (λ k d. on_one m k x d)
    where
      pages : List Page
      pages = map (page_within m) (children_named (codes "page") e)

      step : Contains (own (own_layer own (page_with pages e))) x ⊎ Contains (flat_map (in_page own) pages) x → ((k : Element) → Contains (in_page own (page_within m k)) x → OnPage k x) → OnPage e x
      step (inl there) more = (e, inl refl, pages, there)
      step (inr below) more =
          let page = contains_some_of (in_page own) pages x below in
          let from = mapped (page_within m) (children_named (codes "page") e) page.0 page.1 in
          let kid = named_kid (codes "page") e from.0 from.1 in
          let it = more from.0 (subst (λ q. Contains (in_page own q) x) from.2 page.2) in
          (it.0, inr (deeper_page e from.0 it.0 kid.0 kid.1 it.1), it.2, it.3)

  on_pages : (e : Element) (x : A) → Contains (flat_map (in_page own) (map page_read (children_named (codes "page") e))) x → OnPages e x
  unfolding OnPage OnPages
  on_pages e x c =
      let page = contains_some_of (in_page own) (map page_read (children_named (codes "page") e)) x c in
      let from = mapped page_read (children_named (codes "page") e) page.0 page.1 in
      let kid = named_kid (codes "page") e from.0 from.1 in
      let it = on_one (depth_of from.0) from.0 x (subst (λ q. Contains (in_page own q) x) from.2 page.2) in
      let deep = deeper_page e from.0 it.0 kid.0 kid.1 it.1 in
      (it.0, deep.0, deep.1, it.2, it.3)

-- objects of one kind
objects_are : {P : Type 0} (own : layer.Page-F (List P) → List P) (name : List ℕ) (read : Element → P) (hold : P → IdHolder)
    → ((ps : List Page) (p : Element) → own (own_layer own (page_with ps p)) ≡ map read (children_named name p)) → ((x : Element) → x.name ≡ name → hold (read x) ≡ held x (role_by name x))
    → (e : Element) (h : IdHolder) → Contains (map hold (flat_map (in_page own) (map page_read (children_named (codes "page") e)))) h → Kind e h
unfolding OnPages IsObject
objects_are own name read hold lists holds e h c =
    let from = mapped hold (flat_map (in_page own) (map page_read (children_named (codes "page") e))) h c in
    let on = on_pages own e from.0 from.1 in
    let one = mapped read (children_named name on.0) from.0 (subst (λ xs. Contains xs from.0) (lists on.3 on.0) on.4) in
    let kid = named_kid name on.0 one.0 one.1 in
    let is : one.0.name ≡ name = (bytes_eq-Decides one.0.name name).0 kid.1 in
    object_kind (one.0, kid_of_page e on.0 one.0 on.1 on.2 kid.0, from.2 ∙ ap hold one.2 ∙ holds one.0 is ∙ ap (λ n. held one.0 (role_by n one.0)) (sym is))

pages_are : (e : Element) (h : IdHolder) → Contains (flat_map (in_page (λ p. page_holder p ∷ [])) (map page_read (children_named (codes "page") e))) h → Kind e h
unfolding OnPages IsObject held role_by
pages_are e h c =
    let on = on_pages (λ p. page_holder p ∷ []) e h c in
    let is : on.0.name ≡ codes "page" = (bytes_eq-Decides on.0.name (codes "page")).0 on.2 in
    object_kind (on.0, on.1, contains_one _ h on.4 ∙ ap (λ l. holder l.id l.at roles.other) (out-roll-Page _) ∙ ap (λ n. held on.0 (role_by n on.0)) (sym is))

-- ---- what is declared

structured_in : (d : Element) → IsWithin child_elements d (structured d)
structured_in d = within_more d (child_or_self (codes "structure") d) (structured d) (first (found_or (has_name (codes "structure")) (child_elements d) d)) (inner (child_or_self (codes "structure") d) (child_elements (child_or_self (codes "structure") d)) refl)
  where
    first : (child_or_self (codes "structure") d ≡ d) ⊎ (Contains (child_elements d) (child_or_self (codes "structure") d) × (has_name (codes "structure") (child_or_self (codes "structure") d) ≡ true))
        → IsWithin child_elements d (child_or_self (codes "structure") d)
    first (inl same) = itself d (child_or_self (codes "structure") d) same
    first (inr (c, named)) = inside d (child_or_self (codes "structure") d) (child_or_self (codes "structure") d) c (itself (child_or_self (codes "structure") d) (child_or_self (codes "structure") d) refl)

    inner : (s : Element) (ks : List Element) → child_elements s ≡ ks → IsWithin child_elements s (unwrap_or (slice_get ks 0) s)
    inner s [] is = itself s s refl
    inner s (k ∷ ks) is = inside s k k (subst (λ xs. Contains xs k) (sym is) (contains_first k ks)) (itself k k refl)

-- an element in a declaration of a page, or of the net
record IsDeclaration (e : Element) (d : Declaration) : Type 0 where
  label : Element
  way : InPages e label
  named : has_name (codes "declaration") label ≡ true
  element : Element
  kid : Contains (child_elements (structured label)) element
  is : d ≡ declaration_read element

declared_in : (e : Element) (p : Element) → ((x : Element) → Contains (child_elements p) x → InPages e x) → (d : Declaration) → Contains (declared_by (map declarations_label (children_named (codes "declaration") p))) d → IsDeclaration e d
declared_in e p to d c =
    let from = contains_some_of (λ (l : Label (List Declaration)). l.value) (map declarations_label (children_named (codes "declaration") p)) d c in
    let label = mapped declarations_label (children_named (codes "declaration") p) from.0 from.1 in
    let kid = named_kid (codes "declaration") p label.0 label.1 in
    let one = mapped declaration_read (child_elements (structured label.0)) d (subst (λ (l : Label (List Declaration)). Contains l.value d) label.2 from.2) in
    record { label = label.0; way = to label.0 kid.0; named = kid.1; element = one.0; kid = one.1; is = one.2 }

id_read : (x : Element) → holder (id_of (declaration_read x)) (at_of (declaration_read x)) roles.other ≡ held x roles.other
unfolding held
id_read x = step (has_name (codes "variabledecl") x) (has_name (codes "partition") x)
  where
    step : (b c : Bool) → holder (id_of (cond b (variable_read x) (cond c (partition_read x) (named_read x)))) (at_of (cond b (variable_read x) (cond c (partition_read x) (named_read x)))) roles.other ≡ holder (attribute_of (codes "id") x) x.at roles.other
    step true c = refl
    step false true = refl
    step false false = refl

-- the constants and elements in a declaration
InDeclaration : Element → IdHolder → Type 0
InDeclaration x h = (y : Element) × IsWithin child_elements x y × (h ≡ held y roles.other)

in_kids : {P : Type 0} (x : Element) (read : Element → P) (hold : P → IdHolder) → ((y : Element) → hold (read y) ≡ held y roles.other) → (ks : List Element) → ((y : Element) → Contains ks y → IsWithin child_elements x y)
    → (h : IdHolder) → Contains (map hold (map read ks)) h → InDeclaration x h
unfolding InDeclaration
in_kids x read hold holds ks to h c =
    let from = mapped hold (map read ks) h c in
    let one = mapped read ks from.0 from.1 in
    (one.0, to one.0 one.1, from.2 ∙ ap hold one.2 ∙ holds one.0)

in_body : (x k : Element) (h : IdHolder) → Contains (child_elements x) k → Contains (map constant_holder (constants_of (body_of k))) h → InDeclaration x h
unfolding held
in_body x k h there = step (has_name (codes "finiteenumeration") k) (has_name (codes "cyclicenumeration") k)
  where
    kids : (y : Element) → Contains (child_elements k) y → IsWithin child_elements x y
    kids y c = inside x y k there (inside k y y c (itself y y refl))

    step : (b c : Bool) → Contains (map constant_holder (constants_of (cond b (bodies.Finite (map constant_read (child_elements k))) (cond c (bodies.Cyclic (map constant_read (child_elements k))) (bodies.Plain (sort_read k)))))) h → InDeclaration x h
    step true c in_it = in_kids x constant_read constant_holder (λ y. refl) (child_elements k) kids h in_it
    step false true in_it = in_kids x constant_read constant_holder (λ y. refl) (child_elements k) kids h in_it
    step false false in_it = absurd (contains_nil h in_it)

in_named : (x : Element) (h : IdHolder) → Contains (map constant_holder (constants_of (body_in x))) h → InDeclaration x h
in_named x h = step (child_elements x) refl
  where
    step : (ks : List Element) → child_elements x ≡ ks → Contains (map constant_holder (constants_of (unwrap_or (option_map body_of (slice_get ks 0)) (bodies.Plain no_sort)))) h → InDeclaration x h
    step [] is c = absurd (contains_nil h c)
    step (k ∷ ks) is c = in_body x k h (subst (λ xs. Contains xs k) (sym is) (contains_first k ks)) c

in_declaration : (x : Element) (h : IdHolder) → Contains (map constant_holder (constants_in (declaration_read x)) ++ map element_holder (elements_of (declaration_read x))) h → InDeclaration x h
unfolding held
in_declaration x h = step (has_name (codes "variabledecl") x) (has_name (codes "partition") x)
  where
    parts : (y : Element) → Contains (children_named (codes "partitionelement") x) y → IsWithin child_elements x y
    parts y c = inside x y y (named_kid (codes "partitionelement") x y c).0 (itself y y refl)

    step : (b c : Bool) → Contains (map constant_holder (constants_in (cond b (variable_read x) (cond c (partition_read x) (named_read x)))) ++ map element_holder (elements_of (cond b (variable_read x) (cond c (partition_read x) (named_read x))))) h → InDeclaration x h
    step true c in_it = absurd (contains_nil h in_it)
    step false true in_it = in_kids x part_read element_holder (λ y. refl) (children_named (codes "partitionelement") x) parts h in_it
    step false false in_it = in_named x h (subst (λ hs. Contains hs h) (append-nil (map constant_holder (constants_of (body_in x)))) in_it)

declared_are : (e : Element) (d : Declaration) (h : IdHolder) → IsDeclaration e d → Contains (declaration_holders d) h → Kind e h
unfolding IsDeclared InDeclaration
declared_are e d h it c = step (contains_cases (holder (id_of (declaration_read it.element)) (at_of (declaration_read it.element)) roles.other)
    (map constant_holder (constants_in (declaration_read it.element)) ++ map element_holder (elements_of (declaration_read it.element))) h (subst (λ x. Contains (declaration_holders x) h) it.is c))
  where
    below : (y : Element) → IsWithin child_elements it.element y → IsBelow it.label y
    below y within = below_kid it.label (structured it.label) it.element y (structured_in it.label) it.kid within

    step : (holder (id_of (declaration_read it.element)) (at_of (declaration_read it.element)) roles.other ≡ h) ⊎ Contains (map constant_holder (constants_in (declaration_read it.element)) ++ map element_holder (elements_of (declaration_read it.element))) h → Kind e h
    step (inl same) = declared_kind (it.label, it.element, it.way, it.named, below it.element (itself it.element it.element refl), sym same ∙ id_read it.element)
    step (inr within) = let y = in_declaration it.element h within in declared_kind (it.label, y.0, it.way, it.named, below y.0 y.1, y.2)

module _ (prefixes : List Prefix) (e : Element) where
  abbrev own_net : Net
  own_net = net_read prefixes e

  declarations_are : (h : IdHolder) → Contains (flat_map declaration_holders (net_declarations own_net)) h → Kind e h
  unfolding OnPages
  declarations_are h c = let from = contains_some_of declaration_holders (net_declarations own_net) h c in
      declared_are e from.0 h (step from.0 (Contains-append_cases (declared_by (map declarations_label (children_named (codes "declaration") e)))
      (flat_map (in_page (λ p. declared_by p.declarations)) (map page_read (children_named (codes "page") e))) from.0 from.1)) from.2
    where
      step : (d : Declaration) → Contains (declared_by (map declarations_label (children_named (codes "declaration") e))) d
          ⊎ Contains (flat_map (in_page (λ p. declared_by p.declarations)) (map page_read (children_named (codes "page") e))) d → IsDeclaration e d
      step d (inl top) = declared_in e e (λ x k. on_page e x k) d top
      step d (inr below) = let on = on_pages (λ p. declared_by p.declarations) e d below in
          declared_in e on.0 (λ x k. kid_of_page e on.0 x on.1 on.2 k) d (subst (λ ls. Contains (declared_by ls) d) (ap (λ l. l.declarations) (out-roll-Page _)) on.4)

  places_held : (h : IdHolder) → Contains (map place_holder (net_places own_net)) h → Kind e h
  unfolding held role_by
  places_held h c = objects_are (λ p. p.places) (codes "place") place_read place_holder (λ ps p. ap (λ l. l.places) (out-roll-Page _)) (λ x is. refl) e h c

  transitions_held : (h : IdHolder) → Contains (map transition_holder (net_transitions own_net)) h → Kind e h
  unfolding held role_by
  transitions_held h c = objects_are (λ p. p.transitions) (codes "transition") transition_read transition_holder (λ ps p. ap (λ l. l.transitions) (out-roll-Page _)) (λ x is. refl) e h c

  place_references_held : (h : IdHolder) → Contains (map place_reference_holder (net_place_references own_net)) h → Kind e h
  unfolding held role_by
  place_references_held h c = objects_are (λ p. p.place_refs) (codes "referencePlace") reference_read place_reference_holder (λ ps p. ap (λ l. l.place_refs) (out-roll-Page _)) (λ x is. refl) e h c

  transition_references_held : (h : IdHolder) → Contains (map transition_reference_holder (net_transition_references own_net)) h → Kind e h
  unfolding held role_by
  transition_references_held h c =
      objects_are (λ p. p.transition_refs) (codes "referenceTransition") reference_read transition_reference_holder (λ ps p. ap (λ l. l.transition_refs) (out-roll-Page _)) (λ x is. refl) e h c

  arcs_held : (h : IdHolder) → Contains (map arc_holder (net_arcs own_net)) h → Kind e h
  unfolding held role_by
  arcs_held h c = objects_are (λ p. p.arcs) (codes "arc") arc_read arc_holder (λ ps p. ap (λ l. l.arcs) (out-roll-Page _)) (λ x is. refl) e h c

  either : (xs ys : List IdHolder) → ((h : IdHolder) → Contains xs h → Kind e h) → ((h : IdHolder) → Contains ys h → Kind e h) → (h : IdHolder) → Contains (xs ++ ys) h → Kind e h
  either xs ys left right h c = elim (Contains-append_cases xs ys h c) [ inl a ↦ left h a | inr b ↦ right h b ]

  -- each that has an id is the net, an object on its pages, or something in a declaration
  kinds : (h : IdHolder) → Contains (holders_of own_net) h → Kind e h
  unfolding held
  kinds h c = step (contains_cases (holder own_net.id own_net.at roles.other) rest h c)
    where
      behind_references : List IdHolder
      behind_references = map transition_reference_holder (net_transition_references own_net) ++ map arc_holder (net_arcs own_net)

      nodes : List IdHolder
      nodes = map place_holder (net_places own_net) ++ (map transition_holder (net_transitions own_net) ++ (map place_reference_holder (net_place_references own_net) ++ behind_references))

      rest : List IdHolder
      rest = flat_map (in_page (λ p. page_holder p ∷ [])) (map page_read (children_named (codes "page") e)) ++ (flat_map declaration_holders (net_declarations own_net) ++ nodes)

      step : (holder own_net.id own_net.at roles.other ≡ h) ⊎ Contains rest h → Kind e h
      step (inl same) = net_kind (sym same)
      step (inr there) =
          either (flat_map (in_page (λ p. page_holder p ∷ [])) (map page_read (children_named (codes "page") e))) (flat_map declaration_holders (net_declarations own_net) ++ nodes) (pages_are e)
          (either (flat_map declaration_holders (net_declarations own_net)) nodes declarations_are
          (either (map place_holder (net_places own_net)) (map transition_holder (net_transitions own_net) ++ (map place_reference_holder (net_place_references own_net) ++ behind_references)) places_held
          (either (map transition_holder (net_transitions own_net)) (map place_reference_holder (net_place_references own_net) ++ behind_references) transitions_held
          (either (map place_reference_holder (net_place_references own_net)) behind_references place_references_held
          (either (map transition_reference_holder (net_transition_references own_net)) (map arc_holder (net_arcs own_net)) transition_references_held arcs_held))))) h there

pub apart : (tree : Element) → HasRisingOffsets tree → AreApart (net_of tree)
apart tree rising x y c d same at = told_apart e (rises (found_or (has_name (codes "net")) (child_elements tree) tree)) x y (kinds (prefixes_read tree) e x c) (kinds (prefixes_read tree) e y d) at
  where
    e : Element
    e = child_or_self (codes "net") tree

    rises : (child_or_self (codes "net") tree ≡ tree) ⊎ (Contains (child_elements tree) (child_or_self (codes "net") tree) × (has_name (codes "net") (child_or_self (codes "net") tree) ≡ true)) → Rises (child_or_self (codes "net") tree)
    rises (inl itself_there) = subst Rises (sym itself_there) (rise_of (offsets_of tree) rising)
    rises (inr (kid_there, named)) = rises_kid tree (child_or_self (codes "net") tree) (rise_of (offsets_of tree) rising) kid_there
