-- Which elements of a document have its ids; where offsets rise, elements at one offset are one.
use Rattle.std.proofs.Common.{◌≡◌, ℕ, Bool, true, false, cond, List, [], ◌∷◌, map, codes, Option, None, Some, refl, sym, ap, ◌∙◌, subst}
use Rattle.std.specs.List.{AllByRecursion, Contains, flat_map}
use Rattle.std.specs.Option.{option_map, unwrap_or}
use Rattle.pn_facts.proofs.Contained.{contains_at}
use Rattle.pn_faults.proofs.RisingLemmas.{IsWithin, itself, inside, one_place}
use Rattle.pn_markup.specs.Offsets.{HasRisingOffsets, offsets_of}
use Rattle.pn_names.specs.Names.{constants_of}
use Rattle.pn_net.specs.Ids.{IdHolder, arc_holder, constant_holder, declaration_holders, element_holder, holder, holders_of, other, page_holder, place_holder, place_reference_holder, transition_holder, transition_reference_holder}
use Rattle.pn_net.specs.Objects.{in_pages, net_arcs, net_declarations, net_place_references, net_places, net_transition_references, net_transitions}
use Rattle.pn_objects.specs.declared.net.Page.TheViews.{out-roll-Page}
use Rattle.pn_checks.proofs.FlatLemmas.{flat_all}
use Rattle.pn_shape.proofs.WrittenLemmas.{both_all}
use Rattle.pn_facts.proofs.Each.{each, one_of}
use Rattle.pn_checks.proofs.SourceLemmas.{ComesFrom, IsSpelled, all_contained, all_in_pages, arcs_from, declarations_from, each_named, mapped_all, or_self_within, place_references_from, places_from, transition_references_from, transitions_from, within_kid}
use Rattle.pn_pages.proofs.ApartLemmas.{offsets_law, rise_of}
use Rattle.pn_spelling.specs.Parts.{attribute_of, child_elements, children_named, first_child, has_name}
use Rattle.pn_spelling.specs.ReadDeclarations.{body_in, body_of, constant_read, declaration_read, named_read, part_read, partition_read, variable_read}
use Rattle.pn_spelling.specs.ReadNets.{arc_read, child_or_self, net_of, place_read, reference_read, transition_read}
use Rattle.pn_spelling.specs.ReadSorts.{no_sort}
use Rattle.pn_syntax.specs.declared.declaration.Declaration.{Declaration}
use Rattle.pn_syntax.specs.declared.declaration.SortBody.TheVariants as bodies
use Rattle.pn_tree.specs.declared.element.Element.{Element}

-- ---- offsets

-- elements at one offset are one
pub one_element : (tree : Element) → HasRisingOffsets tree → (x y : Element) → IsWithin child_elements tree x → IsWithin child_elements tree y → x.at ≡ y.at → x ≡ y
one_element tree rises x y here there same = one_place (λ (e : Element). e.at) child_elements offsets_of offsets_law tree x y (rise_of (offsets_of tree) rises) here there same

-- ---- which element has an id

record HasHolder (e : Element) (h : IdHolder) : Type 0 where
  element : Element
  within : IsWithin child_elements e element
  at : h.at ≡ element.at
  id : h.id ≡ attribute_of (codes "id") element

held_up : (e k : Element) → Contains (child_elements e) k → (h : IdHolder) → HasHolder k h → HasHolder e h
held_up e k there h held = record { element = held.element; within = inside e held.element k there held.within; at = held.at; id = held.id }

-- all that a declaration has
HasHolders : Element → Declaration → Type 0
HasHolders e d = AllByRecursion (HasHolder e) (declaration_holders d)

module _ (e : Element) where
  constants_held : (y : Element) → IsWithin child_elements e y → AllByRecursion (HasHolder e) (map constant_holder (map constant_read (child_elements y)))
  constants_held y within =
      mapped_all (HasHolder e) constant_holder (map constant_read (child_elements y))
      (mapped_all (λ c. HasHolder e (constant_holder c)) constant_read (child_elements y)
      (all_contained (λ z. HasHolder e (constant_holder (constant_read z))) (child_elements y) (λ z there. record { element = z; within = within_kid e y z within there; at = refl; id = refl })))

  body_held : (y : Element) → IsWithin child_elements e y → AllByRecursion (HasHolder e) (map constant_holder (constants_of (body_of y)))
  body_held y within = by (has_name (codes "finiteenumeration") y) (has_name (codes "cyclicenumeration") y) refl refl
    where
      by : (a b : Bool) → has_name (codes "finiteenumeration") y ≡ a → has_name (codes "cyclicenumeration") y ≡ b → AllByRecursion (HasHolder e) (map constant_holder (constants_of (body_of y)))
      by true b is also = rw is (constants_held y within)
      by false true is also = rw (is, also) (constants_held y within)
      by false false is also = rw (is, also) tt

  named_held : (x : Element) → IsWithin child_elements e x → AllByRecursion (HasHolder e) (map constant_holder (constants_of (body_in x)))
  named_held x within = by (first_child x) refl
    where
      by : (o : Option Element) → first_child x ≡ o → AllByRecursion (HasHolder e) (map constant_holder (constants_of (unwrap_or (option_map body_of o) (bodies.Plain no_sort))))
      by None is = tt
      by (Some y) is = body_held y (within_kid e x y within (contains_at (child_elements x) 0 y is))

  parts_held : (x : Element) → IsWithin child_elements e x → AllByRecursion (HasHolder e) (map element_holder (map part_read (children_named (codes "partitionelement") x)))
  parts_held x within =
      mapped_all (HasHolder e) element_holder (map part_read (children_named (codes "partitionelement") x))
      (mapped_all (λ c. HasHolder e (element_holder c)) part_read (children_named (codes "partitionelement") x)
      (each_named (λ z. HasHolder e (element_holder (part_read z))) (codes "partitionelement") x (λ z there named. record { element = z; within = within_kid e x z within there; at = refl; id = refl })))

  own_held : (x : Element) → IsWithin child_elements e x → HasHolder e (holder (attribute_of (codes "id") x) x.at other)
  own_held x within = record { element = x; within = within; at = refl; id = refl }

  declaration_held : (x : Element) → IsWithin child_elements e x → HasHolders e (declaration_read x)
  unfolding HasHolders
  declaration_held x within = by (has_name (codes "variabledecl") x) (has_name (codes "partition") x)
    where
      by : (a b : Bool) → AllByRecursion (HasHolder e) (declaration_holders (cond a (variable_read x) (cond b (partition_read x) (named_read x))))
      by true b = (own_held x within, tt)
      by false true = (own_held x within, parts_held x within)
      by false false = (own_held x within, both_all (HasHolder e) (map constant_holder (constants_of (body_in x))) [] (named_held x within) tt)

-- ---- all that has an id

objects_held : {A : Type 0} (name : List ℕ) (read : Element → A) (hold : A → IdHolder) → ((x : Element) → (hold (read x)).at ≡ x.at) → ((x : Element) → (hold (read x)).id ≡ attribute_of (codes "id") x) → (e : Element) (xs : List A)
    → AllByRecursion (ComesFrom name read e) xs → AllByRecursion (HasHolder e) (map hold xs)
objects_held name read hold at id e xs all =
    mapped_all (HasHolder e) hold xs
    (each (ComesFrom name read e) (λ a. HasHolder e (hold a))
    (λ a from. record { element = from.source; within = from.within; at = ap (λ b. (hold b).at) from.is ∙ at from.source; id = ap (λ b. (hold b).id) from.is ∙ id from.source }) xs all)

module _ (root : Element) where
  pages_held : AllByRecursion (HasHolder root) (in_pages (λ p. page_holder p ∷ []) (net_of root))
  pages_held = all_in_pages HasHolder held_up (λ p. page_holder p ∷ []) (λ pages e. (record { element = e; within = itself e e refl; at = ap (λ l. l.at) (out-roll-Page _); id = ap (λ l. l.id) (out-roll-Page _) }, tt)) root

  net_declared : AllByRecursion (HasHolders root) (net_declarations (net_of root))
  net_declared =
      each (IsSpelled declaration_read root) (HasHolders root) (λ d from. subst (HasHolders root) (sym from.is) (declaration_held root from.source from.within))
      (net_declarations (net_of root)) (declarations_from root)

  declared_held : AllByRecursion (HasHolder root) (flat_map declaration_holders (net_declarations (net_of root)))
  unfolding HasHolders
  declared_held = flat_all (HasHolder root) (HasHolders root) declaration_holders (λ d held. held) (net_declarations (net_of root)) net_declared

  all_held : AllByRecursion (HasHolder root) (holders_of (net_of root))
  all_held =
      let n = net_of root in
      let net = child_or_self (codes "net") root in
      let own : HasHolder root (holder n.id n.at other) = record { element = net; within = or_self_within (codes "net") root root (itself root root refl); at = refl; id = refl } in
      let arcs = objects_held (codes "arc") arc_read arc_holder (λ x. refl) (λ x. refl) root (net_arcs n) (arcs_from root) in
      let transition_refs = objects_held (codes "referenceTransition") reference_read transition_reference_holder (λ x. refl) (λ x. refl) root (net_transition_references n) (transition_references_from root) in
      let place_refs = objects_held (codes "referencePlace") reference_read place_reference_holder (λ x. refl) (λ x. refl) root (net_place_references n) (place_references_from root) in
      let transitions = objects_held (codes "transition") transition_read transition_holder (λ x. refl) (λ x. refl) root (net_transitions n) (transitions_from root) in
      let places = objects_held (codes "place") place_read place_holder (λ x. refl) (λ x. refl) root (net_places n) (places_from root) in (
        own,
        both_all (HasHolder root) _ _ pages_held (both_all (HasHolder root) _ _ declared_held (both_all (HasHolder root) _ _ places (both_all (HasHolder root) _ _ transitions (both_all (HasHolder root) _ _ place_refs (both_all (HasHolder root) _ _ transition_refs arcs))))),
      )

  -- at one offset stands one id
  pub one_id : HasRisingOffsets root → (g h : IdHolder) → Contains (holders_of (net_of root)) g → Contains (holders_of (net_of root)) h → g.at ≡ h.at → g.id ≡ h.id
  one_id rises g h there also same =
      let a = one_of (HasHolder root) (holders_of (net_of root)) g all_held there in
      let b = one_of (HasHolder root) (holders_of (net_of root)) h all_held also in
      a.id ∙ ap (attribute_of (codes "id")) (one_element root rises a.element b.element a.within b.within (sym a.at ∙ same ∙ b.at)) ∙ sym b.id
