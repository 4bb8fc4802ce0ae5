-- The declarations of a net in which no id is given twice: all their ids are distinct.
use Rattle.std.proofs.Common.{◌≡◌, ◌≤◌, ◌<◌, ◌⊎◌, inl, inr, ℕ, zero, suc, Bool, true, false, cond, List, [], ◌∷◌, ◌++◌, append-nil, map, Option, None, Some, refl, sym, ap, ◌∙◌, subst, arith}
use Rattle.std.specs.List.{Contains, flat_map, slice_get}
use Rattle.std.specs.Str.{bytes_eq}
use Rattle.std.proofs.lemmas.List.{map-append}
use Rattle.std.proofs.lemmas.List.Elements.{Contains-append_left, Contains-append_right}
use Rattle.std.proofs.lemmas.Slice.Eq.{bytes_eq-Decides}
use Rattle.pn_facts.proofs.Contained.{contains_cases, contains_first, contains_next, contains_nil}
use Rattle.pn_faults.specs.declared.fault.Fault.{Fault}
use Rattle.pn_faults.specs.declared.reason.Reason.TheVariants as reasons
use Rattle.pn_faults.specs.Order.{fault_at}
use Rattle.pn_ids.specs.Names.{AreDistinct, named_in}
use Rattle.pn_names.specs.declared.Declared.{Declared}
use Rattle.pn_names.specs.Names.{constant_id, constant_ids, constants_of, element_id, id_of, names_from, names_in, names_of, numbered, with_variable}
use Rattle.pn_net.specs.Ids.{IdHolder, arc_holder, constant_holder, constants_in, declaration_holders, element_holder, holders_of, page_holder, place_holder, place_reference_holder, transition_holder, transition_reference_holder}
use Rattle.pn_net.specs.Links.{IsDuplicateAmong, StandsInLinks, duplicate_id}
use Rattle.pn_net.specs.Objects.{in_pages, net_arcs, net_declarations, net_place_references, net_places, net_transition_references, net_transitions}
use Rattle.pn_objects.specs.declared.net.Net.{Net}
use Rattle.pn_resolve.specs.Standing.{elements_of}
use Rattle.pn_syntax.specs.declared.declaration.Constant.{Constant}
use Rattle.pn_syntax.specs.declared.declaration.Declaration.{Declaration}
use Rattle.pn_syntax.specs.declared.declaration.Declaration.TheVariants as declarations
use Rattle.pn_syntax.specs.declared.declaration.PartElement.{PartElement}
use Rattle.pn_net.specs.declared.flat.Flat.{Flat}
use Rattle.pn_spelling.specs.ReadNets.{net_of}
use Rattle.pn_tree.specs.declared.element.Element.{Element}
use Rattle.pn_checks.specs.Linked.{IsLinked}
use Rattle.pn_checks.proofs.FlatLemmas.{flat_declarations}

-- no id comes twice
abbrev NoneTwice : List (List ℕ) → Type 0
NoneTwice [] = Unit {0}
NoneTwice (x ∷ xs) = (Contains xs x → ⊥) × NoneTwice xs

-- ---- who has ids

abbrev ids_held : List IdHolder → List (List ℕ)
ids_held hs = map (λ h. h.id) hs

-- of two that have an id one is a duplicate
either_duplicate : (hs : List IdHolder) (i j : ℕ) (g h : IdHolder) → slice_get hs i ≡ Some g → slice_get hs j ≡ Some h → (i ≡ j → ⊥) → g.id ≡ h.id → ((f : Fault) → IsDuplicateAmong hs f → ⊥) → ⊥
either_duplicate hs i j g h at_i at_j differ same none = by (which g.at h.at)
  where
    which : (m n : ℕ) → (m ≤ n) ⊎ (n ≤ m)
    which zero n = inl (omega arith)
    which (suc m) zero = inr (omega arith)
    which (suc m) (suc n) = step (which m n)
      where
        step : (m ≤ n) ⊎ (n ≤ m) → (suc m ≤ suc n) ⊎ (suc n ≤ suc m)
        step (inl le) = inl (omega (arith, le))
        step (inr le) = inr (omega (arith, le))

    by : (g.at ≤ h.at) ⊎ (h.at ≤ g.at) → ⊥
    by (inl le) = none (fault_at reasons.DuplicateId h.at h.id) (record { one = i; another = j; first = g; second = h; has_first = at_i; has_second = at_j; differ = differ; before = le; same = same; is = refl })
    by (inr le) = none (fault_at reasons.DuplicateId g.at g.id) (record { one = j; another = i; first = h; second = g; has_first = at_j; has_second = at_i; differ = λ is. differ (sym is); before = le; same = sym same; is = refl })

held_where : (hs : List IdHolder) (id : List ℕ) → Contains (ids_held hs) id → (k : ℕ) × (h : IdHolder) × (slice_get hs k ≡ Some h) × (h.id ≡ id)
held_where [] id there = absurd (contains_nil id there)
held_where (h ∷ hs) id there = by (contains_cases h.id (ids_held hs) id there) (held_where hs id)
  where
    by : (h.id ≡ id) ⊎ Contains (ids_held hs) id → (Contains (ids_held hs) id → (k : ℕ) × (g : IdHolder) × (slice_get hs k ≡ Some g) × (g.id ≡ id)) → (k : ℕ) × (g : IdHolder) × (slice_get (h ∷ hs) k ≡ Some g) × (g.id ≡ id)
    by (inl same) more = (0, h, refl, same)
    by (inr later) more = let found = more later in (suc found.0, found.1, found.2, found.3)

-- one more before them changes nothing of a duplicate
duplicate_behind : (h : IdHolder) (hs : List IdHolder) (f : Fault) → IsDuplicateAmong hs f → IsDuplicateAmong (h ∷ hs) f
duplicate_behind h hs f is = record {
  one = suc is.one;
  another = suc is.another;
  first = is.first;
  second = is.second;
  has_first = is.has_first;
  has_second = is.has_second;
  differ = λ same. is.differ (omega (arith, same));
  before = is.before;
  same = is.same;
  is = is.is;
}

held_once : (hs : List IdHolder) → ((f : Fault) → IsDuplicateAmong hs f → ⊥) → NoneTwice (ids_held hs)
held_once [] none = tt
held_once (h ∷ hs) none = (
  λ there. let again = held_where hs h.id there in either_duplicate (h ∷ hs) 0 (suc again.0) h again.1 refl again.2 (λ same. omega (arith, same)) (sym again.3) none,
  held_once hs (λ f is. none f (duplicate_behind h hs f is)),
)

-- ---- parts of lists

front_once : (xs ys : List (List ℕ)) → NoneTwice (xs ++ ys) → NoneTwice xs
front_once [] ys once = tt
front_once (x ∷ xs) ys once = (λ there. once.0 (Contains-append_left xs ys x there), front_once xs ys once.1)

rest_once : (xs ys : List (List ℕ)) → NoneTwice (xs ++ ys) → NoneTwice ys
rest_once [] ys once = once
rest_once (x ∷ xs) ys once = rest_once xs ys once.1

-- ---- what the ids of declarations name

abbrev first_ids : List (List ℕ × Declared) → List (List ℕ)
first_ids ns = map (λ n. n.0) ns

numbered_ids : (place index : ℕ) (ids : List (List ℕ)) → first_ids (numbered place index ids) ≡ ids
numbered_ids place index [] = refl
numbered_ids place index (id ∷ ids) = ap (λ xs. id ∷ xs) (numbered_ids place (suc index) ids)

held_constants : (cs : List Constant) → map constant_id cs ≡ ids_held (map constant_holder cs)
held_constants [] = refl
held_constants (c ∷ cs) = ap (λ xs. c.id ∷ xs) (held_constants cs)

held_elements : (es : List PartElement) → map element_id es ≡ ids_held (map element_holder es)
held_elements [] = refl
held_elements (e ∷ es) = ap (λ xs. e.id ∷ xs) (held_elements es)

-- the ids in a declaration
inner_ids : (d : Declaration) → constant_ids d ≡ ids_held (map constant_holder (constants_in d) ++ map element_holder (elements_of d))
inner_ids (declarations.Named id name body at) = held_constants (constants_of body) ∙ ap ids_held (sym (append-nil (map constant_holder (constants_of body))))
inner_ids (declarations.Variable id name sort at) = refl
inner_ids (declarations.Partition id name sort elements at) = held_elements elements

names_are : (place before : ℕ) (ds : List Declaration) → first_ids (names_from place before ds) ≡ ids_held (flat_map declaration_holders ds)
names_are place before [] = refl
names_are place before (d ∷ ds) =
    map-append (λ n. n.0) (names_in place before d) (names_from (suc place) (with_variable before d) ds)
    ∙ ap (λ xs. (id_of d ∷ xs) ++ first_ids (names_from (suc place) (with_variable before d) ds)) (numbered_ids place 0 (constant_ids d) ∙ inner_ids d)
    ∙ ap (λ xs. ids_held (declaration_holders d) ++ xs) (names_are (suc place) (with_variable before d) ds)
    ∙ sym (map-append (λ h. h.id) (declaration_holders d) (flat_map declaration_holders ds))

not_named : {A : Type 0} (ns : List (List ℕ × A)) (id : List ℕ) → (Contains (map (λ n. n.0) ns) id → ⊥) → named_in ns id ≡ None
not_named [] id none = refl
not_named (n ∷ ns) id none = by (bytes_eq id n.0) refl (not_named ns id (λ there. none (contains_next n.0 (map (λ n. n.0) ns) id there)))
  where
    by : (b : Bool) → bytes_eq id n.0 ≡ b → named_in ns id ≡ None → cond b (Some n.1) (named_in ns id) ≡ None
    by true is rest = absurd (none (subst (Contains (map (λ n. n.0) (n ∷ ns))) (sym ((bytes_eq-Decides id n.0).0 is)) (contains_first n.0 (map (λ n. n.0) ns))))
    by false is rest = rest

once_distinct : {A : Type 0} (ns : List (List ℕ × A)) → NoneTwice (map (λ n. n.0) ns) → AreDistinct ns
once_distinct [] once = tt
once_distinct (n ∷ ns) once = (not_named ns n.0 once.0, once_distinct ns once.1)

-- ---- a net

-- where no id of a net is given twice, none of its declarations is
pub declared_once : (n : Net) → ((f : Fault) → StandsInLinks n f → ⊥) → AreDistinct (names_of (net_declarations n))
declared_once n sound = once_distinct (names_of (net_declarations n)) (subst NoneTwice (sym (names_are 0 0 (net_declarations n))) declared)
  where
    pages : List IdHolder
    pages = in_pages (λ p. page_holder p ∷ []) n

    own : List IdHolder
    own = flat_map declaration_holders (net_declarations n)

    objects : List IdHolder
    objects =
        map place_holder (net_places n)
        ++ (map transition_holder (net_transitions n) ++ (map place_reference_holder (net_place_references n) ++ (map transition_reference_holder (net_transition_references n) ++ map arc_holder (net_arcs n))))

    all_once : NoneTwice (ids_held (holders_of n))
    all_once = held_once (holders_of n) (λ f is. sound f (duplicate_id f is))

    behind_pages : NoneTwice (ids_held (own ++ objects))
    behind_pages = rest_once (ids_held pages) (ids_held (own ++ objects)) (subst NoneTwice (map-append (λ h. h.id) pages (own ++ objects)) all_once.1)

    declared : NoneTwice (ids_held own)
    declared = front_once (ids_held own) (ids_held objects) (subst NoneTwice (map-append (λ h. h.id) own objects) behind_pages)

-- so it is of the flat net of a document without a fault of ids and links
pub linked_declarations_are_distinct : (tree : Element) (f : Flat) → IsLinked tree f → AreDistinct (names_of f.declarations)
linked_declarations_are_distinct tree f linked =
    subst (λ ds. AreDistinct (names_of ds)) (sym (flat_declarations (net_of tree) f linked.is_flat)) (declared_once (net_of tree) linked.sound.links)
