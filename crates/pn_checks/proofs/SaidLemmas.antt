-- Which elements of a document the types and the terms of its labels come from; where offsets rise, a term stands in one label.
use Rattle.std.proofs.Common.{◌≡◌, ℕ, ◌<◌, ◌≤◌, List, [], ◌∷◌, ◌++◌, codes, Option, None, Some, IfSome, true, refl, sym, ap, ◌∙◌, subst, arith}
use Rattle.std.specs.Prelude.{if◌then◌else◌}
use Rattle.std.specs.List.{AllByRecursion, Contains, cons_option, filter_map, flat_map}
use Rattle.std.specs.Option.{option_map, unwrap_or}
use Rattle.std.specs.Str.{bytes_eq}
use Rattle.std.proofs.lemmas.Slice.Eq.{bytes_eq-Decides}
use Rattle.pn_facts.proofs.Contained.{contains_at}
use Rattle.pn_facts.proofs.Each.{each, one_of}
use Rattle.pn_faults.specs.Rising.{Rise}
use Rattle.pn_faults.proofs.RisingLemmas.{IsWithin, itself, inside, of_one, place_offset, rise_one, rise_rest}
use Rattle.pn_markup.specs.Offsets.{HasRisingOffsets, offsets_of}
use Rattle.pn_net.specs.Labels.{condition_terms, inscription_terms, marking_terms, net_terms, said, type_exprs}
use Rattle.pn_net.specs.Objects.{net_arcs, net_places, net_transitions}
use Rattle.pn_objects.specs.declared.object.Arc.{Arc}
use Rattle.pn_objects.specs.declared.object.Place.{Place}
use Rattle.pn_objects.specs.declared.object.Transition.{Transition}
use Rattle.pn_pages.proofs.ApartLemmas.{offset_in, offsets_law, rise_of}
use Rattle.pn_round_trip.proofs.KidLemmas.{shallower}
use Rattle.pn_shape.proofs.WrittenLemmas.{both_all}
use Rattle.pn_spelling.specs.Parts.{child_elements, child_named, first_child, has_name}
use Rattle.pn_spelling.specs.ReadNets.{arc_read, child_or_self, inner_or_self, net_of, place_read, sort_label, structured, term_label, transition_read}
use Rattle.pn_spelling.specs.ReadTerms.{term_read}
use Rattle.pn_spelling.proofs.ReadLemmas.{term_read_is}
use Rattle.pn_syntax.specs.declared.sort_expr.SortExpr.{SortExpr}
use Rattle.pn_syntax.specs.declared.term.Term.{Term}
use Rattle.pn_tree.specs.Depth.{depth_of}
use Rattle.pn_tree.specs.declared.element.Element.{Element}
use Rattle.pn_checks.proofs.HeldLemmas.{one_element}
use Rattle.pn_checks.proofs.SourceLemmas.{ComesFrom, IsSpelled, all_contained, arcs_from, inner_within, or_self_within, places_from, transitions_from, within_kid}
use Rattle.pn_checks.proofs.SpelledLemmas.{IsSortIn, found, said_sort}

-- ---- what labels say

-- what an element may be to a term by its name: 1 the `structure` around it, 2 its label, 3 the object of its label
abbrev pub rank_of : List ℕ → ℕ
rank_of name =
    if bytes_eq name (codes "structure") then 1 else (
    if bytes_eq name (codes "condition") then 2 else (if bytes_eq name (codes "hlinitialMarking") then 2 else (if bytes_eq name (codes "hlinscription") then 2 else 3)))

-- the term is what stands in a label of this name, of an object in the element
pub record IsSaid (root : Element) (name : List ℕ) (t : Term) : Type 0 where
  pub object : Element
  pub within : IsWithin child_elements root object
  pub object_rank : rank_of object.name ≡ 3
  pub label : Element
  pub there : Contains (child_elements object) label
  pub named : label.name ≡ name
  pub label_rank : rank_of name ≡ 2
  pub is : t ≡ term_read (structured label)

said_all : {X Y : Type 0} (P : Y → Type 0) (f : X → Option Y) (xs : List X) → AllByRecursion (λ x. IfSome (f x) P) xs → AllByRecursion P (filter_map f xs)
said_all P f [] all = tt
said_all P f (x ∷ xs) all = by (f x) all.0 (said_all P f xs all.1)
  where
    by : (o : Option _) → IfSome o P → AllByRecursion P (filter_map f xs) → AllByRecursion P (cons_option o (filter_map f xs))
    by None have rest = rest
    by (Some y) have rest = (have, rest)

module _ (root : Element) where
  -- what stands in a label is within
  structured_within : (k : Element) → IsWithin child_elements root k → IsWithin child_elements root (structured k)
  structured_within k within = inner_within root (child_or_self (codes "structure") k) (or_self_within (codes "structure") root k within)

  pub label_spelled : (name : List ℕ) (t : Term) → IsSaid root name t → IsSpelled term_read root t
  label_spelled name t from = record { source = structured from.label; within = structured_within from.label (within_kid root from.object from.label from.within from.there); is = from.is }

  -- the term in a label of an object
  term_said : (object name : List ℕ) (y : Element) → rank_of object ≡ 3 → rank_of name ≡ 2 → IsWithin child_elements root y → has_name object y ≡ true → IfSome (said (option_map term_label (child_named name y))) (IsSaid root name)
  term_said object name y rank label_rank within named = by (child_named name y) (found (has_name name) (child_elements y))
    where
      by : (o : Option Element) → IfSome o (λ x. Contains (child_elements y) x × (has_name name x ≡ true)) → IfSome (said (option_map term_label o)) (IsSaid root name)
      by None have = tt
      by (Some k) have = record {
        object = y;
        within = within;
        object_rank = ap rank_of ((bytes_eq-Decides y.name object).0 named) ∙ rank;
        label = k;
        there = have.0;
        named = (bytes_eq-Decides k.name name).0 have.1;
        label_rank = label_rank;
        is = refl;
      }

  pub place_says : (p : Place) → Contains (net_places (net_of root)) p → IfSome (said p.hl_marking) (IsSaid root (codes "hlinitialMarking"))
  place_says p there =
      let from = one_of (ComesFrom (codes "place") place_read root) (net_places (net_of root)) p (places_from root) there in
      subst (λ (q : Place). IfSome (said q.hl_marking) (IsSaid root (codes "hlinitialMarking"))) (sym from.is)
      (term_said (codes "place") (codes "hlinitialMarking") from.source refl refl from.within from.named)

  transition_says : (t : Transition) → Contains (net_transitions (net_of root)) t → IfSome (said t.condition) (IsSaid root (codes "condition"))
  transition_says t there =
      let from = one_of (ComesFrom (codes "transition") transition_read root) (net_transitions (net_of root)) t (transitions_from root) there in
      subst (λ (q : Transition). IfSome (said q.condition) (IsSaid root (codes "condition"))) (sym from.is)
      (term_said (codes "transition") (codes "condition") from.source refl refl from.within from.named)

  pub arc_says : (a : Arc) → Contains (net_arcs (net_of root)) a → IfSome (said a.inscription) (IsSaid root (codes "hlinscription"))
  arc_says a there =
      let from = one_of (ComesFrom (codes "arc") arc_read root) (net_arcs (net_of root)) a (arcs_from root) there in
      subst (λ (q : Arc). IfSome (said q.inscription) (IsSaid root (codes "hlinscription"))) (sym from.is)
      (term_said (codes "arc") (codes "hlinscription") from.source refl refl from.within from.named)

  markings_said : AllByRecursion (IsSaid root (codes "hlinitialMarking")) (marking_terms (net_of root))
  markings_said = said_all (IsSaid root (codes "hlinitialMarking")) (λ (p : Place). said p.hl_marking) (net_places (net_of root)) (all_contained (λ p. IfSome (said p.hl_marking) (IsSaid root (codes "hlinitialMarking"))) (net_places (net_of root)) place_says)

  conditions_said : AllByRecursion (IsSaid root (codes "condition")) (condition_terms (net_of root))
  conditions_said = said_all (IsSaid root (codes "condition")) (λ (t : Transition). said t.condition) (net_transitions (net_of root)) (all_contained (λ t. IfSome (said t.condition) (IsSaid root (codes "condition"))) (net_transitions (net_of root)) transition_says)

  inscriptions_said : AllByRecursion (IsSaid root (codes "hlinscription")) (inscription_terms (net_of root))
  inscriptions_said = said_all (IsSaid root (codes "hlinscription")) (λ (a : Arc). said a.inscription) (net_arcs (net_of root)) (all_contained (λ a. IfSome (said a.inscription) (IsSaid root (codes "hlinscription"))) (net_arcs (net_of root)) arc_says)

  pub condition_said : (t : Term) → Contains (condition_terms (net_of root)) t → IsSaid root (codes "condition") t
  condition_said t there = one_of (IsSaid root (codes "condition")) (condition_terms (net_of root)) t conditions_said there

  pub marking_said : (t : Term) → Contains (marking_terms (net_of root)) t → IsSaid root (codes "hlinitialMarking") t
  marking_said t there = one_of (IsSaid root (codes "hlinitialMarking")) (marking_terms (net_of root)) t markings_said there

  spelled_terms : (name : List ℕ) (ts : List Term) → AllByRecursion (IsSaid root name) ts → AllByRecursion (IsSpelled term_read root) ts
  spelled_terms name ts all = each (IsSaid root name) (IsSpelled term_read root) (label_spelled name) ts all

  pub term_from : (t : Term) → Contains (net_terms (net_of root)) t → IsSpelled term_read root t
  term_from t there =
      let n = net_of root in
      one_of (IsSpelled term_read root) (net_terms n) t
      (both_all (IsSpelled term_read root) (marking_terms n) (condition_terms n ++ inscription_terms n) (spelled_terms (codes "hlinitialMarking") (marking_terms n) markings_said)
      (both_all (IsSpelled term_read root) (condition_terms n) (inscription_terms n) (spelled_terms (codes "condition") (condition_terms n) conditions_said) (spelled_terms (codes "hlinscription") (inscription_terms n) inscriptions_said))) there

  -- the type of a place
  type_said : (y : Element) → IsWithin child_elements root y → IfSome (said (option_map sort_label (child_named (codes "type") y))) (IsSortIn root)
  type_said y within = by (child_named (codes "type") y) (found (has_name (codes "type")) (child_elements y))
    where
      by : (o : Option Element) → IfSome o (λ x. Contains (child_elements y) x × (has_name (codes "type") x ≡ true)) → IfSome (said (option_map sort_label o)) (IsSortIn root)
      by None have = tt
      by (Some k) have = said_sort root (structured k) (structured_within k (within_kid root y k within have.0))

  place_typed : (p : Place) → Contains (net_places (net_of root)) p → IfSome (said p.sort) (IsSortIn root)
  place_typed p there =
      let from = one_of (ComesFrom (codes "place") place_read root) (net_places (net_of root)) p (places_from root) there in
      subst (λ (q : Place). IfSome (said q.sort) (IsSortIn root)) (sym from.is) (type_said from.source from.within)

  pub type_from : (s : SortExpr) → Contains (type_exprs (net_of root)) s → IsSortIn root s
  type_from s there =
      one_of (IsSortIn root) (type_exprs (net_of root)) s
      (said_all (IsSortIn root) (λ (p : Place). said p.sort) (net_places (net_of root)) (all_contained (λ p. IfSome (said p.sort) (IsSortIn root)) (net_places (net_of root)) place_typed)) there

-- ---- an element stands in one

abbrev OffsetsRise : Element → Type 0
OffsetsRise e = Rise (offsets_of e)

rises_in : (e : Element) → OffsetsRise e → Rise (flat_map offsets_of (child_elements e))
rises_in e rises = rise_rest (e.at ∷ []) (flat_map offsets_of (child_elements e)) (subst Rise (offsets_law e) rises)

kid_less : (e x : Element) → Contains (child_elements e) x → depth_of x < depth_of e
kid_less e x there = one_of (λ z. depth_of z < depth_of e) (child_elements e) x (shallower e) there

within_less : (e x : Element) → IsWithin child_elements e x → depth_of x ≤ depth_of e
within_less e x (itself _ _ same) = omega (arith, ap depth_of same)
within_less e x (inside _ _ p there rest) = omega (arith, kid_less e p there, within_less p x rest)

-- a kid of an element stands in no kid of it
not_beneath : (e k q x : Element) → OffsetsRise e → Contains (child_elements e) k → IsWithin child_elements k q → Contains (child_elements e) x → Contains (child_elements q) x → ⊥
not_beneath e k q x rises there rest here below =
    let same : x ≡ k = of_one offsets_of (child_elements e) (rises_in e rises) x k x.at here there (offset_in x x (itself x x refl)) (offset_in k x (within_kid k q x rest below)) in
    let less : depth_of x < depth_of q = kid_less q x below in
    let most : depth_of q ≤ depth_of k = within_less k q rest in
    omega (arith, less, most, ap depth_of same)

one_around : (e p q x : Element) → OffsetsRise e → IsWithin child_elements e p → IsWithin child_elements e q → Contains (child_elements p) x → Contains (child_elements q) x → p ≡ q
one_around e p q x rises (itself _ _ is) (itself _ _ also) c d = is ∙ sym also
one_around e p q x rises (itself _ _ is) (inside _ _ k there rest) c d = absurd (not_beneath e k q x rises there rest (subst (λ z. Contains (child_elements z) x) is c) d)
one_around e p q x rises (inside _ _ k there rest) (itself _ _ is) c d = absurd (not_beneath e k p x rises there rest (subst (λ z. Contains (child_elements z) x) is d) c)
one_around e p q x rises (inside _ _ k there rest) (inside _ _ l also more) c d =
    let same : l ≡ k = of_one offsets_of (child_elements e) (rises_in e rises) l k x.at also there (offset_in l x (within_kid l q x more d)) (offset_in k x (within_kid k p x rest c)) in
    one_around k p q x (rise_one offsets_of (child_elements e) k there (rises_in e rises)) rest (subst (λ z. IsWithin child_elements z q) same more) c d

-- ---- a term stands in one label

-- where the element of a term stands in its label
data StandsUnder (label x : Element) : Type 0 where
  as_label : x ≡ label → StandsUnder label x
  in_label : Contains (child_elements label) x → StandsUnder label x
  in_structure : (s : Element) → Contains (child_elements label) s → rank_of s.name ≡ 1 → Contains (child_elements s) x → StandsUnder label x

stands_in : (label : Element) → StandsUnder label (structured label)
stands_in label = by (child_named (codes "structure") label) (found (has_name (codes "structure")) (child_elements label))
  where
    alone : (o : Option Element) → first_child label ≡ o → StandsUnder label (unwrap_or o label)
    alone None is = as_label refl
    alone (Some x) is = in_label (contains_at (child_elements label) 0 x is)

    deeper : (s : Element) → Contains (child_elements label) s → rank_of s.name ≡ 1 → (o : Option Element) → first_child s ≡ o → StandsUnder label (unwrap_or o s)
    deeper s there rank None is = in_label there
    deeper s there rank (Some x) is = in_structure s there rank (contains_at (child_elements s) 0 x is)

    by : (o : Option Element) → IfSome o (λ x. Contains (child_elements label) x × (has_name (codes "structure") x ≡ true)) → StandsUnder label (inner_or_self (unwrap_or o label))
    by None have = alone (first_child label) refl
    by (Some s) have = deeper s have.0 (ap rank_of ((bytes_eq-Decides s.name (codes "structure")).0 have.1)) (first_child s) refl

module _ (root : Element) (rising : HasRisingOffsets root) where
  one_parent : (p q x : Element) → IsWithin child_elements root p → IsWithin child_elements root q → Contains (child_elements p) x → Contains (child_elements q) x → p ≡ q
  one_parent p q x = one_around root p q x (rise_of (offsets_of root) rising)

  ranks : (m n : ℕ) (p q : Element) → p ≡ q → rank_of p.name ≡ m → rank_of q.name ≡ n → m ≡ n
  ranks m n p q same first second = sym first ∙ ap (λ (z : Element). rank_of z.name) same ∙ second

  module _ (name : List ℕ) (t : Term) (a : IsSaid root name t) where
    label_in : IsWithin child_elements root a.label
    label_in = within_kid root a.object a.label a.within a.there

    rank : rank_of a.label.name ≡ 2
    rank = ap rank_of a.named ∙ a.label_rank

  one_name : (name other : List ℕ) (t u : Term) (a : IsSaid root name t) (b : IsSaid root other u) → a.label ≡ b.label → name ≡ other
  one_name name other t u a b same = sym a.named ∙ ap (λ (z : Element). z.name) same ∙ b.named

  -- labels around one element are of one name
  around : (name other : List ℕ) (t u : Term) (a : IsSaid root name t) (b : IsSaid root other u) (x : Element) → StandsUnder a.label x → StandsUnder b.label x → name ≡ other
  around name other t u a b x (as_label is) (as_label also) = one_name name other t u a b (sym is ∙ also)
  around name other t u a b x (as_label is) (in_label c) =
      let same = one_parent a.object b.label x a.within (label_in other u b) (subst (Contains (child_elements a.object)) (sym is) a.there) c in
      absurd (let bad : 3 ≡ 2 = ranks 3 2 a.object b.label same a.object_rank (rank other u b) in omega (arith, bad))
  around name other t u a b x (as_label is) (in_structure s d one c) =
      let same = one_parent a.object s x a.within (within_kid root b.label s (label_in other u b) d) (subst (Contains (child_elements a.object)) (sym is) a.there) c in
      absurd (let bad : 3 ≡ 1 = ranks 3 1 a.object s same a.object_rank one in omega (arith, bad))
  around name other t u a b x (in_label c) (as_label is) =
      let same = one_parent a.label b.object x (label_in name t a) b.within c (subst (Contains (child_elements b.object)) (sym is) b.there) in
      absurd (let bad : 2 ≡ 3 = ranks 2 3 a.label b.object same (rank name t a) b.object_rank in omega (arith, bad))
  around name other t u a b x (in_label c) (in_label d) = one_name name other t u a b (one_parent a.label b.label x (label_in name t a) (label_in other u b) c d)
  around name other t u a b x (in_label c) (in_structure s d one k) =
      let same = one_parent a.label s x (label_in name t a) (within_kid root b.label s (label_in other u b) d) c k in
      absurd (let bad : 2 ≡ 1 = ranks 2 1 a.label s same (rank name t a) one in omega (arith, bad))
  around name other t u a b x (in_structure s d one k) (as_label is) =
      let same = one_parent s b.object x (within_kid root a.label s (label_in name t a) d) b.within k (subst (Contains (child_elements b.object)) (sym is) b.there) in
      absurd (let bad : 1 ≡ 3 = ranks 1 3 s b.object same one b.object_rank in omega (arith, bad))
  around name other t u a b x (in_structure s d one k) (in_label c) =
      let same = one_parent s b.label x (within_kid root a.label s (label_in name t a) d) (label_in other u b) k c in
      absurd (let bad : 1 ≡ 2 = ranks 1 2 s b.label same one (rank other u b) in omega (arith, bad))
  around name other t u a b x (in_structure s d one k) (in_structure r c two l) =
      let same : s ≡ r = one_parent s r x (within_kid root a.label s (label_in name t a) d) (within_kid root b.label r (label_in other u b) c) k l in
      one_name name other t u a b (one_parent a.label b.label s (label_in name t a) (label_in other u b) d (subst (Contains (child_elements b.label)) (sym same) c))

  -- so are labels whose terms stand at one offset
  pub one_label : (name other : List ℕ) (t u : Term) → IsSaid root name t → IsSaid root other u → t.at ≡ u.at → name ≡ other
  one_label name other t u a b same =
      let element : structured a.label ≡ structured b.label =
      one_element root rising (structured a.label) (structured b.label) (structured_within root a.label (label_in name t a)) (structured_within root b.label (label_in other u b)) (sym (term_at name t a) ∙ same ∙ term_at other u b) in
      around name other t u a b (structured a.label) (stands_in a.label) (subst (StandsUnder b.label) (sym element) (stands_in b.label))
    where
      term_at : (label : List ℕ) (v : Term) (from : IsSaid root label v) → v.at ≡ (structured from.label).at
      term_at label v from = ap (λ (w : Term). w.at) (from.is ∙ term_read_is (structured from.label))
