-- The flat net of a net whose parts can be spelled is such a net.
use Rattle.std.proofs.Common.{◌≡◌, ◌⊎◌, inl, inr, ℕ, zero, suc, true, List, [], ◌∷◌, ◌++◌, append-nil, map, codes, refl, sym, ap, ◌∙◌, subst, arith}
use Rattle.std.specs.List.{AllByRecursion, AllZip, Contains, flat_map}
use Rattle.std.proofs.lemmas.List.{map-append}
use Rattle.pn_facts.proofs.Contained.{contains_at, contains_cases, contains_first, contains_next, contains_nil}
use Rattle.pn_operators.specs.declared.kind.Kind.{Kind}
use Rattle.pn_tree.specs.declared.element.Child.{Child}
use Rattle.pn_tree.specs.declared.element.Element.{Element}
use Rattle.pn_shape.specs.Faults.{IsShaped}
use Rattle.pn_shape.specs.Rules.{is_had, rule_for}
use Rattle.pn_shape.specs.Shaped.{IsPlaced, IsWithinMost}
use Rattle.pn_shape.specs.declared.tag.Tag.TheVariants as tag
use Rattle.pn_shape.proofs.ShapedLemmas.{filled_both}
use Rattle.pn_shape.proofs.WrittenLemmas.{both_all}
use Rattle.pn_syntax.specs.Offsets.{declaration_without_offsets}
use Rattle.pn_syntax.specs.declared.declaration.Declaration.{Declaration}
use Rattle.pn_objects.specs.declared.label.Label.{Label}
use Rattle.pn_objects.specs.declared.net.Net.{Net}
use Rattle.pn_objects.specs.declared.net.Page.{Page}
use Rattle.pn_objects.specs.declared.net.Page.TheOpen as layer
use Rattle.pn_objects.specs.declared.net.Page.TheViews.{out-Page, out-roll-Page}
use Rattle.pn_objects.specs.declared.object.Arc.{Arc}
use Rattle.pn_spelling.specs.ReadDeclarations.{declaration_read, declarations_read}
use Rattle.pn_spelling.specs.WriteDeclarations.{declaration_element, declarations_element}
use Rattle.pn_spelling.specs.Writing.{all_kids, made}
use Rattle.pn_round_trip.specs.Spellable.{AreSpelledDeclarations, IsSpellableArc, IsSpellableDeclaration, IsSpellableNet, IsSpellablePage, IsSpellablePlace, IsSpellableTransition, IsSpellableWith}
use Rattle.pn_round_trip.proofs.DeclarationLemmas.{declarations_same_again, declarations_shaped_again}
use Rattle.pn_round_trip.proofs.KidLemmas.{elements_again, elements_shape, shaped_elements}
use Rattle.pn_net.specs.Flattening.{IsFlattened, IsRewired, in_one, page_of_objects}
use Rattle.pn_net.specs.Objects.{declared_by, in_page, net_arcs, net_declarations, net_places, net_transitions}
use Rattle.pn_pages.proofs.GatherLemmas.{own_layer, page_law}

-- ---- declarations side by side

joined : List Child → List Child → Element
joined xs ys = made (codes "declarations") [] (xs ++ ys)

both_shaped : (k : Kind) (xs ys : List Child) → IsShaped k tag.Declarations (made (codes "declarations") [] xs) → IsShaped k tag.Declarations (made (codes "declarations") [] ys) → IsShaped k tag.Declarations (joined xs ys)
unfolding joined rule_for
both_shaped k xs ys first second =
    let a = elements_shape k tag.Declarations (made (codes "declarations") [] xs) refl first in
    let b = elements_shape k tag.Declarations (made (codes "declarations") [] ys) refl second in
    shaped_elements k tag.Declarations (made (codes "declarations") [] (xs ++ ys)) refl (record {
      attrs = tt;
      lacks = a.lacks;
      text = refl;
      kids = both_all (IsPlaced k (rule_for tag.Declarations)) xs ys a.kids b.kids;
      most = most;
      least = λ i s at had. omega (arith, a.least i s at had, filled_both k (rule_for tag.Declarations).slots i xs ys);
    })
  where
    most : (i : ℕ) → IsWithinMost k (rule_for tag.Declarations) (xs ++ ys) i
    most zero = tt
    most (suc zero) = tt
    most (suc (suc zero)) = tt
    most (suc (suc (suc i))) = tt

abbrev bare : List Declaration → List (Declaration)
bare = map declaration_without_offsets

read_again : (ds : List Declaration) → declarations_read (declarations_element ds) ≡ map declaration_read (map declaration_element ds)
read_again ds = ap (map declaration_read) (elements_again (map declaration_element ds))

-- they are spelled side by side
both_spelled : (k : Kind) (ds es : List Declaration) → is_had k tag.Declaration ≡ true → AreSpelledDeclarations k ds → AreSpelledDeclarations k es → AreSpelledDeclarations k (ds ++ es)
unfolding joined
both_spelled k ds es had (x, shaped, same) (y, also, alike) =
    let kids : all_kids declaration_element (ds ++ es) ≡ all_kids declaration_element ds ++ all_kids declaration_element es =
    ap (map _) (map-append declaration_element ds es) ∙ map-append _ (map declaration_element ds) (map declaration_element es) in
    let whole : IsShaped k tag.Declarations (declarations_element (ds ++ es)) =
    subst (λ ks. IsShaped k tag.Declarations (made (codes "declarations") [] ks)) (sym kids)
    (both_shaped k (all_kids declaration_element ds) (all_kids declaration_element es) (declarations_shaped_again k x ds had shaped same) (declarations_shaped_again k y es had also alike)) in
    let left : bare (map declaration_read (map declaration_element ds)) ≡ bare ds = sym (ap bare (read_again ds)) ∙ declarations_same_again k x ds had shaped same in
    let right : bare (map declaration_read (map declaration_element es)) ≡ bare es = sym (ap bare (read_again es)) ∙ declarations_same_again k y es had also alike in
    let all : bare (declarations_read (declarations_element (ds ++ es))) ≡ bare (ds ++ es) =
    ap bare (read_again (ds ++ es) ∙ ap (map declaration_read) (map-append declaration_element ds es) ∙ map-append declaration_read (map declaration_element ds) (map declaration_element es))
    ∙ map-append declaration_without_offsets (map declaration_read (map declaration_element ds)) (map declaration_read (map declaration_element es))
    ∙ ap (λ zs. zs ++ bare (map declaration_read (map declaration_element es))) left ∙ ap (λ zs. bare ds ++ zs) right ∙ sym (map-append declaration_without_offsets ds es) in
    (declarations_element (ds ++ es), whole, sym all)

-- there are none, or they are spelled where there may be some
AreDeclared : Kind → List Declaration → Type 0
AreDeclared k ds = (ds ≡ []) ⊎ ((is_had k tag.Declaration ≡ true) × AreSpelledDeclarations k ds)

both_declared : (k : Kind) (ds es : List Declaration) → AreDeclared k ds → AreDeclared k es → AreDeclared k (ds ++ es)
unfolding AreDeclared
both_declared k ds es (inl none) right = subst (λ xs. AreDeclared k (xs ++ es)) (sym none) right
both_declared k ds es (inr left) (inl none) = subst (λ ys. AreDeclared k (ds ++ ys)) (sym none) (subst (AreDeclared k) (sym (append-nil ds)) (inr left))
both_declared k ds es (inr left) (inr right) = inr (left.0, both_spelled k ds es left.0 left.1 right.1)

labels_declared : (k : Kind) (ls : List (Label (List Declaration))) → AllByRecursion (IsSpellableDeclaration k) ls → AreDeclared k (declared_by ls)
unfolding AreDeclared
labels_declared k [] all = inl refl
labels_declared k (l ∷ ls) all = both_declared k l.value (declared_by ls) (inr (all.0.0, all.0.1.value)) (labels_declared k ls all.1)

-- ---- objects

all_contained : {A : Type 0} (P : A → Type 0) (xs : List A) → AllByRecursion P xs → (x : A) → Contains xs x → P x
all_contained P [] all x c = absurd (contains_nil x c)
all_contained P (y ∷ ys) all x c = step (contains_cases y ys x c) (all_contained P ys all.1 x)
  where
    step : (y ≡ x) ⊎ Contains ys x → (Contains ys x → P x) → P x
    step (inl same) more = subst P same all.0
    step (inr there) more = more there

both_of : {A : Type 0} (P : List A → Type 0) → P [] → ((xs ys : List A) → P xs → P ys → P (xs ++ ys)) → (f : Page → List A) (ps : List Page) → ((p : Page) → Contains ps p → P (f p)) → P (flat_map f ps)
both_of P none both f [] each = none
both_of P none both f (p ∷ ps) each = both (f p) (flat_map f ps) (each p (contains_first p ps)) (both_of P none both f ps (λ q c. each q (contains_next p ps q c)))

-- what holds of what stands on each page holds of all
module _ {A : Type 0} (k : Kind) (own : layer.Page-F (List A) → List A) (P : List A → Type 0) (none : P []) (both : (xs ys : List A) → P xs → P ys → P (xs ++ ys))
    (pick : (levels : ℕ) (p : Page) → IsSpellableWith k (IsSpellablePage k levels) (out-Page p) → P (own (own_layer own p))) where
  on_page_all : (levels : ℕ) (p : Page) → IsSpellablePage k levels p → P (in_page own p)
  on_page_all zero p is = absurd is
  on_page_all (suc levels) p is =
      subst P (sym (page_law own p)) (both (own (own_layer own p)) (flat_map (in_page own) (out-Page p).pages) (pick levels p is)
      (both_of P none both (in_page own) (out-Page p).pages (λ q c. on_page_all levels q (all_contained (IsSpellablePage k levels) (out-Page p).pages is.pages q c))))

  on_pages_all : (levels : ℕ) (ps : List Page) → AllByRecursion (IsSpellablePage k levels) ps → P (flat_map (in_page own) ps)
  on_pages_all levels ps all = both_of P none both (in_page own) ps (λ q c. on_page_all levels q (all_contained (IsSpellablePage k levels) ps all q c))

module _ (n m : Net) (is : IsFlattened n m) (w : IsSpellableNet n) where
  abbrev k : Kind
  k = n.kind

  places_spelled : AllByRecursion (IsSpellablePlace k) (net_places n)
  places_spelled = on_pages_all k (λ l. l.places) (AllByRecursion (IsSpellablePlace k)) tt (both_all (IsSpellablePlace k)) (λ levels p s. s.places) w.levels n.pages w.pages

  transitions_spelled : AllByRecursion (IsSpellableTransition k) (net_transitions n)
  transitions_spelled = on_pages_all k (λ l. l.transitions) (AllByRecursion (IsSpellableTransition k)) tt (both_all (IsSpellableTransition k)) (λ levels p s. s.transitions) w.levels n.pages w.pages

  arcs_spelled : AllByRecursion (IsSpellableArc k) (net_arcs n)
  arcs_spelled = on_pages_all k (λ l. l.arcs) (AllByRecursion (IsSpellableArc k)) tt (both_all (IsSpellableArc k)) (λ levels p s. s.arcs) w.levels n.pages w.pages

  declarations_spelled : AreDeclared k (net_declarations n)
  unfolding AreDeclared
  declarations_spelled =
      both_declared k (declared_by n.declarations) (flat_map (in_page (λ p. declared_by p.declarations)) n.pages) (labels_declared k n.declarations w.declarations)
      (on_pages_all k (λ l. declared_by l.declarations) (AreDeclared k) (inl refl) (both_declared k) (λ levels p s. labels_declared k (out-Page p).declarations s.declarations) w.levels n.pages w.pages)

  rewired_spelled : (xs ys : List Arc) → AllZip (IsRewired n) xs ys → AllByRecursion (IsSpellableArc k) xs → AllByRecursion (IsSpellableArc k) ys
  rewired_spelled [] [] have all = tt
  rewired_spelled [] (y ∷ ys) have all = absurd have
  rewired_spelled (x ∷ xs) [] have all = absurd have
  rewired_spelled (x ∷ xs) (y ∷ ys) have all = (
    subst (IsSpellableArc k) (sym have.0.is) (record { id = all.0.id; head = all.0.head; weight = all.0.weight; inscription = all.0.inscription; has_inscription = all.0.has_inscription }),
    rewired_spelled xs ys have.1 all.1,
  )

  one_label : (ds : List Declaration) → AreDeclared k ds → AllByRecursion (IsSpellableDeclaration k) (in_one ds)
  unfolding AreDeclared
  one_label [] is_declared = tt
  one_label (d ∷ ds) (inl none) = absurd (let bad : d ∷ ds ≡ [] = none in cc)
  one_label (d ∷ ds) (inr (had, spelled)) = ((had, record { value = spelled; opaque = tt }), tt)

  first_page_is : IsSpellablePage k w.levels is.page
  first_page_is = all_contained (IsSpellablePage k w.levels) n.pages w.pages is.page (contains_at n.pages 0 is.page is.is_first)

  flat_page : Page
  flat_page = page_of_objects (out-Page is.page).id (out-Page is.page).head (net_places n) (net_transitions n) is.arcs

  flat_page_is : (levels : ℕ) → IsSpellablePage k levels is.page → IsSpellablePage k 1 flat_page
  unfolding flat_page
  flat_page_is zero s = absurd s
  flat_page_is (suc levels) s = subst (IsSpellableWith k (IsSpellablePage k 0)) (sym (out-roll-Page _)) (record {
    id = s.id;
    head = s.head;
    declarations = tt;
    places = places_spelled;
    transitions = transitions_spelled;
    place_refs = tt;
    transition_refs = tt;
    arcs = rewired_spelled (net_arcs n) is.arcs is.rewired arcs_spelled;
    pages = tt;
  })

  on_one : Net
  on_one = record {
    id = n.id;
    kind = n.kind;
    prefixes = n.prefixes;
    head = n.head;
    declarations = in_one (net_declarations n);
    pages = flat_page ∷ [];
    at = 0;
  }

  one_is_spellable : IsSpellableNet on_one
  unfolding on_one
  one_is_spellable = record {
    id = w.id;
    prefixes = w.prefixes;
    head = w.head;
    declarations = one_label (net_declarations n) declarations_spelled;
    levels = 1;
    pages = (flat_page_is w.levels first_page_is, tt);
    has_page = omega arith;
  }

  pub flat_is_spellable : IsSpellableNet m
  unfolding on_one flat_page
  flat_is_spellable = subst IsSpellableNet (sym is.is) one_is_spellable
