-- The net that is made for a marking is fit to be written.
use Rattle.std.proofs.Common.{◌≡◌, ◌<◌, ◌≤◌, ℕ, zero, suc, true, List, [], ◌∷◌, map, length, codes, Option, Some, None, IfSome, refl, sym, ap, subst, ◌∙◌, arith}
use Rattle.std.specs.Fmt.{decimal}
use Rattle.std.specs.List.{AllByRecursion, Contains, slice_get}
use Rattle.std.specs.Option.{option_map, unwrap_or}
use Rattle.pn_bag.specs.Bag.{IsBag}
use Rattle.pn_bag.specs.Counts.{Every, count_of}
use Rattle.pn_bag.specs.declared.TheConstants.{MAX_COUNT}
use Rattle.pn_carriers.specs.Members.{IsMember}
use Rattle.pn_checks.proofs.KeptLemmas.{accepted_links}
use Rattle.pn_checks.specs.Initial.{token}
use Rattle.pn_checks.specs.Linked.{IsLinked}
use Rattle.pn_checks.specs.Verdicts.{IsAccepted}
use Rattle.pn_facts.proofs.Contained.{at_contains}
use Rattle.pn_facts.proofs.Lists.{got}
use Rattle.pn_marked.proofs.MarkedLemmas.{sort_of_place_declared}
use Rattle.pn_marked.proofs.WritingLemmas.{within_list}
use Rattle.pn_marked.specs.Marked.{IsMarkedNet, IsMarkedPlace, bag_term, label_of, number_label, values_on}
use Rattle.pn_marking.specs.Totals.{AreTokensOf}
use Rattle.pn_names.specs.Names.{widths_of}
use Rattle.pn_net.specs.Flattening.{net_of_flat}
use Rattle.pn_net.specs.Labels.{IsPlaceSort, said}
use Rattle.pn_net.specs.Orders.{token_cmp}
use Rattle.pn_net.specs.Typed.{IsSortOfPlace}
use Rattle.pn_net.specs.declared.flat.Flat.{Flat}
use Rattle.pn_net.specs.declared.token.Token.{Token}
use Rattle.pn_objects.specs.declared.net.Net.{Net}
use Rattle.pn_objects.specs.declared.net.Page.TheViews.{out-roll-Page}
use Rattle.pn_objects.specs.declared.object.Place.{Place}
use Rattle.pn_operators.specs.Operators.{is_taken}
use Rattle.pn_operators.specs.declared.kind.Kind.{Kind}
use Rattle.pn_operators.specs.declared.kind.Kind.TheVariants as kinds
use Rattle.pn_pages.proofs.SpellableLemmas.{flat_is_spellable}
use Rattle.pn_round_trip.proofs.NetLaws.{net_spellable}
use Rattle.pn_round_trip.proofs.WritableParts.{around_fits, made_fits, one_fits, text_fits}
use Rattle.pn_round_trip.proofs.WritableSorts.{HasSorts}
use Rattle.pn_round_trip.proofs.WritableTexts.{count_text}
use Rattle.pn_round_trip.specs.Spellable.{IsCountLabel, IsHadWith, IsSpellableLabel, IsSpellableNet, IsSpellablePage, IsSpellablePlace, IsSpellableWith, IsSpelledTerm}
use Rattle.pn_shape.proofs.DecimalLemmas.{count_decimal}
use Rattle.pn_shape.specs.Rules.{is_had, rule_for}
use Rattle.pn_shape.specs.declared.tag.Tag.TheVariants as tag
use Rattle.pn_spelling.specs.ReadNets.{net_of}
use Rattle.pn_spelling.specs.WriteNets.{label_element}
use Rattle.pn_spelling.specs.WriteNets as write
use Rattle.pn_spelling.specs.WriteTerms.{term_element}
use Rattle.pn_spelling.specs.Writing.{enclosing, text_element}
use Rattle.pn_syntax.specs.TermOffsets.{term_without_offsets}
use Rattle.pn_syntax.specs.declared.declaration.Declaration.{Declaration}
use Rattle.pn_syntax.specs.declared.term.Term.{Term}
use Rattle.pn_text.specs.Characters.{is_text}
use Rattle.pn_tree.proofs.TreeLemmas.{is_element_more}
use Rattle.pn_tree.specs.Elements.{is_element}
use Rattle.pn_tree.specs.declared.element.Child.TheVariants as children
use Rattle.pn_tree.specs.declared.element.Element.{Element}
use Rattle.pn_values.specs.declared.sort.Sort.{Sort}
use Rattle.pn_values.specs.declared.value.Value.TheVariants as values
use Rattle.pn_documents.specs.Fit.{HasFitSorts}
use Rattle.pn_documents.specs.Written.{IsFitToWrite}
use Rattle.pn_documents.proofs.FaultlessLemmas.{IsFitMarking, flat_faultless, remarked_faultless}
use Rattle.pn_documents.proofs.GroundPlainLemmas.{bag_plain}
use Rattle.pn_documents.proofs.InitialLemmas.{count_on_place, term_on}
use Rattle.pn_documents.proofs.MarkedLemmas.{but_marking, marked_flat, marked_is, marked_same, marked_wired}
use Rattle.pn_documents.proofs.PlainLemmas.{IsPlain, plain_fits, plain_ground, plain_ranges, plain_reads, plain_sorts}
use Rattle.pn_documents.proofs.RemarkedLemmas.{arcs_same, own_flat, own_page, own_page_layer, unmark, with_places}
use Rattle.pn_documents.proofs.RoomLemmas.{HasRoom, all_beside, remarked_writable}
use Rattle.pn_documents.proofs.TokenLemmas.{bag_on, members_on}
use Rattle.pn_documents.proofs.WrittenLemmas.{faultless_net}

-- ---- nets with other initial markings that can be spelled

module _ (f : Flat) (ps : List Place) (same : map unmark ps ≡ map unmark f.places) (size : length ps ≡ length f.places) (w : IsSpellableNet (net_of_flat f))
    (spelled : (i : ℕ) (p q : Place) → slice_get f.places i ≡ Some p → slice_get ps i ≡ Some q → IsSpellablePlace f.kind p → IsSpellablePlace f.kind q) where
  abbrev g : Flat
  g = with_places f ps

  page_spelled : (levels : ℕ) → IsSpellablePage f.kind levels (own_page f) → IsSpellablePage f.kind levels (own_page g)
  page_spelled zero is = absurd is
  page_spelled (suc levels) is =
      let old : IsSpellableWith f.kind (IsSpellablePage f.kind levels) (own_page_layer f) = subst (IsSpellableWith f.kind (IsSpellablePage f.kind levels)) (out-roll-Page (own_page_layer f)) is in
      subst (IsSpellableWith f.kind (IsSpellablePage f.kind levels)) (sym (out-roll-Page (own_page_layer g)))
      (subst (λ arcs. IsSpellableWith f.kind (IsSpellablePage f.kind levels) (record (own_page_layer f) { places = ps; arcs = arcs })) (sym (arcs_same f ps same f.arcs)) (record {
        id = old.id;
        head = old.head;
        declarations = old.declarations;
        places = all_beside (IsSpellablePlace f.kind) (IsSpellablePlace f.kind) f.places ps size spelled old.places;
        transitions = old.transitions;
        place_refs = old.place_refs;
        transition_refs = old.transition_refs;
        arcs = old.arcs;
        pages = old.pages;
      }))

  remarked_spellable : IsSpellableNet (net_of_flat g)
  remarked_spellable = record {
    id = w.id;
    prefixes = w.prefixes;
    head = w.head;
    declarations = w.declarations;
    levels = w.levels;
    pages = (page_spelled w.levels w.pages.0, tt);
    has_page = w.has_page;
  }

-- ---- labels of initial markings

plain_has_number : is_had kinds.PtNet tag.InitialMarking ≡ true
unfolding rule_for
plain_has_number = refl

coloured_has_term : (k : Kind) → HasSorts k → is_had k tag.HlInitialMarking ≡ true
unfolding rule_for
coloured_has_term kinds.PtNet had = absurd cc
coloured_has_term kinds.Symmetric had = refl
coloured_has_term kinds.HighLevel had = refl

number_spelled : (c : ℕ) → c ≤ MAX_COUNT → IfSome (number_label c) (IsHadWith kinds.PtNet tag.InitialMarking (IsCountLabel 0))
number_spelled zero most = tt
number_spelled (suc n) most = (plain_has_number, record { value = (omega arith, omega (arith, most)); text = refl; opaque = tt })

count_is_text : (c : ℕ) → c ≤ MAX_COUNT → is_text (decimal c) ≡ true
count_is_text c most = subst (λ n. is_text (decimal n) ≡ true) (ap (λ o. unwrap_or o 0) (count_decimal c (omega (arith, most)))) (count_text (decimal c))

number_room : (c : ℕ) → c ≤ MAX_COUNT → IfSome (number_label c) (λ l. is_element 252 (write.number_label (codes "initialMarking") l) ≡ true)
number_room zero most = tt
number_room (suc n) most =
    made_fits 251 (codes "initialMarking") [] (children.Element (text_element (decimal (suc n))) ∷ []) refl refl (one_fits 251 (text_element (decimal (suc n))) (text_fits 250 (decimal (suc n)) (count_is_text (suc n) most)))

term_room : (k : Kind) (items : List Declaration) (e : Term) → IsPlain k items 34 e → is_element 252 (label_element (codes "hlinitialMarking") term_element (label_of e)) ≡ true
term_room k items e plain =
    around_fits 251 (codes "hlinitialMarking") (enclosing (codes "structure") (term_element e)) refl
    (around_fits 250 (codes "structure") (term_element e) refl (is_element_more 101 250 (term_element e) (omega arith) (plain_fits k items 34 e plain)))

all_every : {X : Type 0} (P : X → Type 0) (xs : List X) → Every P xs → AllByRecursion P xs
all_every P [] all = tt
all_every P (x ∷ xs) all = (all.0, all_every P xs all.1)

-- ---- the net of a marking

module _ (f : Flat) (m : List (Token × ℕ)) (fit : HasFitSorts f) (tokens : AreTokensOf f m) (is_bag : IsBag token_cmp m) where
  abbrev items : List Declaration
  items = f.declarations

  plain_on : (i : ℕ) (s : Sort) (e : Term) → HasSorts f.kind → IsSortOfPlace f i s → bag_term items s (values_on m i) ≡ Some e → IsPlain f.kind items 34 e
  plain_on i s e had of_place is =
      bag_plain f.kind items had fit.distinct fit.ids s (sort_of_place_declared f i s of_place) (fit.fits i s of_place) (values_on m i) e (bag_on i m is_bag).counted (members_on i f s of_place m tokens) is

  -- what holds of a place with a term for what stands on it
  term_fits : (i : ℕ) (p : Place) (s : Sort) (e : Term) → HasSorts f.kind → slice_get f.places i ≡ Some p → IsPlaceSort items p s → bag_term items s (values_on m i) ≡ Some e → IsFitMarking items p e
  term_fits i p s e had at of_place is =
      let here : IsSortOfPlace f i s = (p, at, of_place) in
      let plain = plain_on i s e had here is in
      let says = term_on f m fit tokens is_bag i s e here is in
      record {
        sort = s;
        of_place = of_place;
        has_sort = says.sort;
        sorts = plain_sorts f.kind items 34 e plain;
        ranges = plain_ranges f.kind items 34 e plain;
        ground = plain_ground f.kind items 34 e plain;
        bag = values_on m i;
        says = (_, says.value, refl);
        members = all_every (λ entry. IsMember (widths_of items) entry.0 s) (values_on m i) (members_on i f s here m tokens);
      }

  coloured_fits : (i : ℕ) (p q : Place) (s : Sort) (e : Term) → HasSorts f.kind → slice_get f.places i ≡ Some p → IsPlaceSort items p s
      → q ≡ record p { marking = None; hl_marking = option_map label_of (bag_term items s (values_on m i)) } → said q.hl_marking ≡ Some e → IsFitMarking items q e
  coloured_fits i p q s e had at of_place is says =
      let term : bag_term items s (values_on m i) ≡ Some e = said_again (bag_term items s (values_on m i)) ∙ sym (ap (λ (x : Place). said x.hl_marking) is) ∙ says in
      let old = term_fits i p s e had at of_place term in
      record { sort = old.sort; of_place = subst (λ (x : Place). IsPlaceSort items x old.sort) (sym is) old.of_place; has_sort = old.has_sort; sorts = old.sorts; ranges = old.ranges; ground = old.ground; bag = old.bag; says = old.says; members = old.members }
    where
      said_again : (o : Option Term) → o ≡ said (option_map label_of o)
      said_again None = refl
      said_again (Some x) = refl

  marking_fits : (k : Kind) → f.kind ≡ k → (i : ℕ) (p q : Place) (e : Term) → slice_get f.places i ≡ Some p → IsMarkedPlace k items m i p q → said q.hl_marking ≡ Some e → IsFitMarking items q e
  marking_fits kinds.PtNet is i p q e at marked says = absurd (let bad : None ≡ Some e = sym (ap (λ (x : Place). said x.hl_marking) marked) ∙ says in cc)
  marking_fits kinds.Symmetric is i p q e at (s, of_place, marked) says = coloured_fits i p q s e (ap (λ k. is_taken kinds.Symmetric k) is) at of_place marked says
  marking_fits kinds.HighLevel is i p q e at (s, of_place, marked) says = coloured_fits i p q s e (ap (λ k. is_taken kinds.Symmetric k) is) at of_place marked says

  -- its label can be spelled, and has room
  term_spelled : (k : Kind) (o : Option Term) → HasSorts k → ((e : Term) → o ≡ Some e → IsPlain k items 34 e) → IfSome (option_map label_of o) (IsHadWith k tag.HlInitialMarking (IsSpellableLabel (IsSpelledTerm k)))
  term_spelled k None had plain = tt
  term_spelled k (Some e) had plain =
      let back = plain_reads k items had 34 e (plain e refl) in
      (coloured_has_term k had, record { value = (term_element e, back.0, ap term_without_offsets (sym back.1)); opaque = tt })

  term_has_room : (k : Kind) (o : Option Term) → ((e : Term) → o ≡ Some e → IsPlain k items 34 e) → IfSome (option_map label_of o) (λ l. is_element 252 (label_element (codes "hlinitialMarking") term_element l) ≡ true)
  term_has_room k None plain = tt
  term_has_room k (Some e) plain = term_room k items e (plain e refl)

  coloured_spelled : (i : ℕ) (p q : Place) (s : Sort) → HasSorts f.kind → slice_get f.places i ≡ Some p → IsPlaceSort items p s
      → q ≡ record p { marking = None; hl_marking = option_map label_of (bag_term items s (values_on m i)) } → IsSpellablePlace f.kind p → IsSpellablePlace f.kind q
  coloured_spelled i p q s had at of_place is old =
      subst (IsSpellablePlace f.kind) (sym is) (record {
        id = old.id;
        head = old.head;
        marking = tt;
        sort = old.sort;
        has_sort = old.has_sort;
        hl_marking = term_spelled f.kind (bag_term items s (values_on m i)) had (λ e there. plain_on i s e had (p, at, of_place) there);
      })

  place_spelled : (k : Kind) → f.kind ≡ k → (i : ℕ) (p q : Place) → slice_get f.places i ≡ Some p → IsMarkedPlace k items m i p q → IsSpellablePlace f.kind p → IsSpellablePlace f.kind q
  place_spelled kinds.PtNet is i p q at marked old =
      subst (IsSpellablePlace f.kind) (sym marked) (record {
        id = old.id;
        head = old.head;
        marking = subst (λ k. IfSome (number_label (count_of token_cmp m (token i values.Dot))) (IsHadWith k tag.InitialMarking (IsCountLabel 0))) (sym is) (number_spelled (count_of token_cmp m (token i values.Dot)) (count_on_place f m fit tokens is_bag i p at is));
        sort = old.sort;
        has_sort = old.has_sort;
        hl_marking = tt;
      })
  place_spelled kinds.Symmetric is i p q at (s, of_place, marked) old = coloured_spelled i p q s (ap (λ k. is_taken kinds.Symmetric k) is) at of_place marked old
  place_spelled kinds.HighLevel is i p q at (s, of_place, marked) old = coloured_spelled i p q s (ap (λ k. is_taken kinds.Symmetric k) is) at of_place marked old

  coloured_room : (i : ℕ) (p q : Place) (s : Sort) → HasSorts f.kind → slice_get f.places i ≡ Some p → IsPlaceSort items p s
      → q ≡ record p { marking = None; hl_marking = option_map label_of (bag_term items s (values_on m i)) } → HasRoom 252 q
  coloured_room i p q s had at of_place is =
      subst (HasRoom 252) (sym is) (record { number = tt; term = term_has_room f.kind (bag_term items s (values_on m i)) (λ e there. plain_on i s e had (p, at, of_place) there) })

  place_room : (k : Kind) → f.kind ≡ k → (i : ℕ) (p q : Place) → slice_get f.places i ≡ Some p → IsMarkedPlace k items m i p q → HasRoom 252 q
  place_room kinds.PtNet is i p q at marked = subst (HasRoom 252) (sym marked) (record { number = number_room (count_of token_cmp m (token i values.Dot)) (count_on_place f m fit tokens is_bag i p at is); term = tt })
  place_room kinds.Symmetric is i p q at (s, of_place, marked) = coloured_room i p q s (ap (λ k. is_taken kinds.Symmetric k) is) at of_place marked
  place_room kinds.HighLevel is i p q at (s, of_place, marked) = coloured_room i p q s (ap (λ k. is_taken kinds.Symmetric k) is) at of_place marked

  module _ (n : Net) (is : IsMarkedNet f m n) where
    -- each place comes from one of the flat net
    place_before : (i : ℕ) (q : Place) → slice_get is.places i ≡ Some q → (p : Place) × (slice_get f.places i ≡ Some p) × IsMarkedPlace f.kind items m i p q
    place_before i q there =
        let p = got f.places i (subst (λ l. i < l) is.marked.size (within_list is.places i q there)) in
        (p.0, p.1, is.marked.each i p.0 q p.1 there)

    all_fit : (q : Place) (e : Term) → Contains is.places q → said q.hl_marking ≡ Some e → IsFitMarking items q e
    all_fit q e c says =
        let at = at_contains is.places q c in
        let before = place_before at.0 q at.1 in
        marking_fits f.kind refl at.0 before.0 q e before.1 before.2 says

    -- the net that is made for a marking of an accepted document is fit to be written
    pub marked_fit : (tree : Element) → IsAccepted tree → IsLinked tree f → IsFitToWrite n n
    marked_fit tree accepted from =
        let same = marked_same f m n is in
        let spells = (accepted_links tree accepted).spells in
        let old = flat_is_spellable (net_of tree) (net_of_flat f) from.is_flat (net_spellable tree (net_of tree) spells refl) in
        subst (λ x. IsFitToWrite x x) (sym (marked_is f m n is)) (record {
          flattened = own_flat (marked_flat f m n is) (marked_wired f m n is from.wired);
          faultless = remarked_faultless f is.places same (flat_faultless (net_of tree) (net_of_flat f) from.is_flat (faultless_net tree accepted)) all_fit;
          spellable = remarked_spellable f is.places same is.marked.size old (λ i p q at there. place_spelled f.kind refl i p q at (is.marked.each i p q at there));
          writable = remarked_writable f is.places same is.marked.size from.writable
              (λ i p q at there. let marked = is.marked.each i p q at there in (but_marking f.kind f m i p q marked, place_room f.kind refl i p q at marked));
        })
