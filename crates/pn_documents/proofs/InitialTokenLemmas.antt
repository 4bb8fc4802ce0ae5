-- Each token of the initial marking of a document that is accepted has a value of its place's sort.
use Rattle.std.proofs.Common.{◌≡◌, inl, inr, ◌<◌, ◌≤◌, ℕ, true, false, List, [], ◌∷◌, ◌++◌, codes, Option, None, Some, IfSome, refl, sym, ap, ◌∙◌, subst, arith}
use Rattle.std.specs.List.{Contains, slice_get}
use Rattle.std.proofs.lemmas.List.Elements.{Contains-append_left}
use Rattle.pn_bag.proofs.Canonical.{entries_count, has_entry}
use Rattle.pn_bag.proofs.Everywhere.{every_both}
use Rattle.pn_bag.specs.Algebra.{HasKey}
use Rattle.pn_bag.specs.Counts.{count_of}
use Rattle.pn_bag.specs.declared.TheConstants.{MAX_COUNT}
use Rattle.pn_carriers.specs.Members.{IsMember, is_member}
use Rattle.pn_checks.proofs.FlatLemmas.{flat_declarations, flat_places_are}
use Rattle.pn_checks.proofs.KeptLemmas.{accepted_links}
use Rattle.pn_checks.proofs.MarkLemmas.{says_once}
use Rattle.pn_checks.proofs.PlainLemmas.{pages_all}
use Rattle.pn_checks.proofs.TypingLemmas.{there}
use Rattle.pn_checks.specs.Initial.{IsFirstBy, IsInitial, IsMarked}
use Rattle.pn_checks.specs.Linked.{IsLinked}
use Rattle.pn_checks.specs.NoValue.{AreOfSort, HasNoVariable, LacksValue, SaysMultiset}
use Rattle.pn_checks.specs.Verdicts.{IsAccepted}
use Rattle.pn_eval.proofs.MemberLemmas.{dot_member}
use Rattle.pn_eval.proofs.OnceLemmas.{value_once}
use Rattle.pn_eval.specs.Outcomes.{multiset_of}
use Rattle.pn_facts.proofs.Contained.{contains_at}
use Rattle.pn_facts.proofs.Each.{one_of}
use Rattle.pn_faults.specs.declared.reason.Reason.TheVariants as reasons
use Rattle.pn_faults.specs.Order.{fault_at}
use Rattle.pn_marking.specs.Totals.{AreTokensOf, IsTokenOf}
use Rattle.pn_names.specs.Names.{widths_of}
use Rattle.pn_net.specs.Labels.{IsPlaceSort, IsSortBy, condition_terms, inscription_terms, marking_terms, net_terms, said}
use Rattle.pn_net.specs.Objects.{net_declarations, net_places}
use Rattle.pn_net.specs.Orders.{token_cmp, tokens_total}
use Rattle.pn_net.specs.Typing.{IsTermOver, declared, not_ground, of_marking, of_type}
use Rattle.pn_net.specs.Typing as typing
use Rattle.pn_net.specs.declared.flat.Flat.{Flat}
use Rattle.pn_net.specs.declared.token.Token.{Token}
use Rattle.pn_objects.specs.declared.label.Label.{Label}
use Rattle.pn_objects.specs.declared.net.Net.{Net}
use Rattle.pn_objects.specs.declared.object.Place.{Place}
use Rattle.pn_operations.specs.declared.outcome.Outcome.{Outcome}
use Rattle.pn_operators.specs.declared.kind.Kind.{Kind}
use Rattle.pn_operators.specs.declared.kind.Kind.TheVariants as kinds
use Rattle.pn_resolve.specs.Standing.{StandsInSort}
use Rattle.pn_round_trip.proofs.NetLaws.{net_spellable}
use Rattle.pn_round_trip.specs.Spellable.{IsCountLabel, IsHadWith, IsSpellableLabel, IsSpellableNet, IsSpellablePlace, IsSpelledSort}
use Rattle.pn_shape.specs.Rules.{is_had, rule_for}
use Rattle.pn_shape.specs.declared.tag.Tag.TheVariants as tag
use Rattle.pn_sorts.specs.Standing.{IsFaultless, Stands}
use Rattle.pn_spelling.specs.ReadNets.{net_of}
use Rattle.pn_syntax.specs.declared.declaration.Declaration.{Declaration}
use Rattle.pn_syntax.specs.declared.sort_expr.SortExpr.{SortExpr}
use Rattle.pn_syntax.specs.declared.term.Term.{Term}
use Rattle.pn_syntax.specs.declared.term.TermNode.TheVariants.{rolls-Variable}
use Rattle.pn_syntax.specs.declared.term.TermNode.TheViews.{roll-TermNode, roll-out-TermNode}
use Rattle.pn_terms.proofs.SortLemmas.{true_is_not_false}
use Rattle.pn_terms.specs.Sorts.{HasSort}
use Rattle.pn_terms.specs.Standing.{SortStandsIn, StandsIn}
use Rattle.pn_terms.specs.declared.term_sort.TermSort.{TermSort}
use Rattle.pn_tree.specs.declared.element.Element.{Element}
use Rattle.pn_values.specs.Order.{value_cmp}
use Rattle.pn_values.specs.OrderLaws.{values_apart}
use Rattle.pn_values.specs.declared.sort.Sort.{Sort}
use Rattle.pn_values.specs.declared.sort.Sort.TheVariants as sorts
use Rattle.pn_values.specs.declared.value.Value.{Value}
use Rattle.pn_values.specs.declared.value.Value.TheVariants as values
use Rattle.pn_documents.specs.Written.{IsFaultlessNet}
use Rattle.pn_documents.proofs.ResolvedLemmas.{has_sort}
use Rattle.pn_documents.proofs.SortedLemmas.{IsSoundTerm, IsSure, IsThing, passes, sorted}
use Rattle.pn_documents.proofs.WrittenLemmas.{faultless_net}

-- ---- members

-- one key of a multiset over a sort
member_in : (items : List Declaration) (s : Sort) (bag : List (Value × ℕ)) (v : Value) → AreOfSort items s bag → HasKey value_cmp bag v → IsMember (widths_of items) v s
member_in items s [] v all has = absurd has
member_in items s (entry ∷ bag) v all (inl same) = subst (λ w. IsMember (widths_of items) w s) (sym (values_apart v entry.0 same)) all.0
member_in items s (entry ∷ bag) v all (inr later) = member_in items s bag v all.1 later

-- what says a multiset is a value or one
thing : (o : Outcome) (bag : List (Value × ℕ)) → multiset_of o ≡ Some bag → IsThing o
thing o bag is none = let bad : None ≡ Some bag = sym (ap multiset_of none) ∙ is in cc

-- ---- places with a number have no type

plain_has_no_type : (k : Kind) → is_had k tag.InitialMarking ≡ true → is_had k tag.Type ≡ false
unfolding rule_for
plain_has_no_type kinds.PtNet had = refl
plain_has_no_type kinds.Symmetric had = absurd cc
plain_has_no_type kinds.HighLevel had = absurd cc

number_had : (k : Kind) (l : Option (Label ℕ)) (n : ℕ) → IfSome l (IsHadWith k tag.InitialMarking (IsCountLabel 0)) → said l ≡ Some n → is_had k tag.InitialMarking ≡ true
number_had k None n is says = absurd cc
number_had k (Some l) n is says = is.0

type_said : (k : Kind) (l : Option (Label SortExpr)) → IfSome l (IsHadWith k tag.Type (IsSpellableLabel (IsSpelledSort k))) → is_had k tag.Type ≡ false → said l ≡ None
type_said k None is lacks = refl
type_said k (Some l) is lacks = absurd (let bad : true ≡ false = sym is.0 ∙ lacks in cc)

-- ---- an accepted document

module _ (tree : Element) (f : Flat) (accepted : IsAccepted tree) (linked : IsLinked tree f) where
  abbrev items : List Declaration
  items = f.declarations

  abbrev n : Net
  n = net_of tree

  fine : IsFaultlessNet n
  fine = faultless_net tree accepted

  same : items ≡ net_declarations n
  same = flat_declarations n f linked.is_flat

  faultless : IsFaultless items
  faultless x stands = fine.sorts x (declared x (subst (λ ds. Stands ds x) same stands))

  spelled : (p : Place) → Contains (net_places n) p → IsSpellablePlace n.kind p
  spelled p c =
      let such : IsSpellableNet n = net_spellable tree n (accepted_links tree accepted).spells refl in
      one_of (IsSpellablePlace n.kind) (net_places n) p (pages_all n.kind (IsSpellablePlace n.kind) (λ q. q.places) (λ S q is. is.places) such.levels n.pages such.pages) c

  -- each place has a sort
  place_has_sort : (p : Place) → Contains (net_places n) p → (s : Sort) × IsPlaceSort items p s
  place_has_sort p c = by (said p.sort) refl
    where
      by : (o : Option SortExpr) → said p.sort ≡ o → (s : Sort) × IsPlaceSort items p s
      by None is = (sorts.Dot, subst (λ o. IsSortBy items o sorts.Dot) (sym is) refl)
      by (Some e) is =
          let has = has_sort items faultless e (λ x stands. fine.sorts x (of_type x e (there (λ (q : Place). said q.sort) (net_places n) p e c is) (subst (λ ds. StandsInSort ds e x) same stands))) in
          (has.0, subst (λ o. IsSortBy items o has.0) (sym is) has.1)

  module _ (p : Place) (c : Contains (net_places n) p) (s : Sort) (of_place : IsPlaceSort items p s) where
    -- the one value is of the sort of a place with a number
    number_member : (count : ℕ) → said p.marking ≡ Some count → IsMember (widths_of items) values.Dot s
    number_member count says =
        let is = spelled p c in
        let none = type_said n.kind p.sort is.sort (plain_has_no_type n.kind (number_had n.kind p.marking count is.marking says)) in
        let dot : s ≡ sorts.Dot = subst (λ o. IsSortBy items o s) none of_place in
        subst (IsMember (widths_of items) values.Dot) (sym dot) (dot_member (widths_of items))

    module _ (e : Term) (is_marking : said p.hl_marking ≡ Some e) where
      among : Contains (marking_terms n) e
      among = there (λ (q : Place). said q.hl_marking) (net_places n) p e c is_marking

      in_net : Contains (net_terms n) e
      in_net = Contains-append_left (marking_terms n) (condition_terms n ++ inscription_terms n) e among

      sound : IsSoundTerm items faultless e
      sound = record {
        typing = λ x stands. fine.typing x (typing.of_term x e in_net (subst (λ ds. StandsIn ds e x) same stands));
        sorts = λ x stands. fine.sorts x (typing.of_term x e in_net (subst (λ ds. SortStandsIn ds e x) same stands));
      }

      no_variable : HasNoVariable e
      no_variable x part name is =
          let fault = fault_at reasons.NotGround x.at name in
          fine.typing fault (not_ground fault (record { term = e; stands = among; variable = x; is_part = part; name = name; is_variable = is; is = refl }))

      -- the term is of the sort of the place
      right : (t : TermSort) → HasSort items e t → IsSure (IsTermOver s t)
      right t has differs =
          let fault = fault_at reasons.LabelSort e.at (codes "hlinitialMarking") in
          fine.typing fault (of_marking fault (record {
            place = p;
            stands = c;
            term = e;
            is_marking = is_marking;
            sort = t;
            has_sort = subst (λ ds. HasSort ds e t) same has;
            place_sort = s;
            of_place = subst (λ ds. IsPlaceSort ds p s) same of_place;
            differs = differs;
            is = refl;
          }))

      -- what the term says is over the sort of the place
      says_members : (bag : List (Value × ℕ)) → SaysMultiset items e bag → IsSure (AreOfSort items s bag)
      says_members bag (o, value, is) not =
          let fault = fault_at reasons.NoValue e.at (codes "hlinitialMarking") in
          sorted items faultless e o value (thing o bag is) sound
          (λ x part name at. no_variable x part name (sym (roll-out-TermNode x.node) ∙ ap roll-TermNode at ∙ rolls-Variable name))
          (λ has. right has.0 has.1 (λ over.
          let lacks : LacksValue items p e = record {
            place_sort = s;
            of_place = of_place;
            sort = has.0;
            has_sort = has.1;
            right = over;
            no_variable = no_variable;
            none = λ other says all. not (subst (AreOfSort items s) (says_once items (λ x a b. value_once items [] [] faultless x a b) e other bag says (o, value, is)) all);
          } in
          fine.values fault (record { place = p; stands = c; term = e; is_marking = is_marking; is = (subst (λ ds. LacksValue ds p e) same lacks, refl) })))

    -- each value that a place has at first is of its sort
    first_member : (bag : List (Value × ℕ)) (v : Value) → IsFirstBy (SaysMultiset items) (said p.hl_marking) (said p.marking) bag → HasKey value_cmp bag v → IsMember (widths_of items) v s
    first_member bag v first has = by (said p.hl_marking) (said p.marking) refl refl first
      where
        by : (o : Option Term) (number : Option ℕ) → said p.hl_marking ≡ o → said p.marking ≡ number → IsFirstBy (SaysMultiset items) o number bag → IsMember (widths_of items) v s
        by None None no_term no_number is = absurd (subst (λ b. HasKey value_cmp b v) is has)
        by None (Some count) no_term number is = member_in items s ((values.Dot, count) ∷ []) v (number_member count number, tt) (subst (λ b. HasKey value_cmp b v) is has)
        by (Some e) number term any is = passes (is_member (widths_of items) s v) (λ fails. says_members e term bag is (λ all. true_is_not_false (is_member (widths_of items) s v) (member_in items s bag v all has) fails))

  module _ (m : List (Token × ℕ)) (initial : IsInitial f m) where
    -- a token that the initial marking has
    token_of : (k : Token) → 0 < count_of token_cmp m k → IsTokenOf f k
    token_of k some = by (slice_get f.places k.place) refl (initial.marked k.place)
      where
        by : (o : Option Place) → slice_get f.places k.place ≡ o → IsMarked (SaysMultiset items) m k.place o → IsTokenOf f k
        by None at none = absurd (omega (arith, some, none k.value))
        by (Some p) at (bag, first, stand) =
            let c : Contains (net_places n) p = subst (λ ps. Contains ps p) (flat_places_are n f linked.is_flat) (contains_at f.places k.place p at) in
            let sort = place_has_sort p c in
            (sort.0, (p, at, sort.1), first_member p c sort.0 sort.1 bag k.value first (has_entry value_cmp bag k.value (omega (arith, some, stand k.value))))

    tokens : AreTokensOf f m
    tokens =
        every_both (λ entry. count_of token_cmp m entry.0 ≡ entry.1) (λ entry. (0 < entry.1) × (entry.1 ≤ MAX_COUNT)) (λ entry. IsTokenOf f entry.0)
        (λ entry count counted. token_of entry.0 (omega (arith, count, counted.0))) m (entries_count tokens_total m initial.bag.rising) initial.bag.counted

pub initial_tokens : (tree : Element) (f : Flat) (m : List (Token × ℕ)) → IsAccepted tree → IsLinked tree f → IsInitial f m → AreTokensOf f m
initial_tokens tree f m accepted linked initial = tokens tree f accepted linked m initial
