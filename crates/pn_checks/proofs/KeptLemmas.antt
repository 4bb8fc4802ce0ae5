-- In a net that is the same but for offsets as the flat net of a net stand no faults of sorts and of typing, where none stand in the net; so a tree that spells it is accepted.
use Rattle.std.proofs.Common.{◌≡◌, List, [], ◌∷◌, ◌++◌, map, codes, refl, sym, ap, ◌∙◌, subst}
use Rattle.std.specs.List.{AllByRecursion, Contains}
use Rattle.std.proofs.lemmas.List.{map-append}
use Rattle.pn_carriers.specs.Members.{IsMember}
use Rattle.pn_checks.proofs.DeclarationAlikeLemmas.{widths_same}
use Rattle.pn_checks.proofs.LabelAlikeLemmas.{all_said_alike, condition_bare, inscription_bare, marking_bare, one_said, place_sort_alike, type_bare}
use Rattle.pn_checks.proofs.NetSortLemmas.{same_terms}
use Rattle.pn_checks.proofs.SameEndLemmas.{place_of_arc}
use Rattle.pn_checks.proofs.SameFlatLemmas.{arc_from, arcs_alike, declared_alike, places_alike, transitions_alike}
use Rattle.pn_checks.proofs.TermAlikeLemmas.{empty_range_alike, part_alike, sorts_alike, variable_alike}
use Rattle.pn_checks.proofs.TypingAlikeLemmas.{typing_alike}
use Rattle.pn_checks.proofs.UniqueLemmas.{HasSound}
use Rattle.pn_checks.proofs.ValueAlikeLemmas.{value_alike}
use Rattle.pn_checks.specs.NoValue.{IsNoValue, LacksValue}
use Rattle.pn_checks.specs.Verdicts.{IsAccepted, IsFaultOf, in_tree, no_value}
use Rattle.pn_facts.proofs.Contained.{contains_first, contains_nil}
use Rattle.pn_faults.specs.declared.fault.Fault.{Fault}
use Rattle.pn_faults.specs.Order.{fault_at}
use Rattle.pn_faults.specs.declared.reason.Reason.TheVariants as reasons
use Rattle.pn_net.proofs.AlikeLemmas.{alike_contains, sort_alike, stands_alike}
use Rattle.pn_net.specs.Documents.{HasSoundLinks, StandsInTree, links, shape, sorts, told_in}
use Rattle.pn_net.specs.Documents as documents
use Rattle.pn_net.specs.Flattening.{IsFlattened}
use Rattle.pn_net.specs.Labels.{condition_terms, inscription_terms, marking_terms, net_terms, said, type_exprs}
use Rattle.pn_net.specs.Objects.{net_arcs, net_declarations, net_places, net_transitions}
use Rattle.pn_net.specs.Typing.{IsNoCondition, IsNoInscription, IsNoMarking, IsNotGround, StandsInSorts, StandsInTyping, declared, not_ground, of_condition, of_constant, of_inscription, of_marking, of_type}
use Rattle.pn_net.specs.Typing as typing
use Rattle.pn_objects.specs.Offsets.{IsSameNet, arc_without_offsets, place_without_offsets, transition_without_offsets}
use Rattle.pn_objects.specs.declared.net.Net.{Net}
use Rattle.pn_objects.specs.declared.object.Arc.{Arc}
use Rattle.pn_objects.specs.declared.object.Place.{Place}
use Rattle.pn_shape.specs.Faults.{shape_faults}
use Rattle.pn_spelling.specs.ReadNets.{net_of}
use Rattle.pn_syntax.specs.Offsets.{declaration_without_offsets, sort_without_offsets}
use Rattle.pn_syntax.specs.TermOffsets.{term_without_offsets}
use Rattle.pn_syntax.specs.declared.declaration.Declaration.{Declaration}
use Rattle.pn_syntax.specs.declared.term.Term.{Term}
use Rattle.pn_terms.proofs.OffsetLemmas.{offsets_aside}
use Rattle.pn_tree.specs.declared.element.Element.{Element}

-- a marking that lacks a value does so where it is equal but for offsets
lacks_alike : (items others : List Declaration) → map declaration_without_offsets items ≡ map declaration_without_offsets others → (p q : Place) → place_without_offsets p ≡ place_without_offsets q → (e other : Term) → term_without_offsets e ≡ term_without_offsets other
    → LacksValue items p e → LacksValue others q other
lacks_alike items others same p q beside e other alike h = record {
  place_sort = h.place_sort;
  of_place = place_sort_alike items others same p q beside h.place_sort h.of_place;
  sort = h.sort;
  has_sort = offsets_aside items others e other h.sort same alike h.has_sort;
  right = h.right;
  no_variable = λ x part name is. let there = part_alike other x part e (sym alike) in h.no_variable there.0 there.1 name (variable_alike x there.0 name there.2 is);
  none = λ bag says members. h.none bag
      (says.0, value_alike others items (sym same) [] [] other e says.0 (sym alike) says.1, says.2)
      (subst (λ widths. AllByRecursion (λ entry. IsMember widths entry.0 h.place_sort) bag) (sym (widths_same items others same)) members);
}

-- ---- two nets

module _ (n flat w : Net) (p : IsFlattened n flat) (alike : IsSameNet w flat) where
  abbrev here : List Declaration
  here = net_declarations w

  abbrev there : List Declaration
  there = net_declarations n

  same : map declaration_without_offsets here ≡ map declaration_without_offsets there
  same = declared_alike n flat w p alike

  types_alike : map sort_without_offsets (type_exprs w) ≡ map sort_without_offsets (type_exprs n)
  types_alike = all_said_alike place_without_offsets sort_without_offsets (λ p. said p.sort) type_bare (net_places w) (net_places n) (places_alike n flat w p alike)

  markings_alike : map term_without_offsets (marking_terms w) ≡ map term_without_offsets (marking_terms n)
  markings_alike = all_said_alike place_without_offsets term_without_offsets (λ p. said p.hl_marking) marking_bare (net_places w) (net_places n) (places_alike n flat w p alike)

  conditions_alike : map term_without_offsets (condition_terms w) ≡ map term_without_offsets (condition_terms n)
  conditions_alike = all_said_alike transition_without_offsets term_without_offsets (λ t. said t.condition) condition_bare (net_transitions w) (net_transitions n) (transitions_alike n flat w p alike)

  inscriptions_alike : map term_without_offsets (inscription_terms w) ≡ map term_without_offsets (inscription_terms n)
  inscriptions_alike =
      all_said_alike arc_without_offsets term_without_offsets (λ a. said a.inscription) inscription_bare (net_arcs w) p.arcs (arcs_alike n flat w p alike)
      ∙ ap (map term_without_offsets) (sym (same_terms n (net_arcs n) p.arcs p.rewired))

  terms_alike : map term_without_offsets (net_terms w) ≡ map term_without_offsets (net_terms n)
  terms_alike =
      map-append term_without_offsets (marking_terms w) (condition_terms w ++ inscription_terms w)
      ∙ (λ i. markings_alike i ++ (map-append term_without_offsets (condition_terms w) (inscription_terms w) ∙ (λ j. conditions_alike j ++ inscriptions_alike j) ∙ sym (map-append term_without_offsets (condition_terms n) (inscription_terms n))) i)
      ∙ sym (map-append term_without_offsets (marking_terms n) (condition_terms n ++ inscription_terms n))

  -- ---- faults of sorts

  sorts_back : (f : Fault) → StandsInSorts w f → (g : Fault) × StandsInSorts n g
  sorts_back f (declared _ stands) = let g = stands_alike here there same f stands in (g.0, declared g.0 g.1)
  sorts_back f (of_type _ e has stands) =
      let u = alike_contains sort_without_offsets (type_exprs w) (type_exprs n) e types_alike has in
      let g = sort_alike here there same e u.0 f u.2 stands in
      (g.0, of_type g.0 u.0 u.1 g.1)
  sorts_back f (typing.of_term _ e has stands) =
      let u = alike_contains term_without_offsets (net_terms w) (net_terms n) e terms_alike has in
      let g = sorts_alike here there same e u.0 u.2 f stands in
      (g.0, typing.of_term g.0 u.0 u.1 g.1)
  sorts_back f (of_constant _ e has stands) =
      let u = alike_contains term_without_offsets (net_terms w) (net_terms n) e terms_alike has in
      let g = empty_range_alike e u.0 u.2 f stands in
      (g.0, of_constant g.0 u.0 u.1 g.1)

  -- where no fault of sorts stands in the net, none stands in the other
  pub sorts_kept : ((f : Fault) → StandsInSorts n f → ⊥) → (f : Fault) → StandsInSorts w f → ⊥
  sorts_kept none f stands = let g = sorts_back f stands in none g.0 g.1

  -- ---- faults of typing

  condition_back : (f : Fault) → IsNoCondition w f → (g : Fault) × IsNoCondition n g
  condition_back f h =
      let u = alike_contains term_without_offsets (condition_terms w) (condition_terms n) h.term conditions_alike h.stands in (
        fault_at reasons.LabelSort u.0.at (codes "condition"),
        record {
          term = u.0;
          stands = u.1;
          sort = h.sort;
          has_sort = offsets_aside here there h.term u.0 h.sort same u.2 h.has_sort;
          differs = h.differs;
          is = refl;
        },
      )

  marking_back : (f : Fault) → IsNoMarking w f → (g : Fault) × IsNoMarking n g
  marking_back f h =
      let q = alike_contains place_without_offsets (net_places w) (net_places n) h.place (places_alike n flat w p alike) h.stands in
      let u = one_said place_without_offsets term_without_offsets (λ x. said x.hl_marking) marking_bare h.place q.0 h.term q.2 h.is_marking in (
        fault_at reasons.LabelSort u.0.at (codes "hlinitialMarking"),
        record {
          place = q.0;
          stands = q.1;
          term = u.0;
          is_marking = u.1;
          sort = h.sort;
          has_sort = offsets_aside here there h.term u.0 h.sort same u.2 h.has_sort;
          place_sort = h.place_sort;
          of_place = place_sort_alike here there same h.place q.0 q.2 h.place_sort h.of_place;
          differs = h.differs;
          is = refl;
        },
      )

  not_ground_back : (f : Fault) → IsNotGround w f → (g : Fault) × IsNotGround n g
  not_ground_back f h =
      let u = alike_contains term_without_offsets (marking_terms w) (marking_terms n) h.term markings_alike h.stands in
      let v = part_alike h.term h.variable h.is_part u.0 u.2 in (
        fault_at reasons.NotGround v.0.at h.name,
        record {
          term = u.0;
          stands = u.1;
          variable = v.0;
          is_part = v.1;
          name = h.name;
          is_variable = variable_alike h.variable v.0 h.name v.2 h.is_variable;
          is = refl;
        },
      )

  module _ (sound : HasSound n) where
    inscription_back : (f : Fault) → IsNoInscription w f → (g : Fault) × IsNoInscription n g
    inscription_back f h =
        let from = arc_from n flat w p alike h.arc h.stands in
        let u = one_said arc_without_offsets term_without_offsets (λ x. said x.inscription) inscription_bare h.arc from.2.wired h.term from.2.alike h.is_inscription in
        let q = place_of_arc n flat w p alike sound from.0 h.arc from.2 h.place h.at_place in (
          fault_at reasons.LabelSort u.0.at (codes "hlinscription"),
          record {
            arc = from.0;
            stands = from.1;
            term = u.0;
            is_inscription = sym (ap (λ (x : Arc). said x.inscription) from.2.rewired.is) ∙ u.1;
            sort = h.sort;
            has_sort = offsets_aside here there h.term u.0 h.sort same u.2 h.has_sort;
            place = q.0;
            at_place = q.1;
            place_sort = h.place_sort;
            of_place = place_sort_alike here there same h.place q.0 q.2 h.place_sort h.of_place;
            differs = h.differs;
            is = refl;
          },
        )

    typing_back : (f : Fault) → StandsInTyping w f → (g : Fault) × StandsInTyping n g
    typing_back f (typing.of_term _ e has stands) =
        let u = alike_contains term_without_offsets (net_terms w) (net_terms n) e terms_alike has in
        let g = typing_alike here there same e u.0 u.2 f stands in
        (g.0, typing.of_term g.0 u.0 u.1 g.1)
    typing_back f (of_condition _ h) = let g = condition_back f h in (g.0, of_condition g.0 g.1)
    typing_back f (of_marking _ h) = let g = marking_back f h in (g.0, of_marking g.0 g.1)
    typing_back f (of_inscription _ h) = let g = inscription_back f h in (g.0, of_inscription g.0 g.1)
    typing_back f (not_ground _ h) = let g = not_ground_back f h in (g.0, not_ground g.0 g.1)

    -- where no fault of typing stands in the net, and none of ids and links, none of typing stands in the other
    pub typing_kept : ((f : Fault) → StandsInTyping n f → ⊥) → (f : Fault) → StandsInTyping w f → ⊥
    typing_kept none f stands = let g = typing_back f stands in none g.0 g.1

  -- ---- markings without a value

  no_value_back : (f : Fault) → IsNoValue w f → (g : Fault) × IsNoValue n g
  no_value_back f h =
      let q = alike_contains place_without_offsets (net_places w) (net_places n) h.place (places_alike n flat w p alike) h.stands in
      let u = one_said place_without_offsets term_without_offsets (λ x. said x.hl_marking) marking_bare h.place q.0 h.term q.2 h.is_marking in
      let g = fault_at reasons.NoValue u.0.at (codes "hlinitialMarking") in
      (g, record { place = q.0; stands = q.1; term = u.0; is_marking = u.1; is = (lacks_alike here there same h.place q.0 q.2 h.term u.0 u.2 h.is.0, refl) })

  -- where each initial marking has a value in the net, so it has in the other
  pub values_kept : ((f : Fault) → IsNoValue n f → ⊥) → (f : Fault) → IsNoValue w f → ⊥
  values_kept none f stands = let g = no_value_back f stands in none g.0 g.1

-- ---- trees

-- a tree that is accepted has no fault of shape, and its net none of ids and links
pub accepted_links : (tree : Element) → IsAccepted tree → HasSoundLinks tree
accepted_links tree accepted = by (shape_faults tree) refl
  where
    by : (fs : List Fault) → shape_faults tree ≡ fs → HasSoundLinks tree
    by [] is = record { spells = is; links = λ f stands. accepted f (in_tree f (links f is stands)) }
    by (f ∷ fs) is = absurd (accepted f (in_tree f (shape f (subst (λ gs. Contains gs f) (sym is) (contains_first f fs)))))

-- nor has its net one of sorts
pub accepted_sorts : (tree : Element) → IsAccepted tree → (f : Fault) → StandsInSorts (net_of tree) f → ⊥
accepted_sorts tree accepted f stands = accepted (told_in tree f) (in_tree (told_in tree f) (sorts (told_in tree f) f (accepted_links tree accepted) stands refl))

-- a tree without faults of shape and of ids and links, whose net is the same as the flat net of one that is accepted, is accepted
pub accepted_kept : (tree other : Element) (flat : Net) → IsAccepted tree → IsFlattened (net_of tree) flat → IsSameNet (net_of other) flat → HasSoundLinks other → IsAccepted other
accepted_kept tree other flat accepted p alike linked f stands = by stands
  where
    own : HasSoundLinks tree
    own = accepted_links tree accepted

    no_sort_fault : (g : Fault) → StandsInSorts (net_of other) g → ⊥
    no_sort_fault = sorts_kept (net_of tree) flat (net_of other) p alike (accepted_sorts tree accepted)

    in_order : StandsInTree other f → ⊥
    in_order (shape _ has) = contains_nil f (subst (λ fs. Contains fs f) linked.spells has)
    in_order (links _ clean stands) = linked.links f stands
    in_order (sorts _ g sound stands is) = no_sort_fault g stands
    in_order (documents.typing _ sound stands) =
        typing_kept (net_of tree) flat (net_of other) p alike own.links (λ g there. accepted g (in_tree g (documents.typing g (record { linked = own; sorts = accepted_sorts tree accepted }) there))) f stands

    by : IsFaultOf other f → ⊥
    by (in_tree _ stands) = in_order stands
    by (no_value _ sound stands) =
        values_kept (net_of tree) flat (net_of other) p alike (λ g there. accepted g (no_value g (record { linked = own; sorts = accepted_sorts tree accepted }) there)) f stands
