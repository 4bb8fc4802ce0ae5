-- In a tree whose offsets rise the least fault is one.
use Rattle.std.proofs.Common.{◌≡◌, ◌⊎◌, inl, inr, ℕ, true, false, List, codes, Option, None, Some, IfSome, refl, sym, ap, ◌∙◌, subst, arith}
use Rattle.std.specs.List.{Contains}
use Rattle.std.specs.Str.{bytes_eq}
use Rattle.std.proofs.lemmas.Slice.Eq.{bytes_eq-Decides}
use Rattle.pn_facts.proofs.Contained.{contains_at, contains_nil}
use Rattle.pn_faults.specs.Least.{least_fault}
use Rattle.pn_faults.specs.Order.{fault_at}
use Rattle.pn_faults.specs.Reasons.{number_of}
use Rattle.pn_faults.specs.declared.fault.Fault.{Fault}
use Rattle.pn_faults.specs.declared.reason.Reason.TheVariants as reasons
use Rattle.pn_faults.proofs.LeastLemmas.{least_fault-is_none}
use Rattle.pn_faults.proofs.RisingLemmas.{IsWithin, neither_before}
use Rattle.pn_checks.specs.Linked.{IsLeastInTree}
use Rattle.pn_checks.proofs.HeldLemmas.{one_element, one_id}
use Rattle.pn_facts.proofs.Each.{one_of}
use Rattle.pn_checks.specs.Verdicts.{IsFaultOf, in_tree, no_value}
use Rattle.pn_checks.proofs.BlameLemmas.{TypingWay, by_value, told_once, typing_way, typing_ways_once}
use Rattle.pn_checks.proofs.SourceLemmas.{ComesFrom, arcs_from, place_references_from, transition_references_from}
use Rattle.pn_markup.specs.Offsets.{HasRisingOffsets}
use Rattle.pn_net.specs.Documents.{HasNoShapeFault, HasSoundLinks, HasSoundNetSorts, StandsInTree, links, shape, sorts, told_in, typing}
use Rattle.pn_net.specs.Ids.{IdHolder, holders_of}
use Rattle.pn_net.specs.Links.{IsOnSide, IsReference, IsUnknownEnd, IsWrongEnd, StandsInLinks, duplicate_id, unknown_end, wrong_end, reference_cycle, source, target, reference, arc, to_place, to_transition}
use Rattle.pn_net.specs.Objects.{net_arcs, net_place_references, net_transition_references}
use Rattle.pn_net.specs.Typing.{StandsInSorts}
use Rattle.pn_objects.specs.declared.net.Net.{Net}
use Rattle.pn_objects.specs.declared.object.Arc.{Arc}
use Rattle.pn_objects.specs.declared.object.Reference.{Reference}
use Rattle.pn_shape.specs.Faults.{shape_faults}
use Rattle.pn_spelling.specs.Parts.{child_elements, has_name}
use Rattle.pn_spelling.specs.ReadNets.{arc_read, net_of, reference_read}
use Rattle.pn_tree.specs.declared.element.Element.{Element}

module _ (tree : Element) (one_element : (x y : Element) → IsWithin child_elements tree x → IsWithin child_elements tree y → x.at ≡ y.at → x ≡ y)
    (one_id : (g h : IdHolder) → Contains (holders_of (net_of tree)) g → Contains (holders_of (net_of tree)) h → g.at ≡ h.at → g.id ≡ h.id) where
  abbrev The : Net
  The = net_of tree

  -- where arcs and references come from

  record FromArc (a : Arc) : Type 0 where
    element : Element
    within : IsWithin child_elements tree element
    named : element.name ≡ codes "arc"
    is : a ≡ arc_read element

  record FromReference (r : Reference) : Type 0 where
    element : Element
    within : IsWithin child_elements tree element
    named : (element.name ≡ codes "referencePlace") ⊎ (element.name ≡ codes "referenceTransition")
    is : r ≡ reference_read element

  name_of : (name : List ℕ) (e : Element) → has_name name e ≡ true → e.name ≡ name
  name_of name e named = (bytes_eq-Decides e.name name).0 named

  from_arc : (a : Arc) → Contains (net_arcs The) a → FromArc a
  from_arc a there =
      let from = one_of (ComesFrom (codes "arc") arc_read tree) (net_arcs The) a (arcs_from tree) there in
      record { element = from.source; within = from.within; named = name_of (codes "arc") from.source from.named; is = from.is }

  from_reference : (r : Reference) → IsReference The r → FromReference r
  from_reference r (inl there) =
      let from = one_of (ComesFrom (codes "referencePlace") reference_read tree) (net_place_references The) r (place_references_from tree) there in
      record { element = from.source; within = from.within; named = inl (name_of (codes "referencePlace") from.source from.named); is = from.is }
  from_reference r (inr there) =
      let from = one_of (ComesFrom (codes "referenceTransition") reference_read tree) (net_transition_references The) r (transition_references_from tree) there in
      record { element = from.source; within = from.within; named = inr (name_of (codes "referenceTransition") from.source from.named); is = from.is }

  one_arc : (a b : Arc) → Contains (net_arcs The) a → Contains (net_arcs The) b → a.at ≡ b.at → a ≡ b
  one_arc a b there also same =
      let x = from_arc a there in
      let y = from_arc b also in
      x.is ∙ ap arc_read (one_element x.element y.element x.within y.within (sym (ap (λ (c : Arc). c.at) x.is) ∙ same ∙ ap (λ (c : Arc). c.at) y.is)) ∙ sym y.is

  one_reference : (r s : Reference) → IsReference The r → IsReference The s → r.at ≡ s.at → r ≡ s
  one_reference r s there also same =
      let x = from_reference r there in
      let y = from_reference s also in
      x.is ∙ ap reference_read (one_element x.element y.element x.within y.within (sym (ap (λ (c : Reference). c.at) x.is) ∙ same ∙ ap (λ (c : Reference). c.at) y.is)) ∙ sym y.is

  not_both : (a : Arc) (r : Reference) → Contains (net_arcs The) a → IsReference The r → a.at ≡ r.at → ⊥
  not_both a r there also same =
      let x = from_arc a there in
      let y = from_reference r also in
      let is : x.element ≡ y.element = one_element x.element y.element x.within y.within (sym (ap (λ (c : Arc). c.at) x.is) ∙ same ∙ ap (λ (c : Reference). c.at) y.is) in
      let called : y.element.name ≡ codes "arc" = ap (λ (e : Element). e.name) (sym is) ∙ x.named in
      by called y.named
    where
      differ : (one other : List ℕ) → one ≡ other → bytes_eq other one ≡ false → bytes_eq other other ≡ true → ⊥
      differ one other same fails passes = let bad : false ≡ true = sym fails ∙ ap (bytes_eq other) same ∙ passes in cc

      by : {name : List ℕ} → name ≡ codes "arc" → (name ≡ codes "referencePlace") ⊎ (name ≡ codes "referenceTransition") → ⊥
      by called (inl place) = differ (codes "arc") (codes "referencePlace") (sym called ∙ place) refl refl
      by called (inr transition) = differ (codes "arc") (codes "referenceTransition") (sym called ∙ transition) refl refl

  -- what a fault of one reason at one offset is about is one thing

  unknown_once : (f g : Fault) → IsUnknownEnd The f → IsUnknownEnd The g → f.at ≡ g.at → f ≡ g
  unknown_once f g (source _ a there none is) (source _ b also lacks that) same =
      is ∙ ap (λ (c : Arc). fault_at reasons.UnknownEnd c.at c.source) (one_arc a b there also (sym (ap (λ (x : Fault). x.at) is) ∙ same ∙ ap (λ (x : Fault). x.at) that)) ∙ sym that
  unknown_once f g (source _ a there none is) (target _ b side also on lacks that) same =
      let one = one_arc a b there also (sym (ap (λ (x : Fault). x.at) is) ∙ same ∙ ap (λ (x : Fault). x.at) that) in
      absurd (none side (subst (λ (c : Arc). IsOnSide The c.source side) (sym one) on))
  unknown_once f g (target _ a side there on none is) (source _ b also lacks that) same =
      let one = one_arc a b there also (sym (ap (λ (x : Fault). x.at) is) ∙ same ∙ ap (λ (x : Fault). x.at) that) in
      absurd (lacks side (subst (λ (c : Arc). IsOnSide The c.source side) one on))
  unknown_once f g (target _ a side there on none is) (target _ b other also onward lacks that) same =
      is ∙ ap (λ (c : Arc). fault_at reasons.UnknownEnd c.at c.target) (one_arc a b there also (sym (ap (λ (x : Fault). x.at) is) ∙ same ∙ ap (λ (x : Fault). x.at) that)) ∙ sym that
  unknown_once f g (reference _ r there none is) (reference _ s also lacks that) same =
      is ∙ ap (λ (c : Reference). fault_at reasons.UnknownEnd c.at c.refers) (one_reference r s there also (sym (ap (λ (x : Fault). x.at) is) ∙ same ∙ ap (λ (x : Fault). x.at) that)) ∙ sym that
  unknown_once f g (source _ a there none is) (reference _ s also lacks that) same = absurd (not_both a s there also (sym (ap (λ (x : Fault). x.at) is) ∙ same ∙ ap (λ (x : Fault). x.at) that))
  unknown_once f g (target _ a side there on none is) (reference _ s also lacks that) same = absurd (not_both a s there also (sym (ap (λ (x : Fault). x.at) is) ∙ same ∙ ap (λ (x : Fault). x.at) that))
  unknown_once f g (reference _ r there none is) (source _ b also lacks that) same = absurd (not_both b r also there (sym (ap (λ (x : Fault). x.at) that) ∙ sym same ∙ ap (λ (x : Fault). x.at) is))
  unknown_once f g (reference _ r there none is) (target _ b side also on lacks that) same = absurd (not_both b r also there (sym (ap (λ (x : Fault). x.at) that) ∙ sym same ∙ ap (λ (x : Fault). x.at) is))

  -- a wrong end is of an arc or of a reference, and tells its id
  data WrongWay (f : Fault) : Type 0 where
    of_arc : (a : Arc) → Contains (net_arcs The) a → f ≡ fault_at reasons.WrongEnd a.at a.id → WrongWay f
    of_reference : (r : Reference) → IsReference The r → f ≡ fault_at reasons.WrongEnd r.at r.id → WrongWay f

  wrong_way : (f : Fault) → IsWrongEnd The f → WrongWay f
  wrong_way f (arc _ a side there from to is) = of_arc a there is
  wrong_way f (to_place _ r there on is) = of_reference r (inl there) is
  wrong_way f (to_transition _ r there on is) = of_reference r (inr there) is

  wrong_once : (f g : Fault) → WrongWay f → WrongWay g → f.at ≡ g.at → f ≡ g
  wrong_once f g (of_arc a there is) (of_arc b also that) same =
      is ∙ ap (λ (c : Arc). fault_at reasons.WrongEnd c.at c.id) (one_arc a b there also (sym (ap (λ (x : Fault). x.at) is) ∙ same ∙ ap (λ (x : Fault). x.at) that)) ∙ sym that
  wrong_once f g (of_reference r there is) (of_reference s also that) same =
      is ∙ ap (λ (c : Reference). fault_at reasons.WrongEnd c.at c.id) (one_reference r s there also (sym (ap (λ (x : Fault). x.at) is) ∙ same ∙ ap (λ (x : Fault). x.at) that)) ∙ sym that
  wrong_once f g (of_arc a there is) (of_reference s also that) same = absurd (not_both a s there also (sym (ap (λ (x : Fault). x.at) is) ∙ same ∙ ap (λ (x : Fault). x.at) that))
  wrong_once f g (of_reference r there is) (of_arc b also that) same = absurd (not_both b r also there (sym (ap (λ (x : Fault). x.at) that) ∙ sym same ∙ ap (λ (x : Fault). x.at) is))

  data LinkWay (f : Fault) : Type 0 where
    of_id : (h : IdHolder) → Contains (holders_of The) h → f ≡ fault_at reasons.DuplicateId h.at h.id → LinkWay f
    of_unknown : IsUnknownEnd The f → number_of f.reason ≡ 14 → LinkWay f
    of_wrong : WrongWay f → number_of f.reason ≡ 15 → LinkWay f
    of_cycle : (r : Reference) → IsReference The r → f ≡ fault_at reasons.ReferenceCycle r.at r.id → LinkWay f

  unknown_number : (f : Fault) → IsUnknownEnd The f → number_of f.reason ≡ 14
  unknown_number f (source _ a there none is) = ap (λ (x : Fault). number_of x.reason) is
  unknown_number f (target _ a side there on none is) = ap (λ (x : Fault). number_of x.reason) is
  unknown_number f (reference _ r there none is) = ap (λ (x : Fault). number_of x.reason) is

  wrong_number : (f : Fault) → WrongWay f → number_of f.reason ≡ 15
  wrong_number f (of_arc a there is) = ap (λ (x : Fault). number_of x.reason) is
  wrong_number f (of_reference r there is) = ap (λ (x : Fault). number_of x.reason) is

  way : (f : Fault) → StandsInLinks The f → LinkWay f
  way f (duplicate_id _ is) = of_id is.second (contains_at (holders_of The) is.another is.second is.has_second) is.is
  way f (unknown_end _ is) = of_unknown is (unknown_number f is)
  way f (wrong_end _ is) = of_wrong (wrong_way f is) (wrong_number f (wrong_way f is))
  way f (reference_cycle _ is) = of_cycle is.reference is.stands is.is

  ids_number : (f : Fault) (h : IdHolder) → f ≡ fault_at reasons.DuplicateId h.at h.id → number_of f.reason ≡ 13
  ids_number f h is = ap (λ (x : Fault). number_of x.reason) is

  cycle_number : (f : Fault) (r : Reference) → f ≡ fault_at reasons.ReferenceCycle r.at r.id → number_of f.reason ≡ 16
  cycle_number f r is = ap (λ (x : Fault). number_of x.reason) is

  ways_once : (f g : Fault) → LinkWay f → LinkWay g → f.at ≡ g.at → number_of f.reason ≡ number_of g.reason → f ≡ g
  ways_once f g (of_id h there is) (of_id k also that) same number =
      let here : h.at ≡ k.at = sym (ap (λ (x : Fault). x.at) is) ∙ same ∙ ap (λ (x : Fault). x.at) that in
      is ∙ ap (λ i. fault_at reasons.DuplicateId i h.id) here ∙ ap (fault_at reasons.DuplicateId k.at) (one_id h k there also here) ∙ sym that
  ways_once f g (of_id h there is) (of_unknown u n) same number = absurd (let bad : 13 ≡ 14 = sym (ids_number f h is) ∙ number ∙ n in omega (arith, bad))
  ways_once f g (of_id h there is) (of_wrong u n) same number = absurd (let bad : 13 ≡ 15 = sym (ids_number f h is) ∙ number ∙ n in omega (arith, bad))
  ways_once f g (of_id h there is) (of_cycle r also that) same number = absurd (let bad : 13 ≡ 16 = sym (ids_number f h is) ∙ number ∙ cycle_number g r that in omega (arith, bad))
  ways_once f g (of_unknown u n) (of_id h there is) same number = absurd (let bad : 14 ≡ 13 = sym n ∙ number ∙ ids_number g h is in omega (arith, bad))
  ways_once f g (of_unknown u n) (of_unknown v m) same number = unknown_once f g u v same
  ways_once f g (of_unknown u n) (of_wrong v m) same number = absurd (let bad : 14 ≡ 15 = sym n ∙ number ∙ m in omega (arith, bad))
  ways_once f g (of_unknown u n) (of_cycle r also that) same number = absurd (let bad : 14 ≡ 16 = sym n ∙ number ∙ cycle_number g r that in omega (arith, bad))
  ways_once f g (of_wrong u n) (of_id h there is) same number = absurd (let bad : 15 ≡ 13 = sym n ∙ number ∙ ids_number g h is in omega (arith, bad))
  ways_once f g (of_wrong u n) (of_unknown v m) same number = absurd (let bad : 15 ≡ 14 = sym n ∙ number ∙ m in omega (arith, bad))
  ways_once f g (of_wrong u n) (of_wrong v m) same number = wrong_once f g u v same
  ways_once f g (of_wrong u n) (of_cycle r also that) same number = absurd (let bad : 15 ≡ 16 = sym n ∙ number ∙ cycle_number g r that in omega (arith, bad))
  ways_once f g (of_cycle r there is) (of_id h also that) same number = absurd (let bad : 16 ≡ 13 = sym (cycle_number f r is) ∙ number ∙ ids_number g h that in omega (arith, bad))
  ways_once f g (of_cycle r there is) (of_unknown v m) same number = absurd (let bad : 16 ≡ 14 = sym (cycle_number f r is) ∙ number ∙ m in omega (arith, bad))
  ways_once f g (of_cycle r there is) (of_wrong v m) same number = absurd (let bad : 16 ≡ 15 = sym (cycle_number f r is) ∙ number ∙ m in omega (arith, bad))
  ways_once f g (of_cycle r there is) (of_cycle s also that) same number =
      is ∙ ap (λ (c : Reference). fault_at reasons.ReferenceCycle c.at c.id) (one_reference r s there also (sym (ap (λ (x : Fault). x.at) is) ∙ same ∙ ap (λ (x : Fault). x.at) that)) ∙ sym that

  pub one_link_fault : (f g : Fault) → StandsInLinks The f → StandsInLinks The g → f.at ≡ g.at → number_of f.reason ≡ number_of g.reason → f ≡ g
  one_link_fault f g stands also = ways_once f g (way f stands) (way g also)

-- ---- of all phases

module _ (tree : Element) (rises : HasRisingOffsets tree) where
  links_once : (f g : Fault) → StandsInLinks (net_of tree) f → StandsInLinks (net_of tree) g → f.at ≡ g.at → number_of f.reason ≡ number_of g.reason → f ≡ g
  links_once = one_link_fault tree (one_element tree rises) (one_id tree rises)

  -- a fault behind the phase shape
  data PhaseWay (f : Fault) : Type 0 where
    by_links : StandsInLinks (net_of tree) f → PhaseWay f
    by_sorts : (h : Fault) → HasSoundLinks tree → StandsInSorts (net_of tree) h → f ≡ told_in tree h → PhaseWay f
    by_typing : HasSoundNetSorts tree → TypingWay tree f → PhaseWay f

  phase_way : HasNoShapeFault tree → (f : Fault) → StandsInTree tree f → PhaseWay f
  phase_way clean f (shape _ there) = absurd (contains_nil f (subst (λ fs. Contains fs f) clean there))
  phase_way clean f (links _ also stands) = by_links stands
  phase_way clean f (sorts _ h sound stands is) = by_sorts h sound stands is
  phase_way clean f (typing _ sound stands) = by_typing sound (typing_way tree f stands)

  stands_way : HasNoShapeFault tree → (f : Fault) → IsFaultOf tree f → PhaseWay f
  stands_way clean f (in_tree _ stands) = phase_way clean f stands
  stands_way clean f (no_value _ sound lacks) = by_typing sound (by_value lacks.term.at lacks.is.1)

  phases_once : (f g : Fault) → PhaseWay f → PhaseWay g → f.at ≡ g.at → number_of f.reason ≡ number_of g.reason → f ≡ g
  phases_once f g (by_links stands) (by_links also) same number = links_once f g stands also same number
  phases_once f g (by_links stands) (by_sorts h sound also is) same number = absurd (sound.links f stands)
  phases_once f g (by_links stands) (by_typing sound also) same number = absurd (sound.linked.links f stands)
  phases_once f g (by_sorts h sound stands is) (by_links also) same number = absurd (sound.links g also)
  phases_once f g (by_sorts h sound stands is) (by_sorts k so also that) same number =
      is ∙ told_once tree rises h k stands also (sym (ap (λ (x : Fault). x.at) is) ∙ same ∙ ap (λ (x : Fault). x.at) that) (sym (ap (λ (x : Fault). number_of x.reason) is) ∙ number ∙ ap (λ (x : Fault). number_of x.reason) that) ∙ sym that
  phases_once f g (by_sorts h sound stands is) (by_typing so also) same number = absurd (so.sorts h stands)
  phases_once f g (by_typing sound stands) (by_links also) same number = absurd (sound.linked.links g also)
  phases_once f g (by_typing sound stands) (by_sorts h so also is) same number = absurd (sound.sorts h also)
  phases_once f g (by_typing sound stands) (by_typing so also) same number = typing_ways_once tree rises f g stands also same number

  -- the least fault of a tree
  pub least_fault_is_one : (f g : Fault) → IsLeastInTree tree f → IsLeastInTree tree g → f ≡ g
  least_fault_is_one f g first second = by (least_fault (shape_faults tree)) refl
    where
      by : (o : Option Fault) → least_fault (shape_faults tree) ≡ o → f ≡ g
      by (Some h) is = subst (λ o. IfSome o (λ k. f ≡ k)) is first.of_shape ∙ sym (subst (λ o. IfSome o (λ k. g ≡ k)) is second.of_shape)
      by None is =
          let clean = least_fault-is_none (shape_faults tree) is in
          let together = neither_before f g (second.least.1 f first.least.0) (first.least.1 g second.least.0) in
          phases_once f g (stands_way clean f first.least.0) (stands_way clean g second.least.0) together.0 together.1
