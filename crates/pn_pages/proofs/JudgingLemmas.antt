-- What is told of the ids and links of a net, and its flat net.
use Rattle.std.proofs.Common.{◌≡◌, ◌⊎◌, inl, inr, ℕ, zero, suc, ◌+◌, ◌<◌, ◌≤◌, Bool, true, false, List, [], ◌∷◌, ◌++◌, append-nil, length, map, nat_lt, Option, Some, None, Result, Err, refl, sym, ap, ◌∙◌, subst, arith}
use Rattle.std.specs.List.{AllZip, Contains, flat_map, slice_get}
use Rattle.std.specs.Option.{option_map, unwrap_or}
use Rattle.std.proofs.lemmas.Bool.{cases_lt}
use Rattle.std.proofs.lemmas.Bool.Decides.{nat_tests}
use Rattle.std.proofs.lemmas.List.{length-map}
use Rattle.std.proofs.lemmas.Option.{slice_get-map, slice_get_within, unwrap_or-slice_get}
use Rattle.pn_carriers.proofs.PlaceLemmas.{get_left, get_right}
use Rattle.pn_cycles.specs.Graphs.{IsEdge, IsWhole}
use Rattle.pn_facts.proofs.Contained.{at_contains, contains_at, contains_nil, contains_one}
use Rattle.pn_faults.specs.declared.fault.Fault.{Fault}
use Rattle.pn_faults.specs.declared.fault.Refusal.{Refusal}
use Rattle.pn_faults.specs.declared.fault.Refusal.TheVariants as refusals
use Rattle.pn_faults.specs.declared.reason.Reason.TheVariants as reasons
use Rattle.pn_faults.specs.Order.{fault_at}
use Rattle.pn_faults.specs.Standing.{IsLeastOf}
use Rattle.pn_faults.specs.Walks.{StandsInSome}
use Rattle.pn_faults.proofs.WalkLemmas.{least_alone}
use Rattle.pn_net.specs.Flattening.{IsFlattened, IsRewired, arc_of_flat, in_one, net_of_flat, page_of_objects}
use Rattle.pn_net.specs.Ids.{IdHolder, holders_of}
use Rattle.pn_net.specs.Links.{IsDuplicateAmong, IsOnSide, IsReference, StandsInLinks, Side, places, transitions}
use Rattle.pn_net.specs.Links as links
use Rattle.pn_net.specs.Objects.{in_page, net_arcs, net_declarations, net_place_references, net_places, net_transition_references}
use Rattle.pn_net.specs.Typed.{HasNumbers, IsWired}
use Rattle.pn_net.specs.declared.flat.Flat.{Flat}
use Rattle.pn_net.specs.declared.flat.FlatArc.{FlatArc}
use Rattle.pn_objects.specs.declared.net.Net.{Net}
use Rattle.pn_objects.specs.declared.net.Page.{Page}
use Rattle.pn_objects.specs.declared.net.Page.TheViews.{out-Page}
use Rattle.pn_objects.specs.declared.object.Arc.{Arc}
use Rattle.pn_objects.specs.declared.object.Place.{Place}
use Rattle.pn_objects.specs.declared.object.Reference.{Reference}
use Rattle.pn_objects.specs.declared.object.Transition.{Transition}
use Rattle.pn_syntax.specs.declared.declaration.Declaration.{Declaration}
use Rattle.pn_pages.specs.declared.flattening.Found.{Found}
use Rattle.pn_pages.specs.declared.flattening.Outer.{Outer}
use Rattle.pn_pages.specs.declared.follow.Goal.{Goal}
use Rattle.pn_pages.specs.declared.gather.Title.{Title}
use Rattle.pn_pages.specs.declared.names.First.{First}
use Rattle.pn_pages.specs.declared.names.Node.{Node}
use Rattle.pn_pages.specs.declared.names.Node.TheVariants as nodes
use Rattle.pn_pages.specs.declared.numbered.Objects.{Objects}
use Rattle.pn_pages.specs.declared.wiring.Wire.{Wire}
use Rattle.pn_pages.specs.Following.{HaveGoals, IsTarget, rows_of_targets, targets_row}
use Rattle.pn_pages.specs.Gathering.{title_of}
use Rattle.pn_pages.specs.Judging.{AreFoundIn, IsJudged, IsLeastInLinks, IsLinkedFlat, IsNumbered, flat_of}
use Rattle.pn_pages.specs.Linking.{AreApart, AreEnds, IsArcFault, IsFaultOfReferences, IsReferenceFault, IsTargetFault, AddsFaults, reference_side, side_by}
use Rattle.pn_pages.specs.Linking as told
use Rattle.pn_pages.specs.Naming.{AreNamed, FindsNode, IsFirstEntry, all_holders}
use Rattle.pn_pages.specs.Sides.{HoldsAll}
use Rattle.pn_pages.specs.Wiring.{AreLinked, AreOfNet, IsWire, flat_arcs, wire_of}
use Rattle.pn_pages.proofs.GatherLemmas.{page_law}
use Rattle.pn_pages.proofs.GoalLemmas.{is_reference, to_place, to_transition, zip_length}
use Rattle.pn_pages.proofs.HolderLemmas.{arcs_are, declarations_are, holders_are, place_refs_are, places_are, references_are, transitions_are}
use Rattle.pn_pages.proofs.TellingLemmas.{same_some, tells_alike, tells_both}
use Rattle.pn_pages.proofs.WireLemmas.{all_wired, rewired, wired}

-- each reference that is referred to is there
pub whole_targets : (o : Objects) (hs : List IdHolder) (targets : List (Option Node)) → AllZip (IsTarget o hs) o.references targets → IsWhole (rows_of_targets targets)
whole_targets o hs targets found = record { ends = λ start end e. step start end e }
  where
    shown : (t : Option Node) (id : List ℕ) (end : ℕ) → FindsNode o hs id t → Contains (targets_row t) end → end < length o.references
    shown None id end finds c = absurd (contains_nil end c)
    shown (Some (nodes.Place i)) id end finds c = absurd (contains_nil end c)
    shown (Some (nodes.Transition i)) id end finds c = absurd (contains_nil end c)
    shown (Some nodes.Other) id end finds c = absurd (contains_nil end c)
    shown (Some (nodes.Reference k)) id end (h, first, (r, stands, same, role)) c = let is = contains_one k end c in omega (arith, slice_get_within o.references k r stands, is)

    each : (rs : List Reference) (ts : List (Option Node)) (start : ℕ) (t : Option Node) → AllZip (IsTarget o hs) rs ts → slice_get ts start ≡ Some t → (id : List ℕ) × FindsNode o hs id t
    each [] [] start t have at = absurd (cc (sym at))
    each [] (u ∷ ts) start t have at = absurd have
    each (r ∷ rs) [] start t have at = absurd have
    each (r ∷ rs) (u ∷ ts) zero t have at = (r.refers, subst (FindsNode o hs r.refers) (same_some u t at) have.0)
    each (r ∷ rs) (u ∷ ts) (suc k) t have at = each rs ts k t have.1 at

    row : (start : ℕ) (kept : Option (Option Node)) → slice_get targets start ≡ kept → (end : ℕ) → Contains (unwrap_or (option_map targets_row kept) []) end → end < length (rows_of_targets targets)
    row start None at end c = absurd (contains_nil end c)
    row start (Some t) at end c = let it = each o.references targets start t found at in
        omega (arith, shown t it.0 end it.1 c, zip_length (IsTarget o hs) o.references targets found, length-map targets targets_row)

    step : (start end : ℕ) → IsEdge (rows_of_targets targets) start end → end < length (rows_of_targets targets)
    step start end e = row start (slice_get targets start) refl end
        (subst (λ (ns : List ℕ). Contains ns end) (sym (unwrap_or-slice_get (rows_of_targets targets) start []) ∙ ap (λ x. unwrap_or x []) (slice_get-map targets_row targets start)) e)

-- what is found, where the net is known
pub found_in : (n : Net) (id : List ℕ) (offset : ℕ) (o : Objects) (found : Found) (least : Option Fault) → AreOfNet n id offset o → AreFoundIn o (all_holders id offset o) found least → AreFoundIn o (holders_of n) found least
found_in n id offset o found least of is =
    subst (λ hs. AreFoundIn o hs found least)
    (ap (λ i. all_holders i offset o) (sym of.id) ∙ ap (λ k. all_holders n.id k o) (sym of.at) ∙ holders_are n o of.holds) is

module _ (n : Net) (o : Objects) (holds : HoldsAll n.declarations n.pages o) where
  place_at : (r : Reference) → Contains (net_place_references n) r → (k : ℕ) × (slice_get o.references k ≡ Some r) × (k < o.place_refs)
  place_at r c = let at = at_contains (net_place_references n) r c in (
    at.0,
    ap (λ rs. slice_get rs at.0) (references_are n o holds) ∙ get_left (net_place_references n) (net_transition_references n) at.0 r at.1,
    omega (arith, slice_get_within (net_place_references n) at.0 r at.1, place_refs_are n o holds),
  )

  transition_at : (r : Reference) → Contains (net_transition_references n) r → (k : ℕ) × (slice_get o.references k ≡ Some r) × (o.place_refs ≤ k)
  transition_at r c =
      let at = at_contains (net_transition_references n) r c in
      let k = length (net_place_references n) + at.0 in
      (k, ap (λ rs. slice_get rs k) (references_are n o holds) ∙ get_right (net_place_references n) (net_transition_references n) at.0 ∙ at.1, omega (arith, place_refs_are n o holds))

  reference_at : (r : Reference) → IsReference n r → (k : ℕ) × (slice_get o.references k ≡ Some r)
  reference_at r (inl c) = let at = place_at r c in (at.0, at.1)
  reference_at r (inr c) = let at = transition_at r c in (at.0, at.1)

  arc_in : (a : Arc) → Contains (net_arcs n) a → Contains o.arcs a
  arc_in a c = subst (λ xs. Contains xs a) (sym (arcs_are n o holds)) c

  of_places : (k : ℕ) → k < o.place_refs → reference_side o.place_refs k ≡ places
  of_places k small = ap side_by (let is : nat_lt k o.place_refs ≡ true = grind (arith, nat_tests, small) in is)

  of_transitions : (k : ℕ) → o.place_refs ≤ k → reference_side o.place_refs k ≡ transitions
  of_transitions k past = ap side_by (let is : nat_lt k o.place_refs ≡ false = grind (arith, nat_tests, past) in is)

  -- all faults that are told
  Told : Fault → Type 0
  Told f = (IsDuplicateAmong (holders_of n) f ⊎ IsFaultOfReferences n o.place_refs o.references f) ⊎ StandsInSome (IsArcFault n) o.arcs f

  told_in_links : (f : Fault) → StandsInLinks n f → Told f
  unfolding Told
  told_in_links f (links.duplicate_id _ d) = inl (inl d)
  told_in_links f (links.unknown_end _ (links.source _ a there none is)) = inr (a, arc_in a there, told.source f none is)
  told_in_links f (links.unknown_end _ (links.target _ a side there on none is)) = inr (a, arc_in a there, told.target f side on none is)
  told_in_links f (links.unknown_end _ (links.reference _ r stands none is)) = let at = reference_at r stands in inl (inr (at.0, r, at.1, inl (told.unknown f none is)))
  told_in_links f (links.wrong_end _ (links.arc _ a side there on at is)) = inr (a, arc_in a there, told.wrong f side on at is)
  told_in_links f (links.wrong_end _ (links.to_place _ r c on is)) = let at = place_at r c in
      inl (inr (at.0, r, at.1, inl (told.wrong f transitions on (λ same. let bad : transitions ≡ places = same ∙ of_places at.0 at.2 in cc) is)))
  told_in_links f (links.wrong_end _ (links.to_transition _ r c on is)) = let at = transition_at r c in
      inl (inr (at.0, r, at.1, inl (told.wrong f places on (λ same. let bad : places ≡ transitions = same ∙ of_transitions at.0 at.2 in cc) is)))
  told_in_links f (links.reference_cycle _ c) = let at = reference_at c.reference c.stands in inl (inr (at.0, c.reference, at.1, inr (c.is_endless, c.is)))

  wrong_reference : (f : Fault) (k : ℕ) (r : Reference) (side : Side) → slice_get o.references k ≡ Some r → IsOnSide n r.refers side → (side ≡ reference_side o.place_refs k → ⊥) → f ≡ fault_at reasons.WrongEnd r.at r.id → StandsInLinks n f
  wrong_reference f k r side at on differ is = step (nat_lt k o.place_refs) refl side on differ
    where
      step : (b : Bool) → nat_lt k o.place_refs ≡ b → (s : Side) → IsOnSide n r.refers s → (s ≡ side_by b → ⊥) → StandsInLinks n f
      step true e places there apart = absurd (apart refl)
      step true e transitions there apart = links.wrong_end f (links.to_place f r (to_place n o holds k r at (grind (arith, nat_tests, e))) there is)
      step false e places there apart = links.wrong_end f (links.to_transition f r (to_transition n o holds k r at (grind (arith, nat_tests, e))) there is)
      step false e transitions there apart = absurd (apart refl)

  links_of_told : (f : Fault) → Told f → StandsInLinks n f
  unfolding Told
  links_of_told f (inl (inl d)) = links.duplicate_id f d
  links_of_told f (inl (inr (k, r, at, inl (told.unknown _ none is)))) = links.unknown_end f (links.reference f r (is_reference n o holds k r at) none is)
  links_of_told f (inl (inr (k, r, at, inl (told.wrong _ side on differ is)))) = wrong_reference f k r side at on differ is
  links_of_told f (inl (inr (k, r, at, inr (endless, is)))) = links.reference_cycle f (record { reference = r; stands = is_reference n o holds k r at; is_endless = endless; is = is })
  links_of_told f (inr (a, c, told.source _ none is)) = links.unknown_end f (links.source f a (subst (λ xs. Contains xs a) (arcs_are n o holds) c) none is)
  links_of_told f (inr (a, c, told.target _ side on none is)) = links.unknown_end f (links.target f a side (subst (λ xs. Contains xs a) (arcs_are n o holds) c) on none is)
  links_of_told f (inr (a, c, told.wrong _ side on at is)) = links.wrong_end f (links.arc f a side (subst (λ xs. Contains xs a) (arcs_are n o holds) c) on at is)

  -- the least of the faults of ids, arcs told from the beginning
  begun : (least : Option Fault) → IsLeastOf (IsDuplicateAmong (holders_of n)) least → AddsFaults n (IsDuplicateAmong (holders_of n)) None least
  begun None none = record { told = λ f is. inl is; keeps = λ apart. record { own = None; is_least = none; is_lower = refl }; kept = λ is. refl }
  begun (Some g) has = record { told = λ f is. inr (subst (IsDuplicateAmong (holders_of n)) (same_some g f is) has.0); keeps = λ apart. record { own = Some g; is_least = has; is_lower = refl }; kept = λ is. refl }

  -- where no id is given twice, no two elements are at one offset with one id
  are_apart : IsLeastOf (IsDuplicateAmong (holders_of n)) None → AreApart n
  are_apart none x y c d same at = step (at_contains (holders_of n) x c) (at_contains (holders_of n) y d)
    where
      never : (i j : ℕ) → slice_get (holders_of n) i ≡ Some x → slice_get (holders_of n) j ≡ Some y → (i ≡ j → ⊥) → ⊥
      never i j is also differ = none (fault_at reasons.DuplicateId y.at y.id) (record { one = i; another = j; first = x; second = y; has_first = is; has_second = also; differ = differ; before = omega (arith, at); same = same; is = refl })

      step : (i : ℕ) × (slice_get (holders_of n) i ≡ Some x) → (j : ℕ) × (slice_get (holders_of n) j ≡ Some y) → x ≡ y
      step (i, is) (j, also) = elim (cases_lt i j) [
        | inl less ↦ absurd (never i j is also (λ e. omega (arith, less, e)))
        | inr most ↦ elim (cases_lt j i) [
          | inl less ↦ absurd (never i j is also (λ e. omega (arith, less, e)))
          | inr other ↦ same_some x y (sym is ∙ ap (slice_get (holders_of n)) (omega (arith, most, other)) ∙ also)
        ]
      ]

  pub judged : (first second last : Option Fault) → IsLeastOf (IsDuplicateAmong (holders_of n)) first → AddsFaults n (IsFaultOfReferences n o.place_refs o.references) first second
      → AddsFaults n (StandsInSome (IsArcFault n) o.arcs) second last → IsJudged n last
  unfolding Told
  judged first second last lowest references arcs = record {
    tells = tells_alike n Told (StandsInLinks n) None last links_of_told told_in_links
        (tells_both n (λ f. IsDuplicateAmong (holders_of n) f ⊎ IsFaultOfReferences n o.place_refs o.references f) (StandsInSome (IsArcFault n) o.arcs) None second last
        (tells_both n (IsDuplicateAmong (holders_of n)) (IsFaultOfReferences n o.place_refs o.references) None first second (begun first lowest) references) arcs);
    apart = λ is. are_apart (subst (IsLeastOf (IsDuplicateAmong (holders_of n))) (references.kept (arcs.kept is)) lowest);
  }

  pub wires_are : (found : Found) (least : Option Fault) (goals : List Goal) → AreFoundIn o (holders_of n) found least → HaveGoals o.place_refs found.targets.items goals → ((f : Fault) → StandsInLinks n f → ⊥)
      → AllZip (IsWire n) (net_arcs n) (map (wire_of o.place_refs goals) found.ends.items)
  wires_are found least goals is have sound = all_wired n o holds found.targets.items is.targets goals have sound (net_arcs n) found.ends.items (λ a c. c)
      (subst (λ arcs. AllZip (AreEnds o (holders_of n)) arcs found.ends.items) (arcs_are n o holds) is.ends)

pub same_fault : {T : Type 0} (g f : Fault) → ◌≡◌ {A = Result T Refusal} (Err (refusals.Fault g)) (Err (refusals.Fault f)) → g ≡ f
same_fault g f is = cc

pub err_again : {T U E : Type 0} {x y : E} → ◌≡◌ {A = Result T E} (Err x) (Err y) → ◌≡◌ {A = Result U E} (Err x) (Err y)
err_again {T} {U} {E} {x} {y} is = let same : x ≡ y = cc in ap (λ e. Err e) same

-- nothing is told: no fault stands
pub nothing_stands : (n : Net) → IsJudged n None → (f : Fault) → StandsInLinks n f → ⊥
nothing_stands n is = least_alone (StandsInLinks n) None (is.tells.keeps (is.apart refl))

-- a fault is told: it stands, and is the least
pub told_stands : (n : Net) (f : Fault) → IsJudged n (Some f) → IsLeastInLinks n f
told_stands n f is = record {
  stands = elim (is.tells.told f refl) [ inl before ↦ absurd (let bad : None ≡ Some f = before in cc) | inr stands ↦ stands ];
  least = λ apart. least_alone (StandsInLinks n) (Some f) (is.tells.keeps apart);
}

-- ---- the flat net

-- the first title is that of the first page
first_title : (n : Net) (o : Objects) (page : Page) → HoldsAll n.declarations n.pages o → slice_get n.pages 0 ≡ Some page → (rest : List Title) × (o.titles ≡ title_of (out-Page page) ∷ rest)
first_title n o page holds is = step n.pages is (sym (append-nil holds.gathered.titles) ∙ holds.all.titles)
  where
    step : (ps : List Page) → slice_get ps 0 ≡ Some page → holds.gathered.titles ≡ flat_map (in_page (λ p. title_of p ∷ [])) ps → (rest : List Title) × (o.titles ≡ title_of (out-Page page) ∷ rest)
    step [] at all = absurd (cc (sym at))
    step (p ∷ ps) at all =
        let same : p ≡ page = same_some p page at in
        let inner = flat_map (in_page (λ q. title_of q ∷ [])) (out-Page p).pages in (
          inner ++ flat_map (in_page (λ q. title_of q ∷ [])) ps,
          ap (λ (x : Objects). x.titles) holds.is ∙ all ∙ ap (λ ts. ts ++ flat_map (in_page (λ q. title_of q ∷ [])) ps) (page_law (λ q. title_of q ∷ []) p)
              ∙ ap (λ q. title_of (out-Page q) ∷ (inner ++ flat_map (in_page (λ x. title_of x ∷ [])) ps)) same,
        )

-- what the net keeps for itself
abbrev pub outer_of : Net → Outer
outer_of n = record { id = n.id; kind = n.kind; prefixes = n.prefixes; head = n.head; at = n.at }

pub first_page : (ps : List Page) → 1 ≤ length ps → (page : Page) × (slice_get ps 0 ≡ Some page)
first_page [] some = absurd (omega (arith, some))
first_page (p ∷ ps) some = (p, refl)

-- the first page's title is there
pub has_title : (n : Net) (id : List ℕ) (offset : ℕ) (o : Objects) → AreOfNet n id offset o → 1 ≤ length n.pages → 0 < length o.titles
has_title n id offset o of some =
    let page = first_page n.pages some in
    let title = first_title n o page.0 of.holds page.1 in
    subst (λ (ts : List Title). 0 < length ts) (sym title.1) (omega arith)

pub flat_arcs_length : (ps : List Place) (ts : List Transition) (arcs : List Arc) (ws : List Wire) → length ws ≡ length arcs → length (flat_arcs ps ts arcs ws) ≡ length arcs
flat_arcs_length ps ts [] ws same = refl
flat_arcs_length ps ts (a ∷ arcs) [] same = absurd (omega (arith, same))
flat_arcs_length ps ts (a ∷ arcs) (w ∷ ws) same = ap suc (flat_arcs_length ps ts arcs ws (omega (arith, same)))

module _ (n : Net) (o : Objects) (of : AreOfNet n n.id n.at o) (some : 1 ≤ length n.pages) where
  the_flat : List Wire → Flat
  the_flat wires = flat_of (outer_of n) (title_of (out-Page (first_page n.pages some).0)) o wires

  flat_is : (f : Flat) (is : IsLinkedFlat n (outer_of n) o f) → f ≡ the_flat is.wires
  unfolding the_flat
  flat_is f is =
      let page = first_page n.pages some in
      let title = first_title n o page.0 of.holds page.1 in
      is.is (title_of (out-Page page.0)) (ap (λ ts. slice_get ts 0) title.1)

  made : List Declaration → List Place → List Transition → List Arc → Net
  made ds ps ts arcs = let page = out-Page (first_page n.pages some).0 in record {
    id = n.id;
    kind = n.kind;
    prefixes = n.prefixes;
    head = n.head;
    declarations = in_one ds;
    pages = page_of_objects page.id page.head ps ts arcs ∷ [];
    at = 0;
  }

  flattened_by : (wires : List Wire) → AreLinked n wires → IsFlattened n (net_of_flat (the_flat wires))
  unfolding the_flat made
  flattened_by wires linked =
      let f = the_flat wires in
      let arcs = map (arc_of_flat f) f.arcs in
      record {
        page = (first_page n.pages some).0;
        is_first = (first_page n.pages some).1;
        arcs = arcs;
        rewired = subst (λ arcs. AllZip (IsRewired n) (net_arcs n) (map (arc_of_flat f) (flat_arcs o.places o.transitions arcs wires))) (sym (arcs_are n o of.holds))
            (rewired n f (places_are n o of.holds) (transitions_are n o of.holds) (net_arcs n) wires linked.wired);
        is = ap (λ ds. made ds o.places o.transitions arcs) (declarations_are n o of.holds)
            ∙ ap (λ ps. made (net_declarations n) ps o.transitions arcs) (places_are n o of.holds)
            ∙ ap (λ ts. made (net_declarations n) (net_places n) ts arcs) (transitions_are n o of.holds);
      }

  -- the flat net is that of the net
  pub flattened : (f : Flat) → IsLinkedFlat n (outer_of n) o f → IsFlattened n (net_of_flat f)
  flattened f is = subst (λ g. IsFlattened n (net_of_flat g)) (sym (flat_is f is)) (flattened_by is.wires is.linked)

  -- and each of its arcs names its ends
  pub all_are_wired : (f : Flat) → IsLinkedFlat n (outer_of n) o f → (x : FlatArc) → Contains f.arcs x → IsWired f x
  unfolding the_flat
  all_are_wired f is = subst (λ (g : Flat). (x : FlatArc) → Contains g.arcs x → IsWired g x) (sym (flat_is f is))
      (λ x c. wired n (the_flat is.wires) (places_are n o of.holds) (transitions_are n o of.holds) (net_arcs n) is.wires is.linked.wired x
      (subst (λ arcs. Contains (flat_arcs o.places o.transitions arcs is.wires) x) (arcs_are n o of.holds) c))
