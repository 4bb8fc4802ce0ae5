-- Where references lead: what is kept of each is what following references from it gives.
use Rattle.std.proofs.Common.{◌≡◌, ◌⊎◌, inl, inr, ℕ, zero, suc, ◌<◌, ◌≤◌, Bool, true, false, cond, List, [], ◌∷◌, ◌++◌, length, nat_lt, nat_le, Option, Some, None, refl, sym, ap, ◌∙◌, subst, arith, slice_index_or}
use Rattle.std.specs.List.{AllZip, Contains, slice_get}
use Rattle.std.specs.Option.{option_map, unwrap_or}
use Rattle.std.proofs.lemmas.Bool.Decides.{nat_tests}
use Rattle.std.proofs.lemmas.Option.{get_or_from_slice_get, slice_get-get_or, slice_get-map, slice_get_within, unwrap_or-slice_get}
use Rattle.std.proofs.lemmas.List.Elements.{Contains-append_cases}
use Rattle.pn_carriers.proofs.PlaceLemmas.{get_left_back}
use Rattle.pn_cycles.specs.Graphs.{IsEdge, Leads, by_edge, by_path}
use Rattle.pn_cycles.specs.Orders.{StandsBefore}
use Rattle.pn_facts.proofs.Contained.{at_contains, contains_at, contains_first, contains_one}
use Rattle.pn_net.specs.Ends.{End, ReachesEnd}
use Rattle.pn_net.specs.Ends as ends
use Rattle.pn_net.specs.Ids.{IdHolder, NamesHolder, Role, holders_of}
use Rattle.pn_net.specs.Ids as roles
use Rattle.pn_net.specs.Links.{IsReference, LeadsOn, Side, places, transitions, refers_of, StandsInLinks}
use Rattle.pn_net.specs.Links as links
use Rattle.pn_net.specs.Objects.{net_place_references, net_transition_references}
use Rattle.pn_faults.specs.declared.fault.Fault.{Fault}
use Rattle.pn_faults.specs.declared.reason.Reason.TheVariants as reasons
use Rattle.pn_faults.specs.Order.{fault_at}
use Rattle.pn_objects.specs.declared.net.Net.{Net}
use Rattle.pn_objects.specs.declared.object.Reference.{Reference}
use Rattle.pn_pages.specs.declared.follow.Goal.{Goal}
use Rattle.pn_pages.specs.declared.names.Node.{Node}
use Rattle.pn_pages.specs.declared.names.Node.TheVariants as nodes
use Rattle.pn_pages.specs.declared.numbered.Objects.{Objects}
use Rattle.pn_pages.specs.Following.{HaveGoals, IsTarget, goal_at, goal_through, lost, of_one_side, round, rows_of_targets, settled_goal, targets_row}
use Rattle.pn_pages.specs.Linking.{AreApart, AreFollowed, IsEndless, TellsEndless, node_side, reference_side, side_by}
use Rattle.pn_pages.specs.Naming.{FindsNode, IsFirstHolder, Shows}
use Rattle.pn_pages.specs.Sides.{HoldsAll}
use Rattle.pn_pages.specs.Wiring.{end_number, goal_number}
use Rattle.pn_pages.proofs.HolderLemmas.{place_refs_are, places_are, references_are, transitions_are}
use Rattle.pn_pages.proofs.NodeLemmas.{names_first, no_node, on_side, only_named}
use Rattle.pn_pages.proofs.TellingLemmas.{same_some}

-- what stands beside an item of the first list
pub zip_beside : {A B : Type 0} (R : A → B → Type 0) (xs : List A) (ys : List B) (k : ℕ) (x : A) → AllZip R xs ys → slice_get xs k ≡ Some x → (y : B) × (slice_get ys k ≡ Some y) × R x y
zip_beside R [] ys k x have is = absurd (cc (sym is))
zip_beside R (a ∷ xs) [] k x have is = absurd have
zip_beside R (a ∷ xs) (b ∷ ys) zero x have is = (b, refl, subst (λ z. R z b) (cc is) have.0)
zip_beside R (a ∷ xs) (b ∷ ys) (suc k) x have is = zip_beside R xs ys k x have.1 is

pub zip_length : {A B : Type 0} (R : A → B → Type 0) (xs : List A) (ys : List B) → AllZip R xs ys → length ys ≡ length xs
zip_length R [] [] have = refl
zip_length R [] (b ∷ ys) have = absurd have
zip_length R (a ∷ xs) [] have = absurd have
zip_length R (a ∷ xs) (b ∷ ys) have = ap suc (zip_length R xs ys have.1)

in_front : {X : Type 0} (xs ys : List X) (k : ℕ) (x : X) → slice_get (xs ++ ys) k ≡ Some x → k < length xs → Contains xs x
in_front xs ys k x is small = contains_at xs k x (sym (get_left_back xs ys k small) ∙ is)

in_back : {X : Type 0} (xs ys : List X) (k : ℕ) (x : X) → slice_get (xs ++ ys) k ≡ Some x → length xs ≤ k → Contains ys x
in_back [] ys k x is le = contains_at ys k x is
in_back (z ∷ xs) ys zero x is le = absurd (omega (arith, le))
in_back (z ∷ xs) ys (suc k) x is le = in_back xs ys k x is (omega (arith, le))

-- what a reference that is shown refers to
refers_shown : (o : Objects) (k : ℕ) (r : Reference) (h : IdHolder) → h.role ≡ cond (nat_lt k o.place_refs) (roles.place_reference r.refers) (roles.transition_reference r.refers) → refers_of h.role ≡ Some r.refers
refers_shown o k r h is = ap refers_of is ∙ step (nat_lt k o.place_refs)
  where
    step : (b : Bool) → refers_of (cond b (roles.place_reference r.refers) (roles.transition_reference r.refers)) ≡ Some r.refers
    step true = refl
    step false = refl

side_of_reference : (o : Objects) (k : ℕ) (r : Reference) (h : IdHolder) → h.role ≡ cond (nat_lt k o.place_refs) (roles.place_reference r.refers) (roles.transition_reference r.refers) → links.side_of h.role ≡ Some (reference_side o.place_refs k)
side_of_reference o k r h is = ap links.side_of is ∙ step (nat_lt k o.place_refs)
  where
    step : (b : Bool) → links.side_of (cond b (roles.place_reference r.refers) (roles.transition_reference r.refers)) ≡ Some (side_by b)
    step true = refl
    step false = refl

-- a way round goes over a first node that is on it, too
first_edge : {edges : List (List ℕ)} {a : ℕ} (k : ℕ) → a ≡ k → Leads edges a a → (j : ℕ) × IsEdge edges k j × Leads edges j j
first_edge {edges} {a} k is way = subst (λ m. (j : ℕ) × IsEdge edges m j × Leads edges j j) is (from way)
  where
    then_edge : {x y z : ℕ} → Leads edges x y → IsEdge edges y z → Leads edges x z
    then_edge (by_edge e) f = by_path e (by_edge f)
    then_edge (by_path e w) f = by_path e (then_edge w f)

    loose : {x y : ℕ} → Leads edges x y → (j : ℕ) × IsEdge edges x j × ((y ≡ j) ⊎ Leads edges j y)
    loose {x} {y} (by_edge e) = (y, e, inl refl)
    loose {x} {y} (by_path {start} {via} {end} e w) = (via, e, inr w)

    from : Leads edges a a → (j : ℕ) × IsEdge edges a j × Leads edges j j
    from w = step (loose w)
      where
        step : (j : ℕ) × IsEdge edges a j × ((a ≡ j) ⊎ Leads edges j a) → (j : ℕ) × IsEdge edges a j × Leads edges j j
        step (j, e, inl same) = (a, subst (IsEdge edges a) (sym same) e, w)
        step (j, e, inr rest) = (j, e, then_edge rest e)

-- to what a row leads
row_leads : (t : Option Node) (j : ℕ) → Contains (targets_row t) j → t ≡ Some (nodes.Reference j)
row_leads None j c = absurd (omega (arith, c.1))
row_leads (Some (nodes.Place i)) j c = absurd (omega (arith, c.1))
row_leads (Some (nodes.Transition i)) j c = absurd (omega (arith, c.1))
row_leads (Some (nodes.Reference k)) j c = ap (λ m. Some (nodes.Reference m)) (sym (contains_one k j c))
row_leads (Some nodes.Other) j c = absurd (omega (arith, c.1))

abbrev pub end_of : Side → ℕ → End
end_of places i = ends.place i
end_of transitions i = ends.transition i

-- through another reference
through : (b : Bool) (g : Goal) → (goal_through b (Some g)).endless ≡ g.endless
through true g = refl
through false g = refl

one_side : (n k j : ℕ) → of_one_side n k j ≡ true → reference_side n j ≡ reference_side n k
one_side n k j = step (nat_lt k n) refl (nat_lt j n) refl
  where
    step : (b : Bool) → nat_lt k n ≡ b → (c : Bool) → nat_lt j n ≡ c → cond b c (nat_le n j) ≡ true → side_by c ≡ side_by b
    step true e true f is = refl
    step true e false f is = absurd (let bad : false ≡ true = is in cc)
    step false e true f is = absurd (grind (arith, nat_tests, e, f, is))
    step false e false f is = refl

other_side : (n k j : ℕ) → of_one_side n k j ≡ false → reference_side n j ≡ reference_side n k → ⊥
other_side n k j = step (nat_lt k n) refl (nat_lt j n) refl
  where
    step : (b : Bool) → nat_lt k n ≡ b → (c : Bool) → nat_lt j n ≡ c → cond b c (nat_le n j) ≡ false → side_by c ≡ side_by b → ⊥
    step true e true f is same = absurd (let bad : true ≡ false = is in cc)
    step true e false f is same = absurd (let bad : transitions ≡ places = same in cc)
    step false e true f is same = absurd (let bad : places ≡ transitions = same in cc)
    step false e false f is same = absurd (grind (arith, nat_tests, e, f, is))

module _ (n : Net) (o : Objects) (holds : HoldsAll n.declarations n.pages o) where
  -- the references of a net by their numbers
  pub to_place : (k : ℕ) (r : Reference) → slice_get o.references k ≡ Some r → k < o.place_refs → Contains (net_place_references n) r
  to_place k r is small = in_front (net_place_references n) (net_transition_references n) k r (sym (ap (λ rs. slice_get rs k) (references_are n o holds)) ∙ is) (omega (arith, small, place_refs_are n o holds))

  pub to_transition : (k : ℕ) (r : Reference) → slice_get o.references k ≡ Some r → o.place_refs ≤ k → Contains (net_transition_references n) r
  to_transition k r is past = in_back (net_place_references n) (net_transition_references n) k r (sym (ap (λ rs. slice_get rs k) (references_are n o holds)) ∙ is) (omega (arith, past, place_refs_are n o holds))

  pub is_reference : (k : ℕ) (r : Reference) → slice_get o.references k ≡ Some r → IsReference n r
  is_reference k r is = Contains-append_cases (net_place_references n) (net_transition_references n) r (subst (λ rs. Contains rs r) (references_are n o holds) (contains_at o.references k r is))

  module _ (targets : List (Option Node)) (found : AllZip (IsTarget o (holders_of n)) o.references targets) (goals : List Goal) (have : HaveGoals o.place_refs targets goals) where
    -- a reference by its number, and what it refers to
    record Known (k : ℕ) (r : Reference) (t : Option Node) : Type 0 where
      stands : slice_get o.references k ≡ Some r
      target : slice_get targets k ≡ Some t
      finds : FindsNode o (holders_of n) r.refers t

    known : (k : ℕ) (r : Reference) → slice_get o.references k ≡ Some r → (t : Option Node) × Known k r t
    known k r is = let beside = zip_beside (IsTarget o (holders_of n)) o.references targets k r found is in (beside.0, record { stands = is; target = beside.1; finds = beside.2 })

    goal_of : ℕ → Option Node → Goal
    goal_of k t = settled_goal o.place_refs have.on_cycle k t goals

    goal_known : (k : ℕ) (r : Reference) (t : Option Node) → Known k r t → slice_get goals k ≡ Some (goal_of k t)
    unfolding goal_of
    goal_known k r t s = have.are_goals.each k t s.target

    within : (k : ℕ) (r : Reference) (t : Option Node) → Known k r t → k < length (rows_of_targets targets)
    within k r t s = slice_get_within (rows_of_targets targets) k (targets_row t) (slice_get-map targets_row targets k ∙ ap (option_map targets_row) s.target)

    row_known : (k : ℕ) (r : Reference) (t : Option Node) → Known k r t → slice_index_or (rows_of_targets targets) k [] ≡ targets_row t
    row_known k r t s = sym (unwrap_or-slice_get (rows_of_targets targets) k []) ∙ ap (λ o. unwrap_or o []) (slice_get-map targets_row targets k ∙ ap (option_map targets_row) s.target)

    -- the reference to which a reference refers
    record Next (id : List ℕ) (j : ℕ) : Type 0 where
      reference : Reference
      target : Option Node
      is_known : Known j reference target
      holder : IdHolder
      names : NamesHolder n id holder
      has_id : reference.id ≡ id
      refers : refers_of holder.role ≡ Some reference.refers
      side : links.side_of holder.role ≡ Some (reference_side o.place_refs j)

    next : (id : List ℕ) (j : ℕ) → FindsNode o (holders_of n) id (Some (nodes.Reference j)) → Next id j
    next id j (h, first, (r, stands, same, role)) = let it = known j r stands in record {
      reference = r;
      target = it.0;
      is_known = it.1;
      holder = h;
      names = names_first n o id h first;
      has_id = sym same ∙ first.has_id;
      refers = refers_shown o j r h role;
      side = side_of_reference o j r h role;
    }

    -- ---- following that never ends

    step_endless : (k : ℕ) (r : Reference) (t : Option Node) → Known k r t → (b : Bool) → slice_index_or have.on_cycle k false ≡ b → (cond b round (goal_at o.place_refs k t goals)).endless ≡ true
        → (j : ℕ) × (t ≡ Some (nodes.Reference j)) × ((q : Reference) (u : Option Node) → Known j q u → (goal_of j u).endless ≡ true)
    unfolding goal_of
    step_endless k r t s true cyclic is = step (first_edge k refl ((have.tells k (within k r t s)).0 cyclic))
      where
        step : (j : ℕ) × IsEdge (rows_of_targets targets) k j × Leads (rows_of_targets targets) j j
            → (j : ℕ) × (t ≡ Some (nodes.Reference j)) × ((q : Reference) (u : Option Node) → Known j q u → (settled_goal o.place_refs have.on_cycle j u goals).endless ≡ true)
        step (j, e, way) = (j, row_leads t j (subst (λ row. Contains row j) (row_known k r t s) e), λ q u known. ap (λ b. (cond b round (goal_at o.place_refs j u goals)).endless) ((have.tells j (within j q u known)).1 way))
    step_endless k r None s false cyclic is = absurd (let bad : false ≡ true = is in cc)
    step_endless k r (Some (nodes.Place i)) s false cyclic is = absurd (never (nat_lt k o.place_refs) is)
      where
        never : (b : Bool) → (cond b (record { end = Some i; endless = false }) lost).endless ≡ true → ⊥
        never true e = let bad : false ≡ true = e in cc
        never false e = let bad : false ≡ true = e in cc
    step_endless k r (Some (nodes.Transition i)) s false cyclic is = absurd (never (nat_le o.place_refs k) is)
      where
        never : (b : Bool) → (cond b (record { end = Some i; endless = false }) lost).endless ≡ true → ⊥
        never true e = let bad : false ≡ true = e in cc
        never false e = let bad : false ≡ true = e in cc
    step_endless k r (Some (nodes.Reference j)) s false cyclic is = (
      j,
      refl,
      λ q u known.
          sym (through (of_one_side o.place_refs k j) (settled_goal o.place_refs have.on_cycle j u goals)) ∙ ap (λ g. (goal_through (of_one_side o.place_refs k j) g).endless) (sym (have.are_goals.each j u known.target)) ∙ is,
    )
    step_endless k r (Some nodes.Other) s false cyclic is = absurd (let bad : false ≡ true = is in cc)

    Follows : ℕ → Option Node → Type 0
    unfolding goal_of
    Follows k t = (j : ℕ) × (t ≡ Some (nodes.Reference j)) × ((q : Reference) (u : Option Node) → Known j q u → (goal_of j u).endless ≡ true)

    following : (k : ℕ) (r : Reference) (t : Option Node) → Known k r t → (goal_of k t).endless ≡ true → Follows k t
    unfolding goal_of Follows
    following k r t s is = step_endless k r t s (slice_index_or have.on_cycle k false) refl is

    next_of : (k : ℕ) (r : Reference) (t : Option Node) → Known k r t → (j : ℕ) → t ≡ Some (nodes.Reference j) → Next r.refers j
    next_of k r t s j to = next r.refers j (subst (FindsNode o (holders_of n) r.refers) to s.finds)

    forever : (steps k : ℕ) (r : Reference) (t : Option Node) → Known k r t → (goal_of k t).endless ≡ true → LeadsOn n steps r.refers
    unfolding Follows
    forever zero k r t s is = step (following k r t s is)
      where
        step : (j : ℕ) × (t ≡ Some (nodes.Reference j)) × ((q : Reference) (u : Option Node) → Known j q u → (goal_of j u).endless ≡ true) → LeadsOn n zero r.refers
        step (j, to, on) = let then = next_of k r t s j to in (then.holder, then.reference.refers, then.names, then.refers)
    forever (suc m) k r t s is = step (following k r t s is) (λ j q u known on. forever m j q u known on)
      where
        step : (j : ℕ) × (t ≡ Some (nodes.Reference j)) × ((q : Reference) (u : Option Node) → Known j q u → (goal_of j u).endless ≡ true)
            → ((j : ℕ) (q : Reference) (u : Option Node) → Known j q u → (goal_of j u).endless ≡ true → LeadsOn n m q.refers) → LeadsOn n (suc m) r.refers
        step (j, to, on) more = let then = next_of k r t s j to in
            (then.holder, then.reference.refers, then.names, then.refers, more j then.reference then.target then.is_known (on then.reference then.target then.is_known))

    -- ---- references that are followed in their order

    -- where a reference that is on no cycle refers to another, that one stands before it
    earlier : (p k : ℕ) (r : Reference) (j : ℕ) → Known k r (Some (nodes.Reference j)) → slice_index_or have.on_cycle k false ≡ false → slice_get have.order p ≡ Some k → (q : ℕ) × (q < p) × (slice_get have.order q ≡ Some j)
    earlier p k r j s off place = step (have.behind k j (subst (λ row. Contains row j) (sym (row_known k r (Some (nodes.Reference j)) s)) (contains_first j [])) off_cycle)
      where
        small : k < length (rows_of_targets targets)
        small = within k r (Some (nodes.Reference j)) s

        off_cycle : Leads (rows_of_targets targets) k k → ⊥
        off_cycle way = let bad : true ≡ false = sym ((have.tells k small).1 way) ∙ off in cc

        step : StandsBefore have.order j k → (q : ℕ) × (q < p) × (slice_get have.order q ≡ Some j)
        step (q, m, lower, last, is_j, is_k) =
            let inside = slice_get_within have.order p k place in
            let here : m ≡ p = have.each.once m p last inside (is_k ∙ sym (get_or_from_slice_get have.order p k 0 place)) in
            (q, omega (arith, lower, here), slice_get-get_or have.order q 0 (omega (arith, lower, last)) ∙ ap Some is_j)

    place_of : (k : ℕ) (r : Reference) (t : Option Node) → Known k r t → (p : ℕ) × (slice_get have.order p ≡ Some k)
    place_of k r t s = at_contains have.order k (have.each.every k (within k r t s))

    -- ---- following that ends

    Ends : Reference → Type 0
    Ends r = (m : ℕ) × (LeadsOn n m r.refers → ⊥)

    stops : (r : Reference) → ((h : IdHolder) (refers : List ℕ) → NamesHolder n r.refers h → refers_of h.role ≡ Some refers → ⊥) → Ends r
    unfolding Ends
    stops r none = (zero, λ (h, refers, names, is). none h refers names is)

    -- the id names something that refers to nothing
    names_end : (r : Reference) → AreApart n → (h : IdHolder) → IsFirstHolder (holders_of n) r.refers h → refers_of h.role ≡ None → Ends r
    names_end r apart h first none = stops r (λ x refers names is.
        let same : x ≡ h = only_named n o r.refers apart x h names (names_first n o r.refers h first) in
        let bad : Some refers ≡ None = sym is ∙ ap (λ (y : IdHolder). refers_of y.role) same ∙ none in cc)

    ends_by : (k : ℕ) (r : Reference) (t : Option Node) → AreApart n → Known k r t → (b : Bool) → slice_index_or have.on_cycle k false ≡ b → (cond b round (goal_at o.place_refs k t goals)).endless ≡ false
        → ((j : ℕ) (q : Reference) (u : Option Node) → t ≡ Some (nodes.Reference j) → b ≡ false → Known j q u → (goal_of j u).endless ≡ false → Ends q) → Ends r
    unfolding goal_of Ends
    ends_by k r t apart s true cyclic is more = absurd (let bad : true ≡ false = is in cc)
    ends_by k r None apart s false cyclic is more = stops r (λ h refers names is. s.finds h names.stands names.has_id)
    ends_by k r (Some (nodes.Place i)) apart s false cyclic is more = step s.finds
      where
        step : (h : IdHolder) × IsFirstHolder (holders_of n) r.refers h × Shows o (nodes.Place i) h → (m : ℕ) × (LeadsOn n m r.refers → ⊥)
        step (h, first, (p, stands, same, role)) = names_end r apart h first (ap refers_of role)
    ends_by k r (Some (nodes.Transition i)) apart s false cyclic is more = step s.finds
      where
        step : (h : IdHolder) × IsFirstHolder (holders_of n) r.refers h × Shows o (nodes.Transition i) h → (m : ℕ) × (LeadsOn n m r.refers → ⊥)
        step (h, first, (p, stands, same, role)) = names_end r apart h first (ap refers_of role)
    ends_by k r (Some nodes.Other) apart s false cyclic is more = step s.finds
      where
        step : (h : IdHolder) × IsFirstHolder (holders_of n) r.refers h × Shows o nodes.Other h → (m : ℕ) × (LeadsOn n m r.refers → ⊥)
        step (h, first, role) = names_end r apart h first (ap refers_of role)
    ends_by k r (Some (nodes.Reference j)) apart s false cyclic is more =
        let then = next_of k r (Some (nodes.Reference j)) s j refl in
        let own : (settled_goal o.place_refs have.on_cycle j then.target goals).endless ≡ false =
        sym (through (of_one_side o.place_refs k j) (settled_goal o.place_refs have.on_cycle j then.target goals))
        ∙ ap (λ g. (goal_through (of_one_side o.place_refs k j) g).endless) (sym (have.are_goals.each j then.target then.is_known.target)) ∙ is in
        step then (more j then.reference then.target refl refl then.is_known own)
      where
        step : (then : Next r.refers j) → (m : ℕ) × (LeadsOn n m then.reference.refers → ⊥) → (m : ℕ) × (LeadsOn n m r.refers → ⊥)
        step then (m, none) = (
          suc m,
          λ (h, refers, names, is, leads).
              let same : h ≡ then.holder = only_named n o r.refers apart h then.holder names then.names in
              let to : refers ≡ then.reference.refers = same_some refers then.reference.refers (sym is ∙ ap (λ (y : IdHolder). refers_of y.role) same ∙ then.refers) in
              none (subst (LeadsOn n m) to leads),
        )

    ends_before : (most p k : ℕ) (r : Reference) (t : Option Node) → p < most → slice_get have.order p ≡ Some k → AreApart n → Known k r t → (goal_of k t).endless ≡ false → Ends r
    unfolding goal_of
    ends_before zero p k r t small place apart s is = absurd (omega (arith, small))
    ends_before (suc most) p k r t small place apart s is =
        ends_by k r t apart s (slice_index_or have.on_cycle k false) refl is (step (λ q j x u lower at known done. ends_before most q j x u lower at apart known done))
      where
        step : ((q j : ℕ) (x : Reference) (u : Option Node) → q < most → slice_get have.order q ≡ Some j → Known j x u → (settled_goal o.place_refs have.on_cycle j u goals).endless ≡ false → Ends x)
            → (j : ℕ) (x : Reference) (u : Option Node) → t ≡ Some (nodes.Reference j) → slice_index_or have.on_cycle k false ≡ false → Known j x u → (settled_goal o.place_refs have.on_cycle j u goals).endless ≡ false → Ends x
        step more j x u to off known done =
            let before = earlier p k r j (subst (Known k r) to s) off place in
            more before.0 j x u (omega (arith, before.1, small)) before.2 known done

    -- ---- what is kept of each reference

    tells_endless : (k : ℕ) (r : Reference) (t : Option Node) → Known k r t → TellsEndless n r (goal_of k t).endless
    unfolding goal_of Ends
    tells_endless k r t s = record {
      leads = λ is steps. forever steps k r t s is;
      ends = λ apart is endless. step endless (let p = place_of k r t s in ends_before (suc p.0) p.0 k r t (omega arith) p.1 apart s is);
    }
      where
        step : IsEndless n r → (m : ℕ) × (LeadsOn n m r.refers → ⊥) → ⊥
        step endless (m, none) = none (endless m)

    pub are_followed : AreFollowed n o o.references targets goals
    are_followed k r target goal stands at kept =
        let it = known k r stands in
        let t_is : it.0 ≡ target = same_some it.0 target (sym it.1.target ∙ at) in
        let g_is : goal_of k it.0 ≡ goal = same_some (goal_of k it.0) goal (sym (goal_known k r it.0 it.1) ∙ kept) in
        (subst (FindsNode o (holders_of n) r.refers) t_is it.1.finds, subst (λ (g : Goal). TellsEndless n r g.endless) g_is (tells_endless k r it.0 it.1))

    -- ---- where references lead, where no fault of ids and links stands

    module _ (sound : (f : Fault) → StandsInLinks n f → ⊥) where
      Reaching : ℕ → Reference → Goal → Type 0
      Reaching k r g = (i : ℕ) × (g.end ≡ Some i) × ReachesEnd n r.refers (end_of (reference_side o.place_refs k) i)

      never_wrong : (k : ℕ) (r : Reference) (other : Side) → slice_get o.references k ≡ Some r → links.IsOnSide n r.refers other → (other ≡ reference_side o.place_refs k → ⊥) → ⊥
      never_wrong k r other stands on differ = step (nat_lt k o.place_refs) refl other on differ
        where
          fault : Fault
          fault = fault_at reasons.WrongEnd r.at r.id

          step : (b : Bool) → nat_lt k o.place_refs ≡ b → (side : Side) → links.IsOnSide n r.refers side → (side ≡ side_by b → ⊥) → ⊥
          step true e places at apart = apart refl
          step true e transitions at apart = sound fault (links.wrong_end fault (links.to_place fault r (to_place k r stands (grind (arith, nat_tests, e))) at refl))
          step false e places at apart = sound fault (links.wrong_end fault (links.to_transition fault r (to_transition k r stands (grind (arith, nat_tests, e))) at refl))
          step false e transitions at apart = apart refl

      never_unknown : (k : ℕ) (r : Reference) → slice_get o.references k ≡ Some r → links.NamesNoNode n r.refers → ⊥
      never_unknown k r stands none =
          let fault = fault_at reasons.UnknownEnd r.at r.refers in
          sound fault (links.unknown_end fault (links.reference fault r (is_reference k r stands) none refl))

      never_endless : (k : ℕ) (r : Reference) (t : Option Node) → Known k r t → (goal_of k t).endless ≡ true → ⊥
      never_endless k r t s is =
          let fault = fault_at reasons.ReferenceCycle r.at r.id in
          sound fault (links.reference_cycle fault (record { reference = r; stands = is_reference k r s.stands; is_endless = λ steps. forever steps k r t s is; is = refl }))

      reach_by : (k : ℕ) (r : Reference) (t : Option Node) → Known k r t → (b : Bool) → slice_index_or have.on_cycle k false ≡ b
          → ((j : ℕ) (q : Reference) (u : Option Node) → t ≡ Some (nodes.Reference j) → b ≡ false → Known j q u → Reaching j q (goal_of j u)) → Reaching k r (cond b round (goal_at o.place_refs k t goals))
      unfolding goal_of Reaching
      reach_by k r t s true cyclic more = absurd (never_endless k r t s (ap (λ b. (cond b round (goal_at o.place_refs k t goals)).endless) cyclic))
      reach_by k r None s false cyclic more = absurd (never_unknown k r s.stands (no_node n o r.refers None s.finds refl))
      reach_by k r (Some nodes.Other) s false cyclic more = absurd (never_unknown k r s.stands (no_node n o r.refers (Some nodes.Other) s.finds refl))
      reach_by k r (Some (nodes.Place i)) s false cyclic more = step s.finds (nat_lt k o.place_refs) refl
        where
          step : (h : IdHolder) × IsFirstHolder (holders_of n) r.refers h × Shows o (nodes.Place i) h → (b : Bool) → nat_lt k o.place_refs ≡ b
              → (m : ℕ) × ((cond b (record { end = Some i; endless = false }) lost).end ≡ Some m) × ReachesEnd n r.refers (end_of (reference_side o.place_refs k) m)
          step (h, first, (p, stands, same, role)) true e = (
            i,
            refl,
            subst (λ b. ReachesEnd n r.refers (end_of (side_by b) i)) (sym e)
                (ends.at_place r.refers (ends.place i) i p (sym (ap (λ ps. slice_get ps i) (places_are n o holds)) ∙ stands) (sym same ∙ first.has_id) refl),
          )
          step found false e = absurd (never_wrong k r places s.stands (on_side n o r.refers (Some (nodes.Place i)) places s.finds refl) (λ same. let bad : places ≡ transitions = same ∙ ap side_by e in cc))
      reach_by k r (Some (nodes.Transition i)) s false cyclic more = step s.finds (nat_le o.place_refs k) refl (nat_lt k o.place_refs) refl
        where
          step : (h : IdHolder) × IsFirstHolder (holders_of n) r.refers h × Shows o (nodes.Transition i) h → (b : Bool) → nat_le o.place_refs k ≡ b → (c : Bool) → nat_lt k o.place_refs ≡ c
              → (m : ℕ) × ((cond b (record { end = Some i; endless = false }) lost).end ≡ Some m) × ReachesEnd n r.refers (end_of (reference_side o.place_refs k) m)
          step found true e true f = absurd (grind (arith, nat_tests, e, f))
          step (h, first, (t, stands, same, role)) true e false f = (
            i,
            refl,
            subst (λ b. ReachesEnd n r.refers (end_of (side_by b) i)) (sym f)
                (ends.at_transition r.refers (ends.transition i) i t (sym (ap (λ ts. slice_get ts i) (transitions_are n o holds)) ∙ stands) (sym same ∙ first.has_id) refl),
          )
          step found false e true f = absurd (never_wrong k r transitions s.stands (on_side n o r.refers (Some (nodes.Transition i)) transitions s.finds refl) (λ same. let bad : transitions ≡ places = same ∙ ap side_by f in cc))
          step found false e false f = absurd (grind (arith, nat_tests, e, f))
      reach_by k r (Some (nodes.Reference j)) s false cyclic more =
          let then = next_of k r (Some (nodes.Reference j)) s j refl in
          subst (λ g. Reaching k r (goal_through (of_one_side o.place_refs k j) g)) (sym (have.are_goals.each j then.target then.is_known.target))
          (step then (settled_goal o.place_refs have.on_cycle j then.target goals) (more j then.reference then.target refl refl then.is_known) (of_one_side o.place_refs k j) refl)
        where
          step : (then : Next r.refers j) (g : Goal) → (m : ℕ) × (g.end ≡ Some m) × ReachesEnd n then.reference.refers (end_of (reference_side o.place_refs j) m) → (b : Bool) → of_one_side o.place_refs k j ≡ b
              → (m : ℕ) × ((goal_through b (Some g)).end ≡ Some m) × ReachesEnd n r.refers (end_of (reference_side o.place_refs k) m)
          step then g (m, is, reach) true e = (
            m,
            is,
            subst (λ side. ReachesEnd n r.refers (end_of side m)) (one_side o.place_refs k j e)
                (ends.by_reference r.refers (end_of (reference_side o.place_refs j) m) then.reference (is_reference j then.reference then.is_known.stands) then.has_id reach),
          )
          step then g reaching false e = absurd (never_wrong k r (reference_side o.place_refs j) s.stands (then.holder, then.names, then.side) (other_side o.place_refs k j e))

      reach_before : (most p k : ℕ) (r : Reference) (t : Option Node) → p < most → slice_get have.order p ≡ Some k → Known k r t → Reaching k r (goal_of k t)
      unfolding goal_of
      reach_before zero p k r t small place s = absurd (omega (arith, small))
      reach_before (suc most) p k r t small place s =
          reach_by k r t s (slice_index_or have.on_cycle k false) refl (step (λ q j x u lower at known. reach_before most q j x u lower at known))
        where
          step : ((q j : ℕ) (x : Reference) (u : Option Node) → q < most → slice_get have.order q ≡ Some j → Known j x u → Reaching j x (settled_goal o.place_refs have.on_cycle j u goals))
              → (j : ℕ) (x : Reference) (u : Option Node) → t ≡ Some (nodes.Reference j) → slice_index_or have.on_cycle k false ≡ false → Known j x u → Reaching j x (settled_goal o.place_refs have.on_cycle j u goals)
          step more j x u to off known =
              let before = earlier p k r j (subst (Known k r) to s) off place in
              more before.0 j x u (omega (arith, before.1, small)) before.2 known

      -- the place or the transition of this number is reached from the reference
      pub leads_to : (k : ℕ) (r : Reference) (g : Goal) → slice_get o.references k ≡ Some r → slice_get goals k ≡ Some g → (i : ℕ) × (g.end ≡ Some i) × ReachesEnd n r.refers (end_of (reference_side o.place_refs k) i)
      unfolding Reaching
      leads_to k r g stands kept =
          let it = known k r stands in
          let p = place_of k r it.0 it.1 in
          subst (Reaching k r) (same_some (goal_of k it.0) g (sym (goal_known k r it.0 it.1) ∙ kept)) (reach_before (suc p.0) p.0 k r it.0 (omega arith) p.1 it.1)

      -- a node is at the end that its number tells
      pub node_leads : (id : List ℕ) (node : Option Node) (side : Side) → FindsNode o (holders_of n) id node → node_side o.place_refs node ≡ Some side → ReachesEnd n id (end_of side (end_number goals node))
      node_leads id None side finds is = absurd cc
      node_leads id (Some nodes.Other) side finds is = absurd cc
      node_leads id (Some (nodes.Place i)) side (h, first, (p, stands, same, role)) is = subst (λ s. ReachesEnd n id (end_of s i)) (same_some places side is)
          (ends.at_place id (ends.place i) i p (sym (ap (λ ps. slice_get ps i) (places_are n o holds)) ∙ stands) (sym same ∙ first.has_id) refl)
      node_leads id (Some (nodes.Transition i)) side (h, first, (t, stands, same, role)) is = subst (λ s. ReachesEnd n id (end_of s i)) (same_some transitions side is)
          (ends.at_transition id (ends.transition i) i t (sym (ap (λ ts. slice_get ts i) (transitions_are n o holds)) ∙ stands) (sym same ∙ first.has_id) refl)
      node_leads id (Some (nodes.Reference k)) side finds is =
          let then = next id k finds in
          let g = goal_of k then.target in
          let kept = goal_known k then.reference then.target then.is_known in
          let to = leads_to k then.reference g then.is_known.stands kept in
          let number : goal_number (slice_get goals k) ≡ to.0 = ap goal_number kept ∙ ap (λ e. unwrap_or e 0) to.1 in
          subst (λ i. ReachesEnd n id (end_of side i)) (sym number) (subst (λ s. ReachesEnd n id (end_of s to.0)) (same_some (reference_side o.place_refs k) side is)
          (ends.by_reference id (end_of (reference_side o.place_refs k) to.0) then.reference (is_reference k then.reference then.is_known.stands) then.has_id to.2))
