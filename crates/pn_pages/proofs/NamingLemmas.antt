-- What ids name, as one more is noted.
use Rattle.std.proofs.Common.{◌≡◌, ◌⊎◌, inl, inr, ℕ, ◌+◌, ◌≤◌, max, Bool, true, false, cond, true≢false, List, [], ◌∷◌, ◌++◌, length, Option, Some, None, refl, sym, ap, ◌∙◌, subst, arith, nat_le, nat_lt, ◌*◌, ◌==◌, ◌&&◌, ◌||◌}
use Rattle.std.specs.List.{Contains, slice_get}
use Rattle.std.specs.Str.{bytes_eq}
use Rattle.std.proofs.lemmas.List.Elements.{Contains-append_left, Contains-push, Contains-push_cases}
use Rattle.std.proofs.lemmas.Slice.Eq.{bytes_eq-Decides}
use Rattle.pn_faults.specs.declared.fault.Fault.{Fault}
use Rattle.pn_faults.specs.declared.reason.Reason.TheVariants as reasons
use Rattle.pn_faults.specs.Order.{comes_before, fault_at}
use Rattle.pn_faults.specs.Least.{lower}
use Rattle.pn_faults.specs.Standing.{IsLeastOf}
use Rattle.std.proofs.lemmas.Bool.Decides.{nat_tests}
use Rattle.std.proofs.lemmas.Option.{slice_get_within}
use Rattle.pn_carriers.proofs.PlaceLemmas.{get_left}
use Rattle.pn_names.proofs.DeclaredLemmas.{slice_get_at}
use Rattle.pn_partitions.proofs.TableLemmas.{slice_get_push}
use Rattle.pn_facts.proofs.Contained.{at_contains, contains_at}
use Rattle.pn_faults.proofs.WalkLemmas.{least_alike, least_of_both}
use Rattle.pn_net.specs.Ids.{IdHolder, Role}
use Rattle.pn_net.specs.Links.{IsDuplicateAmong}
use Rattle.std.specs.Option.{option_map}
use Rattle.pn_net.specs.Ids as roles
use Rattle.pn_pages.specs.declared.names.First.{First}
use Rattle.pn_pages.specs.declared.names.Node.{Node}
use Rattle.pn_pages.specs.declared.names.Node.TheVariants as nodes
use Rattle.pn_pages.specs.declared.numbered.Objects.{Objects}
use Rattle.pn_pages.specs.Naming.{AreNamed, IsFirstEntry, FindsNode, KeepsFirst, IsUnknown, Shows, earlier, comes_earlier, is_no_node, late, rank}

no_later : (a b : ℕ) (id : List ℕ) → b ≤ a → comes_before (fault_at reasons.DuplicateId a id) (fault_at reasons.DuplicateId b id) ≡ false
no_later a b id below = grind (arith, nat_tests)

-- what an id names that was just noted
pub put_alone : (id : List ℕ) (one : First) (old next : Option First) → next ≡ cond (bytes_eq id id) (Some one) old → next ≡ Some one
put_alone id one old next is = is ∙ ap (λ b. cond b (Some one) old) ((bytes_eq-Decides id id).1 refl)

-- of two things noted for one id, one after the other, the second stands
pub put_twice : (id q : List ℕ) (one two old between next : Option First) → between ≡ cond (bytes_eq id q) one old → next ≡ cond (bytes_eq id q) two between
    → next ≡ cond (bytes_eq id q) two old
put_twice id q one two old between next first second = second ∙ ap (cond (bytes_eq id q) two) first ∙ step (bytes_eq id q)
  where
    step : (b : Bool) → cond b two (cond b one old) ≡ cond b two old
    step true = refl
    step false = refl

-- one of these has the id of one more, and the fault is told at the later of both
abbrev IsClash : List IdHolder → IdHolder → Fault → Type 0
IsClash hs h f = (x : IdHolder) × Contains hs x × (x.id ≡ h.id) × (f ≡ fault_at reasons.DuplicateId (max x.at h.at) h.id)

pub late_most : (r : Role) → late r ≤ 1
late_most roles.place = omega arith
late_most roles.transition = omega arith
late_most (roles.place_reference refers) = omega arith
late_most (roles.transition_reference refers) = omega arith
late_most roles.other = omega arith

late_shown : (o : Objects) (node : Node) (x : IdHolder) → Shows o node x → late x.role ≡ cond (is_no_node node) 1 0
late_shown o (nodes.Place i) x shown = ap late shown.3
late_shown o (nodes.Transition i) x shown = ap late shown.3
late_shown o (nodes.Reference k) x shown = ap late shown.3 ∙ step (nat_lt k o.place_refs) shown.0.refers
  where
    step : (b : Bool) (refers : List ℕ) → late (cond b (roles.place_reference refers) (roles.transition_reference refers)) ≡ 0
    step true refers = refl
    step false refers = refl
late_shown o nodes.Other x shown = ap late shown

rank_earlier : (a b l m : ℕ) (c : Bool) → l ≤ 1 → m ≡ cond c 1 0 → (nat_lt a b || ((a == b) && c)) ≡ true → 2 * a + l ≤ 2 * b + m
rank_earlier a b l m true most late e = grind (arith, nat_tests, most, late, e)
rank_earlier a b l m false most late e = grind (arith, nat_tests, most, late, e)

rank_kept : (a b l m : ℕ) (c : Bool) → m ≡ cond c 1 0 → (nat_lt a b || ((a == b) && c)) ≡ false → 2 * b + m ≤ 2 * a + l
rank_kept a b l m true late e = grind (arith, nat_tests, late, e)
rank_kept a b l m false late e = grind (arith, nat_tests, late, e)

module _ (o : Objects) (hs : List IdHolder) (h : IdHolder) where
  more : List IdHolder
  more = hs ++ h ∷ []

  -- what is kept of another id stays
  other_entry : (q : List ℕ) → (h.id ≡ q → ⊥) → (k : Option First) → IsFirstEntry o hs q k → IsFirstEntry o more q k
  unfolding more
  other_entry q differ None none = λ x has same. elim (Contains-push_cases hs h x has) [
    | inl before ↦ none x before same
    | inr it ↦ differ (ap (λ (y : IdHolder). y.id) it ∙ same)
  ]
  other_entry q differ (Some first) kept = record {
    holder = kept.holder;
    is_first = record {
      stands = Contains-append_left hs (h ∷ []) kept.holder kept.is_first.stands;
      has_id = kept.is_first.has_id;
      is_first = λ x has same. elim (Contains-push_cases hs h x has) [
        | inl before ↦ kept.is_first.is_first x before same
        | inr it ↦ absurd (differ (ap (λ (y : IdHolder). y.id) it ∙ same))
      ];
    };
    shown = kept.shown;
    at = kept.at;
  }

  -- the new one, where it is the first
  new_entry : (first : First) → Shows o first.node h → h.at ≡ first.at → ((x : IdHolder) → Contains hs x → x.id ≡ h.id → rank h ≤ rank x) → IsFirstEntry o more h.id (Some first)
  unfolding more
  new_entry first shown at below = record {
    holder = h;
    is_first = record {
      stands = Contains-push hs h;
      has_id = refl;
      is_first = λ x has same. elim (Contains-push_cases hs h x has) [
        | inl before ↦ below x before same
        | inr it ↦ subst (λ (y : IdHolder). rank h ≤ rank y) it (omega arith)
      ];
    };
    shown = shown;
    at = at;
  }

  -- the old one, where it stays the first
  old_entry : (first : First) (kept : KeepsFirst o hs h.id first) → rank kept.holder ≤ rank h → IsFirstEntry o more h.id (Some first)
  unfolding more
  old_entry first kept below = record {
    holder = kept.holder;
    is_first = record {
      stands = Contains-append_left hs (h ∷ []) kept.holder kept.is_first.stands;
      has_id = kept.is_first.has_id;
      is_first = λ x has same. elim (Contains-push_cases hs h x has) [
        | inl before ↦ kept.is_first.is_first x before same
        | inr it ↦ subst (λ (y : IdHolder). rank kept.holder ≤ rank y) it below
      ];
    };
    shown = kept.shown;
    at = kept.at;
  }

  -- all entries, where what is kept of this id is right
  all_entries : (told next : List ℕ → Option First) (first : First) → ((q : List ℕ) → next q ≡ cond (bytes_eq h.id q) (Some first) (told q))
      → ((q : List ℕ) → IsFirstEntry o hs q (told q)) → IsFirstEntry o more h.id (Some first) → (q : List ℕ) → IsFirstEntry o more q (next q)
  all_entries told next first is old own q = subst (IsFirstEntry o more q) (sym (is q)) (step (bytes_eq h.id q) refl)
    where
      step : (b : Bool) → bytes_eq h.id q ≡ b → IsFirstEntry o more q (cond b (Some first) (told q))
      step true e = subst (λ (i : List ℕ). IsFirstEntry o more i (Some first)) ((bytes_eq-Decides h.id q).0 e) own
      step false e = other_entry q (λ same. absurd (true≢false (sym ((bytes_eq-Decides h.id q).1 same) ∙ e))) (told q) (old q)

  -- ---- the faults of ids

  clash : (f : Fault) → IsClash hs h f → IsDuplicateAmong more f
  unfolding more
  clash f (x, has, same, is) = step (at_contains hs x has) (nat_le x.at h.at) refl
    where
      step : (k : ℕ) × (slice_get hs k ≡ Some x) → (b : Bool) → nat_le x.at h.at ≡ b → IsDuplicateAmong (hs ++ h ∷ []) f
      step (k, at) true e = record {
        one = k;
        another = length hs;
        first = x;
        second = h;
        has_first = get_left hs (h ∷ []) k x at;
        has_second = slice_get_at hs h [];
        differ = λ n. omega (arith, slice_get_within hs k x at, n);
        before = grind (arith, nat_tests, e);
        same = same;
        is = is ∙ ap (λ n. fault_at reasons.DuplicateId n h.id) (grind (arith, nat_tests, e));
      }
      step (k, at) false e = record {
        one = length hs;
        another = k;
        first = h;
        second = x;
        has_first = slice_get_at hs h [];
        has_second = get_left hs (h ∷ []) k x at;
        differ = λ n. omega (arith, slice_get_within hs k x at, n);
        before = grind (arith, nat_tests, e);
        same = sym same;
        is = is ∙ ap (λ n. fault_at reasons.DuplicateId n h.id) (grind (arith, nat_tests, e)) ∙ ap (fault_at reasons.DuplicateId x.at) (sym same);
      }

  clash_before : (f : Fault) → IsDuplicateAmong hs f → IsDuplicateAmong more f
  unfolding more
  clash_before f d = record {
    one = d.one;
    another = d.another;
    first = d.first;
    second = d.second;
    has_first = get_left hs (h ∷ []) d.one d.first d.has_first;
    has_second = get_left hs (h ∷ []) d.another d.second d.has_second;
    differ = d.differ;
    before = d.before;
    same = d.same;
    is = d.is;
  }

  either_clash : (f : Fault) → IsDuplicateAmong more f → IsDuplicateAmong hs f ⊎ IsClash hs h f
  unfolding more
  either_clash f d = step (slice_get_push hs h d.one d.first d.has_first) (slice_get_push hs h d.another d.second d.has_second)
    where
      step : (slice_get hs d.one ≡ Some d.first) ⊎ ((d.one ≡ length hs) × (h ≡ d.first)) → (slice_get hs d.another ≡ Some d.second) ⊎ ((d.another ≡ length hs) × (h ≡ d.second))
          → IsDuplicateAmong hs f ⊎ IsClash hs h f
      step (inl a) (inl b) = inl (record { one = d.one; another = d.another; first = d.first; second = d.second; has_first = a; has_second = b; differ = d.differ; before = d.before; same = d.same; is = d.is })
      step (inl a) (inr b) =
          let at : h.at ≡ d.second.at = ap (λ (y : IdHolder). y.at) b.1 in
          let later : d.second.at ≡ max d.first.at h.at = omega (arith, d.before, at) in
          inr (d.first, contains_at hs d.one d.first a, d.same ∙ sym (ap (λ (y : IdHolder). y.id) b.1), d.is ∙ ap (λ n. fault_at reasons.DuplicateId n d.second.id) later ∙ ap (fault_at reasons.DuplicateId (max d.first.at h.at)) (sym (ap (λ (y : IdHolder). y.id) b.1)))
      step (inr a) (inl b) =
          let at : h.at ≡ d.first.at = ap (λ (y : IdHolder). y.at) a.1 in
          let later : d.second.at ≡ max d.second.at h.at = omega (arith, d.before, at) in
          let id : d.second.id ≡ h.id = sym d.same ∙ sym (ap (λ (y : IdHolder). y.id) a.1) in
          inr (d.second, contains_at hs d.another d.second b, id, d.is ∙ ap (λ n. fault_at reasons.DuplicateId n d.second.id) later ∙ ap (fault_at reasons.DuplicateId (max d.second.at h.at)) id)
      step (inr a) (inr b) = absurd (d.differ (a.0 ∙ sym b.0))

  -- ---- one more is noted

  -- whose id is new
  pub named_new : (told next : List ℕ → Option First) (first : First) (least : Option Fault) → Shows o first.node h → h.at ≡ first.at → told h.id ≡ None
      → ((q : List ℕ) → next q ≡ cond (bytes_eq h.id q) (Some first) (told q)) → AreNamed o hs told least → AreNamed o (hs ++ h ∷ []) next least
  unfolding more
  named_new told next first least shown at absent is named =
      let none : IsUnknown hs h.id = subst (IsFirstEntry o hs h.id) absent (named.entry h.id) in
      record {
        entry = all_entries told next first is named.entry (new_entry first shown at (λ x has same. absurd (none x has same)));
        lowest = least_alike (IsDuplicateAmong hs) (IsDuplicateAmong (hs ++ h ∷ [])) least clash_before (λ f d. elim (either_clash f d) [ inl a ↦ a | inr c ↦ absurd (none c.0 c.1 c.2) ]) named.lowest;
      }

  clash_least : (kept : First) → KeepsFirst o hs h.id kept → IsLeastOf (IsClash hs h) (Some (fault_at reasons.DuplicateId (max h.at kept.at) h.id))
  clash_least kept is = (
    (is.holder, is.is_first.stands, is.is_first.has_id, ap (λ n. fault_at reasons.DuplicateId n h.id) (omega (arith, is.at))),
    λ f c. subst (λ g. comes_before g (fault_at reasons.DuplicateId (max h.at kept.at) h.id) ≡ false) (sym c.3)
        (no_later (max c.0.at h.at) (max h.at kept.at) h.id (omega (arith, is.at, is.is_first.is_first c.0 c.1 c.2, late_most is.holder.role, late_most c.0.role))),
  )

  same_entry : (one kept : First) → Shows o one.node h → h.at ≡ one.at → KeepsFirst o hs h.id kept → (b : Bool) → comes_earlier one kept ≡ b → IsFirstEntry o more h.id (Some (cond b one kept))
  same_entry one kept shown at is true e = new_entry one shown at (λ x has same.
      omega (arith, is.is_first.is_first x has same, is.at, at, rank_earlier one.at kept.at (late h.role) (late is.holder.role) (is_no_node kept.node) (late_most h.role) (late_shown o kept.node is.holder is.shown) e))
  same_entry one kept shown at is false e = old_entry kept is
      (omega (arith, is.at, at, rank_kept one.at kept.at (late h.role) (late is.holder.role) (is_no_node kept.node) (late_shown o kept.node is.holder is.shown) e))

  -- whose id another has
  pub named_again : (told next : List ℕ → Option First) (one kept : First) (old new : Option Fault) → Shows o one.node h → h.at ≡ one.at → told h.id ≡ Some kept
      → ((q : List ℕ) → next q ≡ cond (bytes_eq h.id q) (Some (earlier one kept)) (told q)) → new ≡ lower old (Some (fault_at reasons.DuplicateId (max h.at kept.at) h.id))
      → AreNamed o hs told old → AreNamed o (hs ++ h ∷ []) next new
  unfolding more
  named_again told next one kept old new shown at there is lowered named =
      let entry : KeepsFirst o hs h.id kept = subst (IsFirstEntry o hs h.id) there (named.entry h.id) in
      record {
        entry = all_entries told next (earlier one kept) is named.entry (same_entry one kept shown at entry (comes_earlier one kept) refl);
        lowest = subst (IsLeastOf (IsDuplicateAmong (hs ++ h ∷ []))) (sym lowered)
            (least_alike (λ f. IsDuplicateAmong hs f ⊎ IsClash hs h f) (IsDuplicateAmong (hs ++ h ∷ [])) (lower old (Some (fault_at reasons.DuplicateId (max h.at kept.at) h.id)))
            (λ f e. elim e [ inl a ↦ clash_before f a | inr c ↦ clash f c ]) either_clash
            (least_of_both (IsDuplicateAmong hs) (IsClash hs h) old (Some (fault_at reasons.DuplicateId (max h.at kept.at) h.id)) named.lowest (clash_least kept entry)));
      }

-- what an id names, by what is kept of it
pub found_by : (o : Objects) (hs : List IdHolder) (id : List ℕ) (kept : Option First) → IsFirstEntry o hs id kept → FindsNode o hs id (option_map (λ (f : First). f.node) kept)
found_by o hs id None entry = entry
found_by o hs id (Some first) entry = (entry.holder, entry.is_first, entry.shown)
