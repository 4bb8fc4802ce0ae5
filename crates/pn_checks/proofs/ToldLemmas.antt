-- The least fault of sorts of a net, as it is told of the tree of a document, is the least of those that are told of it: nothing that has a fault stands between a constant and its range.
use Rattle.std.proofs.Common.{◌≡◌, ◌<◌, ◌≤◌, ◌⊎◌, inl, inr, ℕ, Bool, true, false, cond, ◌==◌, ◌&&◌, List, [], ◌∷◌, codes, Option, None, Some, IfSome, refl, sym, ap, ◌∙◌, subst, arith}
use Rattle.std.specs.List.{Contains, find}
use Rattle.std.specs.Option.{option_and_then, option_map, unwrap_or}
use Rattle.std.specs.Ordering.{is_lt, nat_cmp, ordering_then}
use Rattle.std.specs.declared.cmp.Ordering.{Ordering}
use Rattle.std.specs.declared.cmp.Ordering.TheVariants.{Less, Equal, Greater}
use Rattle.std.specs.Str.{bytes_eq}
use Rattle.std.proofs.lemmas.Bool.Decides.{nat_tests}
use Rattle.std.proofs.lemmas.Slice.Eq.{bytes_eq-Decides}
use Rattle.pn_facts.proofs.Contained.{contains_first, contains_nil}
use Rattle.pn_facts.proofs.Truths.{and_left, and_right}
use Rattle.pn_faults.specs.Least.{least_fault}
use Rattle.pn_faults.specs.Order.{comes_before, fault_at}
use Rattle.pn_faults.specs.Reasons.{number_of, phase_of}
use Rattle.pn_faults.specs.Standing.{IsLeastOf}
use Rattle.pn_faults.specs.declared.fault.Fault.{Fault}
use Rattle.pn_faults.specs.declared.reason.Reason.{Reason}
use Rattle.pn_faults.specs.declared.reason.Reason.TheVariants as reasons
use Rattle.pn_faults.proofs.RisingLemmas.{IsWithin}
use Rattle.pn_markup.specs.Offsets.{HasRisingOffsets}
use Rattle.pn_net.specs.Documents.{HasNoShapeFault, HasSoundLinks, HasSoundNetSorts, StandsInTree, elements_within, is_constant_at, links, range_offset, shape, sorts, told_in, typing}
use Rattle.pn_net.specs.Typing.{StandsInSorts}
use Rattle.pn_shape.specs.Faults.{shape_faults}
use Rattle.pn_spelling.specs.Parts.{child_elements, child_named, has_name}
use Rattle.pn_spelling.specs.ReadNets.{net_of}
use Rattle.pn_tree.specs.Depth.{depth_of}
use Rattle.pn_tree.specs.declared.element.Element.{Element}
use Rattle.pn_checks.specs.Linked.{IsLeastInTree}
use Rattle.pn_checks.specs.Verdicts.{IsFaultOf, StandsInValues, in_tree, no_value}
use Rattle.pn_checks.proofs.AfterLemmas.{kid_is_behind, not_before_only}
use Rattle.pn_checks.proofs.HeldLemmas.{one_element}
use Rattle.pn_checks.proofs.PlacedLemmas.{HoldsRange, IsPlacedWithin, constant_holds, placed_within}
use Rattle.pn_checks.proofs.SourceLemmas.{within_kid}
use Rattle.pn_checks.proofs.SpelledLemmas.{found}
use Rattle.pn_checks.proofs.WhereLemmas.{IsBlamedFor, StandsAtElement, at_element, unknown, cycle, big, empty, bad}

-- ---- the order of faults of one phase

-- at the second offset and with the second number a fault does not come before one with the first
abbrev IsLater : ℕ → ℕ → ℕ → ℕ → Type 0
IsLater m i n j = (m < n) ⊎ ((m ≡ n) × (i ≤ j))

later_than : (m i n k j : ℕ) → IsLater m i n j → n ≤ k → IsLater m i k j
later_than m i n k j (inl less) more = inl (omega (arith, less, more))
later_than m i n k j (inr (same, most)) more = by (nat_cmp m k) refl
  where
    by : (o : Ordering) → nat_cmp m k ≡ o → (m < k) ⊎ ((m ≡ k) × (i ≤ j))
    by Less is = let less : m < k = grind (arith, nat_tests) in inl less
    by Equal is = let equal : m ≡ k = grind (arith, nat_tests) in inr (equal, most)
    by Greater is = let less : k < m = grind (arith, nat_tests) in absurd (omega (arith, less, same, more))

later_both : (m i n j : ℕ) → m ≤ n → i ≤ j → IsLater m i n j
later_both m i n j more most = later_than m i m n j (inr (refl, most)) more

same_phase : (p q : ℕ) (o : Ordering) → p ≡ q → ordering_then (nat_cmp p q) o ≡ o
same_phase p q o same = let equal : nat_cmp p q ≡ Equal = grind (arith, nat_tests) in ap (λ c. ordering_then c o) equal

is_later : (f g : Fault) → phase_of g.reason ≡ phase_of f.reason → comes_before g f ≡ false → IsLater f.at (number_of f.reason) g.at (number_of g.reason)
is_later f g phase is =
    by (nat_cmp g.at f.at) refl (nat_cmp (number_of g.reason) (number_of f.reason)) refl
    (ap is_lt (sym (same_phase (phase_of g.reason) (phase_of f.reason) (ordering_then (nat_cmp g.at f.at) (nat_cmp (number_of g.reason) (number_of f.reason))) phase)) ∙ is)
  where
    by : (o : Ordering) → nat_cmp g.at f.at ≡ o → (p : Ordering) → nat_cmp (number_of g.reason) (number_of f.reason) ≡ p → is_lt (ordering_then o p) ≡ false
        → (f.at < g.at) ⊎ ((f.at ≡ g.at) × (number_of f.reason ≤ number_of g.reason))
    by Less at p number behind = absurd (let bad : is_lt Less ≡ false = behind in cc)
    by Equal at Less number behind = absurd (let bad : is_lt Less ≡ false = behind in cc)
    by Equal at Equal number behind = let same : f.at ≡ g.at = grind (arith, nat_tests) in let most : number_of f.reason ≤ number_of g.reason = grind (arith, nat_tests) in inr (same, most)
    by Equal at Greater number behind = let same : f.at ≡ g.at = grind (arith, nat_tests) in let most : number_of f.reason ≤ number_of g.reason = grind (arith, nat_tests) in inr (same, most)
    by Greater at p number behind = let less : f.at < g.at = grind (arith, nat_tests) in inl less

of_later : (f g : Fault) → phase_of g.reason ≡ phase_of f.reason → IsLater f.at (number_of f.reason) g.at (number_of g.reason) → comes_before g f ≡ false
of_later f g phase later =
    ap is_lt (same_phase (phase_of g.reason) (phase_of f.reason) (ordering_then (nat_cmp g.at f.at) (nat_cmp (number_of g.reason) (number_of f.reason))) phase)
    ∙ by (nat_cmp g.at f.at) refl (nat_cmp (number_of g.reason) (number_of f.reason)) refl later
  where
    by : (o : Ordering) → nat_cmp g.at f.at ≡ o → (p : Ordering) → nat_cmp (number_of g.reason) (number_of f.reason) ≡ p → (f.at < g.at) ⊎ ((f.at ≡ g.at) × (number_of f.reason ≤ number_of g.reason))
        → is_lt (ordering_then o p) ≡ false
    by Less at p number (inl less) = absurd (grind (arith, nat_tests))
    by Less at p number (inr (same, most)) = absurd (grind (arith, nat_tests))
    by Equal at p number (inl less) = absurd (grind (arith, nat_tests))
    by Equal at Less number (inr (same, most)) = absurd (grind (arith, nat_tests))
    by Equal at Equal number (inr (same, most)) = refl
    by Equal at Greater number (inr (same, most)) = refl
    by Greater at p number later = refl

-- ---- as it is told

module _ (tree : Element) where
  -- an empty range at this offset is told there
  abbrev Moved : ℕ → ℕ
  Moved offset = unwrap_or (range_offset tree offset) offset

  told_reason : (f : Fault) → (told_in tree f).reason ≡ f.reason
  told_reason f = by (number_of f.reason == 20)
    where
      by : (b : Bool) → (cond b (fault_at f.reason (Moved f.at) f.detail) f).reason ≡ f.reason
      by true = refl
      by false = refl

  told_moved : (f : Fault) → number_of f.reason ≡ 20 → (told_in tree f).at ≡ Moved f.at
  told_moved f is = let twenty : (number_of f.reason == 20) ≡ true = grind (arith, nat_tests) in ap (λ b. (cond b (fault_at f.reason (Moved f.at) f.detail) f).at) twenty

  told_kept : (f : Fault) → (number_of f.reason ≡ 20 → ⊥) → (told_in tree f).at ≡ f.at
  told_kept f differs = by (number_of f.reason == 20) refl
    where
      by : (b : Bool) → (number_of f.reason == 20) ≡ b → (cond b (fault_at f.reason (Moved f.at) f.detail) f).at ≡ f.at
      by true is = let twenty : number_of f.reason ≡ 20 = grind (arith, nat_tests) in absurd (differs twenty)
      by false is = refl

-- the reasons of the phase

phase_is : (x : Element) (r : Reason) → IsBlamedFor x r → phase_of r ≡ 3
phase_is x r (unknown _ is named) = ap phase_of is
phase_is x r (cycle _ is full) = ap phase_of is
phase_is x r (big _ is other) = ap phase_of is
phase_is x r (empty _ is) = ap phase_of is
phase_is x r (bad _ is named) = ap phase_of is

is_empty_range : (r : Reason) → (number_of r ≡ 20) ⊎ (number_of r ≡ 20 → ⊥)
is_empty_range r = by (number_of r == 20) refl
  where
    by : (b : Bool) → (number_of r == 20) ≡ b → (number_of r ≡ 20) ⊎ (number_of r ≡ 20 → ⊥)
    by true is = let same : number_of r ≡ 20 = grind (arith, nat_tests) in inl same
    by false is = inr (λ same. let wrong : (number_of r == 20) ≡ true = grind (arith, nat_tests) in let bad : false ≡ true = sym is ∙ wrong in cc)

-- names that differ
other_name : (one other : List ℕ) → bytes_eq one other ≡ false → bytes_eq other other ≡ true → one ≡ other → ⊥
other_name one other fails passes same = let bad : false ≡ true = sym fails ∙ ap (λ n. bytes_eq n other) same ∙ passes in cc

module _ (tree : Element) (rising : HasRisingOffsets tree) (clean : HasNoShapeFault tree) where
  -- a constant at this offset, and the offset of its range
  record HasConstant (offset n : ℕ) : Type 0 where
    constant : Element
    within : IsWithin child_elements tree constant
    at : constant.at ≡ offset
    called : has_name (codes "finiteintrangeconstant") constant ≡ true
    holds : HoldsRange constant
    is : n ≡ holds.range.at

  constant_there : (offset : ℕ) → (Moved tree offset ≡ offset) ⊎ HasConstant offset (Moved tree offset)
  constant_there offset = by (find (is_constant_at offset) (elements_within (depth_of tree) tree)) (found (is_constant_at offset) (elements_within (depth_of tree) tree))
    where
      moved_by : Option Element → ℕ
      moved_by o = unwrap_or (option_map (λ x. x.at) (option_and_then (child_named (codes "finiteintrange")) o)) offset

      by : (o : Option Element) → IfSome o (λ c. Contains (elements_within (depth_of tree) tree) c × (is_constant_at offset c ≡ true)) → (moved_by o ≡ offset) ⊎ HasConstant offset (moved_by o)
      by None have = inl refl
      by (Some c) have = inr (record { constant = c; within = there.within; at = at_is; called = named; holds = inner; is = ap (λ o. unwrap_or (option_map (λ (x : Element). x.at) o) offset) range_is })
        where
          there : IsPlacedWithin tree c
          there = placed_within tree clean c have.0

          named : has_name (codes "finiteintrangeconstant") c ≡ true
          named = and_left (has_name (codes "finiteintrangeconstant") c) (c.at == offset) have.1

          at_is : c.at ≡ offset
          at_is = let same : (c.at == offset) ≡ true = and_right (has_name (codes "finiteintrangeconstant") c) (c.at == offset) have.1 in grind (arith, nat_tests)

          inner : HoldsRange c
          inner = constant_holds c there.placed named

          range_is : child_named (codes "finiteintrange") c ≡ Some inner.range
          range_is =
              ap (find (has_name (codes "finiteintrange"))) inner.only
              ∙ ap (λ n. cond (bytes_eq n (codes "finiteintrange")) (Some inner.range) None) inner.called

  range_within : {offset n : ℕ} (has : HasConstant offset n) → IsWithin child_elements tree has.holds.range
  range_within has = within_kid tree has.constant has.holds.range has.within (subst (λ xs. Contains xs has.holds.range) (sym has.holds.only) (contains_first has.holds.range []))

  -- a fault is told where it stands or behind that
  told_behind : (f : Fault) → f.at ≤ (told_in tree f).at
  told_behind f = which (is_empty_range f.reason)
    where
      moved : (Moved tree f.at ≡ f.at) ⊎ HasConstant f.at (Moved tree f.at) → f.at ≤ Moved tree f.at
      moved (inl same) = omega (arith, same)
      moved (inr has) =
          omega (arith, has.at, has.is, kid_is_behind tree rising has.constant has.holds.range has.within (subst (λ xs. Contains xs has.holds.range) (sym has.holds.only) (contains_first has.holds.range [])))

      which : (number_of f.reason ≡ 20) ⊎ (number_of f.reason ≡ 20 → ⊥) → f.at ≤ (told_in tree f).at
      which (inl is) = omega (arith, told_moved tree f is, moved (constant_there f.at))
      which (inr differs) = omega (arith, told_kept tree f differs)

  module _ (f g : Fault) (standing : StandsInSorts (net_of tree) f) (also : StandsInSorts (net_of tree) g) (first : comes_before g f ≡ false) where
    a : StandsAtElement tree f
    a = at_element tree f standing

    b : StandsAtElement tree g
    b = at_element tree g also

    later : IsLater f.at (number_of f.reason) g.at (number_of g.reason)
    later = is_later f g (phase_is b.element g.reason b.blamed ∙ sym (phase_is a.element f.reason a.blamed)) first

    -- where the first is told where it stands
    kept_later : (told_in tree f).at ≡ f.at → IsLater (told_in tree f).at (number_of f.reason) (told_in tree g).at (number_of g.reason)
    kept_later same = subst (λ n. IsLater n (number_of f.reason) (told_in tree g).at (number_of g.reason)) (sym same)
        (later_than f.at (number_of f.reason) g.at (told_in tree g).at (number_of g.reason) later (told_behind g))

    module _ (is : number_of f.reason ≡ 20) (has : HasConstant f.at (Moved tree f.at)) where
      told_here : (told_in tree f).at ≡ has.holds.range.at
      told_here = told_moved tree f is ∙ has.is

      with_number : (n : ℕ) → number_of g.reason ≡ n → 20 ≤ n → has.holds.range.at ≤ (told_in tree g).at → IsLater (told_in tree f).at (number_of f.reason) (told_in tree g).at (number_of g.reason)
      with_number n number most behind = later_both (told_in tree f).at (number_of f.reason) (told_in tree g).at (number_of g.reason) (omega (arith, told_here, behind)) (omega (arith, is, number, most))

      -- no other fault stands at the range
      at_range : g.at ≡ has.holds.range.at → IsBlamedFor has.holds.range g.reason → IsLater (told_in tree f).at (number_of f.reason) (told_in tree g).at (number_of g.reason)
      at_range same (unknown _ reason named) = absurd (other_name (codes "finiteintrange") (codes "usersort") refl refl (sym has.holds.called ∙ named))
      at_range same (cycle _ reason full) = absurd (full has.holds.empty)
      at_range same (big _ reason other) = absurd (other has.holds.called)
      at_range same (empty _ reason) = with_number 20 (ap number_of reason) (omega arith) (omega (arith, same, told_behind g))
      at_range same (bad _ reason named) = with_number 21 (ap number_of reason) (omega arith) (omega (arith, same, told_behind g))

      -- nor at the constant
      at_constant : f.at ≡ g.at → 20 ≤ number_of g.reason → IsBlamedFor has.constant g.reason → IsLater (told_in tree f).at (number_of f.reason) (told_in tree g).at (number_of g.reason)
      at_constant same most (unknown _ reason named) = absurd (let number : number_of g.reason ≡ 17 = ap number_of reason in omega (arith, number, most))
      at_constant same most (cycle _ reason full) = absurd (let number : number_of g.reason ≡ 18 = ap number_of reason in omega (arith, number, most))
      at_constant same most (big _ reason other) = absurd (let number : number_of g.reason ≡ 19 = ap number_of reason in omega (arith, number, most))
      at_constant same most (empty _ reason) =
          let here : (told_in tree g).at ≡ has.holds.range.at = told_moved tree g (ap number_of reason) ∙ ap (Moved tree) (sym same) ∙ has.is in
          with_number 20 (ap number_of reason) (omega arith) (omega (arith, here))
      at_constant same most (bad _ reason named) = absurd (other_name (codes "finiteintrangeconstant") (codes "partition") refl refl (sym constant_name ∙ named))
        where
          constant_name : has.constant.name ≡ codes "finiteintrangeconstant"
          constant_name = (bytes_eq-Decides has.constant.name (codes "finiteintrangeconstant")).0 has.called

      moved_later : IsLater f.at (number_of f.reason) g.at (number_of g.reason) → IsLater (told_in tree f).at (number_of f.reason) (told_in tree g).at (number_of g.reason)
      moved_later (inr (same, most)) =
          at_constant same (omega (arith, is, most))
          (subst (λ x. IsBlamedFor x g.reason) (one_element tree rising b.element has.constant b.within has.within (sym b.at ∙ sym same ∙ sym has.at)) b.blamed)
      moved_later (inl less) = by (nat_cmp has.holds.range.at g.at) refl
        where
          behind : has.holds.range.at ≤ g.at
          behind = let beyond = not_before_only tree rising has.constant has.holds.range b.element has.within has.holds.only b.within (omega (arith, has.at, b.at, less)) in omega (arith, beyond, b.at)

          by : (o : Ordering) → nat_cmp has.holds.range.at g.at ≡ o → ((told_in tree f).at < (told_in tree g).at) ⊎ (((told_in tree f).at ≡ (told_in tree g).at) × (number_of f.reason ≤ number_of g.reason))
          by Less at = let more : has.holds.range.at < g.at = grind (arith, nat_tests) in inl (omega (arith, more, told_here, told_behind g))
          by Equal at =
              let same : g.at ≡ has.holds.range.at = grind (arith, nat_tests) in
              at_range same (subst (λ x. IsBlamedFor x g.reason) (one_element tree rising b.element has.holds.range b.within (range_within has) (sym b.at ∙ same)) b.blamed)
          by Greater at = let less_yet : g.at < has.holds.range.at = grind (arith, nat_tests) in absurd (omega (arith, less_yet, behind))

    told_later : IsLater (told_in tree f).at (number_of f.reason) (told_in tree g).at (number_of g.reason)
    told_later = which (is_empty_range f.reason)
      where
        moved : number_of f.reason ≡ 20 → (Moved tree f.at ≡ f.at) ⊎ HasConstant f.at (Moved tree f.at) → IsLater (told_in tree f).at (number_of f.reason) (told_in tree g).at (number_of g.reason)
        moved is (inl same) = kept_later (told_moved tree f is ∙ same)
        moved is (inr has) = moved_later is has later

        which : (number_of f.reason ≡ 20) ⊎ (number_of f.reason ≡ 20 → ⊥) → IsLater (told_in tree f).at (number_of f.reason) (told_in tree g).at (number_of g.reason)
        which (inl is) = moved is (constant_there f.at)
        which (inr differs) = kept_later (told_kept tree f differs)

    pub told_not_before : comes_before (told_in tree g) (told_in tree f) ≡ false
    told_not_before =
        of_later (told_in tree f) (told_in tree g)
        (ap phase_of (told_reason tree g) ∙ phase_is b.element g.reason b.blamed ∙ sym (phase_is a.element f.reason a.blamed) ∙ ap phase_of (sym (told_reason tree f)))
        (subst (λ i. IsLater (told_in tree f).at i (told_in tree g).at (number_of (told_in tree g).reason)) (ap number_of (sym (told_reason tree f)))
        (subst (λ j. IsLater (told_in tree f).at (number_of f.reason) (told_in tree g).at j) (ap number_of (sym (told_reason tree g))) told_later))

-- ---- the least fault of a tree that is one of a later phase

no_shape : (tree : Element) (f : Fault) → HasNoShapeFault tree → IfSome (least_fault (shape_faults tree)) (λ g. f ≡ g)
no_shape tree f clean = subst (λ fs. IfSome (least_fault fs) (λ g. f ≡ g)) (sym clean) tt

-- a fault of sorts
pub sort_told : (tree : Element) (f : Fault) → HasRisingOffsets tree → HasSoundLinks tree → IsLeastOf (StandsInSorts (net_of tree)) (Some f) → IsLeastInTree tree (told_in tree f)
sort_told tree f rising sound least = record { least = (in_tree (told_in tree f) (sorts (told_in tree f) f sound least.0 refl), before); of_shape = no_shape tree (told_in tree f) sound.spells }
  where
    among : (g : Fault) → StandsInTree tree g → comes_before g (told_in tree f) ≡ false
    among g (shape _ there) = absurd (contains_nil g (subst (λ fs. Contains fs g) sound.spells there))
    among g (links _ clean there) = absurd (sound.links g there)
    among g (sorts _ h linked there is) = subst (λ x. comes_before x (told_in tree f) ≡ false) (sym is) (told_not_before tree rising sound.spells f h least.0 there (least.1 h there))
    among g (typing _ fine there) = absurd (fine.sorts f least.0)

    before : (g : Fault) → IsFaultOf tree g → comes_before g (told_in tree f) ≡ false
    before g (in_tree _ there) = among g there
    before g (no_value _ fine there) = absurd (fine.sorts f least.0)

-- a fault of typing stands
pub typing_stands : (tree : Element) (f : Fault) → HasSoundNetSorts tree → StandsInValues (net_of tree) f → IsFaultOf tree f
typing_stands tree f fine (inl stands) = in_tree f (typing f fine stands)
typing_stands tree f fine (inr stands) = no_value f fine stands

pub typing_told : (tree : Element) (f : Fault) → HasSoundNetSorts tree → IsLeastOf (StandsInValues (net_of tree)) (Some f) → IsLeastInTree tree f
typing_told tree f fine least = record { least = (typing_stands tree f fine least.0, before); of_shape = no_shape tree f fine.linked.spells }
  where
    among : (g : Fault) → StandsInTree tree g → comes_before g f ≡ false
    among g (shape _ there) = absurd (contains_nil g (subst (λ fs. Contains fs g) fine.linked.spells there))
    among g (links _ clean there) = absurd (fine.linked.links g there)
    among g (sorts _ h linked there is) = absurd (fine.sorts h there)
    among g (typing _ sound there) = least.1 g (inl there)

    before : (g : Fault) → IsFaultOf tree g → comes_before g f ≡ false
    before g (in_tree _ there) = among g there
    before g (no_value _ sound there) = least.1 g (inr there)

-- where no fault of a later phase stands, none does
pub none_stands : (tree : Element) → HasSoundNetSorts tree → ((f : Fault) → StandsInValues (net_of tree) f → ⊥) → (f : Fault) → IsFaultOf tree f → ⊥
none_stands tree fine none f (in_tree _ there) = by there
  where
    by : StandsInTree tree f → ⊥
    by (shape _ has) = contains_nil f (subst (λ fs. Contains fs f) fine.linked.spells has)
    by (links _ clean has) = fine.linked.links f has
    by (sorts _ h linked has is) = fine.sorts h has
    by (typing _ sound has) = none f (inl has)
none_stands tree fine none f (no_value _ sound there) = none f (inr there)
