-- How many kids stand in each place, one kid more at a time.
use Rattle.std.proofs.Common.{◌≡◌, ◌≢◌, ℕ, ◌+◌, ◌<◌, ◌≤◌, Bool, true, false, cond, ◌==◌, List, [], ◌∷◌, ◌++◌, take, length, slice_set, Option, Some, None, refl, sym, ap, subst, ◌∙◌, arith}
use Rattle.std.specs.List.{slice_index}
use Rattle.std.proofs.lemmas.Bool.Decides.{nat_tests}
use Rattle.std.proofs.lemmas.List.{get_or-set_same, get_or-set_other, length-take}
use Rattle.pn_operators.specs.declared.kind.Kind.{Kind}
use Rattle.pn_tree.specs.declared.element.Element.{Element}
use Rattle.pn_tree.specs.declared.element.Child.{Child}
use Rattle.pn_tree.specs.declared.element.Child.TheVariants as children
use Rattle.pn_tree.proofs.ElementLemmas.{out_element, out_text}
use Rattle.pn_shape.specs.Spots.{spot_in, is_at, stands_layer, stands_in, filled}
use Rattle.pn_shape.specs.declared.rule.Slot.{Slot}
use Rattle.pn_shape.specs.declared.search.Spot.{Spot}
use Rattle.pn_shape_faults.specs.Keeping.{Counted}

pub filled-append : (k : Kind) (slots : List Slot) (i : ℕ) (before : List Child) (c : Child) → filled k slots i (before ++ c ∷ []) ≡ filled k slots i before + cond (stands_in k slots i c) 1 0
filled-append k slots i [] c = omega arith
filled-append k slots i (b ∷ bs) c = omega (arith, filled-append k slots i bs c)

abbrev one_if : Bool → ℕ
one_if b = cond b 1 0

one_or_none : (b : Bool) → cond b 1 0 ≤ 1
one_or_none true = omega arith
one_or_none false = omega arith

-- no place has more kids than there are
pub filled_within : (k : Kind) (slots : List Slot) (i : ℕ) (kids : List Child) → filled k slots i kids ≤ length kids
filled_within k slots i [] = omega arith
filled_within k slots i (c ∷ cs) = omega (arith, one_or_none (stands_in k slots i c), filled_within k slots i cs)

pub counts_below : (k : Kind) (slots : List Slot) (counts : List ℕ) (kids : List Child) (n m : ℕ) → Counted k slots counts (take n kids) → n < m → (i : ℕ) → slice_index counts i < m
counts_below k slots counts kids n m counted lt i = omega (arith, counted i, filled_within k slots i (take n kids), length-take n kids)

pub none_counted : (k : Kind) (slots : List Slot) (counts : List ℕ) (before : List Child) (c : Child) → ((i : ℕ) → stands_in k slots i c ≡ false) → Counted k slots counts before → Counted k slots counts (before ++ c ∷ [])
none_counted k slots counts before c none counted i = omega (arith, counted i, filled-append k slots i before c, ap one_if (none i))

pub text_counted : (k : Kind) (slots : List Slot) (counts : List ℕ) (before : List Child) (t : List ℕ) → Counted k slots counts before → Counted k slots counts (before ++ children.Text t ∷ [])
text_counted k slots counts before t = none_counted k slots counts before (children.Text t) (λ i. ap (stands_layer k slots i) (out_text t))

stands_is : (k : Kind) (slots : List Slot) (x : Element) (s : Option Spot) → s ≡ spot_in k x.name 0 slots → (i : ℕ) → stands_in k slots i (children.Element x) ≡ is_at i s
stands_is k slots x s is i = ap (stands_layer k slots i) (out_element x) ∙ ap (is_at i) (sym is)

pub placeless_counted : (k : Kind) (slots : List Slot) (counts : List ℕ) (before : List Child) (x : Element) → None ≡ spot_in k x.name 0 slots → Counted k slots counts before
    → Counted k slots counts (before ++ children.Element x ∷ [])
placeless_counted k slots counts before x is = none_counted k slots counts before (children.Element x) (stands_is k slots x None is)

pub placed_counted : (k : Kind) (slots : List Slot) (counts counts2 : List ℕ) (before : List Child) (x : Element) (s : Spot) → Some s ≡ spot_in k x.name 0 slots → s.place < length counts
    → counts2 ≡ slice_set counts s.place (slice_index counts s.place + 1) → Counted k slots counts before → Counted k slots counts2 (before ++ children.Element x ∷ [])
placed_counted k slots counts counts2 before x s is lt set counted i = step (s.place == i) refl
  where
    at : slice_index counts2 i ≡ slice_index (slice_set counts s.place (slice_index counts s.place + 1)) i
    at = ap (λ l. slice_index l i) set

    more : filled k slots i (before ++ children.Element x ∷ []) ≡ filled k slots i before + cond (s.place == i) 1 0
    more = filled-append k slots i before (children.Element x) ∙ ap (λ b. filled k slots i before + cond b 1 0) (stands_is k slots x (Some s) is i)

    step : (b : Bool) → (s.place == i) ≡ b → slice_index counts2 i ≡ filled k slots i (before ++ children.Element x ∷ [])
    step true same =
        let here : s.place ≡ i = grind (arith, nat_tests) in
        let set_here = subst (λ j. slice_index (slice_set counts s.place (slice_index counts s.place + 1)) j ≡ slice_index counts j + 1) here (get_or-set_same counts s.place (slice_index counts s.place + 1) 0 lt) in
        omega (arith, at, set_here, counted i, more, ap one_if same)
    step false other =
        let there : i ≢ s.place = grind (arith, nat_tests) in
        omega (arith, at, get_or-set_other counts s.place i (slice_index counts s.place + 1) 0 there, counted i, more, ap one_if other)
