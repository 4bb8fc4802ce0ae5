-- A value of a sort is of its kin.
use Rattle.std.proofs.Common.{◌≡◌, Bool, true, ◌&&◌, ℕ, List, [], ◌∷◌, map, ℤ, pos, negsuc, int_le, refl, sym, ap, ◌∙◌, subst}
use Rattle.std.specs.List.{list_all}
use Rattle.std.proofs.lemmas.Bool.{false≢true}
use Rattle.pn_carriers.specs.Members.{is_between, is_list_of, is_member, is_member_layer, is_tuple_of, greatest_number, least_number, pass_each}
use Rattle.pn_facts.proofs.Lists.{list_all_each}
use Rattle.pn_facts.proofs.Truths.{and_both, and_left, and_right}
use Rattle.pn_values.specs.Kin.{kin_of, kin_step}
use Rattle.pn_values.specs.declared.sort.Sort.{Sort}
use Rattle.pn_values.specs.declared.sort.Sort.TheOpen as layer
use Rattle.pn_values.specs.declared.sort.Sort.TheVariants.{rolls-Dot, rolls-Bool, rolls-Enumeration, rolls-Partition, rolls-Range, rolls-Product, rolls-Integer, rolls-Text, rolls-List}
use Rattle.pn_values.specs.declared.sort.Sort.TheViews.{roll-Sort}
use Rattle.pn_values.specs.declared.sort.Sort.TheFolds.{fold-roll-Sort, ind-Sort, map-Sort}
use Rattle.pn_values.specs.declared.value.Value.{Value}
use Rattle.pn_values.specs.declared.value.Value.TheOpen as value_layer
use Rattle.pn_values.specs.declared.value.Value.TheViews.{out-Value}

-- which values are of a sort, by its outermost layer
pub member_of_layer : (widths : List ℕ) (x : layer.Sort-F Sort) (v : Value) → is_member widths (roll-Sort x) v ≡ is_member_layer widths (map-Sort Sort (Value → Bool) (is_member widths) x) (out-Value v)
member_of_layer widths x v = ap (λ (test : Value → Bool). test v) (fold-roll-Sort (Value → Bool) (λ sort w. is_member_layer widths sort (out-Value w)) x)

abbrev KeepsMembers : List ℕ → Sort → Type 0
KeepsMembers widths s = (v : Value) → is_member widths s v ≡ true → is_member widths (kin_of s) v ≡ true

abbrev KeptSort : List ℕ → Type 0
KeptSort widths = (s : Sort) × KeepsMembers widths s

abbrev sorts_of : (widths : List ℕ) → List (KeptSort widths) → List Sort
sorts_of widths es = map (λ e. e.0) es

-- a sort whose kin has this layer
by_layer : (widths : List ℕ) (x y : layer.Sort-F Sort) → kin_step (map-Sort Sort Sort kin_of x) ≡ roll-Sort y
    → ((v : Value) → is_member_layer widths (map-Sort Sort (Value → Bool) (is_member widths) x) (out-Value v) ≡ true → is_member_layer widths (map-Sort Sort (Value → Bool) (is_member widths) y) (out-Value v) ≡ true)
    → KeepsMembers widths (roll-Sort x)
by_layer widths x y kin to v member =
    subst (λ s. is_member widths s v ≡ true) (sym (fold-roll-Sort Sort kin_step x ∙ kin)) (member_of_layer widths y v ∙ to v (sym (member_of_layer widths x v) ∙ member))

-- a number that is not below one which is not below 0 is not below the least
not_least : (start z : ℤ) (n : ℕ) → start ≡ pos n → int_le start z ≡ true → int_le least_number z ≡ true
not_least start (pos m) n is h = refl
not_least start (negsuc m) n is h = absurd (false≢true (subst (λ s. int_le s (negsuc m) ≡ true) is h))

wider : (n : ℕ) (l : value_layer.Value-F Value) → is_between (pos n) greatest_number l ≡ true → is_between least_number greatest_number l ≡ true
wider n value_layer.Dot h = absurd (false≢true h)
wider n (value_layer.Bool b) h = absurd (false≢true h)
wider n (value_layer.Const c) h = absurd (false≢true h)
wider n (value_layer.Int z) h = and_both (int_le least_number z) (int_le z greatest_number) (not_least (pos n) z n refl (and_left (int_le (pos n) z) (int_le z greatest_number) h)) (and_right (int_le (pos n) z) (int_le z greatest_number) h)
wider n (value_layer.Text t) h = absurd (false≢true h)
wider n (value_layer.Tuple vs) h = absurd (false≢true h)
wider n (value_layer.List vs) h = absurd (false≢true h)

parts_kept : (widths : List ℕ) (es : List (KeptSort widths)) (vs : List Value) → pass_each (map (is_member widths) (sorts_of widths es)) vs ≡ true → pass_each (map (is_member widths) (map kin_of (sorts_of widths es))) vs ≡ true
parts_kept widths [] [] h = h
parts_kept widths [] (v ∷ vs) h = h
parts_kept widths (e ∷ es) [] h = h
parts_kept widths (e ∷ es) (v ∷ vs) h =
    let first = is_member widths e.0 v in
    let rest = pass_each (map (is_member widths) (sorts_of widths es)) vs in
    and_both (is_member widths (kin_of e.0) v) (pass_each (map (is_member widths) (map kin_of (sorts_of widths es))) vs) (e.1 v (and_left first rest h)) (parts_kept widths es vs (and_right first rest h))

tuple_kept : (widths : List ℕ) (es : List (KeptSort widths)) (l : value_layer.Value-F Value) → is_tuple_of (map (is_member widths) (sorts_of widths es)) l ≡ true → is_tuple_of (map (is_member widths) (map kin_of (sorts_of widths es))) l ≡ true
tuple_kept widths es value_layer.Dot h = h
tuple_kept widths es (value_layer.Bool b) h = h
tuple_kept widths es (value_layer.Const c) h = h
tuple_kept widths es (value_layer.Int z) h = h
tuple_kept widths es (value_layer.Text t) h = h
tuple_kept widths es (value_layer.Tuple vs) h = parts_kept widths es vs h
tuple_kept widths es (value_layer.List vs) h = h

list_kept : (widths : List ℕ) (e : KeptSort widths) (l : value_layer.Value-F Value) → is_list_of (is_member widths e.0) l ≡ true → is_list_of (is_member widths (kin_of e.0)) l ≡ true
list_kept widths e value_layer.Dot h = h
list_kept widths e (value_layer.Bool b) h = h
list_kept widths e (value_layer.Const c) h = h
list_kept widths e (value_layer.Int z) h = h
list_kept widths e (value_layer.Text t) h = h
list_kept widths e (value_layer.Tuple vs) h = h
list_kept widths e (value_layer.List vs) h = list_all_each (is_member widths e.0) (is_member widths (kin_of e.0)) (λ v m. e.1 v m) vs h

step : (widths : List ℕ) (y : layer.Sort-F (KeptSort widths)) → KeepsMembers widths (roll-Sort (map-Sort (KeptSort widths) Sort (λ e. e.0) y))
step widths layer.Dot = by_layer widths layer.Dot layer.Dot (sym rolls-Dot) (λ v h. h)
step widths layer.Bool = by_layer widths layer.Bool layer.Bool (sym rolls-Bool) (λ v h. h)
step widths (layer.Enumeration n) = by_layer widths (layer.Enumeration n) (layer.Enumeration n) (sym (rolls-Enumeration n)) (λ v h. h)
step widths (layer.Partition n) = by_layer widths (layer.Partition n) (layer.Partition n) (sym (rolls-Partition n)) (λ v h. h)
step widths (layer.Range start end) = by_layer widths (layer.Range start end) (layer.Range start end) (sym (rolls-Range start end)) (λ v h. h)
step widths (layer.Product es) = by_layer widths (layer.Product (sorts_of widths es)) (layer.Product (map kin_of (sorts_of widths es))) (sym (rolls-Product (map kin_of (sorts_of widths es)))) (λ v h. tuple_kept widths es (out-Value v) h)
step widths layer.Integer = by_layer widths layer.Integer layer.Integer (sym rolls-Integer) (λ v h. h)
step widths layer.Natural = by_layer widths layer.Natural layer.Integer (sym rolls-Integer) (λ v h. wider 0 (out-Value v) h)
step widths layer.Positive = by_layer widths layer.Positive layer.Integer (sym rolls-Integer) (λ v h. wider 1 (out-Value v) h)
step widths layer.Text = by_layer widths layer.Text layer.Text (sym rolls-Text) (λ v h. h)
step widths (layer.List e) = by_layer widths (layer.List e.0) (layer.List (kin_of e.0)) (sym (rolls-List (kin_of e.0))) (λ v h. list_kept widths e (out-Value v) h)

-- what is of a sort is of its kin
pub member_of_kin : (widths : List ℕ) (s : Sort) (v : Value) → is_member widths s v ≡ true → is_member widths (kin_of s) v ≡ true
member_of_kin widths = ind-Sort (KeepsMembers widths) (λ x y is. subst (λ z. KeepsMembers widths (roll-Sort z)) is (step widths y))
