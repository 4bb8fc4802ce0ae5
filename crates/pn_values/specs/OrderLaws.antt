-- The laws of the order of values: what it says one level at a time, and that it is a total order which tells all values apart.
use Rattle.std.proofs.Common.{◌≡◌, ℕ, ℤ, pos, Bool, true, false, List, [], ◌∷◌, map, refl, sym, ap, ◌∙◌, subst}
use Rattle.std.specs.Cmp.{IsTotalOrder, then_flip, bool_cmp_total}
use Rattle.std.specs.Cmp.Lexicographic.{slice_cmp}
use Rattle.std.specs.Ordering.{ordering_then, ordering_reverse, is_lt, is_eq, nat_cmp, int_cmp, bool_cmp, on, then_cmp}
use Rattle.std.specs.declared.cmp.Ordering.{Ordering}
use Rattle.std.specs.declared.cmp.Ordering.TheVariants.{Less, Equal, Greater}
use Rattle.std.proofs.lemmas.Cmp.{on_total, then_total, nat_cmp_total, int_cmp_total, nat_list_cmp_total, alike_right, tied_itself}
use Rattle.std.proofs.lemmas.Bool.{false≢true}
use Rattle.std.proofs.lemmas.Map.Lookups.{CmpEqualImpliesEq, exact_unsigned, exact_signed, exact_bytes}
use Rattle.pn_values.specs.declared.value.Value.{Value}
use Rattle.pn_values.specs.declared.value.Value.TheOpen as layer
use Rattle.pn_values.specs.declared.value.Value.TheViews.{out-Value, roll-Value, out-roll-Value, roll-out-Value}
use Rattle.pn_values.specs.declared.value.Value.TheFolds.{fold_out-Value, ind-Value, map-Value}
use Rattle.pn_values.specs.Order.{variant_of, layer_cmp, value_cmp}

-- ---- one level at a time

abbrev compare_step : layer.Value-F (Value → Ordering) → Value → Ordering
compare_step a b = layer_cmp (λ compare part. compare part) a (out-Value b)

compares-lists : (cmp : Value → Value → Ordering) (xs ys : List Value) → slice_cmp (λ (compare : Value → Ordering) (part : Value). compare part) (map cmp xs) ys ≡ slice_cmp cmp xs ys
compares-lists cmp [] [] = refl
compares-lists cmp [] (y ∷ ys) = refl
compares-lists cmp (x ∷ xs) [] = refl
compares-lists cmp (x ∷ xs) (y ∷ ys) = ap (ordering_then (cmp x y)) (compares-lists cmp xs ys)

compares-layers : (cmp : Value → Value → Ordering) (x y : layer.Value-F Value) → layer_cmp (λ compare part. compare part) (map-Value Value (Value → Ordering) cmp x) y ≡ layer_cmp cmp x y
compares-layers cmp (layer.Tuple xs) (layer.Tuple ys) = compares-lists cmp xs ys
compares-layers cmp (layer.List xs) (layer.List ys) = compares-lists cmp xs ys
compares-layers cmp layer.Dot layer.Dot = refl
compares-layers cmp _ _ = refl

pub value_cmp-out : (a b : Value) → value_cmp a b ≡ layer_cmp value_cmp (out-Value a) (out-Value b)
value_cmp-out a b = ap (λ f. f b) (fold_out-Value (Value → Ordering) compare_step a) ∙ compares-layers value_cmp (out-Value a) (out-Value b)

-- ---- it tells all values apart

exact_bool : (a b : Bool) → bool_cmp a b ≡ Equal → a ≡ b
exact_bool false false e = refl
exact_bool false true e = absurd (false≢true (ap is_eq e))
exact_bool true false e = absurd (false≢true (ap is_eq e))
exact_bool true true e = refl

module _ {A : Type 0} (R : A → A → Ordering) where
  abbrev Apart : A → Type 0
  Apart a = (b : A) → R a b ≡ Equal → a ≡ b

  lists_apart : (xs : List ((a : A) × Apart a)) (ys : List A) → slice_cmp R (map (λ e. e.0) xs) ys ≡ Equal → map (λ e. e.0) xs ≡ ys
  lists_apart [] [] e = refl
  lists_apart [] (y ∷ ys) e = absurd (false≢true (ap is_eq e))
  lists_apart (x ∷ xs) [] e = absurd (false≢true (ap is_eq e))
  lists_apart (x ∷ xs) (y ∷ ys) e = step (R x.0 y) refl (lists_apart xs ys) e
    where
      step : (o : Ordering) → R x.0 y ≡ o → (slice_cmp R (map (λ e. e.0) xs) ys ≡ Equal → map (λ e. e.0) xs ≡ ys) → ordering_then o (slice_cmp R (map (λ e. e.0) xs) ys) ≡ Equal → map (λ e. e.0) (x ∷ xs) ≡ y ∷ ys
      step Less is rest e = absurd (false≢true (ap is_eq e))
      step Equal is rest e = λ i. x.1 y is i ∷ rest e i
      step Greater is rest e = absurd (false≢true (ap is_eq e))

  layers_apart : (x : layer.Value-F ((a : A) × Apart a)) (y : layer.Value-F A) → layer_cmp R (map-Value ((a : A) × Apart a) A (λ e. e.0) x) y ≡ Equal → map-Value ((a : A) × Apart a) A (λ e. e.0) x ≡ y
  layers_apart layer.Dot layer.Dot e = refl
  layers_apart (layer.Bool a) (layer.Bool b) e = ap (λ t. layer.Bool t) (exact_bool a b e)
  layers_apart (layer.Const a) (layer.Const b) e = ap (λ t. layer.Const t) (exact_unsigned a b e)
  layers_apart (layer.Int a) (layer.Int b) e = ap (λ t. layer.Int t) (exact_signed a b e)
  layers_apart (layer.Text a) (layer.Text b) e = ap (λ t. layer.Text t) (exact_bytes a b e)
  layers_apart (layer.Tuple xs) (layer.Tuple ys) e = ap (λ t. layer.Tuple t) (lists_apart xs ys e)
  layers_apart (layer.List xs) (layer.List ys) e = ap (λ t. layer.List t) (lists_apart xs ys e)
  layers_apart _ _ e = absurd (false≢true (ap is_eq e))

value_cmp-rolled : (x : layer.Value-F Value) (b : Value) → value_cmp (roll-Value x) b ≡ layer_cmp value_cmp x (out-Value b)
value_cmp-rolled x b = value_cmp-out (roll-Value x) b ∙ ap (λ l. layer_cmp value_cmp l (out-Value b)) (out-roll-Value x)

pub values_apart : CmpEqualImpliesEq value_cmp
values_apart = ind-Value (Apart value_cmp) (λ x y is. subst (λ l. Apart value_cmp (roll-Value l)) is (λ b e. ap roll-Value (layers_apart value_cmp y (out-Value b) (sym (value_cmp-rolled _ b) ∙ e)) ∙ roll-out-Value b))

-- ---- it is total

-- the first, and then the second: Less twice is Less
then_chain : (a b c p q s : Ordering) → (a ≡ Less → b ≡ Less → c ≡ Less) → (a ≡ Equal → c ≡ b) → (b ≡ Equal → c ≡ a) → (p ≡ Less → q ≡ Less → s ≡ Less) → ordering_then a p ≡ Less → ordering_then b q ≡ Less → ordering_then c s ≡ Less
then_chain Less Less c p q s both left right rest h k = ap (λ o. ordering_then o s) (both refl refl)
then_chain Less Equal c p q s both left right rest h k = ap (λ o. ordering_then o s) (right refl)
then_chain Less Greater c p q s both left right rest h k = absurd (false≢true (ap is_lt k))
then_chain Equal Less c p q s both left right rest h k = ap (λ o. ordering_then o s) (left refl)
then_chain Equal Equal c p q s both left right rest h k = ap (λ o. ordering_then o s) (left refl) ∙ rest h k
then_chain Equal Greater c p q s both left right rest h k = absurd (false≢true (ap is_lt k))
then_chain Greater b c p q s both left right rest h k = absurd (false≢true (ap is_lt h))

pub record IsLawfulAt {A : Type 0} (R : A → A → Ordering) (a : A) : Type 0 where
  pub back : (b : A) → R a b ≡ ordering_reverse (R b a)
  pub chain : (b c : A) → R a b ≡ Less → R b c ≡ Less → R a c ≡ Less

module _ {A : Type 0} (R : A → A → Ordering) (exact : CmpEqualImpliesEq R) where
  lists_back : (xs : List ((a : A) × IsLawfulAt R a)) (ys : List A) → slice_cmp R (map (λ e. e.0) xs) ys ≡ ordering_reverse (slice_cmp R ys (map (λ e. e.0) xs))
  lists_back [] [] = refl
  lists_back [] (y ∷ ys) = refl
  lists_back (x ∷ xs) [] = refl
  lists_back (x ∷ xs) (y ∷ ys) = (λ i. ordering_then (x.1.back y i) (lists_back xs ys i)) ∙ then_flip (R y x.0) (slice_cmp R ys (map (λ e. e.0) xs))

  lists_chain : (xs : List ((a : A) × IsLawfulAt R a)) (ys zs : List A) → slice_cmp R (map (λ e. e.0) xs) ys ≡ Less → slice_cmp R ys zs ≡ Less → slice_cmp R (map (λ e. e.0) xs) zs ≡ Less
  lists_chain [] [] zs h k = absurd (false≢true (ap is_lt h))
  lists_chain [] (y ∷ ys) [] h k = absurd (false≢true (ap is_lt k))
  lists_chain [] (y ∷ ys) (z ∷ zs) h k = refl
  lists_chain (x ∷ xs) [] zs h k = absurd (false≢true (ap is_lt h))
  lists_chain (x ∷ xs) (y ∷ ys) [] h k = absurd (false≢true (ap is_lt k))
  lists_chain (x ∷ xs) (y ∷ ys) (z ∷ zs) h k = then_chain (R x.0 y) (R y z) (R x.0 z) (slice_cmp R (map (λ e. e.0) xs) ys) (slice_cmp R ys zs) (slice_cmp R (map (λ e. e.0) xs) zs) (x.1.chain y z) (λ e. ap (λ v. R v z) (exact x.0 y e)) (λ e. ap (R x.0) (sym (exact y z e))) (lists_chain xs ys zs) h k

-- what a level has besides its parts
abbrev truth_of : layer.Value-F Value → Bool
truth_of (layer.Bool truth) = truth
truth_of _ = false

abbrev number_of : layer.Value-F Value → ℕ
number_of (layer.Const place) = place
number_of _ = 0

abbrev integer_of : layer.Value-F Value → ℤ
integer_of (layer.Int number) = number
integer_of _ = pos 0

abbrev text_of : layer.Value-F Value → List ℕ
text_of (layer.Text text) = text
text_of _ = []

abbrev parts_of : {P : Type 0} → layer.Value-F P → List P
parts_of (layer.Tuple parts) = parts
parts_of (layer.List items) = items
parts_of _ = []

-- the order by all but the parts
abbrev outer_cmp : layer.Value-F Value → layer.Value-F Value → Ordering
outer_cmp = then_cmp (on variant_of nat_cmp) (then_cmp (on truth_of bool_cmp) (then_cmp (on number_of nat_cmp) (then_cmp (on integer_of int_cmp) (on text_of (slice_cmp nat_cmp)))))

outer_total : IsTotalOrder outer_cmp
outer_total = then_total (on_total variant_of nat_cmp_total) (then_total (on_total truth_of bool_cmp_total) (then_total (on_total number_of nat_cmp_total) (then_total (on_total integer_of int_cmp_total) (on_total text_of nat_list_cmp_total))))

then_Equal : (o : Ordering) → ordering_then o Equal ≡ o
then_Equal Less = refl
then_Equal Equal = refl
then_Equal Greater = refl

twice_Equal : (o : Ordering) → o ≡ ordering_then (ordering_then o Equal) Equal
twice_Equal Less = refl
twice_Equal Equal = refl
twice_Equal Greater = refl

by_outer : (R : Value → Value → Ordering) (x y : layer.Value-F Value) → layer_cmp R x y ≡ ordering_then (outer_cmp x y) (slice_cmp R (parts_of x) (parts_of y))
by_outer R (layer.Bool a) (layer.Bool b) = twice_Equal (bool_cmp a b)
by_outer R (layer.Const a) (layer.Const b) = twice_Equal (nat_cmp a b)
by_outer R (layer.Int a) (layer.Int b) = twice_Equal (int_cmp a b)
by_outer R (layer.Text a) (layer.Text b) = sym (then_Equal (slice_cmp nat_cmp a b))
by_outer R (layer.Tuple xs) (layer.Tuple ys) = refl
by_outer R (layer.List xs) (layer.List ys) = refl
by_outer R layer.Dot layer.Dot = refl
by_outer R _ _ = refl

parts-map : {P : Type 0} (f : P → Value) (x : layer.Value-F P) → parts_of (map-Value P Value f x) ≡ map f (parts_of x)
parts-map f (layer.Tuple parts) = refl
parts-map f (layer.List items) = refl
parts-map f _ = refl

abbrev Ordered : Value → Type 0
Ordered = IsLawfulAt value_cmp

-- the order of two values by all but their parts, then by their parts
by_parts : (a b : Value) → value_cmp a b ≡ ordering_then (outer_cmp (out-Value a) (out-Value b)) (slice_cmp value_cmp (parts_of (out-Value a)) (parts_of (out-Value b)))
by_parts a b = value_cmp-out a b ∙ by_outer value_cmp (out-Value a) (out-Value b)

-- a value is ordered among all where its parts are
ordered_by_parts : (a : Value) (ps : List ((v : Value) × Ordered v)) → parts_of (out-Value a) ≡ map (λ e. e.0) ps → Ordered a
ordered_by_parts a ps is = record {
  back = λ b. by_parts a b ∙ ((λ i. ordering_then (outer_total.antisymm (out-Value a) (out-Value b) i) (back b i)) ∙ then_flip (outer_cmp (out-Value b) (out-Value a)) (slice_cmp value_cmp (parts_of (out-Value b)) (parts_of (out-Value a))) ∙ sym (ap ordering_reverse (by_parts b a)));
  chain = λ b c h k. by_parts a c ∙ then_chain (outer b) (outer_cmp (out-Value b) (out-Value c)) (outer c) (slice_cmp value_cmp (parts_of (out-Value a)) (parts_of (out-Value b))) (slice_cmp value_cmp (parts_of (out-Value b)) (parts_of (out-Value c))) (slice_cmp value_cmp (parts_of (out-Value a)) (parts_of (out-Value c))) (outer_total.trans (out-Value a) (out-Value b) (out-Value c)) (outer_total.congr (out-Value a) (out-Value b) (out-Value c)) (λ e. sym (alike_right outer_total (out-Value b) (out-Value c) (out-Value a) e)) (chain b c) (sym (by_parts a b) ∙ h) (sym (by_parts b c) ∙ k);
}
  where
    outer : Value → Ordering
    outer b = outer_cmp (out-Value a) (out-Value b)

    back : (b : Value) → slice_cmp value_cmp (parts_of (out-Value a)) (parts_of (out-Value b)) ≡ ordering_reverse (slice_cmp value_cmp (parts_of (out-Value b)) (parts_of (out-Value a)))
    back b = subst (λ xs. slice_cmp value_cmp xs (parts_of (out-Value b)) ≡ ordering_reverse (slice_cmp value_cmp (parts_of (out-Value b)) xs)) (sym is) (lists_back value_cmp values_apart ps (parts_of (out-Value b)))

    chain : (b c : Value) → slice_cmp value_cmp (parts_of (out-Value a)) (parts_of (out-Value b)) ≡ Less → slice_cmp value_cmp (parts_of (out-Value b)) (parts_of (out-Value c)) ≡ Less → slice_cmp value_cmp (parts_of (out-Value a)) (parts_of (out-Value c)) ≡ Less
    chain b c = subst (λ xs. slice_cmp value_cmp xs (parts_of (out-Value b)) ≡ Less → slice_cmp value_cmp (parts_of (out-Value b)) (parts_of (out-Value c)) ≡ Less → slice_cmp value_cmp xs (parts_of (out-Value c)) ≡ Less) (sym is) (lists_chain value_cmp values_apart ps (parts_of (out-Value b)) (parts_of (out-Value c)))

values_ordered : (a : Value) → Ordered a
values_ordered = ind-Value Ordered (λ x y is. ordered_by_parts (roll-Value x) (parts_of y) (ap parts_of (out-roll-Value x ∙ sym is) ∙ parts-map (λ e. e.0) y))

pub values_total : IsTotalOrder value_cmp
values_total = record {
  antisymm = λ a b. (values_ordered a).back b;
  trans = λ a b c. (values_ordered a).chain b c;
  congr = λ a b c e. ap (λ v. value_cmp v c) (values_apart a b e);
}

pub values_tie : (a b : Value) → a ≡ b → value_cmp a b ≡ Equal
values_tie a b e = ap (value_cmp a) (sym e) ∙ tied_itself values_total a
