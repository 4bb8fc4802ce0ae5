-- The places that are made for a marking.
use Rattle.std.proofs.Common.{◌≡◌, ◌<◌, ◌+◌, ◌==◌, ◌⊎◌, inl, inr, ℕ, zero, suc, Bool, true, false, cond, List, [], ◌∷◌, ◌++◌, length, get_or, map, Option, None, Some, refl, sym, ap, ◌∙◌, subst, arith}
use Rattle.std.specs.List.{slice_get}
use Rattle.std.specs.Option.{option_map}
use Rattle.std.proofs.lemmas.Bool.{false≢true}
use Rattle.std.proofs.lemmas.Bool.Decides.{nat_tests}
use Rattle.std.proofs.lemmas.List.{append-nil, append_assoc}
use Rattle.pn_bag.specs.Counts.{Every}
use Rattle.pn_carriers.specs.Members.{IsMember}
use Rattle.pn_checks.proofs.ValueLemmas.{place_sort_once}
use Rattle.std.proofs.lemmas.Option.{slice_get-get_or}
use Rattle.pn_facts.proofs.Lists.{got}
use Rattle.pn_names.specs.Names.{widths_of}
use Rattle.pn_net.specs.Labels.{IsPlaceSort, IsSortBy, said}
use Rattle.pn_net.specs.Typed.{IsSortOfPlace}
use Rattle.pn_net.specs.declared.flat.Flat.{Flat}
use Rattle.pn_net.specs.declared.token.Token.{Token}
use Rattle.pn_objects.specs.declared.object.Place.{Place}
use Rattle.pn_operators.specs.declared.kind.Kind.{Kind}
use Rattle.pn_operators.specs.declared.kind.Kind.TheVariants as kinds
use Rattle.pn_resolve.proofs.NamingLemmas.{resolved_declared}
use Rattle.pn_resolve.specs.Naming.{NamesDeclared, names_declared, names_declared_layer}
use Rattle.pn_syntax.specs.declared.declaration.Declaration.{Declaration}
use Rattle.pn_syntax.specs.declared.sort_expr.SortExpr.{SortExpr}
use Rattle.pn_syntax.specs.declared.term.Term.{Term}
use Rattle.pn_terms.proofs.SortLemmas.{same_some}
use Rattle.pn_values.specs.declared.sort.Sort.{Sort}
use Rattle.pn_values.specs.declared.sort.Sort.TheFolds.{fold-roll-Sort}
use Rattle.pn_values.specs.declared.sort.Sort.TheOpen as layer
use Rattle.pn_values.specs.declared.sort.Sort.TheVariants as sorts
use Rattle.pn_values.specs.declared.value.Value.{Value}
use Rattle.pn_marked.specs.Gathering.{AreMadeFor, AreTermsBefore, AreTermsOn, IsGrownAt, IsPlaceWith}
use Rattle.pn_marking.specs.Totals.{IsTokenOf}
use Rattle.pn_marked.specs.Marked.{AreMarkedPlaces, IsMarkedPlace, label_of, so_often, sum_term, values_on}
use Rattle.pn_marked.proofs.WritingLemmas.{within_list}

-- ---- one more at the end of a list

grown_cases : {A : Type 0} (ys : List A) (y : A) (j : ℕ) (z : A) → slice_get (ys ++ y ∷ []) j ≡ Some z → (slice_get ys j ≡ Some z) ⊎ ((j ≡ length ys) × (y ≡ z))
grown_cases [] y zero z h = inr (refl, cc)
grown_cases [] y (suc j) z h = absurd cc
grown_cases (x ∷ xs) y zero z h = inl h
grown_cases (x ∷ xs) y (suc j) z h = by (grown_cases xs y j z h)
  where
    by : (slice_get xs j ≡ Some z) ⊎ ((j ≡ length xs) × (y ≡ z)) → (slice_get xs j ≡ Some z) ⊎ ((suc j ≡ suc (length xs)) × (y ≡ z))
    by (inl old) = inl old
    by (inr (at, is)) = inr (ap suc at, is)

length_grown : {A : Type 0} (ys : List A) (y : A) → length (ys ++ y ∷ []) ≡ length ys + 1
length_grown [] y = refl
length_grown (x ∷ xs) y = let rest = length_grown xs y in omega (arith, rest)

pub made_next : {A B : Type 0} (P : ℕ → A → B → Type 0) (xs : List A) (ys now : List B) (i : ℕ) (x : A) (y : B) → AreMadeFor P xs ys i → i < length xs → x ≡ get_or xs i x → now ≡ ys ++ y ∷ [] → P i x y → AreMadeFor P xs now (i + 1)
made_next {A} {B} P xs ys now i x y made below is_x grown right = record {
  size = ap length grown ∙ length_grown ys y ∙ ap (λ n. n + 1) made.size;
  within = omega (arith, below);
  each = λ j u z is_u is_z. by j u z is_u (grown_cases ys y j z (sym (ap (λ l. slice_get l j) grown) ∙ is_z));
}
  where
    here : slice_get xs i ≡ Some x
    here = slice_get-get_or xs i x below ∙ ap Some (sym is_x)

    by : (j : ℕ) (u : A) (z : B) → slice_get xs j ≡ Some u → (slice_get ys j ≡ Some z) ⊎ ((j ≡ length ys) × (y ≡ z)) → P j u z
    by j u z is_u (inl old) = made.each j u z is_u old
    by j u z is_u (inr (at, is)) =
        let place : i ≡ j = sym (at ∙ made.size) in
        let same : x ≡ u = same_some x u (slice_get xs j) (sym (ap (slice_get xs) place) ∙ here) is_u in
        subst (λ k. P k u z) place (subst (λ w. P i w z) same (subst (P i x) is right))

-- ---- the sort of a place

-- a place has one sort
pub sort_of_place_once : (f : Flat) (i : ℕ) (s t : Sort) → IsSortOfPlace f i s → IsSortOfPlace f i t → s ≡ t
sort_of_place_once f i s t (p, at, is) (q, also, is_also) =
    let same : q ≡ p = same_some q p (slice_get f.places i) also at in
    place_sort_once f.declarations p s t is (subst (λ x. IsPlaceSort f.declarations x t) same is_also)

dot_declared : (items : List Declaration) → NamesDeclared items sorts.Dot
dot_declared items = ap (names_declared items) (sym sorts.rolls-Dot) ∙ fold-roll-Sort Bool (names_declared_layer items) layer.Dot

by_declared : (items : List Declaration) (o : Option SortExpr) (s : Sort) → IsSortBy items o s → NamesDeclared items s
by_declared items None s is = subst (NamesDeclared items) (sym is) (dot_declared items)
by_declared items (Some e) s is = resolved_declared items e s is

-- it names enumerations and partitions of the declarations
pub sort_of_place_declared : (f : Flat) (i : ℕ) (s : Sort) → IsSortOfPlace f i s → NamesDeclared f.declarations s
sort_of_place_declared f i s (p, at, is) = by_declared f.declarations (said p.sort) s is

pub token_member : (f : Flat) (k : Token) (s : Sort) → IsTokenOf f k → IsSortOfPlace f k.place s → IsMember (widths_of f.declarations) k.value s
token_member f k s (t, of_place, member) own = subst (IsMember (widths_of f.declarations) k.value) (sort_of_place_once f k.place t s of_place own) member

-- ---- the terms on each place

-- the values on a place, with those of one more token in front
pub values_here : (k : Token) (n : ℕ) (left : List (Token × ℕ)) (i : ℕ) → i ≡ k.place → values_on ((k, n) ∷ left) i ≡ (k.value, n) ∷ values_on left i
values_here k n left i is = ap (λ b. cond b ((k.value, n) ∷ values_on left i) (values_on left i)) test
  where
    test : (k.place == i) ≡ true
    test = grind (arith, nat_tests)

pub values_elsewhere : (k : Token) (n : ℕ) (left : List (Token × ℕ)) (i : ℕ) → (i ≡ k.place → ⊥) → values_on ((k, n) ∷ left) i ≡ values_on left i
values_elsewhere k n left i not = by (k.place == i) refl
  where
    by : (b : Bool) → (k.place == i) ≡ b → values_on ((k, n) ∷ left) i ≡ values_on left i
    by false is = ap (λ b. cond b ((k.value, n) ∷ values_on left i) (values_on left i)) is
    by true is = absurd (not (grind (arith, nat_tests)))

pub terms_next : (f : Flat) (m before left : List (Token × ℕ)) (k : Token) (n : ℕ) (term : Term) (old new : List (List Term)) → before ≡ (k, n) ∷ left → AreTermsBefore f m before old
    → ((sort : Sort) → IsSortOfPlace f k.place sort → term ≡ so_often f.declarations sort (k.value, n)) → IsGrownAt k.place term old new → AreTermsBefore f m left new
terms_next f m before left k n term old new whole terms is_term grown = record {
  size = grown.size ∙ terms.size;
  each = λ i es sort is of_place. by (i == k.place) i refl es sort is of_place;
}
  where
    so : Sort → Value × ℕ → Term
    so sort = so_often f.declarations sort

    here : (i : ℕ) (es : List Term) (sort : Sort) → i ≡ k.place → slice_get new i ≡ Some es → IsSortOfPlace f i sort → es ++ map (so sort) (values_on left i) ≡ map (so sort) (values_on m i)
    here i es sort at is of_place =
        let g = grown.here es (sym (ap (slice_get new) at) ∙ is) in
        ap (λ l. l ++ map (so sort) (values_on left i)) (g.2 ∙ ap (λ t. g.0 ++ t ∷ []) (is_term sort (subst (λ j. IsSortOfPlace f j sort) at of_place)))
        ∙ append_assoc g.0 (so sort (k.value, n) ∷ []) (map (so sort) (values_on left i))
        ∙ sym (ap (λ l. g.0 ++ map (so sort) l) (ap (λ l. values_on l i) whole ∙ values_here k n left i at))
        ∙ terms.each i g.0 sort (ap (slice_get old) at ∙ g.1) of_place

    elsewhere : (i : ℕ) (es : List Term) (sort : Sort) → (i ≡ k.place → ⊥) → slice_get new i ≡ Some es → IsSortOfPlace f i sort → es ++ map (so sort) (values_on left i) ≡ map (so sort) (values_on m i)
    elsewhere i es sort not is of_place =
        sym (ap (λ l. es ++ map (so sort) l) (ap (λ l. values_on l i) whole ∙ values_elsewhere k n left i not))
        ∙ terms.each i es sort (sym (grown.others i not) ∙ is) of_place

    by : (b : Bool) → (i : ℕ) → (i == k.place) ≡ b → (es : List Term) (sort : Sort) → slice_get new i ≡ Some es → IsSortOfPlace f i sort → es ++ map (so sort) (values_on left i) ≡ map (so sort) (values_on m i)
    by true i is = λ es sort. here i es sort (grind (arith, nat_tests))
    by false i is = λ es sort. elsewhere i es sort (λ same. false≢true (sym is ∙ equal same))
      where
        equal : i ≡ k.place → (i == k.place) ≡ true
        equal same = grind (arith, nat_tests)

-- ---- the places

pub coloured_are_marked : (f : Flat) (m : List (Token × ℕ)) (terms : List (List Term)) (all : List Place) → (f.kind ≡ kinds.PtNet → ⊥) → AreTermsOn f m terms → AreMadeFor (IsPlaceWith f.declarations terms) f.places all (length f.places) → AreMarkedPlaces f m all
coloured_are_marked f m terms all kind on made = record {
  size = made.size;
  each = λ i p q is_p is_q. by f.kind refl i p q is_p is_q;
}
  where
    made_here : (i : ℕ) (p q : Place) → slice_get f.places i ≡ Some p → slice_get all i ≡ Some q
        → (sort : Sort) × IsPlaceSort f.declarations p sort × (q ≡ record p { marking = None; hl_marking = option_map label_of (sum_term (map (so_often f.declarations sort) (values_on m i))) })
    made_here i p q is_p is_q =
        let below : i < length terms = subst (λ n. i < n) (sym on.size) (within_list f.places i p is_p) in
        let es = got terms i below in
        let (sort, of_place, is) = made.each i p q is_p is_q in (
          sort,
          of_place,
          is es.0 es.1 ∙ ap (λ l. record p { marking = None; hl_marking = option_map label_of (sum_term l) }) (sym (append-nil es.0) ∙ on.each i es.0 sort es.1 (p, is_p, of_place)),
        )

    by : (k : Kind) → f.kind ≡ k → (i : ℕ) (p q : Place) → slice_get f.places i ≡ Some p → slice_get all i ≡ Some q → IsMarkedPlace k f.declarations m i p q
    by kinds.PtNet is = absurd (kind is)
    by kinds.Symmetric is = made_here
    by kinds.HighLevel is = made_here

-- what stands at a place is what is found there
pub there_is : {A : Type 0} (xs : List A) (i : ℕ) (x y : A) → i < length xs → x ≡ get_or xs i x → slice_get xs i ≡ Some y → x ≡ y
there_is xs i x y below is at = same_some x y (slice_get xs i) (slice_get-get_or xs i x below ∙ ap Some (sym is)) at

pub rest_every : {X : Type 0} (P : X → Type 0) (before left : List X) (x : X) → before ≡ x ∷ left → Every P before → Every P left
rest_every P before left x is all = (subst (Every P) is all).1
