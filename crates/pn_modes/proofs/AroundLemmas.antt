-- What is still to come around a front, and how it changes at the front's end.
use Rattle.std.proofs.Common.{◌≡◌, ℕ, suc, ◌+◌, ◌-◌, ◌*◌, ◌<◌, ◌≤◌, List, [], ◌∷◌, ◌++◌, map, drop, length, Some, refl, sym, ap, ◌∙◌, subst, append_assoc, arith}
use Rattle.std.specs.List.{slice_get}
use Rattle.std.proofs.lemmas.List.{map-append}
use Rattle.pn_facts.proofs.Contained.{contains_at}
use Rattle.pn_carriers.specs.Carriers.{choices}
use Rattle.pn_values.specs.declared.value.Value.{Value}
use Rattle.pn_modes.specs.Carriers.{IsFrontOf, carrier_at}
use Rattle.pn_modes.specs.Search.{AreAt, around, cost, cost_behind, with_first}

-- ---- places and values

pub at_length : (ks : List ℕ) (vs : List Value) (cs : List (List Value)) → AreAt ks vs cs → length vs ≡ length ks
at_length [] [] cs at = refl
at_length [] (v ∷ vs) cs at = absurd at
at_length (k ∷ ks) [] cs at = absurd at
at_length (k ∷ ks) (v ∷ vs) [] at = absurd at
at_length (k ∷ ks) (v ∷ vs) (c ∷ cs) at = ap suc (at_length ks vs cs at.1)

pub at_within : (ks : List ℕ) (vs : List Value) (cs : List (List Value)) → AreAt ks vs cs → length ks ≤ length cs
at_within [] [] cs at = omega arith
at_within [] (v ∷ vs) cs at = absurd at
at_within (k ∷ ks) [] cs at = absurd at
at_within (k ∷ ks) (v ∷ vs) [] at = absurd at
at_within (k ∷ ks) (v ∷ vs) (c ∷ cs) at = omega (arith, at_within ks vs cs at.1)

-- the values of a front are in their carriers
pub at_front : (ks : List ℕ) (vs : List Value) (cs : List (List Value)) → AreAt ks vs cs → IsFrontOf cs vs
at_front [] [] cs at = tt
at_front [] (v ∷ vs) cs at = absurd at
at_front (k ∷ ks) [] cs at = absurd at
at_front (k ∷ ks) (v ∷ vs) [] at = absurd at
at_front (k ∷ ks) (v ∷ vs) (c ∷ cs) at = (contains_at c k v at.0, at_front ks vs cs at.1)

-- a front gets one more value, of the carrier behind it
pub at_push : (ks : List ℕ) (vs : List Value) (cs : List (List Value)) (c : List Value) (more : List (List Value)) (k : ℕ) (v : Value) → AreAt ks vs cs → drop (length ks) cs ≡ c ∷ more → slice_get c k ≡ Some v
    → AreAt (ks ++ k ∷ []) (vs ++ v ∷ []) cs
at_push [] [] cs c more k v at is got = subst (λ l. AreAt (k ∷ []) (v ∷ []) l) (sym is) (got, tt)
at_push [] (w ∷ vs) cs c more k v at is got = absurd at
at_push (j ∷ ks) [] cs c more k v at is got = absurd at
at_push (j ∷ ks) (w ∷ vs) [] c more k v at is got = absurd at
at_push (j ∷ ks) (w ∷ vs) (d ∷ cs) c more k v at is got = (at.0, at_push ks vs cs c more k v at.1 is got)

none_behind : (vs : List Value) (v : Value) (cs : List (List Value)) → AreAt [] (vs ++ v ∷ []) cs → ⊥
none_behind [] v cs at = at
none_behind (w ∷ vs) v cs at = at

none_before : (ks : List ℕ) (k : ℕ) (cs : List (List Value)) → AreAt (ks ++ k ∷ []) [] cs → ⊥
none_before [] k cs at = at
none_before (j ∷ ks) k cs at = at

-- and loses its last
pub at_pop : (ks : List ℕ) (vs : List Value) (cs : List (List Value)) (k : ℕ) (v : Value) → AreAt (ks ++ k ∷ []) (vs ++ v ∷ []) cs → AreAt ks vs cs
at_pop [] [] cs k v at = tt
at_pop [] (w ∷ vs) [] k v at = absurd at
at_pop [] (w ∷ vs) (d ∷ cs) k v at = absurd (none_behind vs v cs at.1)
at_pop (j ∷ ks) [] [] k v at = absurd at
at_pop (j ∷ ks) [] (d ∷ cs) k v at = absurd (none_before ks k cs at.1)
at_pop (j ∷ ks) (w ∷ vs) [] k v at = absurd at
at_pop (j ∷ ks) (w ∷ vs) (d ∷ cs) k v at = (at.0, at_pop ks vs cs k v at.1)

pub at_last : (ks : List ℕ) (vs : List Value) (cs : List (List Value)) (k : ℕ) (v : Value) → AreAt (ks ++ k ∷ []) (vs ++ v ∷ []) cs → slice_get (carrier_at cs (length ks)) k ≡ Some v
at_last [] [] [] k v at = absurd at
at_last [] [] (d ∷ cs) k v at = at.0
at_last [] (w ∷ vs) [] k v at = absurd at
at_last [] (w ∷ vs) (d ∷ cs) k v at = absurd (none_behind vs v cs at.1)
at_last (j ∷ ks) [] [] k v at = absurd at
at_last (j ∷ ks) [] (d ∷ cs) k v at = absurd (none_before ks k cs at.1)
at_last (j ∷ ks) (w ∷ vs) [] k v at = absurd at
at_last (j ∷ ks) (w ∷ vs) (d ∷ cs) k v at = at_last ks vs cs k v at.1

-- ---- what is to come

same_behind : (xs : List (List Value)) → xs ≡ map (λ rest. [] ++ rest) xs ++ []
same_behind [] = refl
same_behind (x ∷ xs) = ap (λ l. x ∷ l) (same_behind xs)

longer : (v : Value) (vs : List Value) (xs : List (List Value)) → map (λ rest. v ∷ rest) (map (λ rest. vs ++ rest) xs) ≡ map (λ rest. (v ∷ vs) ++ rest) xs
longer v vs [] = refl
longer v vs (x ∷ xs) = ap (λ l. (v ∷ (vs ++ x)) ∷ l) (longer v vs xs)

-- what begins with the front comes before all else
pub around_front : (ks : List ℕ) (vs : List Value) (cs more : List (List Value)) → AreAt ks vs cs → around ks vs cs more ≡ map (λ rest. vs ++ rest) more ++ around ks vs cs []
around_front [] [] cs more at = same_behind more
around_front [] (v ∷ vs) cs more at = absurd at
around_front (k ∷ ks) [] cs more at = absurd at
around_front (k ∷ ks) (v ∷ vs) [] more at = absurd at
around_front (k ∷ ks) (v ∷ vs) (c ∷ cs) more at =
    let behind = with_first (drop (suc k) c) (choices cs) in
    let inner = around ks vs cs [] in
    ap (λ l. map (λ rest. v ∷ rest) l ++ behind) (around_front ks vs cs more at.1)
    ∙ ap (λ l. l ++ behind) (map-append (λ rest. v ∷ rest) (map (λ rest. vs ++ rest) more) inner)
    ∙ append_assoc (map (λ rest. v ∷ rest) (map (λ rest. vs ++ rest) more)) (map (λ rest. v ∷ rest) inner) behind
    ∙ ap (λ l. l ++ (map (λ rest. v ∷ rest) inner ++ behind)) (longer v vs more)

-- around a front with one more value
pub around_last : (ks : List ℕ) (vs : List Value) (cs : List (List Value)) (c : List Value) (after : List (List Value)) (k : ℕ) (v : Value) (more : List (List Value)) → AreAt ks vs cs → drop (length ks) cs ≡ c ∷ after
    → around (ks ++ k ∷ []) (vs ++ v ∷ []) cs more ≡ around ks vs cs (map (λ rest. v ∷ rest) more ++ with_first (drop (suc k) c) (choices after))
around_last [] [] cs c after k v more at is = ap (λ l. around (k ∷ []) (v ∷ []) l more) is
around_last [] (w ∷ vs) cs c after k v more at is = absurd at
around_last (j ∷ ks) [] cs c after k v more at is = absurd at
around_last (j ∷ ks) (w ∷ vs) [] c after k v more at is = absurd at
around_last (j ∷ ks) (w ∷ vs) (d ∷ cs) c after k v more at is =
    ap (λ l. map (λ rest. w ∷ rest) l ++ with_first (drop (suc j) d) (choices cs)) (around_last ks vs cs c after k v more at.1 is)

-- ---- what it costs

pub cost_last : (ks : List ℕ) (vs : List Value) (cs : List (List Value)) (c : List Value) (after : List (List Value)) (k : ℕ) → AreAt ks vs cs → drop (length ks) cs ≡ c ∷ after
    → cost_behind (ks ++ k ∷ []) cs ≡ cost_behind ks cs + ((length c - suc k) * suc (cost after) + 1)
cost_last [] [] cs c after k at is = ap (cost_behind (k ∷ [])) is
cost_last [] (w ∷ vs) cs c after k at is = absurd at
cost_last (j ∷ ks) [] cs c after k at is = absurd at
cost_last (j ∷ ks) (w ∷ vs) [] c after k at is = absurd at
cost_last (j ∷ ks) (w ∷ vs) (d ∷ cs) c after k at is =
    swapped (cost_behind ks cs) ((length c - suc k) * suc (cost after) + 1) ((length d - suc j) * suc (cost cs) + 1) (cost_behind (ks ++ k ∷ []) cs) (cost_last ks vs cs c after k at.1 is)
  where
    swapped : (a b e n : ℕ) → n ≡ a + b → n + e ≡ (a + e) + b
    swapped a b e n h = omega (arith, h)

pub cost_positive : (cs : List (List Value)) → 0 < cost cs
cost_positive [] = omega arith
cost_positive (c ∷ cs) = positive (length c * suc (cost cs))
  where
    positive : (n : ℕ) → 0 < n + 1
    positive n = omega arith
