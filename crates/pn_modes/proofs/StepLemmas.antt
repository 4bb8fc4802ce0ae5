-- What each kind of step does to what is to come, over plain lists.
use Rattle.std.proofs.Common.{◌≡◌, ℕ, zero, suc, ◌+◌, ◌-◌, ◌*◌, ◌<◌, Bool, true, false, List, [], ◌∷◌, ◌++◌, map, drop, take, length, get_or, set, Some, if◌then◌else◌, refl, sym, ap, ◌∙◌, subst, append-nil, arith, drop-cons, take_all, length-take-le}
use Rattle.std.specs.List.{remove, slice_get}
use Rattle.std.proofs.lemmas.List.{drop_all, take_more, length_push}
use Rattle.std.proofs.lemmas.Bool.{false≢true}
use Rattle.pn_facts.proofs.Lists.{drop_got, got, take_got}
use Rattle.pn_carriers.specs.Carriers.{choices}
use Rattle.pn_values.specs.declared.value.Value.{Value}
use Rattle.pn_modes.specs.Carriers.{carrier_at}
use Rattle.pn_modes.specs.Prunes.{AreUnwanted, Skips}
use Rattle.pn_modes.specs.Search.{AreAt, around, cost, cost_behind, with_first}
use Rattle.pn_modes.proofs.AroundLemmas.{at_last, at_length, at_pop, at_push, at_within, around_front, around_last, cost_last, cost_positive}

-- what is to come, and how many steps are left, at these places and values
abbrev pub coming : List (List Value) → List ℕ → List Value → Bool → List (List Value)
coming cs ks vs fresh = around ks vs cs (if fresh then choices (drop (length ks) cs) else [])

abbrev pub left : List (List Value) → List ℕ → Bool → ℕ
left cs ks fresh = cost_behind ks cs + (if fresh then cost (drop (length ks) cs) else 0)

-- from one place of a search to another
abbrev pub GoesOn : (List Value → Type 0) → List (List Value) → List ℕ → List Value → Bool → List ℕ → List Value → Bool → Type 0
GoesOn wanted cs ks vs fresh js ws anew = Skips wanted (coming cs ks vs fresh) (coming cs js ws anew) × (left cs js anew < left cs ks fresh)

pub skips_nothing : (wanted : List Value → Type 0) (old new : List (List Value)) → old ≡ new → Skips wanted old new
skips_nothing wanted old new is = record {
  skipped = [];
  unwanted = tt;
  is = is;
}

none_wanted : (wanted : List Value → Type 0) (vs : List Value) → ((rest : List Value) → wanted (vs ++ rest) → ⊥) → (more : List (List Value)) → AreUnwanted wanted (map (λ rest. vs ++ rest) more)
none_wanted wanted vs cut [] = tt
none_wanted wanted vs cut (rest ∷ more) = (cut rest, none_wanted wanted vs cut more)

falls : (n c : ℕ) → 0 < c → n + 0 < n + c
falls n c lt = omega (arith, lt)

-- ---- into a front

pub front_cut : (wanted : List Value → Type 0) (cs : List (List Value)) (ks : List ℕ) (vs : List Value) (fresh : Bool) → AreAt ks vs cs → fresh ≡ true → ((rest : List Value) → wanted (vs ++ rest) → ⊥) → GoesOn wanted cs ks vs fresh ks vs false
front_cut wanted cs ks vs true at is cut = (
  record {
    skipped = map (λ rest. vs ++ rest) (choices (drop (length ks) cs));
    unwanted = none_wanted wanted vs cut (choices (drop (length ks) cs));
    is = around_front ks vs cs (choices (drop (length ks) cs)) at;
  },
  falls (cost_behind ks cs) (cost (drop (length ks) cs)) (cost_positive (drop (length ks) cs)),
)
front_cut wanted cs ks vs false at is cut = absurd (false≢true is)

pub front_found : (cs : List (List Value)) (ks : List ℕ) (vs : List Value) (fresh : Bool) → AreAt ks vs cs → fresh ≡ true → length ks ≡ length cs → coming cs ks vs fresh ≡ vs ∷ coming cs ks vs false
front_found cs ks vs true at is all =
    let none : drop (length ks) cs ≡ [] = drop_all (length ks) cs (omega (arith, all)) in
    ap (λ l. around ks vs cs (choices l)) none ∙ around_front ks vs cs ([] ∷ []) at ∙ ap (λ l. l ∷ around ks vs cs []) (append-nil vs)
front_found cs ks vs false at is all = absurd (false≢true is)

next_carrier : (cs : List (List Value)) (n : ℕ) → n < length cs → drop n cs ≡ carrier_at cs n ∷ drop (suc n) cs
next_carrier cs n lt = drop-cons cs n [] lt

empty_list : (c : List Value) → length c ≡ 0 → c ≡ []
empty_list [] is = refl
empty_list (v ∷ c) is = absurd (omega (arith, is))

pub front_empty : (wanted : List Value → Type 0) (cs : List (List Value)) (ks : List ℕ) (vs : List Value) (fresh : Bool) → fresh ≡ true → length ks < length cs → length (carrier_at cs (length ks)) ≡ 0 → GoesOn wanted cs ks vs fresh ks vs false
front_empty wanted cs ks vs true is lt none =
    let there = next_carrier cs (length ks) lt ∙ ap (λ c. c ∷ drop (suc (length ks)) cs) (empty_list (carrier_at cs (length ks)) none) in
    (skips_nothing wanted _ _ (ap (λ l. around ks vs cs (choices l)) there), falls (cost_behind ks cs) (cost (drop (length ks) cs)) (cost_positive (drop (length ks) cs)))
front_empty wanted cs ks vs false is lt none = absurd (false≢true is)

-- the choices with the value at a place and with those behind it
from_place : (c : List Value) (k : ℕ) (v : Value) (after : List (List Value)) → slice_get c k ≡ Some v → with_first (drop k c) after ≡ map (λ rest. v ∷ rest) after ++ with_first (drop (suc k) c) after
from_place c k v after is =
    let next : k + 1 ≡ suc k = omega arith in ap (λ l. with_first l after) (drop_got c k v is ∙ ap (λ n. v ∷ drop n c) next)

drop_pushed : (ks : List ℕ) (k : ℕ) (cs : List (List Value)) → drop (length (ks ++ k ∷ [])) cs ≡ drop (suc (length ks)) cs
drop_pushed ks k cs = let long : length (ks ++ k ∷ []) ≡ suc (length ks) = omega (arith, length_push ks k) in ap (λ n. drop n cs) long

place_within : (c : List Value) (k : ℕ) (v : Value) → slice_get c k ≡ Some v → k < length c
place_within [] k v is = absurd cc
place_within (x ∷ c) zero v is = omega arith
place_within (x ∷ c) (suc k) v is = omega (arith, place_within c k v is)

-- a front with one more value, at k, costs no more than what is to come from k on
one_more : (b m k s n : ℕ) → k < n → s ≡ m + 1 → (b + ((n - suc k) * s + 1)) + m < b + ((n - k) * s + 1)
one_more b m k s n lt is =
    let left : n - k ≡ suc (n - suc k) = omega (arith, lt) in
    let times : (n - k) * s ≡ s + (n - suc k) * s = ap (λ x. x * s) left ∙ next_times (n - suc k) s in omega (arith, times, is)
  where
    next_times : (x y : ℕ) → suc x * y ≡ y + x * y
    next_times x y = omega arith

-- the value at k follows a front, where those from k on were to come
pushed : (wanted : List Value → Type 0) (cs : List (List Value)) (ks : List ℕ) (vs : List Value) (k : ℕ) (v : Value) → AreAt ks vs cs → length ks < length cs → slice_get (carrier_at cs (length ks)) k ≡ Some v
    → around ks vs cs (with_first (drop k (carrier_at cs (length ks))) (choices (drop (suc (length ks)) cs))) ≡ coming cs (ks ++ k ∷ []) (vs ++ v ∷ []) true
pushed wanted cs ks vs k v at lt is =
    let c = carrier_at cs (length ks) in
    let after = drop (suc (length ks)) cs in
    ap (around ks vs cs) (from_place c k v (choices after) is)
    ∙ sym (around_last ks vs cs c after k v (choices after) at (next_carrier cs (length ks) lt))
    ∙ ap (λ l. around (ks ++ k ∷ []) (vs ++ v ∷ []) cs (choices l)) (sym (drop_pushed ks k cs))

pushed_left : (cs : List (List Value)) (ks : List ℕ) (vs : List Value) (k : ℕ) (v : Value) → AreAt ks vs cs → length ks < length cs → slice_get (carrier_at cs (length ks)) k ≡ Some v
    → left cs (ks ++ k ∷ []) true < cost_behind ks cs + ((length (carrier_at cs (length ks)) - k) * suc (cost (drop (suc (length ks)) cs)) + 1)
pushed_left cs ks vs k v at lt is =
    let c = carrier_at cs (length ks) in
    let after = drop (suc (length ks)) cs in
    let inside : suc (cost after) ≡ cost after + 1 = omega arith in
    let rest : cost (drop (length (ks ++ k ∷ [])) cs) ≡ cost after = ap cost (drop_pushed ks k cs) in
    let behind : cost_behind (ks ++ k ∷ []) cs ≡ cost_behind ks cs + ((length c - suc k) * suc (cost after) + 1) = cost_last ks vs cs c after k at (next_carrier cs (length ks) lt) in
    let fell = one_more (cost_behind ks cs) (cost after) k (suc (cost after)) (length c) (place_within c k v is) inside in
    subst (λ x. x < cost_behind ks cs + ((length c - k) * suc (cost after) + 1)) (sym ((λ i. behind i + rest i))) fell

pub front_first : (wanted : List Value → Type 0) (cs : List (List Value)) (ks : List ℕ) (vs : List Value) (v : Value) (fresh : Bool) → AreAt ks vs cs → fresh ≡ true → length ks < length cs → slice_get (carrier_at cs (length ks)) 0 ≡ Some v
    → AreAt (ks ++ 0 ∷ []) (vs ++ v ∷ []) cs × GoesOn wanted cs ks vs fresh (ks ++ 0 ∷ []) (vs ++ v ∷ []) fresh
front_first wanted cs ks vs v true at is lt first =
    let c = carrier_at cs (length ks) in
    let there = next_carrier cs (length ks) lt in (
      at_push ks vs cs c (drop (suc (length ks)) cs) 0 v at there first,
      (
        skips_nothing wanted _ _ (ap (λ l. around ks vs cs (choices l)) there ∙ pushed wanted cs ks vs 0 v at lt first),
        subst (λ l. left cs (ks ++ 0 ∷ []) true < cost_behind ks cs + cost l) (sym there) (all_of (cost (drop (suc (length ks)) cs)) (length c) (pushed_left cs ks vs 0 v at lt first)),
      ),
    )
  where
    all_of : (m n : ℕ) → left cs (ks ++ 0 ∷ []) true < cost_behind ks cs + ((n - 0) * suc m + 1) → left cs (ks ++ 0 ∷ []) true < cost_behind ks cs + (n * suc m + 1)
    all_of m n h = let same : n - 0 ≡ n = omega arith in subst (λ x. left cs (ks ++ 0 ∷ []) true < cost_behind ks cs + (x * suc m + 1)) same h
front_first wanted cs ks vs v false at is lt first = absurd (false≢true is)

-- ---- out of a front

behind_last : (c : List Value) (k : ℕ) → suc k ≡ length c → drop (suc k) c ≡ []
behind_last c k is = drop_all (suc k) c (omega (arith, is))

pub last_dropped : (wanted : List Value → Type 0) (cs : List (List Value)) (ks : List ℕ) (vs : List Value) (k : ℕ) (v : Value) → AreAt (ks ++ k ∷ []) (vs ++ v ∷ []) cs → length ks < length cs → suc k ≡ length (carrier_at cs (length ks))
    → GoesOn wanted cs (ks ++ k ∷ []) (vs ++ v ∷ []) false ks vs false
last_dropped wanted cs ks vs k v at lt last =
    let c = carrier_at cs (length ks) in
    let after = drop (suc (length ks)) cs in
    let inner = at_pop ks vs cs k v at in
    let there = next_carrier cs (length ks) lt in
    let one : (length c - suc k) * suc (cost after) + 1 ≡ 1 = let none : length c - suc k ≡ 0 = omega (arith, last) in ap (λ x. x * suc (cost after) + 1) none ∙ zero_times (suc (cost after)) in (
      skips_nothing wanted _ _ (around_last ks vs cs c after k v [] inner there ∙ ap (λ l. around ks vs cs (with_first l (choices after))) (behind_last c k last)),
      omega (arith, cost_last ks vs cs c after k inner there, one),
    )
  where
    zero_times : (s : ℕ) → 0 * s + 1 ≡ 1
    zero_times s = omega arith

pub last_moved : (wanted : List Value → Type 0) (cs : List (List Value)) (ks : List ℕ) (vs : List Value) (k : ℕ) (v w : Value) → AreAt (ks ++ k ∷ []) (vs ++ v ∷ []) cs → length ks < length cs → slice_get (carrier_at cs (length ks)) (suc k) ≡ Some w
    → AreAt (ks ++ suc k ∷ []) (vs ++ w ∷ []) cs × GoesOn wanted cs (ks ++ k ∷ []) (vs ++ v ∷ []) false (ks ++ suc k ∷ []) (vs ++ w ∷ []) true
last_moved wanted cs ks vs k v w at lt next =
    let c = carrier_at cs (length ks) in
    let after = drop (suc (length ks)) cs in
    let inner = at_pop ks vs cs k v at in
    let there = next_carrier cs (length ks) lt in (
      at_push ks vs cs c after (suc k) w inner there next,
      (
        skips_nothing wanted _ _ (around_last ks vs cs c after k v [] inner there ∙ pushed wanted cs ks vs (suc k) w inner lt next),
        omega (arith, cost_last ks vs cs c after k inner there, pushed_left cs ks vs (suc k) w inner lt next),
      ),
    )

-- ---- by the last place

-- the last place and value of a front
pub record HasLast (ks : List ℕ) (vs : List Value) (n : ℕ) : Type 0 where
  pub front : List ℕ
  pub before : List Value
  pub value : Value
  pub places : ks ≡ front ++ get_or ks n 0 ∷ []
  pub values : vs ≡ before ++ value ∷ []
  pub size : length front ≡ n
  pub as_many : length before ≡ n

last_of : (ks : List ℕ) (vs : List Value) (cs : List (List Value)) (n : ℕ) → AreAt ks vs cs → suc n ≡ length ks → HasLast ks vs n
last_of ks vs cs n at is =
    let same = at_length ks vs cs at in
    let here : n < length vs = omega (arith, same, is) in
    let there : n < length ks = omega (arith, is) in
    let v = got vs n here in
    let all : n + 1 ≡ length ks = omega (arith, is) in
    let also : n + 1 ≡ length vs = omega (arith, same, is) in
    record {
      front = take n ks;
      before = take n vs;
      value = v.0;
      places = sym (take_all (n + 1) ks (omega (arith, all))) ∙ take_more ks n 0 there;
      values = sym (take_all (n + 1) vs (omega (arith, also))) ∙ take_got vs n v.0 v.1;
      size = length-take-le n ks (omega (arith, is));
      as_many = length-take-le n vs (omega (arith, same, is));
    }

remove_last : {X : Type 0} (xs : List X) (x : X) → remove (xs ++ x ∷ []) (length xs) ≡ xs
remove_last [] x = refl
remove_last (y ∷ xs) x = ap (λ l. y ∷ l) (remove_last xs x)

set_last : {X : Type 0} (xs : List X) (x y : X) → set (xs ++ x ∷ []) (length xs) y ≡ xs ++ y ∷ []
set_last [] x y = refl
set_last (z ∷ xs) x y = ap (λ l. z ∷ l) (set_last xs x y)

removed : {X : Type 0} (all xs : List X) (x : X) (n : ℕ) → all ≡ xs ++ x ∷ [] → length xs ≡ n → remove all n ≡ xs
removed all xs x n is size = (λ i. remove (is i) (sym size i)) ∙ remove_last xs x

replaced : {X : Type 0} (all xs : List X) (x y : X) (n : ℕ) → all ≡ xs ++ x ∷ [] → length xs ≡ n → set all n y ≡ xs ++ y ∷ []
replaced all xs x y n is size = (λ i. set (is i) (sym size i) y) ∙ set_last xs x y

split : (ks : List ℕ) (vs : List Value) (cs : List (List Value)) (n : ℕ) (at : AreAt ks vs cs) (l : HasLast ks vs n) → AreAt (l.front ++ get_or ks n 0 ∷ []) (l.before ++ l.value ∷ []) cs
split ks vs cs n at l = subst (λ (z : List ℕ × List Value). AreAt z.0 z.1 cs) (λ i. (l.places i, l.values i)) at

pub last_place : (ks : List ℕ) (vs : List Value) (cs : List (List Value)) (n : ℕ) → AreAt ks vs cs → suc n ≡ length ks → get_or ks n 0 < length (carrier_at cs n)
last_place ks vs cs n at is =
    let l = last_of ks vs cs n at is in
    subst (λ m. get_or ks n 0 < length (carrier_at cs m)) l.size (place_within (carrier_at cs (length l.front)) (get_or ks n 0) l.value (at_last l.front l.before cs (get_or ks n 0) l.value (split ks vs cs n at l)))

pub last_within : (ks : List ℕ) (vs : List Value) (cs : List (List Value)) (n : ℕ) → AreAt ks vs cs → suc n ≡ length ks → n < length cs
last_within ks vs cs n at is = omega (arith, at_within ks vs cs at, is)

pub left_dropped : (wanted : List Value → Type 0) (cs : List (List Value)) (ks : List ℕ) (vs : List Value) (n : ℕ) (fresh : Bool) → AreAt ks vs cs → fresh ≡ false → suc n ≡ length ks → get_or ks n 0 + 1 ≡ length (carrier_at cs n)
    → AreAt (remove ks n) (remove vs n) cs × GoesOn wanted cs ks vs fresh (remove ks n) (remove vs n) fresh
left_dropped wanted cs ks vs n true at tried is last = absurd (false≢true (sym tried))
left_dropped wanted cs ks vs n false at tried is last =
    let l = last_of ks vs cs n at is in
    let k = get_or ks n 0 in
    let parts = split ks vs cs n at l in
    let lt : length l.front < length cs = omega (arith, last_within ks vs cs n at is, l.size) in
    let end : suc k ≡ length (carrier_at cs (length l.front)) = let plain : suc k ≡ k + 1 = omega arith in plain ∙ last ∙ ap (λ m. length (carrier_at cs m)) (sym l.size) in
    let fronts : l.front ≡ remove ks n = sym (removed ks l.front k n l.places l.size) in
    let values : l.before ≡ remove vs n = sym (removed vs l.before l.value n l.values l.as_many) in
    let wholes : l.front ++ k ∷ [] ≡ ks = sym l.places in
    let lists : l.before ++ l.value ∷ [] ≡ vs = sym l.values in
    subst (λ (z : List ℕ × List Value × List ℕ × List Value). AreAt z.2 z.3 cs × GoesOn wanted cs z.0 z.1 false z.2 z.3 false) (λ i. (wholes i, lists i, fronts i, values i))
    (at_pop l.front l.before cs k l.value parts, last_dropped wanted cs l.front l.before k l.value parts lt end)

pub left_moved : (wanted : List Value → Type 0) (cs : List (List Value)) (ks : List ℕ) (vs : List Value) (n j : ℕ) (w : Value) (fresh : Bool) → AreAt ks vs cs → fresh ≡ false → suc n ≡ length ks → j ≡ get_or ks n 0 + 1 → slice_get (carrier_at cs n) j ≡ Some w
    → AreAt (set ks n j) (set vs n w) cs × GoesOn wanted cs ks vs fresh (set ks n j) (set vs n w) true
left_moved wanted cs ks vs n j w true at tried is step next = absurd (false≢true (sym tried))
left_moved wanted cs ks vs n j w false at tried is step next =
    let l = last_of ks vs cs n at is in
    let k = get_or ks n 0 in
    let parts = split ks vs cs n at l in
    let plain : suc k ≡ j = omega (arith, step) in
    let lt : length l.front < length cs = omega (arith, last_within ks vs cs n at is, l.size) in
    let there : slice_get (carrier_at cs (length l.front)) (suc k) ≡ Some w = (λ i. slice_get (carrier_at cs (l.size i)) (plain i)) ∙ next in
    let fronts : l.front ++ suc k ∷ [] ≡ set ks n j = ap (λ m. l.front ++ m ∷ []) plain ∙ sym (replaced ks l.front k j n l.places l.size) in
    let values : l.before ++ w ∷ [] ≡ set vs n w = sym (replaced vs l.before l.value w n l.values l.as_many) in
    let wholes : l.front ++ k ∷ [] ≡ ks = sym l.places in
    let lists : l.before ++ l.value ∷ [] ≡ vs = sym l.values in
    subst (λ (z : List ℕ × List Value × List ℕ × List Value). AreAt z.2 z.3 cs × GoesOn wanted cs z.0 z.1 false z.2 z.3 true) (λ i. (wholes i, lists i, fronts i, values i))
    (last_moved wanted cs l.front l.before k l.value w parts lt there)
