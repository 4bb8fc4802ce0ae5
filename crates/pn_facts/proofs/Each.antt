-- What holds of each item of a list.
use Rattle.std.proofs.Common.{◌≡◌, ◌⊎◌, inl, inr, Bool, true, false, cond, List, [], ◌∷◌, map, Some, refl, subst}
use Rattle.std.specs.List.{slice_get, AllByRecursion, Contains, filter, find}
use Rattle.pn_facts.proofs.Contained.{contains_nil, contains_cases}

pub each : {X : Type 0} (P Q : X → Type 0) → ((x : X) → P x → Q x) → (xs : List X) → AllByRecursion P xs → AllByRecursion Q xs
each P Q f [] all = tt
each P Q f (x ∷ xs) all = (f x all.0, each P Q f xs all.1)

pub each_both : {X : Type 0} (P Q R : X → Type 0) → ((x : X) → P x → Q x → R x) → (xs : List X) → AllByRecursion P xs → AllByRecursion Q xs → AllByRecursion R xs
each_both P Q R f [] all also = tt
each_both P Q R f (x ∷ xs) all also = (f x all.0 also.0, each_both P Q R f xs all.1 also.1)

pub one_of : {X : Type 0} (P : X → Type 0) (xs : List X) (x : X) → AllByRecursion P xs → Contains xs x → P x
one_of P [] x all is = absurd (contains_nil x is)
one_of P (y ∷ ys) x all is = step (contains_cases y ys x is) (λ more. one_of P ys x all.1 more)
  where
    step : (y ≡ x) ⊎ Contains ys x → (Contains ys x → P x) → P x
    step (inl same) more = subst P same all.0
    step (inr there) more = more there

pub map_each : {X Y : Type 0} (f g : X → Y) (xs : List X) → AllByRecursion (λ x. f x ≡ g x) xs → map f xs ≡ map g xs
map_each f g [] all = refl
map_each f g (x ∷ xs) all = λ i. all.0 i ∷ map_each f g xs all.1 i

pub filtered : {X : Type 0} (P Q : X → Type 0) (test : X → Bool) → ((x : X) → P x → test x ≡ true → Q x) → (xs : List X) → AllByRecursion P xs → AllByRecursion Q (filter test xs)
filtered P Q test f [] all = tt
filtered P Q test f (x ∷ xs) all = step (test x) refl (filtered P Q test f xs all.1)
  where
    step : (b : Bool) → test x ≡ b → AllByRecursion Q (filter test xs) → AllByRecursion Q (cond b (x ∷ filter test xs) (filter test xs))
    step true is rest = (f x all.0 is, rest)
    step false is rest = rest

pub found_first : {X : Type 0} (test : X → Bool) (xs : List X) → find test xs ≡ slice_get (filter test xs) 0
found_first test [] = refl
found_first test (x ∷ xs) = step (test x) (found_first test xs)
  where
    step : (b : Bool) → find test xs ≡ slice_get (filter test xs) 0 → cond b (Some x) (find test xs) ≡ slice_get (cond b (x ∷ filter test xs) (filter test xs)) 0
    step true rest = refl
    step false rest = rest
