-- Facts that hold of each item of a list.
use Rattle.std.proofs.Common.{◌≡◌, ℕ, zero, suc, ◌+◌, ◌<◌, List, [], ◌∷◌, ◌++◌, length, get_or, take, drop, map, subst, arith}
use Rattle.pn_bag.specs.Counts.{Every}

module _ {X : Type 0} where
  pub every_weaker : (P Q : X → Type 0) → ((x : X) → P x → Q x) → (xs : List X) → Every P xs → Every Q xs
  every_weaker P Q f [] all = tt
  every_weaker P Q f (x ∷ xs) all = (f x all.0, every_weaker P Q f xs all.1)

  pub every_one : (P : X → Type 0) → ((x : X) → P x) → (xs : List X) → Every P xs
  every_one P f [] = tt
  every_one P f (x ∷ xs) = (f x, every_one P f xs)

  pub every_both : (P Q R : X → Type 0) → ((x : X) → P x → Q x → R x) → (xs : List X) → Every P xs → Every Q xs → Every R xs
  every_both P Q R f [] ps qs = tt
  every_both P Q R f (x ∷ xs) ps qs = (f x ps.0 qs.0, every_both P Q R f xs ps.1 qs.1)

  pub every-append : (P : X → Type 0) (xs ys : List X) → Every P xs → Every P ys → Every P (xs ++ ys)
  every-append P [] ys ps qs = qs
  every-append P (x ∷ xs) ys ps qs = (ps.0, every-append P xs ys ps.1 qs)

  pub every_left : (P : X → Type 0) (xs ys : List X) → Every P (xs ++ ys) → Every P xs
  every_left P [] ys ps = tt
  every_left P (x ∷ xs) ys ps = (ps.0, every_left P xs ys ps.1)

  pub every_right : (P : X → Type 0) (xs ys : List X) → Every P (xs ++ ys) → Every P ys
  every_right P [] ys ps = ps
  every_right P (x ∷ xs) ys ps = every_right P xs ys ps.1

  pub every_take : (P : X → Type 0) (n : ℕ) (xs : List X) → Every P xs → Every P (take n xs)
  every_take P zero xs ps = tt
  every_take P (suc n) [] ps = tt
  every_take P (suc n) (x ∷ xs) ps = (ps.0, every_take P n xs ps.1)

  pub every_drop : (P : X → Type 0) (n : ℕ) (xs : List X) → Every P xs → Every P (drop n xs)
  every_drop P zero xs ps = ps
  every_drop P (suc n) [] ps = tt
  every_drop P (suc n) (x ∷ xs) ps = every_drop P n xs ps.1

  -- at an index
  pub every_at : (P : X → Type 0) (xs : List X) (n : ℕ) (d : X) → n < length xs → Every P xs → P (get_or xs n d)
  every_at P [] n d within ps = absurd (omega arith)
  every_at P (x ∷ xs) zero d within ps = ps.0
  every_at P (x ∷ xs) (suc n) d within ps = every_at P xs n d (omega arith) ps.1

  -- at the first of what is left
  pub every_next : (P : X → Type 0) (xs : List X) (n : ℕ) (d : X) → n < length xs → Every P (drop n xs) → P (get_or xs n d)
  every_next P [] n d within ps = absurd (omega arith)
  every_next P (x ∷ xs) zero d within ps = ps.0
  every_next P (x ∷ xs) (suc n) d within ps = every_next P xs n d (omega arith) ps

  -- of one more item
  pub every_more : (P : X → Type 0) (xs : List X) (n : ℕ) (d : X) → n < length xs → Every P (take n xs) → P (get_or xs n d) → Every P (take (suc n) xs)
  every_more P [] n d within ps p = absurd (omega arith)
  every_more P (x ∷ xs) zero d within ps p = (p, tt)
  every_more P (x ∷ xs) (suc n) d within ps p = (ps.0, every_more P xs n d (omega arith) ps.1 p)

  pub every_set : (P : X → Type 0) (xs : List X) (n : ℕ) (x : X) → Every P xs → P x → Every P (Rattle.std.proofs.Common.set xs n x)
  every_set P [] n x ps p = tt
  every_set P (y ∷ xs) zero x ps p = (p, ps.1)
  every_set P (y ∷ xs) (suc n) x ps p = (ps.0, every_set P xs n x ps.1 p)
