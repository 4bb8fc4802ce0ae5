-- How lists begin: white space, names, and what follows them.
use Rattle.std.proofs.Common.{◌≡◌, ℕ, Bool, true, false, List, [], ◌∷◌, ◌++◌, refl, sym, ap, ◌∙◌, subst, arith}
use Rattle.std.proofs.lemmas.Bool.{false≢true, and_parts, and_from}
use Rattle.std.proofs.lemmas.Bool.Decides.{nat_tests}
use Rattle.std.specs.List.{list_all}
use Rattle.pn_text.specs.Characters.{is_name_start, is_name_part}
use Rattle.pn_markup.specs.Bytes.{is_space, is_quote, MaybeSpace, Name}
use Rattle.pn_scan.specs.Rest.{SpaceOr}
use Rattle.pn_scan.proofs.Tools.{head_is, tail_is}
use Rattle.pn_facts.proofs.Lists.{all_append}

-- a list that begins a list with x at its front: it is empty, or it has x at its front
pub data Front (x : ℕ) (c a d : List ℕ) : Type 0 where
  here : a ≡ [] → d ≡ x ∷ c → Front x c a d
  there : (more : List ℕ) → a ≡ x ∷ more → c ≡ more ++ d → Front x c a d

pub front_of : (x : ℕ) (c a d : List ℕ) → x ∷ c ≡ a ++ d → Front x c a d
front_of x c [] d e = here refl (sym e)
front_of x c (y ∷ a) d e = there a (ap (λ z. z ∷ a) (sym (head_is x y c (a ++ d) e))) (tail_is x y c (a ++ d) e)

pub all_first : (p : ℕ → Bool) (x : ℕ) (xs : List ℕ) → list_all p (x ∷ xs) ≡ true → p x ≡ true
all_first p x xs h = (and_parts (p x) (list_all p xs) h).0

pub all_rest : (p : ℕ → Bool) (x : ℕ) (xs : List ℕ) → list_all p (x ∷ xs) ≡ true → list_all p xs ≡ true
all_rest p x xs h = (and_parts (p x) (list_all p xs) h).1

pub all_more : (p : ℕ → Bool) (x : ℕ) (xs : List ℕ) → p x ≡ true → list_all p xs ≡ true → list_all p (x ∷ xs) ≡ true
all_more p x xs h k = and_from (p x) (list_all p xs) h k

-- a list of bytes that pass a test, with a byte that passes it at the front of all
pub record Within (p : ℕ → Bool) (x : ℕ) (c a d : List ℕ) : Type 0 where
  pub more : List ℕ
  pub is : a ≡ x ∷ more
  pub pass : list_all p more ≡ true
  pub whole : c ≡ more ++ d

pub span_in : (p : ℕ → Bool) (x : ℕ) (c a d : List ℕ) → list_all p a ≡ true → (d ≡ x ∷ c → ⊥) → x ∷ c ≡ a ++ d → Within p x c a d
span_in p x c a d h out e = go (front_of x c a d e)
  where
    go : Front x c a d → Within p x c a d
    go (here i j) = absurd (out j)
    go (there more i j) = record { more = more; is = i; pass = all_rest p x more (subst (λ l. list_all p l ≡ true) i h); whole = j }

-- and with one that does not
pub span_out : (p : ℕ → Bool) (x : ℕ) (c a d : List ℕ) → list_all p a ≡ true → p x ≡ false → x ∷ c ≡ a ++ d → (a ≡ []) × (d ≡ x ∷ c)
span_out p x c a d h fails e = go (front_of x c a d e)
  where
    go : Front x c a d → (a ≡ []) × (d ≡ x ∷ c)
    go (here i j) = (i, j)
    go (there more i j) = absurd (false≢true (sym fails ∙ all_first p x more (subst (λ l. list_all p l ≡ true) i h)))

-- classes of bytes

pub start_no_space : (x : ℕ) → is_name_start x ≡ true → is_space x ≡ false
start_no_space x h = grind (arith, nat_tests)

pub part_no_space : (x : ℕ) → is_name_part x ≡ true → is_space x ≡ false
part_no_space x h = grind (arith, nat_tests)

pub space_no_part : (x : ℕ) → is_space x ≡ true → is_name_part x ≡ false
space_no_part x h = grind (arith, nat_tests)

pub quote_no_space : (x : ℕ) → is_quote x ≡ true → is_space x ≡ false
quote_no_space x h = grind (arith, nat_tests)

pub start_part : (x : ℕ) → is_name_start x ≡ true → is_name_part x ≡ true
start_part x h = grind (arith, nat_tests)

-- names

-- a name begins with a byte that may begin one
pub record Named (name : List ℕ) : Type 0 where
  pub first : ℕ
  pub more : List ℕ
  pub is : name ≡ first ∷ more
  pub begins : is_name_start first ≡ true
  pub parts : list_all is_name_part more ≡ true

pub name_parts : (name : List ℕ) → Name name → Named name
name_parts [] h = absurd (false≢true h)
name_parts (x ∷ xs) h = let both = and_parts (is_name_start x) (list_all is_name_part xs) h in record { first = x; more = xs; is = refl; begins = both.0; parts = both.1 }

pub all_append_left : (p : ℕ → Bool) (xs ys : List ℕ) → list_all p (xs ++ ys) ≡ true → list_all p xs ≡ true
all_append_left p [] ys h = refl
all_append_left p (x ∷ xs) ys h = all_more p x xs (all_first p x (xs ++ ys) h) (all_append_left p xs ys (all_rest p x (xs ++ ys) h))

pub all_append_right : (p : ℕ → Bool) (xs ys : List ℕ) → list_all p (xs ++ ys) ≡ true → list_all p ys ≡ true
all_append_right p [] ys h = h
all_append_right p (x ∷ xs) ys h = all_append_right p xs ys (all_rest p x (xs ++ ys) h)

-- each byte behind the first of a name may be in one
pub name_has : (name : List ℕ) (x : ℕ) (more : List ℕ) → Name (name ++ (x ∷ more)) → is_name_part x ≡ true
name_has [] x more h = start_part x (and_parts (is_name_start x) (list_all is_name_part more) h).0
name_has (n ∷ ns) x more h = all_first is_name_part x more (all_append_right is_name_part ns (x ∷ more) (and_parts (is_name_start n) (list_all is_name_part (ns ++ (x ∷ more))) h).1)

-- one more byte of a name
pub name_more : (n : ℕ) (ns : List ℕ) (x : ℕ) → Name (n ∷ ns) → is_name_part x ≡ true → Name ((n ∷ ns) ++ (x ∷ []))
name_more n ns x h k =
    let both = and_parts (is_name_start n) (list_all is_name_part ns) h in
    and_from (is_name_start n) (list_all is_name_part (ns ++ (x ∷ []))) both.0 (all_append is_name_part ns (x ∷ []) both.1 (all_more is_name_part x [] k refl))

-- white space

pub space_maybe : (spaced : Bool) (space : List ℕ) → SpaceOr spaced space → MaybeSpace space
space_maybe true space h = h
space_maybe false [] h = absurd h
space_maybe false (x ∷ xs) h = h

pub space_more : (spaced : Bool) (x : ℕ) (space : List ℕ) → is_space x ≡ true → MaybeSpace space → SpaceOr spaced (x ∷ space)
space_more true x space h k = all_more is_space x space h k
space_more false x space h k = all_more is_space x space h k
