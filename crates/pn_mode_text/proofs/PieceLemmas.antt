-- Texts with commas between them, piece by piece.
use Rattle.std.proofs.Common.{◌≡◌, ℕ, zero, suc, ◌<◌, ◌≤◌, Bool, true, false, ◌&&◌, List, [], ◌∷◌, ◌++◌, codes, map, length, get_or, take, Option, Some, refl, sym, ap, ◌∙◌, subst, arith}
use Rattle.std.proofs.lemmas.Bool.{false≢true}
use Rattle.std.proofs.lemmas.Grind.{common_steps}
use Rattle.std.proofs.lemmas.List.{length-map}
use Rattle.std.proofs.lemmas.Option.{slice_get-get_or}
use Rattle.std.specs.List.{flat_map, list_all, slice_get}
use Rattle.std.specs.Option.{option_map}
use Rattle.pn_carriers.specs.Members.{pass_each}
use Rattle.pn_outside.specs.Taking.{Takes}
use Rattle.pn_values.specs.declared.sort.Sort.{Sort}
use Rattle.pn_values.specs.declared.value.Value.{Value}
use Rattle.pn_mode_text.specs.Pieces.{behind_commas, comma_before}
use Rattle.pn_mode_text.specs.Texts.{each_text, with_commas}

-- the text itself
abbrev pub piece : List ℕ → List ℕ
piece t = t

flat_pieces : (parts : List (List ℕ)) → flat_map piece (map (λ next. codes "," ++ next) parts) ≡ flat_map (λ next. codes "," ++ next) parts
flat_pieces [] = refl
flat_pieces (p ∷ parts) = ap (λ l. (codes "," ++ p) ++ l) (flat_pieces parts)

pub all_pieces : (parts : List (List ℕ)) → flat_map piece (behind_commas parts) ≡ with_commas parts
all_pieces [] = refl
all_pieces (p ∷ parts) = ap (λ l. p ++ l) (flat_pieces parts)

comma_at : (parts : List (List ℕ)) (i : ℕ) (t : List ℕ) → slice_get parts i ≡ Some t → slice_get (map (λ next. codes "," ++ next) parts) i ≡ Some (codes "," ++ t)
comma_at [] i t is = absurd cc
comma_at (p ∷ parts) zero t is = ap (option_map (λ next. codes "," ++ next)) is
comma_at (p ∷ parts) (suc i) t is = comma_at parts i t is

pub piece_at : (parts : List (List ℕ)) (i : ℕ) (t : List ℕ) → slice_get parts i ≡ Some t → slice_get (behind_commas parts) i ≡ Some (comma_before i ++ t)
piece_at [] i t is = absurd cc
piece_at (p ∷ parts) zero t is = is
piece_at (p ∷ parts) (suc i) t is = comma_at parts i t is

pub each_at : {A : Type 0} (text : A → Value → List ℕ) (xs : List A) (vs : List Value) (i : ℕ) (x : A) (v : Value) → slice_get xs i ≡ Some x → slice_get vs i ≡ Some v
    → slice_get (each_text (map text xs) vs) i ≡ Some (text x v)
each_at text [] vs i x v is that = absurd cc
each_at text (y ∷ xs) [] i x v is that = absurd cc
each_at {A} text (y ∷ xs) (w ∷ vs) zero x v is that =
    let same : y ≡ x = cc in
    let alike : w ≡ v = cc in
    ap (λ (z : A). Some (text z w)) same ∙ ap (λ (u : Value). Some (text x u)) alike
each_at text (y ∷ xs) (w ∷ vs) (suc i) x v is that = each_at text xs vs i x v is that

pub mapped_at : {A : Type 0} (text : A → List ℕ) (xs : List A) (i : ℕ) (x : A) → slice_get xs i ≡ Some x → slice_get (map text xs) i ≡ Some (text x)
mapped_at text [] i x is = absurd cc
mapped_at text (y ∷ xs) zero x is = ap (option_map text) is
mapped_at text (y ∷ xs) (suc i) x is = mapped_at text xs i x is

both_true : (a b : Bool) → (a && b) ≡ true → (a ≡ true) × (b ≡ true)
both_true true b is = (refl, is)
both_true false b is = absurd (false≢true is)

pub passes_at : (test : Sort → Value → Bool) (parts : List Sort) (vs : List Value) (i : ℕ) (part : Sort) (v : Value) → pass_each (map test parts) vs ≡ true
    → slice_get parts i ≡ Some part → slice_get vs i ≡ Some v → test part v ≡ true
passes_at test [] vs i part v passes is that = absurd cc
passes_at test (p ∷ parts) [] i part v passes is that = absurd cc
passes_at test (p ∷ parts) (w ∷ vs) zero part v passes is that =
    let same : p ≡ part = cc in
    let alike : w ≡ v = cc in
    subst (λ (u : Value). test part u ≡ true) alike (subst (λ (s : Sort). test s w ≡ true) same (both_true (test p w) (pass_each (map test parts) vs) passes).0)
passes_at test (p ∷ parts) (w ∷ vs) (suc i) part v passes is that = passes_at test parts vs i part v (both_true (test p w) (pass_each (map test parts) vs) passes).1 is that

pub holds_at : (test : Value → Bool) (vs : List Value) (i : ℕ) (v : Value) → list_all test vs ≡ true → slice_get vs i ≡ Some v → test v ≡ true
holds_at test [] i v all is = absurd cc
holds_at test (w ∷ vs) zero v all is = let same : w ≡ v = cc in subst (λ (u : Value). test u ≡ true) same (both_true (test w) (list_all test vs) all).0
holds_at test (w ∷ vs) (suc i) v all is = holds_at test vs i v (both_true (test w) (list_all test vs) all).1 is

pub below : {m n i : ℕ} → m ≡ n → i < m → i < n
below {m} {n} {i} same small = subst (λ (k : ℕ). i < k) same small

pub each_fewer : {A : Type 0} (text : A → Value → List ℕ) (xs : List A) (vs : List Value) → length (each_text (map text xs) vs) ≤ length xs
each_fewer text [] vs = omega arith
each_fewer text (x ∷ xs) [] = omega arith
each_fewer text (x ∷ xs) (v ∷ vs) = let rest = each_fewer text xs vs in omega (arith, rest)

as_many_pieces : (parts : List (List ℕ)) → length (behind_commas parts) ≡ length parts
as_many_pieces [] = refl
as_many_pieces (p ∷ parts) = ap suc (length-map parts (λ next. codes "," ++ next))

all_taken : {A : Type 0} (xs : List A) (i : ℕ) → length xs ≤ i → take i xs ≡ xs
all_taken xs i long = grind (arith, common_steps)

module _ {S : Type 0} {taken : S → Option (List ℕ)} {number : S → Option ℕ} where
  pub took_pieces : (a b : S) (parts : List (List ℕ)) (i : ℕ) → length parts ≤ i → Takes taken number a b (flat_map piece (take i (behind_commas parts)))
      → Takes taken number a b (with_commas parts)
  took_pieces a b parts i long p =
      let many = as_many_pieces parts in
      subst (Takes taken number a b) (ap (flat_map piece) (all_taken (behind_commas parts) i (omega (arith, many, long))) ∙ all_pieces parts) p
