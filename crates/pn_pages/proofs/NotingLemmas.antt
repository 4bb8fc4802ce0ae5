-- Names that are noted part by part.
use Rattle.std.proofs.Common.{◌≡◌, ℕ, suc, ◌+◌, ◌<◌, ◌≤◌, List, [], ◌∷◌, ◌++◌, append_assoc, append-nil, length, map, take, get_or, Option, Some, sym, ap, ◌∙◌, subst, arith}
use Rattle.std.specs.List.{flat_map, slice_get}
use Rattle.std.proofs.lemmas.List.{length-take-le, map-append, take_all}
use Rattle.std.proofs.lemmas.Grind.{flat_map-append}
use Rattle.std.proofs.lemmas.Option.{slice_get-get_or}
use Rattle.std.proofs.lemmas.List.{take_more}
use Rattle.pn_faults.specs.declared.fault.Fault.{Fault}
use Rattle.pn_net.specs.Ids.{IdHolder}
use Rattle.pn_objects.specs.declared.object.Reference.{Reference}
use Rattle.pn_pages.specs.declared.names.First.{First}
use Rattle.pn_pages.specs.declared.numbered.Objects.{Objects}
use Rattle.pn_pages.specs.Naming.{AreNamed, holders_from, reference_holder}

-- behind those that are noted these are noted too
abbrev Adds : (List ℕ → Option First) → Option Fault → (List ℕ → Option First) → Option Fault → Objects → List IdHolder → Type 0
Adds old before now after o ms = (hs : List IdHolder) → AreNamed o hs old before → AreNamed o (hs ++ ms) now after

-- some and then others
pub adds_then : {old now new : List ℕ → Option First} {before between after : Option Fault} (o : Objects) (ms ns all : List IdHolder) → ms ++ ns ≡ all
    → Adds old before now between o ms → Adds now between new after o ns → Adds old before new after o all
adds_then {old} {now} {new} {before} {between} {after} o ms ns all is first second hs named =
    subst (λ xs. AreNamed o xs new after) (append_assoc hs ms ns ∙ ap (λ xs. hs ++ xs) is) (second (hs ++ ms) (first hs named))

pub adds_alike : {old now : List ℕ → Option First} {before after : Option Fault} (o : Objects) (ms all : List IdHolder) → ms ≡ all → Adds old before now after o ms → Adds old before now after o all
adds_alike {old} {now} {before} {after} o ms all is adds hs named = subst (λ xs. AreNamed o (hs ++ xs) now after) is (adds hs named)

-- ---- the parts of loops

pub map_grows : {X Y : Type 0} (f : X → Y) (xs : List X) (i : ℕ) (x : X) → i < length xs → x ≡ get_or xs i x → map f (take i xs) ++ f x ∷ [] ≡ map f (take (i + 1) xs)
map_grows f xs i x small is = sym (ap (map f) (take_more xs i x small ∙ ap (λ y. take i xs ++ y ∷ []) (sym is)) ∙ map-append f (take i xs) (x ∷ []))

pub flat_grows : {X Y : Type 0} (f : X → List Y) (xs : List X) (i : ℕ) (x : X) → i < length xs → x ≡ get_or xs i x → flat_map f (take i xs) ++ f x ≡ flat_map f (take (i + 1) xs)
flat_grows f xs i x small is = sym (ap (flat_map f) (take_more xs i x small ∙ ap (λ y. take i xs ++ y ∷ []) (sym is)) ∙ flat_map-append f (take i xs) (x ∷ []) ∙ ap (λ ys. flat_map f (take i xs) ++ ys) (append-nil (f x)))

holders_push : (o : Objects) (k : ℕ) (xs : List Reference) (x : Reference) → holders_from o k (xs ++ x ∷ []) ≡ holders_from o k xs ++ reference_holder o (k + length xs) x ∷ []
holders_push o k [] x = let number : k + 0 ≡ k = omega arith in ap (λ n. reference_holder o n x ∷ []) (sym number)
holders_push o k (r ∷ rs) x =
    let number : suc k + length rs ≡ k + suc (length rs) = omega arith in
    ap (λ ys. reference_holder o k r ∷ ys) (holders_push o (suc k) rs x ∙ ap (λ n. holders_from o (suc k) rs ++ reference_holder o n x ∷ []) number)

pub holders_grow : (o : Objects) (xs : List Reference) (i : ℕ) (x : Reference) → i < length xs → x ≡ get_or xs i x → holders_from o 0 (take i xs) ++ reference_holder o i x ∷ [] ≡ holders_from o 0 (take (i + 1) xs)
holders_grow o xs i x small is =
    let number : 0 + length (take i xs) ≡ i = omega (arith, length-take-le i xs (omega (arith, small))) in
    sym (ap (holders_from o 0) (take_more xs i x small ∙ ap (λ y. take i xs ++ y ∷ []) (sym is)) ∙ holders_push o 0 (take i xs) x ∙ ap (λ n. holders_from o 0 (take i xs) ++ reference_holder o n x ∷ []) number)

pub whole : {X : Type 0} (xs : List X) (i : ℕ) → length xs ≤ i → take i xs ≡ xs
whole xs i past = take_all i xs past

-- what stands at a place of a list
pub stands_at : {X : Type 0} (xs ys : List X) (i : ℕ) (x : X) → ys ≡ xs → i < length xs → x ≡ get_or xs i x → slice_get ys i ≡ Some x
stands_at xs ys i x same small is = ap (λ zs. slice_get zs i) same ∙ slice_get-get_or xs i x small ∙ ap Some (sym is)
