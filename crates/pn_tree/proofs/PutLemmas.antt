-- The texts of attributes and elements, as they are put piece by piece.
use Rattle.std.proofs.Common.{◌≡◌, ℕ, zero, suc, ◌+◌, ◌<◌, List, [], ◌∷◌, ◌++◌, length, get_or, take, map, Option, Some, Result, refl, sym, ap, ◌∙◌, subst, arith, append_assoc, append-nil}
use Rattle.std.specs.List.{flat_map, slice_get}
use Rattle.std.proofs.lemmas.Grind.{flat_map-append}
use Rattle.pn_outside.specs.Taking.{Takes, TakesFront, Puts}
use Rattle.pn_outside.proofs.TakingLemmas.{takes_both, front_of_pieces}
use Rattle.pn_tree.specs.Canonical.{attr_text, child_text, content_text, element_text, escaped_value}
use Rattle.pn_tree.specs.declared.element.Attr.{Attr}
use Rattle.pn_tree.specs.declared.element.Element.{Element}
use Rattle.pn_tree.specs.declared.element.Child.{Child}
use Rattle.pn_tree.proofs.CopyLemmas.{take_next}
use Rattle.pn_tree.proofs.ElementLemmas.{element_text_is}

pub attr_pieces : (a : Attr) (name value : List ℕ) → name ≡ a.name → value ≡ a.value
    → (32 ∷ (name ++ 61 ∷ 34 ∷ [])) ++ (escaped_value value ++ 34 ∷ []) ≡ attr_text a
attr_pieces a name value n v =
    ap (λ l. (32 ∷ (l ++ 61 ∷ 34 ∷ [])) ++ (escaped_value value ++ 34 ∷ [])) n
    ∙ ap (λ l. (32 ∷ (a.name ++ 61 ∷ 34 ∷ [])) ++ (escaped_value l ++ 34 ∷ [])) v
    ∙ ap (λ l. 32 ∷ l) (append_assoc a.name (61 ∷ 34 ∷ []) (escaped_value a.value ++ 34 ∷ []))

pub start_pieces : (name attrs : List ℕ) → (60 ∷ (name ++ [])) ++ attrs ≡ 60 ∷ (name ++ attrs)
start_pieces name attrs = ap (λ l. (60 ∷ l) ++ attrs) (append-nil name)

-- what follows the attributes comes after them
pub content_pieces : (e : Element) → (60 ∷ (e.name ++ flat_map attr_text e.attrs)) ++ content_text e.name (map child_text e.kids) ≡ element_text e
content_pieces e =
    ap (λ l. 60 ∷ l) (append_assoc e.name (flat_map attr_text e.attrs) (content_text e.name (map child_text e.kids))) ∙ sym (element_text_is e)

pub empty_pieces : (e : Element) → e.kids ≡ [] → (60 ∷ (e.name ++ flat_map attr_text e.attrs)) ++ (47 ∷ 62 ∷ []) ≡ element_text e
empty_pieces e none =
    ap (λ (ks : List Child). (60 ∷ (e.name ++ flat_map attr_text e.attrs)) ++ content_text e.name (map child_text ks)) (sym none) ∙ content_pieces e

flat_texts : (ks : List Child) → flat_map (λ t. t) (map child_text ks) ≡ flat_map child_text ks
flat_texts [] = refl
flat_texts (k ∷ ks) = ap (λ l. child_text k ++ l) (flat_texts ks)

content_full : (name : List ℕ) (ks : List Child) → (ks ≡ [] → ⊥) → content_text name (map child_text ks) ≡ 62 ∷ (flat_map child_text ks ++ (60 ∷ 47 ∷ (name ++ 62 ∷ [])))
content_full name [] some = absurd (some refl)
content_full name (k ∷ ks) some = ap (λ l. 62 ∷ (l ++ (60 ∷ 47 ∷ (name ++ 62 ∷ [])))) (flat_texts (k ∷ ks))

pub full_pieces : (e : Element) (ks : List Child) (name : List ℕ) → ks ≡ e.kids → name ≡ e.name → (e.kids ≡ [] → ⊥)
    → (60 ∷ (e.name ++ flat_map attr_text e.attrs)) ++ (62 ∷ (flat_map child_text ks ++ (60 ∷ 47 ∷ (name ++ 62 ∷ [])))) ≡ element_text e
full_pieces e ks name k n some =
    ap (λ l. (60 ∷ (e.name ++ flat_map attr_text e.attrs)) ++ (62 ∷ (flat_map child_text l ++ (60 ∷ 47 ∷ (name ++ 62 ∷ []))))) k
    ∙ ap (λ l. (60 ∷ (e.name ++ flat_map attr_text e.attrs)) ++ (62 ∷ (flat_map child_text e.kids ++ (60 ∷ 47 ∷ (l ++ 62 ∷ []))))) n
    ∙ ap (λ l. (60 ∷ (e.name ++ flat_map attr_text e.attrs)) ++ l) (sym (content_full e.name e.kids some)) ∙ content_pieces e

at_place : {A : Type 0} (xs : List A) (i : ℕ) (x : A) → slice_get xs i ≡ Some x → (i < length xs) × (x ≡ get_or xs i x)
at_place [] i x is = absurd cc
at_place (y ∷ ys) zero x is = let same : y ≡ x = cc in (omega arith, sym same)
at_place (y ∷ ys) (suc i) x is = let rest = at_place ys i x is in (omega (arith, rest.0), rest.1)

module _ {S : Type 0} {taken : S → Option (List ℕ)} {number : S → Option ℕ} where
  -- the same text under another name
  pub puts_as : {E : Type 0} (a b : S) (xs ys : List ℕ) (r : Result (Unit {0}) E) → xs ≡ ys → Puts taken number r a b xs → Puts taken number r a b ys
  puts_as a b xs ys r is p = subst (Puts taken number r a b) is p

  -- a loop of puts failed at the item that stands at this place
  pub shown_failed : {A : Type 0} (a b c : S) (text : A → List ℕ) (xs : List A) (i : ℕ) (x : A) → slice_get xs i ≡ Some x
      → Takes taken number a b (flat_map text (take i xs)) → TakesFront taken number b c (text x) → TakesFront taken number a c (flat_map text xs)
  shown_failed a b c text xs i x is p q =
      let there = at_place xs i x is in
      front_of_pieces a b c text xs i x there.0 p (subst (λ y. TakesFront taken number b c (text y)) there.1 q)

  -- the item that stands at this place was put
  pub shown_taken : {A : Type 0} (a b c : S) (text : A → List ℕ) (xs : List A) (i : ℕ) (x : A) → slice_get xs i ≡ Some x
      → Takes taken number a b (flat_map text (take i xs)) → Takes taken number b c (text x) → Takes taken number a c (flat_map text (take (i + 1) xs))
  shown_taken a b c text xs i x is p q =
      let next : flat_map text (take i xs) ++ text x ≡ flat_map text (take (i + 1) xs) =
      ap (λ l. flat_map text (take i xs) ++ l) (sym (append-nil (text x))) ∙ sym (flat_map-append text (take i xs) (x ∷ [])) ∙ ap (flat_map text) (sym (take_next xs i x is)) in
      subst (Takes taken number a c) next (takes_both a b c (flat_map text (take i xs)) (text x) p q)
