-- Texts that are given to an element one after the other.
use Rattle.std.proofs.Common.{◌≡◌, ℕ, List, [], ◌∷◌, ◌++◌, refl, sym, ap, ◌∙◌, append_assoc, append-nil}
use Rattle.pn_tree.specs.Building.{with_text, with_kid, joined, joined_last}
use Rattle.pn_tree.specs.declared.element.Element.{Element}
use Rattle.pn_tree.specs.declared.element.Child.{Child}
use Rattle.pn_tree.specs.declared.element.Child.TheOpen as layer
use Rattle.pn_tree.specs.declared.element.Child.TheVariants as children
use Rattle.pn_tree.specs.declared.element.Child.TheViews.{out-Child}
use Rattle.pn_tree.proofs.BuildLemmas.{joined-push, joined_last-text, joined_last-element}

last_twice : (xs ys : List ℕ) (k : Child) (l : layer.Child-F Child Element) → joined ys (joined_last xs k l) ≡ joined_last (xs ++ ys) k l
last_twice xs ys k (layer.Element e) = ap (λ ks. k ∷ ks) (joined_last-text ys xs)
last_twice xs ys k (layer.Text t) = joined_last-text ys (t ++ xs) ∙ ap (λ s. children.Text s ∷ []) (append_assoc t xs ys)

behind_first : (xs ys : List ℕ) (k l : Child) (ks : List Child) → joined ys (k ∷ joined xs (l ∷ ks)) ≡ k ∷ joined ys (joined xs (l ∷ ks))
behind_first xs ys k l [] = by (out-Child l)
  where
    by : (o : layer.Child-F Child Element) → joined ys (k ∷ joined_last xs l o) ≡ k ∷ joined ys (joined_last xs l o)
    by (layer.Element e) = refl
    by (layer.Text t) = refl
behind_first xs ys k l (m ∷ ms) = refl

joined_twice : (xs ys : List ℕ) (ks : List Child) → joined ys (joined xs ks) ≡ joined (xs ++ ys) ks
joined_twice xs ys [] = joined_last-text ys xs
joined_twice xs ys (k ∷ []) = last_twice xs ys k (out-Child k)
joined_twice xs ys (k ∷ l ∷ ks) = behind_first xs ys k l ks ∙ ap (λ z. k ∷ z) (joined_twice xs ys (l ∷ ks))

with_kids : List Child → Element → Element
with_kids ks e = record e { kids = ks }

-- two texts, one after the other, are given as one
pub with_text-append : (xs ys : List ℕ) (e : Element) → with_text (xs ++ ys) e ≡ with_text ys (with_text xs e)
unfolding with_kids
with_text-append [] ys e = refl
with_text-append (x ∷ xs) [] e = ap (λ l. with_kids (joined (x ∷ l) e.kids) e) (append-nil xs)
with_text-append (x ∷ xs) (y ∷ ys) e = ap (λ ks. with_kids ks e) (sym (joined_twice (x ∷ xs) (y ∷ ys) e.kids))

-- a text behind an element is a kid of its own
pub fresh_text : (b : ℕ) (bs : List ℕ) (k e : Element) → with_text (b ∷ bs) (with_kid (children.Element k) e) ≡ with_kid (children.Text (b ∷ bs)) (with_kid (children.Element k) e)
unfolding with_kids
fresh_text b bs k e =
    ap (λ ks. with_kids ks e)
    (joined-push (b ∷ bs) e.kids (children.Element k) ∙ ap (λ l. e.kids ++ l) (joined_last-element (b ∷ bs) k)
    ∙ sym (append_assoc e.kids (children.Element k ∷ []) (children.Text (b ∷ bs) ∷ [])))
