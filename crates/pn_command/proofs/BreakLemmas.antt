-- Fronts of documents, and the break.
use Rattle.std.proofs.Common.{◌≡◌, ◌<◌, ◌≤◌, ℕ, zero, suc, List, [], ◌∷◌, ◌++◌, codes, take, drop, refl, sym, ap, ◌∙◌, subst, append_assoc, append-nil, take-append-drop, arith, ◌⊎◌, inl, inr}
use Rattle.pn_tree.specs.declared.element.Element.{Element}
use Rattle.pn_tree.specs.Canonical.{canonical_text}
use Rattle.pn_tree.specs.Elements.{IsTree, is_element}
use Rattle.pn_markup.specs.Document.{IsDocument, IsFront, IsBreak}
use Rattle.pn_markup.proofs.DocumentLemmas.{canonical_spells}
use Rattle.pn_spelling.specs.Writing.{made}

-- what a front begins with is a front
pub shorter_front : (a b : List ℕ) → IsFront (a ++ b) → IsFront a
shorter_front a b f = (f.0, b ++ f.1, subst (λ l. IsDocument f.0 l) (append_assoc a b f.1) f.2)

split_take : (m n : ℕ) (b : List ℕ) → m ≤ n → take n b ≡ take m b ++ drop m (take n b)
split_take m n b h = sym (take-append-drop m (take n b)) ∙ ap (λ l. l ++ drop m (take n b)) (take_of_take m n b h)
  where
    take_of_take : (m n : ℕ) (b : List ℕ) → m ≤ n → take m (take n b) ≡ take m b
    take_of_take zero n b h = refl
    take_of_take (suc m) zero b h = absurd (omega arith)
    take_of_take (suc m) (suc n) [] h = refl
    take_of_take (suc m) (suc n) (x ∷ b) h = ap (λ l. x ∷ l) (take_of_take m n b (omega arith))

pub take_front : (m n : ℕ) (b : List ℕ) → m ≤ n → IsFront (take n b) → IsFront (take m b)
take_front m n b h f = shorter_front (take m b) (drop m (take n b)) (subst IsFront (split_take m n b h) f)

pub front_of_document : (t : Element) (b : List ℕ) → IsDocument t b → IsFront b
front_of_document t b d = (t, [], subst (λ l. IsDocument t l) (sym (append-nil b)) d)

-- bytes have one break
pub one_break : (b : List ℕ) (j k : ℕ) → IsBreak b j → IsBreak b k → j ≡ k
one_break b j k p q = by (compare j k)
  where
    compare : (m n : ℕ) → (m ≡ n) ⊎ ((m < n) ⊎ (n < m))
    compare zero zero = inl refl
    compare zero (suc n) = inr (inl (omega arith))
    compare (suc m) zero = inr (inr (omega arith))
    compare (suc m) (suc n) = step (compare m n)
      where
        step : (m ≡ n) ⊎ ((m < n) ⊎ (n < m)) → (suc m ≡ suc n) ⊎ ((suc m < suc n) ⊎ (suc n < suc m))
        step (inl e) = inl (ap suc e)
        step (inr (inl l)) = inr (inl (omega arith))
        step (inr (inr l)) = inr (inr (omega arith))

    by : (j ≡ k) ⊎ ((j < k) ⊎ (k < j)) → j ≡ k
    by (inl e) = e
    by (inr (inl less)) = let end = q.within in absurd (p.no_more (omega arith) (take_front (suc j) k b (omega arith) q.front))
    by (inr (inr less)) = let end = p.within in absurd (q.no_more (omega arith) (take_front (suc k) j b (omega arith) p.front))

small_tree : IsTree (made (codes "a") [] [])
unfolding is_element
small_tree = refl

-- a document may begin with nothing
pub nothing_begins : IsFront []
nothing_begins =
    let spelled = canonical_spells (made (codes "a") [] []) small_tree in
    (spelled.tree, canonical_text (made (codes "a") [] []), spelled.is_document)
