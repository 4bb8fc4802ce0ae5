-- How pieces of content begin: with `<` or `&`.
use Rattle.std.proofs.Common.{◌≡◌, ℕ, suc, false, ◌==◌, List, ◌∷◌, ◌++◌, codes, refl, ap, ◌∙◌}
use Rattle.pn_tree.specs.declared.element.Element.{Element}
use Rattle.pn_scan.specs.State.{Nesting, before, within, behind}
use Rattle.pn_scan.specs.Rest.{Begun, a_comment, an_instruction, a_section, a_reference, an_end, a_tag, Marked, BehindElement}
use Rattle.pn_scan.proofs.Tools.{head_is, differs}
use Rattle.pn_scan.proofs.PieceLemmas.{marked_begun}
use Rattle.pn_scan.proofs.ValueLaws.{reference_begins}

-- with `<`, or in content with `&`
pub data Opening (nesting : Nesting) (x : ℕ) : Type 0 where
  less : x ≡ 60 → Opening nesting x
  ampersand : (levels : ℕ) (e : Element) (outer : List Element) → nesting ≡ within levels e outer → x ≡ 38 → Opening nesting x

pub begun_opening : (N : ℕ) (t : Element) (at : ℕ) (nesting : Nesting) (x : ℕ) (c : List ℕ) → Begun N t at nesting (x ∷ c) → Opening nesting x
begun_opening N t at nesting x c b = go nesting (x ∷ c) b refl
  where
    first : (k : ℕ) (bytes more rest d : List ℕ) → x ∷ c ≡ d → d ≡ bytes ++ rest → bytes ≡ k ∷ more → x ≡ k
    first k bytes more rest d e w i = head_is x k c (more ++ rest) (e ∙ w ∙ ap (λ l. l ++ rest) i)

    go : (p : Nesting) (d : List ℕ) → Begun N t at p d → x ∷ c ≡ d → Opening p x
    go p d (a_comment _ _ bytes rest m r w) e = less (first 60 bytes (codes "!--" ++ (m.0 ++ codes "-->")) rest d e w m.2)
    go p d (an_instruction _ _ bytes rest m r w) e = less (first 60 bytes (codes "?" ++ (m.target ++ (m.text ++ codes "?>"))) rest d e w m.whole)
    go p d (a_section _ _ l f es raw bytes rest i s r w) e = less (first 60 bytes (codes "![CDATA[" ++ (raw ++ codes "]]>")) rest d e w s.1)
    go p d (a_reference _ _ l f es text bytes rest i s r w) e =
        let a = reference_begins text bytes s in ampersand l f es i (first 38 bytes a.more rest d e w a.is)
    go p d (an_end _ _ l f es bytes rest i s r w) e = less (first 60 bytes (codes "/" ++ (f.name ++ (s.0 ++ codes ">"))) rest d e w s.2)
    go p d (a_tag _ _ l es f bytes rest i s r w) e = less (first 60 bytes (s.name ++ s.attributes) rest d e w s.whole)

-- no piece begins with another byte
pub no_piece : (N : ℕ) (t : Element) (at : ℕ) (nesting : Nesting) (x : ℕ) (c : List ℕ) → (x == 60) ≡ false → (x == 38) ≡ false → Begun N t at nesting (x ∷ c) → ⊥
no_piece N t at nesting x c h k b = go (begun_opening N t at nesting x c b)
  where
    go : Opening nesting x → ⊥
    go (less i) = differs x 60 c c h (ap (λ y. y ∷ c) i)
    go (ampersand l e es i j) = differs x 38 c c k (ap (λ y. y ∷ c) j)

pub not_within : (l : ℕ) (e : Element) (es : List Element) → before ≡ within l e es → ⊥
not_within l e es h = cc

pub not_inside : (l : ℕ) (root e : Element) (es : List Element) → behind root ≡ within l e es → ⊥
not_inside l root e es h = cc

-- outside the root each begins with `<`
pub only_less_before : (N : ℕ) (t : Element) (at x : ℕ) (c : List ℕ) → (x == 60) ≡ false → Begun N t at before (x ∷ c) → ⊥
only_less_before N t at x c h b = go (begun_opening N t at before x c b)
  where
    go : Opening before x → ⊥
    go (less i) = differs x 60 c c h (ap (λ y. y ∷ c) i)
    go (ampersand l e es i j) = not_within l e es i

pub only_less_behind : (N : ℕ) (t : Element) (at x : ℕ) (root : Element) (c : List ℕ) → (x == 60) ≡ false → Begun N t at (behind root) (x ∷ c) → ⊥
only_less_behind N t at x root c h b = go (begun_opening N t at (behind root) x c b)
  where
    go : Opening (behind root) x → ⊥
    go (less i) = differs x 60 c c h (ap (λ y. y ∷ c) i)
    go (ampersand l e es i j) = not_inside l root e es i

-- and in content with `<` or `&`
pub no_markup : (N : ℕ) (t : Element) (levels : ℕ) (p : Element) (outer : List Element) (x : ℕ) (c : List ℕ) → (x == 60) ≡ false → (x == 38) ≡ false
    → Marked (BehindElement N t (suc levels) outer) N levels p (x ∷ c) → ⊥
no_markup N t levels p outer x c h k m = no_piece N t m.at (within levels p outer) x c h k (marked_begun N t levels m.at p outer (x ∷ c) m.offset m)
