-- The page that an element spells, by the pages in it.
use Rattle.std.proofs.Common.{◌≡◌, ℕ, zero, suc, ◌<◌, ◌≤◌, Bool, true, false, List, [], ◌∷◌, map, codes, refl, ap, ◌∙◌, arith}
use Rattle.std.specs.List.{filter}
use Rattle.pn_tree.specs.Depth.{depth_of}
use Rattle.pn_tree.proofs.DepthLemmas.{some_levels}
use Rattle.pn_tree.specs.declared.element.Element.{Element}
use Rattle.pn_spelling.specs.Parts.{child_elements, children_named, has_name}
use Rattle.pn_spelling.specs.ReadNets.{page_with, page_read, page_within}
use Rattle.pn_spelling.proofs.PartLemmas.{agree_inside}

-- what is the same of all things of a list is the same of those that pass a test
agree_filtered : {A X : Type 0} (f g : A → X) (p : A → Bool) (xs : List A) → map f xs ≡ map g xs → map f (filter p xs) ≡ map g (filter p xs)
agree_filtered f g p [] same = refl
agree_filtered f g p (x ∷ xs) same = let rest : map f xs ≡ map g xs = cc in by (p x) refl (cc) (agree_filtered f g p xs rest)
  where
    by : (b : Bool) → p x ≡ b → f x ≡ g x → map f (filter p xs) ≡ map g (filter p xs) → map f (filter p (x ∷ xs)) ≡ map g (filter p (x ∷ xs))
    by true is own rest = rw is (cc)
    by false is own rest = rw is rest

-- what is the same of all elements of fewer levels is the same of those of a name in an element
pub agree_named : {X : Type 0} (name : List ℕ) (f g : Element → X) (e : Element) → ((x : Element) → depth_of x < depth_of e → f x ≡ g x)
    → map f (children_named name e) ≡ map g (children_named name e)
agree_named name f g e same = agree_filtered f g (has_name name) (child_elements e) (agree_inside f g e same)

-- more levels than an element has change nothing
pub page_levels : (m n : ℕ) (e : Element) → depth_of e ≤ m → depth_of e ≤ n → page_within m e ≡ page_within n e
unfolding page_within
page_levels zero n e p q = absurd (omega (arith, some_levels e))
page_levels (suc m) zero e p q = absurd (omega (arith, some_levels e))
page_levels (suc m) (suc n) e p q =
    ap (λ pages. page_with pages e)
    (agree_named (codes "page") (page_within m) (page_within n) e (λ (x : Element) (less : depth_of x < depth_of e). page_levels m n x (omega arith) (omega arith)))

pub page_levels_next : (n : ℕ) (e : Element) → page_within (suc n) e ≡ page_with (map (page_within n) (children_named (codes "page") e)) e
unfolding page_within
page_levels_next n e = refl

-- a page is that of the pages in it
pub page_read_is : (e : Element) → page_read e ≡ page_with (map page_read (children_named (codes "page") e)) e
page_read_is e =
    page_levels (depth_of e) (suc (depth_of e)) e (omega arith) (omega arith) ∙ page_levels_next (depth_of e) e
    ∙ ap (λ pages. page_with pages e)
    (agree_named (codes "page") (page_within (depth_of e)) page_read e
    (λ (x : Element) (less : depth_of x < depth_of e). page_levels (depth_of e) (depth_of x) x (omega arith) (omega arith)))
