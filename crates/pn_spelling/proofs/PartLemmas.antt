-- The elements among kids: they have fewer levels than the element around them, and are told one by one.
use Rattle.std.proofs.Common.{◌≡◌, ℕ, suc, ◌+◌, ◌<◌, ◌≤◌, Bool, true, false, cond, List, [], ◌∷◌, ◌++◌, append_assoc, map, drop, Option, Some, refl, sym, ap, ◌∙◌, arith}
use Rattle.std.specs.List.{cons_option, filter, find, slice_get}
use Rattle.std.specs.Option.{option_map, option_or}
use Rattle.std.proofs.lemmas.Option.{slice_get-map}
use Rattle.pn_tree.specs.Depth.{depth_of, greatest, kid_depth}
use Rattle.pn_tree.specs.declared.element.Element.{Element}
use Rattle.pn_tree.specs.declared.element.Child.{Child}
use Rattle.pn_tree.specs.declared.element.Child.TheOpen as layer
use Rattle.pn_tree.specs.declared.element.Child.TheViews.{out-Child}
use Rattle.pn_tree.specs.declared.element.Child.TheVariants as children
use Rattle.pn_tree.proofs.CutLemmas.{drop_at}
use Rattle.pn_tree.proofs.ElementLemmas.{out_element, out_text}
use Rattle.pn_tree.proofs.DepthLemmas.{depth_is, kid_depth-element}
use Rattle.pn_shape.proofs.LevelLemmas.{kid_is}
use Rattle.pn_spelling.specs.Parts.{child_elements, element_in_layer, elements_among, first_child}

-- what is the same of all elements of at most so many levels is the same of those among kids of at most so many
agree_among : {X : Type 0} (f g : Element → X) (levels : ℕ) → ((x : Element) → depth_of x ≤ levels → f x ≡ g x) → (ks : List Child)
    → greatest (map kid_depth ks) ≤ levels → map f (elements_among ks) ≡ map g (elements_among ks)
agree_among f g levels same [] within = refl
agree_among f g levels same (k ∷ ks) within = on_kid (out-Child k) refl (agree_among f g levels same ks (omega arith))
  where
    on_kid : (l : layer.Child-F Child Element) → out-Child k ≡ l → map f (elements_among ks) ≡ map g (elements_among ks)
        → map f (elements_among (k ∷ ks)) ≡ map g (elements_among (k ∷ ks))
    on_kid (layer.Element x) is rest =
        let own : f x ≡ g x = same x (omega (arith, ap kid_depth (kid_is k x is), kid_depth-element x)) in
        let cons : elements_among (k ∷ ks) ≡ x ∷ elements_among ks = rw is refl in
        ap (map f) cons ∙ ap (λ y. y ∷ map f (elements_among ks)) own ∙ ap (λ ys. g x ∷ ys) rest ∙ sym (ap (map g) cons)
    on_kid (layer.Text t) is rest =
        let cons : elements_among (k ∷ ks) ≡ elements_among ks = rw is refl in
        ap (map f) cons ∙ rest ∙ sym (ap (map g) cons)

-- what is the same of all elements of fewer levels is the same of those in an element
pub agree_inside : {X : Type 0} (f g : Element → X) (e : Element) → ((x : Element) → depth_of x < depth_of e → f x ≡ g x) → map f (child_elements e) ≡ map g (child_elements e)
agree_inside f g e same =
    agree_among f g (greatest (map kid_depth e.kids)) (λ (x : Element) (within : depth_of x ≤ greatest (map kid_depth e.kids)). same x (omega (arith, depth_is e))) e.kids (omega arith)

-- the same of the first of them
pub agree_first : {X : Type 0} (f g : Element → X) (e : Element) → ((x : Element) → depth_of x < depth_of e → f x ≡ g x) → option_map f (first_child e) ≡ option_map g (first_child e)
agree_first f g e same =
    sym (slice_get-map f (child_elements e) 0) ∙ ap (λ xs. slice_get xs 0) (agree_inside f g e same) ∙ slice_get-map g (child_elements e) 0

-- an element among kids is the first of the elements from its place on
pub from_element : (ks : List Child) (i : ℕ) (x : Element) → slice_get ks i ≡ Some (children.Element x) → elements_among (drop i ks) ≡ x ∷ elements_among (drop (i + 1) ks)
from_element ks i x is =
    let number : suc i ≡ i + 1 = omega arith in
    let next : drop (suc i) ks ≡ drop (i + 1) ks = ap (λ n. drop n ks) number in
    ap elements_among (drop_at ks i (children.Element x) is)
    ∙ ap (λ l. cons_option (element_in_layer l) (elements_among (drop (suc i) ks))) (out_element x) ∙ ap (λ rest. x ∷ elements_among rest) next

-- a text among kids is no element
pub from_text : (ks : List Child) (i : ℕ) (t : List ℕ) → slice_get ks i ≡ Some (children.Text t) → elements_among (drop i ks) ≡ elements_among (drop (i + 1) ks)
from_text ks i t is =
    let number : suc i ≡ i + 1 = omega arith in
    let next : drop (suc i) ks ≡ drop (i + 1) ks = ap (λ n. drop n ks) number in
    ap elements_among (drop_at ks i (children.Text t) is)
    ∙ ap (λ l. cons_option (element_in_layer l) (elements_among (drop (suc i) ks))) (out_text t) ∙ ap elements_among next

-- what is made of elements one by one, where the next kid is one
pub gather_element : {X : Type 0} (f : Element → X) (ks : List Child) (i : ℕ) (x : Element) (whole all : List X) → whole ≡ all ++ map f (elements_among (drop i ks))
    → slice_get ks i ≡ Some (children.Element x) → whole ≡ (all ++ f x ∷ []) ++ map f (elements_among (drop (i + 1) ks))
gather_element f ks i x whole all so_far is =
    so_far ∙ ap (λ es. all ++ map f es) (from_element ks i x is) ∙ sym (append_assoc all (f x ∷ []) (map f (elements_among (drop (i + 1) ks))))

-- the same where it is a text
pub gather_text : {X : Type 0} (f : Element → X) (ks : List Child) (i : ℕ) (t : List ℕ) (whole all : List X) → whole ≡ all ++ map f (elements_among (drop i ks))
    → slice_get ks i ≡ Some (children.Text t) → whole ≡ all ++ map f (elements_among (drop (i + 1) ks))
gather_text f ks i t whole all so_far is = so_far ∙ ap (λ es. all ++ map f es) (from_text ks i t is)

-- the same of those of which a test holds, where it holds of the next
pub gather_passing : {X : Type 0} (f : Element → X) (test : Element → Bool) (ks : List Child) (i : ℕ) (x : Element) (whole all : List X)
    → whole ≡ all ++ map f (filter test (elements_among (drop i ks))) → slice_get ks i ≡ Some (children.Element x) → test x ≡ true
    → whole ≡ (all ++ f x ∷ []) ++ map f (filter test (elements_among (drop (i + 1) ks)))
gather_passing f test ks i x whole all so_far is passes =
    let rest = filter test (elements_among (drop (i + 1) ks)) in
    so_far ∙ ap (λ es. all ++ map f (filter test es)) (from_element ks i x is) ∙ ap (λ b. all ++ map f (cond b (x ∷ rest) rest)) passes
    ∙ sym (append_assoc all (f x ∷ []) (map f rest))

-- where it doesn't
pub gather_failing : {X : Type 0} (f : Element → X) (test : Element → Bool) (ks : List Child) (i : ℕ) (x : Element) (whole all : List X)
    → whole ≡ all ++ map f (filter test (elements_among (drop i ks))) → slice_get ks i ≡ Some (children.Element x) → test x ≡ false
    → whole ≡ all ++ map f (filter test (elements_among (drop (i + 1) ks)))
gather_failing f test ks i x whole all so_far is fails =
    let rest = filter test (elements_among (drop (i + 1) ks)) in
    so_far ∙ ap (λ es. all ++ map f (filter test es)) (from_element ks i x is) ∙ ap (λ b. all ++ map f (cond b (x ∷ rest) rest)) fails

-- and where the next kid is a text
pub gather_beside : {X : Type 0} (f : Element → X) (test : Element → Bool) (ks : List Child) (i : ℕ) (t : List ℕ) (whole all : List X)
    → whole ≡ all ++ map f (filter test (elements_among (drop i ks))) → slice_get ks i ≡ Some (children.Text t)
    → whole ≡ all ++ map f (filter test (elements_among (drop (i + 1) ks)))
gather_beside f test ks i t whole all so_far is = so_far ∙ ap (λ es. all ++ map f (filter test es)) (from_text ks i t is)

-- the first of which a test holds: it was found, or is among those that are left
pub find_passing : (test : Element → Bool) (ks : List Child) (i : ℕ) (x : Element) (whole : Option Element)
    → whole ≡ find test (elements_among (drop i ks)) → slice_get ks i ≡ Some (children.Element x) → test x ≡ true → whole ≡ Some x
find_passing test ks i x whole so_far is passes =
    so_far ∙ ap (find test) (from_element ks i x is) ∙ ap (λ b. cond b (Some x) (find test (elements_among (drop (i + 1) ks)))) passes

pub find_failing : (test : Element → Bool) (ks : List Child) (i : ℕ) (x : Element) (found whole : Option Element)
    → whole ≡ option_or found (find test (elements_among (drop i ks))) → slice_get ks i ≡ Some (children.Element x) → test x ≡ false
    → whole ≡ option_or found (find test (elements_among (drop (i + 1) ks)))
find_failing test ks i x found whole so_far is fails =
    let rest = find test (elements_among (drop (i + 1) ks)) in
    so_far ∙ ap (λ es. option_or found (find test es)) (from_element ks i x is) ∙ ap (λ b. option_or found (cond b (Some x) rest)) fails

pub find_beside : (test : Element → Bool) (ks : List Child) (i : ℕ) (t : List ℕ) (found whole : Option Element)
    → whole ≡ option_or found (find test (elements_among (drop i ks))) → slice_get ks i ≡ Some (children.Text t)
    → whole ≡ option_or found (find test (elements_among (drop (i + 1) ks)))
find_beside test ks i t found whole so_far is = so_far ∙ ap (λ es. option_or found (find test es)) (from_text ks i t is)
