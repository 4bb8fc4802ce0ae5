-- What an element has to have so that it has no fault of shape, for lists of kids that are put together.
use Rattle.std.proofs.Common.{◌≡◌, ℕ, Bool, true, false, cond, ◌==◌, List, [], ◌∷◌, ◌++◌, map, length, Some, None, refl, ap, ◌∙◌, arith}
use Rattle.std.specs.List.{AllByRecursion}
use Rattle.pn_faults.specs.declared.reason.Reason.{Reason}
use Rattle.pn_operators.specs.declared.kind.Kind.{Kind}
use Rattle.pn_operators.specs.declared.kind.Kind.TheVariants as kind
use Rattle.pn_tree.specs.declared.element.Element.{Element}
use Rattle.pn_tree.specs.declared.element.Child.{Child}
use Rattle.pn_tree.specs.declared.element.Child.TheVariants as children
use Rattle.pn_tree.proofs.ElementLemmas.{out_element, out_text}
use Rattle.pn_shape.specs.Attributes.{unless}
use Rattle.pn_shape.specs.Faults.{own_text, layer_text, IsShaped}
use Rattle.pn_shape.specs.Numbers.{address_of, net_kind}
use Rattle.pn_shape.specs.Rules.{Saying}
use Rattle.pn_shape.specs.Shaped.{IsPlaced}
use Rattle.pn_shape.specs.Spots.{spot_in, is_at, stands_layer, stands_in, filled}
use Rattle.pn_shape.specs.declared.search.Spot.{Spot}
use Rattle.pn_shape.proofs.PlaceLemmas.{placed_element}

-- nothing is wrong where the test holds
pub right : (b : Bool) (r : Reason) → b ≡ true → unless b r ≡ None
right b r is = ap (λ x. unless x r) is

-- the type of the nets of a kind names it
pub kind_named : (k : Kind) → net_kind (address_of k) ≡ Some k
kind_named kind.PtNet = refl
kind_named kind.Symmetric = refl
kind_named kind.HighLevel = refl

-- an element stands in a place of a row without a fault of shape
abbrev pub FillsPlace : Kind → Saying → ℕ → Element → Type 0
FillsPlace k says i x = (s : Spot) × (spot_in k x.name 0 says.slots ≡ Some s) × (s.place ≡ i) × IsShaped k s.tag x

abbrev pub as_kids : List Element → List Child
as_kids xs = map children.Element xs

pub both_all : {X : Type 0} (P : X → Type 0) (xs ys : List X) → AllByRecursion P xs → AllByRecursion P ys → AllByRecursion P (xs ++ ys)
both_all P [] ys h k = k
both_all P (x ∷ xs) ys h k = (h.0, both_all P xs ys h.1 k)

pub all_placed : (k : Kind) (says : Saying) (i : ℕ) (xs : List Element) → AllByRecursion (FillsPlace k says i) xs → AllByRecursion (IsPlaced k says) (as_kids xs)
all_placed k says i [] h = tt
all_placed k says i (x ∷ xs) h = (placed_element k says x h.0.0 h.0.1 h.0.3, all_placed k says i xs h.1)

abbrev one_of : Bool → ℕ
one_of b = cond b 1 0

-- as many of them stand in each place as there are, in their own, and none in any other
pub all_filled : (k : Kind) (says : Saying) (i j : ℕ) (xs : List Element) → AllByRecursion (FillsPlace k says i) xs → filled k says.slots j (as_kids xs) ≡ cond (i == j) (length xs) 0
all_filled k says i j [] h = step (i == j)
  where
    none : ℕ
    none = 0

    step : (b : Bool) → none ≡ cond b none none
    step true = refl
    step false = refl
all_filled k says i j (x ∷ xs) h = step (i == j) (all_filled k says i j xs h.1) stands
  where
    stands : stands_in k says.slots j (children.Element x) ≡ (i == j)
    stands = ap (stands_layer k says.slots j) (out_element x) ∙ (ap (is_at j) h.0.1 ∙ ap (λ n. n == j) h.0.2)

    step : (b : Bool) → filled k says.slots j (as_kids xs) ≡ cond b (length xs) 0 → stands_in k says.slots j (children.Element x) ≡ b → filled k says.slots j (as_kids (x ∷ xs)) ≡ cond b (length (x ∷ xs)) 0
    step true rest here = omega (arith, rest, ap one_of here)
    step false rest here = omega (arith, rest, ap one_of here)

-- elements have no characters of their own
pub no_text : (xs : List Element) → own_text (as_kids xs) ≡ []
no_text [] = refl
no_text (x ∷ xs) = ap (λ l. layer_text l ++ own_text (as_kids xs)) (out_element x) ∙ no_text xs

pub one_text : (t : List ℕ) → own_text (children.Text t ∷ []) ≡ t ++ []
one_text t = ap (λ l. layer_text l ++ []) (out_text t)
