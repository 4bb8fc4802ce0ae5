-- What a builder's calls make of the kids of an element.
use Rattle.std.proofs.Common.{◌≡◌, ℕ, Result, Ok, Err, IfOk, List, [], ◌∷◌, ◌++◌, refl, ap}
use Rattle.pn_tree.specs.Building.{joined, joined_last}
use Rattle.pn_tree.specs.declared.element.Element.{Element}
use Rattle.pn_tree.specs.declared.element.Child.{Child}
use Rattle.pn_tree.specs.declared.element.Child.TheVariants as children
use Rattle.pn_tree.specs.declared.element.Child.TheViews.{out-Child}
use Rattle.pn_tree.proofs.ElementLemmas.{out_element, out_text}

-- only the last kid matters
pub joined-push : (more : List ℕ) (ks : List Child) (k : Child) → joined more (ks ++ (k ∷ [])) ≡ ks ++ joined_last more k (out-Child k)
joined-push more [] k = refl
joined-push more (x ∷ []) k = refl
joined-push more (x ∷ y ∷ ks) k = ap (λ l. x ∷ l) (joined-push more (y ∷ ks) k)

pub joined_last-text : (more t : List ℕ) → joined_last more (children.Text t) (out-Child (children.Text t)) ≡ children.Text (t ++ more) ∷ []
joined_last-text more t = ap (joined_last more (children.Text t)) (out_text t)

pub joined_last-element : (more : List ℕ) (e : Element)
    → joined_last more (children.Element e) (out-Child (children.Element e)) ≡ children.Element e ∷ children.Text more ∷ []
joined_last-element more e = ap (joined_last more (children.Element e)) (out_element e)

pub if_ok_then : {T E : Type 0} (r : Result T E) (P Q : T → Type 0) → ((t : T) → P t → Q t) → IfOk r P → IfOk r Q
if_ok_then (Ok t) P Q f p = f t p
if_ok_then (Err e) P Q f p = p
