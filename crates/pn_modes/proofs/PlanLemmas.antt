-- Parts and arcs with the variables that they need.
use Rattle.std.proofs.Common.{◌≡◌, inl, inr, ℕ, List, [], ◌∷◌, ◌++◌, Option, Some, IfSome, sym, ◌∙◌, subst}
use Rattle.std.specs.List.{Contains, slice_get}
use Rattle.std.proofs.lemmas.List.Elements.{Contains-push_cases}
use Rattle.pn_eval.specs.Assignments.{Covers}
use Rattle.pn_marking.specs.Known.{IsKnownArc}
use Rattle.pn_net.specs.Labels.{said}
use Rattle.pn_net.specs.declared.flat.Flat.{Flat}
use Rattle.pn_net.specs.declared.flat.FlatArc.{FlatArc}
use Rattle.pn_syntax.specs.declared.term.Term.{Term}

-- the inscription of a known arc
pub known_at : (f : Flat) (vars : List ℕ) (n : ℕ) (a : FlatArc) → slice_get f.arcs n ≡ Some a → IsKnownArc f vars n → IfSome (said a.arc.inscription) (Covers f.declarations vars)
known_at f vars n a at (b, at', covers) =
    let both : Some b ≡ Some a = sym at' ∙ at in
    let same : b ≡ a = cc in
    subst (λ (x : FlatArc). IfSome (said x.arc.inscription) (Covers f.declarations vars)) same covers

pub known_by : (f : Flat) (vars : List ℕ) (n : ℕ) (a : FlatArc) → slice_get f.arcs n ≡ Some a → (o : Option Term) → said a.arc.inscription ≡ o → IfSome o (Covers f.declarations vars) → IsKnownArc f vars n
known_by f vars n a at o is covers = (a, at, subst (λ e. IfSome e (Covers f.declarations vars)) (sym is) covers)

-- one more thing in a list of which each has P
pub each_pushed : {X : Type 0} (P : X → Type 0) (xs ys : List X) (y : X) → ys ≡ xs ++ y ∷ [] → ((x : X) → Contains xs x → P x) → P y → (x : X) → Contains ys x → P x
each_pushed P xs ys y is each own x there =
    elim (Contains-push_cases xs y x (subst (λ zs. Contains zs x) is there)) [ inl before ↦ each x before | inr same ↦ subst P same own ]
