-- Look-ups by ids where the first giver of each is kept.
use Rattle.std.proofs.Common.{◌≡◌, ◌+◌, ℕ, suc, Bool, true, false, List, [], ◌∷◌, ◌++◌, length, Option, None, Some, is_none, IsTrue, not, if◌then◌else◌, refl, sym, ap, ◌∙◌, arith}
use Rattle.std.specs.Option.{option_or}
use Rattle.std.specs.Str.{bytes_eq}
use Rattle.std.proofs.lemmas.Bool.{false≢true}
use Rattle.std.proofs.lemmas.Slice.Eq.{bytes_eq-Decides}
use Rattle.pn_ids.specs.Names.{named_in}
use Rattle.pn_objects.specs.declared.object.Transition.{Transition}
use Rattle.pn_net.specs.Typed.{transitions_from}

named_last : {A : Type 0} (ns : List (List ℕ × A)) (n : List ℕ × A) (id : List ℕ) → named_in (ns ++ n ∷ []) id ≡ option_or (named_in ns id) (named_in (n ∷ []) id)
named_last [] n id = refl
named_last (m ∷ ns) n id = step (bytes_eq id m.0) (named_last ns n id)
  where
    step : (b : Bool) → named_in (ns ++ n ∷ []) id ≡ option_or (named_in ns id) (named_in (n ∷ []) id)
        → (if b then Some m.1 else named_in (ns ++ n ∷ []) id) ≡ option_or (if b then Some m.1 else named_in ns id) (named_in (n ∷ []) id)
    step true is = refl
    step false is = is

pub transitions_last : (i n : ℕ) (ts : List Transition) (t : Transition) → n ≡ i + length ts → transitions_from i (ts ++ t ∷ []) ≡ transitions_from i ts ++ (t.id, n) ∷ []
transitions_last i n [] t is = ap (λ k. (t.id, k) ∷ []) (omega (arith, is))
transitions_last i n (x ∷ ts) t is = ap (λ more. (x.id, i) ∷ more) (transitions_last (suc i) n ts t (omega (arith, is)))

-- an id is noted where it is new; the look-ups are those of all that were given
pub noted_one : {A : Type 0} (old new given : List (List ℕ × A)) (n : List ℕ × A) (fresh : Bool) → ((id : List ℕ) → named_in old id ≡ named_in given id) → fresh ≡ is_none (named_in old n.0) → (IsTrue fresh → new ≡ old ++ n ∷ []) → (IsTrue (not fresh) → new ≡ old)
    → (id : List ℕ) → named_in new id ≡ named_in (given ++ n ∷ []) id
noted_one {A} old new given n true same is noted kept id =
    ap (λ ns. named_in ns id) (noted refl) ∙ named_last old n id ∙ ap (λ o. option_or o (named_in (n ∷ []) id)) (same id) ∙ sym (named_last given n id)
noted_one {A} old new given n false same is noted kept id =
    ap (λ ns. named_in ns id) (kept refl) ∙ same id ∙ step (bytes_eq id n.0) refl (named_in given id) refl ∙ sym (named_last given n id)
  where
    step : (b : Bool) → bytes_eq id n.0 ≡ b → (o : Option A) → named_in given id ≡ o → o ≡ option_or o (if b then Some n.1 else None)
    step b equal (Some a) at = refl
    step false equal None at = refl
    step true equal None at = absurd (false≢true (is ∙ ap is_none (same n.0 ∙ ap (named_in given) (sym ((bytes_eq-Decides id n.0).0 equal)) ∙ at)))
