-- What is told of faults, part by part.
use Rattle.std.proofs.Common.{◌≡◌, ◌⊎◌, inl, inr, ℕ, ◌+◌, ◌<◌, ◌≤◌, Bool, true, false, cond, List, [], ◌∷◌, ◌++◌, length, take, get_or, Option, Some, None, refl, sym, ap, ◌∙◌, subst, arith}
use Rattle.std.specs.List.{slice_get}
use Rattle.std.proofs.lemmas.List.{length-take-le, take_all, take_more}
use Rattle.pn_carriers.proofs.PlaceLemmas.{get_left}
use Rattle.pn_names.proofs.DeclaredLemmas.{slice_get_at}
use Rattle.pn_partitions.proofs.TableLemmas.{slice_get_push}
use Rattle.pn_facts.proofs.Contained.{at_contains, contains_at, contains_nil}
use Rattle.pn_faults.specs.declared.fault.Fault.{Fault}
use Rattle.pn_faults.specs.Least.{lower, lower_of}
use Rattle.pn_faults.specs.Order.{comes_before}
use Rattle.pn_faults.specs.Walks.{StandsInSome}
use Rattle.pn_faults.proofs.WalkLemmas.{keeps_alike, keeps_both, keeps_nothing, keeps_one}
use Rattle.pn_objects.specs.declared.net.Net.{Net}
use Rattle.pn_pages.specs.Linking.{AreApart, AddsFaults}

pub same_some : {X : Type 0} (x y : X) → Some x ≡ Some y → x ≡ y
same_some x y e = cc

-- the lower of two is one of them
either_lower : (old : Option Fault) (g f : Fault) → lower old (Some g) ≡ Some f → (old ≡ Some f) ⊎ (g ≡ f)
either_lower None g f is = inr (same_some g f is)
either_lower (Some h) g f is = step (comes_before g h) is
  where
    step : (b : Bool) → Some (cond b g h) ≡ Some f → (Some h ≡ Some f) ⊎ (g ≡ f)
    step true e = inr (same_some g f e)
    step false e = inl e

-- of two nothing is the lower only where both are nothing
pub none_lower : (a b : Option Fault) → lower a b ≡ None → (a ≡ None) × (b ≡ None)
none_lower None b is = (refl, is)
none_lower (Some f) None is = absurd (let bad : Some f ≡ None = is in cc)
none_lower (Some f) (Some g) is = absurd (let bad : Some (lower_of f g) ≡ None = is in cc)

module _ (n : Net) where
  -- no fault of the kind stands
  pub tells_nothing : (P : Fault → Type 0) (old : Option Fault) → (AreApart n → (f : Fault) → P f → ⊥) → AddsFaults n P old old
  tells_nothing P old none = record { told = λ f is. inl is; kept = λ is. is; keeps = λ apart. keeps_nothing P old (none apart) }

  -- one fault of the kind stands, and no other
  pub tells_one : (P : Fault → Type 0) (f : Fault) (old new : Option Fault) → P f → ((g : Fault) → P g → g ≡ f) → new ≡ lower old (Some f) → AddsFaults n P old new
  tells_one P f old new p only is = record {
    told = λ g told. elim (either_lower old f g (sym is ∙ told)) [ inl before ↦ inl before | inr same ↦ inr (subst P same p) ];
    kept = λ none. (none_lower old (Some f) (sym is ∙ none)).0;
    keeps = λ apart. keeps_one P f old new p only is;
  }

  -- one kind and then another
  pub tells_both : (P Q : Fault → Type 0) (a b c : Option Fault) → AddsFaults n P a b → AddsFaults n Q b c → AddsFaults n (λ f. P f ⊎ Q f) a c
  tells_both P Q a b c p q = record {
    told = λ f is. elim (q.told f is) [
      | inl before ↦ elim (p.told f before) [ inl early ↦ inl early | inr here ↦ inr (inl here) ]
      | inr here ↦ inr (inr here)
    ];
    kept = λ none. p.kept (q.kept none);
    keeps = λ apart. keeps_both P Q a b c (p.keeps apart) (q.keeps apart);
  }

  pub tells_alike : (P Q : Fault → Type 0) (old new : Option Fault) → ((f : Fault) → P f → Q f) → ((f : Fault) → Q f → P f) → AddsFaults n P old new → AddsFaults n Q old new
  tells_alike P Q old new to from tells = record {
    told = λ f is. elim (tells.told f is) [ inl before ↦ inl before | inr here ↦ inr (to f here) ];
    kept = tells.kept;
    keeps = λ apart. keeps_alike P Q old new to from (tells.keeps apart);
  }

-- ---- loops

-- one of these has a fault, at its place
abbrev pub StandsAtSome : {X : Type 0} → (ℕ → X → Fault → Type 0) → List X → Fault → Type 0
StandsAtSome {X} P xs f = (k : ℕ) × (x : X) × (slice_get xs k ≡ Some x) × P k x f

module _ {X : Type 0} (n : Net) where
  at_more : (P : ℕ → X → Fault → Type 0) (xs : List X) (x : X) (f : Fault) → StandsAtSome P xs f ⊎ P (length xs) x f → StandsAtSome P (xs ++ x ∷ []) f
  at_more P xs x f (inl (k, y, at, has)) = (k, y, get_left xs (x ∷ []) k y at, has)
  at_more P xs x f (inr has) = (length xs, x, slice_get_at xs x [], has)

  at_before : (P : ℕ → X → Fault → Type 0) (xs : List X) (x : X) (f : Fault) → StandsAtSome P (xs ++ x ∷ []) f → StandsAtSome P xs f ⊎ P (length xs) x f
  at_before P xs x f (k, y, at, has) = elim (slice_get_push xs x k y at) [
    | inl before ↦ inl (k, y, before, has)
    | inr last ↦ inr (subst (λ z. P (length xs) z f) (sym last.1) (subst (λ m. P m y f) last.0 has))
  ]

  -- one more, which stands at its place
  pub tells_at : (P : ℕ → X → Fault → Type 0) (xs : List X) (i : ℕ) (x : X) (a b c : Option Fault) → i < length xs → x ≡ get_or xs i x
      → AddsFaults n (StandsAtSome P (take i xs)) a b → AddsFaults n (P i x) b c → AddsFaults n (StandsAtSome P (take (i + 1) xs)) a c
  tells_at P xs i x a b c small is so_far next =
      let number : length (take i xs) ≡ i = length-take-le i xs (omega (arith, small)) in
      subst (λ ys. AddsFaults n (StandsAtSome P ys) a c) (sym (take_more xs i x small ∙ ap (λ y. take i xs ++ y ∷ []) (sym is)))
      (tells_alike n (λ f. StandsAtSome P (take i xs) f ⊎ P (length (take i xs)) x f) (StandsAtSome P (take i xs ++ x ∷ [])) a c (at_more P (take i xs) x) (at_before P (take i xs) x)
      (tells_both n (StandsAtSome P (take i xs)) (P (length (take i xs)) x) a b c so_far (subst (λ m. AddsFaults n (P m x) b c) (sym number) next)))

  pub tells_all : (P : ℕ → X → Fault → Type 0) (xs : List X) (i : ℕ) (a b : Option Fault) → length xs ≤ i → AddsFaults n (StandsAtSome P (take i xs)) a b → AddsFaults n (StandsAtSome P xs) a b
  tells_all P xs i a b past so_far = subst (λ ys. AddsFaults n (StandsAtSome P ys) a b) (take_all i xs past) so_far

  pub tells_none : (P : ℕ → X → Fault → Type 0) (a : Option Fault) → AddsFaults n (StandsAtSome P []) a a
  tells_none P a = tells_nothing n (StandsAtSome P []) a (λ apart f (k, x, at, has). contains_nil x (contains_at [] k x at))

  -- likewise where places don't matter
  to_some : (P : X → Fault → Type 0) (xs : List X) (f : Fault) → StandsAtSome (λ k. P) xs f → StandsInSome P xs f
  to_some P xs f (k, x, at, has) = (x, contains_at xs k x at, has)

  of_some : (P : X → Fault → Type 0) (xs : List X) (f : Fault) → StandsInSome P xs f → StandsAtSome (λ k. P) xs f
  of_some P xs f (x, c, has) = let at = at_contains xs x c in (at.0, x, at.1, has)

  pub tells_in : (P : X → Fault → Type 0) (xs : List X) (a b : Option Fault) → AddsFaults n (StandsAtSome (λ k. P) xs) a b → AddsFaults n (StandsInSome P xs) a b
  tells_in P xs a b = tells_alike n (StandsAtSome (λ k. P) xs) (StandsInSome P xs) a b (to_some P xs) (of_some P xs)
