-- What a byte has to keep, and how lists begin.
use Rattle.std.proofs.Common.{◌≡◌, ℕ, suc, ◌+◌, Bool, true, false, cond, ◌==◌, List, [], ◌∷◌, length, Option, Some, None, sym, ap, ◌∙◌, subst}
use Rattle.std.proofs.lemmas.Bool.{false≢true, eqb-true, eqb-false, cond_both}
use Rattle.pn_tree.specs.declared.element.Element.{Element}
use Rattle.pn_scan.specs.State.{State}
use Rattle.pn_scan.specs.Rest.{Rest}

-- the meaning of the state that comes next, if one does
abbrev pub Case : Option State → ℕ → Element → List ℕ → Type 0
Case None N t c = ⊥
Case (Some s) N t c = Rest s N t c

-- what may come from x on is what the answer o says of the bytes behind x
pub record Law (R : ℕ → Element → List ℕ → Type 0) (at x : ℕ) (o : Option State) : Type 0 where
  pub goes : (N : ℕ) (t : Element) (c : List ℕ) → at + suc (length c) ≡ N → R N t (x ∷ c) → Case o N t c
  pub comes : (N : ℕ) (t : Element) (c : List ℕ) → at + suc (length c) ≡ N → Case o N t c → R N t (x ∷ c)

-- the two answers of a test
pub law_if : (R : ℕ → Element → List ℕ → Type 0) (at x : ℕ) (b : Bool) (o p : Option State) → (b ≡ true → Law R at x o) → (b ≡ false → Law R at x p) → Law R at x (cond b o p)
law_if R at x b o p yes_law no_law = cond_both b o p (Law R at x) yes_law no_law

-- where nothing goes on
pub law_none : (R : ℕ → Element → List ℕ → Type 0) (at x : ℕ) → ((N : ℕ) (t : Element) (c : List ℕ) → R N t (x ∷ c) → ⊥) → Law R at x None
law_none R at x f = record { goes = λ N t c w r. f N t c r; comes = λ N t c w r. absurd r }

-- where the offset doesn't matter
pub law_some : (R : ℕ → Element → List ℕ → Type 0) (at x : ℕ) (s : State) → ((N : ℕ) (t : Element) (c : List ℕ) → R N t (x ∷ c) → Rest s N t c)
    → ((N : ℕ) (t : Element) (c : List ℕ) → Rest s N t c → R N t (x ∷ c)) → Law R at x (Some s)
law_some R at x s f g = record { goes = λ N t c w r. f N t c r; comes = λ N t c w r. g N t c r }

-- a law at a byte that a test names
pub law_at : (R : ℕ → Element → List ℕ → Type 0) (at x k : ℕ) (o : Option State) → (x == k) ≡ true → Law R at k o → Law R at x o
law_at R at x k o h l = subst (λ y. Law R at y o) (sym (eqb-true x k h)) l

pub head_is : (x y : ℕ) (c d : List ℕ) → x ∷ c ≡ y ∷ d → x ≡ y
head_is x y c d h = cc

pub tail_is : (x y : ℕ) (c d : List ℕ) → x ∷ c ≡ y ∷ d → c ≡ d
tail_is x y c d h = cc

pub no_head : (x : ℕ) (c : List ℕ) → [] ≡ x ∷ c → ⊥
no_head x c h = cc

pub differs : (x k : ℕ) (c d : List ℕ) → (x == k) ≡ false → x ∷ c ≡ k ∷ d → ⊥
differs x k c d h e = eqb-false x k h (head_is x k c d e)

-- a test that answers differently at the head of one list and of the other
pub apart : (p : ℕ → Bool) (x k : ℕ) (c d : List ℕ) → p x ≡ true → p k ≡ false → x ∷ c ≡ k ∷ d → ⊥
apart p x k c d h n e = false≢true (sym n ∙ ap p (sym (head_is x k c d e)) ∙ h)
