-- The search before its first step.
use Rattle.std.proofs.Common.{◌≡◌, ℕ, zero, suc, List, [], length, replicate, None, Bool, false, refl, sym, ◌∙◌, subst, arith}
use Rattle.std.proofs.lemmas.List.{length-replicate}
use Rattle.pn_cycles.specs.declared.search.Mark.{Mark}
use Rattle.pn_cycles.specs.declared.search.Mark.TheVariants.{New, Open, Done}
use Rattle.pn_cycles.specs.declared.search.Group.{Group}
use Rattle.pn_cycles.specs.Searches.{mark_of, IsUnderWay}
use Rattle.pn_cycles.proofs.Working.{count_all}

all_new : (n x : ℕ) → mark_of (replicate n New) x ≡ New
all_new zero x = refl
all_new (suc n) zero = refl
all_new (suc n) (suc x) = all_new n x

none_open : (n x at : ℕ) → mark_of (replicate n New) x ≡ Open at → ⊥
none_open n x at m = let a = all_new n x in cc

none_done : (n x at : ℕ) → mark_of (replicate n New) x ≡ Done at → ⊥
none_done n x at m = let a = all_new n x in cc

at_start : (edges : List (List ℕ)) (n : ℕ) → n ≡ length edges → IsUnderWay edges None (replicate n New) [] [] [] [] (replicate n false)
at_start edges n size = record {
  marked = length-replicate n New ∙ size;
  told = length-replicate n false ∙ size;
  stacked = λ at h. absurd (omega arith);
  stacked_at = λ x at m. absurd (none_open n x at m);
  listed = λ at h. absurd (omega arith);
  listed_at = λ x at m. absurd (none_done n x at m);
  grouped = (refl, refl);
  counted = omega (arith, count_all n);
  forward = λ a b below h. absurd (omega arith);
  closed = λ x at end m edge. absurd (none_done n x at m);
  cycles = λ x at m. absurd (none_done n x at m);
}

pub begins : (edges : List (List ℕ)) (n : ℕ) (marks : List Mark) (stack pending : List ℕ) (path : List Group) (nodes : List ℕ) (cyclic : List Bool) → n ≡ length edges → marks ≡ replicate n New → stack ≡ [] → pending ≡ [] → path ≡ [] → nodes ≡ [] → cyclic ≡ replicate n false → IsUnderWay edges None marks stack pending path nodes cyclic
begins edges n marks stack pending path nodes cyclic size marks_are stack_is pending_is path_is nodes_are cyclic_is =
    subst (λ xs. IsUnderWay edges None xs stack pending path nodes cyclic) (sym marks_are)
    (subst (λ xs. IsUnderWay edges None (replicate n New) xs pending path nodes cyclic) (sym stack_is)
    (subst (λ xs. IsUnderWay edges None (replicate n New) [] xs path nodes cyclic) (sym pending_is)
    (subst (λ xs. IsUnderWay edges None (replicate n New) [] [] xs nodes cyclic) (sym path_is)
    (subst (λ xs. IsUnderWay edges None (replicate n New) [] [] [] xs cyclic) (sym nodes_are)
    (subst (λ xs. IsUnderWay edges None (replicate n New) [] [] [] [] xs) (sym cyclic_is) (at_start edges n size))))))
