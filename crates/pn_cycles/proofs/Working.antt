-- What is left to do, as marks change.
use Rattle.std.proofs.Common.{◌≡◌, ℕ, zero, suc, ◌+◌, ◌<◌, ◌≤◌, List, [], ◌∷◌, length, get_or, set, replicate, refl, sym, ap, subst, arith}
use Rattle.pn_cycles.specs.declared.search.Mark.{Mark}
use Rattle.pn_cycles.specs.declared.search.Mark.TheVariants.{New, Open, Done}
use Rattle.pn_cycles.specs.Searches.{mark_of, new_count, work_at, work_of}

-- a new node is opened
pub work_opened : (marks : List Mark) (edges : List (List ℕ)) (node at : ℕ) → node < length marks → node < length edges → mark_of marks node ≡ New → work_of (set marks node (Open at)) edges + (length (get_or edges node []) + 2) ≡ work_of marks edges
work_opened [] edges node at a b fresh = absurd (omega arith)
work_opened (m ∷ marks) [] node at a b fresh = absurd (omega arith)
work_opened (m ∷ marks) (row ∷ edges) zero at a b fresh =
    let here : work_at m row ≡ length row + 2 = ap (λ x. work_at x row) fresh in
    omega (arith, here)
work_opened (m ∷ marks) (row ∷ edges) (suc node) at a b fresh =
    omega (arith, work_opened marks edges node at (omega arith) (omega arith) fresh)

work_at_less : (m m' : Mark) (row : List ℕ) → (m' ≡ New → m ≡ New) → work_at m' row ≤ work_at m row
work_at_less m New row keep = subst (λ x. length row + 2 ≤ work_at x row) (sym (keep refl)) (omega arith)
work_at_less m (Open at) row keep = omega arith
work_at_less m (Done at) row keep = omega arith

-- no node is new again
pub work_less : (marks marks' : List Mark) (edges : List (List ℕ)) → length marks' ≡ length marks → ((x : ℕ) → x < length marks → mark_of marks' x ≡ New → mark_of marks x ≡ New) → work_of marks' edges ≤ work_of marks edges
work_less [] [] edges same keep = omega arith
work_less [] (m' ∷ marks') edges same keep = absurd (omega arith)
work_less (m ∷ marks) [] edges same keep = absurd (omega arith)
work_less (m ∷ marks) (m' ∷ marks') [] same keep = omega arith
work_less (m ∷ marks) (m' ∷ marks') (row ∷ edges) same keep =
    omega (arith, work_at_less m m' row (keep 0 (omega arith)), work_less marks marks' edges (omega arith) (λ x h. keep (suc x) (omega arith)))

-- how many nodes are new, as a new one is opened
pub count_opened : (marks : List Mark) (node at : ℕ) → node < length marks → mark_of marks node ≡ New → suc (new_count (set marks node (Open at))) ≡ new_count marks
count_opened [] node at within fresh = absurd (omega arith)
count_opened (New ∷ marks) zero at within fresh = refl
count_opened (Open i ∷ marks) zero at within fresh = absurd cc
count_opened (Done i ∷ marks) zero at within fresh = absurd cc
count_opened (New ∷ marks) (suc node) at within fresh = ap suc (count_opened marks node at (omega arith) fresh)
count_opened (Open i ∷ marks) (suc node) at within fresh = count_opened marks node at (omega arith) fresh
count_opened (Done i ∷ marks) (suc node) at within fresh = count_opened marks node at (omega arith) fresh

-- the same nodes are new
pub count_same : (marks marks' : List Mark) → length marks' ≡ length marks → ((x : ℕ) → x < length marks → mark_of marks' x ≡ New → mark_of marks x ≡ New) → ((x : ℕ) → x < length marks → mark_of marks x ≡ New → mark_of marks' x ≡ New) → new_count marks' ≡ new_count marks
count_same [] [] same back on = refl
count_same [] (m' ∷ marks') same back on = absurd (omega arith)
count_same (m ∷ marks) [] same back on = absurd (omega arith)
count_same (m ∷ marks) (m' ∷ marks') same back on =
    step m m' (back 0 (omega arith)) (on 0 (omega arith)) (count_same marks marks' (omega arith) (λ x h. back (suc x) (omega arith)) (λ x h. on (suc x) (omega arith)))
  where
    step : (n n' : Mark) → (n' ≡ New → n ≡ New) → (n ≡ New → n' ≡ New) → new_count marks' ≡ new_count marks → new_count (n' ∷ marks') ≡ new_count (n ∷ marks)
    step New New b o rest = ap suc rest
    step New (Open i) b o rest = absurd (let e = o refl in cc)
    step New (Done i) b o rest = absurd (let e = o refl in cc)
    step (Open i) New b o rest = absurd (let e = b refl in cc)
    step (Open i) (Open j) b o rest = rest
    step (Open i) (Done j) b o rest = rest
    step (Done i) New b o rest = absurd (let e = b refl in cc)
    step (Done i) (Open j) b o rest = rest
    step (Done i) (Done j) b o rest = rest

-- no node is new
pub count_none : (marks : List Mark) → ((x : ℕ) → x < length marks → mark_of marks x ≡ New → ⊥) → new_count marks ≡ 0
count_none [] none = refl
count_none (New ∷ marks) none = absurd (none 0 (omega arith) refl)
count_none (Open i ∷ marks) none = count_none marks (λ x h. none (suc x) (omega arith))
count_none (Done i ∷ marks) none = count_none marks (λ x h. none (suc x) (omega arith))

-- all nodes are new
pub count_all : (n : ℕ) → new_count (replicate n New) ≡ n
count_all zero = refl
count_all (suc n) = ap suc (count_all n)
