-- The faults of sorts in a term, by its node and its parts; and what is known of those of the declarations.
use Rattle.std.proofs.Common.{◌≡◌, ◌<◌, ◌+◌, ◌⊎◌, inl, inr, ℕ, ℤ, ◌≤◌, int_lt, get_or, List, [], ◌∷◌, ◌++◌, length, take, Bool, true, false, cond, codes, Option, Some, None, refl, sym, ap, ◌∙◌, subst}
use Rattle.std.proofs.lemmas.Bool.{false≢true}
use Rattle.std.proofs.lemmas.List.{take_all}
use Rattle.std.proofs.lemmas.Option.{slice_get-get_or}
use Rattle.std.specs.List.{Contains, slice_get}
use Rattle.pn_facts.proofs.Contained.{contains_first, contains_nil, contains_one}
use Rattle.pn_faults.specs.declared.fault.Fault.{Fault}
use Rattle.pn_faults.specs.declared.reason.Reason.TheVariants as reasons
use Rattle.pn_faults.specs.Least.{lower, lower_of}
use Rattle.pn_faults.specs.Order.{comes_before, fault_at}
use Rattle.pn_faults.specs.Standing.{IsLeastOf}
use Rattle.pn_faults.specs.Walks.{KeepsLeast, StandsInSome}
use Rattle.pn_faults.proofs.LeastLemmas.{comes_before_none, lower-none, not_behind}
use Rattle.pn_faults.proofs.WalkLemmas as walks
use Rattle.pn_faults.proofs.WalkLemmas.{keeps_alike, keeps_nothing, keeps_one}
use Rattle.pn_operators.specs.declared.op.Op.{Op}
use Rattle.pn_resolve.specs.Standing.{StandsInSort}
use Rattle.pn_sorts.specs.Keeping.{IsRefusedFor}
use Rattle.pn_sorts.specs.Standing.{Stands}
use Rattle.pn_syntax.specs.declared.sort_expr.SortExpr.{SortExpr}
use Rattle.pn_syntax.specs.declared.declaration.Declaration.{Declaration}
use Rattle.pn_syntax.specs.declared.term.Term.{Term}
use Rattle.pn_syntax.specs.declared.term.TermNode.TheOpen as layer
use Rattle.pn_syntax.specs.declared.term.TermNode.TheVariants as nodes
use Rattle.pn_terms.specs.Terms.{IsPart, itself, inside, Layer, layer_of, parts_in, parts_of}
use Rattle.pn_terms.proofs.TermLemmas.{out_apply, out_element}
use Rattle.pn_checks.specs.Sorts.{IsEmptyRangeAt, KnowsDeclared, SortsStandAt, SortsStandIn}

-- a fault of the sorts in a term is one in its parts or of its node
stands_where : (items : List Declaration) (e x : Term) (f : Fault) → IsPart e x → SortsStandAt items (layer_of x) x.at f → StandsInSome (SortsStandIn items) (parts_of e) f ⊎ SortsStandAt items (layer_of e) e.at f
stands_where items e x f (itself _ _ same) h = inr (subst (λ y. SortsStandAt items (layer_of y) y.at f) same h)
stands_where items e x f (inside _ _ p c rest) h = inl (p, c, (x, rest, h))

stands_out : (items : List Declaration) (e : Term) (l : Layer) → layer_of e ≡ l → (f : Fault) → SortsStandIn items e f → StandsInSome (SortsStandIn items) (parts_in l) f ⊎ SortsStandAt items l e.at f
stands_out items e l is f (x, part, h) = subst (λ m. StandsInSome (SortsStandIn items) (parts_in m) f ⊎ SortsStandAt items m e.at f) is (stands_where items e x f part h)

stands_below : (items : List Declaration) (e : Term) (l : Layer) → layer_of e ≡ l → (f : Fault) → StandsInSome (SortsStandIn items) (parts_in l) f → SortsStandIn items e f
stands_below items e l is f (p, c, (x, part, h)) = (x, inside e x p (subst (λ m. Contains (parts_in m) p) (sym is) c) part, h)

-- a term without parts
pub of_leaf : (items : List Declaration) (e : Term) (l : Layer) → layer_of e ≡ l → parts_in l ≡ [] → (old new : Option Fault) → KeepsLeast (SortsStandAt items l e.at) old new → KeepsLeast (SortsStandIn items e) old new
of_leaf items e l is alone old new keeps =
    keeps_alike (SortsStandAt items l e.at) (SortsStandIn items e) old new
    (λ f h. (e, itself e e refl, subst (λ m. SortsStandAt items m e.at f) (sym is) h))
    (λ f h. elim (stands_out items e l is f h) [ inl some ↦ absurd (contains_nil some.0 (subst (λ xs. Contains xs some.0) alone some.1)) | inr own ↦ own ])
    keeps

-- a term whose node writes no sort
of_node : (items : List Declaration) (e : Term) (l : Layer) → layer_of e ≡ l → ((f : Fault) → SortsStandAt items l e.at f → ⊥) → (old new : Option Fault) → KeepsLeast (StandsInSome (SortsStandIn items) (parts_in l)) old new → KeepsLeast (SortsStandIn items e) old new
of_node items e l is none old new keeps =
    keeps_alike (StandsInSome (SortsStandIn items) (parts_in l)) (SortsStandIn items e) old new
    (stands_below items e l is)
    (λ f h. elim (stands_out items e l is f h) [ inl some ↦ some | inr own ↦ absurd (none f own) ])
    keeps

pub of_element : (items : List Declaration) (e : Term) (name : List ℕ) (arg p : Term) → e.node ≡ nodes.PartitionOf name arg → p ≡ arg → (old new : Option Fault) → KeepsLeast (SortsStandIn items p) old new → KeepsLeast (SortsStandIn items e) old new
of_element items e name arg p is given old new keeps =
    of_node items e (layer.PartitionOf name p) (out_element e.node name p (is ∙ ap (λ x. nodes.PartitionOf name x) (sym given))) (λ f h. h) old new
    (keeps_alike (SortsStandIn items p) (StandsInSome (SortsStandIn items) (p ∷ [])) old new
    (λ f h. (p, contains_first p [], h)) (λ f h. subst (λ q. SortsStandIn items q f) (contains_one p h.0 h.1) h.2) keeps)

pub of_args : (items : List Declaration) (e : Term) (op : Op) (args ps : List Term) → e.node ≡ nodes.Apply op args → ps ≡ args → (old new : Option Fault) → KeepsLeast (StandsInSome (SortsStandIn items) ps) old new → KeepsLeast (SortsStandIn items e) old new
of_args items e op args ps is given old new keeps =
    of_node items e (layer.Apply op ps) (out_apply e.node op ps (is ∙ ap (λ x. nodes.Apply op x) (sym given))) (λ f h. h) old new keeps

-- those of no things, of things and one more, and of all of them
pub of_none : {X : Type 0} (P : X → Fault → Type 0) (old : Option Fault) → KeepsLeast (StandsInSome P []) old old
of_none P old = (walks.all_none {A = Unit {0}} (λ x a. Unit {0}) (λ xs ys. Unit {0}) P old tt).least

pub of_more : {X : Type 0} (P : X → Fault → Type 0) (es all : List X) (e : X) → all ≡ es ++ e ∷ [] → (old mid new : Option Fault) → KeepsLeast (StandsInSome P es) old mid → KeepsLeast (P e) mid new → KeepsLeast (StandsInSome P all) old new
of_more P es all e is old mid new keeps one =
    (walks.all_step {A = Unit {0}} (λ x a. Unit {0}) (λ xs ys. Unit {0}) P es all e is true true refl [] (tt ∷ []) tt refl (Some tt) refl (λ _ _. tt) old mid new
    (record { answered = tt; least = keeps }) (record { answered = tt; least = one })).least

pub of_all : {X : Type 0} (P : X → Fault → Type 0) (es : List X) (i : ℕ) → length es ≤ i → (old new : Option Fault) → KeepsLeast (StandsInSome P (take i es)) old new → KeepsLeast (StandsInSome P es) old new
of_all P es i end old new keeps = subst (λ xs. KeepsLeast (StandsInSome P xs) old new) (take_all i es end) keeps

-- what a loop gets from a list stands there
pub got_there : {X : Type 0} (xs : List X) (i : ℕ) (x : X) → i < length xs → x ≡ get_or xs i x → slice_get xs i ≡ Some x
got_there xs i x small is = slice_get-get_or xs i x small ∙ ap (λ y. Some y) (sym is)

-- ---- what is known of the declarations

-- where one of two faults is kept that none of the declarations comes before, this is the first
known_lower : (items : List Declaration) (old own : Option Fault) → KnowsDeclared items old → KnowsDeclared items (lower old own)
known_lower items old None known = subst (KnowsDeclared items) (sym (lower-none old)) known
known_lower items None (Some h) known = λ f stands. let no_fault = known f stands in absurd (let bad : None ≡ Some no_fault.0 = no_fault.1 in cc)
known_lower items (Some g) (Some h) known = λ f stands.
    let kept = known f stands in
    let same : g ≡ kept.0 = let is : Some g ≡ Some kept.0 = kept.1 in cc in
    by f (comes_before h g) refl (subst (λ k. comes_before f k ≡ false) (sym same) kept.2)
  where
    by : (f : Fault) (b : Bool) → comes_before h g ≡ b → comes_before f g ≡ false → (k : Fault) × (Some (lower_of g h) ≡ Some k) × (comes_before f k ≡ false)
    by f true is behind = (h, ap (λ c. Some (cond c h g)) is, comes_before_none f g h behind (not_behind h g is))
    by f false is behind = (g, ap (λ c. Some (cond c h g)) is, behind)

pub known_later : (items : List Declaration) (P : Fault → Type 0) (old new : Option Fault) → KnowsDeclared items old → KeepsLeast P old new → KnowsDeclared items new
known_later items P old new known keeps = subst (KnowsDeclared items) (sym keeps.is_lower) (known_lower items old keeps.own known)

-- a fault of the declarations changes nothing where they are known
known_stays : (items : List Declaration) (old : Option Fault) (f : Fault) → KnowsDeclared items old → IsLeastOf (Stands items) (Some f) → lower old (Some f) ≡ old
known_stays items old f known least = by old refl
  where
    kept : (g : Fault) × (old ≡ Some g) × (comes_before f g ≡ false)
    kept = known f least.0

    by : (o : Option Fault) → old ≡ o → lower o (Some f) ≡ o
    by None is = absurd (let bad : None ≡ Some kept.0 = sym is ∙ kept.1 in cc)
    by (Some g) is =
        let same : g ≡ kept.0 = let both : Some g ≡ Some kept.0 = sym is ∙ kept.1 in cc in
        ap (λ c. Some (cond c f g)) (subst (λ k. comes_before f k ≡ false) (sym same) kept.2)

-- what an expression keeps that is refused
pub of_refused : (items : List Declaration) (x : SortExpr) (f : Fault) (old new : Option Fault) → KnowsDeclared items old → IsRefusedFor items x f → new ≡ lower old (Some f) → KeepsLeast (StandsInSort items x) old new
of_refused items x f old new known (inl least) is = record { own = Some f; is_least = least; is_lower = is }
of_refused items x f old new known (inr refused) is =
    subst (KeepsLeast (StandsInSort items x) old) (sym (is ∙ known_stays items old f known refused.2)) (keeps_nothing (StandsInSort items x) old refused.1)

pub of_resolved : (items : List Declaration) (x : SortExpr) (old : Option Fault) → ((f : Fault) → StandsInSort items x f → ⊥) → KeepsLeast (StandsInSort items x) old old
of_resolved items x old none = keeps_nothing (StandsInSort items x) old none
