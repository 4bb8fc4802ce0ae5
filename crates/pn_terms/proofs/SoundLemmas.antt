-- The faults of the sorts that a term writes, by its node and its parts.
use Rattle.std.proofs.Common.{◌≡◌, ◌⊎◌, inl, inr, ℕ, ◌≤◌, List, [], ◌∷◌, ◌++◌, length, take, true, Option, Some, refl, sym, ap, ◌∙◌, subst}
use Rattle.std.proofs.lemmas.List.{take_all}
use Rattle.std.specs.List.{Contains}
use Rattle.pn_facts.proofs.Contained.{contains_nil, contains_one, contains_first}
use Rattle.pn_faults.specs.declared.fault.Fault.{Fault}
use Rattle.pn_faults.specs.Least.{lower}
use Rattle.pn_faults.specs.Standing.{IsLeastOf}
use Rattle.pn_faults.specs.Walks.{KeepsLeast, StandsInSome}
use Rattle.pn_faults.proofs.WalkLemmas as walks
use Rattle.pn_faults.proofs.WalkLemmas.{keeps_alike, keeps_nothing}
use Rattle.pn_operators.specs.declared.op.Op.{Op}
use Rattle.pn_resolve.specs.Standing.{StandsInSort as SortFault}
use Rattle.pn_sorts.specs.Keeping.{IsRefusedFor}
use Rattle.pn_sorts.specs.Standing.{IsFaultless}
use Rattle.pn_syntax.specs.declared.sort_expr.SortExpr.{SortExpr}
use Rattle.pn_syntax.specs.declared.declaration.Declaration.{Declaration}
use Rattle.pn_syntax.specs.declared.term.Term.{Term}
use Rattle.pn_syntax.specs.declared.term.TermNode.TheOpen as layer
use Rattle.pn_syntax.specs.declared.term.TermNode.TheVariants as nodes
use Rattle.pn_terms.specs.Standing.{HasSoundSorts, SortStandsAt, SortStandsIn}
use Rattle.pn_terms.specs.Terms.{IsPart, itself, inside, Layer, layer_of, parts_in, parts_of}
use Rattle.pn_terms.proofs.TermLemmas.{out_element, out_apply}

-- the sorts in a term's parts are sound where all in it are
sound_part : (items : List Declaration) (e p : Term) → Contains (parts_of e) p → HasSoundSorts items e → HasSoundSorts items p
sound_part items e p c sound f (x, part, h) = sound f (x, inside e x p c part, h)

-- and so is the one that its node writes
pub sound_layer : (items : List Declaration) (e : Term) (l : Layer) → layer_of e ≡ l → HasSoundSorts items e → (f : Fault) → SortStandsAt items l f → ⊥
sound_layer items e l is sound f h = sound f (e, itself e e refl, subst (λ m. SortStandsAt items m f) (sym is) h)

pub sound_element : (items : List Declaration) (e : Term) (name : List ℕ) (arg p : Term) → e.node ≡ nodes.PartitionOf name arg → p ≡ arg → HasSoundSorts items e → HasSoundSorts items p
sound_element items e name arg p is given sound =
    let parts : parts_of e ≡ p ∷ [] = ap parts_in (out_element e.node name p (is ∙ ap (λ x. nodes.PartitionOf name x) (sym given))) in
    sound_part items e p (subst (λ xs. Contains xs p) (sym parts) (contains_first p [])) sound

pub sound_args : (items : List Declaration) (e : Term) (op : Op) (args ps : List Term) → e.node ≡ nodes.Apply op args → ps ≡ args → HasSoundSorts items e → (p : Term) → Contains ps p → HasSoundSorts items p
sound_args items e op args ps is given sound p c =
    let parts : parts_of e ≡ ps = ap parts_in (out_apply e.node op ps (is ∙ ap (λ x. nodes.Apply op x) (sym given))) in
    sound_part items e p (subst (λ xs. Contains xs p) (sym parts) c) sound

-- a fault of the sorts in a term is one in its parts or of the sort that its node writes
sort_stands_where : (items : List Declaration) (e x : Term) (f : Fault) → IsPart e x → SortStandsAt items (layer_of x) f → StandsInSome (SortStandsIn items) (parts_of e) f ⊎ SortStandsAt items (layer_of e) f
sort_stands_where items e x f (itself _ _ same) h = inr (subst (λ y. SortStandsAt items (layer_of y) f) same h)
sort_stands_where items e x f (inside _ _ p c rest) h = inl (p, c, (x, rest, h))

sort_stands_out : (items : List Declaration) (e : Term) (l : Layer) → layer_of e ≡ l → (f : Fault) → SortStandsIn items e f → StandsInSome (SortStandsIn items) (parts_in l) f ⊎ SortStandsAt items l f
sort_stands_out items e l is f (x, part, h) = subst (λ m. StandsInSome (SortStandsIn items) (parts_in m) f ⊎ SortStandsAt items m f) is (sort_stands_where items e x f part h)

sort_stands_below : (items : List Declaration) (e : Term) (l : Layer) → layer_of e ≡ l → (f : Fault) → StandsInSome (SortStandsIn items) (parts_in l) f → SortStandsIn items e f
sort_stands_below items e l is f (p, c, (x, part, h)) = (x, inside e x p (subst (λ m. Contains (parts_in m) p) (sym is) c) part, h)

-- a term without parts
pub sorts_of_leaf : (items : List Declaration) (e : Term) (l : Layer) → layer_of e ≡ l → parts_in l ≡ [] → (old new : Option Fault) → KeepsLeast (SortStandsAt items l) old new → KeepsLeast (SortStandsIn items e) old new
sorts_of_leaf items e l is alone old new keeps =
    keeps_alike (SortStandsAt items l) (SortStandsIn items e) old new
    (λ f h. (e, itself e e refl, subst (λ m. SortStandsAt items m f) (sym is) h))
    (λ f h. elim (sort_stands_out items e l is f h) [ inl some ↦ absurd (contains_nil some.0 (subst (λ xs. Contains xs some.0) alone some.1)) | inr own ↦ own ])
    keeps

-- a term whose node writes no sort
sorts_of_node : (items : List Declaration) (e : Term) (l : Layer) → layer_of e ≡ l → ((f : Fault) → SortStandsAt items l f → ⊥) → (old new : Option Fault) → KeepsLeast (StandsInSome (SortStandsIn items) (parts_in l)) old new → KeepsLeast (SortStandsIn items e) old new
sorts_of_node items e l is none old new keeps =
    keeps_alike (StandsInSome (SortStandsIn items) (parts_in l)) (SortStandsIn items e) old new
    (sort_stands_below items e l is)
    (λ f h. elim (sort_stands_out items e l is f h) [ inl some ↦ some | inr own ↦ absurd (none f own) ])
    keeps

pub sorts_of_element : (items : List Declaration) (e : Term) (name : List ℕ) (arg p : Term) → e.node ≡ nodes.PartitionOf name arg → p ≡ arg → (old new : Option Fault) → KeepsLeast (SortStandsIn items p) old new → KeepsLeast (SortStandsIn items e) old new
sorts_of_element items e name arg p is given old new keeps =
    sorts_of_node items e (layer.PartitionOf name p) (out_element e.node name p (is ∙ ap (λ x. nodes.PartitionOf name x) (sym given))) (λ f h. h) old new
    (keeps_alike (SortStandsIn items p) (StandsInSome (SortStandsIn items) (p ∷ [])) old new
    (λ f h. (p, contains_first p [], h)) (λ f h. subst (λ q. SortStandsIn items q f) (contains_one p h.0 h.1) h.2) keeps)

pub sorts_of_args : (items : List Declaration) (e : Term) (op : Op) (args ps : List Term) → e.node ≡ nodes.Apply op args → ps ≡ args → (old new : Option Fault) → KeepsLeast (StandsInSome (SortStandsIn items) ps) old new → KeepsLeast (SortStandsIn items e) old new
sorts_of_args items e op args ps is given old new keeps =
    sorts_of_node items e (layer.Apply op ps) (out_apply e.node op ps (is ∙ ap (λ x. nodes.Apply op x) (sym given))) (λ f h. h) old new keeps

-- the sorts of no terms, of terms and one more, and of all of them
pub sorts_of_none : (items : List Declaration) (old : Option Fault) → KeepsLeast (StandsInSome (SortStandsIn items) []) old old
sorts_of_none items old = (walks.all_none {A = Unit {0}} (λ x a. Unit {0}) (λ xs ys. Unit {0}) (SortStandsIn items) old tt).least

pub sorts_of_more : (items : List Declaration) (es all : List Term) (e : Term) → all ≡ es ++ e ∷ [] → (old mid new : Option Fault) → KeepsLeast (StandsInSome (SortStandsIn items) es) old mid → KeepsLeast (SortStandsIn items e) mid new → KeepsLeast (StandsInSome (SortStandsIn items) all) old new
sorts_of_more items es all e is old mid new keeps one =
    (walks.all_step {A = Unit {0}} (λ x a. Unit {0}) (λ xs ys. Unit {0}) (SortStandsIn items) es all e is true true refl [] (tt ∷ []) tt refl (Some tt) refl (λ _ _. tt) old mid new
    (record { answered = tt; least = keeps }) (record { answered = tt; least = one })).least

pub sorts_of_all : (items : List Declaration) (es : List Term) (i : ℕ) → length es ≤ i → (old new : Option Fault) → KeepsLeast (StandsInSome (SortStandsIn items) (take i es)) old new → KeepsLeast (StandsInSome (SortStandsIn items) es) old new
sorts_of_all items es i end old new keeps = subst (λ xs. KeepsLeast (StandsInSome (SortStandsIn items) xs) old new) (take_all i es end) keeps

-- what an expression keeps that has a sort, and one that is refused, where the declarations have no fault
pub sorts_of_resolved : (items : List Declaration) (x : SortExpr) (old : Option Fault) → ((f : Fault) → SortFault items x f → ⊥) → KeepsLeast (SortFault items x) old old
sorts_of_resolved items x old none = keeps_nothing (SortFault items x) old none

refused_least : (items : List Declaration) (x : SortExpr) (f : Fault) → IsFaultless items → IsRefusedFor items x f → IsLeastOf (SortFault items x) (Some f)
refused_least items x f faultless (inl least) = least
refused_least items x f faultless (inr refused) = absurd (faultless f refused.2.0)

pub sorts_of_refused : (items : List Declaration) (x : SortExpr) (f : Fault) (old new : Option Fault) → IsFaultless items → IsRefusedFor items x f → new ≡ lower old (Some f) → KeepsLeast (SortFault items x) old new
sorts_of_refused items x f old new faultless refused is = record { own = Some f; is_least = refused_least items x f faultless refused; is_lower = is }
