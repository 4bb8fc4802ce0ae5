-- What a walk over a term tells, by what it tells of the parts and of the node.
use Rattle.std.proofs.Common.{◌≡◌, ◌⊎◌, inl, inr, ℕ, ◌+◌, ◌<◌, ◌≤◌, List, [], ◌∷◌, ◌++◌, length, get_or, take, Bool, true, false, cond, Option, Some, None, Result, Ok, Err, IfOk, OnOk, ℤ, refl, sym, ap, ◌∙◌, subst}
use Rattle.std.proofs.lemmas.List.{take_all, take_more}
use Rattle.std.specs.List.{Contains}
use Rattle.std.proofs.lemmas.List.Elements.{Contains-append_cases, Contains-get_or}
use Rattle.pn_faults.specs.declared.fault.Fault.{Fault}
use Rattle.pn_syntax.specs.declared.declaration.Declaration.{Declaration}
use Rattle.pn_facts.proofs.Contained.{contains_nil, contains_one, contains_first}
use Rattle.pn_faults.specs.Walks.{AnswerOrFault, IsTold, IsWalked, KeepsLeast, StandsInSome}
use Rattle.pn_faults.proofs.WalkLemmas as walks
use Rattle.pn_faults.proofs.WalkLemmas.{IsMade, keeps_alike, keeps_nothing, told_more}
use Rattle.pn_syntax.specs.declared.term.Term.{Term}
use Rattle.pn_terms.specs.declared.term_sort.TermSort.{TermSort}
use Rattle.pn_terms.specs.declared.term_sort.TermSort.TheVariants as terms
use Rattle.pn_syntax.specs.declared.term.NumberSort.{NumberSort}
use Rattle.pn_syntax.specs.declared.term.TermNode.TheOpen as layer
use Rattle.pn_syntax.specs.declared.term.TermNode.TheVariants as nodes
use Rattle.pn_operators.specs.declared.op.Op.{Op}
use Rattle.pn_values.specs.declared.sort.Sort.TheVariants as sorts
use Rattle.pn_syntax.specs.declared.sort_expr.SortExpr.{SortExpr}
use Rattle.pn_terms.specs.Rows.{AreAlike, first_of}
use Rattle.pn_terms.specs.Sorts.{Gives, HasSort, HaveSorts, IsOfAll, IsOfConstant, IsOfElement, IsOfEmpty, IsOfEmptyList, IsOfOperator, IsOfVariable, is_good_number, is_good_text, is_in_range, none, more}
use Rattle.pn_terms.specs.Standing.{IsBadNumber, IsBadText, IsOutside, IsTooLarge, IsUnknownOperator, IsUnknownPartition, IsUnknownVariable, IsWrongElement, IsWrongFor, StandsAlways, StandsWith, StandsAt, StandsIn}
use Rattle.pn_terms.specs.Terms.{IsPart, itself, inside, Layer, layer_of, parts_in, parts_of}
use Rattle.pn_terms.proofs.TermLemmas.{out_variable, out_constant, out_truth, out_number, out_range, out_text, out_all, out_empty, out_empty_list, out_element, out_apply}
use Rattle.pn_terms.proofs.SortLemmas.{sorts_agree, sorted_not_always, sorted_not_with, always_once, with_once, always_not_with, all_sorted_no_fault}

-- what a walk over a term and one over terms tell
abbrev pub IsTermWalked : List Declaration → Term → Option TermSort → Option Fault → Option Fault → Type 0
IsTermWalked items e = IsWalked (HasSort items e) (StandsIn items e)

abbrev pub AreTermsWalked : List Declaration → List Term → Option (List TermSort) → Option Fault → Option Fault → Type 0
AreTermsWalked items es = IsWalked (HaveSorts items es) (StandsInSome (StandsIn items) es)

-- the faults of a node whose parts have these sorts
abbrev pub NodeFault : List Declaration → Layer → List TermSort → ℕ → Fault → Type 0
NodeFault items l ts at f = StandsAlways items l at f ⊎ StandsWith items l ts at f

node_once : (items : List Declaration) (l : Layer) (ts : List TermSort) (at : ℕ) (f g : Fault) → NodeFault items l ts at f → NodeFault items l ts at g → g ≡ f
node_once items l ts at f g (inl h) (inl k) = always_once items l at f g h k
node_once items l ts at f g (inl h) (inr k) = absurd (always_not_with items l ts at f g h k)
node_once items l ts at f g (inr h) (inl k) = absurd (always_not_with items l ts at g f k h)
node_once items l ts at f g (inr h) (inr k) = with_once items l ts at f g h k

sorted_not_node : (items : List Declaration) (l : Layer) (ts : List TermSort) (s : TermSort) (at : ℕ) (f : Fault) → Gives items l ts s → NodeFault items l ts at f → ⊥
sorted_not_node items l ts s at f gives (inl h) = sorted_not_always items l ts s at f gives h
sorted_not_node items l ts s at f gives (inr h) = sorted_not_with items l ts s at f gives h

-- a fault in a term is one in its parts or one of its node
stands_in : (items : List Declaration) (e : Term) (ts : List TermSort) → HaveSorts items (parts_of e) ts → (f : Fault) → StandsInSome (StandsIn items) (parts_of e) f ⊎ NodeFault items (layer_of e) ts e.at f → StandsIn items e f
stands_in items e ts have f (inl (p, c, (x, part, stands))) = (x, inside e x p c part, stands)
stands_in items e ts have f (inr (inl h)) = (e, itself e e refl, inl h)
stands_in items e ts have f (inr (inr h)) = (e, itself e e refl, inr (ts, have, h))

at_node : (items : List Declaration) (e : Term) (ts : List TermSort) → HaveSorts items (parts_of e) ts → (f : Fault) → StandsAt items e f → NodeFault items (layer_of e) ts e.at f
at_node items e ts have f (inl h) = inl h
at_node items e ts have f (inr (us, have', h)) = inr (subst (λ vs. StandsWith items (layer_of e) vs e.at f) (sorts_agree items (parts_of e) us ts have' have) h)

stands_where : (items : List Declaration) (e x : Term) (f : Fault) → IsPart e x → StandsAt items x f → StandsInSome (StandsIn items) (parts_of e) f ⊎ StandsAt items e f
stands_where items e x f (itself _ _ same) h = inr (subst (λ y. StandsAt items y f) same h)
stands_where items e x f (inside _ _ p c rest) h = inl (p, c, (x, rest, h))

stands_out : (items : List Declaration) (e : Term) (ts : List TermSort) → HaveSorts items (parts_of e) ts → (f : Fault) → StandsIn items e f → StandsInSome (StandsIn items) (parts_of e) f ⊎ NodeFault items (layer_of e) ts e.at f
stands_out items e ts have f (x, part, h) = elim (stands_where items e x f part h) [ inl a ↦ inl a | inr b ↦ inr (at_node items e ts have f b) ]

made_with : (items : List Declaration) (e : Term) (ts : List TermSort) → HaveSorts items (parts_of e) ts → IsMade (StandsInSome (StandsIn items) (parts_of e)) (NodeFault items (layer_of e) ts e.at) (StandsIn items e)
made_with items e ts have = record { to = stands_in items e ts have; from = stands_out items e ts have }

-- a term whose parts have sorts
pub walked_with : (items : List Declaration) (e : Term) (ts : List TermSort) (o : Option TermSort) (old mid new : Option Fault) → HaveSorts items (parts_of e) ts → KeepsLeast (StandsInSome (StandsIn items) (parts_of e)) old mid
    → IsTold (Gives items (layer_of e) ts) (NodeFault items (layer_of e) ts e.at) o mid new → IsTermWalked items e o old new
walked_with items e ts o old mid new have parts told =
    walks.walked_with (Gives items (layer_of e) ts) (HasSort items e) (StandsInSome (StandsIn items) (parts_of e)) (NodeFault items (layer_of e) ts e.at) (StandsIn items e) (made_with items e ts have)
    (λ s gives. (ts, have, gives)) (λ s f gives stands. sorted_not_node items (layer_of e) ts s e.at f gives stands) (node_once items (layer_of e) ts e.at) o old mid new parts told

-- no fault stands in no terms
none_in_none : (items : List Declaration) (es : List Term) → es ≡ [] → (f : Fault) → StandsInSome (StandsIn items) es f → ⊥
none_in_none items es is f (e, c, stands) = contains_nil e (subst (λ xs. Contains xs e) is c)

-- a term without parts
pub walked_leaf : (items : List Declaration) (e : Term) (l : Layer) → layer_of e ≡ l → parts_in l ≡ [] → (o : Option TermSort) (old new : Option Fault)
    → IsTold (Gives items l []) (StandsAlways items l e.at) o old new → IsTermWalked items e o old new
walked_leaf items e l is alone o old new told =
    let no_parts : parts_of e ≡ [] = ap parts_in is ∙ alone in
    walked_with items e [] o old old new (none (parts_of e) [] no_parts refl) (keeps_nothing (StandsInSome (StandsIn items) (parts_of e)) old (none_in_none items (parts_of e) no_parts))
    (subst (λ x. IsTold (Gives items x []) (NodeFault items x [] e.at) o old new) (sym is)
    (told_more (Gives items l []) (StandsAlways items l e.at) (NodeFault items l [] e.at) (λ f h. inl h) o old new told))

-- a term of which some part has a fault
stands_besides : (items : List Declaration) (e : Term) (g : Fault) → StandsInSome (StandsIn items) (parts_of e) g → (f : Fault) → StandsIn items e f → StandsInSome (StandsIn items) (parts_of e) f ⊎ StandsAlways items (layer_of e) e.at f
stands_besides items e g broken f (x, part, h) = elim (stands_where items e x f part h) [
  | inl a ↦ inl a
  | inr b ↦ elim b [
    | inl always ↦ inr always
    | inr with_sorts ↦ absurd (all_sorted_no_fault items (parts_of e) with_sorts.0 g with_sorts.1 broken)
  ]
]

stands_so : (items : List Declaration) (e : Term) (f : Fault) → StandsInSome (StandsIn items) (parts_of e) f ⊎ StandsAlways items (layer_of e) e.at f → StandsIn items e f
stands_so items e f (inl (p, c, (x, part, stands))) = (x, inside e x p c part, stands)
stands_so items e f (inr h) = (e, itself e e refl, inl h)

made_without : (items : List Declaration) (e : Term) (g : Fault) → StandsInSome (StandsIn items) (parts_of e) g → IsMade (StandsInSome (StandsIn items) (parts_of e)) (StandsAlways items (layer_of e) e.at) (StandsIn items e)
made_without items e g broken = record { to = stands_so items e; from = stands_besides items e g broken }

pub walked_without : (items : List Declaration) (e : Term) (g : Fault) (old mid new : Option Fault) → StandsInSome (StandsIn items) (parts_of e) g → KeepsLeast (StandsInSome (StandsIn items) (parts_of e)) old mid
    → KeepsLeast (StandsAlways items (layer_of e) e.at) mid new → IsTermWalked items e None old new
walked_without items e g old mid new broken parts node =
    walks.walked_without (HasSort items e) (StandsInSome (StandsIn items) (parts_of e)) (StandsAlways items (layer_of e) e.at) (StandsIn items e) (made_without items e g broken) g broken old mid new parts node

-- one part alone
pub one_walked : (items : List Declaration) (e p : Term) → parts_of e ≡ p ∷ [] → (old new : Option Fault) → KeepsLeast (StandsIn items p) old new → KeepsLeast (StandsInSome (StandsIn items) (parts_of e)) old new
one_walked items e p is old new k =
    subst (λ xs. KeepsLeast (StandsInSome (StandsIn items) xs) old new) (sym is)
    (keeps_alike (StandsIn items p) (StandsInSome (StandsIn items) (p ∷ [])) old new (λ f h. (p, contains_first p [], h)) (λ f h. subst (λ x. StandsIn items x f) (contains_one p h.0 h.1) h.2) k)

pub one_has : (items : List Declaration) (e p : Term) (s : TermSort) → parts_of e ≡ p ∷ [] → HasSort items p s → HaveSorts items (parts_of e) (s ∷ [])
one_has items e p s is (ts, have, gives) = more (parts_of e) (s ∷ []) p [] s [] ts is refl have gives (none [] [] refl refl)

-- one more term
have_next : (items : List Declaration) (es : List Term) (ss : List TermSort) → HaveSorts items es ss → (e : Term) (s : TermSort) → HasSort items e s → HaveSorts items (es ++ e ∷ []) (ss ++ s ∷ [])
have_next items es ss (none _ _ is_es is_ss) e s (ts, have, gives) =
    more (es ++ e ∷ []) (ss ++ s ∷ []) e [] s [] ts (ap (λ xs. xs ++ e ∷ []) is_es) (ap (λ xs. xs ++ s ∷ []) is_ss) have gives (none [] [] refl refl)
have_next items es ss (more _ _ x rest t others us is_es is_ss parts gives have) e s h =
    more (es ++ e ∷ []) (ss ++ s ∷ []) x (rest ++ e ∷ []) t (others ++ s ∷ []) us (ap (λ xs. xs ++ e ∷ []) is_es) (ap (λ xs. xs ++ s ∷ []) is_ss) parts gives (have_next items rest others have e s h)

-- the terms so far and one more
pub all_step : (items : List Declaration) (es all : List Term) (e : Term) → all ≡ es ++ e ∷ [] → (whole still : Bool) → still ≡ whole → (ss now : List TermSort) (s : TermSort) → now ≡ ss ++ s ∷ [] → (found : Option TermSort) → found ≡ Some s
    → (old mid new : Option Fault) → AreTermsWalked items es (cond whole (Some ss) None) old mid → IsTermWalked items e found mid new → AreTermsWalked items all (cond still (Some now) None) old new
all_step items es all e is whole still same ss now s longer found is_found old mid new walked one =
    walks.all_step (HasSort items) (HaveSorts items) (StandsIn items) es all e is whole still same ss now s longer found is_found (λ have h. have_next items es ss have e s h) old mid new walked one

pub all_stop : (items : List Declaration) (es all : List Term) (e : Term) → all ≡ es ++ e ∷ [] → (sorts : Option (List TermSort)) (still : Bool) → still ≡ false → (now : List TermSort) (found : Option TermSort) → found ≡ None
    → (old mid new : Option Fault) → AreTermsWalked items es sorts old mid → IsTermWalked items e found mid new → AreTermsWalked items all (cond still (Some now) None) old new
all_stop items = walks.all_stop (HasSort items) (HaveSorts items) (StandsIn items)

pub all_end : (items : List Declaration) (es : List Term) (i : ℕ) (whole : Bool) (ss : List TermSort) → whole ≡ false → length es ≤ i → (old new : Option Fault) → AreTermsWalked items (take i es) (cond whole (Some ss) None) old new → AreTermsWalked items es None old new
all_end items = walks.all_end (HasSort items) (HaveSorts items) (StandsIn items)

pub all_none : (items : List Declaration) (old : Option Fault) → AreTermsWalked items [] (Some []) old old
all_none items old = walks.all_none (HasSort items) (HaveSorts items) (StandsIn items) old (none [] [] refl refl)

-- the terms of a list as far as the next
pub next_of : (xs : List Term) (i : ℕ) (x : Term) → i < length xs → x ≡ get_or xs i x → take (i + 1) xs ≡ take i xs ++ x ∷ []
next_of xs i x lt is = take_more xs i x lt ∙ ap (λ y. take i xs ++ y ∷ []) (sym is)

pub next_in : (xs : List Term) (i : ℕ) (x : Term) → i < length xs → x ≡ get_or xs i x → Contains xs x
next_in xs i x lt is = subst (Contains xs) (sym is) (Contains-get_or xs i x lt)

alike_first : (ts : List TermSort) (i : ℕ) (x : TermSort) → x ≡ first_of ts → ((t : TermSort) → Contains (take i ts) t → t ≡ first_of ts) → (t : TermSort) → Contains (take i ts) t ⊎ Contains (x ∷ []) t → t ≡ first_of ts
alike_first ts i x same so_far t (inl a) = so_far t a
alike_first ts i x same so_far t (inr b) = contains_one x t b ∙ same

-- the sorts as far as the next are the first
pub alike_next : (ts : List TermSort) (i : ℕ) (x : TermSort) → i < length ts → x ≡ get_or ts i x → x ≡ first_of ts → ((t : TermSort) → Contains (take i ts) t → t ≡ first_of ts) → (t : TermSort) → Contains (take (i + 1) ts) t → t ≡ first_of ts
alike_next ts i x lt is same so_far t c =
    let next : take (i + 1) ts ≡ take i ts ++ x ∷ [] = take_more ts i x lt ∙ ap (λ y. take i ts ++ y ∷ []) (sym is) in
    alike_first ts i x same so_far t (Contains-append_cases (take i ts) (x ∷ []) t (subst (λ xs. Contains xs t) next c))

pub alike_all : (ts : List TermSort) (i : ℕ) → length ts ≤ i → ((t : TermSort) → Contains (take i ts) t → t ≡ first_of ts) → AreAlike ts
alike_all ts i end all s t a b =
    let whole = sym (take_all i ts end) in
    all s (subst (λ xs. Contains xs s) whole a) ∙ sym (all t (subst (λ xs. Contains xs t) whole b))

pub if_ok_more : {A E : Type 0} (r : Result A E) (P Q : A → Type 0) → ((x : A) → P x → Q x) → IfOk r P → IfOk r Q
if_ok_more (Ok x) P Q to h = to x h
if_ok_more (Err e) P Q to h = tt

pub on_ok_more : {A E : Type 0} (r : Result A E) (P Q : Type 0) → (P → Q) → OnOk r P → OnOk r Q
on_ok_more (Ok x) P Q to h = to h
on_ok_more (Err e) P Q to h = tt

pub walked_variable : (items : List Declaration) (e : Term) (name n : List ℕ) → e.node ≡ nodes.Variable name → n ≡ name → (o : Option TermSort) (old new : Option Fault)
    → IsTold (IsOfVariable items n) (IsUnknownVariable items n e.at) o old new → IsTermWalked items e o old new
walked_variable items e name n is same o old new told = walked_leaf items e (layer.Variable n) (out_variable e.node n (is ∙ ap nodes.Variable (sym same))) refl o old new told

pub walked_constant : (items : List Declaration) (e : Term) (name n : List ℕ) → e.node ≡ nodes.UserOp name → n ≡ name → (o : Option TermSort) (old new : Option Fault)
    → IsTold (IsOfConstant items n) (IsUnknownOperator items n e.at) o old new → IsTermWalked items e o old new
walked_constant items e name n is same o old new told = walked_leaf items e (layer.UserOp n) (out_constant e.node n (is ∙ ap nodes.UserOp (sym same))) refl o old new told

pub walked_truth : (items : List Declaration) (e : Term) (truth : Bool) → e.node ≡ nodes.Bool truth → (old : Option Fault) → IsTermWalked items e (Some (terms.Basis sorts.Bool)) old old
walked_truth items e truth is old = walked_leaf items e (layer.Bool truth) (out_truth e.node truth is) refl (Some (terms.Basis sorts.Bool)) old old (refl, refl)

pub walked_number : (items : List Declaration) (e : Term) (value : ℤ) (sort : NumberSort) → e.node ≡ nodes.Number value sort → (o : Option TermSort) (old new : Option Fault)
    → IsTold (λ s. (is_good_number items value sort ≡ true) × (s ≡ terms.Basis sorts.Integer)) (IsBadNumber items value sort e.at) o old new → IsTermWalked items e o old new
walked_number items e value sort is o old new told = walked_leaf items e (layer.Number value sort) (out_number e.node value sort is) refl o old new told

pub walked_range : (items : List Declaration) (e : Term) (value start end : ℤ) → e.node ≡ nodes.RangeConst value start end → (o : Option TermSort) (old new : Option Fault)
    → IsTold (λ s. (is_in_range items value start end ≡ true) × (s ≡ terms.Basis (sorts.Range start end))) (IsOutside items value start end e.at) o old new → IsTermWalked items e o old new
walked_range items e value start end is o old new told = walked_leaf items e (layer.RangeConst value start end) (out_range e.node value start end is) refl o old new told

pub walked_text : (items : List Declaration) (e : Term) (text : List ℕ) → e.node ≡ nodes.Text text → (o : Option TermSort) (old new : Option Fault)
    → IsTold (λ s. (is_good_text items text ≡ true) × (s ≡ terms.Basis sorts.Text)) (IsBadText items text e.at) o old new → IsTermWalked items e o old new
walked_text items e text is o old new told = walked_leaf items e (layer.Text text) (out_text e.node text is) refl o old new told

pub walked_all_values : (items : List Declaration) (e : Term) (x : SortExpr) → e.node ≡ nodes.All x → (o : Option TermSort) (old new : Option Fault)
    → IsTold (IsOfAll items x) (IsTooLarge items x e.at) o old new → IsTermWalked items e o old new
walked_all_values items e x is o old new told = walked_leaf items e (layer.All x) (out_all e.node x is) refl o old new told

pub walked_empty : (items : List Declaration) (e : Term) (x : SortExpr) → e.node ≡ nodes.Empty x → (s : TermSort) (old : Option Fault) → IsOfEmpty items x s → IsTermWalked items e (Some s) old old
walked_empty items e x is s old has = walked_leaf items e (layer.Empty x) (out_empty e.node x is) refl (Some s) old old (has, refl)

pub walked_empty_list : (items : List Declaration) (e : Term) (x : SortExpr) → e.node ≡ nodes.EmptyList x → (s : TermSort) (old : Option Fault) → IsOfEmptyList items x s → IsTermWalked items e (Some s) old old
walked_empty_list items e x is s old has = walked_leaf items e (layer.EmptyList x) (out_empty_list e.node x is) refl (Some s) old old (has, refl)

pub walked_element : (items : List Declaration) (e : Term) (name n : List ℕ) (arg p : Term) → e.node ≡ nodes.PartitionOf name arg → n ≡ name → p ≡ arg → (found : Option TermSort) (s : TermSort) → found ≡ Some s → (o : Option TermSort) (old mid new : Option Fault)
    → IsTermWalked items p found old mid → IsTold (IsOfElement items n (s ∷ [])) (λ f. IsUnknownPartition items n e.at f ⊎ IsWrongElement items n (s ∷ []) e.at f) o mid new → IsTermWalked items e o old new
walked_element items e name n arg p is same given found s is_found o old mid new part told =
    let out = out_element e.node n p (is ∙ ap (λ x. nodes.PartitionOf x arg) (sym same) ∙ ap (λ x. nodes.PartitionOf n x) (sym given)) in
    let parts : parts_of e ≡ p ∷ [] = ap parts_in out in
    let has : HasSort items p s = subst (AnswerOrFault (HasSort items p) (StandsIn items p)) is_found part.answered in
    walked_with items e (s ∷ []) o old mid new (one_has items e p s parts has) (one_walked items e p parts old mid part.least)
    (subst (λ l. IsTold (Gives items l (s ∷ [])) (NodeFault items l (s ∷ []) e.at) o mid new) (sym out) told)

pub walked_no_element : (items : List Declaration) (e : Term) (name n : List ℕ) (arg p : Term) → e.node ≡ nodes.PartitionOf name arg → n ≡ name → p ≡ arg → (found : Option TermSort) → found ≡ None → (old mid new : Option Fault)
    → IsTermWalked items p found old mid → KeepsLeast (IsUnknownPartition items n e.at) mid new → IsTermWalked items e None old new
walked_no_element items e name n arg p is same given found is_found old mid new part told =
    let out = out_element e.node n p (is ∙ ap (λ x. nodes.PartitionOf x arg) (sym same) ∙ ap (λ x. nodes.PartitionOf n x) (sym given)) in
    let parts : parts_of e ≡ p ∷ [] = ap parts_in out in
    let fault : AnswerOrFault (HasSort items p) (StandsIn items p) None = subst (AnswerOrFault (HasSort items p) (StandsIn items p)) is_found part.answered in
    walked_without items e fault.0 old mid new (subst (λ xs. StandsInSome (StandsIn items) xs fault.0) (sym parts) (p, contains_first p [], fault.1)) (one_walked items e p parts old mid part.least)
    (subst (λ l. KeepsLeast (StandsAlways items l e.at) mid new) (sym out) told)

pub walked_apply : (items : List Declaration) (e : Term) (op : Op) (args ps : List Term) → e.node ≡ nodes.Apply op args → ps ≡ args → (found : Option (List TermSort)) (ts us : List TermSort) → found ≡ Some ts → us ≡ ts → (o : Option TermSort) (old mid new : Option Fault)
    → AreTermsWalked items ps found old mid → IsTold (IsOfOperator items op us) (IsWrongFor items op us e.at) o mid new → IsTermWalked items e o old new
walked_apply items e op args ps is given found ts us is_found same o old mid new parts told =
    let out = out_apply e.node op ps (is ∙ ap (λ x. nodes.Apply op x) (sym given)) in
    let whole : parts_of e ≡ ps = ap parts_in out in
    let have : HaveSorts items ps us = subst (AnswerOrFault (HaveSorts items ps) (StandsInSome (StandsIn items) ps)) (is_found ∙ ap Some (sym same)) parts.answered in
    walked_with items e us o old mid new (subst (λ xs. HaveSorts items xs us) (sym whole) have) (subst (λ xs. KeepsLeast (StandsInSome (StandsIn items) xs) old mid) (sym whole) parts.least)
    (subst (λ l. IsTold (Gives items l us) (NodeFault items l us e.at) o mid new) (sym out)
    (told_more (IsOfOperator items op us) (IsWrongFor items op us e.at) (NodeFault items (layer.Apply op ps) us e.at) (λ f h. inr h) o mid new told))

pub walked_no_apply : (items : List Declaration) (e : Term) (op : Op) (args ps : List Term) → e.node ≡ nodes.Apply op args → ps ≡ args → (found : Option (List TermSort)) → found ≡ None → (old mid : Option Fault)
    → AreTermsWalked items ps found old mid → IsTermWalked items e None old mid
walked_no_apply items e op args ps is given found is_found old mid parts =
    let out = out_apply e.node op ps (is ∙ ap (λ x. nodes.Apply op x) (sym given)) in
    let whole : parts_of e ≡ ps = ap parts_in out in
    let fault : AnswerOrFault (HaveSorts items ps) (StandsInSome (StandsIn items) ps) None = subst (AnswerOrFault (HaveSorts items ps) (StandsInSome (StandsIn items) ps)) is_found parts.answered in
    walked_without items e fault.0 old mid mid (subst (λ xs. StandsInSome (StandsIn items) xs fault.0) (sym whole) fault.1) (subst (λ xs. KeepsLeast (StandsInSome (StandsIn items) xs) old mid) (sym whole) parts.least)
    (subst (λ l. KeepsLeast (StandsAlways items l e.at) mid mid) (sym out) (keeps_nothing (StandsAlways items (layer.Apply op ps) e.at) mid (λ f h. h)))
