-- What is kept of the term of a label: its own faults, that it has another sort than its label wants, and its variables.
use Rattle.std.proofs.Common.{Result, Ok, Err, IfOk, OnOk, ◌≡◌, ◌≤◌, length, take, ◌⊎◌, ◌↔◌, inl, inr, ℕ, List, [], ◌∷◌, ◌++◌, Bool, true, false, Option, Some, None, IsTrue, refl, sym, ap, ◌∙◌, subst}
use Rattle.std.specs.List.{Contains}
use Rattle.std.proofs.lemmas.List.{take_all}
use Rattle.std.proofs.lemmas.List.Elements.{Contains-append_left, Contains-push, Contains-push_cases}
use Rattle.pn_facts.proofs.Contained.{contains_first, contains_nil, contains_one}
use Rattle.pn_faults.specs.declared.fault.Fault.{Fault}
use Rattle.pn_faults.specs.declared.reason.Reason.TheVariants as reasons
use Rattle.pn_faults.specs.Least.{lower}
use Rattle.pn_faults.specs.Order.{fault_at}
use Rattle.pn_faults.specs.Walks.{IsWalked, KeepsLeast, StandsInSome}
use Rattle.pn_faults.proofs.WalkLemmas.{keeps_alike, keeps_both, keeps_nothing, keeps_one}
use Rattle.pn_checks.specs.LabelFaults.{IsExamined, IsOfOther, IsVariableIn, LabelStands, RightOrFault}
use Rattle.pn_checks.specs.NoValue.{HasNoVariable}
use Rattle.pn_operators.specs.declared.op.Op.{Op}
use Rattle.pn_syntax.specs.declared.declaration.Declaration.{Declaration}
use Rattle.pn_syntax.specs.declared.term.Term.{Term}
use Rattle.pn_syntax.specs.declared.term.TermNode.TheOpen as layer
use Rattle.pn_syntax.specs.declared.term.TermNode.TheVariants as nodes
use Rattle.pn_terms.proofs.SortLemmas.{sort_once, sorted_no_fault}
use Rattle.pn_terms.proofs.TermLemmas.{out_apply, out_element, out_variable}
use Rattle.pn_terms.specs.declared.term_sort.TermSort.{TermSort}
use Rattle.pn_terms.specs.Sorts.{HasSort}
use Rattle.pn_terms.specs.Standing.{StandsIn}
use Rattle.pn_terms.specs.Terms.{IsPart, itself, inside, Layer, layer_of, parts_in}

-- two facts of a call that answers
pub on_both : {T E P Q R : Type 0} (r : Result T E) → (P → Q → R) → OnOk r P → OnOk r Q → OnOk r R
on_both (Ok x) f p q = f p q
on_both (Err e) f p q = tt

-- ---- the sort that a label wants

module _ (items : List Declaration) (e : Term) (Wants : TermSort → Type 0) (label : List ℕ) where
  abbrev Right : Type 0
  Right = (s : TermSort) × HasSort items e s × Wants s

  abbrev Walked : Option TermSort → Option Fault → Option Fault → Type 0
  Walked o old new = IsWalked (HasSort items e) (StandsIn items e) o old new

  -- a term in which a fault stands has no sort at all
  pub judged_none : (o : Option TermSort) (old mid : Option Fault) → o ≡ None → Walked o old mid → IsExamined Right (LabelStands items Wants label e) false old mid
  judged_none None old mid is walked = record {
    answered = (walked.answered.0, inl walked.answered.1);
    least = keeps_both (StandsIn items e) (IsOfOther items Wants label e) old mid mid walked.least
        (keeps_nothing (IsOfOther items Wants label e) mid (λ f other. sorted_no_fault items e other.0 walked.answered.0 other.1 walked.answered.1));
  }
  judged_none (Some s) old mid is walked = absurd (let no : Some s ≡ None = is in cc)

  -- one that has a sort has it alone
  pub judged_some : (o : Option TermSort) (s : TermSort) (b : Bool) (old mid new : Option Fault) → o ≡ Some s → Walked o old mid → (IsTrue b ↔ Wants s) → (b ≡ true → new ≡ mid)
      → (b ≡ false → new ≡ lower mid (Some (fault_at reasons.LabelSort e.at label))) → IsExamined Right (LabelStands items Wants label e) b old new
  judged_some o s b old mid new is walked fits same more = by b fits same more
    where
      has : HasSort items e s
      has = (subst (λ q. Walked q old mid) is walked).answered

      here : IsOfOther items Wants label e (fault_at reasons.LabelSort e.at label) → (g : Fault) → IsOfOther items Wants label e g → g ≡ fault_at reasons.LabelSort e.at label
      here own g other = other.3

      by : (b : Bool) → (IsTrue b ↔ Wants s) → (b ≡ true → new ≡ mid) → (b ≡ false → new ≡ lower mid (Some (fault_at reasons.LabelSort e.at label))) → IsExamined Right (LabelStands items Wants label e) b old new
      by true fits same more = record {
        answered = (s, has, fits.0 refl);
        least = keeps_both (StandsIn items e) (IsOfOther items Wants label e) old mid new walked.least
            (subst (KeepsLeast (IsOfOther items Wants label e) mid) (sym (same refl))
            (keeps_nothing (IsOfOther items Wants label e) mid (λ f other. other.2 (subst Wants (sort_once items e s other.0 has other.1) (fits.0 refl)))));
      }
      by false fits same more =
          let own : IsOfOther items Wants label e (fault_at reasons.LabelSort e.at label) = (s, has, (λ w. let no : false ≡ true = fits.1 w in cc), refl) in
          record {
            answered = (fault_at reasons.LabelSort e.at label, inr own);
            least = keeps_both (StandsIn items e) (IsOfOther items Wants label e) old mid new walked.least
                (keeps_one (IsOfOther items Wants label e) (fault_at reasons.LabelSort e.at label) mid new own (here own) (more refl));
          }

-- ---- variables

-- nothing is there, or what is there was looked at already
pub judged_nothing : (R : Type 0) (P : Fault → Type 0) (old : Option Fault) → R → ((f : Fault) → P f → ⊥) → IsExamined R P true old old
judged_nothing R P old right none = record { answered = right; least = keeps_nothing P old none }

-- the same said otherwise
pub judged_alike : (R S : Type 0) (P Q : Fault → Type 0) (b : Bool) (old new : Option Fault) → (R → S) → ((f : Fault) → P f → Q f) → ((f : Fault) → Q f → P f) → IsExamined R P b old new → IsExamined S Q b old new
judged_alike R S P Q b old new right to from judged = record { answered = by b judged.answered; least = keeps_alike P Q old new to from judged.least }
  where
    by : (b : Bool) → RightOrFault R P b → RightOrFault S Q b
    by true r = right r
    by false found = (found.0, to found.0 found.1)

-- one and then another
pub judged_both : (R S T : Type 0) (P Q U : Fault → Type 0) (a b c : Bool) (old mid new : Option Fault) → (R → S → T) → ((f : Fault) → P f ⊎ Q f → U f) → ((f : Fault) → U f → P f ⊎ Q f)
    → (a ≡ true → b ≡ true → c ≡ true) → (a ≡ false → c ≡ false) → (b ≡ false → c ≡ false) → IsExamined R P a old mid → IsExamined S Q b mid new → IsExamined T U c old new
judged_both R S T P Q U a b c old mid new right to from sure no1 no2 first second = record {
  answered = by a b refl refl first.answered second.answered;
  least = keeps_alike (λ f. P f ⊎ Q f) U old new to from (keeps_both P Q old mid new first.least second.least);
}
  where
    by : (x y : Bool) → a ≡ x → b ≡ y → RightOrFault R P x → RightOrFault S Q y → RightOrFault T U c
    by true true p q r s = subst (RightOrFault T U) (sym (sure p q)) (right r s)
    by false y p q found s = subst (RightOrFault T U) (sym (no1 p)) (found.0, to found.0 (inl found.1))
    by true false p q r found = subst (RightOrFault T U) (sym (no2 q)) (found.0, to found.0 (inr found.1))

module _ (e : Term) (l : Layer) (is : layer_of e ≡ l) where
  -- what stands in a term that is no variable stands in its parts
  in_parts : ((name : List ℕ) → l ≡ layer.Variable name → ⊥) → (f : Fault) → IsVariableIn e f → StandsInSome IsVariableIn (parts_in l) f
  in_parts apart f (x, part, name, named, told) = by part
    where
      by : IsPart e x → StandsInSome IsVariableIn (parts_in l) f
      by (itself _ _ same) = absurd (apart name (sym is ∙ ap layer_of (sym same) ∙ out_variable x.node name named))
      by (inside _ _ p c rest) = (p, subst (λ m. Contains (parts_in m) p) is c, (x, rest, name, named, told))

  of_parts : (f : Fault) → StandsInSome IsVariableIn (parts_in l) f → IsVariableIn e f
  of_parts f (p, c, (x, part, name, named, told)) = (x, inside e x p (subst (λ m. Contains (parts_in m) p) (sym is) c) part, name, named, told)

  none_in : ((name : List ℕ) → l ≡ layer.Variable name → ⊥) → ((q : Term) → Contains (parts_in l) q → HasNoVariable q) → HasNoVariable e
  none_in apart each x part name named = by part
    where
      by : IsPart e x → ⊥
      by (itself _ _ same) = apart name (sym is ∙ ap layer_of (sym same) ∙ out_variable x.node name named)
      by (inside _ _ p c rest) = each p (subst (λ m. Contains (parts_in m) p) is c) x rest name named

  pub by_parts : ((name : List ℕ) → l ≡ layer.Variable name → ⊥) → (b : Bool) (old new : Option Fault)
      → IsExamined ((q : Term) → Contains (parts_in l) q → HasNoVariable q) (StandsInSome IsVariableIn (parts_in l)) b old new → IsExamined (HasNoVariable e) (IsVariableIn e) b old new
  by_parts apart b old new judged =
      judged_alike ((q : Term) → Contains (parts_in l) q → HasNoVariable q) (HasNoVariable e) (StandsInSome IsVariableIn (parts_in l)) (IsVariableIn e) b old new
      (none_in apart) of_parts (in_parts apart) judged

  -- a leaf that is no variable
  pub by_leaf : ((name : List ℕ) → l ≡ layer.Variable name → ⊥) → parts_in l ≡ [] → (old : Option Fault) → IsExamined (HasNoVariable e) (IsVariableIn e) true old old
  by_leaf apart alone old =
      judged_nothing (HasNoVariable e) (IsVariableIn e) old (none_in apart (λ q c. absurd (contains_nil q (subst (λ xs. Contains xs q) alone c))))
      (λ f stands. let some = in_parts apart f stands in contains_nil some.0 (subst (λ xs. Contains xs some.0) alone some.1))

-- a variable
pub by_variable : (e : Term) (name : List ℕ) → e.node ≡ nodes.Variable name → (old new : Option Fault) → new ≡ lower old (Some (fault_at reasons.NotGround e.at name)) → IsExamined (HasNoVariable e) (IsVariableIn e) false old new
by_variable e name is old new told = record {
  answered = (fault_at reasons.NotGround e.at name, own);
  least = keeps_one (IsVariableIn e) (fault_at reasons.NotGround e.at name) old new own only told;
}
  where
    own : IsVariableIn e (fault_at reasons.NotGround e.at name)
    own = (e, itself e e refl, name, is, refl)

    out : layer_of e ≡ layer.Variable name
    out = out_variable e.node name is

    only : (g : Fault) → IsVariableIn e g → g ≡ fault_at reasons.NotGround e.at name
    only g (x, part, other, named, tells) = by part
      where
        by : IsPart e x → g ≡ fault_at reasons.NotGround e.at name
        by (itself _ _ same) =
            let alike : ◌≡◌ {A = Layer} (layer.Variable other) (layer.Variable name) = sym (out_variable x.node other named) ∙ ap layer_of same ∙ out in
            let called : other ≡ name = cc in
            tells ∙ ap (λ n. fault_at reasons.NotGround x.at n) called ∙ ap (λ (y : Term). fault_at reasons.NotGround y.at name) same
        by (inside _ _ p c rest) = absurd (contains_nil p (subst (λ m. Contains (parts_in m) p) out c))

element_no_variable : (name : List ℕ) (p : Term) (other : List ℕ) → ◌≡◌ {A = Layer} (layer.PartitionOf name p) (layer.Variable other) → ⊥
element_no_variable name p other same = cc

args_no_variable : (op : Op) (ps : List Term) (other : List ℕ) → ◌≡◌ {A = Layer} (layer.Apply op ps) (layer.Variable other) → ⊥
args_no_variable op ps other same = cc

-- an element of a partition, by its argument
pub by_element : (e : Term) (name : List ℕ) (arg p : Term) → e.node ≡ nodes.PartitionOf name arg → p ≡ arg → (b : Bool) (old new : Option Fault) → IsExamined (HasNoVariable p) (IsVariableIn p) b old new
    → IsExamined (HasNoVariable e) (IsVariableIn e) b old new
by_element e name arg p is given b old new judged =
    by_parts e (layer.PartitionOf name p) (out_element e.node name p (is ∙ ap (λ x. nodes.PartitionOf name x) (sym given))) (element_no_variable name p) b old new
    (judged_alike (HasNoVariable p) ((q : Term) → Contains (p ∷ []) q → HasNoVariable q) (IsVariableIn p) (StandsInSome IsVariableIn (p ∷ [])) b old new
    (λ none q c. subst HasNoVariable (sym (contains_one p q c)) none) (λ f h. (p, contains_first p [], h)) (λ f h. subst (λ q. IsVariableIn q f) (contains_one p h.0 h.1) h.2) judged)

-- an operator, by its arguments
pub by_args : (e : Term) (op : Op) (args ps : List Term) → e.node ≡ nodes.Apply op args → ps ≡ args → (b : Bool) (old new : Option Fault)
    → IsExamined ((q : Term) → Contains ps q → HasNoVariable q) (StandsInSome IsVariableIn ps) b old new → IsExamined (HasNoVariable e) (IsVariableIn e) b old new
by_args e op args ps is given b old new judged =
    by_parts e (layer.Apply op ps) (out_apply e.node op ps (is ∙ ap (λ x. nodes.Apply op x) (sym given))) (args_no_variable op ps) b old new judged

-- several terms: none of them, those so far and one more, all

pub several_none : (old : Option Fault) → IsExamined ((q : Term) → Contains [] q → HasNoVariable q) (StandsInSome IsVariableIn []) true old old
several_none old = judged_nothing ((q : Term) → Contains [] q → HasNoVariable q) (StandsInSome IsVariableIn []) old (λ q c. absurd (contains_nil q c)) (λ f h. contains_nil h.0 h.1)

pub several_more : (es all : List Term) (e : Term) → all ≡ es ++ e ∷ [] → (a b c : Bool) (old mid new : Option Fault) → (a ≡ true → b ≡ true → c ≡ true) → (a ≡ false → c ≡ false) → (b ≡ false → c ≡ false)
    → IsExamined ((q : Term) → Contains es q → HasNoVariable q) (StandsInSome IsVariableIn es) a old mid → IsExamined (HasNoVariable e) (IsVariableIn e) b mid new
    → IsExamined ((q : Term) → Contains all q → HasNoVariable q) (StandsInSome IsVariableIn all) c old new
several_more es all e is a b c old mid new sure no1 no2 first second =
    subst (λ xs. IsExamined ((q : Term) → Contains xs q → HasNoVariable q) (StandsInSome IsVariableIn xs) c old new) (sym is)
    (judged_both ((q : Term) → Contains es q → HasNoVariable q) (HasNoVariable e) ((q : Term) → Contains (es ++ e ∷ []) q → HasNoVariable q)
    (StandsInSome IsVariableIn es) (IsVariableIn e) (StandsInSome IsVariableIn (es ++ e ∷ [])) a b c old mid new each in_more out_of_more sure no1 no2 first second)
  where
    each : ((q : Term) → Contains es q → HasNoVariable q) → HasNoVariable e → (q : Term) → Contains (es ++ e ∷ []) q → HasNoVariable q
    each all one q there = by (Contains-push_cases es e q there)
      where
        by : Contains es q ⊎ (e ≡ q) → HasNoVariable q
        by (inl front) = all q front
        by (inr same) = subst HasNoVariable same one

    in_more : (f : Fault) → StandsInSome IsVariableIn es f ⊎ IsVariableIn e f → StandsInSome IsVariableIn (es ++ e ∷ []) f
    in_more f (inl (y, there, h)) = (y, Contains-append_left es (e ∷ []) y there, h)
    in_more f (inr h) = (e, Contains-push es e, h)

    out_of_more : (f : Fault) → StandsInSome IsVariableIn (es ++ e ∷ []) f → StandsInSome IsVariableIn es f ⊎ IsVariableIn e f
    out_of_more f (y, there, h) = by (Contains-push_cases es e y there)
      where
        by : Contains es y ⊎ (e ≡ y) → StandsInSome IsVariableIn es f ⊎ IsVariableIn e f
        by (inl front) = inl (y, front, h)
        by (inr same) = inr (subst (λ z. IsVariableIn z f) (sym same) h)

pub several_all : (es : List Term) (i : ℕ) → length es ≤ i → (b : Bool) (old new : Option Fault)
    → IsExamined ((q : Term) → Contains (take i es) q → HasNoVariable q) (StandsInSome IsVariableIn (take i es)) b old new → IsExamined ((q : Term) → Contains es q → HasNoVariable q) (StandsInSome IsVariableIn es) b old new
several_all es i end b old new judged = subst (λ xs. IsExamined ((q : Term) → Contains xs q → HasNoVariable q) (StandsInSome IsVariableIn xs) b old new) (take_all i es end) judged

-- what a call that answers judges
pub judged_call : {E : Type 0} (R S : Type 0) (P Q : Fault → Type 0) (old new : Option Fault) → ((b : Bool) → IsExamined R P b old new → IsExamined S Q b old new) → (r : Result Bool E) → IfOk r (λ b. IsExamined R P b old new)
    → IfOk r (λ b. IsExamined S Q b old new)
judged_call R S P Q old new to (Ok b) judged = to b judged
judged_call R S P Q old new to (Err e) judged = tt
