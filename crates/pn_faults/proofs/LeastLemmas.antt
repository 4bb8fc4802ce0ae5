-- The order of faults, and what follows for the least of a list.
use Rattle.std.proofs.Common.{◌≡◌, Bool, true, false, IsTrue, cond, List, [], ◌∷◌, ◌++◌, All, Option, None, Some, refl, sym, ap, ◌∙◌, subst}
use Rattle.std.specs.Cmp.{IsTotalOrder}
use Rattle.std.specs.List.{flat_map, filter_map, cons_option}
use Rattle.std.specs.Ordering.{ordering_reverse, is_lt, is_gt}
use Rattle.std.specs.declared.cmp.Ordering.{Ordering}
use Rattle.std.specs.declared.cmp.Ordering.TheVariants.{Less, Equal, Greater}
use Rattle.std.proofs.lemmas.List.Elements.{All-nil, All-cons, All-head, All-tail, All-same, All-append, All-weaker}
use Rattle.std.proofs.lemmas.Option.{same_Some}
use Rattle.std.proofs.lemmas.Cmp.{on_total, then_total, nat_cmp_total, upto}
use Rattle.pn_faults.specs.declared.fault.Fault.{Fault}
use Rattle.pn_faults.specs.Reasons.{number_of, phase_of}
use Rattle.pn_faults.specs.Order.{fault_cmp, comes_before}
use Rattle.pn_faults.specs.Least.{lower_of, lower, least_fault, IsLeast}

pub faults_total : IsTotalOrder fault_cmp
faults_total = then_total (on_total (λ f. phase_of f.reason) nat_cmp_total) (then_total (on_total (λ f. f.at) nat_cmp_total) (on_total (λ f. number_of f.reason) nat_cmp_total))

module _ {K : Type 0} {R : K → K → Ordering} (total : IsTotalOrder R) where
  turned : (o : Ordering) → is_lt (ordering_reverse o) ≡ is_gt o
  turned Less = refl
  turned Equal = refl
  turned Greater = refl

  seen_from_behind : (x y : K) → is_lt (R x y) ≡ is_gt (R y x)
  seen_from_behind x y = ap is_lt (total.antisymm x y) ∙ turned (R y x)

  less_is : (o : Ordering) → is_lt o ≡ true → o ≡ Less
  less_is Less h = refl
  less_is Equal h = cc
  less_is Greater h = cc

  before_all : (x y z : K) → is_lt (R x y) ≡ true → is_lt (R y z) ≡ true → is_lt (R x z) ≡ true
  before_all x y z h k = ap is_lt (total.trans x y z (less_is (R x y) h) (less_is (R y z) k))

  before_none : (x y z : K) → is_lt (R x y) ≡ false → is_lt (R y z) ≡ false → is_lt (R x z) ≡ false
  before_none x y z h k = seen_from_behind x z ∙ upto total z y x (sym (seen_from_behind y z) ∙ k) (sym (seen_from_behind x y) ∙ h)

comes_before_all : (f g h : Fault) → comes_before f g ≡ true → comes_before g h ≡ true → comes_before f h ≡ true
comes_before_all f g h = before_all faults_total f g h

pub comes_before_none : (f g h : Fault) → comes_before f g ≡ false → comes_before g h ≡ false → comes_before f h ≡ false
comes_before_none f g h = before_none faults_total f g h

-- a fault that comes before another is not behind it
one_way : (o p : Ordering) → o ≡ ordering_reverse p → is_lt o ≡ true → is_lt p ≡ false
one_way o Less is h = let bad : is_lt (ordering_reverse Less) ≡ true = sym (ap is_lt is) ∙ h in absurd cc
one_way o Equal is h = refl
one_way o Greater is h = refl

pub not_behind : (f g : Fault) → comes_before f g ≡ true → comes_before g f ≡ false
not_behind f g h = one_way (fault_cmp f g) (fault_cmp g f) (faults_total.antisymm f g) h

pub not_before_itself : (f : Fault) → comes_before f f ≡ false
not_before_itself f = step (comes_before f f) refl
  where
    step : (b : Bool) → comes_before f f ≡ b → comes_before f f ≡ false
    step true h = not_behind f f h
    step false h = h

module _ (before : Fault → Fault → Bool) (all : (f g h : Fault) → before f g ≡ true → before g h ≡ true → before f h ≡ true) (none : (f g h : Fault) → before f g ≡ false → before g h ≡ false → before f h ≡ false) where
  -- the lower of three, from the left and from the right
  lowest : (f g h : Fault) → cond (before h (cond (before g f) g f)) h (cond (before g f) g f) ≡ cond (before (cond (before h g) h g) f) (cond (before h g) h g) f
  lowest f g h = step (before g f) refl (before h g) refl (before h f) refl
    where
      step : (b : Bool) → before g f ≡ b → (c : Bool) → before h g ≡ c → (d : Bool) → before h f ≡ d → cond (before h (cond b g f)) h (cond b g f) ≡ cond (before (cond c h g) f) (cond c h g) f
      step true gf true hg true hf = ap (λ b. cond b h g) hg ∙ sym (ap (λ b. cond b h f) hf)
      step true gf true hg false hf = let contra : true ≡ false = sym (all h g f hg gf) ∙ hf in cc
      step true gf false hg d hf = ap (λ b. cond b h g) hg ∙ sym (ap (λ b. cond b g f) gf)
      step false gf true hg d hf = refl
      step false gf false hg true hf = let contra : true ≡ false = sym hf ∙ none h g f hg gf in cc
      step false gf false hg false hf = ap (λ b. cond b h f) hf ∙ sym (ap (λ b. cond b g f) gf)

  -- what is not below x has nothing above it below x
  above_too : (g h x : Fault) → before g x ≡ false → before g h ≡ true → before h x ≡ false
  above_too g h x gx gh = step (before h x) refl
    where
      step : (b : Bool) → before h x ≡ b → before h x ≡ false
      step true hx = let contra : true ≡ false = sym (all g h x gh hx) ∙ gx in cc
      step false hx = hx

pub lower-assoc : (a b c : Option Fault) → lower (lower a b) c ≡ lower a (lower b c)
lower-assoc None b c = refl
lower-assoc (Some f) None c = refl
lower-assoc (Some f) (Some g) None = refl
lower-assoc (Some f) (Some g) (Some h) = ap Some (lowest comes_before comes_before_all comes_before_none f g h)

pub lower-none : (a : Option Fault) → lower a None ≡ a
lower-none None = refl
lower-none (Some f) = refl

pub least_fault-append : (xs ys : List Fault) → least_fault (xs ++ ys) ≡ lower (least_fault xs) (least_fault ys)
least_fault-append [] ys = refl
least_fault-append (x ∷ xs) ys = ap (lower (Some x)) (least_fault-append xs ys) ∙ sym (lower-assoc (Some x) (least_fault xs) (least_fault ys))

least_fault-cons_option : (o : Option Fault) (xs : List Fault) → least_fault (cons_option o xs) ≡ lower o (least_fault xs)
least_fault-cons_option None xs = refl
least_fault-cons_option (Some f) xs = refl

pub least_fault-flat_map : {X : Type 0} (faults_of : X → List Fault) (xs : List X) → least_fault (flat_map faults_of xs) ≡ least_fault (filter_map (λ x. least_fault (faults_of x)) xs)
least_fault-flat_map faults_of [] = refl
least_fault-flat_map faults_of (x ∷ xs) =
    least_fault-append (faults_of x) (flat_map faults_of xs)
    ∙ (ap (lower (least_fault (faults_of x))) (least_fault-flat_map faults_of xs)
    ∙ sym (least_fault-cons_option (least_fault (faults_of x)) (filter_map (λ x. least_fault (faults_of x)) xs)))

pub least_fault-is_none : (xs : List Fault) → least_fault xs ≡ None → xs ≡ []
least_fault-is_none [] e = refl
least_fault-is_none (x ∷ xs) e = step (least_fault xs) e
  where
    step : (o : Option Fault) → lower (Some x) o ≡ None → x ∷ xs ≡ []
    step None e = cc
    step (Some g) e = cc

module _ (f : Fault) where
  abbrev After : Fault → Type 0
  After g = comes_before g f ≡ false

  abbrev Behind : Fault → Type 0
  Behind g = IsTrue (comes_before f g)

  -- what comes before none of the others stays the least
  stays : (gs : List Fault) → All After gs → lower (Some f) (least_fault gs) ≡ Some f
  stays [] all = refl
  stays (g ∷ gs) all =
      sym (lower-assoc (Some f) (Some g) (least_fault gs))
      ∙ (ap (λ b. lower (Some (cond b g f)) (least_fault gs)) (All-head After g gs all) ∙ stays gs (All-tail After g gs all))

  -- what comes before each of the others is the least with them
  leads : (gs : List Fault) → All Behind gs → lower (least_fault gs) (Some f) ≡ Some f
  leads [] all = refl
  leads (g ∷ gs) all =
      lower-assoc (Some g) (least_fault gs) (Some f)
      ∙ (ap (lower (Some g)) (leads gs (All-tail Behind g gs all)) ∙ ap (λ b. Some (cond b f g)) (All-head Behind g gs all))

pub least_fault-from_first : (fs : List Fault) (f : Fault) → IsLeast fs f → least_fault fs ≡ Some f
least_fault-from_first fs f is =
    ap least_fault is.stands
    ∙ (least_fault-append is.front (f ∷ is.rest)
    ∙ (ap (lower (least_fault is.front)) (stays f is.rest is.none_before) ∙ leads f is.front is.before))

-- one more in front of a list with a least fault
first-cons : (x : Fault) (xs : List Fault) (f : Fault) → IsLeast xs f → (b : Bool) → comes_before f x ≡ b → IsLeast (x ∷ xs) (cond b f x)
first-cons x xs f is true fx = record {
  front = x ∷ is.front;
  rest = is.rest;
  stands = ap (λ ys. x ∷ ys) is.stands;
  before = All-cons (Behind f) x is.front fx is.before;
  none_before = is.none_before;
}
first-cons x xs f is false fx = record {
  front = [];
  rest = xs;
  stands = refl;
  before = All-nil (Behind x);
  none_before = All-same (After x) xs (is.front ++ f ∷ is.rest) is.stands (All-append (After x) is.front (f ∷ is.rest) (All-weaker (Behind f) (After x) (λ g fg. above_too comes_before comes_before_all comes_before_none f g x fx fg) is.front is.before) (All-cons (After x) f is.rest fx (All-weaker (After f) (After x) (λ g gf. comes_before_none g f x gf fx) is.rest is.none_before)));
}

pub first-from_least_fault : (fs : List Fault) (f : Fault) → least_fault fs ≡ Some f → IsLeast fs f
first-from_least_fault [] f e = cc
first-from_least_fault (x ∷ xs) f e = step (least_fault xs) refl e (first-from_least_fault xs)
  where
    step : (o : Option Fault) → least_fault xs ≡ o → lower (Some x) o ≡ Some f → ((g : Fault) → least_fault xs ≡ Some g → IsLeast xs g) → IsLeast (x ∷ xs) f
    step None is e next = record {
      front = [];
      rest = xs;
      stands = ap (λ y. y ∷ xs) (same_Some x f e);
      before = All-nil (Behind f);
      none_before = All-same (After f) xs [] (least_fault-is_none xs is) (All-nil (After f));
    }
    step (Some g) is e next = subst (IsLeast (x ∷ xs)) (same_Some (lower_of x g) f e) (first-cons x xs g (next g is) (comes_before g x) refl)

-- one more fault behind those whose least was kept, and a part
pub kept-more : (kept : Option Fault) (f : Fault) (fs : List Fault) → kept ≡ least_fault fs → lower kept (Some f) ≡ least_fault (fs ++ f ∷ [])
kept-more kept f fs e = ap (λ o. lower o (Some f)) e ∙ sym (least_fault-append fs (f ∷ []))

pub kept-part : (kept part : Option Fault) (fs gs : List Fault) → kept ≡ least_fault fs → part ≡ least_fault gs → lower kept part ≡ least_fault (fs ++ gs)
kept-part kept part fs gs e d = ap (λ o. lower o part) e ∙ (ap (lower (least_fault fs)) d ∙ sym (least_fault-append fs gs))

-- what a test says of the lower of what is kept and one more
pub lower-by_test : (old : Option Fault) (kept f : Fault) (b : Bool) → old ≡ Some kept → b ≡ comes_before f kept → lower old (Some f) ≡ cond b (Some f) old
lower-by_test old kept f b is test = subst (λ o. lower o (Some f) ≡ cond b (Some f) o) (sym is) (step b test)
  where
    step : (b : Bool) → b ≡ comes_before f kept → lower (Some kept) (Some f) ≡ cond b (Some f) (Some kept)
    step true test = ap (λ b. Some (cond b f kept)) (sym test)
    step false test = ap (λ b. Some (cond b f kept)) (sym test)

pub lower-taken : (old : Option Fault) (f : Fault) (b : Bool) → lower old (Some f) ≡ cond b (Some f) old → b ≡ true → Some f ≡ lower old (Some f)
lower-taken old f b is so = sym (is ∙ ap (λ b. cond b (Some f) old) so)

pub lower-left : (old : Option Fault) (f : Fault) (b : Bool) → lower old (Some f) ≡ cond b (Some f) old → b ≡ false → old ≡ lower old (Some f)
lower-left old f b is so = sym (is ∙ ap (λ b. cond b (Some f) old) so)
