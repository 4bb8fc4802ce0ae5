-- What a walk tells of a whole, by what it tells of the parts and of the node.
use Rattle.std.proofs.Common.{◌≡◌, ◌⊎◌, inl, inr, ℕ, ◌≤◌, List, [], ◌∷◌, ◌++◌, length, take, Bool, true, false, cond, Option, Some, None, sym, ap, ◌∙◌, subst, arith, refl}
use Rattle.std.proofs.lemmas.List.{take_all}
use Rattle.std.proofs.lemmas.List.Elements.{Contains-append_left, Contains-push, Contains-push_cases}
use Rattle.pn_faults.specs.declared.fault.Fault.{Fault}
use Rattle.pn_faults.specs.Order.{comes_before}
use Rattle.pn_faults.specs.Least.{lower}
use Rattle.pn_faults.specs.Standing.{IsLeastOf}
use Rattle.pn_faults.specs.Walks.{KeepsLeast, IsTold, AnswerOrFault, IsWalked, StandsInSome}
use Rattle.pn_faults.proofs.LeastLemmas.{comes_before_none, lower-assoc, lower-none, not_before_itself, not_behind}

lower_is : (f g least : Fault) (b : Bool) → comes_before g least ≡ b → (comes_before f least ≡ false) ⊎ (comes_before f g ≡ false) → comes_before f (cond b g least) ≡ false
lower_is f g least true is (inl a) = comes_before_none f least g a (not_behind g least is)
lower_is f g least true is (inr b) = b
lower_is f g least false is (inl a) = a
lower_is f g least false is (inr b) = comes_before_none f g least b is

lower_of_two : (P Q : Fault → Type 0) (least g : Fault) (b : Bool) → P least → Q g → P (cond b g least) ⊎ Q (cond b g least)
lower_of_two P Q least g true p q = inr q
lower_of_two P Q least g false p q = inl p

-- the least of two kinds of faults is the lower of the least of each
pub least_of_both : (P Q : Fault → Type 0) (a b : Option Fault) → IsLeastOf P a → IsLeastOf Q b → IsLeastOf (λ f. P f ⊎ Q f) (lower a b)
least_of_both P Q None None p q = λ f stands. elim stands [ inl x ↦ p f x | inr y ↦ q f y ]
least_of_both P Q None (Some g) p q = (inr q.0, λ f stands. elim stands [ inl x ↦ absurd (p f x) | inr y ↦ q.1 f y ])
least_of_both P Q (Some f) None p q = (inl p.0, λ g stands. elim stands [ inl x ↦ p.1 g x | inr y ↦ absurd (q g y) ])
least_of_both P Q (Some f) (Some g) p q = (
  lower_of_two P Q f g (comes_before g f) p.0 q.0,
  λ h stands. lower_is h g f (comes_before g f) refl (elim stands [ inl x ↦ inl (p.1 h x) | inr y ↦ inr (q.1 h y) ]),
)

-- the same faults have the same least one
pub least_alike : (P Q : Fault → Type 0) (o : Option Fault) → ((f : Fault) → P f → Q f) → ((f : Fault) → Q f → P f) → IsLeastOf P o → IsLeastOf Q o
least_alike P Q None to from least = λ f q. least f (from f q)
least_alike P Q (Some g) to from least = (to g least.0, λ f q. least.1 f (from f q))

pub keeps_alike : (P Q : Fault → Type 0) (old new : Option Fault) → ((f : Fault) → P f → Q f) → ((f : Fault) → Q f → P f) → KeepsLeast P old new → KeepsLeast Q old new
keeps_alike P Q old new to from keeps = record { own = keeps.own; is_least = least_alike P Q keeps.own to from keeps.is_least; is_lower = keeps.is_lower }

-- no fault of the kind stands
pub keeps_nothing : (P : Fault → Type 0) (old : Option Fault) → ((f : Fault) → P f → ⊥) → KeepsLeast P old old
keeps_nothing P old none = record { own = None; is_least = none; is_lower = sym (lower-none old) }

-- one fault of the kind stands, and no other
pub keeps_one : (P : Fault → Type 0) (f : Fault) (old new : Option Fault) → P f → ((g : Fault) → P g → g ≡ f) → new ≡ lower old (Some f) → KeepsLeast P old new
keeps_one P f old new p only is = record {
  own = Some f;
  is_least = (p, λ g q. subst (λ h. comes_before h f ≡ false) (sym (only g q)) (not_before_itself f));
  is_lower = is;
}

-- one kind and then another
pub keeps_both : (P Q : Fault → Type 0) (a b c : Option Fault) → KeepsLeast P a b → KeepsLeast Q b c → KeepsLeast (λ f. P f ⊎ Q f) a c
keeps_both P Q a b c p q = record {
  own = lower p.own q.own;
  is_least = least_of_both P Q p.own q.own p.is_least q.is_least;
  is_lower = q.is_lower ∙ ap (λ x. lower x q.own) p.is_lower ∙ lower-assoc a p.own q.own;
}

-- the least of all, where none was kept before
pub least_alone : (P : Fault → Type 0) (new : Option Fault) → KeepsLeast P None new → IsLeastOf P new
least_alone P new k = subst (IsLeastOf P) (sym k.is_lower) k.is_least

-- what a node with at most one fault keeps, where a right answer excludes it
told_keeps : {A : Type 0} (Right : A → Type 0) (Stands : Fault → Type 0) → ((a : A) (f : Fault) → Right a → Stands f → ⊥) → ((f g : Fault) → Stands f → Stands g → g ≡ f)
    → (o : Option A) (old new : Option Fault) → IsTold Right Stands o old new → KeepsLeast Stands old new
told_keeps Right Stands apart once (Some a) old new told = subst (KeepsLeast Stands old) (sym told.1) (keeps_nothing Stands old (λ f h. apart a f told.0 h))
told_keeps Right Stands apart once None old new told = keeps_one Stands told.0 old new told.1 (λ g h. once told.0 g told.1 h) told.2

told_answered : {A : Type 0} (Given Right : A → Type 0) (Node Stands : Fault → Type 0) → ((a : A) → Given a → Right a) → ((f : Fault) → Node f → Stands f)
    → (o : Option A) (old new : Option Fault) → IsTold Given Node o old new → AnswerOrFault Right Stands o
told_answered Given Right Node Stands right stands (Some a) old new told = right a told.0
told_answered Given Right Node Stands right stands None old new told = (told.0, stands told.0 told.1)

-- more faults that stand
pub told_more : {A : Type 0} (Right : A → Type 0) (P Q : Fault → Type 0) → ((f : Fault) → P f → Q f) → (o : Option A) (old new : Option Fault) → IsTold Right P o old new → IsTold Right Q o old new
told_more Right P Q to (Some a) old new told = told
told_more Right P Q to None old new told = (told.0, to told.0 told.1, told.2)

-- how the faults of a whole are those of its parts and of its node
pub record IsMade (Parts Node Stands : Fault → Type 0) : Type 0 where
  pub to : (f : Fault) → Parts f ⊎ Node f → Stands f
  pub from : (f : Fault) → Stands f → Parts f ⊎ Node f

walked_by : {A : Type 0} (Right : A → Type 0) (Parts Node Stands : Fault → Type 0) → IsMade Parts Node Stands → (o : Option A) (old mid new : Option Fault)
    → AnswerOrFault Right Stands o → KeepsLeast Parts old mid → KeepsLeast Node mid new → IsWalked Right Stands o old new
walked_by Right Parts Node Stands made o old mid new answered parts node = record {
  answered = answered;
  least = keeps_alike (λ f. Parts f ⊎ Node f) Stands old new made.to made.from (keeps_both Parts Node old mid new parts node);
}

-- a whole whose parts gave answers: its node gives one by them, or has a fault
pub walked_with : {A : Type 0} (Given Right : A → Type 0) (Parts Node Stands : Fault → Type 0) → IsMade Parts Node Stands → ((a : A) → Given a → Right a) → ((a : A) (f : Fault) → Given a → Node f → ⊥)
    → ((f g : Fault) → Node f → Node g → g ≡ f) → (o : Option A) (old mid new : Option Fault) → KeepsLeast Parts old mid → IsTold Given Node o mid new → IsWalked Right Stands o old new
walked_with Given Right Parts Node Stands made right apart once o old mid new parts told =
    walked_by Right Parts Node Stands made o old mid new
    (told_answered Given Right Node Stands right (λ f h. made.to f (inr h)) o mid new told) parts (told_keeps Given Node apart once o mid new told)

-- a whole of which some part gave none
pub walked_without : {A : Type 0} (Right : A → Type 0) (Parts Node Stands : Fault → Type 0) → IsMade Parts Node Stands → (g : Fault) → Parts g
    → (old mid new : Option Fault) → KeepsLeast Parts old mid → KeepsLeast Node mid new → IsWalked Right Stands None old new
walked_without Right Parts Node Stands made g broken old mid new parts node =
    walked_by Right Parts Node Stands made None old mid new (g, made.to g (inl broken)) parts node

-- a list of parts: each gives an answer, and all of them the list of these
module _ {X A : Type 0} (Right : X → A → Type 0) (AllRight : List X → List A → Type 0) (StandsIn : X → Fault → Type 0) where
  pub none_in_none : (f : Fault) → StandsInSome StandsIn [] f → ⊥
  none_in_none f (x, c, h) = omega (arith, c.1)

  pub all_none : (old : Option Fault) → AllRight [] [] → IsWalked (AllRight []) (StandsInSome StandsIn []) (Some []) old old
  all_none old right = record { answered = right; least = keeps_nothing (StandsInSome StandsIn []) old none_in_none }

  in_more : (xs : List X) (x : X) (f : Fault) → StandsInSome StandsIn xs f ⊎ StandsIn x f → StandsInSome StandsIn (xs ++ x ∷ []) f
  in_more xs x f (inl (y, c, h)) = (y, Contains-append_left xs (x ∷ []) y c, h)
  in_more xs x f (inr h) = (x, Contains-push xs x, h)

  out_of_more : (xs : List X) (x : X) (f : Fault) → StandsInSome StandsIn (xs ++ x ∷ []) f → StandsInSome StandsIn xs f ⊎ StandsIn x f
  out_of_more xs x f (y, c, h) = elim (Contains-push_cases xs x y c) [
    | inl a ↦ inl (y, a, h)
    | inr same ↦ inr (subst (λ z. StandsIn z f) (sym same) h)
  ]

  made_longer : (xs : List X) (x : X) → IsMade (StandsInSome StandsIn xs) (StandsIn x) (StandsInSome StandsIn (xs ++ x ∷ []))
  made_longer xs x = record { to = in_more xs x; from = out_of_more xs x }

  answered_more : (xs : List X) (x : X) (whole : Bool) (ss : List A) (s : A) → (AllRight xs ss → Right x s → AllRight (xs ++ x ∷ []) (ss ++ s ∷ []))
      → AnswerOrFault (AllRight xs) (StandsInSome StandsIn xs) (cond whole (Some ss) None) → Right x s → AnswerOrFault (AllRight (xs ++ x ∷ [])) (StandsInSome StandsIn (xs ++ x ∷ [])) (cond whole (Some (ss ++ s ∷ [])) None)
  answered_more xs x true ss s longer all one = longer all one
  answered_more xs x false ss s longer all one = (all.0, in_more xs x all.0 (inl all.1))

  -- the parts so far and one more, which gave an answer; the list and the rest are there by names of their own
  pub all_step : (xs ys : List X) (x : X) → ys ≡ xs ++ x ∷ [] → (whole still : Bool) → still ≡ whole → (ss ts : List A) (s : A) → ts ≡ ss ++ s ∷ [] → (found : Option A) → found ≡ Some s
      → (AllRight xs ss → Right x s → AllRight (xs ++ x ∷ []) (ss ++ s ∷ [])) → (old mid new : Option Fault)
      → IsWalked (AllRight xs) (StandsInSome StandsIn xs) (cond whole (Some ss) None) old mid → IsWalked (Right x) (StandsIn x) found mid new
      → IsWalked (AllRight ys) (StandsInSome StandsIn ys) (cond still (Some ts) None) old new
  all_step xs ys x is whole still same ss ts s grown found is_found longer old mid new all one =
      subst (λ zs. IsWalked (AllRight zs) (StandsInSome StandsIn zs) (cond still (Some ts) None) old new) (sym is)
      (subst (λ o. IsWalked (AllRight (xs ++ x ∷ [])) (StandsInSome StandsIn (xs ++ x ∷ [])) o old new) (sym (ap (λ b. cond b (Some ts) None) same ∙ ap (λ us. cond whole (Some us) None) grown))
      (walked_by (AllRight (xs ++ x ∷ [])) (StandsInSome StandsIn xs) (StandsIn x) (StandsInSome StandsIn (xs ++ x ∷ [])) (made_longer xs x) (cond whole (Some (ss ++ s ∷ [])) None) old mid new
      (answered_more xs x whole ss s longer all.answered (subst (AnswerOrFault (Right x) (StandsIn x)) is_found one.answered)) all.least one.least))

  -- one more, which gave none
  pub all_stop : (xs ys : List X) (x : X) → ys ≡ xs ++ x ∷ [] → (answers : Option (List A)) (still : Bool) → still ≡ false → (ts : List A) (found : Option A) → found ≡ None
      → (old mid new : Option Fault) → IsWalked (AllRight xs) (StandsInSome StandsIn xs) answers old mid → IsWalked (Right x) (StandsIn x) found mid new
      → IsWalked (AllRight ys) (StandsInSome StandsIn ys) (cond still (Some ts) None) old new
  all_stop xs ys x is answers still same ts found is_found old mid new all one =
      let fault : AnswerOrFault (Right x) (StandsIn x) None = subst (AnswerOrFault (Right x) (StandsIn x)) is_found one.answered in
      subst (λ zs. IsWalked (AllRight zs) (StandsInSome StandsIn zs) (cond still (Some ts) None) old new) (sym is)
      (subst (λ o. IsWalked (AllRight (xs ++ x ∷ [])) (StandsInSome StandsIn (xs ++ x ∷ [])) o old new) (sym (ap (λ b. cond b (Some ts) None) same))
      (walked_by (AllRight (xs ++ x ∷ [])) (StandsInSome StandsIn xs) (StandsIn x) (StandsInSome StandsIn (xs ++ x ∷ [])) (made_longer xs x) None old mid new
      (fault.0, in_more xs x fault.0 (inr fault.1)) all.least one.least))

  -- at the end all of them were walked
  pub all_end : (xs : List X) (i : ℕ) (whole : Bool) (ss : List A) → whole ≡ false → length xs ≤ i → (old new : Option Fault)
      → IsWalked (AllRight (take i xs)) (StandsInSome StandsIn (take i xs)) (cond whole (Some ss) None) old new → IsWalked (AllRight xs) (StandsInSome StandsIn xs) None old new
  all_end xs i whole ss broken end old new walked =
      subst (λ o. IsWalked (AllRight xs) (StandsInSome StandsIn xs) o old new) (ap (λ b. cond b (Some ss) None) broken)
      (subst (λ ys. IsWalked (AllRight ys) (StandsInSome StandsIn ys) (cond whole (Some ss) None) old new) (take_all i xs end) walked)
