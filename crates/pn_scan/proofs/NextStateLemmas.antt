-- What the machine makes of some bytes.
use Rattle.std.specs.List.{slice_get, starts_with}
use Rattle.std.proofs.Common.{◌≡◌, ℕ, zero, suc, ◌+◌, add-one, drop, nat_eq, ◌==◌, ◌&&◌, Bool, true, false, cond, codes, List, [], ◌∷◌, Some, None, refl, sym, ap, ◌∙◌, subst}
use Rattle.std.proofs.lemmas.Bool.{eq-eqb}
use Rattle.std.specs.Char.{encode_utf8}
use Rattle.pn_text.specs.Characters.{utf8_of}
use Rattle.pn_markup.specs.Bytes.{is_space, begins_with}
use Rattle.pn_scan.specs.Rest.{may_end}
use Rattle.pn_markup.specs.Misc.{is_xml}
use Rattle.pn_scan.specs.State.{State, Nesting, Stage, before, behind, outside, due, in_declaration, behind_piece}
use Rattle.pn_scan.specs.Nestings.{inner_of}
use Rattle.pn_scan.specs.Contexts.{next_behind_root, end_state, end_of}
use Rattle.pn_scan.specs.NextState.{goes_due, next_due, next_state, next_in_declaration, part_begins, next_outside, next_in_target}

pub if_false : {A : Type 0} → (b : Bool) (x y : A) → b ≡ false → cond b x y ≡ y
if_false true x y h = absurd (cc)
if_false false x y h = refl

pub if_true : {A : Type 0} → (b : Bool) (x y : A) → b ≡ true → cond b x y ≡ x
if_true true x y h = refl
if_true false x y h = absurd (cc)

-- a question mark behind the name of a processing instruction
pub target_question : (first : Bool) (p : Nesting) (name : List ℕ) → (name ≡ [] → ⊥) → is_xml name ≡ false → next_in_target first p name 63 ≡ Some (due (codes ">") (behind_piece p))
target_question first p [] some other = absurd (some refl)
target_question first p (n ∷ ns) some other = if_false (is_xml (n ∷ ns)) None (Some (due (codes ">") (behind_piece p))) other

-- a byte where a piece stands behind the root
pub behind_is : (p : Nesting) (at x : ℕ) → p ≡ behind (inner_of p) → next_state (behind_piece p) at x ≡ next_behind_root p at x
behind_is p at x h = subst (λ q. next_state (behind_piece q) at x ≡ next_behind_root q at x) (sym h) refl

pub before_is : (p : Nesting) (at x : ℕ) → p ≡ before → next_state (behind_piece p) at x ≡ next_outside false at x
before_is p at x h = ap (λ q. next_state (behind_piece q) at x) h

-- an end tag's name

drop_some : (xs : List ℕ) (i x : ℕ) → slice_get xs i ≡ Some x → drop i xs ≡ x ∷ drop (suc i) xs
drop_some [] i x h = absurd (cc)
drop_some (y ∷ ys) zero x h = let e : y ≡ x = cc in ap (λ z. z ∷ ys) e
drop_some (y ∷ ys) (suc i) x h = drop_some ys i x h

drop_none : (xs : List ℕ) (i : ℕ) → slice_get xs i ≡ None → drop i xs ≡ []
drop_none [] zero h = refl
drop_none [] (suc i) h = refl
drop_none (y ∷ ys) zero h = absurd (cc)
drop_none (y ∷ ys) (suc i) h = drop_none ys i h

pub end_some : (p : Nesting) (read x at byte : ℕ) → slice_get (inner_of p).name read ≡ Some x
    → next_state (end_of p read) at byte ≡ cond (nat_eq x byte) (Some (end_of p (read + 1))) None
end_some p read x at byte h =
    let left : drop read (inner_of p).name ≡ x ∷ drop (read + 1) (inner_of p).name =
    drop_some (inner_of p).name read x h ∙ ap (λ i. x ∷ drop i (inner_of p).name) (sym (add-one read)) in
    ap (λ l. next_state (goes_due l (end_state p)) at byte) left

pub end_none : (p : Nesting) (read : ℕ) → slice_get (inner_of p).name read ≡ None → end_of p read ≡ end_state p
end_none p read h = ap (λ l. goes_due l (end_state p)) (drop_none (inner_of p).name read h)

-- fronts of lists

pub front_is : (front whole : List ℕ) → begins_with front whole ≡ starts_with nat_eq whole front
front_is [] whole = refl
front_is (a ∷ ms) [] = refl
front_is (a ∷ ms) (b ∷ bs) = ap (λ t. nat_eq a b && t) (front_is ms bs)

pub utf8_is : (c : ℕ) → utf8_of c ≡ encode_utf8 c
unfolding encode_utf8
utf8_is c = refl

-- a byte in the declaration that is neither white space nor its end
pub declaration_part : (stage : Stage) (spaced : Bool) (x : ℕ) → is_space x ≡ false → ((x == 63) && may_end stage) ≡ false → spaced ≡ true
    → next_in_declaration stage spaced x ≡ part_begins stage x
declaration_part stage spaced x no_space no_end is_spaced =
    if_false (is_space x) (Some (in_declaration stage true)) (cond ((x == 63) && may_end stage) (Some (due (codes ">") (outside false))) (cond spaced (part_begins stage x) None)) no_space
    ∙ if_false ((x == 63) && may_end stage) (Some (due (codes ">") (outside false))) (cond spaced (part_begins stage x) None) no_end
    ∙ if_true spaced (part_begins stage x) None is_spaced

-- what is left of a word behind one byte more
pub rest_due : (n : ℕ) (w : List ℕ) (b : ℕ) (rest : List ℕ) → drop n w ≡ b ∷ rest → drop (n + 1) w ≡ rest
rest_due n w b rest h = ap (λ i. drop i w) (add-one n) ∙ go n w h
  where
    go : (i : ℕ) (l : List ℕ) → drop i l ≡ b ∷ rest → drop (suc i) l ≡ rest
    go zero [] h = absurd (cc)
    go zero (x ∷ xs) h = cc
    go (suc i) [] h = absurd (cc)
    go (suc i) (x ∷ xs) h = go i xs h

pub due_next : (n : ℕ) (w : List ℕ) (b : ℕ) (rest : List ℕ) (s : State) → drop n w ≡ b ∷ rest → (rest ≡ [] → ⊥) → next_due (drop n w) s b ≡ Some (due (drop (n + 1) w) s)
due_next n w b rest s h some =
    ap (λ l. next_due l s b) h ∙ (if_true (b == b) (Some (goes_due rest s)) None (eq-eqb b b refl) ∙ ap Some (goes rest some ∙ ap (λ l. due l s) (sym (rest_due n w b rest h))))
  where
    goes : (l : List ℕ) → (l ≡ [] → ⊥) → goes_due l s ≡ due l s
    goes [] none = absurd (none refl)
    goes (x ∷ xs) none = refl
