-- Texts, byte by byte.
use Rattle.std.proofs.Common.{◌≡◌, ◌⊎◌, inl, inr, ℕ, ◌≤◌, ◌<◌, nat_le, Bool, true, false, cond, ◌&&◌, ◌||◌, ◌==◌, List, [], ◌∷◌, ◌++◌, Some, None, refl, sym, ap, ◌∙◌, subst, append_assoc, append-nil, arith}
use Rattle.std.specs.List.{list_all, flat_map}
use Rattle.std.proofs.lemmas.Bool.{false≢true, and_parts, and_from, or_cases, cases_eq, cases_lt, leb-true, false_from_ne_true}
use Rattle.std.proofs.lemmas.Grind.{flat_map-append}
use Rattle.std.proofs.lemmas.List.{append_cancel_left}
use Rattle.std.proofs.lemmas.List.Folds.{list_all-append}
use Rattle.pn_text.specs.Characters.{is_within, is_character, characters_of, utf8_of, is_text}
use Rattle.pn_text.proofs.TextLemmas.{is_text-append, is_text-character, text_characters, characters_text, characters-append, all_characters, text_bytes}
use Rattle.pn_utf8.specs.Characters.{is_whole, is_begun, is_further, begin_three, begin_four, is_last_pair, character_behind, open_behind, AreOpen, Cut}
use Rattle.pn_utf8.proofs.CharacterLemmas.{begins_three, begins_four, within_from, lt_of, whole_is, whole_bytes, whole_front, begun_front, begun_not_whole}

pub whole_text : (q : List ℕ) → is_whole q ≡ true → is_text q ≡ true
whole_text q h = let w = whole_is q h in subst (λ l. is_text l ≡ true) w.bytes (is_text-character w.number w.is)

-- one list begins another
data Compare (a d y rest : List ℕ) : Type 0 where
  same : a ≡ y → d ≡ rest → Compare a d y rest
  shorter : (m : ℕ) (more : List ℕ) → y ≡ a ++ (m ∷ more) → d ≡ (m ∷ more) ++ rest → Compare a d y rest
  longer : (m : ℕ) (more : List ℕ) → a ≡ y ++ (m ∷ more) → rest ≡ (m ∷ more) ++ d → Compare a d y rest

compare : (a d y rest : List ℕ) → a ++ d ≡ y ++ rest → Compare a d y rest
compare [] d [] rest e = same refl e
compare [] d (m ∷ y) rest e = shorter m y refl e
compare (x ∷ a) d [] rest e = longer x a refl (sym e)
compare (x ∷ a) d (m ∷ y) rest e = go (compare a d y rest tail)
  where
    tail : a ++ d ≡ y ++ rest
    tail = cc

    head : x ≡ m
    head = cc

    go : Compare a d y rest → Compare (x ∷ a) d (m ∷ y) rest
    go (same i j) = same (ap (λ l. x ∷ l) i ∙ ap (λ z. z ∷ y) head) j
    go (shorter n more i j) = shorter n more (ap (λ l. m ∷ l) i ∙ ap (λ z. z ∷ (a ++ (n ∷ more))) (sym head)) j
    go (longer n more i j) = longer n more (ap (λ l. x ∷ l) i ∙ ap (λ z. z ∷ (y ++ (n ∷ more))) head) j

-- no whole character stands in front of open bytes
no_front : (y more : List ℕ) → is_whole y ≡ true → is_begun (y ++ more) ≡ true → ⊥
no_front [] more h k = false≢true h
no_front (x ∷ y) more h k = begun_not_whole (x ∷ y) (begun_front x y more k) h

-- the first character of a text that begins with open bytes and one more
pub record FirstCharacter (p : List ℕ) (x : ℕ) (c : List ℕ) : Type 0 where
  pub open_bytes : List ℕ
  pub is : open_behind p x ≡ Some open_bytes
  pub rest : is_text (open_bytes ++ c) ≡ true

open_where_whole : (q : List ℕ) → is_whole q ≡ true → character_behind q ≡ Some []
open_where_whole q h = ap (λ b. cond b (Some []) (cond (is_begun q) (Some q) None)) h

open_where_begun : (q : List ℕ) → is_begun q ≡ true → character_behind q ≡ Some q
open_where_begun q h = ap (λ b. cond b (Some []) (cond (is_begun q) (Some q) None)) (false_from_ne_true (is_whole q) (λ k. begun_not_whole q h k)) ∙ ap (λ b. cond b (Some q) None) h

open_begun : (p : List ℕ) (x : ℕ) → AreOpen p → (y : List ℕ) (m : ℕ) (more : List ℕ) → is_whole y ≡ true → p ++ (x ∷ []) ≡ y ++ (m ∷ more) → ⊥
open_begun [] x o [] m more h e = false≢true h
open_begun [] x o (z ∷ y) m more h e = nothing y (tail_of x z y m more e)
  where
    tail_of : (x z : ℕ) (y : List ℕ) (m : ℕ) (more : List ℕ) → x ∷ [] ≡ z ∷ (y ++ (m ∷ more)) → [] ≡ y ++ (m ∷ more)
    tail_of x z y m more e = cc

    nothing : (y : List ℕ) → [] ≡ y ++ (m ∷ more) → ⊥
    nothing [] e = absurd cc
    nothing (w ∷ y) e = absurd cc
open_begun (b ∷ p) x o y m more h e = go (compare (b ∷ p) (x ∷ []) y (m ∷ more) e)
  where
    go : Compare (b ∷ p) (x ∷ []) y (m ∷ more) → ⊥
    go (same i j) = begun_not_whole (b ∷ p) o (subst (λ l. is_whole l ≡ true) (sym i) h)
    go (longer n l i j) = no_front y (n ∷ l) h (subst (λ q. is_begun q ≡ true) i o)
    go (shorter n l i j) = short l j
      where
        short : (l : List ℕ) → x ∷ [] ≡ (n ∷ l) ++ (m ∷ more) → ⊥
        short [] j = absurd cc
        short (w ∷ l) j = absurd cc

pub text_goes : (p : List ℕ) (x : ℕ) (c : List ℕ) → AreOpen p → is_text (p ++ (x ∷ c)) ≡ true → FirstCharacter p x c
text_goes p x c o h = let t = text_characters (p ++ (x ∷ c)) h in go t.spelled t.are_characters t.bytes
  where
    go : (cs : List ℕ) → list_all is_character cs ≡ true → flat_map utf8_of cs ≡ p ++ (x ∷ c) → FirstCharacter p x c
    go [] a e = absurd (nothing p e)
      where
        nothing : (p : List ℕ) → [] ≡ p ++ (x ∷ c) → ⊥
        nothing [] e = absurd cc
        nothing (b ∷ p) e = absurd cc
    go (k ∷ cs) a e = cases (compare (p ++ (x ∷ [])) c (utf8_of k) (flat_map utf8_of cs) (append_assoc p (x ∷ []) c ∙ sym e))
      where
        both : (is_character k ≡ true) × (list_all is_character cs ≡ true)
        both = and_parts (is_character k) (list_all is_character cs) a

        cases : Compare (p ++ (x ∷ [])) c (utf8_of k) (flat_map utf8_of cs) → FirstCharacter p x c
        cases (same i j) =
            record {
              open_bytes = [];
              is = open_where_whole (p ++ (x ∷ [])) (subst (λ l. is_whole l ≡ true) (sym i) (whole_bytes k both.0));
              rest = subst (λ l. is_text l ≡ true) (sym j) (characters_text (flat_map utf8_of cs) (record { spelled = cs; are_characters = both.1; bytes = refl }));
            }
        cases (shorter m more i j) =
            record {
              open_bytes = p ++ (x ∷ []);
              is = open_where_begun (p ++ (x ∷ [])) (begun p (subst (λ l. is_whole l ≡ true) i (whole_bytes k both.0)));
              rest = subst (λ l. is_text l ≡ true) (sym (append_assoc p (x ∷ []) c)) h;
            }
          where
            begun : (p : List ℕ) → is_whole ((p ++ (x ∷ [])) ++ (m ∷ more)) ≡ true → is_begun (p ++ (x ∷ [])) ≡ true
            begun [] h = whole_front x [] m more h
            begun (b ∷ p) h = whole_front b (p ++ (x ∷ [])) m more h
        cases (longer m more i j) = absurd (open_begun p x o (utf8_of k) m more (whole_bytes k both.0) i)

-- the same as an alternative
pub open_cases : (p : List ℕ) (x : ℕ) (o : List ℕ) → open_behind p x ≡ Some o
    → ((is_whole (p ++ (x ∷ [])) ≡ true) × (o ≡ [])) ⊎ ((is_begun (p ++ (x ∷ [])) ≡ true) × (o ≡ p ++ (x ∷ [])))
open_cases p x o e = go (is_whole (p ++ (x ∷ []))) (is_begun (p ++ (x ∷ []))) refl refl e
  where
    q : List ℕ
    q = p ++ (x ∷ [])

    go : (a b : Bool) → is_whole (p ++ (x ∷ [])) ≡ a → is_begun (p ++ (x ∷ [])) ≡ b → cond a (Some []) (cond b (Some (p ++ (x ∷ []))) None) ≡ Some o
        → ((is_whole (p ++ (x ∷ [])) ≡ true) × (o ≡ [])) ⊎ ((is_begun (p ++ (x ∷ [])) ≡ true) × (o ≡ p ++ (x ∷ [])))
    go true b h k i = inl (h, cc)
    go false true h k i = inr (k, cc)
    go false false h k i = absurd cc

pub text_comes : (p : List ℕ) (x : ℕ) (c o : List ℕ) → open_behind p x ≡ Some o → is_text (o ++ c) ≡ true → is_text (p ++ (x ∷ c)) ≡ true
text_comes p x c o e h = go (open_cases p x o e)
  where
    go : ((is_whole (p ++ (x ∷ [])) ≡ true) × (o ≡ [])) ⊎ ((is_begun (p ++ (x ∷ [])) ≡ true) × (o ≡ p ++ (x ∷ []))) → is_text (p ++ (x ∷ c)) ≡ true
    go (inl k) = subst (λ l. is_text l ≡ true) (append_assoc p (x ∷ []) c) (is_text-append (p ++ (x ∷ [])) c (whole_text (p ++ (x ∷ [])) k.0) (subst (λ l. is_text (l ++ c) ≡ true) k.1 h))
    go (inr k) = subst (λ l. is_text l ≡ true) (append_assoc p (x ∷ []) c) (subst (λ l. is_text (l ++ c) ≡ true) k.1 h)

-- behind a byte that is taken there are open bytes
pub open_still : (p : List ℕ) (x : ℕ) (o : List ℕ) → open_behind p x ≡ Some o → AreOpen o
open_still p x o e = go (open_cases p x o e)
  where
    begun_open : (q : List ℕ) → is_begun q ≡ true → AreOpen q
    begun_open [] h = tt
    begun_open (b ∷ q) h = h

    go : ((is_whole (p ++ (x ∷ [])) ≡ true) × (o ≡ [])) ⊎ ((is_begun (p ++ (x ∷ [])) ≡ true) × (o ≡ p ++ (x ∷ []))) → AreOpen o
    go (inl k) = subst AreOpen (sym k.1) tt
    go (inr k) = subst AreOpen (sym k.1) (begun_open (p ++ (x ∷ [])) k.0)

-- whole characters and open bytes, and one more byte
pub cut_next : (b p : List ℕ) (x : ℕ) (o : List ℕ) → open_behind p x ≡ Some o → Cut b p → Cut (b ++ (x ∷ [])) o
cut_next b p x o e (w, t, i) = go (open_cases p x o e)
  where
    all : b ++ (x ∷ []) ≡ w ++ (p ++ (x ∷ []))
    all = ap (λ l. l ++ (x ∷ [])) i ∙ append_assoc w p (x ∷ [])

    go : ((is_whole (p ++ (x ∷ [])) ≡ true) × (o ≡ [])) ⊎ ((is_begun (p ++ (x ∷ [])) ≡ true) × (o ≡ p ++ (x ∷ []))) → Cut (b ++ (x ∷ [])) o
    go (inl k) = (
      w ++ (p ++ (x ∷ [])),
      is_text-append w (p ++ (x ∷ [])) t (whole_text (p ++ (x ∷ [])) k.0),
      ap (λ l. l ++ (x ∷ [])) i ∙ append_assoc w p (x ∷ []) ∙ sym (append-nil (w ++ (p ++ (x ∷ [])))) ∙ ap (λ l. (w ++ (p ++ (x ∷ []))) ++ l) (sym k.1),
    )
    go (inr k) = (w, t, ap (λ l. l ++ (x ∷ [])) i ∙ append_assoc w p (x ∷ []) ∙ ap (λ l. w ++ l) (sym k.1))

pub cut_text : (b : List ℕ) → Cut b [] → is_text b ≡ true
cut_text b (w, t, i) = subst (λ l. is_text l ≡ true) (sym (i ∙ append-nil w)) t

pub text_cut : (b : List ℕ) → is_text b ≡ true → Cut b []
text_cut b h = (b, h, sym (append-nil b))

-- an ASCII byte stands alone

not_within : (low high b : ℕ) → b < low → is_within low high b ≡ true → ⊥
not_within low high b h k = let l : low ≤ b = leb-true low b (and_parts (nat_le low b) (nat_le b high) k).0 in omega arith

three_further : (a b : ℕ) → begin_three a b ≡ true → 0x80 ≤ b
three_further a b h = go (or_cases ((a == 0xE0) && is_within 0xA0 0xBF b) ((is_within 0xE1 0xEC a && is_further b) || (((a == 0xED) && is_within 0x80 0x9F b) || (is_within 0xEE 0xEF a && is_further b))) h)
  where
    low : (l high : ℕ) → 0x80 ≤ l → is_within l high b ≡ true → 0x80 ≤ b
    low l high i k = let m : l ≤ b = leb-true l b (and_parts (nat_le l b) (nat_le b high) k).0 in omega arith

    go3 : (((a == 0xED) && is_within 0x80 0x9F b) ≡ true) ⊎ ((is_within 0xEE 0xEF a && is_further b) ≡ true) → 0x80 ≤ b
    go3 (inl k) = low 0x80 0x9F (omega arith) (and_parts (a == 0xED) (is_within 0x80 0x9F b) k).1
    go3 (inr k) = low 0x80 0xBF (omega arith) (and_parts (is_within 0xEE 0xEF a) (is_further b) k).1

    go2 : ((is_within 0xE1 0xEC a && is_further b) ≡ true) ⊎ ((((a == 0xED) && is_within 0x80 0x9F b) || (is_within 0xEE 0xEF a && is_further b)) ≡ true) → 0x80 ≤ b
    go2 (inl k) = low 0x80 0xBF (omega arith) (and_parts (is_within 0xE1 0xEC a) (is_further b) k).1
    go2 (inr k) = go3 (or_cases ((a == 0xED) && is_within 0x80 0x9F b) (is_within 0xEE 0xEF a && is_further b) k)

    go : (((a == 0xE0) && is_within 0xA0 0xBF b) ≡ true) ⊎ (((is_within 0xE1 0xEC a && is_further b) || (((a == 0xED) && is_within 0x80 0x9F b) || (is_within 0xEE 0xEF a && is_further b))) ≡ true) → 0x80 ≤ b
    go (inl k) = low 0xA0 0xBF (omega arith) (and_parts (a == 0xE0) (is_within 0xA0 0xBF b) k).1
    go (inr k) = go2 (or_cases (is_within 0xE1 0xEC a && is_further b) (((a == 0xED) && is_within 0x80 0x9F b) || (is_within 0xEE 0xEF a && is_further b)) k)

four_further : (a b : ℕ) → begin_four a b ≡ true → 0x80 ≤ b
four_further a b h = go (or_cases ((a == 0xF0) && is_within 0x90 0xBF b) ((is_within 0xF1 0xF3 a && is_further b) || ((a == 0xF4) && is_within 0x80 0x8F b)) h)
  where
    low : (l high : ℕ) → 0x80 ≤ l → is_within l high b ≡ true → 0x80 ≤ b
    low l high i k = let m : l ≤ b = leb-true l b (and_parts (nat_le l b) (nat_le b high) k).0 in omega arith

    go2 : ((is_within 0xF1 0xF3 a && is_further b) ≡ true) ⊎ (((a == 0xF4) && is_within 0x80 0x8F b) ≡ true) → 0x80 ≤ b
    go2 (inl k) = low 0x80 0xBF (omega arith) (and_parts (is_within 0xF1 0xF3 a) (is_further b) k).1
    go2 (inr k) = low 0x80 0x8F (omega arith) (and_parts (a == 0xF4) (is_within 0x80 0x8F b) k).1

    go : (((a == 0xF0) && is_within 0x90 0xBF b) ≡ true) ⊎ (((is_within 0xF1 0xF3 a && is_further b) || ((a == 0xF4) && is_within 0x80 0x8F b)) ≡ true) → 0x80 ≤ b
    go (inl k) = low 0x90 0xBF (omega arith) (and_parts (a == 0xF0) (is_within 0x90 0xBF b) k).1
    go (inr k) = go2 (or_cases (is_within 0xF1 0xF3 a && is_further b) ((a == 0xF4) && is_within 0x80 0x8F b) k)

-- behind open bytes no ASCII byte comes
last_further : (b : ℕ) (p : List ℕ) (x : ℕ) → x < 0x80 → is_whole ((b ∷ p) ++ (x ∷ [])) ≡ true → ⊥
last_further b [] x h k = not_within 0x80 0xBF x h (and_parts (is_within 0xC2 0xDF b) (is_further x) k).1
last_further b (c ∷ []) x h k =
    let l = (and_parts (begin_three b c) (cond (is_last_pair b c x) false (is_further x)) k).1 in go (is_last_pair b c x) l
  where
    go : (t : Bool) → cond t false (is_further x) ≡ true → ⊥
    go true l = false≢true l
    go false l = not_within 0x80 0xBF x h l
last_further b (c ∷ d ∷ []) x h k = not_within 0x80 0xBF x h (and_parts (is_further d) (is_further x) (and_parts (begin_four b c) (is_further d && is_further x) k).1).1
last_further b (c ∷ d ∷ e ∷ p) x h k = go p k
  where
    go : (p : List ℕ) → is_whole (b ∷ c ∷ d ∷ e ∷ (p ++ (x ∷ []))) ≡ true → ⊥
    go [] k = false≢true k
    go (f ∷ p) k = false≢true k

last_begun : (b : ℕ) (p : List ℕ) (x : ℕ) → x < 0x80 → is_begun ((b ∷ p) ++ (x ∷ [])) ≡ true → ⊥
last_begun b [] x h k = go (or_cases (begin_three b x) (begin_four b x) k)
  where
    go : (begin_three b x ≡ true) ⊎ (begin_four b x ≡ true) → ⊥
    go (inl l) = let m : 0x80 ≤ x = three_further b x l in omega arith
    go (inr l) = let m : 0x80 ≤ x = four_further b x l in omega arith
last_begun b (c ∷ []) x h k = not_within 0x80 0xBF x h (and_parts (begin_four b c) (is_further x) k).1
last_begun b (c ∷ d ∷ p) x h k = go p k
  where
    go : (p : List ℕ) → is_begun (b ∷ c ∷ d ∷ (p ++ (x ∷ []))) ≡ true → ⊥
    go [] k = false≢true k
    go (f ∷ p) k = false≢true k

pub ascii_alone : (p : List ℕ) (x : ℕ) (o : List ℕ) → x < 0x80 → open_behind p x ≡ Some o → (p ≡ []) × (o ≡ [])
ascii_alone [] x o h e = (refl, go (open_cases [] x o e))
  where
    go : ((is_whole (x ∷ []) ≡ true) × (o ≡ [])) ⊎ ((is_begun (x ∷ []) ≡ true) × (o ≡ x ∷ [])) → o ≡ []
    go (inl k) = k.1
    go (inr k) = absurd (not_within 0xC2 0xF4 x (omega arith) k.0)
ascii_alone (b ∷ p) x o h e = go (open_cases (b ∷ p) x o e)
  where
    go : ((is_whole ((b ∷ p) ++ (x ∷ [])) ≡ true) × (o ≡ [])) ⊎ ((is_begun ((b ∷ p) ++ (x ∷ [])) ≡ true) × (o ≡ (b ∷ p) ++ (x ∷ []))) → (b ∷ p ≡ []) × (o ≡ [])
    go (inl k) = absurd (last_further b p x h k.0)
    go (inr k) = absurd (last_begun b p x h k.0)

-- open bytes are no text
pub open_text : (p : List ℕ) → AreOpen p → is_text p ≡ true → p ≡ []
open_text [] o h = refl
open_text (b ∷ p) o h = let t = text_characters (b ∷ p) h in go t.spelled t.are_characters t.bytes
  where
    go : (cs : List ℕ) → list_all is_character cs ≡ true → flat_map utf8_of cs ≡ b ∷ p → b ∷ p ≡ []
    go [] a e = sym e
    go (k ∷ cs) a e =
        absurd (no_front (utf8_of k) (flat_map utf8_of cs) (whole_bytes k (and_parts (is_character k) (list_all is_character cs) a).0) (subst (λ l. is_begun l ≡ true) (sym e) o))

-- open bytes can be completed
pub record CanBeFilled (p : List ℕ) : Type 0 where
  pub more : List ℕ
  pub high : list_all (nat_le 0x80) more ≡ true
  pub is : is_whole (p ++ more) ≡ true

no_pair : (a b : ℕ) → is_last_pair a b 0x80 ≡ false
no_pair a b = go (a == 0xEF) (b == 0xBF)
  where
    go : (p q : Bool) → (p && (q && false)) ≡ false
    go true true = refl
    go true false = refl
    go false q = refl

fill_one : (a : ℕ) → is_within 0xC2 0xF4 a ≡ true → CanBeFilled (a ∷ [])
fill_one a h = go (cases_lt a 0xE0) (cases_eq a 0xE0) (cases_lt a 0xF0) (cases_eq a 0xF0)
  where
    both : (nat_le 0xC2 a ≡ true) × (nat_le a 0xF4 ≡ true)
    both = and_parts (nat_le 0xC2 a) (nat_le a 0xF4) h

    low : 0xC2 ≤ a
    low = leb-true 0xC2 a (and_parts (nat_le 0xC2 a) (nat_le a 0xF4) h).0

    high : a ≤ 0xF4
    high = leb-true a 0xF4 (and_parts (nat_le 0xC2 a) (nat_le a 0xF4) h).1

    three : 0xE0 < a → a < 0xF0 → begin_three a 0x80 ≡ true
    three l u = begins_three a 0x80 (omega arith) (omega arith) (omega arith) (omega arith) (λ e. absurd (omega arith)) (λ e. omega arith)

    four : 0xF0 < a → a ≤ 0xF4 → begin_four a 0x80 ≡ true
    four l u = begins_four a 0x80 (omega arith) u (omega arith) (omega arith) (λ e. absurd (omega arith)) (λ e. omega arith)

    go : (a < 0xE0) ⊎ (0xE0 ≤ a) → (a ≡ 0xE0) ⊎ (a ≡ 0xE0 → ⊥) → (a < 0xF0) ⊎ (0xF0 ≤ a) → (a ≡ 0xF0) ⊎ (a ≡ 0xF0 → ⊥) → CanBeFilled (a ∷ [])
    go (inl l) f g k = let lo = low in record { more = 0x80 ∷ []; high = refl; is = and_from (is_within 0xC2 0xDF a) true (within_from 0xC2 0xDF a lo (omega arith)) refl }
    go (inr l) (inl f) g k = record { more = 0xA0 ∷ 0x80 ∷ []; high = refl; is = subst (λ y. is_whole (y ∷ 0xA0 ∷ 0x80 ∷ []) ≡ true) (sym f) refl }
    go (inr l) (inr f) (inl g) k =
        let up : 0xE0 < a = lt_of 0xE0 a l (λ q. f (sym q)) in
        record {
          more = 0x80 ∷ 0x80 ∷ [];
          high = refl;
          is = and_from (begin_three a 0x80) (cond (is_last_pair a 0x80 0x80) false (is_further 0x80)) (three up g) (ap (λ t. cond t false true) (no_pair a 0x80));
        }
    go (inr l) (inr f) (inr g) (inl k) = record { more = 0x90 ∷ 0x80 ∷ 0x80 ∷ []; high = refl; is = subst (λ y. is_whole (y ∷ 0x90 ∷ 0x80 ∷ 0x80 ∷ []) ≡ true) (sym k) refl }
    go (inr l) (inr f) (inr g) (inr k) =
        let up : 0xF0 < a = lt_of 0xF0 a g (λ q. k (sym q)) in
        record { more = 0x80 ∷ 0x80 ∷ 0x80 ∷ []; high = refl; is = and_from (begin_four a 0x80) true (four up high) refl }

pub fill : (b : ℕ) (p : List ℕ) → is_begun (b ∷ p) ≡ true → CanBeFilled (b ∷ p)
fill a [] h = fill_one a h
fill a (b ∷ []) h = go (or_cases (begin_three a b) (begin_four a b) h)
  where
    go : (begin_three a b ≡ true) ⊎ (begin_four a b ≡ true) → CanBeFilled (a ∷ b ∷ [])
    go (inl k) = record { more = 0x80 ∷ []; high = refl; is = and_from (begin_three a b) (cond (is_last_pair a b 0x80) false (is_further 0x80)) k (ap (λ t. cond t false true) (no_pair a b)) }
    go (inr k) = record { more = 0x80 ∷ 0x80 ∷ []; high = refl; is = and_from (begin_four a b) true k refl }
fill a (b ∷ c ∷ []) h =
    let k = and_parts (begin_four a b) (is_further c) h in
    record { more = 0x80 ∷ []; high = refl; is = and_from (begin_four a b) (is_further c && true) k.0 (and_from (is_further c) true k.1 refl) }
fill a (b ∷ c ∷ d ∷ p) h = absurd (false≢true h)

-- what stands behind a text, within a text, is one
pub text_rest : (xs ys : List ℕ) → is_text xs ≡ true → is_text (xs ++ ys) ≡ true → is_text ys ≡ true
text_rest xs ys h k =
    let split = characters-append xs ys h in
    let all : (list_all is_character (characters_of xs) && list_all is_character (characters_of ys)) ≡ true =
    sym (ap (list_all is_character) split ∙ list_all-append is_character (characters_of xs) (characters_of ys)) ∙ all_characters (xs ++ ys) k in
    let back : xs ++ flat_map utf8_of (characters_of ys) ≡ xs ++ ys =
    ap (λ l. l ++ flat_map utf8_of (characters_of ys)) (sym (text_bytes xs h)) ∙ sym (flat_map-append utf8_of (characters_of xs) (characters_of ys)) ∙ ap (flat_map utf8_of) (sym split) ∙ text_bytes (xs ++ ys) k in
    characters_text ys (record {
      spelled = characters_of ys;
      are_characters = (and_parts (list_all is_character (characters_of xs)) (list_all is_character (characters_of ys)) all).1;
      bytes = append_cancel_left xs (flat_map utf8_of (characters_of ys)) ys back;
    })
