-- References, byte by byte.
use Rattle.std.proofs.Common.{◌≡◌, ℕ, zero, suc, ◌+◌, ◌*◌, ◌≤◌, nat_le, Bool, true, false, cond, ◌&&◌, ◌||◌, ◌==◌, inl, inr, List, [], ◌∷◌, ◌++◌, codes, Option, Some, None, refl, sym, ap, ◌∙◌, subst, append_assoc, append-nil, arith}
use Rattle.std.proofs.lemmas.Bool.{false≢true, eqb-true, and_parts, and_from, or_left, or_right, eq-eqb}
use Rattle.std.proofs.lemmas.Bool.Decides.{nat_tests}
use Rattle.std.proofs.lemmas.Slice.Eq.{bytes_eq-Decides}
use Rattle.std.specs.List.{list_all}
use Rattle.std.specs.Char.{digit_value}
use Rattle.std.specs.Str.{bytes_eq}
use Rattle.pn_text.specs.Characters.{is_character, utf8_of}
use Rattle.pn_markup.specs.Bytes.{begins_with}
use Rattle.pn_markup.specs.References.{Entity, lt, gt, amp, apos, quot, entity_name, entity_text, is_digit, number_behind, Number, Reference, entity, decimal, hexadecimal}
use Rattle.pn_tree.specs.declared.element.Element.{Element}
use Rattle.pn_scan.specs.State.{Holder, of_content, of_value, at_reference, in_entity, at_number, in_number, behind_reference}
use Rattle.pn_scan.specs.Rest.{Rest, Held, NumberMore, EntityMore}
use Rattle.pn_scan.specs.NextState.{next_state, entity_of, is_entity_front, entity_found, next_in_entity, next_in_number}
use Rattle.pn_scan.proofs.Tools.{Law, law_if, law_some, law_none, law_at, head_is, tail_is, no_head, differs, apart}
use Rattle.pn_scan.proofs.Spans.{Front, here, there, front_of, all_rest, all_more, span_out}

-- behind a reference it goes on as its state says
pub held_goes : (holder : Holder) (text : List ℕ) (N : ℕ) (t : Element) (c : List ℕ) → Held N t holder text c → Rest (behind_reference holder text) N t c
held_goes (of_content levels e outer) text N t c r = r
held_goes (of_value levels outer e name quote value) text N t c r = r

pub held_comes : (holder : Holder) (text : List ℕ) (N : ℕ) (t : Element) (c : List ℕ) → Rest (behind_reference holder text) N t c → Held N t holder text c
held_comes (of_content levels e outer) text N t c r = r
held_comes (of_value levels outer e name quote value) text N t c r = r

-- numbers

pub number_grows : (base n : ℕ) (ds : List ℕ) → 1 ≤ base → n ≤ number_behind base n ds
number_grows base n [] h = omega arith
number_grows base n (d ∷ ds) h =
    let up : n ≤ n * base = grow base h in
    omega (arith, number_grows base (n * base + digit_value d) ds h, up)
  where
    grow : (b : ℕ) → 1 ≤ b → n ≤ n * b
    grow zero h = absurd (omega arith)
    grow (suc b) h = grind arith

character_small : (c : ℕ) → is_character c ≡ true → c ≤ 0x10_FFFF
character_small c h = grind (arith, nat_tests)

semicolon_no_digit : (base : ℕ) → base ≤ 36 → is_digit base 59 ≡ false
semicolon_no_digit base h = grind (arith, nat_tests)

module _ (holder : Holder) (base : ℕ) (one : 1 ≤ base) (small : base ≤ 36) where
  abbrev More : ℕ → ℕ → Element → Bool → List ℕ → Type 0
  More n N t any c = NumberMore base n any (Held N t holder) c

  digit_goes : (n : ℕ) (any : Bool) (x : ℕ) → is_digit base x ≡ true → (N : ℕ) (t : Element) (c : List ℕ) → More n N t any (x ∷ c)
      → (nat_le (n * base + digit_value x) 0x10_FFFF ≡ true) × More (n * base + digit_value x) N t true c
  digit_goes n any x h N t c m = go (front_of x c m.digits (59 ∷ m.rest) m.whole)
    where
      go : Front x c m.digits (59 ∷ m.rest) → (nat_le (n * base + digit_value x) 0x10_FFFF ≡ true) × More (n * base + digit_value x) N t true c
      go (here i j) = absurd (apart (is_digit base) x 59 c m.rest h (semicolon_no_digit base small) (sym j))
      go (there more i j) =
          let is_char : is_character (number_behind base (n * base + digit_value x) more) ≡ true = subst (λ l. is_character (number_behind base n l) ≡ true) i m.character in
          let below : n * base + digit_value x ≤ 0x10_FFFF =
          omega (arith, number_grows base (n * base + digit_value x) more one, character_small (number_behind base (n * base + digit_value x) more) is_char) in (
            grind (arith, nat_tests),
            record {
              digits = more;
              rest = m.rest;
              first = λ a b. absurd (false≢true (sym a));
              are_digits = all_rest (is_digit base) x more (subst (λ l. list_all (is_digit base) l ≡ true) i m.are_digits);
              character = is_char;
              goes_on = subst (λ l. Held N t holder (utf8_of (number_behind base n l)) m.rest) i m.goes_on;
              whole = j;
            },
          )

  digit_comes : (n : ℕ) (any : Bool) (x : ℕ) → is_digit base x ≡ true → (N : ℕ) (t : Element) (c : List ℕ) → More (n * base + digit_value x) N t true c → More n N t any (x ∷ c)
  digit_comes n any x h N t c m =
      record {
        digits = x ∷ m.digits;
        rest = m.rest;
        first = λ a b. no_head x m.digits (sym b);
        are_digits = all_more (is_digit base) x m.digits h m.are_digits;
        character = m.character;
        goes_on = m.goes_on;
        whole = ap (λ l. x ∷ l) m.whole;
      }

  -- no digit comes
  digits_over : (n : ℕ) (any : Bool) (x : ℕ) → is_digit base x ≡ false → (N : ℕ) (t : Element) (c : List ℕ) → More n N t any (x ∷ c)
      → (x ≡ 59) × (any ≡ true) × (is_character n ≡ true) × Held N t holder (utf8_of n) c
  digits_over n any x h N t c m = go any m
    where
      ended : (a : Bool) (m : More n N t a (x ∷ c)) → (m.digits ≡ []) × (59 ∷ m.rest ≡ x ∷ c)
      ended a m = span_out (is_digit base) x c m.digits (59 ∷ m.rest) m.are_digits h m.whole

      go : (a : Bool) → More n N t a (x ∷ c) → (x ≡ 59) × (a ≡ true) × (is_character n ≡ true) × Held N t holder (utf8_of n) c
      go false m = absurd (m.first refl (ended false m).0)
      go true m =
          let w = ended true m in (
            sym (head_is 59 x m.rest c w.1),
            refl,
            subst (λ l. is_character (number_behind base n l) ≡ true) w.0 m.character,
            subst (Held N t holder (utf8_of n)) (tail_is 59 x m.rest c w.1) (subst (λ l. Held N t holder (utf8_of (number_behind base n l)) m.rest) w.0 m.goes_on),
          )

  number_ends : (n : ℕ) (any : Bool) → any ≡ true → is_character n ≡ true → (N : ℕ) (t : Element) (c : List ℕ) → Held N t holder (utf8_of n) c → More n N t any (59 ∷ c)
  number_ends n any h k N t c r =
      record { digits = []; rest = c; first = λ a b. false≢true (sym a ∙ h); are_digits = refl; character = k; goes_on = r; whole = refl }

  pub law_number : (n : ℕ) (any : Bool) (at x : ℕ) → Law (Rest (in_number holder base n any)) at x (next_in_number holder base n any x)
  law_number n any at x =
      let R = Rest (in_number holder base n any) in
      let next = n * base + digit_value x in
      let done = Some (behind_reference holder (utf8_of n)) in
      law_if R at x (is_digit base x) (cond (nat_le next 0x10_FFFF) (Some (in_number holder base next true)) None) (cond ((x == 59) && (any && is_character n)) done None)
      (λ h. law_if R at x (nat_le next 0x10_FFFF) (Some (in_number holder base next true)) None
      (λ k. law_some R at x (in_number holder base next true) (λ N t c m. (digit_goes n any x h N t c m).1) (digit_comes n any x h))
      (λ k. law_none R at x (λ N t c m. false≢true (sym k ∙ (digit_goes n any x h N t c m).0))))
      (λ h. law_if R at x ((x == 59) && (any && is_character n)) done None
      (λ k. let a = and_parts (x == 59) (any && is_character n) k in let b = and_parts any (is_character n) a.1 in
      law_at R at x 59 done a.0 (law_some R at 59 (behind_reference holder (utf8_of n))
      (λ N t c m. held_goes holder (utf8_of n) N t c (digits_over n any 59 (semicolon_no_digit base small) N t c m).3)
      (λ N t c r. number_ends n any b.0 b.1 N t c (held_comes holder (utf8_of n) N t c r))))
      (λ k. law_none R at x (λ N t c m. let d = digits_over n any x h N t c m in
      false≢true (sym k ∙ and_from (x == 59) (any && is_character n) (eq-eqb x 59 d.0) (and_from any (is_character n) d.1 d.2)))))

pub law_at_number : (holder : Holder) (at x : ℕ) → Law (Rest (at_number holder)) at x (next_state (at_number holder) at x)
law_at_number holder at x =
    let R = Rest (at_number holder) in
    let l = law_number holder 10 (omega arith) (omega arith) 0 false at x in
    law_if R at x (x == 120) (Some (in_number holder 16 0 false)) (next_in_number holder 10 0 false x)
    (λ h. law_at R at x 120 (Some (in_number holder 16 0 false)) h (law_some R at 120 (in_number holder 16 0 false) hex_goes hex_comes))
    (λ h. record { goes = λ N t c w m. l.goes N t c w (decimal_only h N t c m); comes = λ N t c w r. inl (l.comes N t c w r) })
  where
    hex_goes : (N : ℕ) (t : Element) (c : List ℕ) → Rest (at_number holder) N t (120 ∷ c) → NumberMore 16 0 false (Held N t holder) c
    hex_goes N t c (inl m) =
        let w = span_out (is_digit 10) 120 c m.digits (59 ∷ m.rest) m.are_digits refl m.whole in absurd (m.first refl w.0)
    hex_goes N t c (inr r) = subst (NumberMore 16 0 false (Held N t holder)) (sym (tail_is 120 120 c r.0 r.2)) r.1

    hex_comes : (N : ℕ) (t : Element) (c : List ℕ) → NumberMore 16 0 false (Held N t holder) c → Rest (at_number holder) N t (120 ∷ c)
    hex_comes N t c m = inr (c, m, refl)

    decimal_only : (x == 120) ≡ false → (N : ℕ) (t : Element) (c : List ℕ) → Rest (at_number holder) N t (x ∷ c) → NumberMore 10 0 false (Held N t holder) (x ∷ c)
    decimal_only h N t c (inl m) = m
    decimal_only h N t c (inr r) = absurd (differs x 120 c r.0 h r.2)

-- entities

abbrev pub full_name : Entity → List ℕ
full_name e = entity_name e ++ codes ";"

-- no name and `;` begins another
pub no_longer : (a b : Entity) (left : List ℕ) → full_name a ++ left ≡ full_name b → (a ≡ b) × (left ≡ [])
no_longer lt lt left e = (refl, cc)
no_longer lt gt left e = absurd (differs 108 103 _ _ refl e)
no_longer lt amp left e = absurd (differs 108 97 _ _ refl e)
no_longer lt apos left e = absurd (differs 108 97 _ _ refl e)
no_longer lt quot left e = absurd (differs 108 113 _ _ refl e)
no_longer gt lt left e = absurd (differs 103 108 _ _ refl e)
no_longer gt gt left e = (refl, cc)
no_longer gt amp left e = absurd (differs 103 97 _ _ refl e)
no_longer gt apos left e = absurd (differs 103 97 _ _ refl e)
no_longer gt quot left e = absurd (differs 103 113 _ _ refl e)
no_longer amp lt left e = absurd (differs 97 108 _ _ refl e)
no_longer amp gt left e = absurd (differs 97 103 _ _ refl e)
no_longer amp amp left e = (refl, cc)
no_longer amp apos left e = absurd (differs 109 112 _ _ refl (tail_is 97 97 _ _ e))
no_longer amp quot left e = absurd (differs 97 113 _ _ refl e)
no_longer apos lt left e = absurd (differs 97 108 _ _ refl e)
no_longer apos gt left e = absurd (differs 97 103 _ _ refl e)
no_longer apos amp left e = absurd (differs 112 109 _ _ refl (tail_is 97 97 _ _ e))
no_longer apos apos left e = (refl, cc)
no_longer apos quot left e = absurd (differs 97 113 _ _ refl e)
no_longer quot lt left e = absurd (differs 113 108 _ _ refl e)
no_longer quot gt left e = absurd (differs 113 103 _ _ refl e)
no_longer quot amp left e = absurd (differs 113 97 _ _ refl e)
no_longer quot apos left e = absurd (differs 113 97 _ _ refl e)
no_longer quot quot left e = (refl, cc)

pub entity_of-full : (e : Entity) → entity_of (full_name e) ≡ Some e
entity_of-full lt = refl
entity_of-full gt = refl
entity_of-full amp = refl
entity_of-full apos = refl
entity_of-full quot = refl

pub full-entity_of : (b : List ℕ) (e : Entity) → entity_of b ≡ Some e → b ≡ full_name e
full-entity_of b e h = go (bytes_eq b (codes "lt;")) (bytes_eq b (codes "gt;")) (bytes_eq b (codes "amp;")) (bytes_eq b (codes "apos;")) (bytes_eq b (codes "quot;"))
    (bytes_eq-Decides b (codes "lt;")).0 (bytes_eq-Decides b (codes "gt;")).0 (bytes_eq-Decides b (codes "amp;")).0 (bytes_eq-Decides b (codes "apos;")).0 (bytes_eq-Decides b (codes "quot;")).0 h
  where
    one : (f g : Entity) → b ≡ full_name f → Some f ≡ Some g → b ≡ full_name g
    one f g i j = i ∙ ap full_name cc

    go : (p q r s u : Bool) → (p ≡ true → b ≡ codes "lt;") → (q ≡ true → b ≡ codes "gt;") → (r ≡ true → b ≡ codes "amp;") → (s ≡ true → b ≡ codes "apos;") → (u ≡ true → b ≡ codes "quot;")
        → cond p (Some lt) (cond q (Some gt) (cond r (Some amp) (cond s (Some apos) (cond u (Some quot) None)))) ≡ Some e → b ≡ full_name e
    go true q r s u f1 f2 f3 f4 f5 k = one lt e (f1 refl) k
    go false true r s u f1 f2 f3 f4 f5 k = one gt e (f2 refl) k
    go false false true s u f1 f2 f3 f4 f5 k = one amp e (f3 refl) k
    go false false false true u f1 f2 f3 f4 f5 k = one apos e (f4 refl) k
    go false false false false true f1 f2 f3 f4 f5 k = one quot e (f5 refl) k
    go false false false false false f1 f2 f3 f4 f5 k = absurd cc

-- what begins a list begins it
pub begins_more : (a left : List ℕ) → begins_with a (a ++ left) ≡ true
begins_more [] left = refl
begins_more (x ∷ a) left = and_from (x == x) (begins_with a (a ++ left)) (eq-eqb x x refl) (begins_more a left)

pub front_true : (b : List ℕ) (e : Entity) (left : List ℕ) → b ++ left ≡ full_name e → is_entity_front b ≡ true
front_true b e left w = go e (subst (λ l. begins_with b l ≡ true) w (begins_more b left))
  where
    p : Entity → Bool
    p e = begins_with b (full_name e)

    go : (e : Entity) → begins_with b (full_name e) ≡ true → is_entity_front b ≡ true
    go lt h = or_left (begins_with b (full_name lt)) (begins_with b (full_name gt) || (begins_with b (full_name amp) || (begins_with b (full_name apos) || begins_with b (full_name quot)))) h
    go gt h = or_right (begins_with b (full_name lt)) (begins_with b (full_name gt) || (begins_with b (full_name amp) || (begins_with b (full_name apos) || begins_with b (full_name quot))))
        (or_left (begins_with b (full_name gt)) (begins_with b (full_name amp) || (begins_with b (full_name apos) || begins_with b (full_name quot))) h)
    go amp h = or_right (begins_with b (full_name lt)) (begins_with b (full_name gt) || (begins_with b (full_name amp) || (begins_with b (full_name apos) || begins_with b (full_name quot))))
        (or_right (begins_with b (full_name gt)) (begins_with b (full_name amp) || (begins_with b (full_name apos) || begins_with b (full_name quot)))
        (or_left (begins_with b (full_name amp)) (begins_with b (full_name apos) || begins_with b (full_name quot)) h))
    go apos h = or_right (begins_with b (full_name lt)) (begins_with b (full_name gt) || (begins_with b (full_name amp) || (begins_with b (full_name apos) || begins_with b (full_name quot))))
        (or_right (begins_with b (full_name gt)) (begins_with b (full_name amp) || (begins_with b (full_name apos) || begins_with b (full_name quot)))
        (or_right (begins_with b (full_name amp)) (begins_with b (full_name apos) || begins_with b (full_name quot)) (or_left (begins_with b (full_name apos)) (begins_with b (full_name quot)) h)))
    go quot h = or_right (begins_with b (full_name lt)) (begins_with b (full_name gt) || (begins_with b (full_name amp) || (begins_with b (full_name apos) || begins_with b (full_name quot))))
        (or_right (begins_with b (full_name gt)) (begins_with b (full_name amp) || (begins_with b (full_name apos) || begins_with b (full_name quot)))
        (or_right (begins_with b (full_name amp)) (begins_with b (full_name apos) || begins_with b (full_name quot)) (or_right (begins_with b (full_name apos)) (begins_with b (full_name quot)) h)))

-- what begins a list is completed to it
pub begins_rest : (a w : List ℕ) → begins_with a w ≡ true → (left : List ℕ) × (a ++ left ≡ w)
begins_rest [] w h = (w, refl)
begins_rest (x ∷ a) [] h = absurd (false≢true h)
begins_rest (x ∷ a) (y ∷ w) h =
    let both = and_parts (x == y) (begins_with a w) h in
    let r = begins_rest a w both.1 in (r.0, ap (λ z. z ∷ (a ++ r.0)) (eqb-true x y both.0) ∙ ap (λ l. y ∷ l) r.1)

module _ (holder : Holder) where
  abbrev Of : List ℕ → ℕ → Element → List ℕ → Type 0
  Of part N t c = EntityMore part (Held N t holder) c

  -- a part that is no whole name goes on
  entity_goes : (part : List ℕ) (x : ℕ) → entity_of part ≡ None → (N : ℕ) (t : Element) (c : List ℕ) → Of part N t (x ∷ c) → Of (part ++ (x ∷ [])) N t c
  entity_goes part x open_part N t c m = go (front_of x c m.left m.rest m.whole)
    where
      go : Front x c m.left m.rest → Of (part ++ (x ∷ [])) N t c
      go (here i j) =
          let whole : part ≡ full_name m.entity = sym (append-nil part) ∙ ap (λ l. part ++ l) (sym i) ∙ m.name_is in
          let found : Some m.entity ≡ None = sym (entity_of-full m.entity) ∙ ap entity_of (sym whole) ∙ open_part in absurd cc
      go (there more i j) =
          record { entity = m.entity; left = more; rest = m.rest; name_is = append_assoc part (x ∷ []) more ∙ ap (λ l. part ++ l) (sym i) ∙ m.name_is; goes_on = m.goes_on; whole = j }

  entity_comes : (part : List ℕ) (x : ℕ) (N : ℕ) (t : Element) (c : List ℕ) → Of (part ++ (x ∷ [])) N t c → Of part N t (x ∷ c)
  entity_comes part x N t c m =
      record { entity = m.entity; left = x ∷ m.left; rest = m.rest; name_is = sym (append_assoc part (x ∷ []) m.left) ∙ m.name_is; goes_on = m.goes_on; whole = ap (λ l. x ∷ l) m.whole }

  -- a whole name
  found_goes : (part : List ℕ) (e : Entity) → entity_of part ≡ Some e → (N : ℕ) (t : Element) (c : List ℕ) → Of part N t c → Held N t holder (entity_text e) c
  found_goes part e h N t c m =
      let same = no_longer e m.entity m.left (ap (λ l. l ++ m.left) (sym (full-entity_of part e h)) ∙ m.name_is) in
      subst (Held N t holder (entity_text e)) (sym (m.whole ∙ ap (λ l. l ++ m.rest) same.1)) (subst (λ f. Held N t holder (entity_text f) m.rest) (sym same.0) m.goes_on)

  found_comes : (part : List ℕ) (e : Entity) → entity_of part ≡ Some e → (N : ℕ) (t : Element) (c : List ℕ) → Held N t holder (entity_text e) c → Of part N t c
  found_comes part e h N t c r = record { entity = e; left = []; rest = c; name_is = append-nil part ∙ full-entity_of part e h; goes_on = r; whole = refl }

  pub law_entity : (part : List ℕ) → entity_of part ≡ None → (at x : ℕ) → Law (λ N t c. EntityMore part (Held N t holder) c) at x (next_in_entity holder part x)
  law_entity part open_part at x = go (entity_of q) refl
    where
      q : List ℕ
      q = part ++ (x ∷ [])

      go : (o : Option Entity) → entity_of (part ++ (x ∷ [])) ≡ o → Law (λ N t c. EntityMore part (Held N t holder) c) at x (entity_found holder (part ++ (x ∷ [])) o)
      go (Some e) h =
          law_some (λ N t c. EntityMore part (Held N t holder) c) at x (behind_reference holder (entity_text e))
          (λ N t c m. held_goes holder (entity_text e) N t c (found_goes (part ++ (x ∷ [])) e h N t c (entity_goes part x open_part N t c m)))
          (λ N t c r. entity_comes part x N t c (found_comes (part ++ (x ∷ [])) e h N t c (held_comes holder (entity_text e) N t c r)))
      go None h =
          law_if (λ N t c. EntityMore part (Held N t holder) c) at x (is_entity_front (part ++ (x ∷ []))) (Some (in_entity holder (part ++ (x ∷ [])))) None
          (λ k. law_some (λ N t c. EntityMore part (Held N t holder) c) at x (in_entity holder (part ++ (x ∷ []))) (entity_goes part x open_part) (entity_comes part x))
          (λ k. law_none (λ N t c. EntityMore part (Held N t holder) c) at x
          (λ N t c m. let e = entity_goes part x open_part N t c m in false≢true (sym k ∙ front_true (part ++ (x ∷ [])) e.entity e.left e.name_is)))

-- a reference from its `&` on

ampersand_number : (holder : Holder) (N : ℕ) (t : Element) (c : List ℕ) → Rest (at_reference holder) N t (35 ∷ c) → Rest (at_number holder) N t c
ampersand_number holder N t c r = go r.0 r.1 r.3 r.4 r.5
  where
    entity_first : (e : Entity) (d rest : List ℕ) → 35 ∷ d ≡ (entity_name e ++ codes ";") ++ rest → ⊥
    entity_first lt d rest w = differs 35 108 _ _ refl w
    entity_first gt d rest w = differs 35 103 _ _ refl w
    entity_first amp d rest w = differs 35 97 _ _ refl w
    entity_first apos d rest w = differs 35 97 _ _ refl w
    entity_first quot d rest w = differs 35 113 _ _ refl w

    number_of : (base n : ℕ) (digits rest text : List ℕ) (d : List ℕ) → Number base n digits → text ≡ utf8_of n → Held N t holder text rest → d ≡ (digits ++ codes ";") ++ rest
        → NumberMore base 0 false (Held N t holder) d
    number_of base n digits rest text d num i h w =
        record {
          digits = digits;
          rest = rest;
          first = λ a b. num.first b;
          are_digits = num.are_digits;
          character = subst (λ m. is_character m ≡ true) (sym num.value) num.character;
          goes_on = subst (λ l. Held N t holder l rest) (i ∙ ap utf8_of (sym num.value)) h;
          whole = w ∙ append_assoc digits (codes ";") rest;
        }

    go : (text bytes : List ℕ) → Reference text bytes → Held N t holder text r.2 → 38 ∷ 35 ∷ c ≡ bytes ++ r.2 → Rest (at_number holder) N t c
    go text bytes (entity _ _ e i j) h w = absurd (entity_first e c r.2 (tail_is 38 38 (35 ∷ c) ((entity_name e ++ codes ";") ++ r.2) (w ∙ ap (λ l. l ++ r.2) j)))
    go text bytes (decimal _ _ n digits num i j) h w =
        inl (number_of 10 n digits r.2 text c num i h (tail_is 35 35 c ((digits ++ codes ";") ++ r.2) (tail_is 38 38 (35 ∷ c) (35 ∷ ((digits ++ codes ";") ++ r.2)) (w ∙ ap (λ l. l ++ r.2) j))))
    go text bytes (hexadecimal _ _ n digits num i j) h w =
        inr (
          (digits ++ codes ";") ++ r.2,
          number_of 16 n digits r.2 text ((digits ++ codes ";") ++ r.2) num i h refl,
          tail_is 35 35 c (120 ∷ ((digits ++ codes ";") ++ r.2)) (tail_is 38 38 (35 ∷ c) (35 ∷ 120 ∷ ((digits ++ codes ";") ++ r.2)) (w ∙ ap (λ l. l ++ r.2) j)),
        )

number_number : (base : ℕ) (K : List ℕ → List ℕ → Type 0) (c : List ℕ) (m : NumberMore base 0 false K c) → Number base (number_behind base 0 m.digits) m.digits
number_number base K c m = record { first = m.first refl; are_digits = m.are_digits; value = refl; character = m.character }

number_ampersand : (holder : Holder) (N : ℕ) (t : Element) (c : List ℕ) → Rest (at_number holder) N t c → Rest (at_reference holder) N t (35 ∷ c)
number_ampersand holder N t c (inl m) =
    let n = number_behind 10 0 m.digits in (
      utf8_of n,
      codes "&#" ++ (m.digits ++ codes ";"),
      m.rest,
      decimal (utf8_of n) (codes "&#" ++ (m.digits ++ codes ";")) n m.digits (number_number 10 (Held N t holder) c m) refl refl,
      m.goes_on,
      ap (λ l. codes "&#" ++ l) (m.whole ∙ sym (append_assoc m.digits (codes ";") m.rest)),
    )
number_ampersand holder N t c (inr (d, m, w)) =
    let n = number_behind 16 0 m.digits in (
      utf8_of n,
      codes "&#x" ++ (m.digits ++ codes ";"),
      m.rest,
      hexadecimal (utf8_of n) (codes "&#x" ++ (m.digits ++ codes ";")) n m.digits (number_number 16 (Held N t holder) d m) refl refl,
      m.goes_on,
      ap (λ l. codes "&#" ++ l) (w ∙ ap (λ l. 120 ∷ l) (m.whole ∙ sym (append_assoc m.digits (codes ";") m.rest))),
    )

-- without `#` it names an entity
ampersand_entity : (holder : Holder) (x : ℕ) → (x == 35) ≡ false → (N : ℕ) (t : Element) (c : List ℕ) → Rest (at_reference holder) N t (x ∷ c) → EntityMore [] (Held N t holder) (x ∷ c)
ampersand_entity holder x other N t c r = go r.0 r.1 r.3 r.4 r.5
  where
    go : (text bytes : List ℕ) → Reference text bytes → Held N t holder text r.2 → 38 ∷ x ∷ c ≡ bytes ++ r.2 → EntityMore [] (Held N t holder) (x ∷ c)
    go text bytes (entity _ _ e i j) h w =
        record {
          entity = e;
          left = full_name e;
          rest = r.2;
          name_is = refl;
          goes_on = subst (λ l. Held N t holder l r.2) i h;
          whole = tail_is 38 38 (x ∷ c) (full_name e ++ r.2) (w ∙ ap (λ l. l ++ r.2) j);
        }
    go text bytes (decimal _ _ n digits num i j) h w =
        absurd (differs x 35 c ((digits ++ codes ";") ++ r.2) other (tail_is 38 38 (x ∷ c) (35 ∷ ((digits ++ codes ";") ++ r.2)) (w ∙ ap (λ l. l ++ r.2) j)))
    go text bytes (hexadecimal _ _ n digits num i j) h w =
        absurd (differs x 35 c (120 ∷ ((digits ++ codes ";") ++ r.2)) other (tail_is 38 38 (x ∷ c) (35 ∷ 120 ∷ ((digits ++ codes ";") ++ r.2)) (w ∙ ap (λ l. l ++ r.2) j)))

entity_ampersand : (holder : Holder) (N : ℕ) (t : Element) (c : List ℕ) → EntityMore [] (Held N t holder) c → Rest (at_reference holder) N t c
entity_ampersand holder N t c m = (
  entity_text m.entity,
  38 ∷ full_name m.entity,
  m.rest,
  entity (entity_text m.entity) (38 ∷ full_name m.entity) m.entity refl refl,
  m.goes_on,
  ap (λ l. 38 ∷ l) (m.whole ∙ ap (λ l. l ++ m.rest) m.name_is),
)

pub law_reference : (holder : Holder) (at x : ℕ) → Law (Rest (at_reference holder)) at x (next_state (at_reference holder) at x)
law_reference holder at x =
    let R = Rest (at_reference holder) in
    let l = law_entity holder [] refl at x in
    law_if R at x (x == 35) (Some (at_number holder)) (next_in_entity holder [] x)
    (λ h. law_at R at x 35 (Some (at_number holder)) h (law_some R at 35 (at_number holder) (ampersand_number holder) (number_ampersand holder)))
    (λ h. record { goes = λ N t c w r. l.goes N t c w (ampersand_entity holder x h N t c r); comes = λ N t c w r. entity_ampersand holder N t (x ∷ c) (l.comes N t c w r) })
