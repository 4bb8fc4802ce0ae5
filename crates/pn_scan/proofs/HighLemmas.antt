-- Bytes past ASCII: where one may come, any may come.
use Rattle.std.proofs.Common.{◌≡◌, ℕ, suc, ◌+◌, ◌≤◌, ◌<◌, nat_lt, nat_le, Bool, true, false, cond, ◌&&◌, ◌==◌, List, [], ◌∷◌, ◌++◌, length, Option, Some, None, refl, sym, ◌∙◌, subst, append_assoc, append-nil, arith, length-append}
use Rattle.std.specs.List.{list_all}
use Rattle.std.proofs.lemmas.Bool.{false≢true, cond_both, and_parts, eqb-true, leb-true}
use Rattle.std.proofs.lemmas.Bool.Decides.{nat_tests}
use Rattle.pn_text.specs.Characters.{is_name_part, is_text}
use Rattle.pn_markup.specs.Bytes.{is_quote}
use Rattle.pn_scan.specs.State.{Nesting, State, at_start, outside, at_end, in_run, at_markup, at_bang, in_comment, in_target, in_instruction, in_section, in_name, in_tag, in_attribute, before_equals, behind_equals, in_value, at_reference, in_entity, at_number, in_number, due, in_end, in_declaration, before_part_equals, behind_part_equals, in_part}
use Rattle.pn_scan.specs.NextState.{next_state}
use Rattle.pn_utf8.specs.Characters.{open_behind, AreOpen}
use Rattle.pn_scan.specs.Viable.{IsViable}
use Rattle.pn_scan.proofs.Tools.{Case}
use Rattle.pn_scan.proofs.NextStateLaw.{law}
use Rattle.pn_scan.proofs.ViableLemmas.{Keeps, keeps}
use Rattle.pn_scan.proofs.CompletionLemmas.{Completes, completes, no_list}
use Rattle.pn_utf8.proofs.TextLemmas.{text_goes, text_comes, open_still, open_text, fill, whole_text}
use Rattle.pn_text.proofs.TextLemmas.{is_text-append}

-- states in which any byte past ASCII may come
abbrev IsFree : State → Type 0
IsFree (in_run levels e outer text b cr) = Unit {0}
IsFree (in_comment nesting dash) = Unit {0}
IsFree (in_target first nesting []) = ⊥
IsFree (in_target first nesting (n ∷ ns)) = Unit {0}
IsFree (in_instruction nesting question) = Unit {0}
IsFree (in_section levels e outer text b cr) = Unit {0}
IsFree (in_name levels outer begin name) = Unit {0}
IsFree (in_attribute levels outer e name) = Unit {0}
IsFree (in_value levels outer e name quote value cr) = is_quote quote ≡ true
IsFree _ = ⊥

abbrev Stays : Option State → Type 0
Stays None = ⊥
Stays (Some s) = IsFree s

stay_if : (b : Bool) (o q : Option State) → (b ≡ true → Stays o) → (b ≡ false → Stays q) → Stays (cond b o q)
stay_if b o q f g = cond_both b o q Stays f g

high_part : (x : ℕ) → 0x80 ≤ x → is_name_part x ≡ true
high_part x h = grind (arith, nat_tests)

module _ (x : ℕ) (high : 0x80 ≤ x) where
  not_at : (k : ℕ) → nat_lt k 0x80 ≡ true → (x == k) ≡ true → ⊥
  not_at k l h = let e : x ≡ k = eqb-true x k h in let b : k < 0x80 = small k l in omega arith
    where
      small : (k : ℕ) → nat_lt k 0x80 ≡ true → k < 0x80
      small k l = grind (arith, nat_tests)

  not_quote : (q : ℕ) → is_quote q ≡ true → (x == q) ≡ true → ⊥
  not_quote q h e = let i : x ≡ q = eqb-true x q e in let b : q < 0x80 = small q h in omega arith
    where
      small : (k : ℕ) → is_quote k ≡ true → k < 0x80
      small k l = grind (arith, nat_tests)

  appended : (first : Bool) (nesting : Nesting) (name : List ℕ) → IsFree (in_target first nesting (name ++ (x ∷ [])))
  appended first nesting [] = tt
  appended first nesting (n ∷ ns) = tt

  stays : (s : State) (at : ℕ) → IsFree s → Stays (next_state s at x)
  stays (in_run levels e outer text b cr) at f =
      stay_if (x == 60) _ _ (λ h. absurd (not_at 60 refl h)) (λ h. stay_if (x == 38) _ _ (λ k. absurd (not_at 38 refl k)) (λ k. stay_if ((x == 62) && _) _ _ (λ l. absurd (not_at 62 refl (and_parts (x == 62) _ l).0)) (λ l. tt)))
  stays (in_comment nesting true) at f = stay_if (x == 45) _ _ (λ h. absurd (not_at 45 refl h)) (λ h. tt)
  stays (in_comment nesting false) at f = stay_if (x == 45) _ _ (λ h. tt) (λ h. tt)
  stays (in_target first nesting []) at f = absurd f
  stays (in_target first nesting (n ∷ ns)) at f = stay_if (is_name_part x) _ _ (λ h. tt) (λ h. absurd (false≢true (sym h ∙ high_part x high)))
  stays (in_instruction nesting true) at f = stay_if (x == 62) _ _ (λ h. absurd (not_at 62 refl h)) (λ h. stay_if (x == 63) _ _ (λ k. tt) (λ k. tt))
  stays (in_instruction nesting false) at f = stay_if (x == 63) _ _ (λ h. tt) (λ h. tt)
  stays (in_section levels e outer text b cr) at f =
      stay_if (x == 93) _ _ (λ h. absurd (not_at 93 refl h)) (λ h. stay_if ((x == 62) && _) _ _ (λ l. absurd (not_at 62 refl (and_parts (x == 62) _ l).0)) (λ l. tt))
  stays (in_name levels outer begin name) at f = stay_if (is_name_part x) _ _ (λ h. tt) (λ h. absurd (false≢true (sym h ∙ high_part x high)))
  stays (in_attribute levels outer e name) at f = stay_if (is_name_part x) _ _ (λ h. tt) (λ h. absurd (false≢true (sym h ∙ high_part x high)))
  stays (in_value levels outer e name quote value cr) at f =
      stay_if (x == quote) _ _ (λ h. absurd (not_quote quote f h)) (λ h. stay_if (x == 60) _ _ (λ k. absurd (not_at 60 refl k)) (λ k. stay_if (x == 38) _ _ (λ l. absurd (not_at 38 refl l)) (λ l. f)))
  stays at_start at f = absurd f
  stays (outside first) at f = absurd f
  stays (at_end root) at f = absurd f
  stays (at_markup first nesting begin) at f = absurd f
  stays (at_bang nesting) at f = absurd f
  stays (in_tag levels outer e spaced) at f = absurd f
  stays (before_equals levels outer e name) at f = absurd f
  stays (behind_equals levels outer e name) at f = absurd f
  stays (at_reference holder) at f = absurd f
  stays (in_entity holder part) at f = absurd f
  stays (at_number holder) at f = absurd f
  stays (in_number holder base n any) at f = absurd f
  stays (due left s) at f = absurd f
  stays (in_end levels e outer) at f = absurd f
  stays (in_declaration stage spaced) at f = absurd f
  stays (before_part_equals part) at f = absurd f
  stays (behind_part_equals part) at f = absurd f
  stays (in_part part quote value) at f = absurd f

-- one byte in front of a completion
put_before : (s : State) (at : ℕ) (p : List ℕ) (x : ℕ) (o : List ℕ) (s2 : State) → IsViable s at p → open_behind p x ≡ Some o → next_state s at x ≡ Some s2 → Completes s2 (suc at) o → Completes s at p
put_before s at p x o s2 v e i r =
    record {
      c = x ∷ r.c;
      is_text = text_comes p x r.c o e r.is_text;
      rest = λ N h. let q = r.rest N (omega (arith, h)) in
          (q.0, (law s at p v x).comes N q.0 r.c (omega (arith, h)) (subst (λ a. Case a N q.0 r.c) (sym i) q.1));
    }

-- bytes that make the open ones whole, and a completion behind them
walk : (more : List ℕ) (s : State) (at : ℕ) (p : List ℕ) → list_all (nat_le 0x80) more ≡ true → is_text (p ++ more) ≡ true → IsFree s → IsViable s at p → AreOpen p → Completes s at p
walk [] s at p h t f v o =
    let none : p ≡ [] = open_text p o (subst (λ l. is_text l ≡ true) (append-nil p) t) in subst (Completes s at) (sym none) (completes s at (subst (IsViable s at) none v))
walk (x ∷ more) s at p h t f v o =
    let both = and_parts (nat_le 0x80 x) (list_all (nat_le 0x80) more) h in
    let n = text_goes p x more o t in
    go n.open_bytes n.is n.rest (next_state s at x) refl (stays x (leb-true 0x80 x both.0) s at f) (keeps at p x n.open_bytes n.is o s v) (λ s2 at2 p2 t2 f2 v2 o2. walk more s2 at2 p2 both.1 t2 f2 v2 o2)
  where
    go : (q : List ℕ) → open_behind p x ≡ Some q → is_text (q ++ more) ≡ true → (a : Option State) → next_state s at x ≡ a → Stays a → Keeps a (suc at) q
        → ((s2 : State) (at2 : ℕ) (p2 : List ℕ) → is_text (p2 ++ more) ≡ true → IsFree s2 → IsViable s2 at2 p2 → AreOpen p2 → Completes s2 at2 p2) → Completes s at p
    go q e r None i stay keep again = absurd stay
    go q e r (Some s2) i stay keep again = put_before s at p x q s2 v e i (again s2 (suc at) q r stay keep (open_still p x q e))

-- behind open bytes
behind_open : (s : State) (at b : ℕ) (p : List ℕ) → AreOpen (b ∷ p) → IsViable s at (b ∷ p) → Completes s at (b ∷ p)
behind_open s at b p o v = go s v
  where
    free : (s : State) → IsViable s at (b ∷ p) → IsFree s → Completes s at (b ∷ p)
    free s v f = let q = fill b p o in walk q.more s at (b ∷ p) q.high (whole_text ((b ∷ p) ++ q.more) q.is) f v o

    go : (s : State) → IsViable s at (b ∷ p) → Completes s at (b ∷ p)
    go (in_run levels e outer text br cr) v = free (in_run levels e outer text br cr) v tt
    go (in_comment nesting dash) v = free (in_comment nesting dash) v tt
    go (in_target first nesting []) v = absurd (no_list b p v.1)
    go (in_target first nesting (n ∷ ns)) v = free (in_target first nesting (n ∷ ns)) v tt
    go (in_instruction nesting question) v = free (in_instruction nesting question) v tt
    go (in_section levels e outer text br cr) v = free (in_section levels e outer text br cr) v tt
    go (in_name levels outer begin name) v = free (in_name levels outer begin name) v tt
    go (in_attribute levels outer e name) v = free (in_attribute levels outer e name) v tt
    go (in_value levels outer e name quote value cr) v = free (in_value levels outer e name quote value cr) v v.0.quoted
    go (due left s) v =
        let r = completes s (at + length left) (v.2 (at + length left)) in
        record {
          c = left ++ r.c;
          is_text = subst (λ l. is_text l ≡ true) (append_assoc (b ∷ p) left r.c) (is_text-append ((b ∷ p) ++ left) r.c v.1 r.is_text);
          rest = λ N h. let q = r.rest N (omega (arith, h, length-append left r.c)) in (q.0, (r.c, q.1, refl));
        }
    go at_start v = absurd (no_list b p v)
    go (outside first) v = absurd (no_list b p v)
    go (at_end root) v = absurd (no_list b p v)
    go (at_markup first nesting begin) v = absurd (no_list b p v.1)
    go (at_bang nesting) v = absurd (no_list b p v.1)
    go (in_tag levels outer e spaced) v = absurd (no_list b p v.1)
    go (before_equals levels outer e name) v = absurd (no_list b p v.2)
    go (behind_equals levels outer e name) v = absurd (no_list b p v.2)
    go (at_reference holder) v = absurd (no_list b p v.1)
    go (in_entity holder part) v = absurd (no_list b p v.1)
    go (at_number holder) v = absurd (no_list b p v.1)
    go (in_number holder base n any) v = absurd (no_list b p v.1)
    go (in_end levels e outer) v = absurd (no_list b p v.1)
    go (in_declaration stage spaced) v = absurd (no_list b p v)
    go (before_part_equals part) v = absurd (no_list b p v)
    go (behind_part_equals part) v = absurd (no_list b p v)
    go (in_part part quote value) v = absurd (no_list b p v.0)

pub completes_all : (s : State) (at : ℕ) (p : List ℕ) → AreOpen p → IsViable s at p → Completes s at p
completes_all s at [] o v = completes s at v
completes_all s at (b ∷ p) o v = behind_open s at b p o v
