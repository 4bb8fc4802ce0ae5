-- Escaped texts, read back.
use Rattle.std.proofs.Common.{◌≡◌, ℕ, zero, suc, ◌+◌, ◌≤◌, Bool, true, false, not, List, [], ◌∷◌, ◌++◌, if◌then◌else◌, length, drop, get_or, refl, sym, ap, ◌∙◌, subst, append_assoc, append-nil, length-drop, drop-drop, arith}
use Rattle.std.specs.List.{Contains, list_all}
use Rattle.std.proofs.lemmas.Bool.{false≢true}
use Rattle.std.proofs.lemmas.Grind.{flat_map-append}
use Rattle.pn_facts.proofs.Lists.{list_all_get}
use Rattle.pn_facts.proofs.Truths.{and_left}
use Rattle.pn_lines.specs.Escapes.{escape, escaped, is_line_byte, is_plain, percent_escape}
use Rattle.pn_lines.proofs.TextLemmas.{escape_is_clean, fronts_tell}
use Rattle.pn_mode_text.specs.Readings.{AreStops, is_stop}
use Rattle.pn_mode_text.specs.Unescaped.{Unescapes}

-- one byte more
pub escaped_next : (t : List ℕ) (x : ℕ) → escaped (t ++ x ∷ []) ≡ escaped t ++ escape x
escaped_next t x = flat_map-append escape t (x ∷ []) ∙ ap (λ l. escaped t ++ l) (append-nil (escape x))

-- what begins with an escape begins with a byte of a line
pub escape_begins : (x m : ℕ) (xs r : List ℕ) → escape x ++ xs ≡ m ∷ r → is_line_byte m ≡ true
escape_begins x m xs r e = step (is_plain x) e (escape_is_clean x)
  where
    step : (p : Bool) → (if p then x ∷ [] else percent_escape x) ++ xs ≡ m ∷ r
        → list_all is_line_byte (if p then x ∷ [] else percent_escape x) ≡ true → is_line_byte m ≡ true
    step true e h = subst (λ b. is_line_byte b ≡ true) (ap (λ l. get_or l 0 0) e) (and_left (is_line_byte x) true h)
    step false e h = subst (λ b. is_line_byte b ≡ true) (ap (λ l. get_or l 0 0) e) refl

-- behind the front of an escaped text stands the rest of it, escaped
pub record Behind (t u c r : List ℕ) (m : ℕ) : Type 0 where
  pub more : List ℕ
  pub whole : u ≡ t ++ more
  pub rest : c ≡ escaped more ++ m ∷ r

pub behind : (t u c r : List ℕ) (m : ℕ) → is_line_byte m ≡ false → escaped t ++ c ≡ escaped u ++ m ∷ r → Behind t u c r m
behind [] u c r m stop e = record { more = u; whole = refl; rest = e }
behind (x ∷ t) [] c r m stop e = absurd (false≢true (sym stop ∙ escape_begins x m (escaped t ++ c) r (sym (append_assoc (escape x) (escaped t) c) ∙ e)))
behind (x ∷ t) (y ∷ u) c r m stop e =
    let both = fronts_tell x y (escaped t ++ c) (escaped u ++ m ∷ r)
    (sym (append_assoc (escape x) (escaped t) c) ∙ e ∙ append_assoc (escape y) (escaped u) (m ∷ r)) in
    let h = behind t u c r m stop both.1 in
    record { more = h.more; whole = ap (λ b. b ∷ u) (sym both.0) ∙ ap (λ l. x ∷ l) h.whole; rest = h.rest }

-- a mark that ends an escaped text is no byte of one
pub no_line_byte : (marks : List ℕ) (m : ℕ) → AreStops marks → Contains marks m → is_line_byte m ≡ false
no_line_byte marks m h k =
    let e : is_stop m ≡ true = subst (λ x. is_stop x ≡ true) k.2 (list_all_get is_stop marks k.0 m k.1 h) in by (is_line_byte m) e
  where
    by : (t : Bool) → not t ≡ true → t ≡ false
    by false e = refl
    by true e = absurd (false≢true e)

-- the bytes begin with one escaped id alone
pub unescapes_once : (marks one two b r s : List ℕ) (m n : ℕ) → AreStops marks → Unescapes marks one m r b → Unescapes marks two n s b → one ≡ two
unescapes_once marks one two b r s m n stops h k =
    let w = behind one two (m ∷ r) s n (no_line_byte marks n stops k.is_mark) (sym h.cut ∙ k.cut) in
    by w.more w.rest w.whole
  where
    by : (more : List ℕ) → m ∷ r ≡ escaped more ++ n ∷ s → two ≡ one ++ more → one ≡ two
    by [] e whole = sym (whole ∙ append-nil one)
    by (x ∷ more) e whole =
        let line = escape_begins x m (escaped more ++ n ∷ s) r (sym (append_assoc (escape x) (escaped more) (n ∷ s)) ∙ sym e) in
        absurd (false≢true (sym (no_line_byte marks m stops h.is_mark) ∙ line))

pub head_at : (b : List ℕ) (at m : ℕ) (r : List ℕ) → drop at b ≡ m ∷ r → get_or b at 0 ≡ m
head_at [] zero m r e = absurd cc
head_at [] (suc at) m r e = absurd cc
head_at (x ∷ b) zero m r e = cc
head_at (x ∷ b) (suc at) m r e = head_at b at m r e

pub none_first : (m : ℕ) (r : List ℕ) → [] ≡ m ∷ r → ⊥
none_first m r e = absurd cc

-- so many bytes of an id were read
pub record IsUnescaped (id b : List ℕ) (at : ℕ) : Type 0 where
  pub within : at ≤ length b
  pub cut : b ≡ escaped id ++ drop at b

pub begun : (b : List ℕ) (at : ℕ) → at ≡ 0 → IsUnescaped [] b at
begun b at e = record { within = omega (arith, e); cut = ap (λ n. drop n b) (sym e) }

-- one escape more
pub goes_on : (id b : List ℕ) (at x n : ℕ) → IsUnescaped id b at → n ≤ length (drop at b) → drop at b ≡ escape x ++ drop n (drop at b)
    → IsUnescaped (id ++ x ∷ []) b (at + n)
goes_on id b at x n h le e =
    record {
      within = (let k = length-drop at b in omega (arith, k, le, h.within));
      cut = h.cut
          ∙ ap (λ l. escaped id ++ l) (e ∙ ap (λ l. escape x ++ l) (drop-drop n at b))
          ∙ sym (append_assoc (escaped id) (escape x) (drop (at + n) b))
          ∙ ap (λ l. l ++ drop (at + n) b) (sym (escaped_next id x));
    }

-- behind what was read neither a mark nor an escape stands
pub none_unescapes : (marks id b : List ℕ) (at : ℕ) → AreStops marks → IsUnescaped id b at
    → ((m : ℕ) (r : List ℕ) → drop at b ≡ m ∷ r → Contains marks m → ⊥) → ((x : ℕ) (r : List ℕ) → drop at b ≡ escape x ++ r → ⊥)
    → (t : List ℕ) (mark : ℕ) (rest : List ℕ) → Unescapes marks t mark rest b → ⊥
none_unescapes marks id b at stops h no_mark no_escape t mark rest u =
    let w = behind id t (drop at b) rest mark (no_line_byte marks mark stops u.is_mark) (sym h.cut ∙ u.cut) in
    by w.more w.rest
  where
    by : (more : List ℕ) → drop at b ≡ escaped more ++ mark ∷ rest → ⊥
    by [] e = no_mark mark rest e u.is_mark
    by (x ∷ more) e = no_escape x (escaped more ++ mark ∷ rest) (e ∙ append_assoc (escape x) (escaped more) (mark ∷ rest))
