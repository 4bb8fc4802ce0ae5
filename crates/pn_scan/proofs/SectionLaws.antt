-- A CDATA section, byte by byte.
use Rattle.std.proofs.Common.{◌≡◌, ℕ, Bool, true, false, cond, not, ◌&&◌, ◌==◌, List, [], ◌∷◌, ◌++◌, codes, Some, refl, sym, ap, ◌∙◌, subst, append_assoc, append-nil}
use Rattle.std.proofs.lemmas.Bool.{false≢true, and_parts}
use Rattle.std.specs.Cmp.{second_so}
use Rattle.pn_markup.specs.Bytes.{begins_with, lacks, line_ends_behind}
use Rattle.pn_tree.specs.Building.{with_text}
use Rattle.pn_tree.specs.declared.element.Element.{Element}
use Rattle.pn_scan.specs.State.{within, Brackets, no_bracket, one_bracket, two_brackets, in_section, behind_piece, State}
use Rattle.pn_scan.specs.Rest.{Rest, Until, Resumed, brackets}
use Rattle.pn_scan.specs.NextState.{next_in_section, line_text, bracket_in, cr_behind, are_two}
use Rattle.pn_scan.proofs.Tools.{Law, law_if, law_some, law_at, head_is, tail_is, differs}
use Rattle.pn_scan.proofs.UntilLemmas.{skip_goes, skip_comes, two_goes, two_comes, lacks_two, lacks_other, lacks_skip, not_same}

-- one more byte of a text with line ends
pub line_next : (cr : Bool) (x : ℕ) (bs : List ℕ) → line_ends_behind cr (x ∷ bs) ≡ line_text cr x ++ line_ends_behind (x == 13) bs
line_next cr x bs = go (x == 13) ((x == 10) && cr)
  where
    go : (a b : Bool) → cond a (10 ∷ line_ends_behind true bs) (cond b (line_ends_behind false bs) (x ∷ line_ends_behind false bs)) ≡ cond a (10 ∷ []) (cond b [] (x ∷ [])) ++ line_ends_behind a bs
    go true b = refl
    go false true = refl
    go false false = refl

-- what a section stands for goes behind the text before it
abbrev pub SectionEnd : ℕ → Element → ℕ → Element → List Element → List ℕ → Bool → List ℕ → List ℕ → Type 0
SectionEnd N t levels e outer text cr raw after = Resumed N t (within levels (with_text (text ++ line_ends_behind cr raw) e) outer) after

until_map : (mark : List ℕ) (is_good : List ℕ → Bool) (K L : List ℕ → List ℕ → Type 0) (c : List ℕ) → ((text rest : List ℕ) → K text rest → L text rest)
    → Until mark is_good K c → Until mark is_good L c
until_map mark is_good K L c f u = record { text = u.text; rest = u.rest; good = u.good; goes_on = f u.text u.rest u.goes_on; whole = u.whole }

resumed_same : (N : ℕ) (t : Element) (levels : ℕ) (e : Element) (outer : List Element) (a b after : List ℕ) → a ≡ b
    → Resumed N t (within levels (with_text a e) outer) after → Resumed N t (within levels (with_text b e) outer) after
resumed_same N t levels e outer a b after h r = subst (λ l. Resumed N t (within levels (with_text l e) outer) after) h r

-- the texts agree

text_none : (text : List ℕ) (cr : Bool) (x : ℕ) (raw : List ℕ) → text ++ line_ends_behind cr (x ∷ raw) ≡ ((text ++ []) ++ line_text cr x) ++ line_ends_behind (x == 13) raw
text_none text cr x raw =
    ap (λ l. text ++ l) (line_next cr x raw) ∙ sym (append_assoc text (line_text cr x) (line_ends_behind (x == 13) raw))
    ∙ ap (λ l. (l ++ line_text cr x) ++ line_ends_behind (x == 13) raw) (sym (append-nil text))

text_some : (text front : List ℕ) (x : ℕ) (raw : List ℕ) → text ++ (front ++ line_ends_behind false (x ∷ raw)) ≡ ((text ++ front) ++ line_text false x) ++ line_ends_behind (x == 13) raw
text_some text front x raw =
    ap (λ l. text ++ (front ++ l)) (line_next false x raw)
    ∙ sym (append_assoc text front (line_text false x ++ line_ends_behind (x == 13) raw))
    ∙ sym (append_assoc (text ++ front) (line_text false x) (line_ends_behind (x == 13) raw))

abbrev state_behind : ℕ → Element → List Element → List ℕ → Brackets → Bool → ℕ → State
state_behind levels e outer text b cr x = in_section levels e outer ((text ++ brackets b) ++ line_text (cr_behind b cr) x) no_bracket (x == 13)

lacks_three : (x : ℕ) (bs : List ℕ) → (x == 93) ≡ false → (x == 62) ≡ false → lacks (codes "]]>") (93 ∷ 93 ∷ x ∷ bs) ≡ lacks (codes "]]>") bs
lacks_three x bs no_b no_g =
    lacks_skip (codes "]]>") 93 (93 ∷ x ∷ bs) (ap (λ b. b && true) (not_same x 62 no_g)) ∙ lacks_two 93 93 (62 ∷ []) x bs no_b no_b

-- three bytes of which the last is neither a bracket nor `>`
three_goes : (K : List ℕ → List ℕ → Type 0) (x : ℕ) (c : List ℕ) → (x == 93) ≡ false → (x == 62) ≡ false
    → Until (codes "]]>") (lacks (codes "]]>")) K (93 ∷ 93 ∷ x ∷ c) → Until (codes "]]>") (lacks (codes "]]>")) (λ text rest. K (93 ∷ 93 ∷ x ∷ text) rest) c
three_goes K x c no_b no_g u = go u.text u.good u.goes_on u.whole
  where
    go : (text : List ℕ) → lacks (codes "]]>") text ≡ true → K text u.rest → 93 ∷ 93 ∷ x ∷ c ≡ text ++ (codes "]]>" ++ u.rest)
        → Until (codes "]]>") (lacks (codes "]]>")) (λ text rest. K (93 ∷ 93 ∷ x ∷ text) rest) c
    go [] g h e = absurd (differs x 62 c u.rest no_g (tail_is 93 93 (x ∷ c) (62 ∷ u.rest) (tail_is 93 93 (93 ∷ x ∷ c) (93 ∷ 62 ∷ u.rest) e)))
    go (a ∷ []) g h e = absurd (differs x 93 c (62 ∷ u.rest) no_b (tail_is 93 93 (x ∷ c) (93 ∷ 62 ∷ u.rest) (tail_is 93 a (93 ∷ x ∷ c) (93 ∷ 93 ∷ 62 ∷ u.rest) e)))
    go (a ∷ b ∷ []) g h e = absurd (differs x 93 c (93 ∷ 62 ∷ u.rest) no_b (tail_is 93 b (x ∷ c) (93 ∷ 93 ∷ 62 ∷ u.rest) (tail_is 93 a (93 ∷ x ∷ c) (b ∷ 93 ∷ 93 ∷ 62 ∷ u.rest) e)))
    go (a ∷ b ∷ d ∷ text) g h e =
        let e1 : 93 ∷ x ∷ c ≡ b ∷ d ∷ (text ++ (codes "]]>" ++ u.rest)) = tail_is 93 a (93 ∷ x ∷ c) (b ∷ d ∷ (text ++ (codes "]]>" ++ u.rest))) e in
        let e2 : x ∷ c ≡ d ∷ (text ++ (codes "]]>" ++ u.rest)) = tail_is 93 b (x ∷ c) (d ∷ (text ++ (codes "]]>" ++ u.rest))) e1 in
        let all : a ∷ b ∷ d ∷ text ≡ 93 ∷ 93 ∷ x ∷ text = cc in
        let good : lacks (codes "]]>") (93 ∷ 93 ∷ x ∷ text) ≡ true = subst (λ l. lacks (codes "]]>") l ≡ true) all g in
        record { text = text; rest = u.rest; good = sym (lacks_three x text no_b no_g) ∙ good; goes_on = subst (λ l. K l u.rest) all h; whole = cc }

three_comes : (K : List ℕ → List ℕ → Type 0) (x : ℕ) (c : List ℕ) → (x == 93) ≡ false → (x == 62) ≡ false
    → Until (codes "]]>") (lacks (codes "]]>")) (λ text rest. K (93 ∷ 93 ∷ x ∷ text) rest) c → Until (codes "]]>") (lacks (codes "]]>")) K (93 ∷ 93 ∷ x ∷ c)
three_comes K x c no_b no_g u =
    record { text = 93 ∷ 93 ∷ x ∷ u.text; rest = u.rest; good = lacks_three x u.text no_b no_g ∙ u.good; goes_on = u.goes_on; whole = ap (λ l. 93 ∷ 93 ∷ x ∷ l) u.whole }

not_both : (b : Bool) → (b && true) ≡ false → b ≡ false
not_both true h = h
not_both false h = refl

module _ (levels : ℕ) (e : Element) (outer : List Element) where
  close_goes : (text : List ℕ) (cr : Bool) (N : ℕ) (t : Element) (c : List ℕ) → Rest (in_section levels e outer text two_brackets cr) N t (62 ∷ c)
      → Rest (behind_piece (within levels (with_text text e) outer)) N t c
  close_goes text cr N t c u = go u.text u.good u.goes_on u.whole
    where
      go : (raw : List ℕ) → lacks (codes "]]>") raw ≡ true → SectionEnd N t levels e outer text cr raw u.rest → 93 ∷ 93 ∷ 62 ∷ c ≡ raw ++ (codes "]]>" ++ u.rest)
          → Resumed N t (within levels (with_text text e) outer) c
      go [] g h w =
          let c_is : c ≡ u.rest = cc in
          resumed_same N t levels e outer (text ++ []) text c (append-nil text) (subst (λ l. Resumed N t (within levels (with_text (text ++ []) e) outer) l) (sym c_is) h)
      go (a ∷ []) g h w = absurd (differs 62 93 c (62 ∷ u.rest) refl (tail_is 93 93 (62 ∷ c) (93 ∷ 62 ∷ u.rest) (tail_is 93 a (93 ∷ 62 ∷ c) (93 ∷ 93 ∷ 62 ∷ u.rest) w)))
      go (a ∷ b ∷ []) g h w = absurd (differs 62 93 c (93 ∷ 62 ∷ u.rest) refl (tail_is 93 b (62 ∷ c) (93 ∷ 93 ∷ 62 ∷ u.rest) (tail_is 93 a (93 ∷ 62 ∷ c) (b ∷ 93 ∷ 93 ∷ 62 ∷ u.rest) w)))
      go (a ∷ b ∷ d ∷ raw) g h w =
          let all : a ∷ b ∷ d ∷ raw ≡ 93 ∷ 93 ∷ 62 ∷ raw = cc in
          absurd (false≢true (subst (λ l. lacks (codes "]]>") l ≡ true) all g))

  close_comes : (text : List ℕ) (cr : Bool) (N : ℕ) (t : Element) (c : List ℕ) → Rest (behind_piece (within levels (with_text text e) outer)) N t c
      → Rest (in_section levels e outer text two_brackets cr) N t (62 ∷ c)
  close_comes text cr N t c r =
      record { text = []; rest = c; good = refl; goes_on = resumed_same N t levels e outer text (text ++ []) c (sym (append-nil text)) r; whole = refl }

  more_goes : (text : List ℕ) (cr : Bool) (N : ℕ) (t : Element) (c : List ℕ) → Rest (in_section levels e outer text two_brackets cr) N t (93 ∷ c)
      → Rest (in_section levels e outer (text ++ (93 ∷ [])) two_brackets false) N t c
  more_goes text cr N t c u = go u.text u.good u.goes_on u.whole
    where
      go : (raw : List ℕ) → lacks (codes "]]>") raw ≡ true → SectionEnd N t levels e outer text cr raw u.rest → 93 ∷ 93 ∷ 93 ∷ c ≡ raw ++ (codes "]]>" ++ u.rest)
          → Rest (in_section levels e outer (text ++ (93 ∷ [])) two_brackets false) N t c
      go [] g h w = absurd (differs 93 62 c u.rest refl (tail_is 93 93 (93 ∷ c) (62 ∷ u.rest) (tail_is 93 93 (93 ∷ 93 ∷ c) (93 ∷ 62 ∷ u.rest) w)))
      go (a ∷ raw) g h w =
          let a_is : a ≡ 93 = sym (head_is 93 a (93 ∷ 93 ∷ c) (raw ++ (codes "]]>" ++ u.rest)) w) in
          let k = subst (λ y. SectionEnd N t levels e outer text cr (y ∷ raw) u.rest) a_is h in
          record {
            text = raw;
            rest = u.rest;
            good = second_so (not (begins_with (codes "]]>") (a ∷ raw))) (lacks (codes "]]>") raw) g;
            goes_on = resumed_same N t levels e outer (text ++ (93 ∷ line_ends_behind false raw)) ((text ++ (93 ∷ [])) ++ line_ends_behind false raw) u.rest (sym (append_assoc text (93 ∷ []) (line_ends_behind false raw))) k;
            whole = tail_is 93 a (93 ∷ 93 ∷ c) (raw ++ (codes "]]>" ++ u.rest)) w;
          }

  more_comes : (text : List ℕ) (cr : Bool) (N : ℕ) (t : Element) (c : List ℕ) → Rest (in_section levels e outer (text ++ (93 ∷ [])) two_brackets false) N t c
      → Rest (in_section levels e outer text two_brackets cr) N t (93 ∷ c)
  more_comes text cr N t c u =
      record {
        text = 93 ∷ u.text;
        rest = u.rest;
        good = lacks_skip (codes "]]>") 93 u.text (front u.text u.whole) ∙ u.good;
        goes_on = resumed_same N t levels e outer ((text ++ (93 ∷ [])) ++ line_ends_behind false u.text) (text ++ (93 ∷ line_ends_behind false u.text)) u.rest (append_assoc text (93 ∷ []) (line_ends_behind false u.text)) u.goes_on;
        whole = ap (λ l. 93 ∷ l) u.whole;
      }
    where
      front : (raw : List ℕ) → 93 ∷ 93 ∷ c ≡ raw ++ (codes "]]>" ++ u.rest) → begins_with (codes "]]>") (93 ∷ raw) ≡ false
      front [] w = refl
      front (a ∷ []) w = subst (λ y. begins_with (codes "]]>") (93 ∷ y ∷ []) ≡ false) (head_is 93 a (93 ∷ c) (codes "]]>" ++ u.rest) w) refl
      front (a ∷ b ∷ raw) w =
          let all : 93 ∷ 93 ∷ raw ≡ a ∷ b ∷ raw = cc in subst (λ l. begins_with (codes "]]>") (93 ∷ l) ≡ false) all refl

  other_goes : (text : List ℕ) (b : Brackets) (cr : Bool) (x : ℕ) → (x == 93) ≡ false → ((x == 62) && are_two b) ≡ false → (N : ℕ) (t : Element) (c : List ℕ)
      → Rest (in_section levels e outer text b cr) N t (x ∷ c) → Rest (state_behind levels e outer text b cr x) N t c
  other_goes text no_bracket cr x h k N t c u =
      until_map (codes "]]>") (lacks (codes "]]>")) (λ raw rest. SectionEnd N t levels e outer text cr (x ∷ raw) rest) (SectionEnd N t levels e outer ((text ++ []) ++ line_text cr x) (x == 13)) c
      (λ raw rest. resumed_same N t levels e outer (text ++ line_ends_behind cr (x ∷ raw)) (((text ++ []) ++ line_text cr x) ++ line_ends_behind (x == 13) raw) rest (text_none text cr x raw))
      (skip_goes 93 (93 ∷ 62 ∷ []) (lacks (codes "]]>")) (SectionEnd N t levels e outer text cr) x c h (λ raw. lacks_other 93 (93 ∷ 62 ∷ []) x raw h) u)
  other_goes text one_bracket cr x h k N t c u =
      until_map (codes "]]>") (lacks (codes "]]>")) (λ raw rest. SectionEnd N t levels e outer text cr (93 ∷ x ∷ raw) rest) (SectionEnd N t levels e outer ((text ++ codes "]") ++ line_text false x) (x == 13)) c
      (λ raw rest. resumed_same N t levels e outer (text ++ (codes "]" ++ line_ends_behind false (x ∷ raw))) (((text ++ codes "]") ++ line_text false x) ++ line_ends_behind (x == 13) raw) rest (text_some text (codes "]") x raw))
      (two_goes 93 93 (62 ∷ []) (lacks (codes "]]>")) (SectionEnd N t levels e outer text cr) x c h h (λ raw. lacks_two 93 93 (62 ∷ []) x raw h h) u)
  other_goes text two_brackets cr x h k N t c u =
      until_map (codes "]]>") (lacks (codes "]]>")) (λ raw rest. SectionEnd N t levels e outer text cr (93 ∷ 93 ∷ x ∷ raw) rest) (SectionEnd N t levels e outer ((text ++ codes "]]") ++ line_text false x) (x == 13)) c
      (λ raw rest. resumed_same N t levels e outer (text ++ (codes "]]" ++ line_ends_behind false (x ∷ raw))) (((text ++ codes "]]") ++ line_text false x) ++ line_ends_behind (x == 13) raw) rest (text_some text (codes "]]") x raw))
      (three_goes (SectionEnd N t levels e outer text cr) x c h (not_both (x == 62) k) u)

  other_comes : (text : List ℕ) (b : Brackets) (cr : Bool) (x : ℕ) → (x == 93) ≡ false → ((x == 62) && are_two b) ≡ false → (N : ℕ) (t : Element) (c : List ℕ)
      → Rest (state_behind levels e outer text b cr x) N t c → Rest (in_section levels e outer text b cr) N t (x ∷ c)
  other_comes text no_bracket cr x h k N t c u =
      skip_comes (codes "]]>") (lacks (codes "]]>")) (SectionEnd N t levels e outer text cr) x c (λ raw. lacks_other 93 (93 ∷ 62 ∷ []) x raw h)
      (until_map (codes "]]>") (lacks (codes "]]>")) (SectionEnd N t levels e outer ((text ++ []) ++ line_text cr x) (x == 13)) (λ raw rest. SectionEnd N t levels e outer text cr (x ∷ raw) rest) c
      (λ raw rest. resumed_same N t levels e outer (((text ++ []) ++ line_text cr x) ++ line_ends_behind (x == 13) raw) (text ++ line_ends_behind cr (x ∷ raw)) rest (sym (text_none text cr x raw))) u)
  other_comes text one_bracket cr x h k N t c u =
      two_comes (codes "]]>") 93 x (lacks (codes "]]>")) (SectionEnd N t levels e outer text cr) c (λ raw. lacks_two 93 93 (62 ∷ []) x raw h h)
      (until_map (codes "]]>") (lacks (codes "]]>")) (SectionEnd N t levels e outer ((text ++ codes "]") ++ line_text false x) (x == 13)) (λ raw rest. SectionEnd N t levels e outer text cr (93 ∷ x ∷ raw) rest) c
      (λ raw rest. resumed_same N t levels e outer (((text ++ codes "]") ++ line_text false x) ++ line_ends_behind (x == 13) raw) (text ++ (codes "]" ++ line_ends_behind false (x ∷ raw))) rest (sym (text_some text (codes "]") x raw))) u)
  other_comes text two_brackets cr x h k N t c u =
      three_comes (SectionEnd N t levels e outer text cr) x c h (not_both (x == 62) k)
      (until_map (codes "]]>") (lacks (codes "]]>")) (SectionEnd N t levels e outer ((text ++ codes "]]") ++ line_text false x) (x == 13)) (λ raw rest. SectionEnd N t levels e outer text cr (93 ∷ 93 ∷ x ∷ raw) rest) c
      (λ raw rest. resumed_same N t levels e outer (((text ++ codes "]]") ++ line_text false x) ++ line_ends_behind (x == 13) raw) (text ++ (codes "]]" ++ line_ends_behind false (x ∷ raw))) rest (sym (text_some text (codes "]]") x raw))) u)

  law_bracket : (text : List ℕ) (b : Brackets) (cr : Bool) (at : ℕ) → Law (Rest (in_section levels e outer text b cr)) at 93 (Some (bracket_in levels e outer text b cr))
  law_bracket text no_bracket cr at = law_some (Rest (in_section levels e outer text no_bracket cr)) at 93 (in_section levels e outer text one_bracket cr) (λ N t c r. r) (λ N t c r. r)
  law_bracket text one_bracket cr at = law_some (Rest (in_section levels e outer text one_bracket cr)) at 93 (in_section levels e outer text two_brackets cr) (λ N t c r. r) (λ N t c r. r)
  law_bracket text two_brackets cr at =
      law_some (Rest (in_section levels e outer text two_brackets cr)) at 93 (in_section levels e outer (text ++ (93 ∷ [])) two_brackets false) (more_goes text cr) (more_comes text cr)

  law_close : (text : List ℕ) (b : Brackets) (cr : Bool) (at : ℕ) → are_two b ≡ true → Law (Rest (in_section levels e outer text b cr)) at 62 (Some (behind_piece (within levels (with_text text e) outer)))
  law_close text no_bracket cr at h = absurd (false≢true h)
  law_close text one_bracket cr at h = absurd (false≢true h)
  law_close text two_brackets cr at h =
      law_some (Rest (in_section levels e outer text two_brackets cr)) at 62 (behind_piece (within levels (with_text text e) outer)) (close_goes text cr) (close_comes text cr)

  pub law_section : (text : List ℕ) (b : Brackets) (cr : Bool) (at x : ℕ) → Law (Rest (in_section levels e outer text b cr)) at x (next_in_section levels e outer text b cr x)
  law_section text b cr at x =
      let R = Rest (in_section levels e outer text b cr) in
      let closed = Some (behind_piece (within levels (with_text text e) outer)) in
      let other = Some (state_behind levels e outer text b cr x) in
      law_if R at x (x == 93) (Some (bracket_in levels e outer text b cr)) (cond ((x == 62) && are_two b) closed other)
      (λ h. law_at R at x 93 (Some (bracket_in levels e outer text b cr)) h (law_bracket text b cr at))
      (λ h. law_if R at x ((x == 62) && are_two b) closed other
      (λ k. let both = and_parts (x == 62) (are_two b) k in law_at R at x 62 closed both.0 (law_close text b cr at both.1))
      (λ k. law_some R at x (state_behind levels e outer text b cr x) (other_goes text b cr x h k) (other_comes text b cr x h k)))
