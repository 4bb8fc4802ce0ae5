-- Runs of characters, byte by byte.
use Rattle.std.proofs.Common.{◌≡◌, ℕ, suc, ◌+◌, Bool, true, false, cond, not, ◌&&◌, ◌==◌, List, [], ◌∷◌, ◌++◌, codes, length, Some, None, refl, sym, ap, ◌∙◌, subst, append_assoc, append-nil}
use Rattle.std.proofs.lemmas.Bool.{false≢true, eqb-true, and_parts, and_from, not_from_false}
use Rattle.std.specs.List.{list_all}
use Rattle.std.specs.Cmp.{second_so}
use Rattle.pn_tree.specs.Building.{with_text}
use Rattle.pn_markup.specs.Bytes.{lacks, begins_with, line_ends_behind}
use Rattle.pn_markup.specs.Content.{is_run_byte}
use Rattle.pn_tree.specs.declared.element.Element.{Element}
use Rattle.pn_scan.specs.State.{Nesting, of_content, within, Brackets, no_bracket, one_bracket, two_brackets, in_run, at_markup, at_reference}
use Rattle.pn_scan.specs.Rest.{Rest, Marked, BehindElement, Resumed, brackets, MarkupMore, begun, may_declare, Begun, a_comment, an_instruction, a_section, a_reference, an_end, a_tag}
use Rattle.pn_scan.specs.NextState.{next_in_run, line_text, one_more, are_two, brackets_behind}
use Rattle.pn_scan.proofs.Tools.{Law, law_if, law_some, law_none, law_at, differs}
use Rattle.pn_scan.proofs.Spans.{Front, here, there, front_of, all_first, all_rest, all_more}
use Rattle.pn_scan.proofs.UntilLemmas.{lacks_two, lacks_other, lacks_skip, not_same}
use Rattle.pn_scan.proofs.SectionLaws.{line_next}
use Rattle.pn_scan.proofs.PieceLemmas.{marked_begun, begun_marked, within_is}
use Rattle.pn_scan.proofs.BegunLemmas.{no_markup}

-- one more byte of a run keeps `]]>` out
unmarked_goes : (b : Brackets) (x : ℕ) (run : List ℕ) → lacks (codes "]]>") (brackets b ++ (x ∷ run)) ≡ true → lacks (codes "]]>") (brackets (brackets_behind b x) ++ run) ≡ true
unmarked_goes b x run h = go (x == 93) refl b h
  where
    go : (q : Bool) → (x == 93) ≡ q → (b : Brackets) → lacks (codes "]]>") (brackets b ++ (x ∷ run)) ≡ true → lacks (codes "]]>") (brackets (cond q (one_more b) no_bracket) ++ run) ≡ true
    go true e no_bracket h = subst (λ y. lacks (codes "]]>") (y ∷ run) ≡ true) (eqb-true x 93 e) h
    go true e one_bracket h = subst (λ y. lacks (codes "]]>") (93 ∷ y ∷ run) ≡ true) (eqb-true x 93 e) h
    go true e two_brackets h =
        let k = subst (λ y. lacks (codes "]]>") (93 ∷ 93 ∷ y ∷ run) ≡ true) (eqb-true x 93 e) h in
        second_so (not (begins_with (codes "]]>") (93 ∷ 93 ∷ 93 ∷ run))) (lacks (codes "]]>") (93 ∷ 93 ∷ run)) k
    go false e no_bracket h = second_so (not (begins_with (codes "]]>") (x ∷ run))) (lacks (codes "]]>") run) h
    go false e one_bracket h =
        let k = second_so (not (begins_with (codes "]]>") (93 ∷ x ∷ run))) (lacks (codes "]]>") (x ∷ run)) h in
        second_so (not (begins_with (codes "]]>") (x ∷ run))) (lacks (codes "]]>") run) k
    go false e two_brackets h =
        let k = second_so (not (begins_with (codes "]]>") (93 ∷ 93 ∷ x ∷ run))) (lacks (codes "]]>") (93 ∷ x ∷ run)) h in
        let l = second_so (not (begins_with (codes "]]>") (93 ∷ x ∷ run))) (lacks (codes "]]>") (x ∷ run)) k in
        second_so (not (begins_with (codes "]]>") (x ∷ run))) (lacks (codes "]]>") run) l

unmarked_comes : (b : Brackets) (x : ℕ) (run : List ℕ) → ((x == 62) && are_two b) ≡ false → lacks (codes "]]>") (brackets (brackets_behind b x) ++ run) ≡ true
    → lacks (codes "]]>") (brackets b ++ (x ∷ run)) ≡ true
unmarked_comes b x run n h = go (x == 93) refl b n h
  where
    not_close : (q : Bool) → (q && true) ≡ false → q ≡ false
    not_close true h = h
    not_close false h = refl

    go : (q : Bool) → (x == 93) ≡ q → (b : Brackets) → ((x == 62) && are_two b) ≡ false → lacks (codes "]]>") (brackets (cond q (one_more b) no_bracket) ++ run) ≡ true
        → lacks (codes "]]>") (brackets b ++ (x ∷ run)) ≡ true
    go true e no_bracket n h = subst (λ y. lacks (codes "]]>") (y ∷ run) ≡ true) (sym (eqb-true x 93 e)) h
    go true e one_bracket n h = subst (λ y. lacks (codes "]]>") (93 ∷ y ∷ run) ≡ true) (sym (eqb-true x 93 e)) h
    go true e two_brackets n h = subst (λ y. lacks (codes "]]>") (93 ∷ 93 ∷ y ∷ run) ≡ true) (sym (eqb-true x 93 e)) h
    go false e no_bracket n h = lacks_other 93 (93 ∷ 62 ∷ []) x run e ∙ h
    go false e one_bracket n h = lacks_two 93 93 (62 ∷ []) x run e e ∙ h
    go false e two_brackets n h =
        lacks_skip (codes "]]>") 93 (93 ∷ x ∷ run) (ap (λ b. b && true) (not_same x 62 (not_close (x == 62) n))) ∙ lacks_two 93 93 (62 ∷ []) x run e e ∙ h

module _ (levels : ℕ) (e : Element) (outer : List Element) (text : List ℕ) (b : Brackets) (cr : Bool) where
  -- what follows the run
  abbrev Ran : ℕ → Element → List ℕ → Type 0
  Ran N t c = Marked (BehindElement N t (suc levels) outer) N levels (with_text text e) c

  -- the run is over
  over_goes : (x : ℕ) → is_run_byte x ≡ false → (N : ℕ) (t : Element) (c : List ℕ) → Rest (in_run levels e outer text b cr) N t (x ∷ c) → Ran N t (x ∷ c)
  over_goes x h N t c r = go (front_of x c r.run r.rest r.whole)
    where
      go : Front x c r.run r.rest → Ran N t (x ∷ c)
      go (here i j) =
          subst (λ l. Marked (BehindElement N t (suc levels) outer) N levels (with_text l e) (x ∷ c)) (ap (λ l. text ++ line_ends_behind cr l) i ∙ append-nil text)
          (subst (Marked (BehindElement N t (suc levels) outer) N levels (with_text (text ++ line_ends_behind cr r.run) e)) j r.goes_on)
      go (there more i j) = absurd (false≢true (sym h ∙ all_first is_run_byte x more (subst (λ l. list_all is_run_byte l ≡ true) i r.are_run)))

  brackets_alone : (b : Brackets) → lacks (codes "]]>") (brackets b ++ []) ≡ true
  brackets_alone no_bracket = refl
  brackets_alone one_bracket = refl
  brackets_alone two_brackets = refl

  pub over_comes : (N : ℕ) (t : Element) (c : List ℕ) → Ran N t c → Rest (in_run levels e outer text b cr) N t c
  over_comes N t c m =
      record {
        run = [];
        rest = c;
        are_run = refl;
        unmarked = brackets_alone b;
        goes_on = subst (λ l. Marked (BehindElement N t (suc levels) outer) N levels (with_text l e) c) (sym (append-nil text)) m;
        whole = refl;
      }

  markup_run : (N : ℕ) (t : Element) (at : ℕ) (c : List ℕ) → at + suc (length c) ≡ N → MarkupMore N t false at (within levels (with_text text e) outer) c → Ran N t (60 ∷ c)
  markup_run N t at c w (begun m) = begun_marked N t levels at (with_text text e) outer (60 ∷ c) w m
  markup_run N t at c w (may_declare rest h i m k) = absurd (false≢true h)

  -- a reference
  reference_goes : (N : ℕ) (t : Element) (at : ℕ) (nesting : Nesting) (c d : List ℕ) → nesting ≡ within levels (with_text text e) outer → d ≡ 38 ∷ c → Begun N t at nesting d
      → Rest (at_reference (of_content levels (with_text text e) outer)) N t c
  reference_goes N t at nesting c d p w (a_comment _ _ bytes rest m r i) =
      absurd (differs 38 60 c ((codes "!--" ++ (m.0 ++ codes "-->")) ++ rest) refl (sym w ∙ i ∙ ap (λ l. l ++ rest) m.2))
  reference_goes N t at nesting c d p w (an_instruction _ _ bytes rest m r i) =
      absurd (differs 38 60 c ((codes "?" ++ (m.target ++ (m.text ++ codes "?>"))) ++ rest) refl (sym w ∙ i ∙ ap (λ l. l ++ rest) m.whole))
  reference_goes N t at nesting c d p w (a_section _ _ l f es raw bytes rest q s r i) =
      absurd (differs 38 60 c ((codes "![CDATA[" ++ (raw ++ codes "]]>")) ++ rest) refl (sym w ∙ i ∙ ap (λ l. l ++ rest) s.1))
  reference_goes N t at nesting c d p w (a_reference _ _ l f es t2 bytes rest q s r i) =
      let same = within_is l levels f (with_text text e) es outer (sym q ∙ p) in (
        t2,
        bytes,
        rest,
        s,
        subst (λ n. Resumed N t (within n (with_text t2 (with_text text e)) outer) rest) same.0
            (subst (λ g. Resumed N t (within l (with_text t2 g) outer) rest) same.1 (subst (λ gs. Resumed N t (within l (with_text t2 f) gs) rest) same.2 r)),
        sym w ∙ i,
      )
  reference_goes N t at nesting c d p w (an_end _ _ l f es bytes rest q s r i) =
      absurd (differs 38 60 c ((codes "/" ++ (f.name ++ (s.0 ++ codes ">"))) ++ rest) refl (sym w ∙ i ∙ ap (λ l. l ++ rest) s.2))
  reference_goes N t at nesting c d p w (a_tag _ _ l es f bytes rest q s r i) =
      absurd (differs 38 60 c ((s.name ++ s.attributes) ++ rest) refl (sym w ∙ i ∙ ap (λ l. l ++ rest) s.whole))

  -- one more byte
  line_so : (x : ℕ) (run : List ℕ) → text ++ line_ends_behind cr (x ∷ run) ≡ (text ++ line_text cr x) ++ line_ends_behind (x == 13) run
  line_so x run = ap (λ l. text ++ l) (line_next cr x run) ∙ sym (append_assoc text (line_text cr x) (line_ends_behind (x == 13) run))

  more_goes : (x : ℕ) → (x == 60) ≡ false → (x == 38) ≡ false → (N : ℕ) (t : Element) (c : List ℕ) → Rest (in_run levels e outer text b cr) N t (x ∷ c)
      → Rest (in_run levels e outer (text ++ line_text cr x) (brackets_behind b x) (x == 13)) N t c
  more_goes x h k N t c r = go (front_of x c r.run r.rest r.whole)
    where
      go : Front x c r.run r.rest → Rest (in_run levels e outer (text ++ line_text cr x) (brackets_behind b x) (x == 13)) N t c
      go (here i j) =
          absurd (no_markup N t levels (with_text (text ++ line_ends_behind cr r.run) e) outer x c h k (subst (Marked (BehindElement N t (suc levels) outer) N levels (with_text (text ++ line_ends_behind cr r.run) e)) j r.goes_on))
      go (there more i j) =
          record {
            run = more;
            rest = r.rest;
            are_run = all_rest is_run_byte x more (subst (λ l. list_all is_run_byte l ≡ true) i r.are_run);
            unmarked = unmarked_goes b x more (subst (λ l. lacks (codes "]]>") (brackets b ++ l) ≡ true) i r.unmarked);
            goes_on = subst (λ l. Marked (BehindElement N t (suc levels) outer) N levels (with_text l e) r.rest) (ap (λ l. text ++ line_ends_behind cr l) i ∙ line_so x more) r.goes_on;
            whole = j;
          }

  more_comes : (x : ℕ) → (x == 60) ≡ false → (x == 38) ≡ false → ((x == 62) && are_two b) ≡ false → (N : ℕ) (t : Element) (c : List ℕ)
      → Rest (in_run levels e outer (text ++ line_text cr x) (brackets_behind b x) (x == 13)) N t c → Rest (in_run levels e outer text b cr) N t (x ∷ c)
  more_comes x h k n N t c r =
      record {
        run = x ∷ r.run;
        rest = r.rest;
        are_run = all_more is_run_byte x r.run (and_from (not (x == 60)) (not (x == 38)) (not_from_false (x == 60) h) (not_from_false (x == 38) k)) r.are_run;
        unmarked = unmarked_comes b x r.run n r.unmarked;
        goes_on = subst (λ l. Marked (BehindElement N t (suc levels) outer) N levels (with_text l e) r.rest) (sym (line_so x r.run)) r.goes_on;
        whole = ap (λ l. x ∷ l) r.whole;
      }

  -- `>` behind two brackets
  closed_none : are_two b ≡ true → (N : ℕ) (t : Element) (c : List ℕ) → Rest (in_run levels e outer text b cr) N t (62 ∷ c) → ⊥
  closed_none two N t c r = go (front_of 62 c r.run r.rest r.whole)
    where
      marked : (b : Brackets) (more : List ℕ) → are_two b ≡ true → lacks (codes "]]>") (brackets b ++ (62 ∷ more)) ≡ true → ⊥
      marked no_bracket more h k = false≢true h
      marked one_bracket more h k = false≢true h
      marked two_brackets more h k = false≢true k

      go : Front 62 c r.run r.rest → ⊥
      go (here i j) =
          no_markup N t levels (with_text (text ++ line_ends_behind cr r.run) e) outer 62 c refl refl (subst (Marked (BehindElement N t (suc levels) outer) N levels (with_text (text ++ line_ends_behind cr r.run) e)) j r.goes_on)
      go (there more i j) = marked b more two (subst (λ l. lacks (codes "]]>") (brackets b ++ l) ≡ true) i r.unmarked)

  -- a reference in content, and what it is in the grammar
  reference_comes : (N : ℕ) (t : Element) (at : ℕ) (c : List ℕ) → at + suc (length c) ≡ N → Rest (at_reference (of_content levels (with_text text e) outer)) N t c → Ran N t (38 ∷ c)
  reference_comes N t at c w r =
      begun_marked N t levels at (with_text text e) outer (38 ∷ c) w
      (a_reference (within levels (with_text text e) outer) (38 ∷ c) levels (with_text text e) outer r.0 r.1 r.2 refl r.3 r.4 r.5)

  pub law_run : (at x : ℕ) → Law (Rest (in_run levels e outer text b cr)) at x (next_in_run levels e outer text b cr at x)
  law_run at x =
      let R = Rest (in_run levels e outer text b cr) in
      let nesting = within levels (with_text text e) outer in
      let markup = Some (at_markup false nesting at) in
      let ref = Some (at_reference (of_content levels (with_text text e) outer)) in
      let more = Some (in_run levels e outer (text ++ line_text cr x) (brackets_behind b x) (x == 13)) in
      law_if R at x (x == 60) markup (cond (x == 38) ref (cond ((x == 62) && are_two b) None more))
      (λ h. law_at R at x 60 markup h (record {
        goes = λ N t c w r. (w, begun (marked_begun N t levels at (with_text text e) outer (60 ∷ c) w (over_goes 60 refl N t c r)));
        comes = λ N t c w r. over_comes N t (60 ∷ c) (markup_run N t at c w r.1);
      }))
      (λ h. law_if R at x (x == 38) ref (cond ((x == 62) && are_two b) None more)
      (λ k. law_at R at x 38 ref k (record {
        goes = λ N t c w r. reference_goes N t at nesting c (38 ∷ c) refl refl (marked_begun N t levels at (with_text text e) outer (38 ∷ c) w (over_goes 38 refl N t c r));
        comes = λ N t c w r. over_comes N t (38 ∷ c) (reference_comes N t at c w r);
      }))
      (λ k. law_if R at x ((x == 62) && are_two b) None more
      (λ l. let two = and_parts (x == 62) (are_two b) l in law_at R at x 62 None two.0 (law_none R at 62 (closed_none two.1)))
      (λ l. law_some R at x (in_run levels e outer (text ++ line_text cr x) (brackets_behind b x) (x == 13)) (more_goes x h k) (more_comes x h k l))))
