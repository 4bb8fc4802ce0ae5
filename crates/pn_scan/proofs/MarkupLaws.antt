-- BehindElement `<`, `<!` and `<?`.
use Rattle.std.proofs.Common.{◌≡◌, ℕ, suc, ◌+◌, Bool, true, false, cond, ◌&&◌, ◌==◌, ◌⊎◌, inl, inr, List, [], ◌∷◌, ◌++◌, codes, length, Option, Some, None, refl, sym, ap, ◌∙◌, subst, append_assoc, append-nil, arith}
use Rattle.std.proofs.lemmas.Bool.{false≢true, and_parts, and_from}
use Rattle.std.proofs.lemmas.Slice.Eq.{bytes_eq-Decides}
use Rattle.std.specs.Str.{bytes_eq}
use Rattle.std.specs.List.{list_all}
use Rattle.pn_text.specs.Characters.{is_name_start, is_name_part}
use Rattle.pn_markup.specs.Bytes.{is_space, lacks, Name, Space, line_ends}
use Rattle.pn_markup.specs.Misc.{is_xml, is_instruction}
use Rattle.pn_markup.specs.Tags.{Tag, ETag, Attributes, named}
use Rattle.pn_markup.specs.Tags as tags
use Rattle.pn_tree.specs.Building.{with_text, with_attr}
use Rattle.pn_tree.specs.declared.element.Element.{Element}
use Rattle.pn_scan.specs.State.{Stage, Nesting, before, within, behind, room_at, all_due, at_markup, at_bang, in_comment, in_target, in_instruction, in_declaration, in_end, due, behind_piece}
use Rattle.pn_scan.specs.Rest.{Rest, SpaceOr, Body, Resumed, TagEnd, TagMore, tag_ends, one_attribute, NameMore, Until, BangMore, bang_comment, bang_section, MarkupMore, begun, may_declare, TargetMore, names_instruction, names_declaration, DeclarationMore, closes, one_part, may_end, word_of, Begun, a_comment, an_instruction, a_section, a_reference, an_end, a_tag}
use Rattle.pn_scan.specs.NextState.{next_at_markup, next_at_bang, next_in_target, end_begins, name_begins, section_begins, is_before}
use Rattle.pn_scan.proofs.Tools.{Law, Case, law_if, law_some, law_none, law_at, head_is, tail_is, differs, apart}
use Rattle.pn_scan.proofs.Spans.{part_no_space, start_part, Front, here, there, front_of, all_first, name_parts, name_has}
use Rattle.pn_scan.proofs.DueLaws.{due_goes, due_comes}
use Rattle.pn_scan.proofs.UntilLemmas.{resumed_goes, resumed_comes}
use Rattle.pn_scan.proofs.PieceLemmas.{within_is}
use Rattle.pn_scan.proofs.DeclarationLaws.{declared_space_goes, declared_space_comes}
use Rattle.pn_scan.proofs.ValueLaws.{reference_begins}
use Rattle.pn_scan.proofs.BegunLemmas.{not_within, not_inside}

-- tags: from the grammar, and back

attributes_in : (N : ℕ) (t : Element) (levels : ℕ) (outer : List Element) (so_far whole : Element) (b rest : List ℕ) → Attributes so_far whole b → TagEnd N t levels outer whole rest
    → TagMore N t levels outer false so_far (b ++ rest)
attributes_in N t levels outer so_far whole b rest (tags.none _ _ _ i s) e = tag_ends false so_far (b ++ rest) b rest s (subst (λ f. TagEnd N t levels outer f rest) i e) refl
attributes_in N t levels outer so_far whole b rest (tags.more _ _ _ space name value bytes later s a new m i) e =
    one_attribute false so_far (b ++ rest) space name value bytes (later ++ rest) s a new (attributes_in N t levels outer (with_attr name value so_far) whole later rest m e)
    (ap (λ l. l ++ rest) i ∙ append_assoc space (bytes ++ later) rest ∙ ap (λ l. space ++ l) (append_assoc bytes later rest))

record Attributed (N : ℕ) (t : Element) (levels : ℕ) (outer : List Element) (e : Element) (c : List ℕ) : Type 0 where
  element : Element
  b : List ℕ
  rest : List ℕ
  are_attributes : Attributes e element b
  is_end : TagEnd N t levels outer element rest
  is : c ≡ b ++ rest

attributes_out : (N : ℕ) (t : Element) (levels : ℕ) (outer : List Element) (spaced : Bool) (e : Element) (c : List ℕ) → TagMore N t levels outer spaced e c → spaced ≡ false → Attributed N t levels outer e c
attributes_out N t levels outer spaced e c (tag_ends _ _ _ space rest s te w) h =
    record { element = e; b = space; rest = rest; are_attributes = tags.none e e space refl s; is_end = te; is = w }
attributes_out N t levels outer spaced e c (one_attribute _ _ _ space name value bytes rest s a new m w) h =
    let o = attributes_out N t levels outer false (with_attr name value e) rest m refl in
    record {
      element = o.element;
      b = space ++ (bytes ++ o.b);
      rest = o.rest;
      are_attributes = tags.more e o.element (space ++ (bytes ++ o.b)) space name value bytes o.b (only s h) a new o.are_attributes refl;
      is_end = o.is_end;
      is = w ∙ ap (λ l. space ++ (bytes ++ l)) o.is ∙ ap (λ l. space ++ l) (sym (append_assoc bytes o.b o.rest)) ∙ sym (append_assoc space (bytes ++ o.b) o.rest);
    }
  where
    only : SpaceOr spaced space → spaced ≡ false → Space space
    only s h = subst (λ b. SpaceOr b space) h s

-- behind `<`, each case alone

module _ (N : ℕ) (t : Element) (at : ℕ) where
  bang_goes : (nesting : Nesting) (c d : List ℕ) → Begun N t at nesting d → d ≡ 60 ∷ 33 ∷ c → BangMore N t nesting c
  bang_goes nesting c d (a_comment _ _ bytes rest m r w) e =
      let all : c ≡ codes "--" ++ ((m.0 ++ codes "-->") ++ rest) = tail_is 33 33 c (codes "--" ++ ((m.0 ++ codes "-->") ++ rest)) (tail_is 60 60 (33 ∷ c) (codes "!--" ++ ((m.0 ++ codes "-->") ++ rest)) (sym e ∙ w ∙ ap (λ l. l ++ rest) m.2)) in
      bang_comment ((m.0 ++ codes "-->") ++ rest) (record { text = m.0; rest = 62 ∷ rest; good = m.1; goes_on = (rest, r, refl); whole = append_assoc m.0 (codes "-->") rest }) all
  bang_goes nesting c d (an_instruction _ _ bytes rest m r w) e =
      absurd (differs 33 63 c ((m.target ++ (m.text ++ codes "?>")) ++ rest) refl (tail_is 60 60 (33 ∷ c) (codes "?" ++ ((m.target ++ (m.text ++ codes "?>")) ++ rest)) (sym e ∙ w ∙ ap (λ l. l ++ rest) m.whole)))
  bang_goes nesting c d (a_section _ _ l f es raw bytes rest i s r w) e =
      let all : c ≡ codes "[CDATA[" ++ ((raw ++ codes "]]>") ++ rest) = tail_is 33 33 c (codes "[CDATA[" ++ ((raw ++ codes "]]>") ++ rest)) (tail_is 60 60 (33 ∷ c) (codes "![CDATA[" ++ ((raw ++ codes "]]>") ++ rest)) (sym e ∙ w ∙ ap (λ l. l ++ rest) s.1)) in
      bang_section l f es ((raw ++ codes "]]>") ++ rest) i (record { text = raw; rest = rest; good = s.0; goes_on = r; whole = append_assoc raw (codes "]]>") rest }) all
  bang_goes nesting c d (a_reference _ _ l f es text bytes rest i s r w) e =
      let a = reference_begins text bytes s in absurd (differs 60 38 (33 ∷ c) (a.more ++ rest) refl (sym e ∙ w ∙ ap (λ l. l ++ rest) a.is))
  bang_goes nesting c d (an_end _ _ l f es bytes rest i s r w) e =
      absurd (differs 33 47 c ((f.name ++ (s.0 ++ codes ">")) ++ rest) refl (tail_is 60 60 (33 ∷ c) (codes "/" ++ ((f.name ++ (s.0 ++ codes ">")) ++ rest)) (sym e ∙ w ∙ ap (λ l. l ++ rest) s.2)))
  bang_goes nesting c d (a_tag _ _ l es f bytes rest i s r w) e =
      let n = name_parts s.name s.is_name in
      absurd (apart is_name_start n.first 33 ((n.more ++ s.attributes) ++ rest) c n.begins refl
      (sym (tail_is 60 60 (33 ∷ c) ((n.first ∷ (n.more ++ s.attributes)) ++ rest) (sym e ∙ w ∙ ap (λ l. l ++ rest) (s.whole ∙ ap (λ l. 60 ∷ (l ++ s.attributes)) n.is)))))

  bang_comes : (nesting : Nesting) (c : List ℕ) → BangMore N t nesting c → Begun N t at nesting (60 ∷ 33 ∷ c)
  bang_comes nesting c (bang_comment rest u w) =
      let more = u.goes_on.0 in
      let bytes = codes "<!--" ++ (u.text ++ codes "-->") in
      a_comment nesting (60 ∷ 33 ∷ c) bytes more (u.text, u.good, refl) u.goes_on.1
      (ap (λ l. codes "<!" ++ l) (w ∙ ap (λ l. codes "--" ++ l) (u.whole ∙ ap (λ l. u.text ++ (codes "--" ++ l)) u.goes_on.2 ∙ sym (append_assoc u.text (codes "-->") more))))
  bang_comes nesting c (bang_section l f es rest i u w) =
      let bytes = codes "<![CDATA[" ++ (u.text ++ codes "]]>") in
      a_section nesting (60 ∷ 33 ∷ c) l f es u.text bytes u.rest i (u.good, refl) u.goes_on
      (ap (λ l. codes "<!" ++ l) (w ∙ ap (λ l. codes "[CDATA[" ++ l) (u.whole ∙ sym (append_assoc u.text (codes "]]>") u.rest))))

  target_goes : (first : Bool) (nesting : Nesting) (c d : List ℕ) → Begun N t at nesting d → d ≡ 60 ∷ 63 ∷ c → TargetMore N t first nesting [] c
  target_goes first nesting c d (a_comment _ _ bytes rest m r w) e =
      absurd (differs 63 33 c (codes "--" ++ ((m.0 ++ codes "-->") ++ rest)) refl (tail_is 60 60 (63 ∷ c) (codes "!--" ++ ((m.0 ++ codes "-->") ++ rest)) (sym e ∙ w ∙ ap (λ l. l ++ rest) m.2)))
  target_goes first nesting c d (an_instruction _ _ bytes rest m r w) e =
      names_instruction m.target m.text rest m.is_name m.not_xml m.may_follow r
      (tail_is 63 63 c ((m.target ++ (m.text ++ codes "?>")) ++ rest) (tail_is 60 60 (63 ∷ c) (codes "?" ++ ((m.target ++ (m.text ++ codes "?>")) ++ rest)) (sym e ∙ w ∙ ap (λ l. l ++ rest) m.whole))
      ∙ append_assoc m.target (m.text ++ codes "?>") rest ∙ ap (λ l. m.target ++ l) (append_assoc m.text (codes "?>") rest))
  target_goes first nesting c d (a_section _ _ l f es raw bytes rest i s r w) e =
      absurd (differs 63 33 c (codes "[CDATA[" ++ ((raw ++ codes "]]>") ++ rest)) refl (tail_is 60 60 (63 ∷ c) (codes "![CDATA[" ++ ((raw ++ codes "]]>") ++ rest)) (sym e ∙ w ∙ ap (λ l. l ++ rest) s.1)))
  target_goes first nesting c d (a_reference _ _ l f es text bytes rest i s r w) e =
      let a = reference_begins text bytes s in absurd (differs 60 38 (63 ∷ c) (a.more ++ rest) refl (sym e ∙ w ∙ ap (λ l. l ++ rest) a.is))
  target_goes first nesting c d (an_end _ _ l f es bytes rest i s r w) e =
      absurd (differs 63 47 c ((f.name ++ (s.0 ++ codes ">")) ++ rest) refl (tail_is 60 60 (63 ∷ c) (codes "/" ++ ((f.name ++ (s.0 ++ codes ">")) ++ rest)) (sym e ∙ w ∙ ap (λ l. l ++ rest) s.2)))
  target_goes first nesting c d (a_tag _ _ l es f bytes rest i s r w) e =
      let n = name_parts s.name s.is_name in
      absurd (apart is_name_start n.first 63 ((n.more ++ s.attributes) ++ rest) c n.begins refl
      (sym (tail_is 60 60 (63 ∷ c) ((n.first ∷ (n.more ++ s.attributes)) ++ rest) (sym e ∙ w ∙ ap (λ l. l ++ rest) (s.whole ∙ ap (λ l. 60 ∷ (l ++ s.attributes)) n.is)))))

  target_comes : (first : Bool) (nesting : Nesting) (c : List ℕ) → TargetMore N t first nesting [] c → MarkupMore N t first at nesting (63 ∷ c)
  target_comes first nesting c (names_instruction target text rest n x i r w) =
      begun (an_instruction nesting (60 ∷ 63 ∷ c) (codes "<?" ++ (target ++ (text ++ codes "?>"))) rest
      (record { target = target; text = text; is_name = n; not_xml = x; may_follow = i; whole = refl }) r
      (ap (λ l. codes "<?" ++ l) (w ∙ ap (λ l. target ++ l) (sym (append_assoc text (codes "?>") rest)) ∙ sym (append_assoc target (text ++ codes "?>") rest))))
  target_comes first nesting c (names_declaration more rest f b i m w) = may_declare rest f b m (ap (λ l. 63 ∷ l) (w ∙ ap (λ l. l ++ rest) i))

  end_goes : (nesting : Nesting) (c d : List ℕ) → Begun N t at nesting d → d ≡ 60 ∷ 47 ∷ c → Case (end_begins nesting) N t c
  end_goes nesting c d (a_comment _ _ bytes rest m r w) e =
      absurd (differs 47 33 c (codes "--" ++ ((m.0 ++ codes "-->") ++ rest)) refl (tail_is 60 60 (47 ∷ c) (codes "!--" ++ ((m.0 ++ codes "-->") ++ rest)) (sym e ∙ w ∙ ap (λ l. l ++ rest) m.2)))
  end_goes nesting c d (an_instruction _ _ bytes rest m r w) e =
      absurd (differs 47 63 c ((m.target ++ (m.text ++ codes "?>")) ++ rest) refl (tail_is 60 60 (47 ∷ c) (codes "?" ++ ((m.target ++ (m.text ++ codes "?>")) ++ rest)) (sym e ∙ w ∙ ap (λ l. l ++ rest) m.whole)))
  end_goes nesting c d (a_section _ _ l f es raw bytes rest i s r w) e =
      absurd (differs 47 33 c (codes "[CDATA[" ++ ((raw ++ codes "]]>") ++ rest)) refl (tail_is 60 60 (47 ∷ c) (codes "![CDATA[" ++ ((raw ++ codes "]]>") ++ rest)) (sym e ∙ w ∙ ap (λ l. l ++ rest) s.1)))
  end_goes nesting c d (a_reference _ _ l f es text bytes rest i s r w) e =
      let a = reference_begins text bytes s in absurd (differs 60 38 (47 ∷ c) (a.more ++ rest) refl (sym e ∙ w ∙ ap (λ l. l ++ rest) a.is))
  end_goes nesting c d (an_end _ _ l f es bytes rest i s r w) e =
      let all : c ≡ f.name ++ (s.0 ++ (62 ∷ rest)) =
      tail_is 47 47 c ((f.name ++ (s.0 ++ codes ">")) ++ rest) (tail_is 60 60 (47 ∷ c) (codes "/" ++ ((f.name ++ (s.0 ++ codes ">")) ++ rest)) (sym e ∙ w ∙ ap (λ l. l ++ rest) s.2))
      ∙ append_assoc f.name (s.0 ++ codes ">") rest ∙ ap (λ l. f.name ++ l) (append_assoc s.0 (codes ">") rest) in
      subst (λ p. Case (end_begins p) N t c) (sym i) (due_goes f.name (in_end l f es) N t c (s.0 ++ (62 ∷ rest)) (s.0, rest, s.1, r, refl) all)
  end_goes nesting c d (a_tag _ _ l es f bytes rest i s r w) e =
      let n = name_parts s.name s.is_name in
      absurd (apart is_name_start n.first 47 ((n.more ++ s.attributes) ++ rest) c n.begins refl
      (sym (tail_is 60 60 (47 ∷ c) ((n.first ∷ (n.more ++ s.attributes)) ++ rest) (sym e ∙ w ∙ ap (λ l. l ++ rest) (s.whole ∙ ap (λ l. 60 ∷ (l ++ s.attributes)) n.is)))))

  end_comes : (nesting : Nesting) (c : List ℕ) → Case (end_begins nesting) N t c → Begun N t at nesting (60 ∷ 47 ∷ c)
  end_comes before c r = absurd r
  end_comes (behind root) c r = absurd r
  end_comes (within levels e outer) c r =
      let d = due_comes e.name (in_end levels e outer) N t c r in
      let f = d.1 in
      an_end (within levels e outer) (60 ∷ 47 ∷ c) levels e outer (codes "</" ++ (e.name ++ (f.0 ++ codes ">"))) f.1 refl (f.0, f.2, refl) f.3
      (ap (λ l. codes "</" ++ l) (d.2 ∙ ap (λ l. e.name ++ l) (f.4 ∙ sym (append_assoc f.0 (codes ">") f.1)) ∙ sym (append_assoc e.name (f.0 ++ codes ">") f.1)))

  -- another byte than these three begins a name
  name_goes : (nesting : Nesting) (x : ℕ) (c d : List ℕ) → (x == 33) ≡ false → (x == 63) ≡ false → (x == 47) ≡ false → Begun N t at nesting d → d ≡ 60 ∷ x ∷ c
      → (is_name_start x ≡ true) × Case (name_begins (room_at nesting) at x) N t c
  name_goes nesting x c d h k l (a_comment _ _ bytes rest m r w) e =
      absurd (differs x 33 c (codes "--" ++ ((m.0 ++ codes "-->") ++ rest)) h (tail_is 60 60 (x ∷ c) (codes "!--" ++ ((m.0 ++ codes "-->") ++ rest)) (sym e ∙ w ∙ ap (λ l. l ++ rest) m.2)))
  name_goes nesting x c d h k l (an_instruction _ _ bytes rest m r w) e =
      absurd (differs x 63 c ((m.target ++ (m.text ++ codes "?>")) ++ rest) k (tail_is 60 60 (x ∷ c) (codes "?" ++ ((m.target ++ (m.text ++ codes "?>")) ++ rest)) (sym e ∙ w ∙ ap (λ l. l ++ rest) m.whole)))
  name_goes nesting x c d h k l (a_section _ _ lv f es raw bytes rest i s r w) e =
      absurd (differs x 33 c (codes "[CDATA[" ++ ((raw ++ codes "]]>") ++ rest)) h (tail_is 60 60 (x ∷ c) (codes "![CDATA[" ++ ((raw ++ codes "]]>") ++ rest)) (sym e ∙ w ∙ ap (λ l. l ++ rest) s.1)))
  name_goes nesting x c d h k l (a_reference _ _ lv f es text bytes rest i s r w) e =
      let a = reference_begins text bytes s in absurd (differs 60 38 (x ∷ c) (a.more ++ rest) refl (sym e ∙ w ∙ ap (λ l. l ++ rest) a.is))
  name_goes nesting x c d h k l (an_end _ _ lv f es bytes rest i s r w) e =
      absurd (differs x 47 c ((f.name ++ (s.0 ++ codes ">")) ++ rest) l (tail_is 60 60 (x ∷ c) (codes "/" ++ ((f.name ++ (s.0 ++ codes ">")) ++ rest)) (sym e ∙ w ∙ ap (λ l. l ++ rest) s.2)))
  name_goes nesting x c d h k l (a_tag _ _ lv es f bytes rest i s r w) e =
      let n = name_parts s.name s.is_name in
      let all : x ∷ c ≡ n.first ∷ (n.more ++ (s.attributes ++ rest)) =
      tail_is 60 60 (x ∷ c) ((n.first ∷ (n.more ++ s.attributes)) ++ rest) (sym e ∙ w ∙ ap (λ l. l ++ rest) (s.whole ∙ ap (λ l. 60 ∷ (l ++ s.attributes)) n.is))
      ∙ ap (λ l. n.first ∷ l) (append_assoc n.more s.attributes rest) in
      let first : n.first ≡ x = sym (head_is x n.first c (n.more ++ (s.attributes ++ rest)) all) in
      let name_is : s.name ≡ x ∷ n.more = n.is ∙ ap (λ y. y ∷ n.more) first in
      let more : NameMore N t lv es at (x ∷ []) c =
      record {
        more = n.more;
        rest = s.attributes ++ rest;
        is_name = subst Name name_is s.is_name;
        goes_on = attributes_in N t lv es (named (x ∷ n.more) at) f s.attributes rest (subst (λ nm. Attributes (named nm at) f s.attributes) name_is s.are_attributes) r;
        whole = tail_is x n.first c (n.more ++ (s.attributes ++ rest)) all;
      } in
      (subst (λ y. is_name_start y ≡ true) first n.begins, subst (λ o. Case (name_begins o at x) N t c) (sym i) more)

  name_comes : (nesting : Nesting) (x : ℕ) (c : List ℕ) → Case (name_begins (room_at nesting) at x) N t c → Begun N t at nesting (60 ∷ x ∷ c)
  name_comes nesting x c r = go (room_at nesting) refl r
    where
      go : (o : Option (ℕ × List Element)) → room_at nesting ≡ o → Case (name_begins o at x) N t c → Begun N t at nesting (60 ∷ x ∷ c)
      go None h r = absurd r
      go (Some room) h m =
          let o = attributes_out N t room.0 room.1 false (named (x ∷ m.more) at) m.rest m.goes_on refl in
          let name = x ∷ m.more in
          a_tag nesting (60 ∷ x ∷ c) room.0 room.1 o.element (60 ∷ (name ++ o.b)) o.rest h
          (record { name = name; attributes = o.b; is_name = m.is_name; are_attributes = o.are_attributes; whole = refl }) o.is_end
          (ap (λ l. 60 ∷ x ∷ l) (m.whole ∙ ap (λ l. m.more ++ l) o.is ∙ sym (append_assoc m.more o.b o.rest)))

-- the laws

bang_cases : (nesting : Nesting) (first : Bool) (begin N : ℕ) (t : Element) (c : List ℕ) → Rest (at_markup first nesting begin) N t (33 ∷ c) → BangMore N t nesting c
bang_cases nesting first begin N t c (w, begun b) = bang_goes N t begin nesting c (60 ∷ 33 ∷ c) b refl
bang_cases nesting first begin N t c (w, may_declare rest h i m e) = absurd (differs 33 63 c (codes "xml" ++ rest) refl e)

target_cases : (nesting : Nesting) (first : Bool) (begin N : ℕ) (t : Element) (c : List ℕ) → Rest (at_markup first nesting begin) N t (63 ∷ c) → TargetMore N t first nesting [] c
target_cases nesting first begin N t c (w, begun b) = target_goes N t begin first nesting c (60 ∷ 63 ∷ c) b refl
target_cases nesting first begin N t c (w, may_declare rest h i m e) = names_declaration (codes "xml") rest h i refl m (tail_is 63 63 c (codes "xml" ++ rest) e)

end_cases : (nesting : Nesting) (first : Bool) (begin N : ℕ) (t : Element) (c : List ℕ) → Rest (at_markup first nesting begin) N t (47 ∷ c) → Case (end_begins nesting) N t c
end_cases nesting first begin N t c (w, begun b) = end_goes N t begin nesting c (60 ∷ 47 ∷ c) b refl
end_cases nesting first begin N t c (w, may_declare rest h i m e) = absurd (differs 47 63 c (codes "xml" ++ rest) refl e)

name_cases : (nesting : Nesting) (first : Bool) (begin N : ℕ) (t : Element) (x : ℕ) (c : List ℕ) → (x == 33) ≡ false → (x == 63) ≡ false → (x == 47) ≡ false
    → Rest (at_markup first nesting begin) N t (x ∷ c) → (is_name_start x ≡ true) × Case (name_begins (room_at nesting) begin x) N t c
name_cases nesting first begin N t x c h k l (w, begun b) = name_goes N t begin nesting x c (60 ∷ x ∷ c) h k l b refl
name_cases nesting first begin N t x c h k l (w, may_declare rest f i m e) = absurd (differs x 63 c (codes "xml" ++ rest) k e)

pub law_markup : (first : Bool) (nesting : Nesting) (begin at x : ℕ) → at ≡ suc begin → Law (Rest (at_markup first nesting begin)) at x (next_at_markup first nesting begin x)
law_markup first nesting begin at x is =
    let R = Rest (at_markup first nesting begin) in
    let bang = Some (at_bang nesting) in
    let target = Some (in_target first nesting []) in
    let name = cond (is_name_start x) (name_begins (room_at nesting) begin x) None in
    law_if R at x (x == 33) bang (cond (x == 63) target (cond (x == 47) (end_begins nesting) name))
    (λ h. law_at R at x 33 bang h (record {
      goes = λ N t c w r. bang_cases nesting first begin N t c r;
      comes = λ N t c w r. (offset N c w, begun (bang_comes N t begin nesting c r));
    }))
    (λ h. law_if R at x (x == 63) target (cond (x == 47) (end_begins nesting) name)
    (λ k. law_at R at x 63 target k (record {
      goes = λ N t c w r. target_cases nesting first begin N t c r;
      comes = λ N t c w r. (offset N c w, target_comes N t begin first nesting c r);
    }))
    (λ k. law_if R at x (x == 47) (end_begins nesting) name
    (λ l. law_at R at x 47 (end_begins nesting) l (record {
      goes = λ N t c w r. end_cases nesting first begin N t c r;
      comes = λ N t c w r. (offset N c w, begun (end_comes N t begin nesting c r));
    }))
    (λ l. law_if R at x (is_name_start x) (name_begins (room_at nesting) begin x) None
    (λ m. record {
      goes = λ N t c w r. (name_cases nesting first begin N t x c h k l r).1;
      comes = λ N t c w r. (offset N c w, begun (name_comes N t begin nesting x c r));
    })
    (λ m. law_none R at x (λ N t c r. false≢true (sym m ∙ (name_cases nesting first begin N t x c h k l r).0))))))
  where
    offset : (N : ℕ) (c : List ℕ) → at + suc (length c) ≡ N → begin + suc (suc (length c)) ≡ N
    offset N c w = omega (arith, is, w)

-- behind `<!`

section_goes : (nesting : Nesting) (N : ℕ) (t : Element) (c d : List ℕ) → BangMore N t nesting d → d ≡ 91 ∷ c → Case (section_begins nesting) N t c
section_goes nesting N t c d (bang_comment rest u w) e = absurd (differs 91 45 c (45 ∷ rest) refl (sym e ∙ w))
section_goes before N t c d (bang_section l f es rest i u w) e = absurd (not_within l f es i)
section_goes (behind root) N t c d (bang_section l f es rest i u w) e = absurd (not_inside l root f es i)
section_goes (within levels p outer) N t c d (bang_section l f es rest i u w) e =
    let same = within_is levels l p f outer es i in
    let Q = λ (n : ℕ) (g : Element) (gs : List Element). Until (codes "]]>") (lacks (codes "]]>")) (λ raw after. Resumed N t (within n (with_text (line_ends raw) g) gs) after) rest in (
      rest,
      subst (λ n. Q n p outer) (sym same.0) (subst (λ g. Q l g outer) (sym same.1) (subst (λ gs. Q l f gs) (sym same.2) u)),
      tail_is 91 91 c (codes "CDATA[" ++ rest) (sym e ∙ w),
    )

section_comes : (nesting : Nesting) (N : ℕ) (t : Element) (c : List ℕ) → Case (section_begins nesting) N t c → BangMore N t nesting (91 ∷ c)
section_comes before N t c r = absurd r
section_comes (behind root) N t c r = absurd r
section_comes (within levels p outer) N t c r = bang_section levels p outer r.0 refl r.1 (ap (λ l. 91 ∷ l) r.2)

dash_goes : (nesting : Nesting) (N : ℕ) (t : Element) (c d : List ℕ) → BangMore N t nesting d → d ≡ 45 ∷ c → Rest (due (codes "-") (in_comment nesting false)) N t c
dash_goes nesting N t c d (bang_comment rest u w) e = (rest, u, tail_is 45 45 c (45 ∷ rest) (sym e ∙ w))
dash_goes nesting N t c d (bang_section l f es rest i u w) e = absurd (differs 45 91 c (codes "CDATA[" ++ rest) refl (sym e ∙ w))

bang_none : (nesting : Nesting) (x : ℕ) → (x == 45) ≡ false → (x == 91) ≡ false → (N : ℕ) (t : Element) (c d : List ℕ) → BangMore N t nesting d → d ≡ x ∷ c → ⊥
bang_none nesting x h k N t c d (bang_comment rest u w) e = differs x 45 c (45 ∷ rest) h (sym e ∙ w)
bang_none nesting x h k N t c d (bang_section l f es rest i u w) e = differs x 91 c (codes "CDATA[" ++ rest) k (sym e ∙ w)

pub law_bang : (nesting : Nesting) (at x : ℕ) → Law (Rest (at_bang nesting)) at x (next_at_bang nesting x)
law_bang nesting at x =
    let R = Rest (at_bang nesting) in
    let dash = Some (due (codes "-") (in_comment nesting false)) in
    law_if R at x (x == 45) dash (cond (x == 91) (section_begins nesting) None)
    (λ h. law_at R at x 45 dash h (law_some R at 45 (due (codes "-") (in_comment nesting false))
    (λ N t c r. dash_goes nesting N t c (45 ∷ c) r refl)
    (λ N t c r. bang_comment r.0 r.1 (ap (λ l. 45 ∷ l) r.2))))
    (λ h. law_if R at x (x == 91) (section_begins nesting) None
    (λ k. law_at R at x 91 (section_begins nesting) k (record {
      goes = λ N t c w r. section_goes nesting N t c (91 ∷ c) r refl;
      comes = λ N t c w r. section_comes nesting N t c r;
    }))
    (λ k. law_none R at x (λ N t c r. bang_none nesting x h k N t c (x ∷ c) r refl)))

-- names of processing instructions

-- what follows the name begins with white space or `?`
rest_byte : (text rest : List ℕ) (x : ℕ) (c : List ℕ) → is_instruction text ≡ true → text ++ (codes "?>" ++ rest) ≡ x ∷ c → (is_space x ≡ true) ⊎ (x ≡ 63)
rest_byte [] rest x c h w = inr (sym (head_is 63 x (62 ∷ rest) c w))
rest_byte (y ∷ text) rest x c h w =
    inl (subst (λ z. is_space z ≡ true) (head_is y x (text ++ (codes "?>" ++ rest)) c w) (and_parts (is_space y) (lacks (codes "?>") text) h).0)

no_rest : (text rest : List ℕ) (x : ℕ) (c : List ℕ) → is_name_part x ≡ true → is_instruction text ≡ true → text ++ (codes "?>" ++ rest) ≡ x ∷ c → ⊥
no_rest text rest x c p h w = go (rest_byte text rest x c h w)
  where
    go : (is_space x ≡ true) ⊎ (x ≡ 63) → ⊥
    go (inl s) = false≢true (sym (part_no_space x p) ∙ s)
    go (inr e) = false≢true (ap is_name_part (sym e) ∙ p)

-- what follows a declaration's `xml` begins with white space
declared_byte : (K : List ℕ → Type 0) (stage : Stage) (spaced : Bool) (d : List ℕ) (x : ℕ) (c : List ℕ) → DeclarationMore K stage spaced d → stage ≡ all_due → spaced ≡ false → d ≡ x ∷ c → is_space x ≡ true
declared_byte K stage spaced d x c (closes _ _ _ space rest may s k w) h i e = absurd (false≢true (subst (λ st. may_end st ≡ true) h may))
declared_byte K stage spaced d x c (one_part _ _ _ p space equals value quote rest may s q g v more w) h i e =
    go space (subst (λ b. SpaceOr b space) i s) (sym e ∙ w)
  where
    go : (space : List ℕ) → Space space → x ∷ c ≡ space ++ (word_of p ++ (equals ++ (quote ∷ (value ++ (quote ∷ rest))))) → is_space x ≡ true
    go [] s w = absurd s
    go (y ∷ space) s w = subst (λ z. is_space z ≡ true) (sym (head_is x y c (space ++ (word_of p ++ (equals ++ (quote ∷ (value ++ (quote ∷ rest)))))) w)) (all_first is_space y space s)

-- one more byte of the name
more_goes : (first : Bool) (nesting : Nesting) (name : List ℕ) (x : ℕ) → is_name_part x ≡ true → (N : ℕ) (t : Element) (c d : List ℕ) → TargetMore N t first nesting name d → d ≡ x ∷ c
    → TargetMore N t first nesting (name ++ (x ∷ [])) c
more_goes first nesting name x h N t c d (names_instruction more text rest n q i r w) e = go (front_of x c more (text ++ (codes "?>" ++ rest)) (sym e ∙ w))
  where
    go : Front x c more (text ++ (codes "?>" ++ rest)) → TargetMore N t first nesting (name ++ (x ∷ [])) c
    go (here j k) = absurd (no_rest text rest x c h i k)
    go (there m j k) =
        let same : name ++ more ≡ (name ++ (x ∷ [])) ++ m = ap (λ l. name ++ l) j ∙ sym (append_assoc name (x ∷ []) m) in
        names_instruction m text rest (subst Name same n) (subst (λ l. is_xml l ≡ false) same q) i r k
more_goes first nesting name x h N t c d (names_declaration more rest f b i m w) e = go (front_of x c more rest (sym e ∙ w))
  where
    go : Front x c more rest → TargetMore N t first nesting (name ++ (x ∷ [])) c
    go (here j k) = absurd (false≢true (sym (part_no_space x h) ∙ declared_byte (Body N t) all_due false rest x c m refl refl k))
    go (there l j k) = names_declaration l rest f b (append_assoc name (x ∷ []) l ∙ ap (λ z. name ++ z) (sym j) ∙ i) m k

more_comes : (first : Bool) (nesting : Nesting) (name : List ℕ) (x : ℕ) (N : ℕ) (t : Element) (c : List ℕ) → TargetMore N t first nesting (name ++ (x ∷ [])) c → TargetMore N t first nesting name (x ∷ c)
more_comes first nesting name x N t c (names_instruction more text rest n q i r w) =
    let same : (name ++ (x ∷ [])) ++ more ≡ name ++ (x ∷ more) = append_assoc name (x ∷ []) more in
    names_instruction (x ∷ more) text rest (subst Name same n) (subst (λ l. is_xml l ≡ false) same q) i r (ap (λ l. x ∷ l) w)
more_comes first nesting name x N t c (names_declaration more rest f b i m w) =
    names_declaration (x ∷ more) rest f b (sym (append_assoc name (x ∷ []) more) ∙ i) m (ap (λ l. x ∷ l) w)

-- the name is over: white space or `?`, and it is `xml` of a declaration or no `xml`
data Ended (N : ℕ) (t : Element) (first : Bool) (nesting : Nesting) (name : List ℕ) (x : ℕ) (c : List ℕ) : Type 0 where
  ends_instruction : (text rest : List ℕ) → Name name → is_xml name ≡ false → is_instruction text ≡ true → Resumed N t nesting rest → x ∷ c ≡ text ++ (codes "?>" ++ rest) → Ended N t first nesting name x c
  ends_declaration : first ≡ true → nesting ≡ before → name ≡ codes "xml" → DeclarationMore (Body N t) all_due false (x ∷ c) → Ended N t first nesting name x c

over : (first : Bool) (nesting : Nesting) (name : List ℕ) (x : ℕ) → is_name_part x ≡ false → (N : ℕ) (t : Element) (c d : List ℕ) → TargetMore N t first nesting name d → d ≡ x ∷ c → Ended N t first nesting name x c
over first nesting name x h N t c d (names_instruction more text rest n q i r w) e = go (front_of x c more (text ++ (codes "?>" ++ rest)) (sym e ∙ w))
  where
    go : Front x c more (text ++ (codes "?>" ++ rest)) → Ended N t first nesting name x c
    go (here j k) =
        let same : name ++ more ≡ name = ap (λ l. name ++ l) j ∙ append-nil name in
        ends_instruction text rest (subst Name same n) (subst (λ l. is_xml l ≡ false) same q) i r (sym k)
    go (there m j k) = absurd (false≢true (sym h ∙ name_has name x m (subst (λ l. Name (name ++ l)) j n)))
over first nesting name x h N t c d (names_declaration more rest f b i m w) e = go (front_of x c more rest (sym e ∙ w))
  where
    go : Front x c more rest → Ended N t first nesting name x c
    go (here j k) = ends_declaration f b (sym (append-nil name) ∙ ap (λ l. name ++ l) (sym j) ∙ i) (subst (DeclarationMore (Body N t) all_due false) k m)
    go (there l j k) = absurd (false≢true (sym h ∙ name_has name x l (subst Name (sym i ∙ ap (λ z. name ++ z) j) refl)))

under : (first : Bool) (nesting : Nesting) (name : List ℕ) (x : ℕ) (N : ℕ) (t : Element) (c : List ℕ) → Ended N t first nesting name x c → TargetMore N t first nesting name (x ∷ c)
under first nesting name x N t c (ends_instruction text rest n q i r w) =
    let same : name ≡ name ++ [] = sym (append-nil name) in
    names_instruction [] text rest (subst Name same n) (subst (λ l. is_xml l ≡ false) same q) i r w
under first nesting name x N t c (ends_declaration f b i m) = names_declaration [] (x ∷ c) f b (append-nil name ∙ i) m refl

is_before-true : (nesting : Nesting) → is_before nesting ≡ true → nesting ≡ before
is_before-true before h = refl
is_before-true (within l e es) h = absurd (false≢true h)
is_before-true (behind root) h = absurd (false≢true h)

-- the test for a declaration
abbrev declares : Bool → Nesting → List ℕ → Bool
declares first nesting name = first && (is_before nesting && bytes_eq name (codes "xml"))

declares_true : (first : Bool) (nesting : Nesting) (name : List ℕ) → first ≡ true → nesting ≡ before → name ≡ codes "xml" → declares first nesting name ≡ true
declares_true first nesting name f b i =
    and_from first (is_before nesting && bytes_eq name (codes "xml")) f (and_from (is_before nesting) (bytes_eq name (codes "xml")) (ap is_before b) ((bytes_eq-Decides name (codes "xml")).1 i))

module _ (first : Bool) (nesting : Nesting) (name : List ℕ) (named_so : Name name) where
  -- white space behind the `xml` of a declaration
  declaration_goes : (x : ℕ) → is_space x ≡ true → is_xml name ≡ true → (N : ℕ) (t : Element) (c : List ℕ) → Ended N t first nesting name x c → DeclarationMore (Body N t) all_due true c
  declaration_goes x s h N t c (ends_instruction text rest n q i r w) = absurd (false≢true (sym q ∙ h))
  declaration_goes x s h N t c (ends_declaration f b i m) = declared_space_goes (Body N t) all_due false x c s m

  instruction_goes : (x : ℕ) → is_space x ≡ true → declares first nesting name ≡ false → (N : ℕ) (t : Element) (c : List ℕ) → Ended N t first nesting name x c → Rest (in_instruction nesting false) N t c
  instruction_goes x s h N t c (ends_declaration f b i m) = absurd (false≢true (sym h ∙ declares_true first nesting name f b i))
  instruction_goes x s h N t c (ends_instruction text rest n q i r w) = go text i w
    where
      go : (text : List ℕ) → is_instruction text ≡ true → x ∷ c ≡ text ++ (codes "?>" ++ rest) → Rest (in_instruction nesting false) N t c
      go [] i w = absurd (apart is_space x 63 c (62 ∷ rest) s refl w)
      go (y ∷ text) i w =
          record { text = text; rest = rest; good = (and_parts (is_space y) (lacks (codes "?>") text) i).1; goes_on = r; whole = tail_is x y c (text ++ (codes "?>" ++ rest)) w }

  instruction_comes : (x : ℕ) → is_space x ≡ true → is_xml name ≡ false → (N : ℕ) (t : Element) (c : List ℕ) → Rest (in_instruction nesting false) N t c → Ended N t first nesting name x c
  instruction_comes x s h N t c u = ends_instruction (x ∷ u.text) u.rest named_so h (and_from (is_space x) (lacks (codes "?>") u.text) s u.good) u.goes_on (ap (λ l. x ∷ l) u.whole)

  close_goes : (N : ℕ) (t : Element) (c : List ℕ) → Ended N t first nesting name 63 c → Rest (due (codes ">") (behind_piece nesting)) N t c
  close_goes N t c (ends_declaration f b i m) = absurd (false≢true (declared_byte (Body N t) all_due false (63 ∷ c) 63 c m refl refl refl))
  close_goes N t c (ends_instruction text rest n q i r w) = go text i w
    where
      go : (text : List ℕ) → is_instruction text ≡ true → 63 ∷ c ≡ text ++ (codes "?>" ++ rest) → Rest (due (codes ">") (behind_piece nesting)) N t c
      go [] i w = (rest, resumed_goes nesting N t rest r, tail_is 63 63 c (62 ∷ rest) w)
      go (y ∷ text) i w = absurd (false≢true (subst (λ z. is_space z ≡ true) (sym (head_is 63 y c (text ++ (codes "?>" ++ rest)) w)) (and_parts (is_space y) (lacks (codes "?>") text) i).0))

  close_comes : is_xml name ≡ false → (N : ℕ) (t : Element) (c : List ℕ) → Rest (due (codes ">") (behind_piece nesting)) N t c → Ended N t first nesting name 63 c
  close_comes h N t c r = ends_instruction [] r.0 named_so h refl (resumed_comes nesting N t r.0 r.1) (ap (λ l. 63 ∷ l) r.2)

  -- a name that is `xml` is that of a declaration
  xml_goes : (x : ℕ) → is_xml name ≡ true → (is_space x && declares first nesting name) ≡ false → (N : ℕ) (t : Element) (c : List ℕ) → Ended N t first nesting name x c → ⊥
  xml_goes x h k N t c (ends_instruction text rest n q i r w) = false≢true (sym q ∙ h)
  xml_goes x h k N t c (ends_declaration f b i m) =
      false≢true (sym k ∙ and_from (is_space x) (declares first nesting name) (declared_byte (Body N t) all_due false (x ∷ c) x c m refl refl refl) (declares_true first nesting name f b i))

  no_end : (x : ℕ) → is_space x ≡ false → (x == 63) ≡ false → (N : ℕ) (t : Element) (c : List ℕ) → Ended N t first nesting name x c → ⊥
  no_end x s k N t c (ends_declaration f b i m) = false≢true (sym s ∙ declared_byte (Body N t) all_due false (x ∷ c) x c m refl refl refl)
  no_end x s k N t c (ends_instruction text rest n q i r w) = go (rest_byte text rest x c i (sym w))
    where
      go : (is_space x ≡ true) ⊎ (x ≡ 63) → ⊥
      go (inl h) = false≢true (sym s ∙ h)
      go (inr e) = differs x 63 c c k (ap (λ y. y ∷ c) e)

law_first : (first : Bool) (nesting : Nesting) (at x : ℕ) → Law (Rest (in_target first nesting [])) at x (next_in_target first nesting [] x)
law_first first nesting at x =
    law_if (Rest (in_target first nesting [])) at x (is_name_start x) (Some (in_target first nesting (x ∷ []))) None
    (λ h. law_some (Rest (in_target first nesting [])) at x (in_target first nesting (x ∷ []))
    (λ N t c m. more_goes first nesting [] x (start_part x h) N t c (x ∷ c) m refl) (λ N t c m. more_comes first nesting [] x N t c m))
    (λ h. law_none (Rest (in_target first nesting [])) at x (λ N t c m. no_name h N t c (x ∷ c) m refl))
  where
    named_first : is_name_start x ≡ false → (more : List ℕ) (c rest : List ℕ) → Name more → x ∷ c ≡ more ++ rest → ⊥
    named_first h [] c rest n w = false≢true n
    named_first h (y ∷ more) c rest n w =
        false≢true (sym h ∙ ap is_name_start (head_is x y c (more ++ rest) w) ∙ (and_parts (is_name_start y) (list_all is_name_part more) n).0)

    no_name : is_name_start x ≡ false → (N : ℕ) (t : Element) (c d : List ℕ) → TargetMore N t first nesting [] d → d ≡ x ∷ c → ⊥
    no_name h N t c d (names_instruction more text rest n q i r w) e = named_first h more c (text ++ (codes "?>" ++ rest)) n (sym e ∙ w)
    no_name h N t c d (names_declaration more rest f b i m w) e = named_first h more c rest (subst Name (sym i) refl) (sym e ∙ w)

pub law_target : (first : Bool) (nesting : Nesting) (name : List ℕ) → (name ≡ [] → ⊥) → Name name → (at x : ℕ) → Law (Rest (in_target first nesting name)) at x (next_in_target first nesting name x)
law_target first nesting [] some is at x = absurd (some refl)
law_target first nesting (n ∷ ns) some is at x =
    let name = n ∷ ns in
    let R = Rest (in_target first nesting name) in
    let more = in_target first nesting (name ++ (x ∷ [])) in
    let closed = due (codes ">") (behind_piece nesting) in
    let others = cond (is_xml name) None (cond (is_space x) (Some (in_instruction nesting false)) (cond (x == 63) (Some closed) None)) in
    law_if R at x (is_name_part x) (Some more) (cond (is_space x && declares first nesting name) (Some (in_declaration all_due true)) others)
    (λ h. law_some R at x more (λ N t c m. more_goes first nesting name x h N t c (x ∷ c) m refl) (λ N t c m. more_comes first nesting name x N t c m))
    (λ h. law_if R at x (is_space x && declares first nesting name) (Some (in_declaration all_due true)) others
    (λ k. let b = and_parts (is_space x) (declares first nesting name) k in
    let d = and_parts first (is_before nesting && bytes_eq name (codes "xml")) b.1 in
    let e = and_parts (is_before nesting) (bytes_eq name (codes "xml")) d.1 in
    let xml : name ≡ codes "xml" = (bytes_eq-Decides name (codes "xml")).0 e.1 in
    law_some R at x (in_declaration all_due true)
    (λ N t c m. declaration_goes first nesting name is x b.0 (subst (λ l. is_xml l ≡ true) (sym xml) refl) N t c (over first nesting name x h N t c (x ∷ c) m refl))
    (λ N t c m. under first nesting name x N t c (ends_declaration d.0 (is_before-true nesting e.0) xml (declared_space_comes (Body N t) all_due false x c b.0 m))))
    (λ k. law_if R at x (is_xml name) None (cond (is_space x) (Some (in_instruction nesting false)) (cond (x == 63) (Some closed) None))
    (λ l. law_none R at x (λ N t c m. xml_goes first nesting name is x l k N t c (over first nesting name x h N t c (x ∷ c) m refl)))
    (λ l. law_if R at x (is_space x) (Some (in_instruction nesting false)) (cond (x == 63) (Some closed) None)
    (λ s. law_some R at x (in_instruction nesting false)
    (λ N t c m. instruction_goes first nesting name is x s (not_both s k) N t c (over first nesting name x h N t c (x ∷ c) m refl))
    (λ N t c m. under first nesting name x N t c (instruction_comes first nesting name is x s l N t c m)))
    (λ s. law_if R at x (x == 63) (Some closed) None
    (λ q. law_at R at x 63 (Some closed) q (law_some R at 63 closed
    (λ N t c m. close_goes first nesting name is N t c (over first nesting name 63 refl N t c (63 ∷ c) m refl))
    (λ N t c m. under first nesting name 63 N t c (close_comes first nesting name is l N t c m))))
    (λ q. law_none R at x (λ N t c m. no_end first nesting name is x s q N t c (over first nesting name x h N t c (x ∷ c) m refl)))))))
  where
    not_both : is_space x ≡ true → (is_space x && declares first nesting (n ∷ ns)) ≡ false → declares first nesting (n ∷ ns) ≡ false
    not_both s k = go (is_space x) (declares first nesting (n ∷ ns)) s k
      where
        go : (p q : Bool) → p ≡ true → (p && q) ≡ false → q ≡ false
        go true q s k = k
        go false q s k = absurd (false≢true s)

pub law_in_target : (first : Bool) (nesting : Nesting) (name : List ℕ) → (name ≡ [] → ⊥) ⊎ (name ≡ []) → ((name ≡ [] → ⊥) → Name name) → (at x : ℕ)
    → Law (Rest (in_target first nesting name)) at x (next_in_target first nesting name x)
law_in_target first nesting name (inl some) is at x = law_target first nesting name some (is some) at x
law_in_target first nesting name (inr empty) is at x =
    subst (λ l. Law (Rest (in_target first nesting l)) at x (next_in_target first nesting l x)) (sym empty) (law_first first nesting at x)
