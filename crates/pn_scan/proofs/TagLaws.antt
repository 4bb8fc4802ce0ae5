-- Tags, byte by byte.
use Rattle.std.proofs.Common.{◌≡◌, ℕ, suc, Bool, true, false, cond, not, ◌&&◌, ◌==◌, List, [], ◌∷◌, ◌++◌, codes, Some, None, refl, sym, ap, ◌∙◌, subst, append_assoc, append-nil}
use Rattle.std.proofs.lemmas.Bool.{false≢true}
use Rattle.pn_text.specs.Characters.{is_name_start, is_name_part}
use Rattle.pn_tree.specs.Building.{with_attr}
use Rattle.pn_tree.specs.Elements.{attr_value}
use Rattle.pn_markup.specs.Bytes.{is_space, Name}
use Rattle.pn_markup.specs.Tags.{named, Attribute}
use Rattle.pn_tree.specs.declared.element.Element.{Element}
use Rattle.pn_scan.specs.State.{within, due, in_run, no_bracket, in_name, in_tag, in_attribute, behind_element}
use Rattle.pn_scan.specs.Rest.{Rest, Resumed, TagEnd, opens, closes_empty, TagMore, tag_ends, one_attribute, SpaceOr, NameMore, AttributeMore}
use Rattle.pn_scan.specs.NextState.{next_state, next_in_tag}
use Rattle.pn_scan.proofs.Tools.{Law, law_if, law_some, law_none, law_at, head_is, tail_is, differs, apart}
use Rattle.pn_scan.proofs.Spans.{span_in, span_out, Front, here, there, front_of, all_more, name_parts, name_has, start_no_space, part_no_space, space_maybe, space_more}
use Rattle.pn_scan.proofs.DueLaws.{behind_goes, behind_comes}

module _ (levels : ℕ) (outer : List Element) where
  -- a tag ends with `>` or `/`
  pub end_byte : (p : ℕ → Bool) (N : ℕ) (t : Element) (e : Element) (x : ℕ) (c : List ℕ) → p x ≡ true → p 62 ≡ false → p 47 ≡ false → TagEnd N t levels outer e (x ∷ c) → ⊥
  end_byte p N t e x c h no_close no_slash (opens rest r w) = apart p x 62 c rest h no_close w
  end_byte p N t e x c h no_close no_slash (closes_empty rest r w) = apart p x 47 c (62 ∷ rest) h no_slash w

  -- an attribute begins with its name
  attribute_byte : (p : ℕ → Bool) (name value bytes rest : List ℕ) (x : ℕ) (c : List ℕ) → p x ≡ true → ((y : ℕ) → is_name_start y ≡ true → p y ≡ false)
      → Attribute name value bytes → bytes ++ rest ≡ x ∷ c → ⊥
  attribute_byte p name value bytes rest x c h other a w =
      let n = name_parts name a.is_name in
      let all : x ∷ c ≡ n.first ∷ (n.more ++ ((a.equals ++ a.quoted) ++ rest)) =
      sym w ∙ ap (λ l. l ++ rest) (a.whole ∙ ap (λ l. l ++ (a.equals ++ a.quoted)) n.is) ∙ append_assoc (n.first ∷ n.more) (a.equals ++ a.quoted) rest in
      apart p x n.first c (n.more ++ ((a.equals ++ a.quoted) ++ rest)) h (other n.first n.begins) all

  spaced_goes : (spaced : Bool) (e : Element) (x : ℕ) → is_space x ≡ true → (N : ℕ) (t : Element) (c : List ℕ) → TagMore N t levels outer spaced e (x ∷ c) → TagMore N t levels outer true e c
  spaced_goes spaced e x h N t c m = go spaced e (x ∷ c) m refl
    where
      go : (sp : Bool) (f : Element) (d : List ℕ) → TagMore N t levels outer sp f d → d ≡ x ∷ c → TagMore N t levels outer true f c
      go sp f d (tag_ends _ _ _ space rest ms te w) q =
          let i = span_in is_space x c space rest ms (λ z. end_byte is_space N t f x c h refl refl (subst (TagEnd N t levels outer f) z te)) (sym q ∙ w) in
          tag_ends true f c i.more rest i.pass te i.whole
      go sp f d (one_attribute _ _ _ space name value bytes rest ms a new m w) q =
          let i = span_in is_space x c space (bytes ++ rest) (space_maybe sp space ms) (λ z. attribute_byte is_space name value bytes rest x c h (λ y k. start_no_space y k) a z) (sym q ∙ w) in
          one_attribute true f c i.more name value bytes rest i.pass a new m i.whole

  spaced_comes : (spaced : Bool) (e : Element) (x : ℕ) → is_space x ≡ true → (N : ℕ) (t : Element) (c : List ℕ) → TagMore N t levels outer true e c → TagMore N t levels outer spaced e (x ∷ c)
  spaced_comes spaced e x h N t c m = go true e c m refl
    where
      go : (sp : Bool) (f : Element) (d : List ℕ) → TagMore N t levels outer sp f d → sp ≡ true → TagMore N t levels outer spaced f (x ∷ d)
      go sp f d (tag_ends _ _ _ space rest ms te w) q = tag_ends spaced f (x ∷ d) (x ∷ space) rest (all_more is_space x space h ms) te (ap (λ l. x ∷ l) w)
      go sp f d (one_attribute _ _ _ space name value bytes rest ms a new m w) q =
          one_attribute spaced f (x ∷ d) (x ∷ space) name value bytes rest (space_more spaced x space h (space_maybe sp space ms)) a new m (ap (λ l. x ∷ l) w)

  -- a byte that is neither white space nor the first of a name ends the tag
  ends_here : (spaced : Bool) (e : Element) (x : ℕ) → is_space x ≡ false → is_name_start x ≡ false → (N : ℕ) (t : Element) (c : List ℕ)
      → TagMore N t levels outer spaced e (x ∷ c) → TagEnd N t levels outer e (x ∷ c)
  ends_here spaced e x no_space no_start N t c m = go spaced e (x ∷ c) m refl
    where
      go : (sp : Bool) (f : Element) (d : List ℕ) → TagMore N t levels outer sp f d → d ≡ x ∷ c → TagEnd N t levels outer f (x ∷ c)
      go sp f d (tag_ends _ _ _ space rest ms te w) q = subst (TagEnd N t levels outer f) (span_out is_space x c space rest ms no_space (sym q ∙ w)).1 te
      go sp f d (one_attribute _ _ _ space name value bytes rest ms a new m w) q =
          let i = span_out is_space x c space (bytes ++ rest) (space_maybe sp space ms) no_space (sym q ∙ w) in
          absurd (attribute_byte (λ y. not (is_name_start y)) name value bytes rest x c (ap not no_start) (λ y k. ap not k) a i.1)

  -- at a byte that is no white space behind none, no attribute begins
  ends_unspaced : (e : Element) (x : ℕ) → is_space x ≡ false → (N : ℕ) (t : Element) (c : List ℕ) → TagMore N t levels outer false e (x ∷ c) → TagEnd N t levels outer e (x ∷ c)
  ends_unspaced e x no_space N t c m = go false e (x ∷ c) m refl refl
    where
      go : (sp : Bool) (f : Element) (d : List ℕ) → TagMore N t levels outer sp f d → sp ≡ false → d ≡ x ∷ c → TagEnd N t levels outer f (x ∷ c)
      go sp f d (tag_ends _ _ _ space rest ms te w) p q = subst (TagEnd N t levels outer f) (span_out is_space x c space rest ms no_space (sym q ∙ w)).1 te
      go true f d (one_attribute _ _ _ space name value bytes rest ms a new m w) p q = absurd (false≢true (sym p))
      go false f d (one_attribute _ _ _ space name value bytes rest ms a new m w) p q =
          let i = span_out is_space x c space (bytes ++ rest) (space_maybe false space ms) no_space (sym q ∙ w) in
          absurd (subst (SpaceOr false) i.0 ms)

  -- a name begins behind white space
  begins_goes : (e : Element) (x : ℕ) → is_name_start x ≡ true → (N : ℕ) (t : Element) (c : List ℕ) → TagMore N t levels outer true e (x ∷ c) → AttributeMore N t levels outer e (x ∷ []) c
  begins_goes e x h N t c m = go true e (x ∷ c) m refl
    where
      go : (sp : Bool) (f : Element) (d : List ℕ) → TagMore N t levels outer sp f d → d ≡ x ∷ c → AttributeMore N t levels outer f (x ∷ []) c
      go sp f d (tag_ends _ _ _ space rest ms te w) q =
          absurd (end_byte is_name_start N t f x c h refl refl (subst (TagEnd N t levels outer f) (span_out is_space x c space rest ms (start_no_space x h) (sym q ∙ w)).1 te))
      go sp f d (one_attribute _ _ _ space name value bytes rest ms a new m w) q =
          let i = span_out is_space x c space (bytes ++ rest) (space_maybe sp space ms) (start_no_space x h) (sym q ∙ w) in
          let n = name_parts name a.is_name in
          let all : x ∷ c ≡ n.first ∷ (n.more ++ ((a.equals ++ a.quoted) ++ rest)) =
          sym i.1 ∙ ap (λ l. l ++ rest) (a.whole ∙ ap (λ l. l ++ (a.equals ++ a.quoted)) n.is) ∙ append_assoc (n.first ∷ n.more) (a.equals ++ a.quoted) rest in
          let name_is : name ≡ x ∷ n.more = n.is ∙ ap (λ y. y ∷ n.more) (sym (head_is x n.first c (n.more ++ ((a.equals ++ a.quoted) ++ rest)) all)) in
          record {
            more = n.more;
            equals = a.equals;
            value = value;
            quoted = a.quoted;
            rest = rest;
            is_name = subst Name name_is a.is_name;
            is_new = subst (λ l. attr_value l f.attrs ≡ None) name_is new;
            is_equals = a.is_equals;
            is_value = a.is_value;
            goes_on = subst (λ l. TagMore N t levels outer false (with_attr l value f) rest) name_is m;
            whole = tail_is x n.first c (n.more ++ ((a.equals ++ a.quoted) ++ rest)) all ∙ ap (λ l. n.more ++ l) (append_assoc a.equals a.quoted rest);
          }

  begins_comes : (e : Element) (x : ℕ) (N : ℕ) (t : Element) (c : List ℕ) → AttributeMore N t levels outer e (x ∷ []) c → TagMore N t levels outer true e (x ∷ c)
  begins_comes e x N t c a =
      let name = x ∷ a.more in
      let bytes = name ++ (a.equals ++ a.quoted) in
      let is : Attribute name a.value bytes = record { equals = a.equals; quoted = a.quoted; is_name = a.is_name; is_equals = a.is_equals; is_value = a.is_value; whole = refl } in
      one_attribute true e (x ∷ c) [] name a.value bytes a.rest refl is a.is_new a.goes_on
      (ap (λ l. x ∷ l) a.whole ∙ ap (λ l. name ++ l) (sym (append_assoc a.equals a.quoted a.rest)) ∙ sym (append_assoc name (a.equals ++ a.quoted) a.rest))

  slash_goes : (e : Element) (N : ℕ) (t : Element) (c : List ℕ) → TagEnd N t levels outer e (47 ∷ c) → Rest (due (codes ">") (behind_element (suc levels) outer e)) N t c
  slash_goes e N t c (opens rest r w) = absurd (differs 47 62 c rest refl w)
  slash_goes e N t c (closes_empty rest r w) = (rest, behind_goes (suc levels) outer e N t rest r, tail_is 47 47 c (62 ∷ rest) w)

  close_goes : (e : Element) (N : ℕ) (t : Element) (c : List ℕ) → TagEnd N t levels outer e (62 ∷ c) → Resumed N t (within levels e outer) c
  close_goes e N t c (opens rest r w) = subst (Resumed N t (within levels e outer)) (sym (tail_is 62 62 c rest w)) r
  close_goes e N t c (closes_empty rest r w) = absurd (differs 62 47 c (62 ∷ rest) refl w)

  no_end : (e : Element) (x : ℕ) (N : ℕ) (t : Element) (c : List ℕ) → (x == 47) ≡ false → (x == 62) ≡ false → TagEnd N t levels outer e (x ∷ c) → ⊥
  no_end e x N t c h k (opens rest r w) = differs x 62 c rest k w
  no_end e x N t c h k (closes_empty rest r w) = differs x 47 c (62 ∷ rest) h w

  pub law_tag : (e : Element) (spaced : Bool) (at x : ℕ) → Law (Rest (in_tag levels outer e spaced)) at x (next_in_tag levels outer e spaced x)
  law_tag e spaced at x =
      let R = Rest (in_tag levels outer e spaced) in
      let slash = due (codes ">") (behind_element (suc levels) outer e) in
      let begins = Some (in_attribute levels outer e (x ∷ [])) in
      law_if R at x (is_space x) (Some (in_tag levels outer e true)) (cond (x == 47) (Some slash) (cond (x == 62) (Some (in_run levels e outer [] no_bracket false)) (cond (spaced && is_name_start x) begins None)))
      (λ h. law_some R at x (in_tag levels outer e true) (spaced_goes spaced e x h) (spaced_comes spaced e x h))
      (λ h. law_if R at x (x == 47) (Some slash) (cond (x == 62) (Some (in_run levels e outer [] no_bracket false)) (cond (spaced && is_name_start x) begins None))
      (λ k. law_at R at x 47 (Some slash) k (law_some R at 47 slash
      (λ N t c m. slash_goes e N t c (ends_here spaced e 47 refl refl N t c m))
      (λ N t c r. tag_ends spaced e (47 ∷ c) [] (47 ∷ c) refl (closes_empty r.0 (behind_comes (suc levels) outer e N t r.0 r.1) (ap (λ l. 47 ∷ l) r.2)) refl)))
      (λ k. law_if R at x (x == 62) (Some (in_run levels e outer [] no_bracket false)) (cond (spaced && is_name_start x) begins None)
      (λ l. law_at R at x 62 (Some (in_run levels e outer [] no_bracket false)) l (law_some R at 62 (in_run levels e outer [] no_bracket false)
      (λ N t c m. close_goes e N t c (ends_here spaced e 62 refl refl N t c m))
      (λ N t c r. tag_ends spaced e (62 ∷ c) [] (62 ∷ c) refl (opens c r refl) refl)))
      (λ l. last spaced h k l)))
    where
      last : (sp : Bool) → is_space x ≡ false → (x == 47) ≡ false → (x == 62) ≡ false
          → Law (Rest (in_tag levels outer e sp)) at x (cond (sp && is_name_start x) (Some (in_attribute levels outer e (x ∷ []))) None)
      last true h k l =
          law_if (Rest (in_tag levels outer e true)) at x (is_name_start x) (Some (in_attribute levels outer e (x ∷ []))) None
          (λ s. law_some (Rest (in_tag levels outer e true)) at x (in_attribute levels outer e (x ∷ [])) (begins_goes e x s) (begins_comes e x))
          (λ s. law_none (Rest (in_tag levels outer e true)) at x (λ N t c m. no_end e x N t c k l (ends_here true e x h s N t c m)))
      last false h k l = law_none (Rest (in_tag levels outer e false)) at x (λ N t c m. no_end e x N t c k l (ends_unspaced e x h N t c m))

  -- what may stand behind a name in a tag begins with no byte of a name
  pub part_ends : (e : Element) (x : ℕ) → is_name_part x ≡ true → (N : ℕ) (t : Element) (c : List ℕ) → TagMore N t levels outer false e (x ∷ c) → ⊥
  part_ends e x h N t c m = end_byte is_name_part N t e x c h refl refl (ends_unspaced e x (part_no_space x h) N t c m)

  name_goes : (at : ℕ) (name : List ℕ) (x : ℕ) → is_name_part x ≡ true → (N : ℕ) (t : Element) (c : List ℕ) → NameMore N t levels outer at name (x ∷ c) → NameMore N t levels outer at (name ++ (x ∷ [])) c
  name_goes at name x h N t c m = go (front_of x c m.more m.rest m.whole)
    where
      go : Front x c m.more m.rest → NameMore N t levels outer at (name ++ (x ∷ [])) c
      go (here i j) = absurd (part_ends (named (name ++ m.more) at) x h N t c (subst (TagMore N t levels outer false (named (name ++ m.more) at)) j m.goes_on))
      go (there more i j) =
          let same : name ++ m.more ≡ (name ++ (x ∷ [])) ++ more = ap (λ l. name ++ l) i ∙ sym (append_assoc name (x ∷ []) more) in
          record { more = more; rest = m.rest; is_name = subst Name same m.is_name; goes_on = subst (λ l. TagMore N t levels outer false (named l at) m.rest) same m.goes_on; whole = j }

  name_comes : (at : ℕ) (name : List ℕ) (x : ℕ) (N : ℕ) (t : Element) (c : List ℕ) → NameMore N t levels outer at (name ++ (x ∷ [])) c → NameMore N t levels outer at name (x ∷ c)
  name_comes at name x N t c m =
      let same : (name ++ (x ∷ [])) ++ m.more ≡ name ++ (x ∷ m.more) = append_assoc name (x ∷ []) m.more in
      record { more = x ∷ m.more; rest = m.rest; is_name = subst Name same m.is_name; goes_on = subst (λ l. TagMore N t levels outer false (named l at) m.rest) same m.goes_on; whole = ap (λ l. x ∷ l) m.whole }

  name_over : (at : ℕ) (name : List ℕ) (x : ℕ) → is_name_part x ≡ false → (N : ℕ) (t : Element) (c : List ℕ) → NameMore N t levels outer at name (x ∷ c) → TagMore N t levels outer false (named name at) (x ∷ c)
  name_over at name x h N t c m = go (front_of x c m.more m.rest m.whole)
    where
      go : Front x c m.more m.rest → TagMore N t levels outer false (named name at) (x ∷ c)
      go (here i j) = subst (λ l. TagMore N t levels outer false (named l at) (x ∷ c)) (ap (λ l. name ++ l) i ∙ append-nil name) (subst (TagMore N t levels outer false (named (name ++ m.more) at)) j m.goes_on)
      go (there more i j) = absurd (false≢true (sym h ∙ name_has name x more (subst (λ l. Name (name ++ l)) i m.is_name)))

  name_under : (at : ℕ) (name : List ℕ) → Name name → (N : ℕ) (t : Element) (c : List ℕ) → TagMore N t levels outer false (named name at) c → NameMore N t levels outer at name c
  name_under at name h N t c m =
      record { more = []; rest = c; is_name = subst Name (sym (append-nil name)) h; goes_on = subst (λ l. TagMore N t levels outer false (named l at) c) (sym (append-nil name)) m; whole = refl }

  pub law_name : (begin : ℕ) (name : List ℕ) → Name name → (at x : ℕ) → Law (Rest (in_name levels outer begin name)) at x (next_state (in_name levels outer begin name) at x)
  law_name begin name is at x =
      let R = Rest (in_name levels outer begin name) in
      law_if R at x (is_name_part x) (Some (in_name levels outer begin (name ++ (x ∷ [])))) (next_in_tag levels outer (named name begin) false x)
      (λ h. law_some R at x (in_name levels outer begin (name ++ (x ∷ []))) (name_goes begin name x h) (name_comes begin name x))
      (λ h. let l = law_tag (named name begin) false at x in record {
        goes = λ N t c w m. l.goes N t c w (name_over begin name x h N t c m);
        comes = λ N t c w r. name_under begin name is N t (x ∷ c) (l.comes N t c w r);
      })
