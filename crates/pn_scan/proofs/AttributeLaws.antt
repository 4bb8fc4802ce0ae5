-- Attributes up to their value, byte by byte.
use Rattle.std.proofs.Common.{◌≡◌, ℕ, true, false, cond, ◌==◌, List, [], ◌∷◌, ◌++◌, Some, None, is_none, refl, sym, ap, ◌∙◌, subst, append_assoc, append-nil}
use Rattle.std.proofs.lemmas.Bool.{false≢true, and_parts}
use Rattle.std.specs.List.{list_all}
use Rattle.pn_text.specs.Characters.{is_name_part}
use Rattle.pn_tree.specs.Building.{with_attr}
use Rattle.pn_tree.specs.Elements.{attr_value}
use Rattle.pn_markup.specs.Bytes.{is_space, is_quote, MaybeSpace, Name}
use Rattle.pn_markup.specs.Tags.{AttValue, Eq, ValueText, run, reference}
use Rattle.pn_tree.specs.declared.element.Element.{Element}
use Rattle.pn_scan.specs.State.{in_attribute, before_equals, behind_equals, in_value}
use Rattle.pn_scan.specs.Rest.{Rest, TagMore, AttributeMore, EqualsMore, QuoteMore, ValueMore, ValueBehind, last_run, next_reference}
use Rattle.pn_scan.specs.NextState.{next_state, next_before_equals, next_behind_equals}
use Rattle.pn_scan.proofs.Tools.{Law, law_if, law_some, law_none, law_at, head_is, tail_is, differs, apart}
use Rattle.pn_scan.proofs.Spans.{span_in, span_out, Front, here, there, front_of, all_more, name_has, space_no_part, quote_no_space}
use Rattle.pn_facts.proofs.Options.{none_from}

-- a value from its first byte on, and what is left of it
pub value_in : (quote : ℕ) (so_far whole b : List ℕ) → ValueText quote so_far whole b → ValueBehind quote false so_far whole b
value_in quote so_far w d (run _ _ _ all is) = last_run all is
value_in quote so_far w d (reference _ _ _ r text bytes rest all is more e) = next_reference r text bytes rest all is more e

pub value_out : (quote : ℕ) (so_far whole b : List ℕ) → ValueBehind quote false so_far whole b → ValueText quote so_far whole b
value_out quote so_far whole b (last_run all is) = run so_far whole b all is
value_out quote so_far whole b (next_reference r text bytes rest all is more e) = reference so_far whole b r text bytes rest all is more e

module _ (levels : ℕ) (outer : List Element) (e : Element) where
  -- `=` with its white space, before the rest
  equals_whole : (c before after quoted rest : List ℕ) (equals : List ℕ) → equals ≡ before ++ (61 ∷ after) → c ≡ equals ++ (quoted ++ rest) → c ≡ before ++ (61 ∷ (after ++ (quoted ++ rest)))
  equals_whole c before after quoted rest equals i w = w ∙ ap (λ l. l ++ (quoted ++ rest)) i ∙ append_assoc before (61 ∷ after) (quoted ++ rest)

  equals_space_goes : (name : List ℕ) (x : ℕ) → is_space x ≡ true → (N : ℕ) (t : Element) (c : List ℕ) → EqualsMore N t levels outer e name (x ∷ c) → EqualsMore N t levels outer e name c
  equals_space_goes name x h N t c m =
      let q = m.is_equals in
      let tail = 61 ∷ (q.1 ++ (m.quoted ++ m.rest)) in
      let i = span_in is_space x c q.0 tail q.2 (λ z. apart is_space x 61 c (q.1 ++ (m.quoted ++ m.rest)) h refl (sym z)) (equals_whole (x ∷ c) q.0 q.1 m.quoted m.rest m.equals q.4 m.whole) in
      record {
        equals = i.more ++ (61 ∷ q.1);
        value = m.value;
        quoted = m.quoted;
        rest = m.rest;
        is_equals = (i.more, q.1, i.pass, q.3, refl);
        is_value = m.is_value;
        goes_on = m.goes_on;
        whole = i.whole ∙ sym (append_assoc i.more (61 ∷ q.1) (m.quoted ++ m.rest));
      }

  equals_space_comes : (name : List ℕ) (x : ℕ) → is_space x ≡ true → (N : ℕ) (t : Element) (c : List ℕ) → EqualsMore N t levels outer e name c → EqualsMore N t levels outer e name (x ∷ c)
  equals_space_comes name x h N t c m =
      let q = m.is_equals in
      record {
        equals = x ∷ m.equals;
        value = m.value;
        quoted = m.quoted;
        rest = m.rest;
        is_equals = (x ∷ q.0, q.1, all_more is_space x q.0 h q.2, q.3, ap (λ l. x ∷ l) q.4);
        is_value = m.is_value;
        goes_on = m.goes_on;
        whole = ap (λ l. x ∷ l) m.whole;
      }

  equals_goes : (name : List ℕ) (N : ℕ) (t : Element) (c : List ℕ) → EqualsMore N t levels outer e name (61 ∷ c) → QuoteMore N t levels outer e name c
  equals_goes name N t c m =
      let q = m.is_equals in
      let i = span_out is_space 61 c q.0 (61 ∷ (q.1 ++ (m.quoted ++ m.rest))) q.2 refl (equals_whole (61 ∷ c) q.0 q.1 m.quoted m.rest m.equals q.4 m.whole) in
      record {
        space = q.1;
        value = m.value;
        quoted = m.quoted;
        rest = m.rest;
        is_space = q.3;
        is_value = m.is_value;
        goes_on = m.goes_on;
        whole = tail_is 61 61 c (q.1 ++ (m.quoted ++ m.rest)) (sym i.1);
      }

  equals_comes : (name : List ℕ) (N : ℕ) (t : Element) (c : List ℕ) → QuoteMore N t levels outer e name c → EqualsMore N t levels outer e name (61 ∷ c)
  equals_comes name N t c m =
      record {
        equals = 61 ∷ m.space;
        value = m.value;
        quoted = m.quoted;
        rest = m.rest;
        is_equals = ([], m.space, refl, m.is_space, refl);
        is_value = m.is_value;
        goes_on = m.goes_on;
        whole = ap (λ l. 61 ∷ l) m.whole;
      }

  equals_none : (name : List ℕ) (x : ℕ) → is_space x ≡ false → (x == 61) ≡ false → (N : ℕ) (t : Element) (c : List ℕ) → EqualsMore N t levels outer e name (x ∷ c) → ⊥
  equals_none name x h k N t c m =
      let q = m.is_equals in
      let i = span_out is_space x c q.0 (61 ∷ (q.1 ++ (m.quoted ++ m.rest))) q.2 h (equals_whole (x ∷ c) q.0 q.1 m.quoted m.rest m.equals q.4 m.whole) in
      differs x 61 c (q.1 ++ (m.quoted ++ m.rest)) k (sym i.1)

  pub law_before : (name : List ℕ) (at x : ℕ) → Law (Rest (before_equals levels outer e name)) at x (next_before_equals levels outer e name x)
  law_before name at x =
      let R = Rest (before_equals levels outer e name) in
      law_if R at x (is_space x) (Some (before_equals levels outer e name)) (cond (x == 61) (Some (behind_equals levels outer e name)) None)
      (λ h. law_some R at x (before_equals levels outer e name) (equals_space_goes name x h) (equals_space_comes name x h))
      (λ h. law_if R at x (x == 61) (Some (behind_equals levels outer e name)) None
      (λ k. law_at R at x 61 (Some (behind_equals levels outer e name)) k (law_some R at 61 (behind_equals levels outer e name) (equals_goes name) (equals_comes name)))
      (λ k. law_none R at x (equals_none name x h k)))

  -- the value in its quotes, before the rest
  quoted_whole : (value quoted rest : List ℕ) (v : AttValue value quoted) → quoted ++ rest ≡ v.quote ∷ (v.text ++ (v.quote ∷ rest))
  quoted_whole value quoted rest v = ap (λ l. l ++ rest) v.whole ∙ ap (λ l. v.quote ∷ l) (append_assoc v.text (v.quote ∷ []) rest)

  quote_space_goes : (name : List ℕ) (x : ℕ) → is_space x ≡ true → (N : ℕ) (t : Element) (c : List ℕ) → QuoteMore N t levels outer e name (x ∷ c) → QuoteMore N t levels outer e name c
  quote_space_goes name x h N t c m =
      let v = m.is_value in
      let i = span_in is_space x c m.space (m.quoted ++ m.rest) m.is_space
      (λ z. apart is_space x v.quote c (v.text ++ (v.quote ∷ m.rest)) h (quote_no_space v.quote v.quoted) (sym z ∙ quoted_whole m.value m.quoted m.rest v)) m.whole in
      record { space = i.more; value = m.value; quoted = m.quoted; rest = m.rest; is_space = i.pass; is_value = m.is_value; goes_on = m.goes_on; whole = i.whole }

  quote_space_comes : (name : List ℕ) (x : ℕ) → is_space x ≡ true → (N : ℕ) (t : Element) (c : List ℕ) → QuoteMore N t levels outer e name c → QuoteMore N t levels outer e name (x ∷ c)
  quote_space_comes name x h N t c m =
      record {
        space = x ∷ m.space;
        value = m.value;
        quoted = m.quoted;
        rest = m.rest;
        is_space = all_more is_space x m.space h m.is_space;
        is_value = m.is_value;
        goes_on = m.goes_on;
        whole = ap (λ l. x ∷ l) m.whole;
      }

  -- the value begins at a byte that is no white space
  quote_begins : (name : List ℕ) (x : ℕ) → is_space x ≡ false → (N : ℕ) (t : Element) (c : List ℕ) (m : QuoteMore N t levels outer e name (x ∷ c))
      → x ∷ c ≡ m.is_value.quote ∷ (m.is_value.text ++ (m.is_value.quote ∷ m.rest))
  quote_begins name x h N t c m = sym (span_out is_space x c m.space (m.quoted ++ m.rest) m.is_space h m.whole).1 ∙ quoted_whole m.value m.quoted m.rest m.is_value

  quote_goes : (name : List ℕ) (x : ℕ) → is_space x ≡ false → (N : ℕ) (t : Element) (c : List ℕ) → QuoteMore N t levels outer e name (x ∷ c) → ValueMore N t levels outer e name x [] false c
  quote_goes name x h N t c m =
      let v = m.is_value in
      let w = quote_begins name x h N t c m in
      let q : v.quote ≡ x = sym (head_is x v.quote c (v.text ++ (v.quote ∷ m.rest)) w) in
      record {
        complete = m.value;
        b = v.text;
        rest = m.rest;
        spells = subst (λ y. ValueBehind y false [] m.value v.text) q (value_in v.quote [] m.value v.text v.spells);
        goes_on = m.goes_on;
        whole = tail_is x v.quote c (v.text ++ (v.quote ∷ m.rest)) w ∙ ap (λ y. v.text ++ (y ∷ m.rest)) q;
      }

  quote_comes : (name : List ℕ) (x : ℕ) → is_quote x ≡ true → (N : ℕ) (t : Element) (c : List ℕ) → ValueMore N t levels outer e name x [] false c → QuoteMore N t levels outer e name (x ∷ c)
  quote_comes name x h N t c m =
      let v : AttValue m.complete (x ∷ (m.b ++ (x ∷ []))) = record { quote = x; text = m.b; quoted = h; spells = value_out x [] m.complete m.b m.spells; whole = refl } in
      record {
        space = [];
        value = m.complete;
        quoted = x ∷ (m.b ++ (x ∷ []));
        rest = m.rest;
        is_space = refl;
        is_value = v;
        goes_on = m.goes_on;
        whole = ap (λ l. x ∷ l) (m.whole ∙ sym (append_assoc m.b (x ∷ []) m.rest));
      }

  quote_none : (name : List ℕ) (x : ℕ) → is_space x ≡ false → is_quote x ≡ false → (N : ℕ) (t : Element) (c : List ℕ) → QuoteMore N t levels outer e name (x ∷ c) → ⊥
  quote_none name x h k N t c m =
      let v = m.is_value in
      let q : x ≡ v.quote = head_is x v.quote c (v.text ++ (v.quote ∷ m.rest)) (quote_begins name x h N t c m) in
      false≢true (sym k ∙ ap is_quote q ∙ v.quoted)

  pub law_behind : (name : List ℕ) (at x : ℕ) → Law (Rest (behind_equals levels outer e name)) at x (next_behind_equals levels outer e name x)
  law_behind name at x =
      let R = Rest (behind_equals levels outer e name) in
      law_if R at x (is_space x) (Some (behind_equals levels outer e name)) (cond (is_quote x) (Some (in_value levels outer e name x [] false)) None)
      (λ h. law_some R at x (behind_equals levels outer e name) (quote_space_goes name x h) (quote_space_comes name x h))
      (λ h. law_if R at x (is_quote x) (Some (in_value levels outer e name x [] false)) None
      (λ k. law_some R at x (in_value levels outer e name x [] false) (quote_goes name x h) (quote_comes name x k))
      (λ k. law_none R at x (quote_none name x h k)))

  -- the name of an attribute

  -- `=` or white space follows a name
  equals_no_part : (x : ℕ) (c equals quoted rest : List ℕ) → is_name_part x ≡ true → Eq equals → equals ++ (quoted ++ rest) ≡ x ∷ c → ⊥
  equals_no_part x c equals quoted rest h q w = go (front_of x c q.0 (61 ∷ (q.1 ++ (quoted ++ rest))) (equals_whole (x ∷ c) q.0 q.1 quoted rest equals q.4 (sym w)))
    where
      go : Front x c q.0 (61 ∷ (q.1 ++ (quoted ++ rest))) → ⊥
      go (here i j) = apart is_name_part x 61 c (q.1 ++ (quoted ++ rest)) h refl (sym j)
      go (there more i j) = false≢true (sym (space_no_part x (span_first (subst MaybeSpace i q.2))) ∙ h)
        where
          span_first : MaybeSpace (x ∷ more) → is_space x ≡ true
          span_first s = (and_parts (is_space x) (list_all is_space more) s).0

  attribute_goes : (name : List ℕ) (x : ℕ) → is_name_part x ≡ true → (N : ℕ) (t : Element) (c : List ℕ) → AttributeMore N t levels outer e name (x ∷ c) → AttributeMore N t levels outer e (name ++ (x ∷ [])) c
  attribute_goes name x h N t c m = go (front_of x c m.more (m.equals ++ (m.quoted ++ m.rest)) m.whole)
    where
      go : Front x c m.more (m.equals ++ (m.quoted ++ m.rest)) → AttributeMore N t levels outer e (name ++ (x ∷ [])) c
      go (here i j) = absurd (equals_no_part x c m.equals m.quoted m.rest h m.is_equals j)
      go (there more i j) =
          let same : name ++ m.more ≡ (name ++ (x ∷ [])) ++ more = ap (λ l. name ++ l) i ∙ sym (append_assoc name (x ∷ []) more) in
          record {
            more = more;
            equals = m.equals;
            value = m.value;
            quoted = m.quoted;
            rest = m.rest;
            is_name = subst Name same m.is_name;
            is_new = subst (λ l. attr_value l e.attrs ≡ None) same m.is_new;
            is_equals = m.is_equals;
            is_value = m.is_value;
            goes_on = subst (λ l. TagMore N t levels outer false (with_attr l m.value e) m.rest) same m.goes_on;
            whole = j;
          }

  attribute_comes : (name : List ℕ) (x : ℕ) (N : ℕ) (t : Element) (c : List ℕ) → AttributeMore N t levels outer e (name ++ (x ∷ [])) c → AttributeMore N t levels outer e name (x ∷ c)
  attribute_comes name x N t c m =
      let same : (name ++ (x ∷ [])) ++ m.more ≡ name ++ (x ∷ m.more) = append_assoc name (x ∷ []) m.more in
      record {
        more = x ∷ m.more;
        equals = m.equals;
        value = m.value;
        quoted = m.quoted;
        rest = m.rest;
        is_name = subst Name same m.is_name;
        is_new = subst (λ l. attr_value l e.attrs ≡ None) same m.is_new;
        is_equals = m.is_equals;
        is_value = m.is_value;
        goes_on = subst (λ l. TagMore N t levels outer false (with_attr l m.value e) m.rest) same m.goes_on;
        whole = ap (λ l. x ∷ l) m.whole;
      }

  -- the name is over
  attribute_over : (name : List ℕ) (x : ℕ) → is_name_part x ≡ false → (N : ℕ) (t : Element) (c : List ℕ) → AttributeMore N t levels outer e name (x ∷ c)
      → (attr_value name e.attrs ≡ None) × EqualsMore N t levels outer e name (x ∷ c)
  attribute_over name x h N t c m = go (front_of x c m.more (m.equals ++ (m.quoted ++ m.rest)) m.whole)
    where
      go : Front x c m.more (m.equals ++ (m.quoted ++ m.rest)) → (attr_value name e.attrs ≡ None) × EqualsMore N t levels outer e name (x ∷ c)
      go (here i j) =
          let same : name ++ m.more ≡ name = ap (λ l. name ++ l) i ∙ append-nil name in (
            subst (λ l. attr_value l e.attrs ≡ None) same m.is_new,
            record {
              equals = m.equals;
              value = m.value;
              quoted = m.quoted;
              rest = m.rest;
              is_equals = m.is_equals;
              is_value = m.is_value;
              goes_on = subst (λ l. TagMore N t levels outer false (with_attr l m.value e) m.rest) same m.goes_on;
              whole = sym j;
            },
          )
      go (there more i j) = absurd (false≢true (sym h ∙ name_has name x more (subst (λ l. Name (name ++ l)) i m.is_name)))

  attribute_under : (name : List ℕ) → Name name → attr_value name e.attrs ≡ None → (N : ℕ) (t : Element) (c : List ℕ) → EqualsMore N t levels outer e name c → AttributeMore N t levels outer e name c
  attribute_under name is new N t c m =
      let same : name ≡ name ++ [] = sym (append-nil name) in
      record {
        more = [];
        equals = m.equals;
        value = m.value;
        quoted = m.quoted;
        rest = m.rest;
        is_name = subst Name same is;
        is_new = subst (λ l. attr_value l e.attrs ≡ None) same new;
        is_equals = m.is_equals;
        is_value = m.is_value;
        goes_on = subst (λ l. TagMore N t levels outer false (with_attr l m.value e) m.rest) same m.goes_on;
        whole = m.whole;
      }

  pub law_attribute : (name : List ℕ) → Name name → (at x : ℕ) → Law (Rest (in_attribute levels outer e name)) at x (next_state (in_attribute levels outer e name) at x)
  law_attribute name is at x =
      let R = Rest (in_attribute levels outer e name) in
      law_if R at x (is_name_part x) (Some (in_attribute levels outer e (name ++ (x ∷ [])))) (cond (is_none (attr_value name e.attrs)) (next_before_equals levels outer e name x) None)
      (λ h. law_some R at x (in_attribute levels outer e (name ++ (x ∷ []))) (attribute_goes name x h) (attribute_comes name x))
      (λ h. law_if R at x (is_none (attr_value name e.attrs)) (next_before_equals levels outer e name x) None
      (λ k. let l = law_before name at x in record {
        goes = λ N t c w m. l.goes N t c w (attribute_over name x h N t c m).1;
        comes = λ N t c w r. attribute_under name is (none_from (attr_value name e.attrs) k) N t (x ∷ c) (l.comes N t c w r);
      })
      (λ k. law_none R at x (λ N t c m. false≢true (sym k ∙ ap is_none (attribute_over name x h N t c m).0))))
