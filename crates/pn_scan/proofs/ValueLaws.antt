-- Values of attributes, byte by byte.
use Rattle.std.proofs.Common.{◌≡◌, ℕ, Bool, true, false, cond, not, ◌&&◌, ◌==◌, List, [], ◌∷◌, ◌++◌, codes, Some, None, refl, sym, ap, ◌∙◌, subst, append_assoc, append-nil}
use Rattle.std.proofs.lemmas.Bool.{false≢true, eqb-false, and_parts, and_from, not_from_false}
use Rattle.std.specs.List.{list_all}
use Rattle.pn_tree.specs.Building.{with_attr}
use Rattle.pn_markup.specs.Bytes.{is_space, is_quote, spaced_behind}
use Rattle.pn_markup.specs.References.{Reference, entity, decimal, hexadecimal, entity_name}
use Rattle.pn_markup.specs.Tags.{ValueText, is_value_byte}
use Rattle.pn_tree.specs.declared.element.Element.{Element}
use Rattle.pn_scan.specs.State.{in_tag, in_value, at_reference, of_value}
use Rattle.pn_scan.specs.Rest.{Rest, TagMore, ValueMore, ValueBehind, last_run, next_reference}
use Rattle.pn_scan.specs.NextState.{next_in_value, space_text}
use Rattle.pn_scan.proofs.Tools.{Law, law_if, law_some, law_none, law_at, head_is, tail_is, differs}
use Rattle.pn_scan.proofs.Spans.{Front, here, there, front_of, all_first, all_rest, all_more}
use Rattle.pn_scan.proofs.AttributeLaws.{value_in, value_out}

-- a reference begins with `&`
pub record Ampersand (b : List ℕ) : Type 0 where
  pub more : List ℕ
  pub is : b ≡ 38 ∷ more

pub reference_begins : (text b : List ℕ) → Reference text b → Ampersand b
reference_begins text b (entity _ _ e i j) = record { more = entity_name e ++ codes ";"; is = j }
reference_begins text b (decimal _ _ c digits n i j) = record { more = codes "#" ++ (digits ++ codes ";"); is = j }
reference_begins text b (hexadecimal _ _ c digits n i j) = record { more = codes "#x" ++ (digits ++ codes ";"); is = j }

-- one more byte of a value
pub spaced_next : (cr : Bool) (x : ℕ) (bs : List ℕ) → spaced_behind cr (x ∷ bs) ≡ space_text cr x ++ spaced_behind (x == 13) bs
spaced_next cr x bs = go (x == 13) ((x == 10) && cr)
  where
    go : (a b : Bool) → cond a (32 ∷ spaced_behind true bs) (cond b (spaced_behind false bs) (cond (is_space x) 32 x ∷ spaced_behind false bs))
        ≡ cond a (32 ∷ []) (cond b [] (cond (is_space x) 32 x ∷ [])) ++ spaced_behind a bs
    go true b = refl
    go false true = refl
    go false false = refl

spaced_so : (value : List ℕ) (cr : Bool) (x : ℕ) (bs : List ℕ) → value ++ spaced_behind cr (x ∷ bs) ≡ (value ++ space_text cr x) ++ spaced_behind (x == 13) bs
spaced_so value cr x bs = ap (λ l. value ++ l) (spaced_next cr x bs) ∙ sym (append_assoc value (space_text cr x) (spaced_behind (x == 13) bs))

-- how what is left of a value begins
pub data ValueFront (quote : ℕ) (cr : Bool) (so_far whole : List ℕ) (x : ℕ) (c rest : List ℕ) : Type 0 where
  -- with the quote
  at_quote : x ≡ quote → rest ≡ c → whole ≡ so_far → ValueFront quote cr so_far whole x c rest
  -- with a byte of a run
  at_run : (b : List ℕ) → is_value_byte quote x ≡ true → ValueBehind quote (x == 13) (so_far ++ space_text cr x) whole b → c ≡ b ++ (quote ∷ rest) → ValueFront quote cr so_far whole x c rest
  -- with a reference
  at_ref : (text bytes b : List ℕ) → Reference text bytes → x ≡ 38 → ValueText quote (so_far ++ text) whole b → x ∷ c ≡ bytes ++ (b ++ (quote ∷ rest)) → ValueFront quote cr so_far whole x c rest

value_front : (quote : ℕ) (cr : Bool) (so_far whole : List ℕ) (x : ℕ) (c b rest : List ℕ) → ValueBehind quote cr so_far whole b → x ∷ c ≡ b ++ (quote ∷ rest)
    → ValueFront quote cr so_far whole x c rest
value_front quote cr so_far whole x c b rest (last_run all is) w = go (front_of x c b (quote ∷ rest) w)
  where
    go : Front x c b (quote ∷ rest) → ValueFront quote cr so_far whole x c rest
    go (here i j) = at_quote (sym (head_is quote x rest c j)) (tail_is quote x rest c j) (is ∙ ap (λ l. so_far ++ spaced_behind cr l) i ∙ append-nil so_far)
    go (there more i j) =
        let pass = subst (λ l. list_all (is_value_byte quote) l ≡ true) i all in
        at_run more (all_first (is_value_byte quote) x more pass)
        (last_run (all_rest (is_value_byte quote) x more pass) (is ∙ ap (λ l. so_far ++ spaced_behind cr l) i ∙ spaced_so so_far cr x more)) j
value_front quote cr so_far whole x c b rest (next_reference r text bytes later all is more e) w =
    go (front_of x c r (bytes ++ (later ++ (quote ∷ rest))) whole_is)
  where
    whole_is : x ∷ c ≡ r ++ (bytes ++ (later ++ (quote ∷ rest)))
    whole_is = w ∙ ap (λ l. l ++ (quote ∷ rest)) e ∙ append_assoc r (bytes ++ later) (quote ∷ rest) ∙ ap (λ l. r ++ l) (append_assoc bytes later (quote ∷ rest))

    go : Front x c r (bytes ++ (later ++ (quote ∷ rest))) → ValueFront quote cr so_far whole x c rest
    go (here i j) =
        let a = reference_begins text bytes is in
        let x_is : x ≡ 38 = head_is x 38 c (a.more ++ (later ++ (quote ∷ rest))) (sym j ∙ ap (λ l. l ++ (later ++ (quote ∷ rest))) a.is) in
        at_ref text bytes later is x_is (subst (λ l. ValueText quote (l ++ text) whole later) (ap (λ l. so_far ++ spaced_behind cr l) i ∙ append-nil so_far) more) (sym j)
    go (there run i j) =
        let pass = subst (λ l. list_all (is_value_byte quote) l ≡ true) i all in
        at_run (run ++ (bytes ++ later)) (all_first (is_value_byte quote) x run pass)
        (next_reference run text bytes later (all_rest (is_value_byte quote) x run pass) is
        (subst (λ l. ValueText quote (l ++ text) whole later) (ap (λ l. so_far ++ spaced_behind cr l) i ∙ spaced_so so_far cr x run) more) refl)
        (j ∙ ap (λ l. run ++ l) (sym (append_assoc bytes later (quote ∷ rest))) ∙ sym (append_assoc run (bytes ++ later) (quote ∷ rest)))

-- one more byte of a run before what is left
value_run : (quote : ℕ) (cr : Bool) (so_far whole : List ℕ) (x : ℕ) (b : List ℕ) → is_value_byte quote x ≡ true → ValueBehind quote (x == 13) (so_far ++ space_text cr x) whole b
    → ValueBehind quote cr so_far whole (x ∷ b)
value_run quote cr so_far whole x b h (last_run all is) = last_run (all_more (is_value_byte quote) x b h all) (is ∙ sym (spaced_so so_far cr x b))
value_run quote cr so_far whole x b h (next_reference r text bytes later all is more e) =
    next_reference (x ∷ r) text bytes later (all_more (is_value_byte quote) x r h all) is
    (subst (λ l. ValueText quote (l ++ text) whole later) (sym (spaced_so so_far cr x r)) more) (ap (λ l. x ∷ l) e)

not_true : (b : Bool) → not b ≡ true → b ≡ false
not_true true h = absurd (false≢true h)
not_true false h = refl

quote_is_not : (quote k : ℕ) → is_quote quote ≡ true → is_quote k ≡ false → quote ≡ k → ⊥
quote_is_not quote k h other e = false≢true (sym other ∙ ap is_quote (sym e) ∙ h)

module _ (levels : ℕ) (outer : List Element) (e : Element) (name : List ℕ) (quote : ℕ) (quoted : is_quote quote ≡ true) where
  abbrev More : ℕ → Element → List ℕ → Bool → List ℕ → Type 0
  More N t value cr c = ValueMore N t levels outer e name quote value cr c

  closes_goes : (value : List ℕ) (cr : Bool) (N : ℕ) (t : Element) (c : List ℕ) → More N t value cr (quote ∷ c) → TagMore N t levels outer false (with_attr name value e) c
  closes_goes value cr N t c m = go (value_front quote cr value m.complete quote c m.b m.rest m.spells m.whole)
    where
      go : ValueFront quote cr value m.complete quote c m.rest → TagMore N t levels outer false (with_attr name value e) c
      go (at_quote i j k) = subst (λ l. TagMore N t levels outer false (with_attr name value e) l) j (subst (λ l. TagMore N t levels outer false (with_attr name l e) m.rest) k m.goes_on)
      go (at_run b h s w) = absurd (eqb-false quote quote (not_true (quote == quote) (and_parts (not (quote == quote)) (not (quote == 60) && not (quote == 38)) h).0) refl)
      go (at_ref text bytes b r h v w) = absurd (quote_is_not quote 38 quoted refl h)

  closes_comes : (value : List ℕ) (cr : Bool) (N : ℕ) (t : Element) (c : List ℕ) → TagMore N t levels outer false (with_attr name value e) c → More N t value cr (quote ∷ c)
  closes_comes value cr N t c m = record { complete = value; b = []; rest = c; spells = last_run refl (sym (append-nil value)); goes_on = m; whole = refl }

  less_none : (value : List ℕ) (cr : Bool) (N : ℕ) (t : Element) (c : List ℕ) → More N t value cr (60 ∷ c) → ⊥
  less_none value cr N t c m = go (value_front quote cr value m.complete 60 c m.b m.rest m.spells m.whole)
    where
      go : ValueFront quote cr value m.complete 60 c m.rest → ⊥
      go (at_quote i j k) = quote_is_not quote 60 quoted refl (sym i)
      go (at_run b h s w) = false≢true (and_parts (not (60 == quote)) false h).1
      go (at_ref text bytes b r h v w) = differs 60 38 [] [] refl (ap (λ y. y ∷ []) h)

  ref_goes : (value : List ℕ) (cr : Bool) (N : ℕ) (t : Element) (c : List ℕ) → More N t value cr (38 ∷ c) → Rest (at_reference (of_value levels outer e name quote value)) N t c
  ref_goes value cr N t c m = go (value_front quote cr value m.complete 38 c m.b m.rest m.spells m.whole)
    where
      go : ValueFront quote cr value m.complete 38 c m.rest → Rest (at_reference (of_value levels outer e name quote value)) N t c
      go (at_quote i j k) = absurd (quote_is_not quote 38 quoted refl (sym i))
      go (at_run b h s w) = absurd (false≢true (and_parts (not (38 == quote)) false h).1)
      go (at_ref text bytes b r h v w) =
          (text, bytes, b ++ (quote ∷ m.rest), r, record { complete = m.complete; b = b; rest = m.rest; spells = value_in quote (value ++ text) m.complete b v; goes_on = m.goes_on; whole = refl }, w)

  ref_comes : (value : List ℕ) (cr : Bool) (N : ℕ) (t : Element) (c : List ℕ) → Rest (at_reference (of_value levels outer e name quote value)) N t c → More N t value cr (38 ∷ c)
  ref_comes value cr N t c r =
      let m = r.4 in
      record {
        complete = m.complete;
        b = r.1 ++ m.b;
        rest = m.rest;
        spells = next_reference [] r.0 r.1 m.b refl r.3 (subst (λ l. ValueText quote (l ++ r.0) m.complete m.b) (sym (append-nil value)) (value_out quote (value ++ r.0) m.complete m.b m.spells)) refl;
        goes_on = m.goes_on;
        whole = r.5 ∙ ap (λ l. r.1 ++ l) m.whole ∙ sym (append_assoc r.1 m.b (quote ∷ m.rest));
      }

  run_goes : (value : List ℕ) (cr : Bool) (x : ℕ) → (x == quote) ≡ false → (x == 38) ≡ false → (N : ℕ) (t : Element) (c : List ℕ) → More N t value cr (x ∷ c) → More N t (value ++ space_text cr x) (x == 13) c
  run_goes value cr x no_quote no_ref N t c m = go (value_front quote cr value m.complete x c m.b m.rest m.spells m.whole)
    where
      go : ValueFront quote cr value m.complete x c m.rest → More N t (value ++ space_text cr x) (x == 13) c
      go (at_quote i j k) = absurd (eqb-false x quote no_quote i)
      go (at_run b h s w) = record { complete = m.complete; b = b; rest = m.rest; spells = s; goes_on = m.goes_on; whole = w }
      go (at_ref text bytes b r h v w) = absurd (eqb-false x 38 no_ref h)

  run_comes : (value : List ℕ) (cr : Bool) (x : ℕ) → (x == quote) ≡ false → (x == 60) ≡ false → (x == 38) ≡ false → (N : ℕ) (t : Element) (c : List ℕ)
      → More N t (value ++ space_text cr x) (x == 13) c → More N t value cr (x ∷ c)
  run_comes value cr x no_quote no_less no_ref N t c m =
      let byte : is_value_byte quote x ≡ true =
      and_from (not (x == quote)) (not (x == 60) && not (x == 38)) (not_from_false (x == quote) no_quote) (and_from (not (x == 60)) (not (x == 38)) (not_from_false (x == 60) no_less) (not_from_false (x == 38) no_ref)) in
      record { complete = m.complete; b = x ∷ m.b; rest = m.rest; spells = value_run quote cr value m.complete x m.b byte m.spells; goes_on = m.goes_on; whole = ap (λ l. x ∷ l) m.whole }

  pub law_value : (value : List ℕ) (cr : Bool) (at x : ℕ) → Law (Rest (in_value levels outer e name quote value cr)) at x (next_in_value levels outer e name quote value cr x)
  law_value value cr at x =
      let R = Rest (in_value levels outer e name quote value cr) in
      let tag = in_tag levels outer (with_attr name value e) false in
      let ref = at_reference (of_value levels outer e name quote value) in
      let more = in_value levels outer e name quote (value ++ space_text cr x) (x == 13) in
      law_if R at x (x == quote) (Some tag) (cond (x == 60) None (cond (x == 38) (Some ref) (Some more)))
      (λ h. law_at R at x quote (Some tag) h (law_some R at quote tag (closes_goes value cr) (closes_comes value cr)))
      (λ h. law_if R at x (x == 60) None (cond (x == 38) (Some ref) (Some more))
      (λ k. law_at R at x 60 None k (law_none R at 60 (less_none value cr)))
      (λ k. law_if R at x (x == 38) (Some ref) (Some more)
      (λ l. law_at R at x 38 (Some ref) l (law_some R at 38 ref (ref_goes value cr) (ref_comes value cr)))
      (λ l. law_some R at x more (run_goes value cr x h l) (run_comes value cr x h k l))))
