-- Outside the root, byte by byte.
use Rattle.std.proofs.Common.{◌≡◌, ℕ, suc, ◌+◌, Bool, true, false, cond, ◌==◌, List, [], ◌∷◌, ◌++◌, codes, length, Some, None, refl, sym, ap, ◌∙◌, subst}
use Rattle.std.proofs.lemmas.Bool.{false≢true}
use Rattle.pn_markup.specs.Bytes.{is_space}
use Rattle.pn_markup.specs.Misc.{Misc, nothing, space, comment, instruction}
use Rattle.pn_markup.specs.Declaration.{Maybe, XMLDecl}
use Rattle.pn_markup.specs.Document.{ByteOrderMark}
use Rattle.pn_tree.specs.declared.element.Element.{Element}
use Rattle.pn_scan.specs.State.{before, behind, at_start, outside, at_end, at_markup, due}
use Rattle.pn_scan.specs.Rest.{Rest, Body, Begin, Whole, MarkupMore, begun, may_declare}
use Rattle.pn_scan.specs.NextState.{next_state, next_outside}
use Rattle.pn_scan.proofs.Tools.{Law, law_if, law_some, law_none, law_at, tail_is, no_head, differs, apart}
use Rattle.pn_scan.proofs.MiscLemmas.{body_begun, begun_body, end_begun, begun_end}
use Rattle.pn_scan.proofs.BegunLemmas.{only_less_before, only_less_behind}
use Rattle.pn_scan.proofs.DeclarationLaws.{declaration_in, declaration_out}
use Rattle.pn_scan.proofs.ElementLemmas.{over_tagged}

-- no comment and no instruction begins with white space
misc_space : (x : ℕ) (c d : List ℕ) → is_space x ≡ true → Misc d → x ∷ c ≡ d → Misc c
misc_space x c d h (nothing _ i) e = absurd (no_head x c (sym (e ∙ i)))
misc_space x c d h (space _ one rest s more i) e = subst Misc (sym (tail_is x one c rest (e ∙ i))) more
misc_space x c d h (comment _ bytes rest s more i) e = absurd (apart is_space x 60 c ((codes "!--" ++ (s.0 ++ codes "-->")) ++ rest) h refl (e ∙ i ∙ ap (λ l. l ++ rest) s.2))
misc_space x c d h (instruction _ bytes rest s more i) e =
    absurd (apart is_space x 60 c ((codes "?" ++ (s.target ++ (s.text ++ codes "?>"))) ++ rest) h refl (e ∙ i ∙ ap (λ l. l ++ rest) s.whole))

body_space : (N : ℕ) (t : Element) (x : ℕ) (c : List ℕ) → is_space x ≡ true → Body N t (x ∷ c) → Body N t c
body_space N t x c h b = go b.misc b.is_misc b.whole
  where
    go : (m : List ℕ) → Misc m → x ∷ c ≡ m ++ (b.root ++ b.last) → Body N t c
    go m (nothing _ i) w =
        let all : x ∷ c ≡ b.root ++ b.last = w ∙ ap (λ l. l ++ (b.root ++ b.last)) i in
        let offset : b.at + length (x ∷ c) ≡ N = ap (λ l. b.at + length l) all ∙ b.offset in
        let g = over_tagged N t b.at 255 [] (x ∷ c) offset (record { element = t; bytes = b.root; rest = b.last; is_element = b.is_root; goes_on = (refl, b.is_last); is = all }) in
        absurd (apart is_space x 60 c ((g.is_tag.name ++ g.is_tag.attributes) ++ g.rest) h refl (g.is ∙ ap (λ l. l ++ g.rest) g.is_tag.whole))
    go m (space _ one rest s more i) w =
        record {
          misc = rest;
          root = b.root;
          last = b.last;
          at = b.at;
          is_misc = more;
          is_root = b.is_root;
          is_last = b.is_last;
          offset = b.offset;
          whole = tail_is x one c (rest ++ (b.root ++ b.last)) (w ∙ ap (λ l. l ++ (b.root ++ b.last)) i);
        }
    go m (comment _ bytes rest s more i) w =
        absurd (apart is_space x 60 c (((codes "!--" ++ (s.0 ++ codes "-->")) ++ rest) ++ (b.root ++ b.last)) h refl (w ∙ ap (λ l. l ++ (b.root ++ b.last)) (i ∙ ap (λ l. l ++ rest) s.2)))
    go m (instruction _ bytes rest s more i) w =
        absurd (apart is_space x 60 c (((codes "?" ++ (s.target ++ (s.text ++ codes "?>"))) ++ rest) ++ (b.root ++ b.last)) h refl
        (w ∙ ap (λ l. l ++ (b.root ++ b.last)) (i ∙ ap (λ l. l ++ rest) s.whole)))

space_body : (N : ℕ) (t : Element) (x : ℕ) (c : List ℕ) → is_space x ≡ true → Body N t c → Body N t (x ∷ c)
space_body N t x c h b =
    record {
      misc = x ∷ b.misc;
      root = b.root;
      last = b.last;
      at = b.at;
      is_misc = space (x ∷ b.misc) x b.misc h b.is_misc refl;
      is_root = b.is_root;
      is_last = b.is_last;
      offset = b.offset;
      whole = ap (λ l. x ∷ l) b.whole;
    }

markup_body : (N : ℕ) (t : Element) (at : ℕ) (c : List ℕ) → at + suc (length c) ≡ N → MarkupMore N t false at before c → Body N t (60 ∷ c)
markup_body N t at c w (begun b) = begun_body N t at (60 ∷ c) w b
markup_body N t at c w (may_declare rest h i m e) = absurd (false≢true h)

law_body : (at x : ℕ) → Law (Rest (outside false)) at x (next_outside false at x)
law_body at x =
    let R = Rest (outside false) in
    let markup = Some (at_markup false before at) in
    law_if R at x (is_space x) (Some (outside false)) (cond (x == 60) markup None)
    (λ h. law_some R at x (outside false) (λ N t c b. body_space N t x c h b) (λ N t c b. space_body N t x c h b))
    (λ h. law_if R at x (x == 60) markup None
    (λ k. law_at R at x 60 markup k (record {
      goes = λ N t c w b. (w, begun (body_begun N t at 60 c w refl b));
      comes = λ N t c w r. markup_body N t at c w r.1;
    }))
    (λ k. record {
      goes = λ N t c w b. only_less_before N t at x c k (body_begun N t at x c w h b);
      comes = λ N t c w r. absurd r;
    }))

-- a declaration may still come

-- without white space and `<` nothing comes
begin_cases : (N : ℕ) (t : Element) (x : ℕ) (c : List ℕ) (P : Type 0) → Begin N t (x ∷ c) → (Body N t (x ∷ c) → P)
    → ((declaration rest : List ℕ) → XMLDecl declaration → Body N t rest → x ∷ c ≡ declaration ++ rest → P) → P
begin_cases N t x c P b f g = go b.0 b.2 b.4
  where
    go : (d : List ℕ) → Maybe XMLDecl d → x ∷ c ≡ d ++ b.1 → P
    go [] m w = f (subst (Body N t) (sym w) b.3)
    go (y ∷ d) m w = g (y ∷ d) b.1 m b.3 w

-- a declaration begins with `<?xml`
declaration_first : (x k : ℕ) (c d declaration rest : List ℕ) (p : ℕ → Bool) → XMLDecl declaration → x ∷ c ≡ declaration ++ rest → p x ≡ true → p 60 ≡ false → ⊥
declaration_first x k c d declaration rest p m w h i =
    apart p x 60 c ((codes "?xml" ++ (m.version ++ (m.encoding ++ (m.standalone ++ (m.space ++ codes "?>"))))) ++ rest) h i (w ∙ ap (λ l. l ++ rest) m.whole)

maybe_declaration : (d : List ℕ) → XMLDecl d → Maybe XMLDecl d
maybe_declaration [] m = tt
maybe_declaration (x ∷ d) m = m

begin_markup : (N : ℕ) (t : Element) (at : ℕ) (c : List ℕ) → at + suc (length c) ≡ N → Begin N t (60 ∷ c) → MarkupMore N t true at before c
begin_markup N t at c offset b = begin_cases N t 60 c (MarkupMore N t true at before c) b
    (λ body. begun (body_begun N t at 60 c offset refl body))
    (λ declaration rest m body w. let i = declaration_in (Body N t) declaration rest m body in
    may_declare i.0 refl refl i.1 (tail_is 60 60 c (codes "?xml" ++ i.0) (w ∙ i.2)))

markup_begin : (N : ℕ) (t : Element) (at : ℕ) (c : List ℕ) → at + suc (length c) ≡ N → MarkupMore N t true at before c → Begin N t (60 ∷ c)
markup_begin N t at c offset (begun b) = ([], 60 ∷ c, tt, begun_body N t at (60 ∷ c) offset b, refl)
markup_begin N t at c offset (may_declare rest h i m e) =
    let o = declaration_out (Body N t) rest m in (o.0, o.1, maybe_declaration o.0 o.2, o.3, ap (λ l. 60 ∷ l) e ∙ o.4)

law_begin : (at x : ℕ) → Law (Rest (outside true)) at x (next_outside true at x)
law_begin at x =
    let R = Rest (outside true) in
    let markup = Some (at_markup true before at) in
    law_if R at x (is_space x) (Some (outside false)) (cond (x == 60) markup None)
    (λ h. law_some R at x (outside false)
    (λ N t c b. begin_cases N t x c (Body N t c) b (body_space N t x c h) (λ declaration rest m body w. absurd (declaration_first x 60 c c declaration rest is_space m w h refl)))
    (λ N t c b. ([], x ∷ c, tt, space_body N t x c h b, refl)))
    (λ h. law_if R at x (x == 60) markup None
    (λ k. law_at R at x 60 markup k (record {
      goes = λ N t c w b. (w, begin_markup N t at c w b);
      comes = λ N t c w r. markup_begin N t at c w r.1;
    }))
    (λ k. record {
      goes = λ N t c w b. begin_cases N t x c ⊥ b (λ body. only_less_before N t at x c k (body_begun N t at x c w h body))
          (λ declaration rest m body e. differs x 60 c ((codes "?xml" ++ (m.version ++ (m.encoding ++ (m.standalone ++ (m.space ++ codes "?>"))))) ++ rest) k (e ∙ ap (λ l. l ++ rest) m.whole));
      comes = λ N t c w r. absurd r;
    }))

pub law_outside : (first : Bool) (at x : ℕ) → Law (Rest (outside first)) at x (next_state (outside first) at x)
law_outside true at x = law_begin at x
law_outside false at x = law_body at x

-- the beginning

mark_goes : (N : ℕ) (t : Element) (at : ℕ) (c : List ℕ) → at + suc (length c) ≡ N → Whole N t (0xEF ∷ c) → Rest (due (0xBB ∷ 0xBF ∷ []) (outside true)) N t c
mark_goes N t at c offset b = go b.0 b.2 b.4
  where
    go : (mark : List ℕ) → Maybe ByteOrderMark mark → 0xEF ∷ c ≡ mark ++ b.1 → Rest (due (0xBB ∷ 0xBF ∷ []) (outside true)) N t c
    go [] m w = absurd ((law_begin at 0xEF).goes N t c offset (subst (Begin N t) (sym w) b.3))
    go (y ∷ mark) m w = (b.1, b.3, tail_is 0xEF 0xEF c (0xBB ∷ 0xBF ∷ b.1) (w ∙ ap (λ l. l ++ b.1) m))

no_mark : (N : ℕ) (t : Element) (x : ℕ) (c : List ℕ) → (x == 0xEF) ≡ false → Whole N t (x ∷ c) → Begin N t (x ∷ c)
no_mark N t x c h b = go b.0 b.2 b.4
  where
    go : (mark : List ℕ) → Maybe ByteOrderMark mark → x ∷ c ≡ mark ++ b.1 → Begin N t (x ∷ c)
    go [] m w = subst (Begin N t) (sym w) b.3
    go (y ∷ mark) m w = absurd (differs x 0xEF c (0xBB ∷ 0xBF ∷ b.1) h (w ∙ ap (λ l. l ++ b.1) m))

pub law_start : (at x : ℕ) → Law (Rest at_start) at x (next_state at_start at x)
law_start at x =
    let R = Rest at_start in
    let marked = Some (due (0xBB ∷ 0xBF ∷ []) (outside true)) in
    let l = law_begin at x in
    law_if R at x (x == 0xEF) marked (next_outside true at x)
    (λ h. law_at R at x 0xEF marked h (record {
      goes = λ N t c w b. mark_goes N t at c w b;
      comes = λ N t c w r. (0xEF ∷ 0xBB ∷ 0xBF ∷ [], r.0, refl, r.1, ap (λ l. 0xEF ∷ l) r.2);
    }))
    (λ h. record { goes = λ N t c w b. l.goes N t c w (no_mark N t x c h b); comes = λ N t c w r. ([], x ∷ c, tt, l.comes N t c w r, refl) })

-- behind the root

markup_end : (N : ℕ) (t root : Element) (at : ℕ) (c : List ℕ) → MarkupMore N t false at (behind root) c → (t ≡ root) × Misc (60 ∷ c)
markup_end N t root at c (begun b) = begun_end N t at root (60 ∷ c) b
markup_end N t root at c (may_declare rest h i m e) = absurd (false≢true h)

pub law_at_end : (root : Element) (at x : ℕ) → Law (Rest (at_end root)) at x (next_state (at_end root) at x)
law_at_end root at x =
    let R = Rest (at_end root) in
    let markup = Some (at_markup false (behind root) at) in
    law_if R at x (is_space x) (Some (at_end root)) (cond (x == 60) markup None)
    (λ h. law_some R at x (at_end root) (λ N t c r. (r.0, misc_space x c (x ∷ c) h r.1 refl)) (λ N t c r. (r.0, space (x ∷ c) x c h r.1 refl)))
    (λ h. law_if R at x (x == 60) markup None
    (λ k. law_at R at x 60 markup k (record {
      goes = λ N t c w r. (w, begun (end_begun N t at 60 root c refl r));
      comes = λ N t c w r. markup_end N t root at c r.1;
    }))
    (λ k. law_none R at x (λ N t c r. only_less_behind N t at x root c k (end_begun N t at x root c h r))))
