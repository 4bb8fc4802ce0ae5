-- What was fed, byte by byte.
use Rattle.std.proofs.Common.{◌≡◌, ℕ, suc, true, List, [], ◌∷◌, ◌++◌, length, Some, None, refl, sym, ap, ◌∙◌, subst, append_assoc, append-nil, arith, length-append}
use Rattle.pn_text.specs.Characters.{is_text}
use Rattle.pn_tree.specs.declared.element.Element.{Element}
use Rattle.pn_markup.specs.Misc.{nothing}
use Rattle.pn_markup.specs.Content.{Spells}
use Rattle.pn_markup.specs.Document.{Markup, IsDocument, IsFront}
use Rattle.pn_scan.specs.State.{State, at_start, at_end}
use Rattle.pn_scan.specs.Rest.{Rest, Body, Whole}
use Rattle.pn_scan.specs.NextState.{next_state}
use Rattle.pn_utf8.specs.Characters.{open_behind}
use Rattle.pn_scan.specs.Viable.{IsViable}
use Rattle.pn_scan.specs.Fed.{Fed}
use Rattle.pn_scan.proofs.Tools.{Case}
use Rattle.pn_scan.proofs.PieceLemmas.{some_is}
use Rattle.pn_scan.proofs.NextStateLaw.{law}
use Rattle.pn_scan.proofs.ViableLemmas.{Keeps, keeps}
use Rattle.pn_utf8.proofs.TextLemmas.{text_goes, text_comes, open_still, open_text}
use Rattle.pn_scan.proofs.HighLemmas.{completes_all}
use Rattle.pn_scan.proofs.EndLemmas.{ends}

-- the beginning

start_goes : (t : Element) (b : List ℕ) → Markup t b → Whole (length b) t b
start_goes t b m =
    let p = m.is_prolog in
    let body : Body (length b) t (p.misc ++ (m.root ++ m.misc)) =
    record {
      misc = p.misc;
      root = m.root;
      last = m.misc;
      at = length m.prolog;
      is_misc = p.is_misc;
      is_root = m.is_root;
      is_last = m.is_misc;
      offset = sym (length-append m.prolog (m.root ++ m.misc)) ∙ ap length (sym m.whole);
      whole = refl;
    } in (
      p.mark,
      p.declaration ++ (p.misc ++ (m.root ++ m.misc)),
      p.is_mark,
      (p.declaration, p.misc ++ (m.root ++ m.misc), p.is_declaration, body, refl),
      m.whole ∙ ap (λ l. l ++ (m.root ++ m.misc)) p.whole ∙ append_assoc p.mark (p.declaration ++ p.misc) (m.root ++ m.misc)
          ∙ ap (λ l. p.mark ++ l) (append_assoc p.declaration p.misc (m.root ++ m.misc)),
    )

start_comes : (t : Element) (b : List ℕ) → Whole (length b) t b → Markup t b
start_comes t b w =
    let g = w.3 in
    let body = g.3 in
    let prolog = w.0 ++ (g.0 ++ body.misc) in
    let all : b ≡ prolog ++ (body.root ++ body.last) =
    w.4 ∙ ap (λ l. w.0 ++ l) (g.4 ∙ ap (λ l. g.0 ++ l) body.whole ∙ sym (append_assoc g.0 body.misc (body.root ++ body.last))) ∙ sym (append_assoc w.0 (g.0 ++ body.misc) (body.root ++ body.last)) in
    let here : body.at ≡ length prolog = omega (arith, body.offset, ap length all ∙ length-append prolog (body.root ++ body.last)) in
    record {
      prolog = prolog;
      root = body.root;
      misc = body.last;
      is_prolog = record { mark = w.0; declaration = g.0; misc = body.misc; is_mark = w.2; is_declaration = g.2; is_misc = body.is_misc; whole = refl };
      is_root = subst (λ n. Spells 256 n t body.root) here body.is_root;
      is_misc = body.is_last;
      whole = all;
    }

pub fed_start : Fed at_start [] []
fed_start = record { viable = refl; is_open = tt; text_goes = λ c h. h; text_comes = λ c h. h; goes = λ t c m. start_goes t c m; comes = λ t c w. start_comes t c w }

-- one more byte

pub fed_more : (s : State) (p b : List ℕ) (x : ℕ) (o : List ℕ) (s2 : State) → Fed s p b → open_behind p x ≡ Some o → next_state s (length b) x ≡ Some s2 → Fed s2 o (b ++ (x ∷ []))
fed_more s p b x o s2 f e i =
    record {
      viable = subst (λ n. IsViable s2 n o) (sym long_one) (subst (λ a. Keeps a (suc (length b)) o) i (keeps (length b) p x o e f.is_open s f.viable));
      is_open = open_still p x o e;
      text_goes = λ c h. let n = text_goes p x c f.is_open (f.text_goes (x ∷ c) (subst (λ l. is_text l ≡ true) (append_assoc b (x ∷ []) c) h)) in
          subst (λ q. is_text (q ++ c) ≡ true) (some_is n.open_bytes o (sym n.is ∙ e)) n.rest;
      text_comes = λ c h. subst (λ l. is_text l ≡ true) (sym (append_assoc b (x ∷ []) c)) (f.text_comes (x ∷ c) (text_comes p x c o e h));
      goes = λ t c m.
          let r = f.goes t (x ∷ c) (subst (Markup t) (append_assoc b (x ∷ []) c) m) in
          let q = (law s (length b) p f.viable x).goes (length (b ++ (x ∷ c))) t c (sym (length-append b (x ∷ c))) r in
          subst (λ n. Rest s2 n t c) (ap length (sym (append_assoc b (x ∷ []) c))) (subst (λ a. Case a (length (b ++ (x ∷ c))) t c) i q);
      comes = λ t c r.
          let q = subst (λ n. Rest s2 n t c) (ap length (append_assoc b (x ∷ []) c)) r in
          let u = (law s (length b) p f.viable x).comes (length (b ++ (x ∷ c))) t c (sym (length-append b (x ∷ c))) (subst (λ a. Case a (length (b ++ (x ∷ c))) t c) (sym i) q) in
          subst (Markup t) (sym (append_assoc b (x ∷ []) c)) (f.comes t (x ∷ c) u);
    }
  where
    long_one : length (b ++ (x ∷ [])) ≡ suc (length b)
    long_one = length-append b (x ∷ []) ∙ omega arith

-- where a byte is refused no document goes on

pub fed_no_character : (s : State) (p b : List ℕ) (x : ℕ) → Fed s p b → open_behind p x ≡ None → IsFront (b ++ (x ∷ [])) → ⊥
fed_no_character s p b x f e d =
    let n = text_goes p x d.1 f.is_open (f.text_goes (x ∷ d.1) (subst (λ l. is_text l ≡ true) (append_assoc b (x ∷ []) d.1) d.2.characters)) in
    differ n.open_bytes (sym n.is ∙ e)
  where
    differ : (q : List ℕ) → Some q ≡ None → ⊥
    differ q h = cc

pub fed_no_state : (s : State) (p b : List ℕ) (x : ℕ) → Fed s p b → next_state s (length b) x ≡ None → IsFront (b ++ (x ∷ [])) → ⊥
fed_no_state s p b x f i d =
    let r = f.goes d.0 (x ∷ d.1) (subst (Markup d.0) (append_assoc b (x ∷ []) d.1) d.2.markup) in
    let q = (law s (length b) p f.viable x).goes (length (b ++ (x ∷ d.1))) d.0 d.1 (sym (length-append b (x ∷ d.1))) r in
    subst (λ a. Case a (length (b ++ (x ∷ d.1))) d.0 d.1) i q

-- what was fed begins a document

pub fed_front : (s : State) (p b : List ℕ) → Fed s p b → IsFront b
fed_front s p b f =
    let r = completes_all s (length b) p f.is_open f.viable in
    let q = r.rest (length (b ++ r.c)) (sym (length-append b r.c)) in
    (q.0, r.c, record { characters = f.text_comes r.c r.is_text; markup = f.comes q.0 r.c q.1 })

-- and it is a document exactly behind its root

pub fed_document : (s : State) (p b : List ℕ) (t : Element) → Fed s p b → IsDocument t b → (s ≡ at_end t) × (p ≡ [])
fed_document s p b t f d =
    let all : b ++ [] ≡ b = append-nil b in
    let r = f.goes t [] (subst (Markup t) (sym all) d.markup) in
    let text = f.text_goes [] (subst (λ l. is_text l ≡ true) (sym all) d.characters) in
    (ends s (length b) p f.viable (length (b ++ [])) t r, open_text p f.is_open (subst (λ l. is_text l ≡ true) (append-nil p) text))

pub document_fed : (t : Element) (b : List ℕ) → Fed (at_end t) [] b → IsDocument t b
document_fed t b f =
    let all : b ++ [] ≡ b = append-nil b in
    record { characters = subst (λ l. is_text l ≡ true) all (f.text_comes [] refl); markup = subst (Markup t) all (f.comes t [] (refl, nothing [] refl)) }

-- a front of a front is a front
pub front_less : (a c : List ℕ) → IsFront (a ++ c) → IsFront a
front_less a c d = (d.0, c ++ d.1, subst (IsDocument d.0) (append_assoc a c d.1) d.2)
