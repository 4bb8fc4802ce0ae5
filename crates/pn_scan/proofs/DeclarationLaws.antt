-- The XML declaration, byte by byte.
use Rattle.std.proofs.Common.{◌≡◌, ℕ, Bool, true, false, cond, ◌&&◌, ◌==◌, List, [], ◌∷◌, ◌++◌, codes, Some, None, refl, sym, ap, ◌∙◌, subst, append_assoc, append-nil}
use Rattle.std.proofs.lemmas.Bool.{false≢true, eqb-true, eq-eqb, and_parts, and_from}
use Rattle.pn_markup.specs.Bytes.{is_space, is_quote, MaybeSpace, Space}
use Rattle.pn_markup.specs.Tags.{Eq}
use Rattle.pn_markup.specs.Declaration.{Declared, Maybe, XMLDecl, is_encoding, is_standalone}
use Rattle.pn_tree.specs.declared.element.Element.{Element}
use Rattle.pn_scan.specs.State.{Part, Stage, version, encoding, standalone, all_due, from_encoding, from_standalone, none_due, outside, due, in_declaration, before_part_equals, behind_part_equals, in_part}
use Rattle.pn_scan.specs.Rest.{Rest, Body, SpaceOr, word_of, is_part_value, may_come, may_end, stage_behind, DeclarationMore, closes, one_part, PartEquals, PartValue}
use Rattle.pn_scan.specs.NextState.{next_state, next_in_declaration, part_begins, next_in_part, is_part_front}
use Rattle.pn_scan.proofs.Tools.{Law, law_if, law_some, law_none, law_at, head_is, tail_is, differs, apart}
use Rattle.pn_scan.proofs.Spans.{span_in, span_out, Front, here, there, front_of, all_more, space_maybe, space_more, quote_no_space}
use Rattle.pn_scan.proofs.PartLemmas.{value_front, front_prefix, front_last}

-- the declaration whole, and from its first part on

-- what comes behind the encoding
record Tail (K : List ℕ → Type 0) (c : List ℕ) : Type 0 where
  last : List ℕ
  space : List ℕ
  rest : List ℕ
  last_is : Maybe (Declared (codes "standalone") is_standalone) last
  space_is : MaybeSpace space
  goes_on : K rest
  is : c ≡ last ++ (space ++ (codes "?>" ++ rest))

module _ (K : List ℕ → Type 0) where
  -- one part before the rest
  part_in : (stage : Stage) (p : Part) (b rest : List ℕ) → may_come stage p ≡ true → Declared (word_of p) (is_part_value p) b → DeclarationMore K (stage_behind p) false rest
      → DeclarationMore K stage false (b ++ rest)
  part_in stage p b rest may d more =
      one_part stage false (b ++ rest) p d.space d.equals d.value d.quote rest may d.space_is d.equals_is d.quoted d.good more
      (ap (λ l. l ++ rest) d.whole ∙ append_assoc d.space (word_of p ++ (d.equals ++ (d.quote ∷ (d.value ++ (d.quote ∷ []))))) rest
      ∙ ap (λ l. d.space ++ l) (append_assoc (word_of p) (d.equals ++ (d.quote ∷ (d.value ++ (d.quote ∷ [])))) rest
      ∙ ap (λ l. word_of p ++ l) (append_assoc d.equals (d.quote ∷ (d.value ++ (d.quote ∷ []))) rest
      ∙ ap (λ l. d.equals ++ (d.quote ∷ l)) (append_assoc d.value (d.quote ∷ []) rest))))

  tail_in : (stage : Stage) → may_come stage standalone ≡ true → may_end stage ≡ true → (last space rest : List ℕ) → Maybe (Declared (codes "standalone") is_standalone) last → MaybeSpace space → K rest
      → DeclarationMore K stage false (last ++ (space ++ (codes "?>" ++ rest)))
  tail_in stage may ends [] space rest m s k = closes stage false (space ++ (codes "?>" ++ rest)) space rest ends s k refl
  tail_in stage may ends (x ∷ last) space rest m s k =
      part_in stage standalone (x ∷ last) (space ++ (codes "?>" ++ rest)) may m (closes none_due false (space ++ (codes "?>" ++ rest)) space rest refl s k refl)

  encoding_in : (first last space rest : List ℕ) → Maybe (Declared (codes "encoding") is_encoding) first → Maybe (Declared (codes "standalone") is_standalone) last → MaybeSpace space → K rest
      → DeclarationMore K from_encoding false (first ++ (last ++ (space ++ (codes "?>" ++ rest))))
  encoding_in [] last space rest e m s k = tail_in from_encoding refl refl last space rest m s k
  encoding_in (x ∷ first) last space rest e m s k =
      part_in from_encoding encoding (x ∷ first) (last ++ (space ++ (codes "?>" ++ rest))) refl e (tail_in from_standalone refl refl last space rest m s k)

  pub declaration_in : (declaration rest : List ℕ) → XMLDecl declaration → K rest → (more : List ℕ) × DeclarationMore K all_due false more × (declaration ++ rest ≡ codes "<?xml" ++ more)
  declaration_in declaration rest d k = (
    d.version ++ (d.encoding ++ (d.standalone ++ (d.space ++ (codes "?>" ++ rest)))),
    part_in all_due version d.version (d.encoding ++ (d.standalone ++ (d.space ++ (codes "?>" ++ rest)))) refl d.version_is
        (encoding_in d.encoding d.standalone d.space rest d.encoding_is d.standalone_is d.space_is k),
    ap (λ l. l ++ rest) d.whole
        ∙ ap (λ l. codes "<?xml" ++ l) (append_assoc d.version (d.encoding ++ (d.standalone ++ (d.space ++ codes "?>"))) rest
        ∙ ap (λ l. d.version ++ l) (append_assoc d.encoding (d.standalone ++ (d.space ++ codes "?>")) rest
        ∙ ap (λ l. d.encoding ++ l) (append_assoc d.standalone (d.space ++ codes "?>") rest
        ∙ ap (λ l. d.standalone ++ l) (append_assoc d.space (codes "?>") rest)))),
  )

  -- a part of a declaration in front of more
  record Split (p : Part) (c : List ℕ) : Type 0 where
    bytes : List ℕ
    more : List ℕ
    part_is : Declared (word_of p) (is_part_value p) bytes
    goes_on : DeclarationMore K (stage_behind p) false more
    is : c ≡ bytes ++ more

  split : (p : Part) (c space equals value : List ℕ) (quote : ℕ) (rest : List ℕ) → Space space → Eq equals → is_quote quote ≡ true → is_part_value p value ≡ true
      → DeclarationMore K (stage_behind p) false rest → c ≡ space ++ (word_of p ++ (equals ++ (quote ∷ (value ++ (quote ∷ rest))))) → Split p c
  split p c space equals value quote rest s e q g more w =
      let bytes = space ++ (word_of p ++ (equals ++ (quote ∷ (value ++ (quote ∷ []))))) in
      record {
        bytes = bytes;
        more = rest;
        part_is = record { space = space; equals = equals; value = value; quote = quote; space_is = s; equals_is = e; quoted = q; good = g; whole = refl };
        goes_on = more;
        is = w ∙ sym (append_assoc space (word_of p ++ (equals ++ (quote ∷ (value ++ (quote ∷ []))))) rest
            ∙ ap (λ l. space ++ l) (append_assoc (word_of p) (equals ++ (quote ∷ (value ++ (quote ∷ [])))) rest
            ∙ ap (λ l. word_of p ++ l) (append_assoc equals (quote ∷ (value ++ (quote ∷ []))) rest
            ∙ ap (λ l. equals ++ (quote ∷ l)) (append_assoc value (quote ∷ []) rest))));
      }

  maybe : (P : List ℕ → Type 0) (b : List ℕ) → P b → Maybe P b
  maybe P [] p = tt
  maybe P (x ∷ b) p = p

  none_out : (c : List ℕ) → DeclarationMore K none_due false c → (space : List ℕ) × (rest : List ℕ) × MaybeSpace space × K rest × (c ≡ space ++ (codes "?>" ++ rest))
  none_out c m = go none_due false c m refl
    where
      go : (stage : Stage) (sp : Bool) (d : List ℕ) → DeclarationMore K stage sp d → stage ≡ none_due → (space : List ℕ) × (rest : List ℕ) × MaybeSpace space × K rest × (d ≡ space ++ (codes "?>" ++ rest))
      go stage sp d (closes _ _ _ space rest may s k w) h = (space, rest, s, k, w)
      go stage sp d (one_part _ _ _ p space equals value quote rest may s e q g more w) h = absurd (none_comes p (subst (λ st. may_come st p ≡ true) h may))
        where
          none_comes : (p : Part) → may_come none_due p ≡ true → ⊥
          none_comes version h = false≢true h
          none_comes encoding h = false≢true h
          none_comes standalone h = false≢true h

  tail_out : (c : List ℕ) → DeclarationMore K from_standalone false c → Tail K c
  tail_out c m = go from_standalone false c m refl refl
    where
      comes : (stage : Stage) (d : List ℕ) (p : Part) → stage ≡ from_standalone → may_come stage p ≡ true → Split p d → Tail K d
      comes stage d version h may s = absurd (false≢true (subst (λ st. may_come st version ≡ true) h may))
      comes stage d encoding h may s = absurd (false≢true (subst (λ st. may_come st encoding ≡ true) h may))
      comes stage d standalone h may s =
          let n = none_out s.more s.goes_on in
          record {
            last = s.bytes;
            space = n.0;
            rest = n.1;
            last_is = maybe (Declared (codes "standalone") is_standalone) s.bytes s.part_is;
            space_is = n.2;
            goes_on = n.3;
            is = s.is ∙ ap (λ l. s.bytes ++ l) n.4;
          }

      go : (stage : Stage) (sp : Bool) (d : List ℕ) → DeclarationMore K stage sp d → stage ≡ from_standalone → sp ≡ false → Tail K d
      go stage sp d (closes _ _ _ space rest may s k w) h i = record { last = []; space = space; rest = rest; last_is = tt; space_is = s; goes_on = k; is = w }
      go stage sp d (one_part _ _ _ p space equals value quote rest may s e q g more w) h i =
          comes stage d p h may (split p d space equals value quote rest (subst (λ b. SpaceOr b space) i s) e q g more w)

  -- what comes behind the version
  record Later (c : List ℕ) : Type 0 where
    first : List ℕ
    more : List ℕ
    first_is : Maybe (Declared (codes "encoding") is_encoding) first
    tail : Tail K more
    is : c ≡ first ++ more

  later_out : (c : List ℕ) → DeclarationMore K from_encoding false c → Later c
  later_out c m = go from_encoding false c m refl refl
    where
      comes : (stage : Stage) (d : List ℕ) (p : Part) → stage ≡ from_encoding → may_come stage p ≡ true → Split p d → Later d
      comes stage d version h may s = absurd (false≢true (subst (λ st. may_come st version ≡ true) h may))
      comes stage d encoding h may s =
          record { first = s.bytes; more = s.more; first_is = maybe (Declared (codes "encoding") is_encoding) s.bytes s.part_is; tail = tail_out s.more s.goes_on; is = s.is }
      comes stage d standalone h may s =
          let n = none_out s.more s.goes_on in
          record {
            first = [];
            more = d;
            first_is = tt;
            tail = record {
              last = s.bytes;
              space = n.0;
              rest = n.1;
              last_is = maybe (Declared (codes "standalone") is_standalone) s.bytes s.part_is;
              space_is = n.2;
              goes_on = n.3;
              is = s.is ∙ ap (λ l. s.bytes ++ l) n.4;
            };
            is = refl;
          }

      go : (stage : Stage) (sp : Bool) (d : List ℕ) → DeclarationMore K stage sp d → stage ≡ from_encoding → sp ≡ false → Later d
      go stage sp d (closes _ _ _ space rest may s k w) h i =
          record { first = []; more = d; first_is = tt; tail = record { last = []; space = space; rest = rest; last_is = tt; space_is = s; goes_on = k; is = w }; is = refl }
      go stage sp d (one_part _ _ _ p space equals value quote rest may s e q g more w) h i =
          comes stage d p h may (split p d space equals value quote rest (subst (λ b. SpaceOr b space) i s) e q g more w)

  pub declaration_out : (c : List ℕ) → DeclarationMore K all_due false c → (declaration : List ℕ) × (rest : List ℕ) × XMLDecl declaration × K rest × (codes "<?xml" ++ c ≡ declaration ++ rest)
  declaration_out c m = go all_due false c m refl refl
    where
      Whole : List ℕ → Type 0
      Whole d = (declaration : List ℕ) × (rest : List ℕ) × XMLDecl declaration × K rest × (codes "<?xml" ++ d ≡ declaration ++ rest)

      comes : (stage : Stage) (d : List ℕ) (p : Part) → stage ≡ all_due → may_come stage p ≡ true → Split p d
          → (declaration : List ℕ) × (rest : List ℕ) × XMLDecl declaration × K rest × (codes "<?xml" ++ d ≡ declaration ++ rest)
      comes stage d encoding h may s = absurd (false≢true (subst (λ st. may_come st encoding ≡ true) h may))
      comes stage d standalone h may s = absurd (false≢true (subst (λ st. may_come st standalone ≡ true) h may))
      comes stage d version h may s =
          let l = later_out s.more s.goes_on in
          let u = l.tail in
          let back = u.space ++ codes "?>" in
          let declaration = codes "<?xml" ++ (s.bytes ++ (l.first ++ (u.last ++ back))) in (
            declaration,
            u.rest,
            record { version = s.bytes; encoding = l.first; standalone = u.last; space = u.space; version_is = s.part_is; encoding_is = l.first_is; standalone_is = u.last_is; space_is = u.space_is; whole = refl },
            u.goes_on,
            ap (λ k. codes "<?xml" ++ k) (s.is ∙ ap (λ k. s.bytes ++ k) (l.is ∙ ap (λ k. l.first ++ k) (u.is ∙ ap (λ k. u.last ++ k) (sym (append_assoc u.space (codes "?>") u.rest)))
                ∙ ap (λ k. l.first ++ k) (sym (append_assoc u.last back u.rest)) ∙ sym (append_assoc l.first (u.last ++ back) u.rest))
                ∙ sym (append_assoc s.bytes (l.first ++ (u.last ++ back)) u.rest)),
          )

      go : (stage : Stage) (sp : Bool) (d : List ℕ) → DeclarationMore K stage sp d → stage ≡ all_due → sp ≡ false
          → (declaration : List ℕ) × (rest : List ℕ) × XMLDecl declaration × K rest × (codes "<?xml" ++ d ≡ declaration ++ rest)
      go stage sp d (closes _ _ _ space rest may s k w) h i = absurd (false≢true (subst (λ st. may_end st ≡ true) h may))
      go stage sp d (one_part _ _ _ p space equals value quote rest may s e q g more w) h i =
          comes stage d p h may (split p d space equals value quote rest (subst (λ b. SpaceOr b space) i s) e q g more w)

-- the states of the declaration

-- a word of a part begins with no white space
word_byte : (p : Part) (rest : List ℕ) (x : ℕ) (c : List ℕ) → is_space x ≡ true → word_of p ++ rest ≡ x ∷ c → ⊥
word_byte version rest x c h w = apart is_space x 118 c (codes "ersion" ++ rest) h refl (sym w)
word_byte encoding rest x c h w = apart is_space x 101 c (codes "ncoding" ++ rest) h refl (sym w)
word_byte standalone rest x c h w = apart is_space x 115 c (codes "tandalone" ++ rest) h refl (sym w)

abbrev pub letter : Part → ℕ
letter version = 118
letter encoding = 101
letter standalone = 115

abbrev pub letters : Part → List ℕ
letters version = codes "ersion"
letters encoding = codes "ncoding"
letters standalone = codes "tandalone"

word_is : (p : Part) → word_of p ≡ letter p ∷ letters p
word_is version = refl
word_is encoding = refl
word_is standalone = refl

module _ (K : List ℕ → Type 0) where
  pub declared_space_goes : (stage : Stage) (spaced : Bool) (x : ℕ) (c : List ℕ) → is_space x ≡ true → DeclarationMore K stage spaced (x ∷ c) → DeclarationMore K stage true c
  declared_space_goes stage spaced x c h m = go stage spaced (x ∷ c) m refl
    where
      go : (st : Stage) (sp : Bool) (d : List ℕ) → DeclarationMore K st sp d → x ∷ c ≡ d → DeclarationMore K st true c
      go st sp d (closes _ _ _ space rest may s k w) e =
          let i = span_in is_space x c space (codes "?>" ++ rest) s (λ z. apart is_space x 63 c (62 ∷ rest) h refl (sym z)) (e ∙ w) in
          closes st true c i.more rest may i.pass k i.whole
      go st sp d (one_part _ _ _ p space equals value quote rest may s eq q g more w) e =
          let after = equals ++ (quote ∷ (value ++ (quote ∷ rest))) in
          let i = span_in is_space x c space (word_of p ++ after) (space_maybe sp space s) (λ z. word_byte p after x c h z) (e ∙ w) in
          one_part st true c p i.more equals value quote rest may i.pass eq q g more i.whole

  pub declared_space_comes : (stage : Stage) (spaced : Bool) (x : ℕ) (c : List ℕ) → is_space x ≡ true → DeclarationMore K stage true c → DeclarationMore K stage spaced (x ∷ c)
  declared_space_comes stage spaced x c h m = go stage true c m
    where
      go : (st : Stage) (sp : Bool) (d : List ℕ) → DeclarationMore K st sp d → DeclarationMore K st spaced (x ∷ d)
      go st sp d (closes _ _ _ space rest may s k w) = closes st spaced (x ∷ d) (x ∷ space) rest may (all_more is_space x space h s) k (ap (λ l. x ∷ l) w)
      go st sp d (one_part _ _ _ p space equals value quote rest may s eq q g more w) =
          one_part st spaced (x ∷ d) p (x ∷ space) equals value quote rest may (space_more spaced x space h (space_maybe sp space s)) eq q g more (ap (λ l. x ∷ l) w)

  -- at a byte that is no white space
  data At (stage : Stage) (spaced : Bool) (x : ℕ) (c : List ℕ) : Type 0 where
    at_close : (rest : List ℕ) → x ≡ 63 → may_end stage ≡ true → K rest → c ≡ 62 ∷ rest → At stage spaced x c
    at_part : (p : Part) (rest : List ℕ) → spaced ≡ true → x ≡ letter p → may_come stage p ≡ true → PartEquals p K rest → c ≡ letters p ++ rest → At stage spaced x c

  declared_at : (stage : Stage) (spaced : Bool) (x : ℕ) (c : List ℕ) → is_space x ≡ false → DeclarationMore K stage spaced (x ∷ c) → At stage spaced x c
  declared_at stage spaced x c h m = go stage spaced (x ∷ c) m refl
    where
      spaced_is : (sp : Bool) → SpaceOr sp [] → sp ≡ true
      spaced_is true s = refl
      spaced_is false s = absurd s

      go : (st : Stage) (sp : Bool) (d : List ℕ) → DeclarationMore K st sp d → x ∷ c ≡ d → At st sp x c
      go st sp d (closes _ _ _ space rest may s k w) e =
          let i = span_out is_space x c space (codes "?>" ++ rest) s h (e ∙ w) in
          at_close rest (sym (head_is 63 x (62 ∷ rest) c i.1)) may k (sym (tail_is 63 x (62 ∷ rest) c i.1))
      go st sp d (one_part _ _ _ p space equals value quote rest may s eq q g more w) e =
          let after = equals ++ (quote ∷ (value ++ (quote ∷ rest))) in
          let i = span_out is_space x c space (word_of p ++ after) (space_maybe sp space s) h (e ∙ w) in
          let all : letter p ∷ (letters p ++ after) ≡ x ∷ c = sym (ap (λ l. l ++ after) (word_is p)) ∙ i.1 in
          at_part p after (spaced_is sp (subst (SpaceOr sp) i.0 s)) (sym (head_is (letter p) x (letters p ++ after) c all)) may
          (record { equals = equals; value = value; quote = quote; rest = rest; is_equals = eq; quoted = q; good = g; goes_on = more; whole = refl })
          (sym (tail_is (letter p) x (letters p ++ after) c all))

  part_comes : (stage : Stage) (p : Part) (c rest : List ℕ) → may_come stage p ≡ true → PartEquals p K rest → c ≡ letters p ++ rest → DeclarationMore K stage true (letter p ∷ c)
  part_comes stage p c rest may m w =
      one_part stage true (letter p ∷ c) p [] m.equals m.value m.quote m.rest may refl m.is_equals m.quoted m.good m.goes_on
      (ap (λ l. letter p ∷ l) (w ∙ ap (λ l. letters p ++ l) m.whole) ∙ sym (ap (λ l. l ++ (m.equals ++ (m.quote ∷ (m.value ++ (m.quote ∷ m.rest))))) (word_is p)))

-- the letter tells the part
letters_differ : (p q : Part) → letter p ≡ letter q → p ≡ q
letters_differ version version h = refl
letters_differ version encoding h = absurd (differs 118 101 [] [] refl (ap (λ y. y ∷ []) h))
letters_differ version standalone h = absurd (differs 118 115 [] [] refl (ap (λ y. y ∷ []) h))
letters_differ encoding version h = absurd (differs 101 118 [] [] refl (ap (λ y. y ∷ []) h))
letters_differ encoding encoding h = refl
letters_differ encoding standalone h = absurd (differs 101 115 [] [] refl (ap (λ y. y ∷ []) h))
letters_differ standalone version h = absurd (differs 115 118 [] [] refl (ap (λ y. y ∷ []) h))
letters_differ standalone encoding h = absurd (differs 115 101 [] [] refl (ap (λ y. y ∷ []) h))
letters_differ standalone standalone h = refl

no_mark : (p : Part) → letter p ≡ 63 → ⊥
no_mark version h = differs 118 63 [] [] refl (ap (λ y. y ∷ []) h)
no_mark encoding h = differs 101 63 [] [] refl (ap (λ y. y ∷ []) h)
no_mark standalone h = differs 115 63 [] [] refl (ap (λ y. y ∷ []) h)

module _ (stage : Stage) where
  R : Bool → ℕ → Element → List ℕ → Type 0
  R spaced = Rest (in_declaration stage spaced)

  -- the word of this part
  law_word : (p : Part) (at x : ℕ) → is_space x ≡ false → x ≡ letter p → may_come stage p ≡ true → Law (Rest (in_declaration stage true)) at x (Some (due (letters p) (before_part_equals p)))
  law_word p at x s e may = law_some (Rest (in_declaration stage true)) at x (due (letters p) (before_part_equals p))
      (λ N t c m. goes N t c (declared_at (Body N t) stage true x c s m))
      (λ N t c r. subst (λ y. DeclarationMore (Body N t) stage true (y ∷ c)) (sym e) (part_comes (Body N t) stage p c r.0 may r.1 r.2))
    where
      goes : (N : ℕ) (t : Element) (c : List ℕ) → At (Body N t) stage true x c → Rest (due (letters p) (before_part_equals p)) N t c
      goes N t c (at_close rest i may k w) = absurd (no_mark p (sym e ∙ i))
      goes N t c (at_part q rest sp i may m w) =
          let same = letters_differ q p (sym i ∙ e) in (rest, subst (λ o. PartEquals o (Body N t) rest) same m, w ∙ ap (λ o. letters o ++ rest) same)

  -- no word
  law_no_word : (spaced : Bool) (at x : ℕ) → is_space x ≡ false → ((x == 63) && may_end stage) ≡ false → ((p : Part) → spaced ≡ true → x ≡ letter p → may_come stage p ≡ true → ⊥)
      → Law (Rest (in_declaration stage spaced)) at x None
  law_no_word spaced at x s no_close no_part = law_none (Rest (in_declaration stage spaced)) at x (λ N t c m. goes N t c (declared_at (Body N t) stage spaced x c s m))
    where
      goes : (N : ℕ) (t : Element) (c : List ℕ) → At (Body N t) stage spaced x c → ⊥
      goes N t c (at_close rest i may k w) = false≢true (sym no_close ∙ and_from (x == 63) (may_end stage) (eq-eqb x 63 i) may)
      goes N t c (at_part p rest sp i may m w) = no_part p sp i may

  law_words : (at x : ℕ) → is_space x ≡ false → ((x == 63) && may_end stage) ≡ false → Law (Rest (in_declaration stage true)) at x (part_begins stage x)
  law_words at x s no_close =
      let R = Rest (in_declaration stage true) in
      let v = Some (due (codes "ersion") (before_part_equals version)) in
      let e = Some (due (codes "ncoding") (before_part_equals encoding)) in
      let l = Some (due (codes "tandalone") (before_part_equals standalone)) in
      law_if R at x ((x == 118) && may_come stage version) v (cond ((x == 101) && may_come stage encoding) e (cond ((x == 115) && may_come stage standalone) l None))
      (λ h. let b = and_parts (x == 118) (may_come stage version) h in law_word version at x s (eqb-true x 118 b.0) b.1)
      (λ h. law_if R at x ((x == 101) && may_come stage encoding) e (cond ((x == 115) && may_come stage standalone) l None)
      (λ k. let b = and_parts (x == 101) (may_come stage encoding) k in law_word encoding at x s (eqb-true x 101 b.0) b.1)
      (λ k. law_if R at x ((x == 115) && may_come stage standalone) l None
      (λ m. let b = and_parts (x == 115) (may_come stage standalone) m in law_word standalone at x s (eqb-true x 115 b.0) b.1)
      (λ m. law_no_word true at x s no_close (λ p sp i may. none_of h k m p i may))))
    where
      none_of : ((x == 118) && may_come stage version) ≡ false → ((x == 101) && may_come stage encoding) ≡ false → ((x == 115) && may_come stage standalone) ≡ false
          → (p : Part) → x ≡ letter p → may_come stage p ≡ true → ⊥
      none_of h k m version i may = false≢true (sym h ∙ and_from (x == 118) (may_come stage version) (eq-eqb x 118 i) may)
      none_of h k m encoding i may = false≢true (sym k ∙ and_from (x == 101) (may_come stage encoding) (eq-eqb x 101 i) may)
      none_of h k m standalone i may = false≢true (sym m ∙ and_from (x == 115) (may_come stage standalone) (eq-eqb x 115 i) may)

  close_goes : (spaced : Bool) (N : ℕ) (t : Element) (c : List ℕ) → At (Body N t) stage spaced 63 c → Rest (due (codes ">") (outside false)) N t c
  close_goes spaced N t c (at_close rest i may k w) = (rest, k, w)
  close_goes spaced N t c (at_part p rest sp i may m w) = absurd (no_mark p (sym i))

  pub law_declaration : (spaced : Bool) (at x : ℕ) → Law (Rest (in_declaration stage spaced)) at x (next_in_declaration stage spaced x)
  law_declaration spaced at x =
      let R = Rest (in_declaration stage spaced) in
      let closed = Some (due (codes ">") (outside false)) in
      law_if R at x (is_space x) (Some (in_declaration stage true)) (cond ((x == 63) && may_end stage) closed (cond spaced (part_begins stage x) None))
      (λ h. law_some R at x (in_declaration stage true) (λ N t c m. declared_space_goes (Body N t) stage spaced x c h m) (λ N t c m. declared_space_comes (Body N t) stage spaced x c h m))
      (λ h. law_if R at x ((x == 63) && may_end stage) closed (cond spaced (part_begins stage x) None)
      (λ k. let b = and_parts (x == 63) (may_end stage) k in
      law_at R at x 63 closed b.0 (law_some R at 63 (due (codes ">") (outside false))
      (λ N t c m. close_goes spaced N t c (declared_at (Body N t) stage spaced 63 c refl m))
      (λ N t c r. closes stage spaced (63 ∷ c) [] r.0 b.1 refl r.1 (ap (λ l. 63 ∷ l) r.2))))
      (λ k. last spaced h k))
    where
      last : (sp : Bool) → is_space x ≡ false → ((x == 63) && may_end stage) ≡ false → Law (Rest (in_declaration stage sp)) at x (cond sp (part_begins stage x) None)
      last true h k = law_words at x h k
      last false h k = law_no_word false at x h k (λ p sp i may. false≢true sp)

module _ (p : Part) where
  -- `=` with its white space, before the value
  equals_is : (K : List ℕ → Type 0) (c : List ℕ) (m : PartEquals p K c) → c ≡ m.is_equals.0 ++ (61 ∷ (m.is_equals.1 ++ (m.quote ∷ (m.value ++ (m.quote ∷ m.rest)))))
  equals_is K c m =
      let v = m.quote ∷ (m.value ++ (m.quote ∷ m.rest)) in m.whole ∙ ap (λ l. l ++ v) m.is_equals.4 ∙ append_assoc m.is_equals.0 (61 ∷ m.is_equals.1) v

  pub law_before_part : (at x : ℕ) → Law (Rest (before_part_equals p)) at x (next_state (before_part_equals p) at x)
  law_before_part at x =
      let R = Rest (before_part_equals p) in
      law_if R at x (is_space x) (Some (before_part_equals p)) (cond (x == 61) (Some (behind_part_equals p)) None)
      (λ h. law_some R at x (before_part_equals p)
      (λ N t c m. let v = m.quote ∷ (m.value ++ (m.quote ∷ m.rest)) in
      let i = span_in is_space x c m.is_equals.0 (61 ∷ (m.is_equals.1 ++ v)) m.is_equals.2 (λ z. apart is_space x 61 c (m.is_equals.1 ++ v) h refl (sym z)) (equals_is (Body N t) (x ∷ c) m) in
      record {
        equals = i.more ++ (61 ∷ m.is_equals.1);
        value = m.value;
        quote = m.quote;
        rest = m.rest;
        is_equals = (i.more, m.is_equals.1, i.pass, m.is_equals.3, refl);
        quoted = m.quoted;
        good = m.good;
        goes_on = m.goes_on;
        whole = i.whole ∙ sym (append_assoc i.more (61 ∷ m.is_equals.1) v);
      })
      (λ N t c m. record {
        equals = x ∷ m.equals;
        value = m.value;
        quote = m.quote;
        rest = m.rest;
        is_equals = (x ∷ m.is_equals.0, m.is_equals.1, all_more is_space x m.is_equals.0 h m.is_equals.2, m.is_equals.3, ap (λ l. x ∷ l) m.is_equals.4);
        quoted = m.quoted;
        good = m.good;
        goes_on = m.goes_on;
        whole = ap (λ l. x ∷ l) m.whole;
      }))
      (λ h. law_if R at x (x == 61) (Some (behind_part_equals p)) None
      (λ k. law_at R at x 61 (Some (behind_part_equals p)) k (law_some R at 61 (behind_part_equals p)
      (λ N t c m. let v = m.quote ∷ (m.value ++ (m.quote ∷ m.rest)) in
      let i = span_out is_space 61 c m.is_equals.0 (61 ∷ (m.is_equals.1 ++ v)) m.is_equals.2 refl (equals_is (Body N t) (61 ∷ c) m) in
      record {
        space = m.is_equals.1;
        value = m.value;
        quote = m.quote;
        rest = m.rest;
        is_space = m.is_equals.3;
        quoted = m.quoted;
        good = m.good;
        goes_on = m.goes_on;
        whole = sym (tail_is 61 61 (m.is_equals.1 ++ v) c i.1);
      })
      (λ N t c m. record {
        equals = 61 ∷ m.space;
        value = m.value;
        quote = m.quote;
        rest = m.rest;
        is_equals = ([], m.space, refl, m.is_space, refl);
        quoted = m.quoted;
        good = m.good;
        goes_on = m.goes_on;
        whole = ap (λ l. 61 ∷ l) m.whole;
      })))
      (λ k. law_none R at x (λ N t c m. let v = m.quote ∷ (m.value ++ (m.quote ∷ m.rest)) in
      differs x 61 c (m.is_equals.1 ++ v) k (sym (span_out is_space x c m.is_equals.0 (61 ∷ (m.is_equals.1 ++ v)) m.is_equals.2 h (equals_is (Body N t) (x ∷ c) m)).1))))

  pub law_behind_part : (at x : ℕ) → Law (Rest (behind_part_equals p)) at x (next_state (behind_part_equals p) at x)
  law_behind_part at x =
      let R = Rest (behind_part_equals p) in
      law_if R at x (is_space x) (Some (behind_part_equals p)) (cond (is_quote x) (Some (in_part p x [])) None)
      (λ h. law_some R at x (behind_part_equals p)
      (λ N t c m. let v = m.quote ∷ (m.value ++ (m.quote ∷ m.rest)) in
      let i = span_in is_space x c m.space v m.is_space (λ z. apart is_space x m.quote c (m.value ++ (m.quote ∷ m.rest)) h (quote_no_space m.quote m.quoted) (sym z)) m.whole in
      record { space = i.more; value = m.value; quote = m.quote; rest = m.rest; is_space = i.pass; quoted = m.quoted; good = m.good; goes_on = m.goes_on; whole = i.whole })
      (λ N t c m. record {
        space = x ∷ m.space;
        value = m.value;
        quote = m.quote;
        rest = m.rest;
        is_space = all_more is_space x m.space h m.is_space;
        quoted = m.quoted;
        good = m.good;
        goes_on = m.goes_on;
        whole = ap (λ l. x ∷ l) m.whole;
      }))
      (λ h. law_if R at x (is_quote x) (Some (in_part p x [])) None
      (λ k. law_some R at x (in_part p x [])
      (λ N t c m. let v = m.value ++ (m.quote ∷ m.rest) in
      let i = span_out is_space x c m.space (m.quote ∷ v) m.is_space h m.whole in
      let q : m.quote ≡ x = head_is m.quote x v c i.1 in
      record { more = m.value; rest = m.rest; good = m.good; goes_on = m.goes_on; whole = sym (tail_is m.quote x v c i.1) ∙ ap (λ y. m.value ++ (y ∷ m.rest)) q })
      (λ N t c m. record { space = []; value = m.more; quote = x; rest = m.rest; is_space = refl; quoted = k; good = m.good; goes_on = m.goes_on; whole = ap (λ l. x ∷ l) m.whole }))
      (λ k. law_none R at x (λ N t c m. let v = m.value ++ (m.quote ∷ m.rest) in
      let i = span_out is_space x c m.space (m.quote ∷ v) m.is_space h m.whole in
      false≢true (sym k ∙ ap is_quote (sym (head_is m.quote x v c i.1)) ∙ m.quoted))))

  -- one more byte of a value
  next_front : (value : List ℕ) (x : ℕ) (more : List ℕ) → is_part_value p (value ++ (x ∷ more)) ≡ true → is_part_front p (value ++ (x ∷ [])) ≡ true
  next_front value x more h =
      front_prefix p (value ++ (x ∷ [])) more (subst (λ l. is_part_front p l ≡ true) (sym (append_assoc value (x ∷ []) more)) (value_front p (value ++ (x ∷ more)) h))

  value_ends : (quote : ℕ) (value : List ℕ) → is_quote quote ≡ true → (N : ℕ) (t : Element) (c : List ℕ) → PartValue p quote value (Body N t) (quote ∷ c)
      → (is_part_value p value ≡ true) × DeclarationMore (Body N t) (stage_behind p) false c
  value_ends quote value q N t c m = go (front_of quote c m.more (quote ∷ m.rest) m.whole)
    where
      go : Front quote c m.more (quote ∷ m.rest) → (is_part_value p value ≡ true) × DeclarationMore (Body N t) (stage_behind p) false c
      go (here i j) = (subst (λ l. is_part_value p l ≡ true) (ap (λ l. value ++ l) i ∙ append-nil value) m.good, subst (DeclarationMore (Body N t) (stage_behind p) false) (tail_is quote quote m.rest c j) m.goes_on)
      go (there more i j) =
          absurd (false≢true (sym (front_last p value quote (next_front value quote more (subst (λ l. is_part_value p (value ++ l) ≡ true) i m.good))) ∙ q))

  value_goes : (quote : ℕ) (value : List ℕ) (x : ℕ) → (x == quote) ≡ false → (N : ℕ) (t : Element) (c : List ℕ) → PartValue p quote value (Body N t) (x ∷ c)
      → (is_part_front p (value ++ (x ∷ [])) ≡ true) × PartValue p quote (value ++ (x ∷ [])) (Body N t) c
  value_goes quote value x h N t c m = go (front_of x c m.more (quote ∷ m.rest) m.whole)
    where
      go : Front x c m.more (quote ∷ m.rest) → (is_part_front p (value ++ (x ∷ [])) ≡ true) × PartValue p quote (value ++ (x ∷ [])) (Body N t) c
      go (here i j) = absurd (differs x quote c m.rest h (sym j))
      go (there more i j) =
          let good = subst (λ l. is_part_value p (value ++ l) ≡ true) i m.good in
          (next_front value x more good, record { more = more; rest = m.rest; good = subst (λ l. is_part_value p l ≡ true) (sym (append_assoc value (x ∷ []) more)) good; goes_on = m.goes_on; whole = j })

  pub law_part : (quote : ℕ) (value : List ℕ) → is_quote quote ≡ true → (at x : ℕ) → Law (Rest (in_part p quote value)) at x (next_in_part p quote value x)
  law_part quote value q at x =
      let R = Rest (in_part p quote value) in
      let ended = cond (is_part_value p value) (Some (in_declaration (stage_behind p) false)) None in
      let more = in_part p quote (value ++ (x ∷ [])) in
      law_if R at x (x == quote) ended (cond (is_part_front p (value ++ (x ∷ []))) (Some more) None)
      (λ h. law_at R at x quote ended h (law_if R at quote (is_part_value p value) (Some (in_declaration (stage_behind p) false)) None
      (λ k. law_some R at quote (in_declaration (stage_behind p) false) (λ N t c m. (value_ends quote value q N t c m).1)
      (λ N t c m. record { more = []; rest = c; good = subst (λ l. is_part_value p l ≡ true) (sym (append-nil value)) k; goes_on = m; whole = refl }))
      (λ k. law_none R at quote (λ N t c m. false≢true (sym k ∙ (value_ends quote value q N t c m).0)))))
      (λ h. law_if R at x (is_part_front p (value ++ (x ∷ []))) (Some more) None
      (λ k. law_some R at x more (λ N t c m. (value_goes quote value x h N t c m).1)
      (λ N t c m. record { more = x ∷ m.more; rest = m.rest; good = subst (λ l. is_part_value p l ≡ true) (append_assoc value (x ∷ []) m.more) m.good; goes_on = m.goes_on; whole = ap (λ l. x ∷ l) m.whole }))
      (λ k. law_none R at x (λ N t c m. false≢true (sym k ∙ (value_goes quote value x h N t c m).0))))
