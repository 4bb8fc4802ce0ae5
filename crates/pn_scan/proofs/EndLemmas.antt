-- A document is over only behind its root.
use Rattle.std.proofs.Common.{◌≡◌, ◌⊎◌, inl, inr, ℕ, suc, ◌<◌, Bool, true, false, List, [], ◌∷◌, ◌++◌, codes, length, Some, None, refl, sym, ap, ◌∙◌, subst, append-nil, arith, length-append}
use Rattle.pn_tree.specs.Building.{with_text}
use Rattle.pn_tree.specs.declared.element.Element.{Element}
use Rattle.pn_markup.specs.Bytes.{lacks, line_ends_behind}
use Rattle.pn_markup.specs.References.{Reference, entity_name}
use Rattle.pn_markup.specs.References as references
use Rattle.pn_markup.specs.Tags.{ETag, AttValue, named}
use Rattle.pn_markup.specs.Content as content
use Rattle.pn_markup.specs.Content.{ElementOver, Spells}
use Rattle.pn_scan.specs.State.{Nesting, within, Stage, all_due, Brackets, no_bracket, one_bracket, two_brackets, State, at_start, outside, at_end, in_run, at_markup, at_bang, in_comment, in_target, in_instruction, in_section, in_name, in_tag, in_attribute, before_equals, behind_equals, in_value, at_reference, in_entity, at_number, in_number, due, in_end, in_declaration, before_part_equals, behind_part_equals, in_part}
use Rattle.pn_scan.specs.Rest.{Rest, Body, Begin, Running, BehindElement, Resumed, Held, TagEnd, opens, closes_empty, TagMore, tag_ends, one_attribute, BangMore, bang_comment, bang_section, MarkupMore, begun, may_declare, Begun, a_comment, an_instruction, a_section, a_reference, an_end, a_tag, TargetMore, names_instruction, names_declaration, DeclarationMore, closes, one_part, Until, is_comment, dashes, questions, brackets, word_of, NumberMore, EntityMore}
use Rattle.pn_scan.specs.NextState.{entity_of}
use Rattle.pn_scan.specs.Viable.{IsViable}
use Rattle.pn_scan.proofs.Tools.{tail_is, differs}
use Rattle.pn_scan.proofs.Spans.{name_parts}
use Rattle.pn_scan.proofs.ValueLaws.{reference_begins}
use Rattle.pn_scan.proofs.ReferenceLaws.{full_name, entity_of-full}

-- nothing is a list that has something in it

has_last : (a : List ℕ) (k : ℕ) (d : List ℕ) → [] ≡ a ++ (k ∷ d) → ⊥
has_last [] k d e = absurd cc
has_last (x ∷ a) k d e = absurd cc

both_none : (a b : List ℕ) → [] ≡ a ++ b → (a ≡ []) × (b ≡ [])
both_none [] b e = (refl, sym e)
both_none (x ∷ a) b e = absurd cc

no_list : (x : ℕ) (xs : List ℕ) → [] ≡ x ∷ xs → ⊥
no_list x xs h = cc

-- in each part of the grammar there is something

body_none : (N : ℕ) (t : Element) → Body N t [] → ⊥
body_none N t b =
    let i = both_none b.misc (b.root ++ b.last) b.whole in
    let j = both_none b.root b.last (sym i.1) in go b.root b.is_root (sym j.0)
  where
    go : (root : List ℕ) → ElementOver (Spells 255) b.at t root → [] ≡ root → ⊥
    go root (content.empty _ _ _ tag g w) e = has_last tag 47 (codes ">") (e ∙ w)
    go root (content.whole _ _ started _ tag inner close next g c k n w) e = has_last tag 62 (inner ++ close) (e ∙ w)

begin_none : (N : ℕ) (t : Element) → Begin N t [] → ⊥
begin_none N t b = body_none N t (subst (Body N t) (both_none b.0 b.1 b.4).1 b.3)

close_none : (name close : List ℕ) → ETag name close → close ≡ [] → ⊥
close_none name close e h = no_list 60 (codes "/" ++ (name ++ (e.0 ++ codes ">"))) (sym h ∙ e.2)

running_none : (K : Element → List ℕ → Type 0) (N levels : ℕ) (p : Element) (text : List ℕ) (b : Brackets) (cr : Bool) → Running K N levels p text b cr [] → ⊥
running_none K N levels p text b cr r =
    let m = r.goes_on in
    let i = both_none r.run r.rest r.whole in
    let j = both_none m.pieces (m.close ++ m.rest) (sym i.1 ∙ m.whole) in
    let k = both_none m.close m.rest (sym j.1) in
    close_none (with_text (text ++ line_ends_behind cr r.run) p).name m.close m.is_close k.0

quoted_none : (value quoted : List ℕ) → AttValue value quoted → quoted ≡ [] → ⊥
quoted_none value quoted v h = no_list v.quote (v.text ++ (v.quote ∷ [])) (sym h ∙ v.whole)

tag_end_none : (N : ℕ) (t : Element) (levels : ℕ) (outer : List Element) (e : Element) (c : List ℕ) → TagEnd N t levels outer e c → c ≡ [] → ⊥
tag_end_none N t levels outer e c (opens rest r w) h = no_list 62 rest (sym h ∙ w)
tag_end_none N t levels outer e c (closes_empty rest r w) h = no_list 47 (62 ∷ rest) (sym h ∙ w)

tag_none : (N : ℕ) (t : Element) (levels : ℕ) (outer : List Element) (spaced : Bool) (e : Element) (c : List ℕ) → TagMore N t levels outer spaced e c → c ≡ [] → ⊥
tag_none N t levels outer spaced e c (tag_ends _ _ _ space rest s te w) h = tag_end_none N t levels outer e rest te (both_none space rest (sym h ∙ w)).1
tag_none N t levels outer spaced e c (one_attribute _ _ _ space name value bytes rest s a new m w) h =
    let i = both_none space (bytes ++ rest) (sym h ∙ w) in
    let j = both_none bytes rest (sym i.1) in
    let k = both_none name (a.equals ++ a.quoted) (sym j.0 ∙ a.whole) in
    let l = both_none a.equals a.quoted (sym k.1) in quoted_none value a.quoted a.is_value l.1

declaration_none : (K : List ℕ → Type 0) (stage : Stage) (spaced : Bool) (c : List ℕ) → DeclarationMore K stage spaced c → c ≡ [] → ⊥
declaration_none K stage spaced c (closes _ _ _ space rest may s k w) h = has_last space 63 (62 ∷ rest) (sym h ∙ w)
declaration_none K stage spaced c (one_part _ _ _ p space equals value quote rest may s q g v more w) h =
    let i = both_none space (word_of p ++ (equals ++ (quote ∷ (value ++ (quote ∷ rest))))) (sym h ∙ w) in
    let j = both_none (word_of p) (equals ++ (quote ∷ (value ++ (quote ∷ rest)))) (sym i.1) in has_last equals quote (value ++ (quote ∷ rest)) (sym j.1)

-- too short a list
too_short : (c a d : List ℕ) → c ≡ a ++ d → length c < length d → ⊥
too_short c a d e h = omega (arith, h, ap length e, length-append a d)

comment_none : (K : List ℕ → List ℕ → Type 0) (g : List ℕ → Bool) (dash : Bool) → Until (codes "--") g K (dashes dash ++ []) → ⊥
comment_none K g true u = too_short (codes "-") u.text (codes "--" ++ u.rest) u.whole (omega arith)
comment_none K g false u = too_short [] u.text (codes "--" ++ u.rest) u.whole (omega arith)

instruction_none : (K : List ℕ → List ℕ → Type 0) (g : List ℕ → Bool) (question : Bool) → Until (codes "?>") g K (questions question ++ []) → ⊥
instruction_none K g true u = too_short (codes "?") u.text (codes "?>" ++ u.rest) u.whole (omega arith)
instruction_none K g false u = too_short [] u.text (codes "?>" ++ u.rest) u.whole (omega arith)

section_none : (K : List ℕ → List ℕ → Type 0) (g : List ℕ → Bool) (b : Brackets) → Until (codes "]]>") g K (brackets b ++ []) → ⊥
section_none K g no_bracket u = too_short [] u.text (codes "]]>" ++ u.rest) u.whole (omega arith)
section_none K g one_bracket u = too_short (codes "]") u.text (codes "]]>" ++ u.rest) u.whole (omega arith)
section_none K g two_brackets u = too_short (codes "]]") u.text (codes "]]>" ++ u.rest) u.whole (omega arith)

reference_none : (text bytes rest : List ℕ) → Reference text bytes → 38 ∷ [] ≡ bytes ++ rest → ⊥
reference_none text bytes rest (references.entity _ _ e i j) w =
    let k = both_none (entity_name e ++ codes ";") rest (tail_is 38 38 [] ((entity_name e ++ codes ";") ++ rest) (w ∙ ap (λ l. l ++ rest) j)) in has_last (entity_name e) 59 [] (sym k.0)
reference_none text bytes rest (references.decimal _ _ c digits n i j) w =
    no_list 35 ((digits ++ codes ";") ++ rest) (tail_is 38 38 [] (35 ∷ ((digits ++ codes ";") ++ rest)) (w ∙ ap (λ l. l ++ rest) j))
reference_none text bytes rest (references.hexadecimal _ _ c digits n i j) w =
    no_list 35 (120 ∷ ((digits ++ codes ";") ++ rest)) (tail_is 38 38 [] (35 ∷ 120 ∷ ((digits ++ codes ";") ++ rest)) (w ∙ ap (λ l. l ++ rest) j))

begun_none : (N : ℕ) (t : Element) (at : ℕ) (nesting : Nesting) (c : List ℕ) → Begun N t at nesting c → c ≡ 60 ∷ [] → ⊥
begun_none N t at nesting c b h = go nesting c b h
  where
    second : (bytes rest more : List ℕ) (k : ℕ) (c : List ℕ) → c ≡ 60 ∷ [] → c ≡ bytes ++ rest → bytes ≡ 60 ∷ k ∷ more → ⊥
    second bytes rest more k c h w i = no_list k (more ++ rest) (tail_is 60 60 [] (k ∷ (more ++ rest)) (sym h ∙ w ∙ ap (λ l. l ++ rest) i))

    go : (p : Nesting) (d : List ℕ) → Begun N t at p d → d ≡ 60 ∷ [] → ⊥
    go p d (a_comment _ _ bytes rest m r w) h = second bytes rest (codes "--" ++ (m.0 ++ codes "-->")) 33 d h w m.2
    go p d (an_instruction _ _ bytes rest m r w) h = second bytes rest (m.target ++ (m.text ++ codes "?>")) 63 d h w m.whole
    go p d (a_section _ _ l f es raw bytes rest i s r w) h = second bytes rest (codes "[CDATA[" ++ (raw ++ codes "]]>")) 33 d h w s.1
    go p d (a_reference _ _ l f es text bytes rest i s r w) h =
        let a = reference_begins text bytes s in differs 60 38 [] (a.more ++ rest) refl (sym h ∙ w ∙ ap (λ l. l ++ rest) a.is)
    go p d (an_end _ _ l f es bytes rest i s r w) h = second bytes rest (f.name ++ (s.0 ++ codes ">")) 47 d h w s.2
    go p d (a_tag _ _ l es f bytes rest i s r w) h =
        let n = name_parts s.name s.is_name in second bytes rest (n.more ++ s.attributes) n.first d h w (s.whole ∙ ap (λ l. 60 ∷ (l ++ s.attributes)) n.is)

markup_none : (N : ℕ) (t : Element) (first : Bool) (at : ℕ) (nesting : Nesting) → MarkupMore N t first at nesting [] → ⊥
markup_none N t first at nesting (begun b) = begun_none N t at nesting (60 ∷ []) b refl
markup_none N t first at nesting (may_declare rest h i m w) = no_list 63 (codes "xml" ++ rest) w

bang_none : (N : ℕ) (t : Element) (nesting : Nesting) → BangMore N t nesting [] → ⊥
bang_none N t nesting (bang_comment rest u w) = no_list 45 (45 ∷ rest) w
bang_none N t nesting (bang_section l e es rest i u w) = no_list 91 (codes "CDATA[" ++ rest) w

target_none : (N : ℕ) (t : Element) (first : Bool) (nesting : Nesting) (name : List ℕ) → TargetMore N t first nesting name [] → ⊥
target_none N t first nesting name (names_instruction more text rest n x i r w) = has_last text 63 (62 ∷ rest) (sym (both_none more (text ++ (codes "?>" ++ rest)) w).1)
target_none N t first nesting name (names_declaration more rest f b i m w) = declaration_none (Body N t) all_due false rest m (both_none more rest w).1

number_none : (base n : ℕ) (any : Bool) (K : List ℕ → List ℕ → Type 0) → NumberMore base n any K [] → ⊥
number_none base n any K m = has_last m.digits 59 m.rest m.whole

at_number_none : (K : List ℕ → List ℕ → Type 0) → NumberMore 10 0 false K [] ⊎ ((rest : List ℕ) × NumberMore 16 0 false K rest × ([] ≡ 120 ∷ rest)) → ⊥
at_number_none K (inl m) = number_none 10 0 false K m
at_number_none K (inr r) = no_list 120 r.0 r.2

entity_none : (part : List ℕ) (K : List ℕ → List ℕ → Type 0) → entity_of part ≡ None → EntityMore part K [] → ⊥
entity_none part K h m =
    let i = both_none m.left m.rest m.whole in
    let whole : part ≡ full_name m.entity = sym (append-nil part) ∙ ap (λ l. part ++ l) (sym i.0) ∙ m.name_is in
    let found : Some m.entity ≡ None = sym (entity_of-full m.entity) ∙ ap entity_of (sym whole) ∙ h in absurd cc

pub ends : (s : State) (at : ℕ) (p : List ℕ) → IsViable s at p → (N : ℕ) (t : Element) → Rest s N t [] → s ≡ at_end t
ends (at_end root) at p v N t r = ap at_end (sym r.0)
ends at_start at p v N t r = absurd (begin_none N t (subst (Begin N t) (both_none r.0 r.1 r.4).1 r.3))
ends (outside true) at p v N t r = absurd (begin_none N t r)
ends (outside false) at p v N t r = absurd (body_none N t r)
ends (in_run levels e outer text b cr) at p v N t r = absurd (running_none (BehindElement N t (suc levels) outer) N levels e text b cr r)
ends (at_markup first nesting begin) at p v N t r = absurd (markup_none N t first begin nesting r.1)
ends (at_bang nesting) at p v N t r = absurd (bang_none N t nesting r)
ends (in_comment nesting dash) at p v N t r = absurd (comment_none (λ text after. (more : List ℕ) × Resumed N t nesting more × (after ≡ 62 ∷ more)) is_comment dash r)
ends (in_target first nesting name) at p v N t r = absurd (target_none N t first nesting name r)
ends (in_instruction nesting question) at p v N t r = absurd (instruction_none (λ text after. Resumed N t nesting after) (lacks (codes "?>")) question r)
ends (in_section levels e outer text b cr) at p v N t r =
    absurd (section_none (λ raw after. Resumed N t (within levels (with_text (text ++ line_ends_behind cr raw) e) outer) after) (lacks (codes "]]>")) b r)
ends (in_name levels outer begin name) at p v N t r = absurd (tag_none N t levels outer false (named (name ++ r.more) begin) r.rest r.goes_on (both_none r.more r.rest r.whole).1)
ends (in_tag levels outer e spaced) at p v N t r = absurd (tag_none N t levels outer spaced e [] r refl)
ends (in_attribute levels outer e name) at p v N t r =
    let i = both_none r.more (r.equals ++ (r.quoted ++ r.rest)) r.whole in
    let j = both_none r.equals (r.quoted ++ r.rest) (sym i.1) in absurd (quoted_none r.value r.quoted r.is_value (both_none r.quoted r.rest (sym j.1)).0)
ends (before_equals levels outer e name) at p v N t r =
    let j = both_none r.equals (r.quoted ++ r.rest) r.whole in absurd (quoted_none r.value r.quoted r.is_value (both_none r.quoted r.rest (sym j.1)).0)
ends (behind_equals levels outer e name) at p v N t r =
    let j = both_none r.space (r.quoted ++ r.rest) r.whole in absurd (quoted_none r.value r.quoted r.is_value (both_none r.quoted r.rest (sym j.1)).0)
ends (in_value levels outer e name quote value cr) at p v N t r = absurd (has_last r.b quote r.rest r.whole)
ends (at_reference holder) at p v N t r = absurd (reference_none r.0 r.1 r.2 r.3 r.5)
ends (in_entity holder part) at p v N t r = absurd (entity_none part (Held N t holder) v.2 r)
ends (at_number holder) at p v N t r = absurd (at_number_none (Held N t holder) r)
ends (in_number holder base n any) at p v N t r = absurd (number_none base n any (Held N t holder) r)
ends (due left s) at p v N t r = absurd (v.0 (both_none left r.0 r.2).0)
ends (in_end levels e outer) at p v N t r = absurd (has_last r.0 62 r.1 r.4)
ends (in_declaration stage spaced) at p v N t r = absurd (declaration_none (Body N t) stage spaced [] r refl)
ends (before_part_equals part) at p v N t r = absurd (has_last r.equals r.quote (r.value ++ (r.quote ∷ r.rest)) r.whole)
ends (behind_part_equals part) at p v N t r = absurd (has_last r.space r.quote (r.value ++ (r.quote ∷ r.rest)) r.whole)
ends (in_part part quote value) at p v N t r = absurd (has_last r.more quote r.rest r.whole)
