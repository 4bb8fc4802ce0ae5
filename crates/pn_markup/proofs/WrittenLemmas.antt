-- The canonical text of an element is a text.
use Rattle.std.proofs.Common.{◌≡◌, ℕ, zero, suc, Bool, true, List, [], ◌∷◌, ◌++◌, codes, map, refl, sym, ap, ◌∙◌, append-nil, arith}
use Rattle.std.specs.List.{list_all, flat_map}
use Rattle.std.proofs.lemmas.Bool.Decides.{nat_tests}
use Rattle.std.proofs.lemmas.Grind.{flat_map-append}
use Rattle.pn_tree.specs.Canonical.{text_escape, value_escape, escaped_text, escaped_value, attr_text, content_text, element_text, child_text}
use Rattle.pn_text.specs.Characters.{is_character, utf8_of, is_text, is_name}
use Rattle.pn_tree.specs.Elements.{are_attrs, is_kid, is_kid_text, is_element}
use Rattle.pn_tree.specs.declared.element.Attr.{Attr}
use Rattle.pn_tree.specs.declared.element.Element.{Element}
use Rattle.pn_tree.specs.declared.element.Child.{Child}
use Rattle.pn_tree.proofs.ElementLemmas.{is_kid-element, is_kid-text, element_text_is, child_text-element, child_text-text}
use Rattle.pn_text.proofs.TextLemmas.{is_text-append, is_text-ascii, is_past, Encoded, ascii, past, encoded, text_characters, is_text-character}
use Rattle.pn_facts.proofs.Lists.{flat_map_same}
use Rattle.pn_tree.proofs.TreeLemmas.{parts_of, not_element-zero}
use Rattle.pn_facts.proofs.Truths.{and_left, and_right, and_both}
use Rattle.pn_markup.proofs.AttributeLemmas.{attr_parts_of}
use Rattle.pn_markup.proofs.ContentLemmas.{KidIs, an_element, a_text, kid_is}
use Rattle.pn_markup.proofs.NameLemmas.{name_text}
use Rattle.pn_markup.proofs.RunLemmas.{is_unescaped, is_unescaped_value, Written, as_is, by_reference, text_written, value_written}

character_written : (unescaped : ℕ → Bool) (write : ℕ → List ℕ) → ((b : ℕ) → is_past b ≡ true → write b ≡ b ∷ []) → ((b : ℕ) → Written unescaped b (write b)) → (c : ℕ)
    → is_character c ≡ true → is_text (flat_map write (utf8_of c)) ≡ true
character_written unescaped write same written c h = by (encoded c) (written c)
  where
    by : Encoded c (utf8_of c) → Written unescaped c (write c) → is_text (flat_map write (utf8_of c)) ≡ true
    by (ascii lt one) (as_is p out) = ap (λ l. is_text (flat_map write l)) one ∙ ap (λ l. is_text (l ++ [])) (out ∙ sym one) ∙ ap is_text (append-nil (utf8_of c)) ∙ is_text-character c h
    by (ascii lt one) (by_reference r low) = ap (λ l. is_text (flat_map write l)) one ∙ ap is_text (append-nil (write c)) ∙ is_text-ascii (write c) low
    by (past lt first more bytes high) w =
        ap (λ l. is_text (flat_map write l)) bytes ∙ ap is_text (flat_map_same write is_past same (first ∷ more) high ∙ sym bytes) ∙ is_text-character c h

characters_written : (unescaped : ℕ → Bool) (write : ℕ → List ℕ) → ((b : ℕ) → is_past b ≡ true → write b ≡ b ∷ []) → ((b : ℕ) → Written unescaped b (write b)) → (cs : List ℕ)
    → list_all is_character cs ≡ true → is_text (flat_map write (flat_map utf8_of cs)) ≡ true
characters_written unescaped write same written [] h = refl
characters_written unescaped write same written (c ∷ cs) h =
    ap is_text (flat_map-append write (utf8_of c) (flat_map utf8_of cs))
    ∙ is_text-append (flat_map write (utf8_of c)) (flat_map write (flat_map utf8_of cs))
    (character_written unescaped write same written c (and_left (is_character c) (list_all is_character cs) h))
    (characters_written unescaped write same written cs (and_right (is_character c) (list_all is_character cs) h))

-- a text whose bytes are written, each as it is or by a reference
text_is_written : (unescaped : ℕ → Bool) (write : ℕ → List ℕ) → ((b : ℕ) → is_past b ≡ true → write b ≡ b ∷ []) → ((b : ℕ) → Written unescaped b (write b)) → (bs : List ℕ)
    → is_text bs ≡ true → is_text (flat_map write bs) ≡ true
text_is_written unescaped write same written bs h =
    let t = text_characters bs h in
    ap (λ l. is_text (flat_map write l)) (sym t.bytes) ∙ characters_written unescaped write same written t.spelled t.are_characters

escaped_text_is_text : (t : List ℕ) → is_text t ≡ true → is_text (escaped_text t) ≡ true
escaped_text_is_text t h = text_is_written is_unescaped text_escape (λ b p. grind (arith, nat_tests)) text_written t h

escaped_value_is_text : (v : List ℕ) → is_text v ≡ true → is_text (escaped_value v) ≡ true
escaped_value_is_text v h = text_is_written is_unescaped_value value_escape (λ b p. grind (arith, nat_tests)) value_written v h

attr_is_text : (a : Attr) → is_name a.name ≡ true → is_text a.value ≡ true → is_text (attr_text a) ≡ true
attr_is_text a n v =
    is_text-append (codes " ") (a.name ++ (codes "=\"" ++ (escaped_value a.value ++ codes "\""))) refl
    (is_text-append a.name (codes "=\"" ++ (escaped_value a.value ++ codes "\"")) (name_text a.name n)
    (is_text-append (codes "=\"") (escaped_value a.value ++ codes "\"") refl
    (is_text-append (escaped_value a.value) (codes "\"") (escaped_value_is_text a.value v) refl)))

attrs_are_text : (attrs : List Attr) → are_attrs attrs ≡ true → is_text (flat_map attr_text attrs) ≡ true
attrs_are_text [] h = refl
attrs_are_text (a ∷ rest) h =
    let p = attr_parts_of a rest h in is_text-append (attr_text a) (flat_map attr_text rest) (attr_is_text a p.name p.value) (attrs_are_text rest p.others)

texts_are_text : (ts : List (List ℕ)) → list_all is_text ts ≡ true → is_text (flat_map (λ t. t) ts) ≡ true
texts_are_text [] h = refl
texts_are_text (t ∷ ts) h =
    is_text-append t (flat_map (λ t. t) ts) (and_left (is_text t) (list_all is_text ts) h) (texts_are_text ts (and_right (is_text t) (list_all is_text ts) h))

content_is_text : (name : List ℕ) (ts : List (List ℕ)) → is_text name ≡ true → list_all is_text ts ≡ true → is_text (content_text name ts) ≡ true
content_is_text name [] n h = refl
content_is_text name (t ∷ ts) n h =
    is_text-append (codes ">") (flat_map (λ t. t) (t ∷ ts) ++ (codes "</" ++ (name ++ codes ">"))) refl
    (is_text-append (flat_map (λ t. t) (t ∷ ts)) (codes "</" ++ (name ++ codes ">")) (texts_are_text (t ∷ ts) h)
    (is_text-append (codes "</") (name ++ codes ">") refl (is_text-append name (codes ">") n refl)))

kid_text_is_text : (t : List ℕ) → is_kid_text t ≡ true → is_text t ≡ true
kid_text_is_text [] h = refl
kid_text_is_text (b ∷ bs) h = h

kid_is_text : (test : Element → Bool) → ((e : Element) → test e ≡ true → is_text (element_text e) ≡ true) → (k : Child) → KidIs k → is_kid test k ≡ true
    → is_text (child_text k) ≡ true
kid_is_text test f k (an_element e is) h =
    ap (λ l. is_text (child_text l)) is ∙ ap is_text (child_text-element e) ∙ f e (sym (is_kid-element test e) ∙ ap (is_kid test) (sym is) ∙ h)
kid_is_text test f k (a_text t is) h =
    ap (λ l. is_text (child_text l)) is ∙ ap is_text (child_text-text t)
    ∙ escaped_text_is_text t (kid_text_is_text t (sym (is_kid-text test t) ∙ ap (is_kid test) (sym is) ∙ h))

kids_are_text : (test : Element → Bool) → ((e : Element) → test e ≡ true → is_text (element_text e) ≡ true) → (ks : List Child) → list_all (is_kid test) ks ≡ true
    → list_all is_text (map child_text ks) ≡ true
kids_are_text test f [] h = refl
kids_are_text test f (k ∷ ks) h =
    and_both (is_text (child_text k)) (list_all is_text (map child_text ks)) (kid_is_text test f k (kid_is k) (and_left (is_kid test k) (list_all (is_kid test) ks) h))
    (kids_are_text test f ks (and_right (is_kid test k) (list_all (is_kid test) ks) h))

-- the text of an element that a tree may have is a text
pub element_is_text : (n : ℕ) (e : Element) → is_element n e ≡ true → is_text (element_text e) ≡ true
element_is_text zero e h = absurd (not_element-zero e h)
element_is_text (suc n) e h =
    let p = parts_of n e h in
    ap is_text (element_text_is e)
    ∙ is_text-append (codes "<") (e.name ++ (flat_map attr_text e.attrs ++ content_text e.name (map child_text e.kids))) refl
    (is_text-append e.name (flat_map attr_text e.attrs ++ content_text e.name (map child_text e.kids)) (name_text e.name p.name)
    (is_text-append (flat_map attr_text e.attrs) (content_text e.name (map child_text e.kids)) (attrs_are_text e.attrs p.attrs)
    (content_is_text e.name (map child_text e.kids) (name_text e.name p.name)
    (kids_are_text (is_element n) (λ (x : Element). element_is_text n x) e.kids p.kids))))
