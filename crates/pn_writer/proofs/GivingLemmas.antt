-- What a builder holds while an element is given to it piece by piece.
use Rattle.std.proofs.Common.{◌≡◌, ℕ, zero, suc, ◌+◌, ◌-◌, ◌<◌, ◌≤◌, Bool, true, ◌&&◌, List, [], ◌∷◌, ◌++◌, length, get_or, map, codes, Some, IsSome, refl, sym, ap, ◌∙◌, subst, arith, append_assoc}
use Rattle.std.specs.List.{list_all, slice_get}
use Rattle.std.specs.Option.{is_none}
use Rattle.std.proofs.lemmas.List.Folds.{list_all-append}
use Rattle.pn_facts.proofs.Truths.{and_left, and_right, and_both}
use Rattle.pn_text.specs.Characters.{is_name, is_text}
use Rattle.pn_tree.specs.Building.{Building, innermost, at_first, at_innermost, with_kid, ended}
use Rattle.pn_tree.specs.Copies.{with_kids}
use Rattle.pn_tree.specs.Elements.{attr_value, are_attrs, is_element, is_kid}
use Rattle.pn_tree.specs.declared.element.Attr.{Attr}
use Rattle.pn_tree.specs.declared.element.Element.{Element}
use Rattle.pn_tree.specs.declared.element.Child.{Child}
use Rattle.pn_tree.specs.declared.element.Child.TheVariants as children
use Rattle.pn_tree.proofs.ElementLemmas.{is_kid-element, is_kid-text}
use Rattle.pn_tree.proofs.DepthLemmas.{depth_within, some_levels}
use Rattle.pn_tree.specs.Depth.{depth_of}
use Rattle.pn_tree.proofs.TreeLemmas.{parts_of, not_element-zero}
use Rattle.pn_spelling.specs.Writing.{attribute, made, all_kids, text_kids, text_element}
use Rattle.pn_writer.specs.Giving.{MayTake, MayBegin, opened}

-- what holds of an element that may be given, and of the builder
pub record Entry (its_name : List ℕ) (its_attrs : List Attr) (its_kids : List Child) (b : Building) : Type 0 where
  pub room : MayBegin b
  pub name : is_name its_name ≡ true
  pub attrs : are_attrs its_attrs ≡ true
  pub kids : list_all (is_kid (is_element (256 - suc (length b.open_elements)))) its_kids ≡ true

pub entry : (name : List ℕ) (attrs : List Attr) (kids rest : List Child) (b : Building) → MayTake (children.Element (made name attrs kids) ∷ rest) b → Entry name attrs kids b
entry name attrs kids rest b may =
    let n = length b.open_elements in
    let test = is_kid (is_element (256 - n)) in
    by (256 - n) refl (sym (is_kid-element (is_element (256 - n)) (made name attrs kids)) ∙ and_left (test (children.Element (made name attrs kids))) (list_all test rest) may.fit)
  where
    by : (m : ℕ) → 256 - length b.open_elements ≡ m → is_element m (made name attrs kids) ≡ true → Entry name attrs kids b
    by zero is h = absurd (not_element-zero (made name attrs kids) h)
    by (suc m) is h =
        let p = parts_of m (made name attrs kids) h in
        let left : m ≡ 256 - suc (length b.open_elements) = omega (arith, is) in
        record { room = record { unended = may.unended; room = omega (arith, is) }; name = p.name; attrs = p.attrs; kids = subst (λ k. list_all (is_kid (is_element k)) kids ≡ true) left p.kids }

-- there is room for an element that may be given
pub has_room : (e : Element) (rest : List Child) (b : Building) → MayTake (children.Element (made e.name e.attrs e.kids) ∷ rest) b → MayBegin b
has_room e rest b may = (entry e.name e.attrs e.kids rest b may).room

-- once the element is begun, it may be given its kids
pub inside : (name : List ℕ) (attrs : List Attr) (kids rest : List Child) (b d : Building) (e : Element) → MayTake (children.Element (made name attrs kids) ∷ rest) b → d ≡ opened e b → MayTake kids d
inside name attrs kids rest b d e may is = subst (MayTake kids) (sym is) (record { unended = may.unended; is_open = refl; fit = (entry name attrs kids rest b may).kids })

-- what is ended inside an open element is its next kid
ended_by : (b : Building) (e : Element) (es : List Element) → b.open_elements ≡ es → IsSome (innermost b) → ended (opened e b) ≡ at_innermost (with_kid (children.Element e)) b
ended_by b e [] is some = cc
ended_by b e (p ∷ ps) is some = rw is refl

pub ended_inside : (b : Building) (e : Element) → IsSome (innermost b) → ended (opened e b) ≡ at_innermost (with_kid (children.Element e)) b
ended_inside b e some = ended_by b e b.open_elements refl some

-- an element was begun, given its kids and ended
pub added : (name : List ℕ) (attrs : List Attr) (kids : List Child) (b d f g : Building) → IsSome (innermost b) → d ≡ opened (made name attrs []) b → f ≡ at_innermost (with_kids kids) d → g ≡ ended f
    → g ≡ at_innermost (with_kid (children.Element (made name attrs kids))) b
added name attrs kids b d f g some begin give end = end ∙ ap ended (give ∙ ap (at_innermost (with_kids kids)) begin) ∙ ended_inside b (made name attrs kids) some

changed_by : (f : Element → Element) (b : Building) (es : List Element) → b.open_elements ≡ es → IsSome (innermost b) → IsSome (innermost (at_innermost f b)) × (length (at_innermost f b).open_elements ≡ length b.open_elements)
changed_by f b [] is some = cc
changed_by f b (e ∷ es) is some = rw is (refl, refl)

-- the kids in front may be given
pub front_fits : (xs ys : List Child) (b : Building) → MayTake (xs ++ ys) b → MayTake xs b
front_fits xs ys b may =
    let test = is_kid (is_element (256 - length b.open_elements)) in
    record { unended = may.unended; is_open = may.is_open; fit = and_left (list_all test xs) (list_all test ys) (sym (list_all-append test xs ys) ∙ may.fit) }

-- behind kids that were given, the others may be
pub rest_fits : (xs ys : List Child) (b d : Building) → MayTake (xs ++ ys) b → d ≡ at_innermost (with_kids xs) b → MayTake ys d
rest_fits xs ys b d may is =
    let test = is_kid (is_element (256 - length b.open_elements)) in
    let still = changed_by (with_kids xs) b b.open_elements refl may.is_open in
    subst (MayTake ys) (sym is) (record {
      unended = may.unended;
      is_open = still.0;
      fit = subst (λ n. list_all (is_kid (is_element (256 - n))) ys ≡ true) (sym still.1) (and_right (list_all test xs) (list_all test ys) (sym (list_all-append test xs ys) ∙ may.fit));
    })

given_twice : (xs ys : List Child) (es : List Element) → at_first (with_kids ys) (at_first (with_kids xs) es) ≡ at_first (with_kids (xs ++ ys)) es
given_twice xs ys [] = refl
given_twice xs ys (e ∷ es) = λ j. record e { kids = append_assoc e.kids xs ys j } ∷ es

-- kids were given, and then others
pub both : (xs ys : List Child) (b d f : Building) → d ≡ at_innermost (with_kids xs) b → f ≡ at_innermost (with_kids ys) d → f ≡ at_innermost (with_kids (xs ++ ys)) b
both xs ys b d f first second = second ∙ ap (at_innermost (with_kids ys)) first ∙ (λ j. record { root = b.root; open_elements = given_twice xs ys b.open_elements j })

-- the first attribute of several
pub record First (its_key its_value : List ℕ) (others : List Attr) : Type 0 where
  pub key : is_name its_key ≡ true
  pub value : is_text its_value ≡ true
  pub more : are_attrs others ≡ true

pub first_attr : (key value : List ℕ) (more : List Attr) → are_attrs (attribute key value ∷ more) ≡ true → First key value more
first_attr key value more h =
    let new = is_none (attr_value key more) in
    let rest = and_right (is_name key) (is_text value && (new && are_attrs more)) h in
    let last = and_right (is_text value) (new && are_attrs more) rest in
    record { key = and_left (is_name key) (is_text value && (new && are_attrs more)) h; value = and_left (is_text value) (new && are_attrs more) rest; more = and_right new (are_attrs more) last }

text_fits : (n : ℕ) (t : List ℕ) → list_all (is_kid (is_element n)) (text_kids t) ≡ true → is_text t ≡ true
text_fits n [] h = refl
text_fits n (b ∷ bs) h = sym (is_kid-text (is_element n) (b ∷ bs)) ∙ and_left (is_kid (is_element n) (children.Text (b ∷ bs))) true h

-- the characters of an element `text` that may be given
pub text_is_text : (t : List ℕ) (rest : List Child) (b : Building) → MayTake (children.Element (text_element t) ∷ rest) b → is_text t ≡ true
text_is_text t rest b may = text_fits (256 - suc (length b.open_elements)) t (entry (codes "text") [] (text_kids t) rest b may).kids

-- a part that is kept as it is doesn't go too deep
pub part_fits : (e : Element) (rest : List Child) (b : Building) → MayTake (children.Element e ∷ rest) b → length b.open_elements + depth_of e ≤ 256
part_fits e rest b may =
    let n = length b.open_elements in
    let test = is_kid (is_element (256 - n)) in
    let within = depth_within (256 - n) e (sym (is_kid-element (is_element (256 - n)) e) ∙ and_left (test (children.Element e)) (list_all test rest) may.fit) in
    omega (arith, within, some_levels e)

-- the kids of a list that were given so far, and the next one
fits_at : {A : Type 0} (test : A → Bool) (xs : List A) (i : ℕ) (x : A) → slice_get xs i ≡ Some x → list_all test xs ≡ true → list_all test (x ∷ []) ≡ true
fits_at test [] i x is h = absurd cc
fits_at test (y ∷ xs) zero x is h = let same : y ≡ x = cc in and_both (test x) true (subst (λ z. test z ≡ true) same (and_left (test y) (list_all test xs) h)) refl
fits_at test (y ∷ xs) (suc i) x is h = fits_at test xs i x is (and_right (test y) (list_all test xs) h)

pub at_in_map : {A B : Type 0} (f : A → B) (xs : List A) (i : ℕ) (x : A) → slice_get xs i ≡ Some x → slice_get (map f xs) i ≡ Some (f x)
at_in_map f [] i x is = absurd cc
at_in_map f (y ∷ xs) zero x is = let same : y ≡ x = cc in ap (λ z. Some (f z)) same
at_in_map f (y ∷ xs) (suc i) x is = at_in_map f xs i x is

pub item_at : {A : Type 0} (xs : List A) (i : ℕ) (x : A) → i < length xs → x ≡ get_or xs i x → slice_get xs i ≡ Some x
item_at [] i x lt is = absurd (omega arith)
item_at (y ∷ xs) zero x lt is = ap (λ z. Some z) (sym is)
item_at (y ∷ xs) (suc i) x lt is = item_at xs i x (omega arith) is

-- where some kids of a list were given, the next one may be
kid_fits : (ks given : List Child) (i : ℕ) (k : Child) (b d : Building) → MayTake ks b → d ≡ at_innermost (with_kids given) b → slice_get ks i ≡ Some k → MayTake (k ∷ []) d
kid_fits ks given i k b d may is at =
    let still = changed_by (with_kids given) b b.open_elements refl may.is_open in
    subst (MayTake (k ∷ [])) (sym is) (record {
      unended = may.unended;
      is_open = still.0;
      fit = subst (λ n. list_all (is_kid (is_element (256 - n))) (k ∷ []) ≡ true) (sym still.1) (fits_at (is_kid (is_element (256 - length b.open_elements))) ks i k at may.fit);
    })

pub next_fits : {A : Type 0} (spell : A → Element) (items : List A) (given : List Child) (i : ℕ) (item : A) (b d : Building) → MayTake (all_kids spell items) b → d ≡ at_innermost (with_kids given) b
    → i < length items → item ≡ get_or items i item → MayTake (children.Element (spell item) ∷ []) d
next_fits spell items given i item b d may is within at =
    kid_fits (all_kids spell items) given i (children.Element (spell item)) b d may is (at_in_map children.Element (map spell items) i (spell item) (at_in_map spell items i item (item_at items i item within at)))

pub next_part_fits : (parts : List Element) (given : List Child) (i : ℕ) (part shown : Element) (b d : Building) → MayTake (map children.Element parts) b → d ≡ at_innermost (with_kids given) b
    → i < length parts → part ≡ get_or parts i part → shown ≡ part → length d.open_elements + depth_of shown ≤ 256
next_part_fits parts given i part shown b d may is within at same =
    subst (λ e. length d.open_elements + depth_of e ≤ 256) (sym same)
    (part_fits part [] d (kid_fits (map children.Element parts) given i (children.Element part) b d may is (at_in_map children.Element parts i part (item_at parts i part within at))))

-- the first attribute of an element that may be given
pub first_of : (name key value : List ℕ) (more : List Attr) (kids rest : List Child) (b : Building) → MayTake (children.Element (made name (attribute key value ∷ more) kids) ∷ rest) b → First key value more
first_of name key value more kids rest b may = first_attr key value more (entry name (attribute key value ∷ more) kids rest b may).attrs

-- the second attribute of an element that may be given
pub second_of : (name : List ℕ) (a : Attr) (key value : List ℕ) (more : List Attr) (kids rest : List Child) (b : Building) → MayTake (children.Element (made name (a ∷ attribute key value ∷ more) kids) ∷ rest) b → First key value more
second_of name a key value more kids rest b may =
    first_attr key value more (first_attr a.name a.value (attribute key value ∷ more) (entry name (a ∷ attribute key value ∷ more) kids rest b may).attrs).more

-- the same where each item stands in one more element
pub next_mapped_fits : {A : Type 0} (wrap : Element → Child) (spell : A → Element) (items : List A) (given : List Child) (i : ℕ) (item : A) (b d : Building) → MayTake (map wrap (map spell items)) b
    → d ≡ at_innermost (with_kids given) b → i < length items → item ≡ get_or items i item → MayTake (wrap (spell item) ∷ []) d
next_mapped_fits wrap spell items given i item b d may is within at =
    kid_fits (map wrap (map spell items)) given i (wrap (spell item)) b d may is (at_in_map wrap (map spell items) i (spell item) (at_in_map spell items i item (item_at items i item within at)))

-- an element that has kids of two lists: those of the first may be given once it is begun
pub first_kids_fit : (name : List ℕ) (attrs : List Attr) (xs ys rest : List Child) (b d : Building) (e : Element) → MayTake (children.Element (made name attrs (xs ++ ys)) ∷ rest) b → d ≡ opened e b → MayTake xs d
first_kids_fit name attrs xs ys rest b d e may is = front_fits xs ys d (inside name attrs (xs ++ ys) rest b d e may is)

-- and those of the second once the first were given
pub other_kids_fit : (name : List ℕ) (attrs : List Attr) (xs ys rest : List Child) (b d f : Building) (e : Element) → MayTake (children.Element (made name attrs (xs ++ ys)) ∷ rest) b → d ≡ opened e b → f ≡ at_innermost (with_kids xs) d → MayTake ys f
other_kids_fit name attrs xs ys rest b d f e may is given = rest_fits xs ys d f (inside name attrs (xs ++ ys) rest b d e may is) given

-- a label with its text may be given what it says and its other parts
pub label_fits : (name : List ℕ) (text parts rest : List Child) (s : Child) (b d : Building) → MayTake (children.Element (made name [] (text ++ (s ∷ parts))) ∷ rest) b → d ≡ opened (made name [] text) b → MayTake (s ∷ parts) d
label_fits name text parts rest s b d may is =
    rest_fits text (s ∷ parts) (opened (made name [] []) b) d (inside name [] (text ++ (s ∷ parts)) rest b (opened (made name [] []) b) (made name [] []) may refl) is

-- a label with its text, whose other parts are given and which is ended
pub label_added : (name : List ℕ) (text parts : List Child) (s : Child) (b d e f g : Building) → IsSome (innermost b) → d ≡ opened (made name [] text) b → e ≡ at_innermost (with_kid s) d → f ≡ at_innermost (with_kids parts) e → g ≡ ended f
    → g ≡ at_innermost (with_kid (children.Element (made name [] (text ++ (s ∷ parts))))) b
label_added name text parts s b d e f g some begin said kept end =
    added name [] (text ++ (s ∷ parts)) b (opened (made name [] []) b) f g some refl (both text (s ∷ parts) (opened (made name [] []) b) d f begin (both (s ∷ []) parts d e f said kept)) end
