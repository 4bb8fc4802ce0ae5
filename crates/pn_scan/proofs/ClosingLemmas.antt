-- Bytes that close all that is open.
use Rattle.std.proofs.Common.{◌≡◌, ℕ, suc, ◌-◌, ◌≤◌, Bool, true, false, List, [], ◌∷◌, ◌++◌, codes, length, refl, sym, ap, append_assoc, arith, length-append}
use Rattle.pn_text.specs.Characters.{is_text}
use Rattle.pn_tree.specs.Building.{with_text, with_kid}
use Rattle.pn_tree.specs.declared.element.Element.{Element}
use Rattle.pn_tree.specs.declared.element.Child.TheVariants as children
use Rattle.pn_text.proofs.TextLemmas.{is_text-append}
use Rattle.pn_markup.specs.Misc.{nothing}
use Rattle.pn_markup.specs.Tags.{Tag, named, none}
use Rattle.pn_markup.specs.Content as content
use Rattle.pn_markup.specs.Content.{Spells}
use Rattle.pn_scan.specs.State.{Nesting, before, within, behind, no_bracket}
use Rattle.pn_scan.specs.Rest.{Body, Marked, Running, BehindElement, Resumed, closes_empty, TagMore, tag_ends}
use Rattle.pn_scan.specs.Viable.{AreTexts, OfNesting}
use Rattle.pn_scan.proofs.ElementLemmas.{name_kept}

-- a tree for which R holds of these bytes
abbrev pub Some-tree : (Element → Type 0) → Type 0
Some-tree P = (t : Element) × P t

-- the end tags of these elements, the innermost first
abbrev pub closings : List Element → List ℕ
closings [] = []
closings (p ∷ ps) = codes "</" ++ (p.name ++ (codes ">" ++ closings ps))

pub closings_text : (es : List Element) → AreTexts es → is_text (closings es) ≡ true
closings_text [] v = refl
closings_text (p ∷ ps) v =
    is_text-append (codes "</") (p.name ++ (codes ">" ++ closings ps)) refl (is_text-append p.name (codes ">" ++ closings ps) v.0 (is_text-append (codes ">") (closings ps) refl (closings_text ps v.1)))

pub closings_name : (text : List ℕ) (e : Element) (es : List Element) → closings (with_text text e ∷ es) ≡ closings (e ∷ es)
closings_name text e es = ap (λ l. codes "</" ++ (l ++ (codes ">" ++ closings es))) (name_kept text e)

pub marked_closes : (K : Element → List ℕ → Type 0) (N levels : ℕ) (p : Element) (rest : List ℕ) → K p rest → length (codes "</" ++ (p.name ++ (codes ">" ++ rest))) ≤ N
    → Marked K N levels p (codes "</" ++ (p.name ++ (codes ">" ++ rest)))
marked_closes K N levels p rest k h =
    let c = codes "</" ++ (p.name ++ (codes ">" ++ rest)) in
    record {
      complete = p;
      pieces = [];
      close = codes "</" ++ (p.name ++ codes ">");
      rest = rest;
      at = N - length c;
      are_pieces = content.nothing (N - length c) p p [] refl refl;
      is_close = ([], refl, refl);
      goes_on = k;
      offset = omega (arith, h);
      whole = ap (λ l. codes "</" ++ l) (sym (append_assoc p.name (codes ">") rest));
    }

pub running_closes : (K : Element → List ℕ → Type 0) (N levels : ℕ) (p : Element) (rest : List ℕ) → K p rest → length (codes "</" ++ (p.name ++ (codes ">" ++ rest))) ≤ N
    → Running K N levels p [] no_bracket false (codes "</" ++ (p.name ++ (codes ">" ++ rest)))
running_closes K N levels p rest k h =
    record { run = []; rest = codes "</" ++ (p.name ++ (codes ">" ++ rest)); are_run = refl; unmarked = refl; goes_on = marked_closes K N levels p rest k h; whole = refl }

pub inner_length : (name rest : List ℕ) (N : ℕ) → length (codes "</" ++ (name ++ (codes ">" ++ rest))) ≤ N → length rest ≤ N
inner_length name rest N h = omega (arith, h, length-append name (codes ">" ++ rest))

pub behind_closes : (outer : List Element) (levels : ℕ) (e : Element) (N : ℕ) → length (closings outer) ≤ N → Some-tree (λ t. BehindElement N t levels outer e (closings outer))
behind_closes [] levels e N h = (e, (refl, nothing [] refl))
behind_closes (p ∷ ps) levels e N h =
    let r = behind_closes ps (suc levels) (with_kid (children.Element e) p) N (inner_length p.name (closings ps) N h) in
    (r.0, running_closes (BehindElement N r.0 (suc levels) ps) N levels (with_kid (children.Element e) p) (closings ps) r.1 h)

pub marked_all : (outer : List Element) (levels : ℕ) (e : Element) (N : ℕ) → length (closings (e ∷ outer)) ≤ N → Some-tree (λ t. Marked (BehindElement N t (suc levels) outer) N levels e (closings (e ∷ outer)))
marked_all outer levels e N h =
    let r = behind_closes outer (suc levels) e N (inner_length e.name (closings outer) N h) in
    (r.0, marked_closes (BehindElement N r.0 (suc levels) outer) N levels e (closings outer) r.1 h)

-- a root of its own
pub body_closes : (N : ℕ) → 4 ≤ N → Some-tree (λ t. Body N t (codes "<a/>"))
body_closes N h =
    let at = N - 4 in
    let e = named (codes "a") at in
    let tag : Tag at e (codes "<a") = record { name = codes "a"; attributes = []; is_name = refl; are_attributes = none e e [] refl refl; whole = refl } in (
      e,
      record {
        misc = [];
        root = codes "<a/>";
        last = [];
        at = at;
        is_misc = nothing [] refl;
        is_root = content.empty at e (codes "<a/>") (codes "<a") tag refl;
        is_last = nothing [] refl;
        offset = omega (arith, h);
        whole = refl;
      },
    )

-- what closes all in a nesting
abbrev pub nesting_closing : Nesting → List ℕ
nesting_closing before = codes "<a/>"
nesting_closing (within levels e outer) = closings (e ∷ outer)
nesting_closing (behind root) = []

pub nesting_text : (nesting : Nesting) → OfNesting nesting → is_text (nesting_closing nesting) ≡ true
nesting_text before v = refl
nesting_text (within levels e outer) v = closings_text (e ∷ outer) v
nesting_text (behind root) v = refl

pub resumed_closes : (nesting : Nesting) (N : ℕ) → length (nesting_closing nesting) ≤ N → Some-tree (λ t. Resumed N t nesting (nesting_closing nesting))
resumed_closes before N h = body_closes N h
resumed_closes (behind root) N h = (root, (refl, nothing [] refl))
resumed_closes (within levels e outer) N h =
    let r = behind_closes outer (suc levels) e N (inner_length e.name (closings outer) N h) in
    (r.0, running_closes (BehindElement N r.0 (suc levels) outer) N levels e (closings outer) r.1 h)

-- what closes a tag and all around it
pub tag_closes : (levels : ℕ) (outer : List Element) (e : Element) (spaced : Bool) (N : ℕ) → length (closings outer) ≤ N
    → Some-tree (λ t. TagMore N t levels outer spaced e (codes "/>" ++ closings outer))
tag_closes levels outer e spaced N h =
    let r = behind_closes outer (suc levels) e N h in
    (r.0, tag_ends spaced e (codes "/>" ++ closings outer) [] (codes "/>" ++ closings outer) refl (closes_empty (closings outer) r.1 refl) refl)
