-- Bytes that are due, and the end of an end tag.
use Rattle.std.proofs.Common.{◌≡◌, ℕ, suc, cond, ◌==◌, List, [], ◌∷◌, ◌++◌, Some, None, refl, sym, ap, ◌∙◌, subst}
use Rattle.std.proofs.lemmas.Bool.{eqb-true, eqb-false}
use Rattle.pn_markup.specs.Bytes.{is_space}
use Rattle.pn_tree.specs.declared.element.Element.{Element}
use Rattle.pn_scan.specs.State.{State, due, in_end, behind_element}
use Rattle.pn_scan.specs.Rest.{Rest, BehindElement}
use Rattle.pn_scan.specs.NextState.{next_state, next_due, goes_due}
use Rattle.pn_scan.proofs.Tools.{Law, law_if, law_some, law_none, law_at, head_is, tail_is, differs, apart}
use Rattle.pn_scan.proofs.Spans.{span_in, span_out, all_more}

-- what due bytes mean, none of them too
pub due_goes : (bs : List ℕ) (s : State) (N : ℕ) (t : Element) (c rest : List ℕ) → Rest s N t rest → c ≡ bs ++ rest → Rest (goes_due bs s) N t c
due_goes [] s N t c rest r e = subst (Rest s N t) (sym e) r
due_goes (b ∷ bs) s N t c rest r e = (rest, r, e)

pub due_comes : (bs : List ℕ) (s : State) (N : ℕ) (t : Element) (c : List ℕ) → Rest (goes_due bs s) N t c → (rest : List ℕ) × Rest s N t rest × (c ≡ bs ++ rest)
due_comes [] s N t c r = (c, r, refl)
due_comes (b ∷ bs) s N t c r = r

pub law_due : (b : ℕ) (bs : List ℕ) (s : State) (at x : ℕ) → Law (Rest (due (b ∷ bs) s)) at x (next_due (b ∷ bs) s x)
law_due b bs s at x =
    let R = Rest (due (b ∷ bs) s) in
    law_if R at x (b == x) (Some (goes_due bs s)) None
    (λ h. law_some R at x (goes_due bs s)
    (λ N t c r. due_goes bs s N t c r.0 r.1 (tail_is x b c (bs ++ r.0) r.2))
    (λ N t c r. let d = due_comes bs s N t c r in (d.0, d.1, ap (λ l. x ∷ l) d.2 ∙ ap (λ y. y ∷ (bs ++ d.0)) (sym (eqb-true b x h)))))
    (λ h. law_none R at x (λ N t c r. eqb-false b x h (sym (head_is x b c (bs ++ r.0) r.2))))

-- behind an element it goes on as its state says
pub behind_goes : (levels : ℕ) (outer : List Element) (e : Element) (N : ℕ) (t : Element) (c : List ℕ) → BehindElement N t levels outer e c → Rest (behind_element levels outer e) N t c
behind_goes levels [] e N t c r = r
behind_goes levels (p ∷ ps) e N t c r = r

pub behind_comes : (levels : ℕ) (outer : List Element) (e : Element) (N : ℕ) (t : Element) (c : List ℕ) → Rest (behind_element levels outer e) N t c → BehindElement N t levels outer e c
behind_comes levels [] e N t c r = r
behind_comes levels (p ∷ ps) e N t c r = r

pub law_end : (levels : ℕ) (e : Element) (outer : List Element) (at x : ℕ) → Law (Rest (in_end levels e outer)) at x (next_state (in_end levels e outer) at x)
law_end levels e outer at x =
    let R = Rest (in_end levels e outer) in
    let ended = Some (behind_element (suc levels) outer e) in
    law_if R at x (is_space x) (Some (in_end levels e outer)) (cond (x == 62) ended None)
    (λ h. law_some R at x (in_end levels e outer)
    (λ N t c r. let w = span_in is_space x c r.0 (62 ∷ r.1) r.2 (λ q. apart is_space x 62 c r.1 h refl (sym q)) r.4 in (w.more, r.1, w.pass, r.3, w.whole))
    (λ N t c r. (x ∷ r.0, r.1, all_more is_space x r.0 h r.2, r.3, ap (λ l. x ∷ l) r.4)))
    (λ h. law_if R at x (x == 62) ended None
    (λ k. law_at R at x 62 ended k (law_some R at 62 (behind_element (suc levels) outer e)
    (λ N t c r. let w = span_out is_space 62 c r.0 (62 ∷ r.1) r.2 refl r.4 in
    behind_goes (suc levels) outer e N t c (subst (BehindElement N t (suc levels) outer e) (tail_is 62 62 r.1 c w.1) r.3))
    (λ N t c r. ([], c, refl, behind_comes (suc levels) outer e N t c r, refl))))
    (λ k. law_none R at x (λ N t c r. let w = span_out is_space x c r.0 (62 ∷ r.1) r.2 h r.4 in differs x 62 c r.1 k (sym w.1))))
