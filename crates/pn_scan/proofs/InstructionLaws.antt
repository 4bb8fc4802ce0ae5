-- The text of a processing instruction, byte by byte.
use Rattle.std.proofs.Common.{◌≡◌, ℕ, Bool, true, false, cond, not, ◌==◌, List, [], ◌∷◌, ◌++◌, codes, Some, refl, sym, ap, ◌∙◌, subst}
use Rattle.std.proofs.lemmas.Bool.{false≢true}
use Rattle.std.specs.Cmp.{second_so}
use Rattle.pn_markup.specs.Bytes.{begins_with, lacks}
use Rattle.pn_tree.specs.declared.element.Element.{Element}
use Rattle.pn_scan.specs.State.{Nesting, in_instruction, behind_piece}
use Rattle.pn_scan.specs.Rest.{Rest, Resumed}
use Rattle.pn_scan.specs.NextState.{next_in_instruction}
use Rattle.pn_scan.proofs.Tools.{Law, law_if, law_some, law_at, head_is, tail_is, differs}
use Rattle.pn_scan.proofs.UntilLemmas.{skip_goes, skip_comes, two_goes, two_comes, lacks_two, lacks_other, lacks_skip, resumed_goes, resumed_comes}

closed_goes : (N : ℕ) (t : Element) (nesting : Nesting) (c : List ℕ) → Rest (in_instruction nesting true) N t (62 ∷ c) → Rest (behind_piece nesting) N t c
closed_goes N t nesting c u = go u.text u.good u.whole
  where
    go : (text : List ℕ) → lacks (codes "?>") text ≡ true → 63 ∷ 62 ∷ c ≡ text ++ (codes "?>" ++ u.rest) → Rest (behind_piece nesting) N t c
    go [] g e = resumed_goes nesting N t c (subst (Resumed N t nesting) (sym (tail_is 62 62 c u.rest (tail_is 63 63 (62 ∷ c) (62 ∷ u.rest) e))) u.goes_on)
    go (a ∷ []) g e = absurd (differs 62 63 c (62 ∷ u.rest) refl (tail_is 63 a (62 ∷ c) (codes "?>" ++ u.rest) e))
    go (a ∷ b ∷ text) g e =
        let a_is : a ≡ 63 = sym (head_is 63 a (62 ∷ c) (b ∷ (text ++ (codes "?>" ++ u.rest))) e) in
        let b_is : b ≡ 62 = sym (head_is 62 b c (text ++ (codes "?>" ++ u.rest)) (tail_is 63 a (62 ∷ c) (b ∷ (text ++ (codes "?>" ++ u.rest))) e)) in
        absurd (false≢true (subst (λ w. lacks (codes "?>") (w ∷ 62 ∷ text) ≡ true) a_is (subst (λ w. lacks (codes "?>") (a ∷ w ∷ text) ≡ true) b_is g)))

closed_comes : (N : ℕ) (t : Element) (nesting : Nesting) (c : List ℕ) → Rest (behind_piece nesting) N t c → Rest (in_instruction nesting true) N t (62 ∷ c)
closed_comes N t nesting c r = record { text = []; rest = c; good = refl; goes_on = resumed_comes nesting N t c r; whole = refl }

again_goes : (N : ℕ) (t : Element) (nesting : Nesting) (c : List ℕ) → Rest (in_instruction nesting true) N t (63 ∷ c) → Rest (in_instruction nesting true) N t c
again_goes N t nesting c u = go u.text u.good u.whole
  where
    go : (text : List ℕ) → lacks (codes "?>") text ≡ true → 63 ∷ 63 ∷ c ≡ text ++ (codes "?>" ++ u.rest) → Rest (in_instruction nesting true) N t c
    go [] g e = absurd (differs 63 62 c u.rest refl (tail_is 63 63 (63 ∷ c) (62 ∷ u.rest) e))
    go (a ∷ text) g e =
        record {
          text = text;
          rest = u.rest;
          good = second_so (not (begins_with (codes "?>") (a ∷ text))) (lacks (codes "?>") text) g;
          goes_on = u.goes_on;
          whole = tail_is 63 a (63 ∷ c) (text ++ (codes "?>" ++ u.rest)) e;
        }

again_comes : (N : ℕ) (t : Element) (nesting : Nesting) (c : List ℕ) → Rest (in_instruction nesting true) N t c → Rest (in_instruction nesting true) N t (63 ∷ c)
again_comes N t nesting c u =
    record { text = 63 ∷ u.text; rest = u.rest; good = lacks_skip (codes "?>") 63 u.text (front u.text u.whole) ∙ u.good; goes_on = u.goes_on; whole = ap (λ l. 63 ∷ l) u.whole }
  where
    front : (text : List ℕ) → 63 ∷ c ≡ text ++ (codes "?>" ++ u.rest) → begins_with (codes "?>") (63 ∷ text) ≡ false
    front [] e = refl
    front (a ∷ text) e = subst (λ w. begins_with (codes "?>") (63 ∷ w ∷ text) ≡ false) (head_is 63 a c (text ++ (codes "?>" ++ u.rest)) e) refl

pub law_instruction : (nesting : Nesting) (question : Bool) (at x : ℕ) → Law (Rest (in_instruction nesting question)) at x (next_in_instruction nesting question x)
law_instruction nesting true at x =
    let R = Rest (in_instruction nesting true) in
    law_if R at x (x == 62) (Some (behind_piece nesting)) (cond (x == 63) (Some (in_instruction nesting true)) (Some (in_instruction nesting false)))
    (λ h. law_at R at x 62 (Some (behind_piece nesting)) h (law_some R at 62 (behind_piece nesting) (λ N t c r. closed_goes N t nesting c r) (λ N t c r. closed_comes N t nesting c r)))
    (λ h. law_if R at x (x == 63) (Some (in_instruction nesting true)) (Some (in_instruction nesting false))
    (λ k. law_at R at x 63 (Some (in_instruction nesting true)) k
    (law_some R at 63 (in_instruction nesting true) (λ N t c r. again_goes N t nesting c r) (λ N t c r. again_comes N t nesting c r)))
    (λ k. law_some R at x (in_instruction nesting false)
    (λ N t c r. two_goes 63 62 [] (lacks (codes "?>")) (λ text after. Resumed N t nesting after) x c k h (λ text. lacks_two 63 62 [] x text k h) r)
    (λ N t c r. two_comes (codes "?>") 63 x (lacks (codes "?>")) (λ text after. Resumed N t nesting after) c (λ text. lacks_two 63 62 [] x text k h) r)))
law_instruction nesting false at x =
    let R = Rest (in_instruction nesting false) in
    law_if R at x (x == 63) (Some (in_instruction nesting true)) (Some (in_instruction nesting false))
    (λ h. law_at R at x 63 (Some (in_instruction nesting true)) h (law_some R at 63 (in_instruction nesting true) (λ N t c r. r) (λ N t c r. r)))
    (λ h. law_some R at x (in_instruction nesting false)
    (λ N t c r. skip_goes 63 (62 ∷ []) (lacks (codes "?>")) (λ text after. Resumed N t nesting after) x c h (λ text. lacks_other 63 (62 ∷ []) x text h) r)
    (λ N t c r. skip_comes (codes "?>") (lacks (codes "?>")) (λ text after. Resumed N t nesting after) x c (λ text. lacks_other 63 (62 ∷ []) x text h) r))
