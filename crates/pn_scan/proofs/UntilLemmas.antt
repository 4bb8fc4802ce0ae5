-- Texts up to a mark, byte by byte.
use Rattle.std.proofs.Common.{◌≡◌, ℕ, Bool, true, false, not, ◌&&◌, ◌==◌, List, [], ◌∷◌, ◌++◌, codes, Some, refl, sym, ap, ◌∙◌, subst}
use Rattle.std.proofs.lemmas.Bool.{false≢true, eqb-false, ne_eqb}
use Rattle.pn_markup.specs.Bytes.{begins_with, lacks}
use Rattle.pn_tree.specs.declared.element.Element.{Element}
use Rattle.pn_scan.specs.State.{Nesting, before, within, behind, due, in_comment, behind_piece}
use Rattle.pn_scan.specs.Rest.{Rest, Until, Resumed, is_comment}
use Rattle.pn_scan.specs.NextState.{next_in_comment}
use Rattle.pn_scan.proofs.Tools.{Law, law_if, law_some, law_at, head_is, tail_is, differs}

pub not_same : (x k : ℕ) → (x == k) ≡ false → (k == x) ≡ false
not_same x k h = ne_eqb k x (λ e. eqb-false x k h (sym e))

pub lacks_skip : (mark : List ℕ) (y : ℕ) (bs : List ℕ) → begins_with mark (y ∷ bs) ≡ false → lacks mark (y ∷ bs) ≡ lacks mark bs
lacks_skip mark y bs h = ap (λ b. not b && lacks mark bs) h

pub lacks_other : (m : ℕ) (ms : List ℕ) (y : ℕ) (bs : List ℕ) → (y == m) ≡ false → lacks (m ∷ ms) (y ∷ bs) ≡ lacks (m ∷ ms) bs
lacks_other m ms y bs h = lacks_skip (m ∷ ms) y bs (ap (λ b. b && begins_with ms bs) (not_same y m h))

-- one byte that is not the first of the mark
pub skip_goes : (m : ℕ) (ms : List ℕ) (is_good : List ℕ → Bool) (K : List ℕ → List ℕ → Type 0) (y : ℕ) (c : List ℕ)
    → (y == m) ≡ false → ((text : List ℕ) → is_good (y ∷ text) ≡ is_good text) → Until (m ∷ ms) is_good K (y ∷ c) → Until (m ∷ ms) is_good (λ text rest. K (y ∷ text) rest) c
skip_goes m ms is_good K y c h same u = go u.text u.good u.goes_on u.whole
  where
    go : (text : List ℕ) → is_good text ≡ true → K text u.rest → y ∷ c ≡ text ++ ((m ∷ ms) ++ u.rest) → Until (m ∷ ms) is_good (λ text rest. K (y ∷ text) rest) c
    go [] g k e = absurd (differs y m c (ms ++ u.rest) h e)
    go (z ∷ text) g k e =
        let z_is : z ≡ y = sym (head_is y z c (text ++ ((m ∷ ms) ++ u.rest)) e) in
        record {
          text = text;
          rest = u.rest;
          good = sym (same text) ∙ subst (λ w. is_good (w ∷ text) ≡ true) z_is g;
          goes_on = subst (λ w. K (w ∷ text) u.rest) z_is k;
          whole = tail_is y z c (text ++ ((m ∷ ms) ++ u.rest)) e;
        }

pub skip_comes : (mark : List ℕ) (is_good : List ℕ → Bool) (K : List ℕ → List ℕ → Type 0) (y : ℕ) (c : List ℕ)
    → ((text : List ℕ) → is_good (y ∷ text) ≡ is_good text) → Until mark is_good (λ text rest. K (y ∷ text) rest) c → Until mark is_good K (y ∷ c)
skip_comes mark is_good K y c same u = record { text = y ∷ u.text; rest = u.rest; good = same u.text ∙ u.good; goes_on = u.goes_on; whole = ap (λ l. y ∷ l) u.whole }

-- a byte that might have begun the mark, and one that does not go on with it
pub two_goes : (m k : ℕ) (ms : List ℕ) (is_good : List ℕ → Bool) (K : List ℕ → List ℕ → Type 0) (x : ℕ) (c : List ℕ) → (x == m) ≡ false → (x == k) ≡ false
    → ((text : List ℕ) → is_good (m ∷ x ∷ text) ≡ is_good text) → Until (m ∷ k ∷ ms) is_good K (m ∷ x ∷ c) → Until (m ∷ k ∷ ms) is_good (λ text rest. K (m ∷ x ∷ text) rest) c
two_goes m k ms is_good K x c no_m no_k same u = go u.text u.good u.goes_on u.whole
  where
    mark : List ℕ
    mark = m ∷ k ∷ ms

    go : (text : List ℕ) → is_good text ≡ true → K text u.rest → m ∷ x ∷ c ≡ text ++ ((m ∷ k ∷ ms) ++ u.rest) → Until (m ∷ k ∷ ms) is_good (λ text rest. K (m ∷ x ∷ text) rest) c
    go [] g h e = absurd (differs x k c (ms ++ u.rest) no_k (tail_is m m (x ∷ c) (k ∷ (ms ++ u.rest)) e))
    go (a ∷ []) g h e = absurd (differs x m c (k ∷ (ms ++ u.rest)) no_m (tail_is m a (x ∷ c) (m ∷ k ∷ (ms ++ u.rest)) e))
    go (a ∷ b ∷ text) g h e =
        let a_is : a ≡ m = sym (head_is m a (x ∷ c) (b ∷ (text ++ (m ∷ k ∷ (ms ++ u.rest)))) e) in
        let rest_is = tail_is m a (x ∷ c) (b ∷ (text ++ (m ∷ k ∷ (ms ++ u.rest)))) e in
        let b_is : b ≡ x = sym (head_is x b c (text ++ (m ∷ k ∷ (ms ++ u.rest))) rest_is) in
        record {
          text = text;
          rest = u.rest;
          good = sym (same text) ∙ subst (λ w. is_good (w ∷ x ∷ text) ≡ true) a_is (subst (λ w. is_good (a ∷ w ∷ text) ≡ true) b_is g);
          goes_on = subst (λ w. K (w ∷ x ∷ text) u.rest) a_is (subst (λ w. K (a ∷ w ∷ text) u.rest) b_is h);
          whole = tail_is x b c (text ++ (m ∷ k ∷ (ms ++ u.rest))) rest_is;
        }

pub two_comes : (mark : List ℕ) (m x : ℕ) (is_good : List ℕ → Bool) (K : List ℕ → List ℕ → Type 0) (c : List ℕ)
    → ((text : List ℕ) → is_good (m ∷ x ∷ text) ≡ is_good text) → Until mark is_good (λ text rest. K (m ∷ x ∷ text) rest) c → Until mark is_good K (m ∷ x ∷ c)
two_comes mark m x is_good K c same u =
    record { text = m ∷ x ∷ u.text; rest = u.rest; good = same u.text ∙ u.good; goes_on = u.goes_on; whole = ap (λ l. m ∷ x ∷ l) u.whole }

pub lacks_two : (m k : ℕ) (ms : List ℕ) (x : ℕ) (bs : List ℕ) → (x == m) ≡ false → (x == k) ≡ false → lacks (m ∷ k ∷ ms) (m ∷ x ∷ bs) ≡ lacks (m ∷ k ∷ ms) bs
lacks_two m k ms x bs no_m no_k =
    let second : begins_with (m ∷ k ∷ ms) (m ∷ x ∷ bs) ≡ false = ap (λ b. (m == m) && (b && begins_with ms bs)) (not_same x k no_k) ∙ and_false (m == m) in
    lacks_skip (m ∷ k ∷ ms) m (x ∷ bs) second ∙ lacks_other m (k ∷ ms) x bs no_m
  where
    and_false : (b : Bool) → (b && false) ≡ false
    and_false true = refl
    and_false false = refl

-- comments

-- behind a piece it goes on as its state says
pub resumed_goes : (nesting : Nesting) (N : ℕ) (t : Element) (c : List ℕ) → Resumed N t nesting c → Rest (behind_piece nesting) N t c
resumed_goes before N t c r = r
resumed_goes (within levels e outer) N t c r = r
resumed_goes (behind root) N t c r = r

pub resumed_comes : (nesting : Nesting) (N : ℕ) (t : Element) (c : List ℕ) → Rest (behind_piece nesting) N t c → Resumed N t nesting c
resumed_comes before N t c r = r
resumed_comes (within levels e outer) N t c r = r
resumed_comes (behind root) N t c r = r

abbrev pub CommentEnd : ℕ → Element → Nesting → List ℕ → List ℕ → Type 0
CommentEnd N t nesting text after = (more : List ℕ) × Resumed N t nesting more × (after ≡ 62 ∷ more)

dashes_go : (N : ℕ) (t : Element) (nesting : Nesting) (c : List ℕ) → Until (codes "--") is_comment (CommentEnd N t nesting) (45 ∷ 45 ∷ c) → Rest (due (codes ">") (behind_piece nesting)) N t c
dashes_go N t nesting c u = go u.text u.good u.whole
  where
    go : (text : List ℕ) → is_comment text ≡ true → 45 ∷ 45 ∷ c ≡ text ++ (codes "--" ++ u.rest) → Rest (due (codes ">") (behind_piece nesting)) N t c
    go [] g e =
        let c_is : c ≡ u.rest = tail_is 45 45 c u.rest (tail_is 45 45 (45 ∷ c) (45 ∷ u.rest) e) in
        (u.goes_on.0, resumed_goes nesting N t u.goes_on.0 u.goes_on.1, c_is ∙ u.goes_on.2)
    go (a ∷ []) g e = absurd (false≢true (subst (λ w. is_comment (w ∷ []) ≡ true) (sym (head_is 45 a (45 ∷ c) (codes "--" ++ u.rest) e)) g))
    go (a ∷ b ∷ text) g e =
        let a_is : a ≡ 45 = sym (head_is 45 a (45 ∷ c) (b ∷ (text ++ (codes "--" ++ u.rest))) e) in
        let b_is : b ≡ 45 = sym (head_is 45 b c (text ++ (codes "--" ++ u.rest)) (tail_is 45 a (45 ∷ c) (b ∷ (text ++ (codes "--" ++ u.rest))) e)) in
        absurd (false≢true (subst (λ w. is_comment (w ∷ 45 ∷ text) ≡ true) a_is (subst (λ w. is_comment (a ∷ w ∷ text) ≡ true) b_is g)))

dashes_come : (N : ℕ) (t : Element) (nesting : Nesting) (c : List ℕ) → Rest (due (codes ">") (behind_piece nesting)) N t c → Until (codes "--") is_comment (CommentEnd N t nesting) (45 ∷ 45 ∷ c)
dashes_come N t nesting c r =
    record { text = []; rest = c; good = refl; goes_on = (r.0, resumed_comes nesting N t r.0 r.1, r.2); whole = refl }

pub law_comment : (nesting : Nesting) (dash : Bool) (at x : ℕ) → Law (Rest (in_comment nesting dash)) at x (next_in_comment nesting dash x)
law_comment nesting true at x =
    law_if (Rest (in_comment nesting true)) at x (x == 45) (Some (due (codes ">") (behind_piece nesting))) (Some (in_comment nesting false))
    (λ h. law_at (Rest (in_comment nesting true)) at x 45 (Some (due (codes ">") (behind_piece nesting))) h
    (law_some (Rest (in_comment nesting true)) at 45 (due (codes ">") (behind_piece nesting)) (λ N t c r. dashes_go N t nesting c r) (λ N t c r. dashes_come N t nesting c r)))
    (λ h. law_some (Rest (in_comment nesting true)) at x (in_comment nesting false)
    (λ N t c r. two_goes 45 45 [] is_comment (CommentEnd N t nesting) x c h h (λ text. lacks_two 45 45 [] x (text ++ codes "-") h h) r)
    (λ N t c r. two_comes (codes "--") 45 x is_comment (CommentEnd N t nesting) c (λ text. lacks_two 45 45 [] x (text ++ codes "-") h h) r))
law_comment nesting false at x =
    law_if (Rest (in_comment nesting false)) at x (x == 45) (Some (in_comment nesting true)) (Some (in_comment nesting false))
    (λ h. law_at (Rest (in_comment nesting false)) at x 45 (Some (in_comment nesting true)) h
    (law_some (Rest (in_comment nesting false)) at 45 (in_comment nesting true) (λ N t c r. r) (λ N t c r. r)))
    (λ h. law_some (Rest (in_comment nesting false)) at x (in_comment nesting false)
    (λ N t c r. skip_goes 45 (45 ∷ []) is_comment (CommentEnd N t nesting) x c h (λ text. lacks_other 45 (45 ∷ []) x (text ++ codes "-") h) r)
    (λ N t c r. skip_comes (codes "--") is_comment (CommentEnd N t nesting) x c (λ text. lacks_other 45 (45 ∷ []) x (text ++ codes "-") h) r))
