-- Marks, and texts with a mark behind them.
use Rattle.std.proofs.Common.{◌≡◌, ◌⊎◌, inl, inr, ℕ, zero, suc, ◌<◌, ◌≤◌, ◌==◌, Bool, true, false, cond, not, List, [], ◌∷◌, ◌++◌, length, map, get_or, min, ltb, leb, ◌||◌, Some, refl, sym, ap, ◌∙◌, subst, append_assoc, arith}
use Rattle.std.specs.List.{Contains, list_any, slice_get}
use Rattle.std.proofs.lemmas.Bool.{false≢true}
use Rattle.std.proofs.lemmas.Bool.Decides.{nat_tests}
use Rattle.pn_facts.proofs.Contained.{contains_first, contains_cases}
use Rattle.std.specs.declared.result.Result.{Result}
use Rattle.std.specs.declared.result.Result.TheVariants.{Ok, Err}
use Rattle.pn_words.specs.Languages.{same, Apart, Falls, IsRead, Broken, SharesUpTo, Reads, Then, Closed, Mark, Only, Listed, AreApart, is_unmarked}
use Rattle.pn_words.proofs.ClosedLemmas.{differ, closed_found}
use Rattle.pn_words.proofs.PlaceLemmas.{equal_from}
use Rattle.pn_words.proofs.ThenLemmas.{then_found, then_broken, first_broken}
use Rattle.pn_words.proofs.WayLemmas.{renamed, falls_less}

pub mark_found : (marks : List ℕ) (c : ℕ) (rest : List ℕ) → Contains marks c → IsRead (Mark marks) (c ∷ rest) c rest
mark_found marks c rest is = record { word = c ∷ []; is_word = (is, refl); cut = refl; only = λ d w h. by d w h.1 (d == c) refl }
  where
    by : (d : ℕ) (w : List ℕ) → w ≡ d ∷ [] → (t : Bool) → (d == c) ≡ t → ((d ≡ c) × (w ≡ c ∷ [])) ⊎ Apart w (c ∷ [])
    by d w e true k = inl (equal_from d c k, e ∙ ap (λ x. x ∷ []) (equal_from d c k))
    by d w e false k = inr (subst (λ l. Apart l (c ∷ [])) (sym e) (differ d c [] [] k))

pub mark_broken : (marks b : List ℕ) → ((c : ℕ) (rest : List ℕ) → b ≡ c ∷ rest → Contains marks c → ⊥) → Broken (Mark marks) b (length b)
mark_broken marks b none = record { within = omega arith; reach = inl refl; only = λ d w h. falls b none d w h.0 h.1 }
  where
    falls : (b : List ℕ) → ((c : ℕ) (rest : List ℕ) → b ≡ c ∷ rest → Contains marks c → ⊥) → (d : ℕ) (w : List ℕ) → Contains marks d → w ≡ d ∷ [] → Falls w b (length b)
    falls [] none d w is e = subst (λ l. Falls l [] 0) (sym e) (record { short = omega arith; by = omega arith })
    falls (c ∷ rest) none d w is e = subst (λ l. Falls l (c ∷ rest) (length (c ∷ rest))) (sym e) (by (d == c) refl)
      where
        by : (t : Bool) → (d == c) ≡ t → Falls (d ∷ []) (c ∷ rest) (length (c ∷ rest))
        by true k = absurd (none c rest refl (subst (Contains marks) (equal_from d c k) is))
        by false k =
            let s : same (d ∷ []) (c ∷ rest) ≡ 0 = ap (λ t. cond t (suc (same [] rest)) 0) k in record { short = omega (arith, s); by = omega (arith, s) }

some_mark : (marks : List ℕ) → 0 < length marks → (c : ℕ) × (w : List ℕ) × Mark marks c w
some_mark [] h = absurd (omega (arith, h))
some_mark (c ∷ marks) h = (c, c ∷ [], (contains_first c marks, refl))

closed_to : {V : Type 0} (L : V → List ℕ → Type 0) (marks : List ℕ) (p : V × ℕ) (w : List ℕ) → Then L (λ v. Mark marks) p w → Closed L marks p w
closed_to L marks p w h = (h.0, h.2, h.3.0, h.4 ∙ ap (λ l. h.0 ++ l) h.3.1)

closed_from : {V : Type 0} (L : V → List ℕ → Type 0) (marks : List ℕ) (p : V × ℕ) (w : List ℕ) → Closed L marks p w → (q : V × ℕ) × (p ≡ q) × Then L (λ v. Mark marks) q w
closed_from L marks p w h = (p, refl, (h.0, p.1 ∷ [], h.1, (h.2, refl), h.3))

-- what is read of a text, and of a mark behind it, is read of both
pub text_then_mark : {V : Type 0} (L : V → List ℕ → Type 0) (marks b : List ℕ) (v : V) (c : List ℕ) (m : ℕ) (rest : List ℕ)
    → IsRead L b v c → IsRead (Mark marks) c m rest → IsRead (Closed L marks) b (v, m) rest
text_then_mark L marks b v c m rest f g =
    (renamed (Closed L marks) (Then L (λ v. Mark marks)) (λ p. p) b (closed_to L marks) (closed_from L marks)).found (v, m) rest
    (then_found L (λ v. Mark marks) b v c m rest f g)

pub mark_breaks : {V : Type 0} (L : V → List ℕ → Type 0) (marks b : List ℕ) (v : V) (c : List ℕ) (left : ℕ) → 0 < length marks
    → IsRead L b v c → Broken (Mark marks) c left → Broken (Closed L marks) b left
mark_breaks L marks b v c left some f g =
    (renamed (Closed L marks) (Then L (λ v. Mark marks)) (λ p. p) b (closed_to L marks) (closed_from L marks)).broken left
    (then_broken L (λ v. Mark marks) b v c left (λ x. some_mark marks some) f g)

pub text_breaks : {V : Type 0} (L : V → List ℕ → Type 0) (marks b : List ℕ) (left : ℕ) → 0 < length marks → Broken L b left → Broken (Closed L marks) b left
text_breaks L marks b left some f =
    (renamed (Closed L marks) (Then L (λ v. Mark marks)) (λ p. p) b (closed_to L marks) (closed_from L marks)).broken left
    (first_broken L (λ v. Mark marks) b left (λ x. some_mark marks some) f)

unmarked_ends : (marks : List ℕ) (c : ℕ) → Contains marks c → is_unmarked marks c ≡ false
unmarked_ends [] c h = absurd (omega (arith, h.1))
unmarked_ends (m ∷ marks) c h = step (contains_cases m marks c h) (λ k. unmarked_ends marks c k)
  where
    first : (a b : Bool) → a ≡ true → not (a || b) ≡ false
    first true b e = refl
    first false b e = absurd (false≢true e)

    later : (a b : Bool) → not b ≡ false → not (a || b) ≡ false
    later true b e = refl
    later false b e = e

    step : (m ≡ c) ⊎ Contains marks c → (Contains marks c → is_unmarked marks c ≡ false) → is_unmarked (m ∷ marks) c ≡ false
    step (inl e) more = first (m == c) (list_any (λ x. x == c) marks) (grind (arith, nat_tests, e))
    step (inr k) more = later (m == c) (list_any (λ x. x == c) marks) (more k)

-- none of no texts is read
pub listed_none : (texts : List (List ℕ)) (marks b : List ℕ) → Broken (Closed (Listed texts 0) marks) b (length b)
listed_none texts marks b = record { within = omega arith; reach = inl refl; only = λ p w h. absurd (omega (arith, h.1.0)) }

-- one text more
pub listed_next : (texts : List (List ℕ)) (n : ℕ) (t : List ℕ) (marks b : List ℕ) (left less : ℕ) → slice_get texts n ≡ Some t
    → Broken (Closed (Listed texts n) marks) b left → Broken (Closed (Only t) marks) b less → Broken (Closed (Listed texts (suc n)) marks) b (min left less)
listed_next texts n t marks b left less is h k = record {
  within = omega (arith, h.within, k.within);
  reach = reach h.reach k.reach;
  only = λ p w x. falls p w x.0 x.1.0 x.1.1 x.2 x.3 (ltb p.0 n) refl;
}
  where
    reach : SharesUpTo (Closed (Listed texts n) marks) b left → SharesUpTo (Closed (Only t) marks) b less → SharesUpTo (Closed (Listed texts (suc n)) marks) b (min left less)
    reach (inl e) (inl f) = inl (omega (arith, e, f))
    reach (inr r) y =
        by (leb left less) refl y
      where
        first : left ≤ less → SharesUpTo (Closed (Listed texts (suc n)) marks) b (min left less)
        first le = inr (r.0, r.1, (r.2.0, (omega (arith, r.2.1.0), r.2.1.1), r.2.2, r.2.3), omega (arith, le, r.3))

        by : (c : Bool) → leb left less ≡ c → SharesUpTo (Closed (Only t) marks) b less → SharesUpTo (Closed (Listed texts (suc n)) marks) b (min left less)
        by true c z = first (grind (arith, nat_tests))
        by false c (inl f) = let w = h.within in let gt : less < left = grind (arith, nat_tests) in absurd (omega (arith, f, w, gt))
        by false c (inr z) =
            let gt : less < left = grind (arith, nat_tests) in
            inr ((n, z.0.1), z.1, (z.2.0, (omega arith, is ∙ ap Some (sym z.2.1)), z.2.2, z.2.3), omega (arith, gt, z.3))
    reach (inl e) (inr r) = inr ((n, r.0.1), r.1, (r.2.0, (omega arith, is ∙ ap Some (sym r.2.1)), r.2.2, r.2.3), (let w = k.within in omega (arith, e, r.3, w)))

    falls : (p : ℕ × ℕ) (w u : List ℕ) → p.0 < suc n → slice_get texts p.0 ≡ Some u → Contains marks p.1 → w ≡ u ++ p.1 ∷ [] → (c : Bool) → ltb p.0 n ≡ c → Falls w b (min left less)
    falls p w u lt got mark e true c = falls_less w b left (min left less) (omega arith) (h.only p w (u, (grind (arith, nat_tests), got), mark, e))
    falls p w u lt got mark e false c =
        let same_place : p.0 ≡ n = grind (arith, nat_tests) in
        let some : Some t ≡ Some u = sym is ∙ ap (slice_get texts) (sym same_place) ∙ got in
        let same_text : u ≡ t = cc in
        falls_less w b less (min left less) (omega arith) (k.only (tt, p.1) w (u, same_text, mark, e))

-- the text of this place and a mark are read where the bytes begin with them: no other text and mark begin so
pub listed_at : (texts : List (List ℕ)) (n i : ℕ) (t : List ℕ) (marks b : List ℕ) (c : ℕ) (rest : List ℕ) → AreApart texts marks → i < n → slice_get texts i ≡ Some t → Contains marks c → b ≡ t ++ c ∷ rest
    → IsRead (Closed (Listed texts n) marks) b (i, c) rest
listed_at texts n i t marks b c rest apart lt got is cut =
    closed_found (is_unmarked marks) (Listed texts n) marks (λ v u h. apart.unmarked v u h.1) (unmarked_ends marks) (λ u v x h k. apart.once u v x h.1 k.1) b i t c rest (lt, got) is cut

pub listed_found : (texts : List (List ℕ)) (n i : ℕ) (t : List ℕ) (marks b : List ℕ) (c : ℕ) (rest : List ℕ) → AreApart texts marks → i < n → slice_get texts i ≡ Some t
    → IsRead (Closed (Only t) marks) b (tt, c) rest → IsRead (Closed (Listed texts n) marks) b (i, c) rest
listed_found texts n i t marks b c rest apart lt got f =
    listed_at texts n i t marks b c rest apart lt got f.is_word.2
    (f.cut ∙ ap (λ l. l ++ rest) (f.is_word.3 ∙ ap (λ l. l ++ c ∷ []) f.is_word.1) ∙ append_assoc t (c ∷ []) rest)

-- a text was read, and behind it a mark is
pub mark_reads : {V T : Type 0} (L : V → List ℕ → Type 0) (marks b : List ℕ) (v : V) (c : List ℕ) (mark : T → ℕ) (rest : T → List ℕ) (r : Result T ℕ) → 0 < length marks
    → IsRead L b v c → Reads (Mark marks) c mark rest r → Reads (Closed L marks) b (λ x. (v, mark x)) rest r
mark_reads L marks b v c mark rest (Ok x) some f h = text_then_mark L marks b v c (mark x) (rest x) f h
mark_reads L marks b v c mark rest (Err left) some f h = mark_breaks L marks b v c left some f h

pub mapped_at : {X : Type 0} (f : X → List ℕ) (xs : List X) (k : ℕ) (d : X) → k < length xs → slice_get (map f xs) k ≡ Some (f (get_or xs k d))
mapped_at f [] k d lt = absurd (omega (arith, lt))
mapped_at f (x ∷ xs) zero d lt = refl
mapped_at f (x ∷ xs) (suc k) d lt = mapped_at f xs k d (omega (arith, lt))
