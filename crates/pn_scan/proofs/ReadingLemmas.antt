-- What a scanner was fed, one byte after another.
use Rattle.std.proofs.Common.{◌≡◌, ◌⊎◌, inl, inr, ℕ, suc, ◌+◌, ◌<◌, ◌≤◌, true, false, List, [], ◌∷◌, ◌++◌, length, length-append, take, drop, Option, Some, None, MatchResult, Result, Ok, Err, refl, sym, ap, ◌∙◌, subst, arith}
use Rattle.std.proofs.lemmas.List.{take-append-le, take-append-drop, take-take}
use Rattle.std.proofs.lemmas.Bool.{cases_lt}
use Rattle.std.proofs.Math.Seq.{take-length}
use Rattle.pn_outside.specs.declared.limits.TheConstants.{BYTES}
use Rattle.pn_markup.specs.Document.{IsDocument, IsFront, IsBreak}
use Rattle.pn_scan.specs.State.{at_end}
use Rattle.pn_scan.specs.NextState.{next_state}
use Rattle.pn_utf8.specs.Characters.{open_behind}
use Rattle.pn_scan.specs.Fed.{Fed}
use Rattle.pn_scan.specs.Nestings.{nesting_of, inner_of, Belongs}
use Rattle.pn_scan.specs.Contexts.{state_of, Admits}
use Rattle.pn_utf8.specs.Open.{open_bytes}
use Rattle.pn_scan.specs.Reading.{IsReading, IsBroken, IsTooLong, IsOnlyFront, IsMemory, HasReadTo, EndsAt, answer_of}
use Rattle.pn_scan.specs.declared.open_tree.OpenTree.{OpenTree}
use Rattle.pn_scan.specs.declared.context.Context.{Context}
use Rattle.pn_scan.specs.declared.context.Kept.{Kept}
use Rattle.pn_utf8.specs.declared.characters.Open.{Open}
use Rattle.pn_scan.specs.declared.scanner.ScanFault.{ScanFault}
use Rattle.pn_scan.specs.declared.scanner.ScanFault.TheVariants.{Memory, Broken, TooLong}
use Rattle.pn_scan.proofs.FedLemmas.{fed_front, fed_more, fed_no_character, fed_no_state, fed_document, document_fed, front_less}

length_one : (b : List ℕ) (x : ℕ) → length (b ++ (x ∷ [])) ≡ suc (length b)
length_one b x = omega (arith, length-append b (x ∷ []))

pub take_whole : (b : List ℕ) (k : ℕ) → k ≡ length b → take k b ≡ b
take_whole b k e = subst (λ n. take n b ≡ b) (sym e) (take-length b)

take_front : (b c : List ℕ) (k : ℕ) → k ≤ length b → take k (b ++ c) ≡ take k b
take_front b c k h = take-append-le k b c h

break_more : (b c : List ℕ) (k : ℕ) → k < length b → IsBreak b k → IsBreak (b ++ c) k
break_more b c k lt h =
    let le : k ≤ length b = omega arith in
    let le_suc : suc k ≤ length b = omega arith in
    record {
      within = omega (arith, length-append b c);
      front = subst IsFront (sym (take_front b c k le)) h.front;
      no_more = λ _ d. h.no_more lt (subst IsFront (take_front b c (suc k) le_suc) d);
    }

broken_more : (b c : List ℕ) (k : ℕ) → IsBroken b k → IsBroken (b ++ c) k
broken_more b c k h =
    let lt : k < length b = h.before_end in
    record { before_end = omega (arith, length-append b c); before_limit = h.before_limit; is_break = break_more b c k h.before_end h.is_break }

long_more : (b c : List ℕ) (l : ℕ) → l < length b → IsFront (take l b) → (l < length (b ++ c)) × IsFront (take l (b ++ c))
long_more b c l lt front =
    let le : l ≤ length b = omega arith in (omega (arith, length-append b c), subst IsFront (sym (take_front b c l le)) front)

-- a fault stays, whatever bytes follow
pub fault_more : (f : ScanFault) (tree : OpenTree) (kept : Kept) (context : Context) (opened : Open) (count : ℕ) (tree2 : OpenTree) (kept2 : Kept) (context2 : Context) (opened2 : Open) (count2 : ℕ) (b c : List ℕ)
    → HasReadTo (Some f) tree kept context opened count b → HasReadTo (Some f) tree2 kept2 context2 opened2 count2 (b ++ c)
fault_more (Memory e) tree kept context opened count tree2 kept2 context2 opened2 count2 b c h = tt
fault_more (Broken k) tree kept context opened count tree2 kept2 context2 opened2 count2 b c h = broken_more b c k h
fault_more TooLong tree kept context opened count tree2 kept2 context2 opened2 count2 b c h =
    let r = long_more b c BYTES h.longer h.front in record { longer = r.0; front = r.1 }

front_at : (b : List ℕ) (x k : ℕ) → k ≡ length b → IsFront b → IsFront (take k (b ++ (x ∷ [])))
front_at b x k e d =
    let le : k ≤ length b = omega arith in subst IsFront (sym (take_front b (x ∷ []) k le ∙ take_whole b k e)) d

-- one more byte than the limit
pub too_long_is : (tree : OpenTree) (kept : Kept) (context : Context) (opened : Open) (count : ℕ) (b : List ℕ) (x : ℕ) → IsReading tree kept context opened count b → count ≡ BYTES → IsTooLong (b ++ (x ∷ []))
too_long_is tree kept context opened count b x r e =
    let n : BYTES ≡ length b = sym e ∙ r.counted in
    record {
      longer = subst (λ m. BYTES < m) (sym (length_one b x)) (subst (λ m. BYTES < suc m) n (less_suc BYTES));
      front = front_at b x BYTES n (fed_front (state_of (nesting_of tree) kept context) (open_bytes opened) b r.fed);
    }
  where
    less_suc : (n : ℕ) → n < suc n
    less_suc n = omega arith

break_here : (b : List ℕ) (x k : ℕ) → k ≡ length b → IsFront b → (IsFront (b ++ (x ∷ [])) → ⊥) → k < BYTES → IsBroken (b ++ (x ∷ [])) k
break_here b x k e d refused lt =
    let n = length_one b x in
    record {
      before_end = omega arith;
      before_limit = lt;
      is_break = record {
        within = omega arith;
        front = front_at b x k e d;
        no_more = λ _ w. refused (subst IsFront (take_whole (b ++ (x ∷ [])) (suc k) (ap suc e ∙ sym n)) w);
      };
    }

below_limit : (count limit n : ℕ) → count ≡ n → n ≤ limit → (count ≡ limit → ⊥) → count < limit
below_limit count limit n e le ne = omega arith

-- a byte with which no character goes on, or no markup
pub no_character : (tree : OpenTree) (kept : Kept) (context : Context) (opened : Open) (count : ℕ) (b : List ℕ) (x : ℕ) → IsReading tree kept context opened count b → (count ≡ BYTES → ⊥)
    → open_behind (open_bytes opened) x ≡ None → IsBroken (b ++ (x ∷ [])) count
no_character tree kept context opened count b x r ne e =
    break_here b x count r.counted (fed_front (state_of (nesting_of tree) kept context) (open_bytes opened) b r.fed) (fed_no_character (state_of (nesting_of tree) kept context) (open_bytes opened) b x r.fed e)
    (below_limit count BYTES (length b) r.counted r.within ne)

pub no_markup : (tree : OpenTree) (kept : Kept) (context : Context) (opened : Open) (count : ℕ) (b : List ℕ) (x : ℕ) → IsReading tree kept context opened count b → (count ≡ BYTES → ⊥)
    → next_state (state_of (nesting_of tree) kept context) count x ≡ None → IsBroken (b ++ (x ∷ [])) count
no_markup tree kept context opened count b x r ne e =
    break_here b x count r.counted (fed_front (state_of (nesting_of tree) kept context) (open_bytes opened) b r.fed)
    (fed_no_state (state_of (nesting_of tree) kept context) (open_bytes opened) b x r.fed (subst (λ n. next_state (state_of (nesting_of tree) kept context) n x ≡ None) r.counted e))
    (below_limit count BYTES (length b) r.counted r.within ne)

-- a byte that was taken
pub one_more : (tree tree2 : OpenTree) (kept kept2 : Kept) (context context2 : Context) (opened opened2 : Open) (count : ℕ) (b : List ℕ) (x : ℕ) → IsReading tree kept context opened count b → (count ≡ BYTES → ⊥)
    → Some (open_bytes opened2) ≡ open_behind (open_bytes opened) x → Some (state_of (nesting_of tree2) kept2 context2) ≡ next_state (state_of (nesting_of tree) kept context) count x → Belongs tree2
    → Admits (nesting_of tree2) context2 → IsReading tree2 kept2 context2 opened2 (count + 1) (b ++ (x ∷ []))
one_more tree tree2 kept kept2 context context2 opened opened2 count b x r ne e i belongs fits =
    let n = length_one b x in
    let counted : count ≡ length b = r.counted in
    let lt : count < BYTES = below_limit count BYTES (length b) r.counted r.within ne in
    record {
      belongs = belongs;
      fits = fits;
      fed =
          fed_more (state_of (nesting_of tree) kept context) (open_bytes opened) b x (open_bytes opened2) (state_of (nesting_of tree2) kept2 context2) r.fed (sym e)
          (subst (λ m. next_state (state_of (nesting_of tree) kept context) m x ≡ Some (state_of (nesting_of tree2) kept2 context2)) r.counted (sym i));
      counted = omega arith;
      within = omega arith;
    }

pub found_more : (fault : Option ScanFault) (f : ScanFault) (tree : OpenTree) (kept : Kept) (context : Context) (opened : Open) (count : ℕ) (b c : List ℕ) → fault ≡ Some f
    → HasReadTo fault tree kept context opened count b → HasReadTo fault tree kept context opened count (b ++ c)
found_more fault f tree kept context opened count b c is h =
    subst (λ o. HasReadTo o tree kept context opened count (b ++ c)) (sym is)
    (fault_more f tree kept context opened count tree kept context opened count b c (subst (λ o. HasReadTo o tree kept context opened count b) is h))

-- what is answered

front_of_take : (b : List ℕ) (j k : ℕ) → j ≤ k → IsFront (take k b) → IsFront (take j b)
front_of_take b j k le d =
    let shorter : take j (take k b) ≡ take j b = take-take j k b le in
    subst IsFront shorter (front_less (take j (take k b)) (drop j (take k b)) (subst IsFront (sym (take-append-drop j (take k b))) d))

one_break : (b : List ℕ) (j k : ℕ) → IsBroken b j → IsBroken b k → (j < k) ⊎ (k ≤ j) → (k < j) ⊎ (j ≤ k) → j ≡ k
one_break b j k g h (inl lt) other = absurd (g.is_break.no_more g.before_end (front_of_take b (suc j) k (omega arith) h.is_break.front))
one_break b j k g h (inr le) (inl lt) = absurd (h.is_break.no_more h.before_end (front_of_take b (suc k) j (omega arith) g.is_break.front))
one_break b j k g h (inr le) (inr ge) = omega arith

not_both : (b : List ℕ) (k : ℕ) → IsBroken b k → IsFront (take BYTES b) → ⊥
not_both b k h d = h.is_break.no_more h.before_end (front_of_take b (suc k) BYTES h.before_limit d)

no_break : (b : List ℕ) (k : ℕ) → IsBroken b k → IsFront b → ⊥
no_break b k h d = h.is_break.no_more h.before_end (front_of_take b (suc k) (length b) h.before_end (subst IsFront (sym (take_whole b (length b) refl)) d))

not_less : (m n : ℕ) → m < n → n ≤ m → ⊥
not_less m n h k = omega arith

pub answer_goes : (fault : Option ScanFault) (tree : OpenTree) (kept : Kept) (context : Context) (opened : Open) (count : ℕ) (b : List ℕ) → HasReadTo fault tree kept context opened count b → fault ≡ None
    → (length b ≤ BYTES) × IsFront b
answer_goes None tree kept context opened count b h is = (h.within, fed_front (state_of (nesting_of tree) kept context) (open_bytes opened) b h.fed)
answer_goes (Some f) tree kept context opened count b h is = absurd (cc)

pub answer_broken : (fault : Option ScanFault) (tree : OpenTree) (kept : Kept) (context : Context) (opened : Open) (count : ℕ) (b : List ℕ) (k : ℕ) → HasReadTo fault tree kept context opened count b
    → answer_of fault ≡ Err (Broken k) → IsBroken b k
answer_broken None tree kept context opened count b k h is = absurd (cc)
answer_broken (Some (Memory e)) tree kept context opened count b k h is = absurd (cc)
answer_broken (Some (Broken j)) tree kept context opened count b k h is = let e : j ≡ k = cc in subst (IsBroken b) e h
answer_broken (Some TooLong) tree kept context opened count b k h is = absurd (cc)

pub answer_breaks : (fault : Option ScanFault) (tree : OpenTree) (kept : Kept) (context : Context) (opened : Open) (count : ℕ) (b : List ℕ) (k : ℕ) → HasReadTo fault tree kept context opened count b
    → IsBroken b k → (answer_of fault ≡ Err (Broken k)) ⊎ IsMemory (answer_of fault)
answer_breaks None tree kept context opened count b k h w = absurd (no_break b k w (fed_front (state_of (nesting_of tree) kept context) (open_bytes opened) b h.fed))
answer_breaks (Some (Memory e)) tree kept context opened count b k h w = inr tt
answer_breaks (Some (Broken j)) tree kept context opened count b k h w = inl (ap (λ i. Err (Broken i)) (one_break b j k h w (cases_lt j k) (cases_lt k j)))
answer_breaks (Some TooLong) tree kept context opened count b k h w = absurd (not_both b k w h.front)

pub answer_too_long : (fault : Option ScanFault) (tree : OpenTree) (kept : Kept) (context : Context) (opened : Open) (count : ℕ) (b : List ℕ) → HasReadTo fault tree kept context opened count b
    → answer_of fault ≡ Err TooLong → IsTooLong b
answer_too_long None tree kept context opened count b h is = absurd (cc)
answer_too_long (Some (Memory e)) tree kept context opened count b h is = absurd (cc)
answer_too_long (Some (Broken j)) tree kept context opened count b h is = absurd (cc)
answer_too_long (Some TooLong) tree kept context opened count b h is = h

pub answer_longer : (fault : Option ScanFault) (tree : OpenTree) (kept : Kept) (context : Context) (opened : Open) (count : ℕ) (b : List ℕ) → HasReadTo fault tree kept context opened count b → IsTooLong b
    → (answer_of fault ≡ Err TooLong) ⊎ IsMemory (answer_of fault)
answer_longer None tree kept context opened count b h w = absurd (not_less BYTES (length b) w.longer h.within)
answer_longer (Some (Memory e)) tree kept context opened count b h w = inr tt
answer_longer (Some (Broken j)) tree kept context opened count b h w = absurd (not_both b j h w.front)
answer_longer (Some TooLong) tree kept context opened count b h w = inl refl

-- the end

pub end_document : (tree : OpenTree) (kept : Kept) (context : Context) (opened : Open) (count : ℕ) (b : List ℕ) → IsReading tree kept context opened count b → EndsAt true (nesting_of tree) kept context opened
    → IsDocument (inner_of (nesting_of tree)) b
end_document tree kept context opened count b r e =
    let t = inner_of (nesting_of tree) in document_fed t b (subst (λ p. Fed (at_end t) p b) e.1 (subst (λ s. Fed s (open_bytes opened) b) e.0 r.fed))

pub end_front : (tree : OpenTree) (kept : Kept) (context : Context) (opened : Open) (count : ℕ) (b : List ℕ) → IsReading tree kept context opened count b → EndsAt false (nesting_of tree) kept context opened
    → IsOnlyFront b
end_front tree kept context opened count b r e = record {
  front = fed_front (state_of (nesting_of tree) kept context) (open_bytes opened) b r.fed;
  none = λ t d. let f = fed_document (state_of (nesting_of tree) kept context) (open_bytes opened) b t r.fed d in e t f.0 f.1;
}

-- the end is never want of memory
pub no_memory_wanted : {T : Type 0} → (r : Result T ScanFault) (P : T → Type 0) (Q : Type 0) (n : ℕ) → MatchResult r P (λ f. (f ≡ Broken n) × Q) → IsMemory r → ⊥
no_memory_wanted (Ok t) P Q n h m = m
no_memory_wanted (Err (Memory e)) P Q n h m = let is : Memory e ≡ Broken n = h.0 in cc
no_memory_wanted (Err (Broken k)) P Q n h m = m
no_memory_wanted (Err TooLong) P Q n h m = m
