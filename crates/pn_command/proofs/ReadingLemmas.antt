-- What was read of an input so far, and what it comes to.
use Rattle.std.proofs.Common.{◌≡◌, ◌<◌, ◌≤◌, ◌+◌, ℕ, suc, List, [], ◌++◌, length, take, drop, Option, None, Some, IfSome, Result, Ok, Err, IfOk, refl, sym, ap, ◌∙◌, subst, append-nil, take-append-drop, length-append, arith}
use Rattle.std.proofs.lemmas.List.{length-take-le, take-append-le, take_all}
use Rattle.std.specs.Io.KnownBytes.{Consumes, IsAtEnd, Keeps}
use Rattle.std.proofs.KnownBytes.{Consumes-nil, Consumes-trans, Consumes-kept}
use Rattle.pn_outside.specs.Cause.{Rose}
use Rattle.pn_outside.specs.declared.limits.TheConstants.{BYTES}
use Rattle.pn_markup.specs.Document.{IsFront, IsBreak}
use Rattle.pn_scan.specs.declared.scanner.Scanner.{Scanner}
use Rattle.pn_scan.specs.declared.scanner.ScanFault.{ScanFault}
use Rattle.pn_scan.specs.declared.scanner.ScanFault.TheVariants as fault
use Rattle.pn_scan.specs.Reading.{HasRead, IsBroken, IsOnlyFront, IsTooLong, answer_of, fault_of}
use Rattle.pn_command.specs.declared.input.Halt.TheVariants as halt
use Rattle.pn_command.specs.declared.input.Stop.{Stop}
use Rattle.pn_command.specs.declared.input.Scanned.{Scanned}
use Rattle.pn_command.specs.Answer.{BreaksAt}
use Rattle.pn_command.specs.Reading.{FaultSays, HaltSays, IsBegun, IsFed, IsScanned, ReadsNoFurther, Stopped, TakesBegun}
use Rattle.pn_command.proofs.AnswerLemmas.{all_given}
use Rattle.pn_command.proofs.BreakLemmas.{front_of_document, nothing_begins, shorter_front, take_front}

pub nothing_is_begun : IsBegun []
nothing_is_begun = record { within = omega arith; front = nothing_begins }

pub at_first : (s : Scanner) (a : Option (List ℕ)) → HasRead s [] → fault_of s ≡ None → IsFed s a a 0
at_first s a fed no_fault = record { bytes = []; fed = fed; no_fault = no_fault; taken = Consumes-nil a; begun = nothing_is_begun; size = refl }

-- nothing was read
pub unread : (a : Option (List ℕ)) → ReadsNoFurther a a
unread a = record { bytes = []; piece = []; taken = Consumes-nil a; begun = nothing_is_begun; size = omega arith }

answered_ok : (o : Option ScanFault) → Ok tt ≡ answer_of o → o ≡ None
answered_ok None e = refl
answered_ok (Some f) e = cc

module _ (s : Scanner) (a b : Option (List ℕ)) (n : ℕ) (so_far : IsFed s a b n) where
  pub takes_begun : TakesBegun a b
  takes_begun = record { bytes = so_far.bytes; taken = so_far.taken; begun = so_far.begun }

  pub within_limit : n ≤ BYTES
  within_limit = let size = so_far.size in let within = so_far.begun.within in omega arith

  -- the source kept what it had, or gave nothing
  pub kept : (c : Option (List ℕ)) → Keeps b c → IsFed s a c n
  kept c keeps = record { bytes = so_far.bytes; fed = so_far.fed; no_fault = so_far.no_fault; taken = Consumes-kept a b c so_far.bytes so_far.taken keeps; begun = so_far.begun; size = so_far.size }

  pub gave_nothing : (c : Option (List ℕ)) → Consumes b c [] → IsFed s a c n
  gave_nothing c none = record {
    bytes = so_far.bytes;
    fed = so_far.fed;
    no_fault = so_far.no_fault;
    taken = subst (Consumes a c) (append-nil so_far.bytes) (Consumes-trans a b c so_far.bytes [] so_far.taken none);
    begun = so_far.begun;
    size = so_far.size;
  }

  -- at most one piece more was read
  pub no_further : (c : Option (List ℕ)) (piece : List ℕ) → Consumes b c piece → length piece ≤ 4096 → ReadsNoFurther a c
  no_further c piece next small = record { bytes = so_far.bytes; piece = piece; taken = Consumes-trans a b c so_far.bytes piece so_far.taken next; begun = so_far.begun; size = small }

  -- what was fed, for the scanner's next call
  pub was_fed : (bytes : List ℕ) × HasRead s bytes
  was_fed = (so_far.bytes, so_far.fed)

  -- a piece more was read, and the scanner went on
  pub one_piece : (c : Option (List ℕ)) (next : Scanner) (piece : List ℕ) → Consumes b c piece → ((x : List ℕ) → HasRead s x → HasRead next (x ++ piece)) → Ok tt ≡ answer_of (fault_of next)
      → ((x : List ℕ) → HasRead next x → fault_of next ≡ None → (length x ≤ BYTES) × IsFront x) → IsFed next a c (n + length piece)
  one_piece c next piece took fed answer goes =
      let no_fault = answered_ok (fault_of next) answer in
      let now = fed so_far.bytes so_far.fed in
      record {
        bytes = so_far.bytes ++ piece;
        fed = now;
        no_fault = no_fault;
        taken = Consumes-trans a b c so_far.bytes piece so_far.taken took;
        begun = record { within = (goes (so_far.bytes ++ piece) now no_fault).0; front = (goes (so_far.bytes ++ piece) now no_fault).1 };
        size = ap (λ m. m + length piece) so_far.size ∙ sym (length-append so_far.bytes piece);
      }

-- no more is read at the end
pub nothing_more : (s : Scanner) (a b : Option (List ℕ)) (n : ℕ) → IsFed s a b n → ReadsNoFurther a b
nothing_more s a b n so_far = no_further s a b n so_far b [] (Consumes-nil b) (omega arith)

front_take : (m : ℕ) (b : List ℕ) → IsFront b → IsFront (take m b)
front_take m b f = shorter_front (take m b) (drop m b) (subst IsFront (sym (take-append-drop m b)) f)

longer : (b rest : List ℕ) → length b ≤ length (b ++ rest)
longer b rest = let size = length-append b rest in omega arith

-- a break before the end stays the break, whatever follows
broken_stays : (b rest : List ℕ) (k : ℕ) → IsBreak b k → k < length b → k < BYTES → BreaksAt (b ++ rest) k
broken_stays b rest k p inside small =
    let more = longer b rest in
    let no = λ (f : IsFront (take (suc k) (b ++ rest))). p.no_more inside (subst IsFront (take-append-le (suc k) b rest (omega arith)) f) in
    record {
      breaks = record { within = omega arith; front = subst IsFront (sym (take-append-le k b rest (omega arith))) p.front; no_more = λ less f. no f };
      no_document = λ t d. no (front_take (suc k) (b ++ rest) (front_of_document t (b ++ rest) d));
      fits = λ long. no (take_front (suc k) BYTES (b ++ rest) (omega arith) long.front);
    }

long_stays : (b rest : List ℕ) → BYTES < length b → IsFront (take BYTES b) → IsTooLong (b ++ rest)
long_stays b rest size f =
    let more = longer b rest in
    record { longer = omega arith; front = subst IsFront (sym (take-append-le BYTES b rest (omega arith))) f }

-- what holds of the bytes taken and any bytes behind them holds of all that was there
part_given : (old new : Option (List ℕ)) (bytes : List ℕ) (P : List ℕ → Type 0) → Consumes old new bytes → ((rest : List ℕ) → P (bytes ++ rest)) → IfSome old P
part_given None new bytes P taken h = tt
part_given (Some xs) None bytes P taken h = absurd taken
part_given (Some xs) (Some ys) bytes P taken h = subst P (sym taken) (h ys)

abbrev failed : ScanFault → Result (Unit {0}) ScanFault
failed f = Err f

broken_at : (j k : ℕ) → fault.Broken j ≡ fault.Broken k → j ≡ k
broken_at j k e = cc

not_long : (k : ℕ) → fault.TooLong ≡ fault.Broken k → ⊥
not_long k e = cc

-- bytes within the limit that begin a document and are none end at their break
ended_at : (b : List ℕ) (k : ℕ) → length b ≤ BYTES → k ≡ length b → IsOnlyFront b → BreaksAt b k
ended_at b k within is only = record {
  breaks = record { within = omega (arith, is); front = subst IsFront (sym (take_all k b (omega (arith, is)))) only.front; no_more = λ less f. absurd (omega (arith, is, less)) };
  no_document = only.none;
  fits = λ long. let large = long.longer in absurd (omega arith);
}

-- what a fault says, kind by kind
fault_says : (f : ScanFault) (old : Option (List ℕ)) → ((k : ℕ) → f ≡ fault.Broken k → IfSome old (λ x. BreaksAt x k)) → (f ≡ fault.TooLong → IfSome old (λ x. IsTooLong x)) → IfSome old (FaultSays f)
fault_says (fault.Memory e) None broken long = tt
fault_says (fault.Memory e) (Some b) broken long = tt
fault_says (fault.Broken k) old broken long = broken k refl
fault_says fault.TooLong old broken long = long refl

-- and what is answered for it
pub stopped_so : (f : ScanFault) (r : Result Scanned Stop) (old : Option (List ℕ)) → Stopped f r → IfSome old (FaultSays f) → IfOk r (λ sc. IfSome old (λ x. IsScanned x sc))
stopped_so (fault.Memory e) r old is says = subst (λ (v : Result Scanned Stop). IfOk v (λ sc. IfSome old (λ x. IsScanned x sc))) (sym is) tt
stopped_so (fault.Broken k) r old is says = subst (λ (v : Result Scanned Stop). IfOk v (λ sc. IfSome old (λ x. IsScanned x sc))) (sym is) says
stopped_so fault.TooLong r old is says = subst (λ (v : Result Scanned Stop). IfOk v (λ sc. IfSome old (λ x. IsScanned x sc))) (sym is) says

-- the input ends too early
pub cut_off : (bytes : List ℕ) (f : ScanFault) (r : Result Scanned Stop) → length bytes ≤ BYTES → (f ≡ fault.Broken (length bytes)) × IsOnlyFront bytes → Stopped f r → IfOk r (IsScanned bytes)
cut_off bytes f r within said is =
    stopped_so f r (Some bytes) is
    (fault_says f (Some bytes) (λ k same. ended_at bytes k within (broken_at k (length bytes) (sym same ∙ said.0)) said.1) (λ same. absurd (not_long (length bytes) (sym same ∙ said.0))))

module _ (s : Scanner) (a b : Option (List ℕ)) (n : ℕ) (so_far : IsFed s a b n) where
  -- the scanner refused a piece
  pub refused : (c : Option (List ℕ)) (next : Scanner) (piece : List ℕ) (f : ScanFault) → Consumes b c piece → ((x : List ℕ) → HasRead s x → HasRead next (x ++ piece))
      → ((x : List ℕ) (k : ℕ) → HasRead next x → failed f ≡ failed (fault.Broken k) → IsBroken x k) → ((x : List ℕ) → HasRead next x → failed f ≡ failed fault.TooLong → IsTooLong x)
      → IfSome a (FaultSays f)
  refused c next piece f took fed broken long =
      let whole = so_far.bytes ++ piece in
      let all = Consumes-trans a b c so_far.bytes piece so_far.taken took in
      let now = fed so_far.bytes so_far.fed in
      fault_says f a
      (λ k same. let at = broken whole k now (ap failed same) in part_given a c whole (λ x. BreaksAt x k) all (λ rest. broken_stays whole rest k at.is_break at.before_end at.before_limit))
      (λ same. let at = long whole now (ap failed same) in part_given a c whole (λ x. IsTooLong x) all (λ rest. long_stays whole rest at.longer at.front))

-- all of the input was fed
pub all_fed : (s : Scanner) (a b : Option (List ℕ)) (n : ℕ) (r : Result Scanned Stop) → IsFed s a b n → IsAtEnd b → ((x : List ℕ) → HasRead s x → length x ≤ BYTES → IfOk r (IsScanned x)) → IfOk r (λ sc. IfSome a (λ x. IsScanned x sc))
all_fed s a b n (Ok sc) so_far end says = all_given a b so_far.bytes (λ x. IsScanned x sc) so_far.taken end (says so_far.bytes so_far.fed so_far.begun.within)
all_fed s a b n (Err stop) so_far end says = tt

-- of a failed read nothing is said
pub nothing_said : (old : Option (List ℕ)) → IfSome old (HaltSays halt.Source)
nothing_said None = tt
nothing_said (Some bytes) = tt

pub take_small : (n : ℕ) (xs : List ℕ) → n ≤ length xs → length xs ≡ 4096 → length (take n xs) ≤ 4096
take_small n xs h size = let same = length-take-le n xs h in omega arith

-- a count that rose since later rose since before
pub rose_before : (a b c : ℕ) → a ≤ b → Rose b c → Rose a c
rose_before a b c h rose = omega (arith, rose)
