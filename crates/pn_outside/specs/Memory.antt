-- The sources and sinks over memory, as contracts see them.
use Rattle.std.specs.Prelude.{◌≡◌, ℕ, ◌+◌, ◌-◌, ◌<◌, ◌↔◌, ◌⊎◌, ◌++◌, Bool, ◌&&◌, ◌==◌, min, max, List, [], ◌∷◌, length, take, drop, slice_index, if◌then◌else◌, nat_lt, is_ok, Result, Contains, IsErr, IfOk, MatchResult}
use Rattle.pn_outside.specs.Cause.{one_more, CountsFault}

-- a source over memory: the bytes left, its cuts and the place of the next one in their ring,
-- the numbers of the calls that fail, and how many calls and faults there were
pub record Given : Type 0 where
  pub left : List ℕ
  pub cuts : List ℕ
  pub turn : ℕ
  pub failing : List ℕ
  pub calls : ℕ
  pub faults : ℕ

-- how many of n bytes the cut at this place of the ring lets through: a cut of 0 counts as 1, and no cuts mean no cutting
abbrev pub cut_of : List ℕ → ℕ → ℕ → ℕ
cut_of [] turn n = n
cut_of (c ∷ cs) turn n = min (max 1 (slice_index (c ∷ cs) turn)) n

-- the place after this one, in a ring of so many
abbrev pub next_turn : ℕ → ℕ → ℕ
next_turn size turn = if nat_lt (turn + 1) size then turn + 1 else 0

-- a `read` of a source over memory: call number n fails exactly where n is listed, and uses no cut
pub record IsMemoryRead {E : Type 0} (old new : Given) (result : Result ℕ E) (buffer : List ℕ) : Type 0 where
  pub calls : new.calls ≡ one_more old.calls
  pub fails : IsErr result ↔ Contains old.failing new.calls
  pub faults : CountsFault old.faults new.faults result
  pub size : IfOk result (λ n. n ≡ min (cut_of old.cuts old.turn (length buffer)) (length old.left))
  pub left : MatchResult result (λ n. new.left ≡ drop n old.left) (λ _. new.left ≡ old.left)
  pub turn : new.turn ≡ (if is_ok result then next_turn (length old.cuts) old.turn else old.turn)
  pub cuts : new.cuts ≡ old.cuts
  pub failing : new.failing ≡ old.failing

-- a sink over memory: the bytes taken, the room for them, the numbers of the writes that fail,
-- how many writes and faults there were, and whether nothing was taken since it was made or since its last `done`
pub record Kept : Type 0 where
  pub bytes : List ℕ
  pub room : ℕ
  pub failing : List ℕ
  pub writes : ℕ
  pub faults : ℕ
  pub settled : Bool

-- a `write` to a sink over memory: write number n fails exactly where n is listed, or where the piece is not empty
-- and no room is left; else as much of the piece is taken as there is room for
pub record IsMemoryWrite {E : Type 0} (old new : Kept) (result : Result ℕ E) (piece : List ℕ) : Type 0 where
  pub writes : new.writes ≡ one_more old.writes
  pub fails : IsErr result ↔ (Contains old.failing new.writes ⊎ ((0 < length piece) × (old.room ≡ length old.bytes)))
  pub faults : CountsFault old.faults new.faults result
  pub size : IfOk result (λ n. n ≡ min (length piece) (old.room - length old.bytes))
  pub bytes : new.bytes ≡ (if is_ok result then old.bytes ++ take (old.room - length old.bytes) piece else old.bytes)
  pub settled : new.settled ≡ (old.settled && (length new.bytes == length old.bytes))
  pub room : new.room ≡ old.room
  pub failing : new.failing ≡ old.failing
