-- What a sink took in a call. A clause that says which bytes were appended says by how many their number grew.
use Rattle.std.specs.Prelude.{◌≡◌, ℕ, ◌+◌, ◌≤◌, List, [], length, take, Option, None, Some, Result, OnOk, OnErr, MatchResult, ⊤}
use Rattle.std.specs.Option.{option_map}
use Rattle.std.specs.Io.KnownBytes.{Appends}
use Rattle.pn_outside.specs.Cause.{capped}

-- a sink that tells its bytes tells their number, as a count keeps it
abbrev pub Tells : Option (List ℕ) → Option ℕ → Type 0
Tells None number = ⊤
Tells (Some bytes) number = number ≡ Some (capped (length bytes))

-- the number of the bytes that are told
abbrev pub number_of : Option (List ℕ) → Option ℕ
number_of bytes = option_map (λ bs. capped (length bs)) bytes

-- a number that is told grew by n, up to the end of its type
abbrev pub Grew : Option ℕ → Option ℕ → ℕ → Type 0
Grew None new n = ⊤
Grew (Some k) None n = ⊥
Grew (Some k) (Some m) n = capped m ≡ capped (k + n)

-- from the state old to the state new, the sink took exactly the bytes of a piece
pub record Takes {S : Type 0} (taken : S → Option (List ℕ)) (number : S → Option ℕ) (old new : S) (piece : List ℕ) : Type 0 where
  pub bytes : Appends (taken old) (taken new) piece
  pub count : Grew (number old) (number new) (length piece)

-- the sink took a front of the piece, and no more
pub record TakesFront {S : Type 0} (taken : S → Option (List ℕ)) (number : S → Option ℕ) (old new : S) (piece : List ℕ) : Type 0 where
  pub size : ℕ
  pub within : size ≤ length piece
  pub takes : Takes taken number old new (take size piece)

-- what `write(piece)` took: the first n bytes at `Ok(n)`, and nothing at an `Err`
abbrev pub WriteTakes : {S E : Type 0} → (S → Option (List ℕ)) → (S → Option ℕ) → S → S → Result ℕ E → List ℕ → Type 0
WriteTakes taken number old new result piece =
    MatchResult result (λ n. Takes taken number old new (take n piece)) (λ _. Takes taken number old new [])

-- what a call that puts a text did: it appended the text, or after an `Err` a front of it
pub record Puts {S E : Type 0} (taken : S → Option (List ℕ)) (number : S → Option ℕ) (result : Result (Unit {0}) E) (old new : S) (text : List ℕ) : Type 0 where
  pub all : OnOk result (Takes taken number old new text)
  pub front : OnErr result (TakesFront taken number old new text)
