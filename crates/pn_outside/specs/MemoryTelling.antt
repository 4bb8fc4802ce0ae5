-- What a sink over memory tells.
use Rattle.std.specs.Prelude.{ℕ, List, Option, Some}
use Rattle.pn_outside.specs.Memory.{Kept}
use Rattle.pn_outside.specs.Taking.{number_of}

-- the bytes that it took
abbrev pub kept_bytes : Kept → Option (List ℕ)
kept_bytes s = Some s.bytes

-- their number
abbrev pub kept_number : Kept → Option ℕ
kept_number s = number_of (kept_bytes s)
