-- What a sink over memory that grows tells.
use Rattle.std.specs.Prelude.{ℕ, List, Option, Some}
use Rattle.pn_outside.specs.Taking.{number_of}
use Rattle.pn_stepping.specs.declared.collected.Collected.{Collected}

-- the bytes that it took
abbrev pub collected_bytes : Collected → Option (List ℕ)
collected_bytes s = Some s.bytes.items

-- their number
abbrev pub collected_number : Collected → Option ℕ
collected_number s = number_of (collected_bytes s)
