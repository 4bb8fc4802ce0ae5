-- A map from ids to what they name, seen as a list in the order of insertion.
use Rattle.std.specs.Prelude.{ℕ, List, map, string_bytes, String}
use Rattle.std.specs.HashMap.{HashMap}
use Rattle.std.specs.declared.alloc.Global.{Global}

-- an entry, with the bytes of its id
abbrev pub entry_name : {A : Type 0} → String Global × A → List ℕ × A
entry_name e = (string_bytes e.0, e.1)

-- the entries of the map, in order
abbrev pub entry_names : {A S : Type 0} → HashMap (String Global) A S → List (List ℕ × A)
entry_names index = map entry_name index.entries
