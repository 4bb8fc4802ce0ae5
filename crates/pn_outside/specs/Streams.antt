-- Readers and writers as sources and sinks.
use Rattle.std.specs.Prelude.{◌≡◌, ℕ, true, List, Option}
use Rattle.pn_outside.specs.Taking.{number_of}
use Rattle.pn_outside.specs.declared.streams.StdSource.{StdSource}
use Rattle.pn_outside.specs.declared.streams.StdSink.{StdSink}

-- what a source over a reader has left, as the reader tells it
abbrev pub unread : {R : Type 0} → (R → Option (List ℕ)) → StdSource R → Option (List ℕ)
unread remaining s = remaining s.reader

-- how many of its reads failed
abbrev pub read_faults : {R : Type 0} → StdSource R → ℕ
read_faults s = s.faults

-- what a sink over a writer took, as the writer tells it
abbrev pub written : {W : Type 0} → (W → Option (List ℕ)) → StdSink W → Option (List ℕ)
written contents s = contents s.writer

-- the number of these bytes
abbrev pub written_number : {W : Type 0} → (W → Option (List ℕ)) → StdSink W → Option ℕ
written_number contents s = number_of (contents s.writer)

-- how many of its calls failed
abbrev pub write_faults : {W : Type 0} → StdSink W → ℕ
write_faults s = s.faults

-- its last call was a `done` that answered `Ok`
abbrev pub IsFlushed : {W : Type 0} → StdSink W → Type 0
IsFlushed s = s.is_flushed ≡ true
