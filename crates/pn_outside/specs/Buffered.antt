-- A buffered writer as a sink.
use Rattle.std.specs.Prelude.{◌≡◌, ℕ, List, [], Option}
use Rattle.std.specs.Io.Buffered.{writer_buffer, writer_contents}
use Rattle.pn_outside.specs.Taking.{number_of}
use Rattle.pn_outside.specs.declared.buffered.BufferedSink.{BufferedSink}

-- what a sink over a buffered writer took, as the writer tells it: what it passed on, and behind that what is in the buffer
abbrev pub buffered : {W : Type 0} → (W → Option (List ℕ)) → BufferedSink W → Option (List ℕ)
buffered contents s = writer_contents contents s.writer

-- the number of these bytes
abbrev pub buffered_number : {W : Type 0} → (W → Option (List ℕ)) → BufferedSink W → Option ℕ
buffered_number contents s = number_of (writer_contents contents s.writer)

-- how many of its calls failed
abbrev pub buffered_faults : {W : Type 0} → BufferedSink W → ℕ
buffered_faults s = s.faults

-- nothing that was taken is left in the buffer
abbrev pub IsPassedOn : {W : Type 0} → BufferedSink W → Type 0
IsPassedOn s = writer_buffer s.writer ≡ []
