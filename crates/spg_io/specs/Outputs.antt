-- What a sink over a writer of std has taken, and how much of it that writer has.
use Rattle.std.specs.Prelude.{ℕ, List, Option}
use Rattle.std.specs.Io.Buffered.{writer_buffer, writer_inner, writer_contents}
use Rattle.spg_io.specs.declared.sink.OutputSink.{OutputSink}

-- what it has taken: the writer's bytes and then those held back, where they are known
abbrev pub taken_of : {W : Type 0} → (W → Option (List ℕ)) → OutputSink W → Option (List ℕ)
taken_of contents s = writer_contents contents s.writer

-- what the writer has
abbrev pub given_of : {W : Type 0} → (W → Option (List ℕ)) → OutputSink W → Option (List ℕ)
given_of contents s = contents (writer_inner s.writer)

-- what is held back
abbrev pub held_of : {W : Type 0} → OutputSink W → List ℕ
held_of s = writer_buffer s.writer
