-- What the edge does to the file that it reads and to the writer that it writes to, where these tell their bytes.
--
--   PullsFile remaining old new pull buf   a pull of a `FileSource`; `remaining` gives the bytes that a file has left, before which
--                                          those come that were read ahead
--   ConsumesFile remaining old new count   so many bytes are taken of those that were read ahead
--   PushesOn old new push bytes            a push of an `OutSink`, by what its writer holds
use Rattle.std.specs.Prelude.{◌≡◌, ℕ, List, [], String, take}
use Rattle.std.specs.declared.alloc.Global.{Global}
use Rattle.std.specs.declared.option.Option.{Option}
use Rattle.std.specs.Io.KnownBytes.{Appends, Consumes, Keeps, IsAtEnd}
use Rattle.bus_outer.specs.Ahead.{waiting, left_ahead}
use Rattle.bus_outer.specs.declared.out_sink.OutSink.{OutSink}
use Rattle.bus_outer.specs.declared.file_source.FileSource.{FileSource}
use Rattle.bus_outer.specs.declared.sink.Push.{Push}
use Rattle.bus_outer.specs.declared.sink.Push.TheVariants.{Took, Failed as Refused}
use Rattle.bus_outer.specs.declared.source.Pull.{Pull}
use Rattle.bus_outer.specs.declared.source.Pull.TheVariants.{Got, End, Failed}
use Rattle.bus_outer.specs.declared.file_source.NamedFile.{NamedFile}
use Rattle.bus_outer.specs.declared.file_source.NamedFile.TheVariants.{None, Closed, Open}

-- A pull that is a read of a file gives what came from the file's front, and says that it ended only where nothing is left.
abbrev pub ReadsFile : Option (List ℕ) → Option (List ℕ) → Pull → List ℕ → Type 0
ReadsFile old new (Got n) buf = Consumes old new (take n buf)
ReadsFile old new End buf = IsAtEnd new
ReadsFile old new Failed buf = Keeps old new

-- A pull that opens a file is a read of it, from where it was opened. Where the file can't be opened, its name stays for the next pull.
abbrev pub OpensFile : {F : Type 0} → (F → Option (List ℕ)) → String Global → NamedFile F → Pull → List ℕ → Type 0
OpensFile {F} remaining path (Open file) pull buf = (opened : F) × ReadsFile (remaining opened) (left_ahead remaining file) pull buf
OpensFile remaining path (Closed same) Failed buf = same ≡ path
OpensFile remaining path (Closed same) End buf = ⊥
OpensFile remaining path (Closed same) (Got n) buf = ⊥
OpensFile remaining path None pull buf = ⊥

-- A source with no file has ended and stays so; a file is opened by a pull, and that pull and each later one is a read of it.
abbrev pub PullsFile : {F : Type 0} → (F → Option (List ℕ)) → NamedFile F → NamedFile F → Pull → List ℕ → Type 0
PullsFile remaining None new pull buf = (pull ≡ End) × (new ≡ None)
PullsFile remaining (Closed path) new pull buf = OpensFile remaining path new pull buf
PullsFile remaining (Open file) (Open next) pull buf = ReadsFile (left_ahead remaining file) (left_ahead remaining next) pull buf
PullsFile remaining (Open file) None pull buf = ⊥
PullsFile remaining (Open file) (Closed path) pull buf = ⊥

-- The bytes of a file that were read ahead.
abbrev pub waiting_of : {F : Type 0} → NamedFile F → List ℕ
waiting_of None = []
waiting_of (Closed path) = []
waiting_of (Open file) = waiting file

-- Bytes that were read ahead are taken from an open file alone; any other stays as it is.
abbrev pub ConsumesFile : {F : Type 0} → (F → Option (List ℕ)) → NamedFile F → NamedFile F → ℕ → Type 0
ConsumesFile remaining None new count = new ≡ None
ConsumesFile remaining (Closed path) new count = new ≡ Closed path
ConsumesFile remaining (Open file) (Open next) count =
    Consumes (left_ahead remaining file) (left_ahead remaining next) (take count (waiting file))
ConsumesFile remaining (Open file) None count = ⊥
ConsumesFile remaining (Open file) (Closed path) count = ⊥

-- The file of a source, as far as it has come.
abbrev pub file_of : {R F D : Type 0} → FileSource R F D → NamedFile F
file_of s = s.file

-- How often the file couldn't be opened or read.
abbrev pub file_faults : {R F D : Type 0} → FileSource R F D → ℕ
file_faults s = s.faults

-- The writer behind a sink.
abbrev pub writer_of : {W : Type 0} → OutSink W → W
writer_of s = s.writer

-- How often it couldn't be written to or flushed.
abbrev pub writer_faults : {W : Type 0} → OutSink W → ℕ
writer_faults s = s.faults

-- What was taken went to the writer; where the push failed, no more than a front of the bytes did.
abbrev pub PushesOn : Option (List ℕ) → Option (List ℕ) → Push → List ℕ → Type 0
PushesOn old new (Took n) bytes = Appends old new (take n bytes)
PushesOn old new Refused bytes = (n : ℕ) × Appends old new (take n bytes)
