-- What the sources and the sinks in memory show.
use Rattle.std.specs.Prelude.{◌≡◌, ◌-◌, ◌≤◌, ◌⊎◌, ℕ, Contains, List, [], drop, length, min, take}
use Rattle.bus_outer.specs.Faults.{one_more}
use Rattle.bus_outer.specs.Sources.{line_length}
use Rattle.bus_outer.specs.declared.steady_source.SteadySource.{SteadySource}
use Rattle.bus_outer.specs.declared.memory_source.MemorySource.{MemorySource}
use Rattle.bus_outer.specs.declared.memory_sink.MemorySink.{MemorySink}
use Rattle.bus_outer.specs.declared.count_sink.CountSink.{CountSink}

-- The bytes that a source without failures still gives.
abbrev pub steady_left : SteadySource → List ℕ
steady_left s = drop s.at s.bytes.items

-- The most that one pull of it gives.
abbrev pub steady_piece : SteadySource → ℕ
steady_piece s = s.piece

-- How many of these bytes a pull of a line gives into so much room: the least of a piece, the room and the line.
abbrev pub line_piece : ℕ → List ℕ → ℕ → ℕ
line_piece piece bytes room = min (min piece room) (line_length bytes)

-- The bytes that it has at hand: the next piece.
abbrev pub steady_lent : SteadySource → List ℕ
steady_lent s = take (steady_piece s) (steady_left s)

-- How often a pull of it has failed: never.
abbrev pub steady_faults : SteadySource → ℕ
steady_faults s = 0

-- The bytes that a source with failures still gives.
abbrev pub source_left : MemorySource → List ℕ
source_left s = steady_left s.steady

-- The bytes that it has at hand: none, since each pull that is listed has to fail.
abbrev pub source_lent : MemorySource → List ℕ
source_lent s = []

-- The most that one pull of it gives.
abbrev pub source_piece : MemorySource → ℕ
source_piece s = steady_piece s.steady

-- The number of its next pull, from 0.
abbrev pub pull_number : MemorySource → ℕ
pull_number s = s.number

-- The numbers of the pulls that fail.
abbrev pub failing_pulls : MemorySource → List ℕ
failing_pulls s = s.failing.items

-- How often a pull has failed.
abbrev pub source_faults : MemorySource → ℕ
source_faults s = s.faults

-- One pull has passed: the next one has a number one more, up to the last value of a u64, and the piece and the list stay.
pub record PassesPull (old new : MemorySource) : Type 0 where
  pub number : pull_number new ≡ one_more (pull_number old)
  pub piece : source_piece new ≡ source_piece old
  pub failing : failing_pulls new ≡ failing_pulls old

-- The bytes that a sink holds.
abbrev pub sink_bytes : MemorySink → List ℕ
sink_bytes s = s.bytes.items

-- How many bytes it can hold.
abbrev pub sink_room : MemorySink → ℕ
sink_room s = s.room

-- The most that one push takes.
abbrev pub sink_piece : MemorySink → ℕ
sink_piece s = s.piece

-- The number of its next push, from 0.
abbrev pub push_number : MemorySink → ℕ
push_number s = s.number

-- The numbers of the pushes that fail, beside those for which no room is left.
abbrev pub failing_pushes : MemorySink → List ℕ
failing_pushes s = s.failing.items

-- How often a push has failed.
abbrev pub sink_faults : MemorySink → ℕ
sink_faults s = s.faults

-- The next push fails: it is listed, or no room is left.
abbrev pub PushFails : MemorySink → Type 0
PushFails s = Contains (failing_pushes s) (push_number s) ⊎ (sink_room s ≤ length (sink_bytes s))

-- How many of these bytes a push takes that doesn't fail: the least of a piece, the bytes and the room left.
abbrev pub push_size : MemorySink → List ℕ → ℕ
push_size s bytes = min (min (sink_piece s) (length bytes)) (sink_room s - length (sink_bytes s))

-- One push has passed: the next one has a number one more, up to the last value of a u64, and the room, the piece and the list stay.
pub record PassesPush (old new : MemorySink) : Type 0 where
  pub number : push_number new ≡ one_more (push_number old)
  pub room : sink_room new ≡ sink_room old
  pub piece : sink_piece new ≡ sink_piece old
  pub failing : failing_pushes new ≡ failing_pushes old

-- How many bytes a counting sink has taken, up to the last value of a u64.
abbrev pub counted_bytes : CountSink → ℕ
counted_bytes s = s.count
