-- What a reader of a stream in pieces is.
use Rattle.std.specs.Prelude.{◌≡◌, ◌≤◌, [], length}
use Rattle.bus_trace.specs.Limits.{trace_limit}
use Rattle.bus_trace.specs.Runs.{Standing, Going, Found, run, begin, stream_of}
use Rattle.bus_trace.specs.declared.stage.Stage.{Stage}
use Rattle.bus_trace.specs.declared.stage.Stage.TheVariants as stage

-- A reader: whether it takes more, and where the stream so far has led.
pub record Reader : Type 0 where
  pub stage : Stage
  pub at : Standing

-- An open reader stands where the stream so far leads; a whole one has found its trace text.
abbrev pub ReaderIs : Stage → Standing → Type 0
ReaderIs stage.Open at = (run begin (stream_of at) ≡ Going at) × (length (stream_of at) ≤ trace_limit)
ReaderIs stage.Whole at = (run begin (stream_of at) ≡ Found at.state) × (length (stream_of at) ≤ trace_limit) × (at.line ≡ [])
ReaderIs stage.Shut at = Unit {0}
