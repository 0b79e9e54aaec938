-- What a reader of a stream in pieces shows, and what it answers, in the words of the grammar and of the refusals.
--   stream       all bytes that an open reader was fed: the text of the values that it has read, and what is pending. Since a trace has one
--                text in its format, that is fixed by what the reader holds. Of a whole reader it is the trace text that it found
--   IsWholeAt    so many bytes of a stream are the text of a trace, within the limit
--   IsRefusedAt  a line of a stream is refused, and what decides that is within the limit
--   IsDue        the one answer that is due for a stream: neither of the two comes before the limit is passed, or one of them does
use Rattle.std.specs.Prelude.{◌≡◌, ◌≤◌, ◌<◌, ◌+◌, ◌⊎◌, ℕ, List, [], ◌∷◌, ◌++◌, length, take, Result, Ok, Err}
use Rattle.bus_trace.specs.Limits.{trace_limit}
use Rattle.bus_trace.specs.Traces.{Recording, IsTraceText}
use Rattle.bus_trace.specs.Runs.{HasNoFeed, stream_of}
use Rattle.bus_trace.specs.Reading.{Offends}
use Rattle.bus_trace.specs.Feeding.{Reader}
use Rattle.bus_trace.specs.declared.fault.TraceError.{TraceError}
use Rattle.bus_trace.specs.declared.fault.TraceError.TheVariants.{Text}
use Rattle.bus_trace.specs.declared.reason.TraceReason.{TraceReason}
use Rattle.bus_trace.specs.declared.reason.TraceReason.TheVariants.{Ended}
use Rattle.bus_trace.specs.declared.stage.Stage.TheVariants.{Open, Whole, Shut}
use Rattle.bus_trace.specs.declared.stage.Fed.{Fed}
use Rattle.bus_trace.specs.declared.stage.Fed.TheVariants as fed

-- ---- the reader
-- What a reader was given so far.
abbrev pub stream : Reader → List ℕ
stream r = stream_of r.at

-- It takes more: each piece so far has decided nothing.
abbrev pub IsOpen : Reader → Type 0
IsOpen r = r.stage ≡ Open

-- Its last answer was that a trace text has ended.
abbrev pub IsWhole : Reader → Type 0
IsWhole r = r.stage ≡ Whole

-- It was refused, passed the limit, or ran out of memory.
abbrev pub IsShut : Reader → Type 0
IsShut r = r.stage ≡ Shut

-- Lines, each with its line feed, or none.
abbrev pub AreLines : List ℕ → Type 0
AreLines lines = (lines ≡ []) ⊎ ((front : List ℕ) × (lines ≡ front ++ 10 ∷ []))

-- These bytes are what is behind the last line feed of a stream.
pub record IsPending (stream pending : List ℕ) : Type 0 where
  pub lines : List ℕ
  pub parts : stream ≡ lines ++ pending
  pub ends : AreLines lines
  pub feedless : HasNoFeed pending

-- ---- what is due for a stream
-- The first bytes of a stream, so many, are the text of a trace.
pub record IsWholeAt (stream : List ℕ) (count : ℕ) : Type 0 where
  pub trace : Recording
  pub within : count ≤ length stream
  pub short : count ≤ trace_limit
  pub text : IsTraceText trace (take count stream)

-- A stream is refused for a reason against the line that begins at this byte.
pub record IsRefusedAt (stream : List ℕ) (byte : ℕ) (reason : TraceReason) : Type 0 where
  pub front : List ℕ
  pub rest : List ℕ
  pub parts : stream ≡ front ++ rest
  pub short : length front ≤ trace_limit
  pub offends : Offends front byte reason

-- No front of a stream is a trace text, and no line of it is refused.
pub record IsUndecided (stream : List ℕ) : Type 0 where
  pub no_text : (count : ℕ) → IsWholeAt stream count → ⊥
  pub no_refusal : (byte : ℕ) (reason : TraceReason) → IsRefusedAt stream byte reason → ⊥

-- The answer for a stream, of which so many bytes came before the present piece.
abbrev pub IsDue : List ℕ → ℕ → Fed → Type 0
IsDue stream before (fed.Whole used) = IsWholeAt stream (before + used)
IsDue stream before (fed.Refused byte reason) = IsRefusedAt stream byte reason
IsDue stream before fed.TooLarge = (trace_limit < length stream) × IsUndecided stream
IsDue stream before fed.More = (length stream ≤ trace_limit) × IsUndecided stream

-- How the reader stands then. More took the whole piece, and Whole so many bytes of it.
abbrev pub Stands : Reader → Reader → List ℕ → Fed → Type 0
Stands old new piece fed.More = IsOpen new × (stream new ≡ stream old ++ piece)
Stands old new piece (fed.Whole used) = IsWhole new × (0 < used) × (used ≤ length piece) × (stream new ≡ stream old ++ take used piece)
Stands old new piece (fed.Refused byte reason) = IsShut new
Stands old new piece fed.TooLarge = IsShut new

-- What the end of a stream gives: the trace whose text was found, or the place at which what is pending begins.
abbrev pub Finishes : Reader → Result Recording TraceError → Type 0
Finishes r (Ok trace) = IsWhole r × IsTraceText trace (stream r)
Finishes r (Err (Text byte reason)) =
    IsOpen r × ((pending : List ℕ) × IsPending (stream r) pending × (byte + length pending ≡ length (stream r))) × (reason ≡ Ended)
Finishes r (Err error) = ⊥
