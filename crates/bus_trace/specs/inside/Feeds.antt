-- What the calls of the reader of a stream in pieces give on their way. No public clause cites it.
use Rattle.std.specs.Prelude.{◌≡◌, ◌≤◌, ◌<◌, ℕ, Bool, true, false, List, [], ◌++◌, length, take, Result, Ok, Err}
use Rattle.std.specs.declared.alloc.AllocError.{AllocError}
use Rattle.bus_trace.specs.Limits.{trace_limit}
use Rattle.bus_trace.specs.States.{text_of, recorded}
use Rattle.bus_trace.specs.Runs.{Going, Found, Refused, Over, run, begin, due, stream_of}
use Rattle.bus_trace.specs.declared.fault.TraceError.{TraceError}
use Rattle.bus_trace.specs.declared.fault.TraceError.TheVariants.{Text}
use Rattle.bus_trace.specs.declared.reason.TraceReason.TheVariants.{Ended}
use Rattle.bus_trace.specs.Traces.{Recording}
use Rattle.bus_trace.specs.declared.walk.Walked.{Walked}
use Rattle.bus_trace.specs.declared.walk.Walked.TheVariants.{Passed, Ended as Done, Failed}
use Rattle.bus_trace.specs.declared.stage.Stage.{Stage}
use Rattle.bus_trace.specs.declared.stage.Stage.TheVariants as stage
use Rattle.bus_trace.specs.declared.stage.Fed.{Fed}
use Rattle.bus_trace.specs.declared.stage.Fed.TheVariants as fed
use Rattle.bus_trace.specs.Feeding.{Reader}

-- How a reader stands after a walk of as much of a piece as the limit lets through, and what it answers.
abbrev pub fed_of : Walked → Bool → Stage × Fed
fed_of Passed true = (stage.Shut, fed.TooLarge)
fed_of Passed false = (stage.Open, fed.More)
fed_of (Done used) longer = (stage.Whole, fed.Whole used)
fed_of (Failed byte reason) longer = (stage.Shut, fed.Refused byte reason)

-- What a piece gave is what is due for the stream so far.
abbrev pub FeedGives : Reader → Reader → List ℕ → Result Fed AllocError → Type 0
FeedGives old new piece (Ok fed.More) =
    (new.stage ≡ stage.Open) × (due trace_limit (stream_of old.at ++ piece) ≡ Going new.at)
    × (stream_of new.at ≡ stream_of old.at ++ piece)
FeedGives old new piece (Ok (fed.Whole used)) =
    (new.stage ≡ stage.Whole) × (due trace_limit (stream_of old.at ++ piece) ≡ Found new.at.state) × (0 < used)
    × (used ≤ length piece) × (new.at.line ≡ []) × (stream_of new.at ≡ stream_of old.at ++ take used piece)
    × (run begin (stream_of old.at ++ take used piece) ≡ Found new.at.state)
FeedGives old new piece (Ok (fed.Refused byte reason)) =
    (new.stage ≡ stage.Shut) × (due trace_limit (stream_of old.at ++ piece) ≡ Refused byte reason)
FeedGives old new piece (Ok fed.TooLarge) =
    (new.stage ≡ stage.Shut) × (due trace_limit (stream_of old.at ++ piece) ≡ Over)
FeedGives old new piece (Err e) = (new.stage ≡ stage.Shut) × (length (stream_of old.at) < trace_limit)

-- So many bytes of a piece were taken, and more may come.
abbrev pub LeadsOn : Reader → Reader → List ℕ → Result ℕ AllocError → Type 0
LeadsOn old new piece (Ok used) = (used ≤ length piece) × FeedGives old new (take used piece) (Ok fed.More)
LeadsOn old new piece (Err e) = Unit {0}

-- What the end of a stream gives.
abbrev pub FinishGives : Reader → Result Recording TraceError → Type 0
FinishGives old (Ok trace) = (old.stage ≡ stage.Whole) × (trace ≡ recorded old.at.state)
FinishGives old (Err (Text byte reason)) = (old.stage ≡ stage.Open) × (byte ≡ length (text_of old.at.state)) × (reason ≡ Ended)
FinishGives old (Err error) = ⊥
