-- How the sources are read.
--   reader   how a source is read, and up to which limit
--   reach    how far it was read
use Rattle.std.specs.Prelude.{◌≡◌, ℕ, ◌+◌, ◌≤◌, ◌<◌, nat_lt, Bool, true, false, List, [], ◌++◌, length, Option, Some, None, IfSome, IsSome}
use Rattle.std.specs.Prelude.{Ok, Err, ◌⊎◌}
use Rattle.std.specs.Prelude.{if◌then◌else◌}
use Rattle.bus_outer.specs.Sources.{TakesSome, most_piece}
use Rattle.bus_trace.specs.declared.fault.TraceError.TheVariants.{Text, ReadFault, TooLarge}
use Rattle.bus_trace.specs.declared.reason.TraceReason.{TraceReason}
use Rattle.bus_trace.specs.Traces.{Recording}
use Rattle.bus_trace.specs.Limits.{trace_limit}
use Rattle.bus_trace.specs.Reading.{TakesTrace}
use Rattle.bus_command.specs.Heard.{Looks, heard_limit, looked_at}
use Rattle.bus_command.specs.Kinds.{Kind, Point, AtWords, AtSource, BehindBoth, Anywhere, Count, NoCount, OfSource, OfOut, row_of}
pub use Rattle.bus_command.specs.Kinds.{Reach, Untouched, Broken, Within, Past, Judged}
use Rattle.bus_command.specs.Outside.{Seen, Sources, Rises, Stays, BothStay}

-- The most bytes that a table text or a messages text may have.
abbrev pub text_limit : ℕ
text_limit = 8388608

-- Entire: it is read whole, of no more bytes than a limit. Trace: it is read as far as a trace text goes. Heard: behind that what stands
-- there is looked at too, as far as a heard text goes.
pub data Reader : Type 0 where
  Entire : (limit : ℕ) → Reader
  Trace : Reader
  Heard : Reader

-- How a trace is read, by whether what stands behind it is looked at.
abbrev pub reader_of : Bool → Reader
reader_of false = Trace
reader_of true = Heard

-- How a table text and a messages text are read.
abbrev pub entire : Reader
entire = Entire text_limit

-- The sources that a form names, each with its reader.
pub record Named : Type 0 where
  pub first : Option Reader
  pub second : Option Reader

-- A form that names no source.
abbrev pub no_source : Named
no_source = record { first = None; second = None }

-- A form that names the first source alone.
abbrev pub one_source : Reader → Named
one_source reader = record { first = Some reader; second = None }

-- A form that names both.
abbrev pub two_sources : Reader → Reader → Named
two_sources first second = record { first = Some first; second = Some second }

-- A form that names a table and a trace.
abbrev pub by_trace : Named
by_trace = two_sources entire Trace

-- The same, by whether what stands behind the trace is looked at.
abbrev pub by_recorded : Bool → Named
by_recorded hears = two_sources entire (reader_of hears)

-- The bytes of a source, where it is named; none are asked of one that isn't.
abbrev pub known : Option Reader → Seen → Option (List ℕ)
known None seen = Some []
known (Some reader) seen = seen.bytes

-- What holds of the text of a source: of the bytes that it tells, or of some text where it tells nothing.
abbrev pub ForKnown : Option (List ℕ) → (List ℕ → Type 0) → Type 0
ForKnown None P = (text : List ℕ) × P text
ForKnown (Some text) P = P text

-- The same of both texts.
abbrev pub ForTexts : Named → Sources → (List ℕ → List ℕ → Type 0) → Type 0
ForTexts named all P = ForKnown (known named.first all.first) (λ first. ForKnown (known named.second all.second) (λ second. P first second))

-- ---- how far a source was read
-- A trace text was taken, or one that is none up to where that is decided.
abbrev pub TakesDecided : Option (List ℕ) → Option (List ℕ) → Type 0
TakesDecided old new =
    ((trace : Recording) × TakesTrace old new (Ok trace))
    ⊎ ((byte : ℕ) × (reason : TraceReason) × TakesTrace old new (Err (Text byte reason)))

-- What was taken of a source that is read whole; past its limit no more than one piece is.
abbrev pub ReadsEntire : ℕ → Reach → Seen → Seen → Type 0
ReadsEntire limit Untouched old new = new ≡ old
ReadsEntire limit Broken old new = TakesSome old.bytes new.bytes (λ n. n ≤ limit)
ReadsEntire limit Within old new = TakesSome old.bytes new.bytes (λ n. n ≤ limit)
ReadsEntire limit Past old new = TakesSome old.bytes new.bytes (λ n. (limit < n) × (n ≤ limit + most_piece))
ReadsEntire limit Judged old new = TakesSome old.bytes new.bytes (λ n. n ≤ limit) × IfSome new.bytes (λ xs. xs ≡ [])

-- What was taken of a source that is read as a trace; past its limit one byte is.
abbrev pub ReadsTrace : Reach → Seen → Seen → Type 0
ReadsTrace Untouched old new = new ≡ old
ReadsTrace Broken old new = TakesTrace old.bytes new.bytes (Err ReadFault)
ReadsTrace Within old new = TakesSome old.bytes new.bytes (λ n. n ≤ trace_limit)
ReadsTrace Past old new = TakesTrace old.bytes new.bytes (Err TooLarge)
ReadsTrace Judged old new = TakesDecided old.bytes new.bytes

-- A trace text was taken, and all that is looked at behind it.
pub record TakesHeard (old new : Option (List ℕ)) : Type 0 where
  pub trace : Recording
  pub between : Option (List ℕ)
  pub first : TakesTrace old between (Ok trace)
  pub behind : Looks between new (λ bytes rest. looked_at (bytes ++ rest) ≡ length bytes)

-- A trace text was taken, and some of that.
pub record BreaksOff (old new : Option (List ℕ)) : Type 0 where
  pub trace : Recording
  pub between : Option (List ℕ)
  pub first : TakesTrace old between (Ok trace)
  pub behind : Looks between new (λ bytes rest. length bytes ≤ looked_at (bytes ++ rest))

-- What was taken of a source that is read as a trace with what stands behind it.
abbrev pub ReadsHeard : Reach → Seen → Seen → Type 0
ReadsHeard Untouched old new = new ≡ old
ReadsHeard Broken old new = TakesTrace old.bytes new.bytes (Err ReadFault) ⊎ BreaksOff old.bytes new.bytes
ReadsHeard Within old new = TakesSome old.bytes new.bytes (λ n. n ≤ trace_limit + heard_limit)
ReadsHeard Past old new = TakesTrace old.bytes new.bytes (Err TooLarge)
ReadsHeard Judged old new =
    TakesHeard old.bytes new.bytes
    ⊎ ((byte : ℕ) × (reason : TraceReason) × TakesTrace old.bytes new.bytes (Err (Text byte reason)))

-- What was taken of a source by its reader.
abbrev pub ReadsBy : Reader → Reach → Seen → Seen → Type 0
ReadsBy (Entire limit) reach old new = ReadsEntire limit reach old new
ReadsBy Trace reach old new = ReadsTrace reach old new
ReadsBy Heard reach old new = ReadsHeard reach old new

-- The same; a source that isn't named wasn't pulled.
abbrev pub Reads : Option Reader → Reach → Seen → Seen → Type 0
Reads None reach old new = new ≡ old
Reads (Some reader) reach old new = ReadsBy reader reach old new

-- A source, where a command stopped at one: one before was read as far as its reader goes, one behind wasn't pulled.
abbrev pub reach_at : ℕ → ℕ → Reach → Reach
reach_at number stop here = if nat_lt stop number then Untouched else (if nat_lt number stop then Judged else here)

-- The same, by the point at which it stopped.
abbrev pub reach_from : ℕ → Point → Reach → Reach
reach_from number AtWords here = here
reach_from number (AtSource source) here = reach_at number source here
reach_from number BehindBoth here = here
reach_from number Anywhere here = here

-- How far a source was read, by what the command came to; want of memory may come anywhere.
abbrev pub reach : ℕ → Kind → Reach
reach number kind = reach_from number (row_of kind).point (row_of kind).reach

-- ---- the counts of faults
-- A count rose, where it should, or stayed.
abbrev pub Moves : Bool → Seen → Seen → Type 0
Moves false old new = Stays old new
Moves true old new = Rises old new

-- Whether it is that of the source at which the command stopped.
abbrev pub rises_at_source : Count → Bool
rises_at_source NoCount = false
rises_at_source OfSource = true
rises_at_source OfOut = false

-- Whether it is that of `out`.
abbrev pub rises_at_out : Count → Bool
rises_at_out NoCount = false
rises_at_out OfSource = false
rises_at_out OfOut = true

-- A source of this number is named.
abbrev pub IsNamed : Named → ℕ → Type 0
IsNamed named source = ((source ≡ 1) × IsSome named.first) ⊎ ((source ≡ 2) × IsSome named.second)

-- A read that failed is of a named source. Its count of faults rose, and the other's is as it was.
pub data FailsToRead (named : Named) (before after : Sources) (source : ℕ) : Type 0 where
  First : source ≡ 1 → IsSome named.first → Rises before.first after.first → Stays before.second after.second
      → FailsToRead named before after source
  Second : source ≡ 2 → IsSome named.second → Stays before.first after.first → Rises before.second after.second
      → FailsToRead named before after source

-- The counts of both sources, where the command stopped at one: that one is named, and its count rose or did not.
abbrev pub CountsAtSource : Named → Sources → Sources → ℕ → Bool → Type 0
CountsAtSource named before after source false = IsNamed named source × BothStay before after
CountsAtSource named before after source true = FailsToRead named before after source

-- The same, by the point at which it stopped.
abbrev pub CountsFrom : Named → Sources → Sources → Point → Bool → Type 0
CountsFrom named before after AtWords rises = BothStay before after
CountsFrom named before after (AtSource source) rises = CountsAtSource named before after source rises
CountsFrom named before after BehindBoth rises = BothStay before after
CountsFrom named before after Anywhere rises = BothStay before after

-- The count of a source rose exactly where the source couldn't be read. A command stops only at a source that its words name.
abbrev pub SourceCounts : Named → Sources → Sources → Kind → Type 0
SourceCounts named before after kind = CountsFrom named before after (row_of kind).point (rises_at_source (row_of kind).count)

-- The count of `out` rose exactly where it couldn't be written.
abbrev pub OutCounts : Seen → Seen → Kind → Type 0
OutCounts old new kind = Moves (rises_at_out (row_of kind).count) old new
