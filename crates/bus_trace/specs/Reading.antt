-- What a read of a trace text from a source takes, and what it answers.
--   TakesTrace old new result          which bytes were taken: exactly those of the trace text, or those up to where the refusal is decided
--   ReadGives result reading           the answer is what the stream reads as, unless a pull failed or memory ran out
--   CountsReading before now result    the count of faults of the source, before and after the read
use Rattle.std.specs.Prelude.{◌≡◌, ◌≤◌, ◌+◌, ℕ, List, [], ◌∷◌, ◌++◌, length, IfSome, Result, Ok, Err}
use Rattle.std.specs.declared.option.Option.{Option}
use Rattle.bus_outer.specs.Faults.{Fails}
use Rattle.bus_outer.specs.Sources.{Taken}
use Rattle.bus_trace.specs.declared.reason.TraceReason.{TraceReason}
use Rattle.bus_trace.specs.declared.reason.TraceReason.TheVariants.{Ended, Long}
use Rattle.bus_trace.specs.declared.fault.TraceError.{TraceError}
use Rattle.bus_trace.specs.declared.fault.TraceError.TheVariants.{Text, ReadFault, TooLarge, Memory}
use Rattle.bus_trace.specs.Limits.{trace_limit, line_limit}
use Rattle.bus_trace.specs.declared.format.Format.{Format}
use Rattle.bus_trace.specs.Traces.{Recording, text_in}
use Rattle.bus_trace.specs.States.{State, step, text_of}
use Rattle.bus_trace.specs.Runs.{Standing, Progress, Going, Over, HasNoFeed, behind, begin, run, due}

-- Whole lines with which nothing is wrong gave this state.
pub record Gave (lines : List ℕ) (s : State) : Type 0 where
  pub text : lines ≡ text_of s
  pub run : run begin lines ≡ Going (behind s)

-- A line that begins at this byte, or its front, behind lines with which nothing is wrong.
pub record LineAt (byte : ℕ) : Type 0 where
  pub before : State
  pub lines : List ℕ
  pub line : List ℕ
  pub gave : Gave lines before
  pub place : byte ≡ length lines
  pub feedless : HasNoFeed line

-- These bytes end with the offending line, or with its 1,802nd byte where no line feed came before, which decides it. Its place is the
-- length of the lines before.
pub data Offends (taken : List ℕ) (byte : ℕ) (reason : TraceReason) : Type 0 where
  Complete : (at : LineAt byte) → taken ≡ at.lines ++ (at.line ++ 10 ∷ []) → length at.line ≤ line_limit
      → step at.before at.line ≡ Err reason → Offends taken byte reason
  Overlong : (at : LineAt byte) → taken ≡ at.lines ++ at.line → length at.line ≡ (line_limit + 1) → reason ≡ Long
      → Offends taken byte reason

-- A text is refused at the length of the lines before the offending line. It was taken up to where that line is decided, or to the end
-- of the source.
pub data Refuses (taken : List ℕ) (left : Option (List ℕ)) (byte : ℕ) (reason : TraceReason) : Type 0 where
  ByLine : Offends taken byte reason → Refuses taken left byte reason
  CutOff : (at : LineAt byte) → taken ≡ at.lines ++ at.line → length at.line ≤ line_limit → IfSome left (λ rest. rest ≡ [])
      → reason ≡ Ended → Refuses taken left byte reason

-- These bytes decide, and one less of them decides nothing.
pub record Decides (bytes : List ℕ) (p : Progress) : Type 0 where
  pub front : List ℕ
  pub last : ℕ
  pub parts : bytes ≡ front ++ last ∷ []
  pub before : Standing
  pub undecided : due trace_limit front ≡ Going before
  pub decided : due trace_limit bytes ≡ p

-- These bytes came from the source, and so much is known of them.
pub record Takes (old new : Option (List ℕ)) (P : List ℕ → Type 0) : Type 0 where
  pub bytes : List ℕ
  pub came : Taken old new bytes
  pub known : P bytes

-- The text of this trace in one of the formats came from the source, and it is within the limit.
pub record TakesText (old new : Option (List ℕ)) (trace : Recording) : Type 0 where
  pub format : Format
  pub came : Taken old new (text_in format trace)
  pub short : length (text_in format trace) ≤ trace_limit

-- Ok takes exactly the trace text. A refusal takes up to where it is decided, within the limit. One byte past the limit is taken only
-- where those before it decide nothing. A failed pull comes before anything is decided.
abbrev pub TakesTrace : Option (List ℕ) → Option (List ℕ) → Result Recording TraceError → Type 0
TakesTrace old new (Ok trace) = TakesText old new trace
TakesTrace old new (Err (Text byte reason)) = Takes old new (λ bytes. Refuses bytes new byte reason × (length bytes ≤ trace_limit))
TakesTrace old new (Err TooLarge) = Takes old new (λ bytes. Decides bytes Over × (length bytes ≡ (trace_limit + 1)))
TakesTrace old new (Err ReadFault) = Takes old new (λ bytes. (at : Standing) × (due trace_limit bytes ≡ Going at))
TakesTrace old new (Err Memory) = Takes old new (λ bytes. length bytes ≤ trace_limit)

-- The answer is this reading; a failed pull and want of memory say nothing of it.
abbrev pub ReadGives : Result Recording TraceError → Result Recording TraceError → Type 0
ReadGives (Err ReadFault) reading = Unit {0}
ReadGives (Err Memory) reading = Unit {0}
ReadGives result reading = reading ≡ result

-- A read counts a fault exactly where it answers one: a failed pull is never passed over, nor given as another error.
abbrev pub CountsReading : ℕ → ℕ → Result Recording TraceError → Type 0
CountsReading before now (Err ReadFault) = Fails before now
CountsReading before now result = now ≡ before
