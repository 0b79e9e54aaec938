-- What the loop of a read gives, from which the clauses of `read_trace` follow.
use Rattle.std.specs.Prelude.{◌≡◌, ◌≤◌, ℕ, List, [], length, IfSome, Result, Ok, Err}
use Rattle.std.specs.declared.option.Option.{Option}
use Rattle.bus_outer.specs.Sources.{Taken}
use Rattle.bus_trace.specs.declared.reason.TraceReason.{TraceReason}
use Rattle.bus_trace.specs.declared.reason.TraceReason.TheVariants.{Ended}
use Rattle.bus_trace.specs.declared.fault.TraceError.{TraceError}
use Rattle.bus_trace.specs.declared.fault.TraceError.TheVariants.{Text, ReadFault, TooLarge, Memory}
use Rattle.bus_trace.specs.Limits.{trace_limit}
use Rattle.bus_trace.specs.Traces.{Recording}
use Rattle.bus_trace.specs.States.{State, text_of, recorded}
use Rattle.bus_trace.specs.Runs.{Standing, Going, Found, Refused, Over, due}
use Rattle.bus_trace.specs.Reading.{Decides}

-- A line is refused, or the source ended before its line feed.
pub data LineRefused (bytes : List ℕ) (left : Option (List ℕ)) (byte : ℕ) (reason : TraceReason) : Type 0 where
  ByLine : Decides bytes (Refused byte reason) → LineRefused bytes left byte reason
  ByEnd : (at : Standing) → due trace_limit bytes ≡ Going at → IfSome left (λ rest. rest ≡ []) → byte ≡ length (text_of at.state)
      → reason ≡ Ended → LineRefused bytes left byte reason

-- What these bytes gave.
abbrev pub LoopGives : List ℕ → Option (List ℕ) → Result Recording TraceError → Type 0
LoopGives bytes left (Ok trace) = (s : State) × (due trace_limit bytes ≡ Found s) × (bytes ≡ text_of s) × (trace ≡ recorded s)
LoopGives bytes left (Err (Text byte reason)) = LineRefused bytes left byte reason
LoopGives bytes left (Err TooLarge) = Decides bytes Over
LoopGives bytes left (Err ReadFault) = (at : Standing) × (due trace_limit bytes ≡ Going at)
LoopGives bytes left (Err Memory) = length bytes ≤ trace_limit

-- The loop took these bytes, and answers what they gave.
pub record Loops (old new : Option (List ℕ)) (result : Result Recording TraceError) : Type 0 where
  pub bytes : List ℕ
  pub came : Taken old new bytes
  pub gives : LoopGives bytes new result
