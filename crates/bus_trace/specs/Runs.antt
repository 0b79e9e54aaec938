-- The lines of a stream of bytes, judged as they come.
--   standing   what whole lines gave, and the bytes behind the last line feed
--   progress   where bytes lead: they go on, they found the END line, a line was refused, or more came than are looked at
--   run        the progress of bytes from a standing
--   due        the progress of a stream, of which no more bytes than a limit are looked at
--   reading    what a stream reads as, where no more of it comes
use Rattle.std.specs.Prelude.{ℕ, Bool, false, nat_lt, List, [], ◌∷◌, ◌++◌, length, take, ◌≡◌, Result, Ok, Err, if◌then◌else◌}
use Rattle.std.specs.List.{AllByRecursion}
use Rattle.bus_text.specs.Lines.{is_feed}
use Rattle.bus_trace.specs.declared.fault.TraceError.{TraceError}
use Rattle.bus_trace.specs.declared.fault.TraceError.TheVariants.{Text, TooLarge}
use Rattle.bus_trace.specs.declared.reason.TraceReason.{TraceReason}
use Rattle.bus_trace.specs.declared.reason.TraceReason.TheVariants.{Long, Ended}
use Rattle.bus_trace.specs.Limits.{line_limit}
use Rattle.bus_trace.specs.Traces.{Recording}
use Rattle.bus_trace.specs.States.{State, start, step, text_of, is_ended, recorded}

-- The state that whole lines gave, and the line that is begun behind them.
pub record Standing : Type 0 where
  pub state : State
  pub line : List ℕ

-- Going: nothing is decided yet. Found: a front is a trace text. Refused: a line is refused, behind lines of so many bytes.
-- Over: the limit was passed before any of these.
pub data Progress : Type 0 where
  Going : Standing → Progress
  Found : State → Progress
  Refused : ℕ → TraceReason → Progress
  Over : Progress

-- Behind whole lines that gave this state.
abbrev pub behind : State → Standing
behind s = record { state = s; line = [] }

-- What a line that is complete gives; a refusal stands at the length of the lines before it.
abbrev pub judged : State → Result State TraceReason → Progress
judged before (Ok next) = if is_ended next.position then Found next else Going (behind next)
judged before (Err reason) = Refused (length (text_of before)) reason

-- The bytes are of one line.
abbrev pub HasNoFeed : List ℕ → Type 0
HasNoFeed bytes = AllByRecursion (λ b. is_feed b ≡ false) bytes

-- One byte more: a line feed completes the line, which has room for so many bytes before it.
unfoldable pub take_byte : Standing → ℕ → Progress
take_byte r b =
    if is_feed b then judged r.state (step r.state r.line)
    else if nat_lt (length r.line) line_limit then Going (record r { line = r.line ++ b ∷ [] })
    else Refused (length (text_of r.state)) Long

infixl 10 ◌>>-◌
-- What comes behind bytes that decide nothing.
abbrev pub ◌>>-◌ : Progress → (Standing → Progress) → Progress
(Going r) >>- f = f r
progress >>- f = progress

-- Where these bytes lead, one after another.
unfoldable pub run : Standing → List ℕ → Progress
run r [] = Going r
run r (b ∷ bs) = take_byte r b >>- λ next. run next bs

-- Nothing came.
abbrev pub begin : Standing
begin = behind start

-- All that was read of a stream: since a value has one spelling, it need not be kept.
abbrev pub stream_of : Standing → List ℕ
stream_of r = text_of r.state ++ r.line

-- A stream that is longer than the limit goes no further.
abbrev pub due_by : Bool → Progress → Progress
due_by longer (Going r) = if longer then Over else Going r
due_by longer progress = progress

-- Where a stream leads, of which no more bytes than the limit are looked at.
unfoldable pub due : ℕ → List ℕ → Progress
due limit stream = due_by (nat_lt limit (length stream)) (run begin (take limit stream))

-- A stream that ends inside a line, or before its END line, is refused as Ended where the last line begins.
abbrev pub ended_by : Progress → Result Recording TraceError
ended_by (Going at) = Err (Text (length (text_of at.state)) Ended)
ended_by (Found s) = Ok (recorded s)
ended_by (Refused byte reason) = Err (Text byte reason)
ended_by Over = Err TooLarge

-- What a stream reads as: a trace, a refusal, or too many bytes.
abbrev pub reading : ℕ → List ℕ → Result Recording TraceError
reading limit stream = ended_by (due limit stream)
