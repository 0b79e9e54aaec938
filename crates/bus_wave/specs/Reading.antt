-- What a wave text reads as: its trace, or the line that is refused and why.
--   piece   what stands between two line feeds of the text; what stands behind the last one is no line, and has to be empty
use Rattle.std.specs.Prelude.{ℕ, ◌+◌, Bool, true, false, ◌&&◌, ◌==◌, List, [], ◌∷◌, length, Result, Ok, Err, if◌then◌else◌}
use Rattle.std.specs.List.{slice_split}
use Rattle.bus_text.specs.AllOf.{◌>>=◌}
use Rattle.bus_text.specs.Lines.{is_feed}
use Rattle.bus_text.specs.Refusals.{RefusalOf, at_line}
use Rattle.bus_table.specs.Tables.{Sender, Table}
use Rattle.bus_trace.specs.Traces.{Recording}
use Rattle.bus_wave.specs.declared.fault.WaveReason.{WaveReason}
use Rattle.bus_wave.specs.declared.fault.WaveReason.TheVariants.{Ended, Keyword}
use Rattle.bus_wave.specs.Counted.{holds_of}
use Rattle.bus_wave.specs.declared.symbol.Symbol.{Symbol}
use Rattle.bus_trace.specs.States.{spaced_fields}
use Rattle.bus_wave.specs.Symbols.{head_reading, symbol_reading}
use Rattle.bus_wave.specs.Judging.{Phase, Opened, Silent, Saying, Waiting, Closed, State, opening, step}

-- The number of the refused line, from 1, and why it is refused.
abbrev pub WaveRefusal : Type 0
WaveRefusal = RefusalOf WaveReason

-- Whether the last line was END.
abbrev pub is_closed : Phase → Bool
is_closed Opened = false
is_closed (Silent free) = false
is_closed (Saying x line words left) = false
is_closed (Waiting x next left) = false
is_closed Closed = true

-- The state after what one line more reads as; none stands behind END.
abbrev pub judge_read : List Sender → State → Result Symbol WaveReason → Result State WaveReason
judge_read senders s reading = if is_closed s.phase then Err Keyword else reading >>= step senders s

-- The state after one line more.
unfoldable pub judge : List Sender → State → List ℕ → Result State WaveReason
judge senders s line = judge_read senders s (symbol_reading (spaced_fields line))

-- The trace of complete lines.
abbrev pub recorded : Table → State → Recording
recorded table s = record { horizon = s.at; holds = holds_of table s.list; list = s.list }

-- The text ends here, with these bytes of an unfinished line.
abbrev pub ended : Table → ℕ → State → List ℕ → Result Recording WaveRefusal
ended table number s rest =
    if is_closed s.phase && length rest == 0 then Ok (recorded table s) else Err (record { line = number; reason = Ended })

-- What pieces read as, from line `number` on.
unfoldable pub pieces_reading : Table → ℕ → State → List (List ℕ) → Result Recording WaveRefusal
pieces_reading table number s [] = ended table number s []
pieces_reading table number s (rest ∷ []) = ended table number s rest
pieces_reading table number s (line ∷ next ∷ pieces) =
    at_line number (judge table.senders s line) >>= λ now. pieces_reading table (number + 1) now (next ∷ pieces)

-- What the pieces of a text read as.
unfoldable pub text_reading : Table → List (List ℕ) → Result Recording WaveRefusal
text_reading table [] = Err (record { line = 1; reason = Ended })
text_reading table (rest ∷ []) = Err (record { line = 1; reason = Ended })
text_reading table (line ∷ next ∷ pieces) =
    at_line 1 (head_reading (spaced_fields line)) >>= λ _. pieces_reading table 2 opening (next ∷ pieces)

-- What a text reads as.
abbrev pub wave_reading : Table → List ℕ → Result Recording WaveRefusal
wave_reading table text = text_reading table (slice_split is_feed text)
