-- The steps of a state, each unless it goes too far, as the code takes them one by one. No public clause cites it.
use Rattle.std.specs.Prelude.{ℕ, List, Option, Result}
use Rattle.bus_text.specs.AllOf.{◌>>=◌}
use Rattle.bus_strings.specs.Messages.{Entry}
use Rattle.bus_table.specs.declared.line.SendLine.{SendLine}
use Rattle.bus_table.specs.Tables.{Sender}
use Rattle.bus_wave.specs.declared.fault.WaveReason.{WaveReason}
use Rattle.bus_wave.specs.Judging.{State, bounded, quiet_behind, pause_step, begin_step, next_step, last_step}

-- Quiet behind the last data word that a wordstring may end with, unless it goes too far.
abbrev pub quiet_bounded : State → ℕ → Entry → List SendLine → Result State WaveReason
quiet_bounded s n x left = quiet_behind s n x left >>= bounded

-- Quiet behind these data words of a wordstring of x, unless it goes too far.
abbrev pub pause_bounded : State → ℕ → Entry → SendLine → List ℕ → List SendLine → Result State WaveReason
pause_bounded s n x line words left = pause_step s n x line words left >>= bounded

-- The label word with which a message of this sender begins, unless it goes too far.
abbrev pub begin_bounded : State → Option Sender → Result State WaveReason
begin_bounded s sender = begin_step s sender >>= bounded

-- A label word behind the wordstrings of x, where that of `next` has to come, unless it goes too far.
abbrev pub next_bounded : State → ℕ → Entry → SendLine → List SendLine → Result State WaveReason
next_bounded s value x next left = next_step s value x next left >>= bounded

-- The end behind these data words of a wordstring of x, which goes no further.
abbrev pub last_bounded : State → Entry → SendLine → List ℕ → List SendLine → Result State WaveReason
last_bounded s x line words left = last_step s x line words left >>= bounded
