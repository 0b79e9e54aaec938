-- What may stand behind lines of a trace text: that depends on the line read last, the format, and how many wordstrings the last
-- transmission has.
use Rattle.std.specs.Prelude.{Bool, ℕ, List}
use Rattle.bus_trace.specs.declared.keyword.Keyword.{Keyword}
pub use Rattle.bus_trace.specs.declared.stop.Stop.{Stop}
use Rattle.bus_trace.specs.Runs.{Progress, Going, Found, begin, run}
use Rattle.bus_trace.specs.States.{State, start, last_count, may_follow}

-- Behind the lines that gave a state.
abbrev pub stop_in : State → Stop
stop_in s = record { position = s.position; format = s.format; strings = last_count s.list }

-- Behind bytes that lead so far; where one of their lines is refused, or the limit is passed, as behind none.
abbrev pub stop_by : Progress → Stop
stop_by (Going r) = stop_in r.state
stop_by (Found s) = stop_in s
stop_by progress = stop_in start

-- Behind these bytes.
abbrev pub stop_behind : List ℕ → Stop
stop_behind lines = stop_by (run begin lines)

-- Whether a line of a keyword may stand there.
abbrev pub may_stand : Stop → Keyword → Bool
may_stand stop keyword = may_follow stop.position stop.format stop.strings keyword
