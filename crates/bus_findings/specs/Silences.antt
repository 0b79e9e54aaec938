-- What is found behind the last transmission of a trace.
use Rattle.std.specs.Prelude.{Option, None}
use Rattle.std.specs.Option.{option_map_or}
use Rattle.bus_table.specs.Tables.{Sender, Table}
use Rattle.bus_trace.specs.Traces.{Recording}
use Rattle.bus_bounds.specs.Bounds.{Bounds}
use Rattle.bus_findings.specs.declared.judgement.Due.{Due}
use Rattle.bus_findings.specs.Recorded.{recorded, monitor_of, timers_of}
use Rattle.bus_findings.specs.Dues.{due_of}
use Rattle.bus_findings.specs.Judging.{last_start}

-- When a sender was due for certain behind its last start, before the horizon.
unfoldable pub silence_of : Bounds → Table → Recording → Sender → Option Due
silence_of bounds table trace sender =
    option_map_or (λ o. due_of (timers_of bounds table sender) (monitor_of bounds table) (recorded bounds trace.list) o trace.horizon)
    (last_start (recorded bounds trace.list) sender.number trace.horizon) None
