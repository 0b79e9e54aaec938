-- A trace and a table in the words of bus_recording: what a monitor recorded of a bus within bounds. Here the bounds are in bit times:
-- D, the greatest delay between the monitor and a terminal, and J and P, by how much lengths are off.
use Rattle.std.specs.Prelude.{ℕ, ◌+◌, ◌-◌, ◌*◌, max, List, map, fold}
use Rattle.bus_strings.specs.Limits.{inner_gap}
use Rattle.bus_strings.specs.Messages.{Entry, bits}
use Rattle.bus_table.specs.Lengths.{longest}
use Rattle.bus_table.specs.Tables.{Sender, Table}
use Rattle.bus_bounds.specs.Bounds.{Bounds, drift, short, long}
use Rattle.bus_recording.specs.Seen.{Seen, Monitor, Bounds as TimerBounds}

-- By how much the bit times of a message are off for the oscillator that counts them, at most.
abbrev pub bits_drift : Bounds → Entry → ℕ
bits_drift bounds x = drift bounds.clocks (bits x.message)

-- A transmission as it is recorded: it has ended when its bits have passed, as the slowest and the fastest oscillator count them.
abbrev pub seen : Bounds → Entry → Seen
seen bounds x = record {
  moment = x.moment;
  sender = x.terminal;
  soonest = x.moment + (bits x.message - bits_drift bounds x);
  latest = x.moment + (bits x.message + bits_drift bounds x);
}

-- All that is recorded.
abbrev pub recorded : Bounds → List Entry → List Seen
recorded bounds list = map (seen bounds) list

-- By how much later than it is recorded a terminal may hear another's transmission: the way from the monitor to it and back.
abbrev pub reach : Bounds → ℕ
reach bounds = 2 * bounds.delay

-- The bit times of the longest message of these senders.
abbrev pub longest_of : List Sender → ℕ
longest_of senders = fold (λ most sender. max most (longest sender)) 0 senders

-- From when on no terminal hears what began before the recording.
abbrev pub settled_of : Bounds → Table → ℕ
settled_of bounds table = longest_of table.senders + drift bounds.clocks (longest_of table.senders) + reach bounds - 1

-- What is known of where and when the monitor recorded. Inside a message no terminal hears five quiet bit times in a row.
abbrev pub monitor_of : Bounds → Table → Monitor
monitor_of bounds table = record {
  reach = reach bounds;
  rest = reach bounds;
  drop = inner_gap + 1;
  settled = settled_of bounds table;
}

-- How short and how long the timers of a sender may be.
abbrev pub timers_of : Bounds → Table → Sender → TimerBounds
timers_of bounds table sender = record {
  short = record { ti = short bounds table.ti; sg = short bounds table.sg; tg = short bounds sender.tg };
  long = record { ti = long bounds table.ti; sg = long bounds table.sg; tg = long bounds sender.tg };
}
