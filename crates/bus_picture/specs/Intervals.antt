-- How long a transmit interval is drawn: from a start up to where it is over, or to the next start of its terminal, which begins a new one.
use Rattle.std.specs.Prelude.{ℕ, ◌+◌, ◌==◌, min, List, Option, Some, None, fold, if◌then◌else◌}
use Rattle.bus_strings.specs.Messages.{Entry}

-- The last start of a terminal, with one transmission more: its moment, where there is one.
abbrev pub next_start : ℕ → Option ℕ → Entry → Option ℕ
next_start terminal last x = if x.terminal == terminal then Some x.moment else last

-- The last start of a terminal in these transmissions.
abbrev pub last_start : ℕ → List Entry → Option ℕ
last_start terminal list = fold (next_start terminal) None list

-- Where the transmit interval from a start ends, given the next start: where it is over, or at that start, where this comes first.
abbrev pub interval_to : ℕ → ℕ → Option ℕ → ℕ
interval_to ti moment None = moment + ti
interval_to ti moment (Some next) = min (moment + ti) next
