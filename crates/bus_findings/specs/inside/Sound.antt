-- What holds of the transmissions of every trace.
use Rattle.std.specs.Prelude.{◌+◌, ◌≤◌, List}
use Rattle.bus_strings.specs.Members.{In}
use Rattle.bus_strings.specs.Messages.{Entry}
use Rattle.bus_bounds.specs.Bounds.{Bounds}
use Rattle.bus_findings.specs.Recorded.{seen}

-- Each lasts longer than a terminal may hear it later: a word has twenty bit times, of which an oscillator within bounds loses one at most.
abbrev pub AreLong : Bounds → List Entry → Type 0
AreLong bounds list = (x : Entry) → In x list → x.moment + 19 ≤ (seen bounds x).soonest
