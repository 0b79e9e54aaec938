-- What is claimed of `observe`.
use Rattle.std.specs.Prelude.{◌≡◌, ℕ, List}
use Rattle.bus_strings.specs.Messages.{Entry}
use Rattle.bus_table.specs.Tables.{Table, Hand}
use Rattle.bus_medium.specs.Lawful.{IsLawful}
use Rattle.bus_medium.specs.Timings.{quiet_of, stations_of}
use Rattle.bus_trace.specs.Traces.{Recording}
use Rattle.bus_tool.specs.Replies.{Reply, TheTrace}
use Rattle.bus_tool.specs.Texts.{IsObserved}

-- A trace up to the horizon, whose list is the lawful list; and there is no other.
pub record IsTheTrace (table : Table) (hands : List Hand) (horizon : ℕ) (reply : Reply) : Type 0 where
  pub trace : Recording
  pub observed : IsObserved table hands horizon trace
  pub only : (other : List Entry) → IsLawful (quiet_of table) (stations_of table hands) horizon other → other ≡ trace.list
  pub reply_is : reply ≡ TheTrace trace
