-- What is there at a bit time of a list on a table: what is seen of its transmissions, what the timers of its senders tell, and whether a
-- breach is there.
use Rattle.std.specs.Prelude.{ℕ, Bool, false, ◌==◌, List, [], map, Option}
use Rattle.std.specs.Option.{option_map_or}
use Rattle.bus_strings.specs.Messages.{Entry}
use Rattle.bus_table.specs.Tables.{Sender, Table}
use Rattle.bus_medium.specs.Past.{past, own, last_place}
use Rattle.bus_medium.specs.Timings.{quiet_of, timing_of}
use Rattle.bus_dump.specs.declared.dump.Dump.{Dump}
use Rattle.bus_dump.specs.declared.dump.Dump.TheVariants.{Vcd, Wires, Timers}
use Rattle.bus_dump.specs.Seen.{Seen, seen_at}
use Rattle.bus_dump.specs.Timers.{Elapsed, elapsed_of}

-- A scene: what is seen of the list at a bit time, what the timers of each sender tell there, and whether a breach is there.
pub record Scene : Type 0 where
  pub seen : List Seen
  pub timers : List Elapsed
  pub breach : Bool

-- The senders whose timers a dump has.
abbrev pub timed : Dump → Table → List Sender
timed Vcd table = []
timed Wires table = []
timed Timers table = table.senders

-- What the timers of a sender tell at bit time t, where it hears the bus of the list from the settled start on.
abbrev pub elapsed_at : Table → List Entry → ℕ → Sender → Elapsed
elapsed_at table list t sender =
    elapsed_of sender.number (timing_of table sender) (past (quiet_of table) list t)
    (last_place (quiet_of table) (own list sender.number t))

-- Whether a breach, of which this is the moment where there is one, is at bit time t.
abbrev pub is_breach : Option ℕ → ℕ → Bool
is_breach breach t = option_map_or (λ moment. moment == t) breach false

-- What is there at bit time t, where this is the moment of the breach, if there is one.
abbrev pub scene_at : Dump → Option ℕ → Table → List Entry → ℕ → Scene
scene_at dump breach table list t = record {
  seen = seen_at list t;
  timers = map (elapsed_at table list t) (timed dump table);
  breach = is_breach breach t;
}
