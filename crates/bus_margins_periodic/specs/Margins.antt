-- The margins of a periodic table.
use Rattle.std.specs.Prelude.{ℕ, ◌+◌, ◌-◌, Bool, ◌&&◌, if◌then◌else◌}
use Rattle.bus_bounds.specs.Bounds.{Bounds}
use Rattle.bus_table.specs.Tables.{Table}
use Rattle.bus_clocks.specs.Buses.{Bus}
use Rattle.bus_drift.specs.Leading.{least_offset, round_end}
use Rattle.bus_drift.specs.Pace.{greatest_below, longest_round}
use Rattle.bus_drift.specs.Turns.{fastest}
use Rattle.bus_margins_periodic.specs.declared.level.Level.{Level}
use Rattle.bus_margins_periodic.specs.declared.level.Level.TheVariants.{Turns, Leads, Neither}
use Rattle.bus_margins_periodic.specs.declared.level.Margins.{Margins}
use Rattle.bus_margins_periodic.specs.declared.room.Rooms.{Rooms}
use Rattle.bus_margins.specs.Buses.{bus_of}
use Rattle.bus_margins_periodic.specs.Buses.{soon_of, late_of}
use Rattle.bus_margins_periodic.specs.Least.{holds}
use Rattle.bus_margins_periodic.specs.Rooms.{hearing_room, sync_room, order_room, begin_room, first_room, clock_room, lead_order_room}
use Rattle.bus_margins_periodic.specs.Rooms.{pause_room}

-- The least room by each rule.
abbrev pub rooms_by : Bus → (ℕ → ℕ) → (ℕ → ℕ) → Rooms
rooms_by bus soon late = record {
  hearing = hearing_room bus;
  sync = sync_room bus;
  order = order_room bus;
  begin = begin_room bus soon late;
}

-- All rules hold by which any clock may be the slowest.
abbrev pub all_hold : Rooms → Bool
all_hold rooms = holds rooms.hearing && (holds rooms.sync && (holds rooms.order && holds rooms.begin))

-- All rules hold by which the first sender leads.
abbrev pub lead_holds : Bus → (ℕ → ℕ) → (ℕ → ℕ) → Bool
lead_holds bus soon late =
    holds (hearing_room bus)
    && (holds (clock_room bus)
    && (holds (lead_order_room bus)
    && (holds (pause_room bus (round_end bus (least_offset bus soon late))) && holds (first_room bus soon late))))

abbrev pub level_by : Bus → (ℕ → ℕ) → (ℕ → ℕ) → Level
level_by bus soon late =
    if all_hold (rooms_by bus soon late) then Turns else (if lead_holds bus soon late then Leads else Neither)

-- By so much may a sender's place in a round vary, where one clock leads.
abbrev pub sway : Bus → (ℕ → ℕ) → (ℕ → ℕ) → ℕ
sway bus soon late = greatest_below (λ k. least_offset bus soon late k - fastest bus 0 k) bus.senders

-- How far apart successive starts of a sender are at least, and at most: where any clock may be the slowest, by intervals and rounds; where
-- one leads, by its intervals, give or take what the others vary.
abbrev pub least_apart : Bus → (ℕ → ℕ) → (ℕ → ℕ) → Level → ℕ
least_apart bus soon late Turns = bus.ti_short 0
least_apart bus soon late Leads = bus.ti_short 0 - sway bus soon late
least_apart bus soon late Neither = 0

abbrev pub most_apart : Bus → (ℕ → ℕ) → (ℕ → ℕ) → Level → ℕ
most_apart bus soon late Turns = longest_round bus
most_apart bus soon late Leads = bus.ti_long 0 + sway bus soon late
most_apart bus soon late Neither = 0

abbrev pub margins_by : Bus → (ℕ → ℕ) → (ℕ → ℕ) → Margins
margins_by bus soon late = record {
  level = level_by bus soon late;
  least = least_apart bus soon late (level_by bus soon late);
  most = most_apart bus soon late (level_by bus soon late);
  rooms = rooms_by bus soon late;
}

abbrev pub level_of : Bounds → Table → Level
level_of bounds table = level_by (bus_of bounds table) (soon_of bounds table) (late_of bounds table)

abbrev pub margins_of : Bounds → Table → Margins
margins_of bounds table = margins_by (bus_of bounds table) (soon_of bounds table) (late_of bounds table)
