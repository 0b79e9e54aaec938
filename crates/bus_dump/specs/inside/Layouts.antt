-- The signals of a dump by lanes.
use Rattle.std.specs.Prelude.{◌≡◌, ℕ, ◌≤◌, ◌<◌, Bool, false, List, ◌++◌, slice_index_or, Option, if◌then◌else◌}
use Rattle.std.specs.List.{flat_map, list_any}
use Rattle.bus_strings.specs.Limits.{most_terminal}
use Rattle.bus_strings.specs.Messages.{Entry}
use Rattle.bus_table.specs.Tables.{Table}
use Rattle.bus_dump.specs.declared.dump.Dump.{Dump}
use Rattle.bus_dump.specs.declared.dump.Dump.TheVariants.{Timers, Vcd, Wires}
use Rattle.bus_dump.specs.declared.lane.Lane.{Lane}
use Rattle.bus_dump.specs.declared.layout.Layout.{Layout}
use Rattle.bus_dump.specs.Lanes.{sends}
use Rattle.bus_dump.specs.Scenes.{Scene, scene_at}
use Rattle.bus_dump.specs.Signals.{Signal, elapsed, is_of, lane_signals, signals}
use Rattle.bus_dump.specs.DumpTexts.{changes_to, declaration, first_values, value_line}
use Rattle.bus_dump.specs.inside.Walks.{change_put}

-- The signals of a layout, in order.
abbrev pub layout_signals : Layout → List Signal
layout_signals layout = signals layout.dump layout.lanes.items

-- What is put of a lane: its declarations.
abbrev pub lane_declarations : Dump → Lane → List ℕ
lane_declarations dump lane = flat_map declaration (lane_signals dump lane)

-- The lines of its values.
abbrev pub lane_lines : Dump → Scene → Lane → List ℕ
lane_lines dump scene lane = flat_map (value_line scene) (lane_signals dump lane)

-- The lines of its changes.
abbrev pub lane_put : Dump → Scene → Scene → Lane → List ℕ
lane_put dump before now lane = flat_map (change_put before now) (lane_signals dump lane)

-- The values at a bit time, and what changes behind it to below an end, where a layout is that of a list on a table.
abbrev pub bit_times_put : Option ℕ → Table → List Entry → ℕ → ℕ → Layout → List ℕ
bit_times_put breach table list from end layout =
    first_values (layout_signals layout) (scene_at layout.dump breach table list from) from
    ++ changes_to (layout_signals layout) (scene_at layout.dump breach table list) from end

-- For each terminal is kept whether it sends in the list.
abbrev pub AreSending : List Entry → List Bool → Type 0
AreSending list sending = (n : ℕ) → n ≤ most_terminal → slice_index_or sending n false ≡ sends list n

-- Nothing is seen of a terminal in either scene, and its timers tell the same.
pub record IsStill (before now : Scene) (terminal : ℕ) : Type 0 where
  pub was : list_any (is_of terminal) before.seen ≡ false
  pub is : list_any (is_of terminal) now.seen ≡ false
  pub same : elapsed terminal before.timers ≡ elapsed terminal now.timers

-- The dump of which the signals of a lane are looked at, where the timers were asked or not: where they weren't, no signal of theirs
-- changes.
abbrev pub asked_dump : Dump → Bool → Dump
asked_dump Vcd told = Vcd
asked_dump Wires told = Wires
asked_dump Timers told = if told then Timers else Vcd

-- A terminal that isn't touched is still.
abbrev pub LeavesStill : Scene → Scene → List Bool → Type 0
LeavesStill before now touched = (n : ℕ) → n < 256 → slice_index_or touched n false ≡ false → IsStill before now n
