-- How the least rooms are found: the rules in groups, by what the code asks of a sender.
use Rattle.std.specs.Prelude.{ℕ, List, [], ◌∷◌, map, Option, None}
use Rattle.bus_table.specs.Tables.{Sender, Table}
use Rattle.bus_bounds.specs.Bounds.{Bounds}
use Rattle.bus_margins.specs.declared.room.Room.{Room}
use Rattle.bus_margins.specs.declared.rule.Rule.{Rule}
use Rattle.bus_margins.specs.declared.rule.Rule.TheVariants.{Whole, Drop, Waiting, Interval, Cycle}
use Rattle.bus_margins.specs.declared.rule.PairRule.{PairRule}
use Rattle.bus_margins.specs.declared.rule.PairRule.TheVariants.{Turns, Opening, Joining}
use Rattle.bus_margins.specs.Least.{least}
use Rattle.bus_margins.specs.Rooms.{whole_room, drop_room, turns_room, opening_room, waiting_room, joining_room, interval_room, cycle_room}
use Rattle.bus_margins.specs.Rooms.{behind}

-- The room that a rule leaves at a sender, by itself or with the first one.
abbrev pub room_by : Bounds → Table → Sender → Rule → Sender → Room
room_by bounds table first Whole a = whole_room bounds table a
room_by bounds table first Drop a = drop_room bounds a
room_by bounds table first Waiting a = waiting_room bounds table a first
room_by bounds table first Interval a = interval_room bounds table a
room_by bounds table first Cycle a = cycle_room bounds table a

-- The least room by a rule at those behind the first.
abbrev pub least_behind : Bounds → Table → Rule → List Sender → Option Room
least_behind bounds table rule [] = None
least_behind bounds table rule (first ∷ others) = least (map (room_by bounds table first rule) others)

-- The least room by a rule at all of these.
abbrev pub least_of : Bounds → Table → Rule → List Sender → Option Room
least_of bounds table rule [] = None
least_of bounds table rule (first ∷ others) = least (map (room_by bounds table first rule) (first ∷ others))

-- The room that a rule leaves between two senders.
abbrev pub pair_room : Bounds → Table → PairRule → Sender → Sender → Room
pair_room bounds table Turns a b = turns_room bounds a b
pair_room bounds table Opening a b = opening_room bounds table a b
pair_room bounds table Joining a b = joining_room bounds table a b

-- How many senders it doesn't speak of, from the first on.
abbrev pub left_out : PairRule → ℕ
left_out Turns = 1
left_out Opening = 0
left_out Joining = 0

-- Those that it speaks of.
abbrev pub spoken_of : PairRule → List Sender → List Sender
spoken_of Turns order = behind order
spoken_of Opening order = order
spoken_of Joining order = order

-- Of each of these and the next one.
abbrev pub neighbours : (Sender → Sender → Room) → List Sender → List Room
neighbours room [] = []
neighbours room (a ∷ []) = []
neighbours room (a ∷ b ∷ senders) = room a b ∷ neighbours room (b ∷ senders)
