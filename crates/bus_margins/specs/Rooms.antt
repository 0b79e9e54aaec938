-- The room that an aperiodic table leaves by each rule: by how much there is more than the rule needs.
--
--   whole     within a message no synchronization gap elapses
--   drop      nor, inside a round, the terminal gap of any but the first sender
--   turns     inside a round, who is next is heard by those behind it before their terminal gap elapses
--   opening   at the beginning of a round, whoever is the first in it is heard by all others before they would start
--   waiting   nobody's synchronization gap elapses before another who is in sync has started, and is heard
--   joining   at the beginning of a round that of the others does before the first starts; one alone waits at least as long as another
--             terminal hears it later
--   interval  no transmit interval outlasts what a sender waits and sends at least from one start to the next
--   cycle     nor the shortest round, up to the latest start that the gaps allow.
use Rattle.std.specs.Prelude.{ℕ, ◌+◌, ◌*◌, Bool, ◌&&◌, ◌==◌, nat_lt, List, [], ◌∷◌, ◌++◌, map, length, Option, Some, None, if◌then◌else◌}
use Rattle.std.specs.List.{list_all, sum_by}
use Rattle.bus_table.specs.Tables.{Sender, Table}
use Rattle.bus_table.specs.Turns.{turn_order}
use Rattle.bus_table.specs.Lengths.{shortest, longest}
use Rattle.bus_bounds.specs.Bounds.{Bounds}
use Rattle.bus_margins.specs.declared.level.Level.{Level}
use Rattle.bus_margins.specs.declared.level.Level.TheVariants.{Any, Common, Neither}
use Rattle.bus_margins.specs.declared.room.Room.{Room}
use Rattle.bus_margins.specs.declared.room.Rooms.{Rooms}
use Rattle.bus_margins.specs.Times.{least_time, most_time, drop_of}
use Rattle.bus_margins.specs.Least.{lesser, least, holds}

-- The room of one sender, and of two.
abbrev pub room_at : Sender → ℕ → ℕ → Room
room_at a need have = record { terminal = a.number; other = None; need = need; have = have }

abbrev pub room_between : Sender → Sender → ℕ → ℕ → Room
room_between a b need have = record { terminal = a.number; other = Some b.number; need = need; have = have }

abbrev pub whole_room : Bounds → Table → Sender → Room
whole_room bounds table a = room_at a (drop_of bounds) (least_time bounds table.sg)

abbrev pub drop_room : Bounds → Sender → Room
drop_room bounds a = room_at a (drop_of bounds) (least_time bounds a.tg)

abbrev pub turns_room : Bounds → Sender → Sender → Room
turns_room bounds a b = room_between a b (most_time bounds a.tg + 2 * bounds.delay + 1) (least_time bounds b.tg)

abbrev pub opening_room : Bounds → Table → Sender → Sender → Room
opening_room bounds table a b =
    room_between a b (most_time bounds table.sg + most_time bounds a.tg + 2 * bounds.delay + 1)
    (least_time bounds table.sg + least_time bounds b.tg)

abbrev pub waiting_room : Bounds → Table → Sender → Sender → Room
waiting_room bounds table a b = room_between a b (most_time bounds a.tg + 2 * bounds.delay + 1) (least_time bounds table.sg)

abbrev pub joining_room : Bounds → Table → Sender → Sender → Room
joining_room bounds table a b =
    room_between a b (most_time bounds table.sg + bounds.delay) (least_time bounds table.sg + least_time bounds a.tg)

abbrev pub alone_room : Bounds → Table → Sender → Room
alone_room bounds table a = room_at a bounds.delay (least_time bounds table.sg + least_time bounds a.tg)

abbrev pub interval_room : Bounds → Table → Sender → Room
interval_room bounds table a =
    room_at a (most_time bounds table.ti) (least_time bounds (shortest a) + least_time bounds table.sg + most_time bounds a.tg)

-- How long the senders take at least, each once.
abbrev pub spoken_by : Bounds → Sender → ℕ
spoken_by bounds a = least_time bounds a.tg + least_time bounds (shortest a)

abbrev pub least_spoken : Bounds → List Sender → ℕ
least_spoken bounds senders = sum_by (spoken_by bounds) senders

abbrev pub cycle_room : Bounds → Table → Sender → Room
cycle_room bounds table a =
    room_at a (most_time bounds table.ti + least_time bounds a.tg)
    (least_time bounds table.sg + least_spoken bounds table.senders + most_time bounds a.tg)

abbrev pub first_cycle_room : Bounds → Table → Sender → Room
first_cycle_room bounds table first =
    room_at first (most_time bounds table.ti + least_time bounds first.tg)
    (most_time bounds table.sg + least_spoken bounds table.senders + most_time bounds first.tg)

-- Of each of these and each one behind it.
abbrev pub pairs : (Sender → Sender → Room) → List Sender → List Room
pairs room [] = []
pairs room (a ∷ senders) = map (room a) senders ++ pairs room senders

-- Of each of these and each other one, where some stand before them.
abbrev pub with_others : (Sender → Sender → Room) → List Sender → List Sender → List Room
with_others room before [] = []
with_others room before (a ∷ senders) = map (room a) (before ++ senders) ++ with_others room (before ++ a ∷ []) senders

abbrev pub joining_least : Bounds → Table → List Sender → Option Room
joining_least bounds table [] = None
joining_least bounds table (a ∷ []) = Some (alone_room bounds table a)
joining_least bounds table (a ∷ b ∷ senders) = least (pairs (joining_room bounds table) (a ∷ b ∷ senders))

abbrev pub cycle_least : Bounds → Table → List Sender → Option Room
cycle_least bounds table [] = None
cycle_least bounds table (first ∷ others) =
    lesser (Some (first_cycle_room bounds table first)) (least (map (cycle_room bounds table) others))

-- Those behind the first of these.
abbrev pub behind : List Sender → List Sender
behind [] = []
behind (a ∷ senders) = senders

-- The least room by each rule, where the senders stand in this order.
abbrev pub rooms_in : Bounds → Table → List Sender → Rooms
rooms_in bounds table order = record {
  whole = least (map (whole_room bounds table) order);
  drop = least (map (drop_room bounds) (behind order));
  turns = least (pairs (turns_room bounds) (behind order));
  opening = least (pairs (opening_room bounds table) order);
  waiting = least (with_others (waiting_room bounds table) [] order);
  joining = joining_least bounds table order;
  interval = least (map (interval_room bounds table) order);
  cycle = cycle_least bounds table order;
}

abbrev pub rooms_of : Bounds → Table → Rooms
rooms_of bounds table = rooms_in bounds table (turn_order table)

-- No message may be over as soon as it begins.
abbrev pub lasts : Bounds → Table → Bool
lasts bounds table = list_all (λ a. nat_lt 0 (least_time bounds (shortest a))) table.senders

-- The rules that both levels ask for.
abbrev pub order_holds : Rooms → Bool
order_holds rooms =
    holds rooms.whole && (holds rooms.drop && (holds rooms.turns && (holds rooms.opening && (holds rooms.waiting && holds rooms.joining))))

-- With the rule of intervals order comes from any start, with that of cycles alone it is kept from a common one.
abbrev pub level_by : Bool → Rooms → Level
level_by lasting rooms =
    if lasting && order_holds rooms then (if holds rooms.interval then Any else (if holds rooms.cycle then Common else Neither))
    else Neither

abbrev pub level_of : Bounds → Table → Level
level_of bounds table = level_by (lasts bounds table) (rooms_of bounds table)

-- By how much a terminal that sends hears another later: a sender that is alone hears itself at once.
abbrev pub delay_among : Bounds → ℕ → ℕ
delay_among bounds senders = if senders == 1 then 0 else bounds.delay

-- How long the senders take at most, each once, with the delay.
abbrev pub longest_by : Bounds → ℕ → Sender → ℕ
longest_by bounds delay a = delay + most_time bounds a.tg + most_time bounds (longest a)

abbrev pub longest_spoken : Bounds → ℕ → List Sender → ℕ
longest_spoken bounds delay senders = sum_by (longest_by bounds delay) senders

abbrev pub most_spoken : Bounds → List Sender → ℕ
most_spoken bounds senders = longest_spoken bounds (delay_among bounds (length senders)) senders

-- How far apart successive starts of a sender are at least, and at most.
abbrev pub least_apart : Bounds → Table → ℕ
least_apart bounds table = least_time bounds table.sg + least_spoken bounds table.senders

abbrev pub most_apart : Bounds → Table → ℕ
most_apart bounds table = most_time bounds table.sg + most_spoken bounds table.senders
