-- What parts keep where a transmission is taken, a moment is told, or a block turns.
use Rattle.std.specs.Prelude.{◌⊎◌, ◌==◌}
use Rattle.std.proofs.Common.{◌≡◌, ℕ, ◌+◌, ◌-◌, ◌*◌, ◌^◌, ◌<◌, ◌≤◌, Bool, true, false, cond, List, [], arith, refl, ap, sym, inl, inr}
use Rattle.bus_strings.specs.Members.{In}
use Rattle.bus_strings.specs.Messages.{Entry, Message}
use Rattle.bus_strings.proofs.MemberLaws.{in_push_cases}
use Rattle.bus_strings.specs.Transmissions.{Precedes}
use Rattle.bus_table.specs.Tables.{Table}
use Rattle.bus_bounds.specs.Bounds.{Bounds}
use Rattle.bus_findings.specs.Terminals.{is_faulty}
use Rattle.bus_stream.specs.declared.place.Place.{Place}
use Rattle.bus_stream.specs.Places.{bit_of, is_behind}
use Rattle.bus_stream.specs.Places as places
use Rattle.bus_watch.specs.declared.part.Part.{Part}
use Rattle.bus_watch.specs.declared.window.Window.{Window}
use Rattle.bus_watch.specs.Parts.{begun, counted, found_of, is_over, judged, looked, made_room, most_span, opened, recorded, silent_at, taken, told_to, turned}
use Rattle.bus_watch.specs.Looks.{CanLook}
use Rattle.bus_watch.specs.Standing.{CanTake, HasRoom, IsPart, IsTold, IsWindow}

-- ---- windows

-- what was told before a transmission precedes it
pub told_precedes : (base : ℕ) (place : Place) (z : Entry) (bit terminal : ℕ) (message : Message) → IsTold base place z
    → is_behind place bit terminal ≡ true → Precedes z (counted base bit terminal message)
told_precedes base place z bit terminal message told behind = grind (arith, told, behind)

pub room_behind : (table : Table) (place : Place) (window : Window) (bit terminal : ℕ) → IsWindow table place window
    → is_behind place bit terminal ≡ true → place.bit ≤ bit → HasRoom table window bit terminal
room_behind table place window bit terminal is behind later = record {
  of_table = is.of_table;
  begun = omega (arith, is.begun, later);
  precede = λ message z here. told_precedes window.base place z bit terminal message (is.told z here) behind;
}

pub room_opened : (bounds : Bounds) (table : Table) (bit terminal : ℕ) → HasRoom table (opened bounds table bit) bit terminal
room_opened bounds table bit terminal = record {
  of_table = refl;
  begun = omega arith;
  precede = λ message z here. absurd here;
}

-- where one was taken all is told up to it
precedes_told : (base : ℕ) (z : Entry) (bit terminal : ℕ) (message : Message) → base ≤ bit → Precedes z (counted base bit terminal message)
    → IsTold base (record { bit = bit; terminal = terminal }) z
precedes_told base z bit terminal message low (inl h) = inl (omega (arith, h, low))
precedes_told base z bit terminal message low (inr h) = inr (omega (arith, h.0, low), omega (arith, h.1))

last_told : (base : ℕ) (z : Entry) (bit terminal : ℕ) (message : Message) → base ≤ bit → z ≡ counted base bit terminal message
    → IsTold base (record { bit = bit; terminal = terminal }) z
last_told base z bit terminal message low is =
    inr (omega (arith, ap (λ (x : Entry). x.moment) is, low), omega (arith, ap (λ (x : Entry). x.terminal) is))

recorded_told : (table : Table) (window : Window) (bit terminal : ℕ) (message : Message) (z : Entry) → HasRoom table window bit terminal
    → In z window.live.list ⊎ (z ≡ counted window.base bit terminal message)
    → IsTold window.base (record { bit = bit; terminal = terminal }) z
recorded_told table window bit terminal message z room (inl here) =
    precedes_told window.base z bit terminal message room.begun (room.precede message z here)
recorded_told table window bit terminal message z room (inr is) = last_told window.base z bit terminal message room.begun is

pub window_recorded : (table : Table) (window : Window) (bit terminal : ℕ) (message : Message) → HasRoom table window bit terminal
    → IsWindow table (record { bit = bit; terminal = terminal }) (recorded window bit terminal message)
window_recorded table window bit terminal message room = record {
  of_table = room.of_table;
  begun = room.begun;
  told = λ z here. recorded_told table window bit terminal message z room
      (in_push_cases window.live.list (counted window.base bit terminal message) z here);
}

-- all that is recorded began by a bit time
told_by : (base : ℕ) (place : Place) (z : Entry) (bit : ℕ) → base ≤ bit → place.bit ≤ bit → IsTold base place z → z.moment ≤ bit - base
told_by base place z bit low later (inl h) = omega (arith, h, low, later)
told_by base place z bit low later (inr h) = omega (arith, h.0, low, later)

precedes_by : (base : ℕ) (z : Entry) (bit terminal : ℕ) (message : Message) → Precedes z (counted base bit terminal message)
    → z.moment ≤ bit - base
precedes_by base z bit terminal message (inl h) = omega (arith, h)
precedes_by base z bit terminal message (inr h) = omega (arith, h.0)

-- a moment more is told
same_bit : (a b : ℕ) → (a == b) ≡ true → a ≡ b
same_bit a b h = grind (arith, h)

other_bit : (a b : ℕ) → (a == b) ≡ false → a ≤ b → a < b
other_bit a b h later = grind (arith, h, later)

told_from : (same : Bool) (base : ℕ) (place : Place) (z : Entry) (bit : ℕ) → (place.bit == bit) ≡ same → place.bit ≤ bit
    → IsTold base place z → IsTold base (cond same place (record { bit = bit; terminal = 0 })) z
told_from true base place z bit is later told = told
told_from false base place z bit is later (inl h) = inl (omega (arith, h, other_bit place.bit bit is later))
told_from false base place z bit is later (inr h) = inl (omega (arith, h.0, other_bit place.bit bit is later))

told_later : (base : ℕ) (place : Place) (z : Entry) (bit : ℕ) → place.bit ≤ bit → IsTold base place z
    → IsTold base (places.told_to place bit) z
told_later base place z bit later told = told_from (place.bit == bit) base place z bit refl later told

reached_from : (same : Bool) (place : Place) (bit : ℕ) → (place.bit == bit) ≡ same
    → (cond same place (record { bit = bit; terminal = 0 })).bit ≡ bit
reached_from true place bit is = same_bit place.bit bit is
reached_from false place bit is = refl

reached : (place : Place) (bit : ℕ) → (places.told_to place bit).bit ≡ bit
reached place bit = reached_from (place.bit == bit) place bit refl

-- ---- parts

pub can_take : (table : Table) (place : Place) (part : Part) (bit terminal : ℕ) → IsPart table place part
    → is_behind place bit terminal ≡ true → place.bit ≤ bit → bit - part.older.base ≤ most_span → 500 * bit < 2 ^ 64
    → part.sent < 2 ^ 64 - 1 → CanTake table part bit terminal
can_take table place part bit terminal is behind later short low more = record {
  of_older = room_behind table place part.older bit terminal is.of_older behind later;
  of_newer = room_behind table place part.newer bit terminal is.of_newer behind later;
  later = is.later;
  near = omega (arith, short, is.of_older.begun, later);
  low = low;
  small = is.small;
  few = is.few;
  more = more;
}

pub can_begin : (bounds : Bounds) (table : Table) (time terminal : ℕ) → 500 * bit_of time < 2 ^ 64
    → CanTake table (begun bounds table time) (bit_of time) terminal
can_begin bounds table time terminal low = record {
  of_older = room_opened bounds table (bit_of time) terminal;
  of_newer = room_opened bounds table (bit_of time) terminal;
  later = omega arith;
  near = omega arith;
  low = low;
  small = omega arith;
  few = omega arith;
  more = omega arith;
}

-- who is silent may be looked at before it
pub look_before : (table : Table) (part : Part) (bit terminal : ℕ) → CanTake table part bit terminal → CanLook table part bit
look_before table part bit terminal can = record {
  of_table = can.of_older.of_table;
  begun = can.of_older.begun;
  all = λ z here. precedes_by part.older.base z bit terminal [] (can.of_older.precede [] z here);
  low = can.low;
}

-- and up to where all is told
pub look_at : (table : Table) (place : Place) (part : Part) (bit : ℕ) → IsPart table place part → place.bit ≤ bit → 500 * bit < 2 ^ 64
    → CanLook table part bit
look_at table place part bit is later low = record {
  of_table = is.of_older.of_table;
  begun = omega (arith, is.of_older.begun, later);
  all = λ z here. told_by part.older.base place z bit (omega (arith, is.of_older.begun, later)) later (is.of_older.told z here);
  low = low;
}

-- a block turns
turned_can : (bounds : Bounds) (table : Table) (part : Part) (bit terminal : ℕ) (silent : List Bool) → CanTake table part bit terminal
    → CanTake table (turned bounds table (record part { silent = silent }) bit) bit terminal
turned_can bounds table part bit terminal silent can = record {
  of_older = can.of_newer;
  of_newer = room_opened bounds table bit terminal;
  later = can.of_newer.begun;
  near = omega (arith, can.near, can.later);
  low = can.low;
  small = omega arith;
  few = can.few;
  more = can.more;
}

room_can : (over : Bool) (table : Table) (turned part : Part) (bit terminal : ℕ) → CanTake table turned bit terminal
    → CanTake table part bit terminal → CanTake table (cond over turned part) bit terminal
room_can true table turned part bit terminal a b = a
room_can false table turned part bit terminal a b = b

pub made_room_can : (bounds : Bounds) (table : Table) (part : Part) (bit terminal : ℕ) → CanTake table part bit terminal
    → CanTake table (made_room bounds table part bit) bit terminal
made_room_can bounds table part bit terminal can =
    room_can (is_over part bit) table _ part bit terminal (turned_can bounds table part bit terminal (silent_at table part bit) can) can

-- a transmission was taken
taken_part : (table : Table) (part : Part) (time terminal : ℕ) (message : Message) → CanTake table part (bit_of time) terminal
    → IsPart table (record { bit = bit_of time; terminal = terminal }) (taken part time terminal message)
taken_part table part time terminal message can = record {
  of_older = window_recorded table part.older (bit_of time) terminal message can.of_older;
  of_newer = window_recorded table part.newer (bit_of time) terminal message can.of_newer;
  later = can.later;
  told_to = refl;
  small = omega (arith, can.small);
  few = omega (arith, can.few);
}

found_part : (faulty : Bool) (table : Table) (place : Place) (part : Part) → IsPart table place part → part.faults + 1 ≤ part.sent
    → IsPart table place (cond faulty (record part { faults = part.faults + 1 }) part)
found_part true table place part is few = record {
  of_older = is.of_older;
  of_newer = is.of_newer;
  later = is.later;
  told_to = is.told_to;
  small = is.small;
  few = few;
}
found_part false table place part is few = is

judged_from : (faulty : Bool) (table : Table) (room : Part) (time terminal : ℕ) (message : Message) → CanTake table room (bit_of time) terminal
    → IsPart table (record { bit = bit_of time; terminal = terminal })
    (cond faulty (record (taken room time terminal message) { faults = (taken room time terminal message).faults + 1 }) (taken room time terminal message))
judged_from faulty table room time terminal message can =
    found_part faulty table (record { bit = bit_of time; terminal = terminal }) (taken room time terminal message)
    (taken_part table room time terminal message can) (omega (arith, can.few))

pub judged_part : (bounds : Bounds) (table : Table) (part : Part) (time terminal : ℕ) (message : Message)
    → CanTake table part (bit_of time) terminal
    → IsPart table (record { bit = bit_of time; terminal = terminal }) (judged bounds table part time terminal message)
unfolding judged
judged_part bounds table part time terminal message can =
    (judged_from (is_faulty (found_of bounds table part time terminal message)) table (made_room bounds table part (bit_of time)) time terminal message
    (made_room_can bounds table part (bit_of time) terminal can))

sent_from : (faulty over : Bool) (turned part : Part) (time terminal : ℕ) (message : Message) → turned.sent ≡ part.sent
    → (cond faulty (record (taken (cond over turned part) time terminal message) { faults = (taken (cond over turned part) time terminal message).faults + 1 })
    (taken (cond over turned part) time terminal message)).sent
    ≡ part.sent + 1
sent_from true true turned part time terminal message h = omega (arith, h)
sent_from true false turned part time terminal message h = refl
sent_from false true turned part time terminal message h = omega (arith, h)
sent_from false false turned part time terminal message h = refl

pub judged_sent : (bounds : Bounds) (table : Table) (part : Part) (time terminal : ℕ) (message : Message)
    → (judged bounds table part time terminal message).sent ≡ part.sent + 1
unfolding judged
judged_sent bounds table part time terminal message =
    (sent_from (is_faulty (found_of bounds table part time terminal message)) (is_over part (bit_of time))
    (turned bounds table (looked table part (bit_of time)) (bit_of time)) part time terminal message refl)

-- a moment is told
told_window : (table : Table) (place : Place) (window : Window) (bit : ℕ) → IsWindow table place window → place.bit ≤ bit
    → IsWindow table (places.told_to place bit) window
told_window table place window bit is later = record {
  of_table = is.of_table;
  begun = omega (arith, is.begun, later, reached place bit);
  told = λ z here. told_later window.base place z bit later (is.told z here);
}

pub told_part : (table : Table) (place : Place) (part : Part) (time : ℕ) → IsPart table place part → place.bit ≤ bit_of time
    → IsPart table (places.told_to place (bit_of time)) (told_to table time part)
told_part table place part time is later = record {
  of_older = told_window table place part.older (bit_of time) is.of_older later;
  of_newer = told_window table place part.newer (bit_of time) is.of_newer later;
  later = is.later;
  told_to = sym (reached place (bit_of time));
  small = is.small;
  few = is.few;
}
