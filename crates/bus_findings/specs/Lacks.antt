-- By how much a start is too early, in bit times: what lacks of the shortest timer, 0 where nothing does.
--   y        the start
--   o        the last start before it of the same terminal
--   timers   how short and how long the timers of the terminal may be
use Rattle.std.specs.Prelude.{ℕ, ◌+◌, ◌-◌, Bool, not, ◌&&◌, ◌||◌, ◌==◌, nat_lt, nat_le, max, List, filter, if◌then◌else◌}
use Rattle.std.specs.List.{list_any, range_with_len}
use Rattle.bus_recording.specs.Seen.{Seen, Monitor, Bounds}
use Rattle.bus_findings.specs.Amounts.{greatest, greatest_to}

-- What lacks of the transmit interval between the two starts.
abbrev pub interval_lack : Bounds → Seen → Seen → ℕ
interval_lack timers o y = o.moment + timers.short.ti - y.moment

-- Whether the terminal has heard transmission r begin for certain, when it starts: its own at once, another's within the reach.
abbrev pub has_heard_begin : Monitor → Seen → Seen → Bool
has_heard_begin monitor y r = nat_lt (r.moment + monitor.reach) y.moment || (r.sender == y.sender && nat_lt r.moment y.moment)

-- What lacks of the terminal gap behind the soonest end of what it has heard begin. A terminal gap that fits into a message tells nothing.
abbrev pub gap_lack : Bounds → Monitor → List Seen → Seen → ℕ
gap_lack timers monitor recording y =
    if nat_le monitor.drop timers.short.tg then
    greatest (λ r. r.soonest + timers.short.tg - y.moment) (filter (has_heard_begin monitor y) recording)
    else 0

-- Whether terminal k has heard another's transmission for certain from moment a to moment b: it had heard it begin before b, and can't have
-- heard it end at a or before.
abbrev pub is_met : Monitor → List Seen → ℕ → ℕ → ℕ → Bool
is_met monitor recording k a b =
    list_any (λ r. not (r.sender == k) && (nat_lt (r.moment + monitor.reach) b && nat_lt a r.soonest)) recording

-- Whether it may have heard quiet for so many bit times behind its own last message, with room for its terminal gap before the start: some
-- stretch of this length there in which nobody was heard for certain.
abbrev pub has_room : Bounds → Monitor → List Seen → Seen → Seen → ℕ → Bool
has_room timers monitor recording o y length =
    list_any (λ a. not (is_met monitor recording y.sender a (a + length)))
    (range_with_len o.soonest (y.moment + 1 - (o.soonest + length + timers.short.tg)))

-- What lacks of the synchronization gap in the longest such stretch. One that fits into a message counts as heard.
abbrev pub sync_lack : Bounds → Monitor → List Seen → Seen → Seen → ℕ
sync_lack timers monitor recording o y =
    timers.short.sg - max (greatest_to (has_room timers monitor recording o y) timers.short.sg) (monitor.drop - 1)
