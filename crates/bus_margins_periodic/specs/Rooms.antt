-- The room that a periodic bus leaves by each rule: by how much there is more than the rule needs. Terminals are told by their places in
-- turn order, turns by number: turn n is of the sender at place n modulo the number of senders.
--
--   hearing   each message is heard out by all before the next one
--   sync      whoever waits for its synchronization gap gets it in time
--   order     nobody is overtaken
--   begin     the first round is in order, and the second comes behind it.
use Rattle.std.specs.Prelude.{ℕ, suc, ◌+◌, ◌-◌, ◌*◌, ◌==◌, Bool, ◌||◌, nat_le, Option, Some, None, if◌then◌else◌}
use Rattle.bus_clocks.specs.Buses.{Bus, sum_below}
use Rattle.bus_drift.specs.Turns.{who, slowest, fastest}
use Rattle.bus_margins_periodic.specs.declared.room.Room.{Room}
use Rattle.bus_margins_periodic.specs.Least.{lesser, least_of}

-- The room at one sender, between two, and among three.
abbrev pub room_at : ℕ → ℕ → ℕ → Option Room
room_at a need have = Some (record { first = a; second = 0; third = 0; need = need; have = have })

abbrev pub room_between : ℕ → ℕ → ℕ → ℕ → Option Room
room_between a b need have = Some (record { first = a; second = b; third = 0; need = need; have = have })

abbrev pub room_among : ℕ → ℕ → ℕ → ℕ → ℕ → Option Room
room_among a b c need have = Some (record { first = a; second = b; third = c; need = need; have = have })

-- ---- hearing

-- Each short terminal gap is so long.
abbrev pub gap_room : Bus → ℕ → Option Room
gap_room bus need = least_of bus.senders (λ k. room_at k need (bus.tg_short k))

-- No quiet within a message is, nor the delay.
abbrev pub hearing_room : Bus → Option Room
hearing_room bus = lesser (gap_room bus bus.drop) (gap_room bus bus.delay)

-- ---- sync

abbrev pub sync_need : Bus → ℕ → ℕ
sync_need bus k = sum_below bus.longest bus.senders + bus.senders * bus.sg_long k + bus.tg_long k + (bus.senders - 1) * bus.delay

abbrev pub sync_at : Bus → ℕ → Option Room
sync_at bus k = room_at k (sync_need bus k) (bus.ti_long k + (bus.senders - 1))

abbrev pub sync_room : Bus → Option Room
sync_room bus = least_of bus.senders (sync_at bus)

-- ---- order

-- Turn j doesn't come before turn k by their terminal gaps alone.
abbrev pub is_close : Bus → ℕ → ℕ → Bool
is_close bus j k = nat_le (bus.tg_short (who bus k)) (bus.tg_long (who bus j) + 2 * bus.delay)

-- Turn i is late, those behind it are held back up to turn j, and turn k is due. There is no rule for them where turn j comes before turn k
-- by the gaps alone.
abbrev pub order_among : Bus → ℕ → ℕ → ℕ → Option Room
order_among bus i j k =
    if (i == j) || is_close bus j k then
    room_among (who bus i) (who bus j) (who bus k) (bus.ti_long (who bus i) + slowest bus i j + bus.delay + 1)
    (bus.ti_short (who bus k) + fastest bus i k)
    else None

-- Turn i is late, and turn j held back: of each turn behind that, before turn `last`.
abbrev pub passed_room : Bus → ℕ → ℕ → ℕ → Option Room
passed_room bus last i j = least_of (last - suc j) (λ b. order_among bus i j (j + suc b))

-- Turn i is late: of each turn that it may hold back, and those behind.
abbrev pub held_room : Bus → ℕ → ℕ → Option Room
held_room bus last i = least_of (last - i) (λ a. passed_room bus last i (i + a))

-- Of all turns less than a round apart.
abbrev pub order_room : Bus → Option Room
order_room bus = least_of bus.senders (λ i. held_room bus (i + bus.senders) i)

-- Of all turns of one round.
abbrev pub lead_order_room : Bus → Option Room
lead_order_room bus = least_of bus.senders (λ i. held_room bus bus.senders i)

-- ---- begin, where sender k is due for the first time from `soon k` to `late k` behind the first power-up

-- Behind the first turn of sender k the next one's terminal gap has elapsed by then.
abbrev pub gap_end : Bus → (ℕ → ℕ) → ℕ → ℕ → ℕ
gap_end bus late k next = late k + bus.longest k + bus.delay + bus.tg_long next

-- Sender k is in sync when the first is due.
abbrev pub synced_room : Bus → (ℕ → ℕ) → ℕ → Option Room
synced_room bus soon k = room_between k 0 (bus.sg_long k + bus.delay) (soon 0)

abbrev pub all_synced : Bus → (ℕ → ℕ) → Option Room
all_synced bus soon = least_of (bus.senders - 1) (λ b. synced_room bus soon (suc b))

-- The next one is due behind sender k.
abbrev pub apart_room : Bus → (ℕ → ℕ) → (ℕ → ℕ) → ℕ → Option Room
apart_room bus soon late k = room_between k (suc k) (gap_end bus late k (suc k)) (soon (suc k))

abbrev pub all_apart : Bus → (ℕ → ℕ) → (ℕ → ℕ) → Option Room
all_apart bus soon late = least_of (bus.senders - 1) (apart_room bus soon late)

-- The first round.
abbrev pub first_room : Bus → (ℕ → ℕ) → (ℕ → ℕ) → Option Room
first_room bus soon late = lesser (all_synced bus soon) (all_apart bus soon late)

-- The first sender's second turn comes behind the last one's first.
abbrev pub round_room : Bus → (ℕ → ℕ) → (ℕ → ℕ) → Option Room
round_room bus soon late = room_between (bus.senders - 1) 0 (gap_end bus late (bus.senders - 1) 0) (soon 0 + bus.ti_short 0)

-- Nor does sender k's come before that has been heard.
abbrev pub again_room : Bus → (ℕ → ℕ) → (ℕ → ℕ) → ℕ → Option Room
again_room bus soon late k =
    room_between (bus.senders - 1) k (late (bus.senders - 1) + bus.delay + 1) (soon k + bus.ti_short k)

abbrev pub all_again : Bus → (ℕ → ℕ) → (ℕ → ℕ) → Option Room
all_again bus soon late = least_of bus.senders (again_room bus soon late)

-- The second round.
abbrev pub second_room : Bus → (ℕ → ℕ) → (ℕ → ℕ) → Option Room
second_room bus soon late = lesser (round_room bus soon late) (all_again bus soon late)

abbrev pub begin_room : Bus → (ℕ → ℕ) → (ℕ → ℕ) → Option Room
begin_room bus soon late = lesser (first_room bus soon late) (second_room bus soon late)

-- ---- where one clock leads

-- The first sender's short interval is as long as any other's long one.
abbrev pub clock_room : Bus → Option Room
clock_room bus = least_of (bus.senders - 1) (λ b. room_between (suc b) 0 (bus.ti_long (suc b)) (bus.ti_short 0))

-- Behind each round, which ends so long behind its beginning, there is a quiet that synchronizes all others before the first begins.
abbrev pub others_room : Bus → ℕ → Option Room
others_room bus ends = least_of (bus.senders - 1) (λ b. room_between (suc b) 0 (ends + bus.delay + bus.sg_long (suc b)) (bus.ti_short 0))

-- And the first before it is due.
abbrev pub pause_room : Bus → ℕ → Option Room
pause_room bus ends = lesser (room_at 0 (ends + bus.delay + bus.sg_long 0 + bus.tg_long 0) (bus.ti_long 0)) (others_room bus ends)
