-- One clock leads: where the first sender's transmit interval is the longest, it begins each round, and all others keep their offsets to it
-- for ever, however the lengths of messages vary.
use Rattle.std.specs.Prelude.{◌≡◌, ℕ, zero, suc, ◌+◌, ◌-◌, ◌*◌, ◌<◌, ◌≤◌, ◌⊎◌, length, max}
use Rattle.bus_clocks.specs.Buses.{Bus}
use Rattle.bus_clocks.specs.Courses.{Course, IsCourse}
use Rattle.bus_clocks.specs.Order.{AreEven}
use Rattle.bus_drift.specs.Beginning.{Begins}
use Rattle.bus_drift.specs.InTurn.{TakeTurns}
use Rattle.bus_drift.specs.Room.{HearsOut, BeginsApart}
use Rattle.bus_drift.specs.Turns.{who, slowest, fastest, turn}

-- Inside a round nobody is overtaken: as `NoneOvertaken`, but for turns of one round that the first sender begins.
abbrev pub NoneOvertakenInRound : Bus → Type 0
NoneOvertakenInRound bus =
    (i j k : ℕ) → i ≤ j → j < k → k < bus.senders → (i ≡ j) ⊎ (bus.tg_short k ≤ bus.tg_long j + 2 * bus.delay)
    → bus.ti_long i + slowest bus i j + bus.delay < bus.ti_short k + fastest bus i k

-- Sender k begins no later than offset k behind the first sender:
--   first   it is so in the first round
--   steps   and each offset has room for the one before it, whatever that sends.
pub record AreOffsets (bus : Bus) (soon late offset : ℕ → ℕ) : Type 0 where
  pub first : (k : ℕ) → 0 < k → k < bus.senders → late k ≤ soon 0 + offset k
  pub steps : (k : ℕ) → suc k < bus.senders → offset k + bus.longest k + bus.delay + bus.tg_long (suc k) ≤ offset (suc k)

-- The least offsets: each has room for all before it, and for the first round.
abbrev pub least_offset : Bus → (ℕ → ℕ) → (ℕ → ℕ) → ℕ → ℕ
least_offset bus soon late zero = 0
least_offset bus soon late (suc k) =
    max (late (suc k) - soon 0) (least_offset bus soon late k + bus.longest k + bus.delay + bus.tg_long (suc k))

-- They are offsets, and no others are less.
abbrev pub OffsetsAreLeast : Type 0
OffsetsAreLeast =
    (bus : Bus) (soon late : ℕ → ℕ)
    → AreOffsets bus soon late (least_offset bus soon late)
    × ((offset : ℕ → ℕ) (k : ℕ) → AreOffsets bus soon late offset → k < bus.senders → least_offset bus soon late k ≤ offset k)

-- So long behind the first sender's start a round has ended.
abbrev pub round_end : Bus → (ℕ → ℕ) → ℕ
round_end bus offset = offset (bus.senders - 1) + bus.longest (bus.senders - 1)

-- Behind a round there is quiet in time:
--   opening   one that synchronizes the first sender before it is due
--   room      and one that synchronizes all others before it begins.
pub record HasPause (bus : Bus) (offset : ℕ → ℕ) : Type 0 where
  pub opening : round_end bus offset + bus.delay + bus.sg_long 0 + bus.tg_long 0 ≤ bus.ti_long 0
  pub room : (k : ℕ) → 0 < k → k < bus.senders → round_end bus offset + bus.delay + bus.sg_long k ≤ bus.ti_short 0

-- The bounds leave room for the first sender to lead:
--   hearing   each message is heard out by all before the next one
--   clock     no other clock is as slow as the first sender's
--   offsets   all others have offsets to it
--   order     nobody is overtaken in a round
--   pause     behind each round there is quiet
--   begin     and the first round is in order.
pub record LeavesLead (bus : Bus) (soon late offset : ℕ → ℕ) : Type 0 where
  pub hearing : HearsOut bus
  pub clock : (k : ℕ) → 0 < k → k < bus.senders → bus.ti_long k ≤ bus.ti_short 0
  pub offsets : AreOffsets bus soon late offset
  pub order : NoneOvertakenInRound bus
  pub pause : HasPause bus offset
  pub begin : BeginsApart bus soon late

-- Turn n follows the first sender's turn of its round:
--   leads     the first sender itself waits for nothing but its own transmit interval
--   least     all others begin no earlier than all messages between take at least
--   most      and no later than their offset.
pub record FollowsLead (bus : Bus) (c : Course) (offset : ℕ → ℕ) (n : ℕ) : Type 0 where
  pub leads : who bus n ≡ 0 → bus.senders ≤ n → (turn c n).moment ≤ (turn c (n - bus.senders)).moment + bus.ti_long 0
  pub least : (turn c (n - who bus n)).moment + fastest bus 0 (who bus n) ≤ (turn c n).moment
  pub most : 0 < who bus n → (turn c n).moment ≤ (turn c (n - who bus n)).moment + offset (who bus n)

-- So many rounds behind turn n its sender begins when as many of the first sender's transmit intervals have passed, give or take no more
-- than its offset varies: which is so for ever, since it counts but once.
pub record KeepsOffset (bus : Bus) (c : Course) (offset : ℕ → ℕ) (n rounds : ℕ) : Type 0 where
  pub least : (turn c n).moment + rounds * bus.ti_short 0 + fastest bus 0 (who bus n)
      ≤ (turn c (n + rounds * bus.senders)).moment + offset (who bus n)
  pub most : (turn c (n + rounds * bus.senders)).moment + fastest bus 0 (who bus n)
      ≤ (turn c n).moment + rounds * bus.ti_long 0 + offset (who bus n)

-- All follow the first sender:
--   turns     they take turns for ever, where first dues are told as moments
--   follow    each in its round
--   offsets   and so it is over any number of rounds.
pub record FollowOne (bus : Bus) (c : Course) (soon late offset : ℕ → ℕ) : Type 0 where
  pub turns : TakeTurns bus c soon late
  pub follow : (n : ℕ) → n < length c.list → FollowsLead bus c offset n
  pub offsets : (n rounds : ℕ) → n + rounds * bus.senders < length c.list → KeepsOffset bus c offset n rounds

-- Where the bounds leave room for the first sender to lead, all follow it for ever.
abbrev pub OneLeads : Type 0
OneLeads =
    (bus : Bus) (c : Course) (start : ℕ) (soon late offset : ℕ → ℕ) → LeavesLead bus soon late offset → IsCourse bus c → AreEven bus c
    → Begins bus c start soon late → FollowOne bus c (λ k. start + soon k) (λ k. start + late k) offset
