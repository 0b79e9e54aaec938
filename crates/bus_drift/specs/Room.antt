-- Room for turns on a periodic bus: what its bounds, and those of its first dues, must leave.
use Rattle.std.specs.Prelude.{◌≡◌, ℕ, suc, ◌+◌, ◌-◌, ◌*◌, ◌<◌, ◌≤◌, ◌⊎◌}
use Rattle.bus_clocks.specs.Buses.{Bus, sum_below}
use Rattle.bus_drift.specs.Turns.{who, slowest, fastest}

-- What is asked of any bus whose senders take turns:
--   some      there are senders
--   lasting   each transmission lasts between two bounds
--   whole     nobody's terminal gap elapses within a transmission
--   heard     and each is as long as the delay, so that behind it all have heard the end.
pub record HearsOut (bus : Bus) : Type 0 where
  pub some : 0 < bus.senders
  pub lasting : (k : ℕ) → k < bus.senders → (0 < bus.longest k) × (bus.shortest k ≤ bus.longest k)
  pub whole : (k : ℕ) → k < bus.senders → bus.drop ≤ bus.tg_short k
  pub heard : (k : ℕ) → k < bus.senders → bus.delay ≤ bus.tg_short k

-- Whoever waits for its synchronization gap gets it in time:
--   gaps   each terminal gap is shorter than each synchronization gap
--   room   in the time of a transmit interval all send once, and still there is a quiet that synchronizes whoever waits for it.
pub record HasRoomForSync (bus : Bus) : Type 0 where
  pub gaps : (j k : ℕ) → j < bus.senders → k < bus.senders → bus.tg_long j < bus.sg_long k
  pub room : (k : ℕ) → k < bus.senders
      → sum_below bus.longest bus.senders + bus.senders * bus.sg_long k + bus.tg_long k + (bus.senders - 1) * bus.delay
      ≤ bus.ti_long k + (bus.senders - 1)

-- Nobody is overtaken. Let turn i be late, by its long interval, and hold back those behind it up to turn j, all messages between being
-- long. Then turn k, less than a round behind i, isn't due before it has heard turn j, though by its own short interval, counted from a
-- round in which all messages were short. That goes without saying where turn j comes before k by their terminal gaps alone.
abbrev pub NoneOvertaken : Bus → Type 0
NoneOvertaken bus =
    (i j k : ℕ) → i < bus.senders → i ≤ j → j < k → k < i + bus.senders
    → (i ≡ j) ⊎ (bus.tg_short (who bus k) ≤ bus.tg_long (who bus j) + 2 * bus.delay)
    → bus.ti_long (who bus i) + slowest bus i j + bus.delay < bus.ti_short (who bus k) + fastest bus i k

-- The first round is in order, where sender k is due for the first time no earlier than `soon k` and no later than `late k` behind the
-- first power-up:
--   opens    the first sender is in sync, and its terminal gap has elapsed, when it is due at the latest
--   synced   all others are in sync when it is due at the earliest
--   apart    and each is due behind the one before it, whatever that takes.
pub record BeginsApart (bus : Bus) (soon late : ℕ → ℕ) : Type 0 where
  pub opens : bus.sg_long 0 + bus.tg_long 0 + bus.delay ≤ late 0
  pub synced : (k : ℕ) → 0 < k → k < bus.senders → bus.sg_long k + bus.delay ≤ soon 0
  pub apart : (k : ℕ) → suc k < bus.senders → late k + bus.longest k + bus.delay + bus.tg_long (suc k) ≤ soon (suc k)

-- And the second round comes behind it:
--   round    the first sender's second turn behind the last one's first
--   again    and nobody's second turn before that has been heard.
pub record BeginsInTurn (bus : Bus) (soon late : ℕ → ℕ) : Type 0 where
  pub first : BeginsApart bus soon late
  pub round : late (bus.senders - 1) + bus.longest (bus.senders - 1) + bus.delay + bus.tg_long 0 ≤ soon 0 + bus.ti_short 0
  pub again : (k : ℕ) → k < bus.senders → late (bus.senders - 1) + bus.delay < soon k + bus.ti_short k

-- The bounds leave room for turns, whoever is the slowest:
--   hearing   each message is heard out by all before the next one
--   sync      whoever waits for its synchronization gap gets it in time
--   order     nobody is overtaken
--   begin     and the first round is in order.
pub record LeavesTurns (bus : Bus) (soon late : ℕ → ℕ) : Type 0 where
  pub hearing : HearsOut bus
  pub sync : HasRoomForSync bus
  pub order : NoneOvertaken bus
  pub begin : BeginsInTurn bus soon late
