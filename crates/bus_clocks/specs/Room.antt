-- Room for order on a bus: what its bounds must leave.
use Rattle.std.specs.Prelude.{◌≡◌, ◌≢◌, ℕ, ◌+◌, ◌*◌, ◌<◌, ◌≤◌}
use Rattle.bus_clocks.specs.Buses.{Bus, sum_below}

-- The bounds leave room:
--   some      there are senders
--   lasting   no transmission is empty
--   whole     within a transmission nobody's synchronization gap elapses
--   drop      nor, inside a round, the terminal gap of any but the first sender
--   turns     inside a round, who is next is heard by those behind it before their terminal gap elapses
--   opening   at the beginning of a round, whoever is the first in it is heard by all others before they would start
--   waiting   nobody's synchronization gap elapses before another who is in sync has started, and is heard
--   joining   at the beginning of a round that of the others does before the first starts
--   alone     a sender that is alone waits at least as long as another terminal hears it later.
pub record LeavesRoom (bus : Bus) : Type 0 where
  pub some : 0 < bus.senders
  pub lasting : (k : ℕ) → k < bus.senders → 0 < bus.shortest k
  pub whole : (k : ℕ) → k < bus.senders → bus.drop ≤ bus.sg_short k
  pub drop : (k : ℕ) → 0 < k → k < bus.senders → bus.drop ≤ bus.tg_short k
  pub turns : (j k : ℕ) → 0 < j → j < k → k < bus.senders → bus.tg_long j + 2 * bus.delay < bus.tg_short k
  pub opening : (j k : ℕ) → j < k → k < bus.senders → bus.sg_long j + bus.tg_long j + 2 * bus.delay < bus.sg_short k + bus.tg_short k
  pub waiting : (j k : ℕ) → j < bus.senders → k < bus.senders → j ≢ k → bus.tg_long j + 2 * bus.delay < bus.sg_short k
  pub joining : (j k : ℕ) → j < k → k < bus.senders → bus.sg_long k + bus.delay ≤ bus.sg_short j + bus.tg_short j
  pub alone : bus.senders ≡ 1 → bus.delay ≤ bus.sg_short 0 + bus.tg_short 0

-- The bus starts itself: no transmit interval outlasts what a sender waits and sends at least from one start to the next.
abbrev pub StartsItself : Bus → Type 0
StartsItself bus = (k : ℕ) → k < bus.senders → bus.ti_long k ≤ bus.shortest k + bus.sg_short k + bus.tg_long k

-- No transmit interval outlasts the shortest cycle up to the latest start that the gaps allow: of those behind the first, and of the first.
pub record HasCycle (bus : Bus) : Type 0 where
  pub others : (k : ℕ) → 0 < k → k < bus.senders
      → bus.ti_long k + bus.tg_short k ≤ bus.sg_short 0 + sum_below (λ l. bus.tg_short l + bus.shortest l) bus.senders + bus.tg_long k
  pub first : bus.ti_long 0 + bus.tg_short 0 ≤ bus.sg_long 0 + sum_below (λ l. bus.tg_short l + bus.shortest l) bus.senders + bus.tg_long 0
