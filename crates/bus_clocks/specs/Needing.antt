-- What is needed so that a bus keeps its order from the beginning: where a rule of its room fails there is a course that isn't in order.
use Rattle.std.specs.Prelude.{◌≡◌, ℕ, suc, ◌+◌, ◌*◌, ◌<◌, ◌≤◌, Option, IfSome}
use Rattle.bus_clocks.specs.Buses.{Bus, among}
use Rattle.bus_clocks.specs.Courses.{Course, IsCourse}
use Rattle.bus_clocks.specs.Rounds.{InRounds}
use Rattle.bus_clocks.specs.Order.{IsCold, BeginsBy}
use Rattle.bus_clocks.specs.Apart.{AreHeardApart}

-- The bounds are bounds: no short length is above the long one, and no transmission is empty, or may be heard as nothing.
pub record AreBounds (bus : Bus) : Type 0 where
  pub drop : 0 < bus.drop
  pub lasting : (k : ℕ) → k < bus.senders → 0 < bus.shortest k
  pub lengths : (k : ℕ) → k < bus.senders → bus.shortest k ≤ bus.longest k
  pub tg : (k : ℕ) → k < bus.senders → bus.tg_short k ≤ bus.tg_long k
  pub sg : (k : ℕ) → k < bus.senders → bus.sg_short k ≤ bus.sg_long k
  pub ti : (k : ℕ) → k < bus.senders → bus.ti_short k ≤ bus.ti_long k

-- With these power-ups and as many messages for each there is a course that begins cold, and isn't in rounds from the beginning, or is
-- heard at some terminal so that two transmissions overlap.
pub record Fails (bus : Bus) (ups : ℕ → ℕ) (messages : Option ℕ) : Type 0 where
  pub c : Course
  pub course : IsCourse bus c
  pub cold : IsCold bus c
  pub up : (k : ℕ) → c.up k ≡ ups k
  pub even : (k : ℕ) → c.messages k ≡ messages
  pub fails : InRounds (among bus) c 0 (c.up 0) c.list → BeginsBy bus c (c.up 0 + bus.sg_long 0 + bus.tg_long 0) c.list
      → AreHeardApart c.hears c.list → ⊥

-- These power-ups are no further from the first sender's than the delay.
abbrev pub AreWithin : Bus → (ℕ → ℕ) → Type 0
AreWithin bus ups = (k : ℕ) → k < bus.senders → (ups 0 ≤ ups k + bus.delay) × (ups k ≤ ups 0 + bus.delay)

-- The first sender must be heard before another may start for the first time: whatever the power-ups are, where they and the gaps leave
-- less room the first round fails.
abbrev pub FirstIsNeeded : Type 0
FirstIsNeeded =
    (bus : Bus) (ups : ℕ → ℕ) (messages : Option ℕ) (k : ℕ) → AreBounds bus → IfSome messages (λ n. 0 < n) → 0 < k → k < bus.senders
    → ups k + bus.sg_short k + bus.tg_short k ≤ ups 0 + bus.sg_long 0 + bus.tg_long 0 + bus.delay → Fails bus ups messages

-- So `opening` of the first is needed: where it fails, there are such power-ups within the delay.
abbrev pub OpeningIsNeeded : Type 0
OpeningIsNeeded =
    (bus : Bus) (messages : Option ℕ) (k : ℕ) → AreBounds bus → IfSome messages (λ n. 0 < n) → 0 < k → k < bus.senders
    → bus.sg_short k + bus.tg_short k ≤ bus.sg_long 0 + bus.tg_long 0 + 2 * bus.delay
    → (ups : ℕ → ℕ) × AreWithin bus ups × Fails bus ups messages

-- All others must be in sync when the first sender starts: whatever the power-ups are, where one may not be, and its synchronization gap
-- is longer than what is quiet inside a round, the first round fails.
abbrev pub SyncIsNeeded : Type 0
SyncIsNeeded =
    (bus : Bus) (ups : ℕ → ℕ) (messages : Option ℕ) (b : ℕ) → AreBounds bus → IfSome messages (λ n. 0 < n) → 0 < b → b < bus.senders
    → ((k : ℕ) → 0 < k → k < bus.senders → bus.tg_long k + bus.delay < bus.sg_long b)
    → ups 0 + bus.sg_short 0 + bus.tg_short 0 < ups b + bus.sg_long b → Fails bus ups messages

-- So `joining` of the first is needed: where it fails, there are such power-ups within the delay.
abbrev pub JoiningIsNeeded : Type 0
JoiningIsNeeded =
    (bus : Bus) (messages : Option ℕ) (b : ℕ) → AreBounds bus → IfSome messages (λ n. 0 < n) → 0 < b → b < bus.senders
    → ((k : ℕ) → 0 < k → k < bus.senders → bus.tg_long k + bus.delay < bus.sg_long b)
    → bus.sg_short 0 + bus.tg_short 0 < bus.sg_long b + bus.delay → (ups : ℕ → ℕ) × AreWithin bus ups × Fails bus ups messages

-- And `turns` of neighbours is, behind the first: where the second's terminal gap is no longer than the first's with twice the delay, and
-- the second is in sync in time, the first round fails.
abbrev pub TurnsAreNeeded : Type 0
TurnsAreNeeded =
    (bus : Bus) (ups : ℕ → ℕ) (messages : Option ℕ) (a : ℕ) → AreBounds bus → IfSome messages (λ n. 0 < n) → 0 < a → suc a < bus.senders
    → ups (suc a) + bus.sg_short (suc a) ≤ ups 0 + bus.sg_short 0 + bus.tg_short 0 → bus.delay ≤ bus.tg_short a → 0 < bus.tg_long a
    → bus.tg_short (suc a) ≤ bus.tg_long a + 2 * bus.delay → Fails bus ups messages
