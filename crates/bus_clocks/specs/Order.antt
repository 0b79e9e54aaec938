-- Order from the beginning: what a bus does whose senders are powered up at about the same time.
use Rattle.std.specs.Prelude.{◌≡◌, ℕ, ◌+◌, ◌*◌, ◌<◌, ◌≤◌, ◌⊎◌, false, List, [], ◌∷◌, length, slice_get, Some}
use Rattle.bus_clocks.specs.Buses.{Bus, among}
use Rattle.bus_clocks.specs.Entries.{Entry, own, AreClear}
use Rattle.bus_clocks.specs.Courses.{Course, HasMore, IsCourse}
use Rattle.bus_clocks.specs.Room.{LeavesRoom, StartsItself, HasCycle}
use Rattle.bus_clocks.specs.Rounds.{InRounds, AreSpaced, least_round, most_round}

-- The bus begins cold: no transmit interval is running at a power-up, nothing but transmissions is heard, and each timer takes its time.
pub record IsCold (bus : Bus) (c : Course) : Type 0 where
  pub due : (k : ℕ) → k < bus.senders → c.due k ≤ c.up k
  pub still : (n t : ℕ) → c.noise n t ≡ false
  pub tg : (k a : ℕ) → k < bus.senders → bus.tg_short k ≤ c.tg k a
  pub sg : (k a : ℕ) → k < bus.senders → bus.sg_short k ≤ c.sg k a

-- Nobody is powered up earlier or later than the first sender by more than the delay.
abbrev pub ArePoweredWithin : Bus → Course → Type 0
ArePoweredWithin bus c = (k : ℕ) → k < bus.senders → (c.up 0 ≤ c.up k + bus.delay) × (c.up k ≤ c.up 0 + bus.delay)

-- All have as many messages as the first sender, or as many as they like.
abbrev pub AreEven : Bus → Course → Type 0
AreEven bus c = (k : ℕ) → k < bus.senders → c.messages k ≡ c.messages 0

-- The first of these transmissions begins no later than moment m; or where there is none, and anybody has messages, the horizon
-- comes before.
abbrev pub BeginsBy : Bus → Course → ℕ → List Entry → Type 0
BeginsBy bus c m [] = (k : ℕ) → k < bus.senders → HasMore c k → c.horizon ≤ m
BeginsBy bus c m (x ∷ list) = x.moment ≤ m

-- Entry `r * K + j` of the list, K being the number of senders, is of sender j, and is its message number r.
abbrev pub IsPlaced : Bus → Course → Type 0
IsPlaced bus c =
    (r j : ℕ) (x : Entry) → j < bus.senders → slice_get c.list (r * bus.senders + j) ≡ Some x
    → (x.sender ≡ j) × (length (own c.list j x.moment) ≡ r)

-- The course is in order:
--   rounds   all its transmissions are rounds in turn order, where the first sender counts from its power-up
--   soon     it begins when its synchronization gap and its terminal gap have elapsed at the latest
--   placed   so each transmission has its place in the list
--   clear    no two transmissions are heard at once by any terminal
--   spaced   from one start of a sender to the next it takes a round.
pub record IsInOrder (bus : Bus) (c : Course) : Type 0 where
  pub rounds : InRounds (among bus) c 0 (c.up 0) c.list
  pub soon : BeginsBy bus c (c.up 0 + bus.sg_long 0 + bus.tg_long 0) c.list
  pub placed : IsPlaced bus c
  pub clear : AreClear bus.delay c.list
  pub spaced : AreSpaced (least_round (among bus)) (most_round (among bus)) c c.list

-- Where the bounds leave room, and the bus starts itself or no transmit interval outlasts the shortest cycle, every course is in order
-- that begins cold, whose senders are powered up at about the same time and have as many messages each.
abbrev pub RealClocksKeepOrder : Type 0
RealClocksKeepOrder =
    (bus : Bus) (c : Course) → LeavesRoom bus → StartsItself bus ⊎ HasCycle bus → IsCourse bus c → IsCold bus c → ArePoweredWithin bus c
    → AreEven bus c → IsInOrder bus c
