-- What happens on a bus whose clocks aren't exact: which transmissions begin when, what each terminal hears of them, and how long each
-- timer takes.
use Rattle.std.specs.Prelude.{◌≡◌, ℕ, ◌+◌, ◌-◌, ◌<◌, ◌≤◌, ◌⊎◌, ◌↔◌, Bool, true, false, ◌||◌, List, length, Option, IfSome}
use Rattle.bus_clocks.specs.Buses.{Bus}
use Rattle.bus_clocks.specs.Entries.{Entry, In, own, IsAscending}
use Rattle.bus_clocks.specs.Hearing.{Hears, hears_any}

-- What happens on a bus:
--   up        when each sender is powered up; it may have any state there
--   due       when its transmit interval elapses first, if it was running there
--   tg, sg, ti   how long a timer of a sender takes that is begun at a moment
--   messages  how many messages each sender has, if not as many as one likes
--   noise     whether a terminal hears at a tick what is no transmission of these
--   hears     whether a terminal hears carrier of a transmission at a tick
--   list      the transmissions that begin before the horizon.
pub record Course : Type 0 where
  pub up : ℕ → ℕ
  pub due : ℕ → ℕ
  pub tg : ℕ → ℕ → ℕ
  pub sg : ℕ → ℕ → ℕ
  pub ti : ℕ → ℕ → ℕ
  pub messages : ℕ → Option ℕ
  pub noise : ℕ → ℕ → Bool
  pub hears : Entry → ℕ → ℕ → Bool
  pub horizon : ℕ
  pub list : List Entry

-- Whether terminal n hears carrier at tick t.
abbrev pub carrier : Course → ℕ → ℕ → Bool
carrier c n t = c.noise n t || hears_any c.hears c.list n t

-- Terminal n hears nothing from tick a on, and before tick b.
abbrev pub IsQuiet : Course → ℕ → ℕ → ℕ → Type 0
IsQuiet c n a b = (t : ℕ) → a ≤ t → t < b → carrier c n t ≡ false

-- ---- timers

-- Quiet may begin there for sender k: it is powered up, or has just heard carrier.
abbrev pub Begins : Course → ℕ → ℕ → Type 0
Begins c k a = (a ≡ c.up k) ⊎ ((c.up k < a) × (carrier c k (a - 1) ≡ true))

-- The synchronization gap of sender k elapses at moment e: its timer was begun where quiet begins, and all has been quiet since.
pub record SyncAt (c : Course) (k e : ℕ) : Type 0 where
  pub from : ℕ
  pub begins : Begins c k from
  pub quiet : IsQuiet c k from e
  pub elapsed : from + c.sg k from ≡ e

-- The three timers of sender k let it start at moment t:
--   synced    its synchronization gap has elapsed
--   none      and it hasn't started since
--   begins    its terminal gap was begun there, or when the carrier ended that it heard last
--   quiet     nothing has been heard since
--   terminal  its terminal gap has elapsed
--   due       and its transmit interval, if it was running at the power-up
--   interval  or which runs from its last start.
pub record MayStart (c : Course) (k t : ℕ) : Type 0 where
  pub sync : ℕ
  pub synced : SyncAt c k sync
  pub none : (x : Entry) → In x c.list → x.sender ≡ k → x.moment < t → x.moment < sync
  pub from : ℕ
  pub begins : (from ≡ sync) ⊎ ((sync < from) × (carrier c k (from - 1) ≡ true))
  pub quiet : IsQuiet c k from t
  pub terminal : from + c.tg k from ≤ t
  pub due : c.due k ≤ t
  pub interval : (x : Entry) → In x c.list → x.sender ≡ k → x.moment < t
      → ((y : Entry) → In y c.list → y.sender ≡ k → y.moment < t → y.moment ≤ x.moment) → x.moment + c.ti k x.moment ≤ t

-- At moment t sender k has a message left.
abbrev pub HasLeft : Course → ℕ → ℕ → Type 0
HasLeft c k t = IfSome (c.messages k) (λ n. length (own c.list k t) < n)

-- It has one left at each moment up to the horizon.
abbrev pub HasMore : Course → ℕ → Type 0
HasMore c k = (t : ℕ) → t < c.horizon → HasLeft c k t

-- ---- courses

-- There is a transmission of sender k that begins at moment t.
pub record HasEntry (list : List Entry) (k t : ℕ) : Type 0 where
  pub entry : Entry
  pub there : In entry list
  pub sender : entry.sender ≡ k
  pub moment : entry.moment ≡ t

-- A timer that sender k begins at moment a takes its time: unless it was powered up there, and nothing had been sent before. So those who
-- are there from the beginning begin in any state: a timer that takes no time has elapsed.
abbrev pub IsFresh : Course → ℕ → ℕ → Type 0
IsFresh c k a = (c.up k < a) ⊎ ((x : Entry) × In x c.list × (x.moment < c.up k))

-- This may happen on the bus:
--   ordered      the transmissions ascend
--   sent         each is a sender's, begins before the horizon, and is as long as one of that sender's may be
--   exact        a sender starts before the horizon exactly where its timers let it, and it has a message left
--   own, others  it hears itself at once, and each terminal hears it with a delay
--   the rest     and each timer takes a length within its bounds.
pub record IsCourse (bus : Bus) (c : Course) : Type 0 where
  pub ordered : IsAscending c.list
  pub sent : (x : Entry) → In x c.list → (x.sender < bus.senders) × (x.moment < c.horizon) × (bus.shortest x.sender ≤ x.length)
      × (x.length ≤ bus.longest x.sender)
  pub exact : (k t : ℕ) → k < bus.senders → t < c.horizon → HasEntry c.list k t ↔ (MayStart c k t × HasLeft c k t)
  pub own : (x : Entry) → In x c.list → Hears c.hears 0 bus.drop x x.sender
  pub others : (x : Entry) (n : ℕ) → In x c.list → Hears c.hears bus.delay bus.drop x n
  pub tg_low : (k a : ℕ) → k < bus.senders → IsFresh c k a → bus.tg_short k ≤ c.tg k a
  pub tg_high : (k a : ℕ) → k < bus.senders → c.tg k a ≤ bus.tg_long k
  pub sg_low : (k a : ℕ) → k < bus.senders → IsFresh c k a → bus.sg_short k ≤ c.sg k a
  pub sg_high : (k a : ℕ) → k < bus.senders → c.sg k a ≤ bus.sg_long k
  pub ti_low : (k a : ℕ) → k < bus.senders → bus.ti_short k ≤ c.ti k a
  pub ti_high : (k a : ℕ) → k < bus.senders → c.ti k a ≤ bus.ti_long k

-- At each moment before the horizon each sender has a message left.
abbrev pub HaveLeft : Bus → Course → Type 0
HaveLeft bus c = (k t : ℕ) → k < bus.senders → t < c.horizon → HasLeft c k t

-- The bus is left alone from moment `up` on: all have been powered up, no transmit interval goes on that was running before a first start,
-- and nothing is heard but its own transmissions.
pub record IsLeftAlone (bus : Bus) (c : Course) (up : ℕ) : Type 0 where
  pub powered : (k : ℕ) → k < bus.senders → c.up k ≤ up
  pub due : (k : ℕ) → k < bus.senders → c.due k ≤ up
  pub still : (n t : ℕ) → up ≤ t → c.noise n t ≡ false
