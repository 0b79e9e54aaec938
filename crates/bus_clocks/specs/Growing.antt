-- Senders that are powered up late join: none is lost, and nobody is disturbed.
use Rattle.std.specs.Prelude.{◌≡◌, ℕ, suc, ◌+◌, ◌<◌, ◌≤◌, ◌⊎◌, Bool, true, false, List, [], ◌∷◌}
use Rattle.bus_clocks.specs.Buses.{Bus}
use Rattle.bus_clocks.specs.Room.{LeavesRoom, StartsItself}
use Rattle.bus_clocks.specs.Entries.{AreClear, Entry, end_of}
use Rattle.bus_clocks.specs.Courses.{Course, HaveLeft, IsCourse}

-- Sender k is the next of those in the round, from a on.
pub record IsNext (senders : ℕ) (in_round : ℕ → Bool) (a k : ℕ) : Type 0 where
  pub low : a ≤ k
  pub known : k < senders
  pub there : in_round k ≡ true
  pub none : (j : ℕ) → a ≤ j → j < k → in_round j ≡ false

-- From a on nobody is in the round.
abbrev pub IsOver : ℕ → (ℕ → Bool) → ℕ → Type 0
IsOver senders in_round a = (k : ℕ) → a ≤ k → k < senders → in_round k ≡ false

-- Who else is in the round that the first sender's transmission opens, those of the round before being told: these, and certainly those
-- that were powered up a long synchronization gap before it, and only those that were a short one before they hear it.
pub record Joins (bus : Bus) (c : Course) (before : ℕ → Bool) (opening : Entry) (in_round : ℕ → Bool) : Type 0 where
  pub keeps : (k : ℕ) → 0 < k → k < bus.senders → before k ≡ true → in_round k ≡ true
  pub must : (k : ℕ) → 0 < k → k < bus.senders → c.up k + bus.sg_long k ≤ opening.moment → in_round k ≡ true
  pub may : (k : ℕ) → 0 < k → k < bus.senders → in_round k ≡ true → c.up k + bus.sg_short k ≤ opening.moment + bus.delay

-- Up to the horizon these transmissions are rounds in turn order, each of the first sender and of others that have joined, with nothing
-- missing. Those of the present round from a on have yet to speak, and all that came before has ended at moment v.
abbrev pub InGrowing : Bus → Course → ℕ → (ℕ → Bool) → ℕ → List Entry → Type 0
InGrowing bus c a in_round v [] =
    ((k : ℕ) × IsNext bus.senders in_round a k × (c.horizon ≤ v + bus.delay + bus.tg_long k))
    ⊎ (IsOver bus.senders in_round a × (c.horizon ≤ v + bus.delay + bus.sg_long 0 + bus.tg_long 0))
InGrowing bus c a in_round v (x ∷ list) =
    (IsNext bus.senders in_round a x.sender × (v + bus.tg_short x.sender ≤ x.moment) × (x.moment ≤ v + bus.delay + bus.tg_long x.sender)
    × InGrowing bus c (suc x.sender) in_round (end_of x) list)
    ⊎ (IsOver bus.senders in_round a × (x.sender ≡ 0) × (v + bus.sg_short 0 + bus.tg_short 0 ≤ x.moment)
    × (x.moment ≤ v + bus.delay + bus.sg_long 0 + bus.tg_long 0)
    × ((joined : ℕ → Bool) × Joins bus c in_round x joined × InGrowing bus c 1 joined (end_of x) list))

-- The bus begins cold behind moment v: nobody is powered up before, the first sender within the delay from there on, and the others
-- whenever they like; no transmit interval is running at a power-up, and each timer takes its time. What else is heard ends within the
-- delay.
pub record IsJoined (bus : Bus) (c : Course) (v : ℕ) : Type 0 where
  pub first : c.up 0 ≤ v + bus.delay
  pub later : (k : ℕ) → k < bus.senders → v ≤ c.up k
  pub due : (k : ℕ) → k < bus.senders → c.due k ≤ c.up k
  pub still : (n t : ℕ) → v + bus.delay ≤ t → c.noise n t ≡ false
  pub tg : (k a : ℕ) → k < bus.senders → bus.tg_short k ≤ c.tg k a
  pub sg : (k a : ℕ) → k < bus.senders → bus.sg_short k ≤ c.sg k a

-- Where the bounds leave room, the bus starts itself and messages are left, they are in order from the beginning, and whoever joins takes
-- its turn from the first round on whose beginning it hears in sync.
abbrev pub JoiningIsOrderly : Type 0
JoiningIsOrderly =
    (bus : Bus) (c : Course) (v : ℕ) → LeavesRoom bus → StartsItself bus → IsCourse bus c → HaveLeft bus c → IsJoined bus c v
    → InGrowing bus c bus.senders (λ _. false) v c.list × AreClear bus.delay c.list
