-- Whoever is alive: some senders of a bus, the others being silent.
use Rattle.std.specs.Prelude.{◌≡◌, ◌≢◌, ℕ, zero, suc, ◌+◌, ◌<◌, ◌≤◌, ◌==◌, ◌||◌, false, cond, List, [], ◌∷◌, Option, Some, None}
use Rattle.bus_clocks.specs.Buses.{Bus, among}
use Rattle.bus_clocks.specs.Entries.{Entry, end_of, In}
use Rattle.bus_clocks.specs.Hearing.{hears_any}
use Rattle.bus_clocks.specs.Courses.{Course, HasLeft, IsCourse}
use Rattle.bus_clocks.specs.Room.{LeavesRoom, StartsItself}
use Rattle.bus_clocks.specs.Rounds.{most_spoken}
use Rattle.bus_clocks.specs.Settling.{HasSettled}

-- These are some of the senders, n of them, in turn order: `part i` is the place on the bus of the one at place i.
pub record IsPart (bus : Bus) (part : ℕ → ℕ) (n : ℕ) : Type 0 where
  pub some : 0 < n
  pub known : (i : ℕ) → i < n → part i < bus.senders
  pub order : (i j : ℕ) → i < j → j < n → part i < part j

-- The bus that has these senders alone.
abbrev pub part_of : Bus → (ℕ → ℕ) → ℕ → Bus
part_of bus part n = record {
  senders = n;
  delay = bus.delay;
  drop = bus.drop;
  tg_short = λ i. bus.tg_short (part i);
  tg_long = λ i. bus.tg_long (part i);
  sg_short = λ i. bus.sg_short (part i);
  sg_long = λ i. bus.sg_long (part i);
  ti_short = λ i. bus.ti_short (part i);
  ti_long = λ i. bus.ti_long (part i);
  shortest = λ i. bus.shortest (part i);
  longest = λ i. bus.longest (part i);
}

-- Each part of the senders of a bus with room has room, and starts itself where the bus does.
abbrev pub PartsHaveRoom : Type 0
PartsHaveRoom =
    (bus : Bus) (part : ℕ → ℕ) (n : ℕ) → IsPart bus part n → LeavesRoom bus → StartsItself bus
    → LeavesRoom (part_of bus part n) × StartsItself (part_of bus part n)

-- The place that sender k has in a part, if it is one of it.
abbrev pub place_in : (ℕ → ℕ) → ℕ → ℕ → Option ℕ
place_in part zero k = None
place_in part (suc n) k = cond (part n == k) (Some n) (place_in part n k)

-- A transmission in front of others, if its sender is of the part, told by its place there.
abbrev pub placed_before : Option ℕ → Entry → List Entry → List Entry
placed_before None x list = list
placed_before (Some i) x list = record x { sender = i } ∷ list

-- A transmission in front of others, if its sender isn't of the part.
abbrev pub kept_before : Option ℕ → Entry → List Entry → List Entry
kept_before None x list = x ∷ list
kept_before (Some i) x list = list

-- The transmissions of the part, each sender told by its place there.
abbrev pub of_part : (ℕ → ℕ) → ℕ → List Entry → List Entry
of_part part n [] = []
of_part part n (x ∷ list) = placed_before (place_in part n x.sender) x (of_part part n list)

-- And those of the others.
abbrev pub of_others : (ℕ → ℕ) → ℕ → List Entry → List Entry
of_others part n [] = []
of_others part n (x ∷ list) = kept_before (place_in part n x.sender) x (of_others part n list)

-- What the part does: what the others send is noise.
abbrev pub course_of : Course → (ℕ → ℕ) → ℕ → Course
course_of c part n = record {
  up = λ i. c.up (part i);
  due = λ i. c.due (part i);
  tg = λ i. c.tg (part i);
  sg = λ i. c.sg (part i);
  ti = λ i. c.ti (part i);
  messages = λ i. c.messages (part i);
  noise = λ i t. c.noise (part i) t || hears_any c.hears (of_others part n c.list) (part i) t;
  hears = λ x i t. c.hears (record x { sender = part x.sender }) (part i) t;
  horizon = c.horizon;
  list = of_part part n c.list;
}

-- The part is left alone from moment `up` on: all of it have been powered up, no transmit interval goes on that was running before a first
-- start, nothing is heard but transmissions, and those of the others have been heard.
pub record ArePartAlone (bus : Bus) (c : Course) (part : ℕ → ℕ) (n up : ℕ) : Type 0 where
  pub powered : (i : ℕ) → i < n → c.up (part i) ≤ up
  pub due : (i : ℕ) → i < n → c.due (part i) ≤ up
  pub still : (m t : ℕ) → up ≤ t → c.noise m t ≡ false
  pub silent : (x : Entry) → In x c.list → ((i : ℕ) → i < n → x.sender ≢ part i) → end_of x + bus.delay ≤ up

-- What the part does is a course of the bus that has these senders alone.
abbrev pub PartsHaveCourses : Type 0
PartsHaveCourses =
    (bus : Bus) (c : Course) (part : ℕ → ℕ) (n : ℕ) → IsPart bus part n → IsCourse bus c
    → IsCourse (part_of bus part n) (course_of c part n)

-- So whoever is alive comes into order by itself, where the others are silent for good.
abbrev pub AliveSettle : Type 0
AliveSettle =
    (bus : Bus) (c : Course) (part : ℕ → ℕ) (n up sg : ℕ) → IsPart bus part n → LeavesRoom bus → StartsItself bus → IsCourse bus c
    → ((i t : ℕ) → i < n → t < c.horizon → HasLeft c (part i) t) → ArePartAlone bus c part n up
    → ((i : ℕ) → i < n → bus.sg_long (part i) ≤ sg)
    → (origin : ℕ) × (origin + (among (part_of bus part n)).delay ≤ up + sg + most_spoken (among (part_of bus part n)))
    × HasSettled (part_of bus part n) (course_of c part n) up origin
