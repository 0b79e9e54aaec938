-- The bus finds its order by itself, whenever its senders were powered up and whatever they sent until then.
use Rattle.std.specs.Prelude.{◌≡◌, ℕ, ◌+◌, ◌<◌, ◌≤◌, List, ◌++◌}
use Rattle.bus_clocks.specs.Buses.{Bus, among}
use Rattle.bus_clocks.specs.Entries.{Entry, end_of, In, AreClear}
use Rattle.bus_clocks.specs.Courses.{Course, IsCourse, HaveLeft, IsLeftAlone}
use Rattle.bus_clocks.specs.Room.{LeavesRoom, StartsItself}
use Rattle.bus_clocks.specs.Rounds.{InRounds, AreSpaced, most_spoken, least_round, most_round}

-- Order has come at moment `origin`:
--   parts    the transmissions are some, and then others
--   ended    the former have ended at that moment
--   later    all terminals have heard their ends before the others begin
--   order    the latter are rounds in turn order, the first sender being next at the origin
--   clear    no two of them are heard at once by any terminal
--   spaced   from one start of a sender to the next it takes a round
--   once     and each sender starts but once from moment `up` on until the rounds.
pub record HasSettled (bus : Bus) (c : Course) (up origin : ℕ) : Type 0 where
  pub before : List Entry
  pub rounds : List Entry
  pub parts : c.list ≡ before ++ rounds
  pub ended : (x : Entry) → In x before → end_of x ≤ origin
  pub later : (x : Entry) → In x rounds → origin + bus.delay ≤ x.moment
  pub order : InRounds (among bus) c 0 origin rounds
  pub clear : AreClear bus.delay rounds
  pub spaced : AreSpaced (least_round (among bus)) (most_round (among bus)) c rounds
  pub once : (x y : Entry) → In x before → In y before → x.sender ≡ y.sender → up ≤ x.moment → x.moment < y.moment → ⊥

-- Where the bounds leave room and the bus starts itself, every course of senders that have messages left comes into order by itself once
-- it is left alone, up to each horizon, and soon: the last transmission before the rounds has been heard by all when from moment `up` on
-- at most a synchronization gap has passed, and for each sender a delay, its terminal gap and its longest transmission.
abbrev pub AnyStartSettles : Type 0
AnyStartSettles =
    (bus : Bus) (c : Course) (up sg : ℕ) → LeavesRoom bus → StartsItself bus → IsCourse bus c → HaveLeft bus c → IsLeftAlone bus c up
    → ((k : ℕ) → k < bus.senders → bus.sg_long k ≤ sg)
    → (origin : ℕ) × (origin + (among bus).delay ≤ up + sg + most_spoken (among bus)) × HasSettled bus c up origin
