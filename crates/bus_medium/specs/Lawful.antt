-- When a list of transmissions is the one that the senders of a bus make.
--   station   what the rules read of a sender: its number, its timing and the messages of its hand
--   due       its timers allow a start, and it has a message left
-- Every definition is of the senders as a set: nothing hangs on the order in which a table lists them.
use Rattle.std.specs.Prelude.{◌≡◌, ℕ, ◌<◌, ◌⊎◌, ◌↔◌, List, length, slice_get, Some}
use Rattle.bus_timers.specs.declared.timing.Timing.{Timing}
use Rattle.bus_timers.specs.MayStart.{MayStart}
use Rattle.bus_strings.specs.Members.{In}
use Rattle.bus_strings.specs.Messages.{Message, Entry}
use Rattle.bus_strings.specs.Transmissions.{IsAscending}
use Rattle.bus_medium.specs.Past.{past, own, last_place}

-- What the rules read of a sender: its number, its timing and the messages of its hand.
pub record Station : Type 0 where
  pub number : ℕ
  pub timing : Timing
  pub hand : List Message

-- No two senders have the same number.
abbrev pub HaveOwnNumbers : List Station → Type 0
HaveOwnNumbers stations = (a b : Station) → In a stations → In b stations → a.number ≡ b.number → a ≡ b

-- The list has a transmission of the terminal with this number that starts at moment t.
pub record HasEntry (list : List Entry) (number t : ℕ) : Type 0 where
  pub entry : Entry
  pub there : In entry list
  pub moment : entry.moment ≡ t
  pub terminal : entry.terminal ≡ number

-- At moment t, after the past that the list makes, the sender may start and has a message left.
pub record IsDue (quiet : ℕ) (list : List Entry) (sender : Station) (t : ℕ) : Type 0 where
  pub may : MayStart sender.timing (past quiet list t) (last_place quiet (own list sender.number t))
  pub left : length (own list sender.number t) < length sender.hand

-- The transmission is of a sender, and its message is the next of that sender's hand.
pub record IsNext (stations : List Station) (list : List Entry) (x : Entry) : Type 0 where
  pub sender : Station
  pub there : In sender stations
  pub number : sender.number ≡ x.terminal
  pub message : slice_get sender.hand (length (own list sender.number x.moment)) ≡ Some x.message

-- The list is what these senders make by a rule up to the horizon:
--   ordered: it ascends strictly by moment, then terminal;
--   sent: each transmission starts before the horizon, is of a sender, and has the next message of its hand;
--   exact: a sender starts at a moment before the horizon exactly where it is due.
pub record IsRuled (due : List Entry → Station → ℕ → Type 0) (stations : List Station) (horizon : ℕ) (list : List Entry) : Type 0 where
  pub ordered : IsAscending list
  pub sent : (x : Entry) → In x list → (x.moment < horizon) × IsNext stations list x
  pub exact : (t : ℕ) (sender : Station) → t < horizon → In sender stations → HasEntry list sender.number t ↔ due list sender t

-- The list is lawful for these senders up to the horizon: a sender starts exactly where its timers and its hand say that it is due.
abbrev pub IsLawful : ℕ → List Station → ℕ → List Entry → Type 0
IsLawful quiet = IsRuled (IsDue quiet)

-- A moment comes before another, or is it, and then a terminal's number comes before another.
abbrev pub IsBefore : ℕ → ℕ → ℕ → ℕ → Type 0
IsBefore moment number other_moment other_number = (moment < other_moment) ⊎ ((moment ≡ other_moment) × (number < other_number))

-- What the senders make by a rule at all moments before t, and at t those with numbers below n.
pub record IsRuledTo (due : List Entry → Station → ℕ → Type 0) (stations : List Station) (t n : ℕ) (list : List Entry) : Type 0 where
  pub ordered : IsAscending list
  pub sent : (x : Entry) → In x list → IsBefore x.moment x.terminal t n × IsNext stations list x
  pub exact : (u : ℕ) (sender : Station) → In sender stations → IsBefore u sender.number t n → HasEntry list sender.number u
      ↔ due list sender u

-- Lawful for all moments before t, and at t for the terminals with numbers below n.
abbrev pub IsLawfulTo : ℕ → List Station → ℕ → ℕ → List Entry → Type 0
IsLawfulTo quiet = IsRuledTo (IsDue quiet)
