-- What a valid table and messages that fit its senders give.
use Rattle.std.proofs.Common.{◌≡◌, ℕ, ◌<◌, true, List, [], length, get_or, arith}
use Rattle.std.specs.List.{list_all}
use Rattle.bus_timers.specs.Timings.{IsSound}
use Rattle.bus_strings.specs.Members.{In}
use Rattle.bus_strings.specs.Messages.{Message}
use Rattle.bus_table.specs.Tables.{Sender, Table}
use Rattle.bus_table.specs.inside.Facts.{TableFacts}
use Rattle.bus_table.specs.Fits.{fits}
use Rattle.bus_medium.specs.Lawful.{HaveOwnNumbers}
use Rattle.bus_medium.specs.Timings.{timing_of}
use Rattle.bus_schedule.proofs.HandLemmas.{Sendable, stations, message_of}

-- a valid table, and messages that fit its senders
pub record Dealt (table : Table) (hands : ℕ → List Message) : Type 0 where
  pub facts : TableFacts table
  pub numbers : HaveOwnNumbers (stations table hands)
  pub sound : (sender : Sender) → In sender table.senders → IsSound (timing_of table sender)
  pub fit : (sender : Sender) → In sender table.senders → list_all (fits sender) (hands sender.number) ≡ true

-- and n of each sender
pub record Setting (table : Table) (hands : ℕ → List Message) (n : ℕ) : Type 0 where
  pub dealt : Dealt table hands
  pub count : (sender : Sender) → In sender table.senders → length (hands sender.number) ≡ n

-- the message of a sender in a round for which it has one
pub message_left : (table : Table) (hands : ℕ → List Message) → Dealt table hands → (sender : Sender) (round : ℕ) → In sender table.senders
    → round < length (hands sender.number) → Sendable sender (hands sender.number) round (get_or (hands sender.number) round [])
message_left table hands dealt sender round i within = message_of table hands sender round dealt.facts i (dealt.fit sender i) within

pub has_left : (table : Table) (hands : ℕ → List Message) (n : ℕ) → Setting table hands n → (sender : Sender) (round : ℕ)
    → In sender table.senders → round < n → round < length (hands sender.number)
has_left table hands n setting sender round i less = let k : length (hands sender.number) ≡ n = setting.count sender i in omega arith

pub sendable : (table : Table) (hands : ℕ → List Message) (n : ℕ) → Setting table hands n → (sender : Sender) (round : ℕ) → In sender table.senders
    → round < n → Sendable sender (hands sender.number) round (get_or (hands sender.number) round [])
sendable table hands n setting sender round i less =
    message_left table hands setting.dealt sender round i (has_left table hands n setting sender round i less)
