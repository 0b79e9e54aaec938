-- How a terminal keeps where its running message is.
use Rattle.std.specs.Prelude.{ℕ, ◌<◌, ◌≤◌, length, Option, MatchOption}
use Rattle.std.specs.Option.{option_map}
use Rattle.bus_table.specs.Tables.{Hand}
use Rattle.bus_medium.specs.declared.place.Place.{Place}
use Rattle.bus_medium.specs.inside.Places.{place_of, IsPlace}
use Rattle.bus_medium.specs.Terminals.{last_begun}

-- The bit time of the message begun last at which it is.
abbrev pub place_in : Hand → ℕ → Option Place → Option ℕ
place_in hand sent running = option_map (place_of (last_begun hand sent)) running

-- No more messages are begun than there are, and what runs is the one begun last.
pub record IsStanding (hand : Hand) (sent : ℕ) (running : Option Place) : Type 0 where
  pub within : sent ≤ length hand.messages
  pub place : MatchOption running (Unit {0}) (λ place. (0 < sent) × IsPlace (last_begun hand sent) place)
