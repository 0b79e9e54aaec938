-- What a run of the bus knows of its senders and its list, from moment to moment.
use Rattle.std.specs.Prelude.{◌≡◌, ℕ, ◌+◌, ◌-◌, ◌^◌, ◌<◌, ◌++◌, List, length, map, Bool}
use Rattle.bus_timers.specs.declared.cores.Core.{Ghosts}
use Rattle.bus_strings.specs.Members.{In}
use Rattle.bus_strings.specs.Messages.{Entry}
use Rattle.bus_medium.specs.Lawful.{IsLawful, IsLawfulTo}
use Rattle.bus_medium.specs.Buses.{Seat, station_of, StandsAt}
use Rattle.bus_medium.specs.inside.Following.{AllFollow, AllHaveRoom}
use Rattle.bus_medium.specs.Terminals.{sounds}

-- At moment t, before anybody decides, the list is what was sent, the senders stand where it leaves them, and have room for what may come.
pub record RunsTo {C : Type 0} (core : Ghosts C) (quiet : ℕ) (seats : List (Seat C)) (list : List Entry) (t : ℕ) : Type 0 where
  pub lawful : IsLawfulTo quiet (map station_of seats) t 0 list
  pub follow : AllFollow core quiet seats list t t
  pub room : AllHaveRoom core seats (2 ^ 62 - t)

-- What has begun at moment t is added to the list.
pub record Grown (t : ℕ) (old new : List Entry) : Type 0 where
  pub more : List Entry
  pub is : new ≡ old ++ more
  pub at : (x : Entry) → In x more → x.moment ≡ t
  pub some : (x : Entry) → In x more → 0 < length x.message

-- At moment t the senders xs have decided, and have become ys.
pub record Decided {C : Type 0} (core : Ghosts C) (quiet t : ℕ) (xs ys : List (Seat C)) (old new : List Entry) : Type 0 where
  pub stations : map station_of ys ≡ map station_of xs
  pub grown : Grown t old new
  pub lawful : IsLawfulTo quiet (map station_of ys) (t + 1) 0 new
  pub follow : AllFollow core quiet ys new t (t + 1)
  pub room : AllHaveRoom core ys (2 ^ 62 - t)

-- The senders xs have become ys, and the run goes to moment t.
pub record Reached {C : Type 0} (core : Ghosts C) (quiet t : ℕ) (xs ys : List (Seat C)) (list : List Entry) : Type 0 where
  pub stations : map station_of ys ≡ map station_of xs
  pub to : RunsTo core quiet ys list t

-- The list is the lawful one for the senders xs up to the horizon, and the only one. They have become ys, which stand at the horizon.
pub record IsTheList {C : Type 0} (core : Ghosts C) (quiet horizon : ℕ) (xs ys : List (Seat C)) (list : List Entry) : Type 0 where
  pub lawful : IsLawful quiet (map station_of xs) horizon list
  pub only : (other : List Entry) → IsLawful quiet (map station_of xs) horizon other → other ≡ list
  pub stands : StandsAt core (record { quiet = quiet; seats = ys }) list horizon
  pub keeps : map station_of ys ≡ map station_of xs

-- Whether a sender has a pulse on the present bit time.
abbrev pub seat_sounds : {C : Type 0} → Seat C → Bool
seat_sounds seat = sounds seat.terminal
