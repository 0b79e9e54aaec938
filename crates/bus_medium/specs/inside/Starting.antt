-- The senders of a run that are ready at a moment start, and the others don't.
use Rattle.std.specs.Prelude.{◌≡◌, ℕ, ◌+◌, ◌<◌, List, length, map}
use Rattle.bus_timers.specs.declared.cores.Core.{Ghosts}
use Rattle.bus_strings.specs.Limits.{horizon_limit}
use Rattle.bus_strings.specs.Messages.{Entry}
use Rattle.bus_medium.specs.declared.timers.Timers.{Timers}
use Rattle.bus_medium.specs.declared.timers.BusIdle.{BusIdle}
use Rattle.bus_medium.specs.Buses.{Seat, number_of}
use Rattle.bus_medium.specs.Orders.{IsSendOrder}
use Rattle.bus_medium.specs.inside.Lazy.{RunsLazily, DecidedLazily, MovedBySent, EndsAt, clocks_of, AreKept, AreNoShorter}

-- At moment t, which is below the greatest horizon, nobody has decided yet. The list is what was sent, and the timers stand between two
-- messages. `places` has the senders in the order in which they send.
pub record MayBegin {C : Type 0} (core : Ghosts C) (quiet t : ℕ) (places : List ℕ) (idle : BusIdle) (seats : List (Seat C))
    (all_timers : List Timers) (list : List Entry) : Type 0 where
  pub moment : t < horizon_limit
  pub send_order : IsSendOrder (map number_of seats) places
  pub long : length all_timers ≡ length seats
  pub kept : AreKept idle (quiet + t) all_timers
  pub at : RunsLazily core quiet seats (clocks_of idle.ended all_timers) list t

-- The senders xs and their timers vs have decided at moment t, and have become ys and ws:
--   least     no synchronization gap is shorter than `idle` says
--   decided   what they have begun is added to the list
--   moved     no core was moved more often than its sender has begun
--   ended     where all before has ended by t, all has ended at `end`, which is t or where something ends that they have begun
pub record BeginsAt {C : Type 0} (core : Ghosts C) (quiet t : ℕ) (idle : BusIdle) (xs ys : List (Seat C)) (vs ws : List Timers)
    (old new : List Entry) (end : ℕ) : Type 0 where
  pub least : AreNoShorter idle.least (clocks_of idle.ended ws)
  pub decided : DecidedLazily core quiet t xs (clocks_of idle.ended vs) ys (clocks_of idle.ended ws) old new
  pub moved : MovedBySent core xs ys
  pub ended : EndsAt t old new end
