use Rattle.std.proofs.Common.{◌≡◌, ℕ, ◌+◌, ◌<◌, length, get_or}
use Rattle.bus_medium.specs.inside.Runs.{Grown}
use Rattle.bus_medium.specs.inside.Lazy.{lazy, lazy_seats, clocks_of, AreNoShorter, MovedBySent, EndsAt}
use Rattle.bus_medium.proofs.DecideLemmas.{DecidedPlaces}
use Rattle.bus_medium.proofs.starting.begin_all.Given as goal

abbrev pub invariant-loop-place : goal.invariant-loop-place
invariant-loop-place g l = record {
  same_length : length l.seats ≡ length l.initial.seats;
  same_clocks : length l.all_timers ≡ length l.seats;
  decided : DecidedPlaces (lazy g.C.Core l.send_order.quiet (l.send_order.quiet + l.moment)) l.send_order.quiet l.moment (lazy_seats (l.send_order.quiet + l.moment) l.initial.seats (clocks_of l.idle.ended l.initial.all_timers))
      (lazy_seats (l.send_order.quiet + l.moment) l.seats (clocks_of l.idle.ended l.all_timers)) l.list.items l.place-items l.place-index;
  within : (k : ℕ) → k < length l.place-items → get_or l.place-items k 0 < length l.seats;
  least : AreNoShorter l.idle.least (clocks_of l.idle.ended l.all_timers);
  grown : Grown l.moment l.initial.list.items l.list.items;
  moved : MovedBySent g.C.Core l.initial.seats l.seats;
  ends : EndsAt l.moment l.initial.list.items l.list.items l.end;
}
