use Rattle.std.proofs.Common.{ℕ, ◌<◌, length, get_or}
use Rattle.bus_medium.specs.inside.Runs.{Grown}
use Rattle.bus_medium.proofs.DecideLemmas.{DecidedPlaces}
use Rattle.bus_medium.proofs.deciding.decide_all.Given as goal

abbrev pub invariant-loop-place : goal.invariant-loop-place
invariant-loop-place g l = record {
  decided : DecidedPlaces g.C.Core l.send_order.quiet l.moment l.initial.seats l.seats l.list.items l.place-items l.place-index;
  within : (k : ℕ) → k < length l.place-items → get_or l.place-items k 0 < length l.seats;
  grown : Grown l.moment l.initial.list.items l.list.items;
}
