use Rattle.std.proofs.Common.{◌≡◌, ◌+◌, drop}
use Rattle.bus_table.specs.Fits.{fit_from}
use Rattle.bus_hands.proofs.fitting.items_fit.Given as goal

abbrev pub invariant-loop-item : goal.invariant-loop-item
invariant-loop-item l = record {
  number : l.k ≡ l.item-index + 1;
  left : fit_from l.k l.senders (drop l.item-index l.items) ≡ fit_from 1 l.senders l.items;
}
