-- The bus of a table within bounds, in the words of `bus_clocks`, a tick being a nanosecond.
use Rattle.std.specs.Prelude.{ℕ, zero, suc, List, [], ◌∷◌, length}
use Rattle.bus_table.specs.Tables.{Sender, Table}
use Rattle.bus_table.specs.Turns.{turn_order}
use Rattle.bus_table.specs.Lengths.{shortest, longest}
use Rattle.bus_clocks.specs.Buses.{Bus}
use Rattle.bus_bounds.specs.Bounds.{Bounds}
use Rattle.bus_margins.specs.Times.{least_time, most_time, drop_of}

-- The number of the sender at place k, or 0 behind the last.
abbrev pub at_place : (Sender → ℕ) → List Sender → ℕ → ℕ
at_place f [] k = 0
at_place f (a ∷ senders) zero = f a
at_place f (a ∷ senders) (suc k) = at_place f senders k

-- The bus whose senders stand in this order.
abbrev pub bus_in : Bounds → Table → List Sender → Bus
bus_in bounds table order = record {
  senders = length order;
  delay = bounds.delay;
  drop = drop_of bounds;
  tg_short = at_place (λ a. least_time bounds a.tg) order;
  tg_long = at_place (λ a. most_time bounds a.tg) order;
  sg_short = (λ k. least_time bounds table.sg);
  sg_long = (λ k. most_time bounds table.sg);
  ti_short = (λ k. least_time bounds table.ti);
  ti_long = (λ k. most_time bounds table.ti);
  shortest = at_place (λ a. least_time bounds (shortest a)) order;
  longest = at_place (λ a. most_time bounds (longest a)) order;
}

-- That of the table: its senders stand in turn order.
abbrev pub bus_of : Bounds → Table → Bus
bus_of bounds table = bus_in bounds table (turn_order table)
