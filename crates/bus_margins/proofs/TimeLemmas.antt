-- What lasts more bit times lasts longer.
use Rattle.std.proofs.Common.{arith, ℕ, ◌*◌, ◌≤◌}
use Rattle.bus_bounds.specs.Bounds.{Bounds, most_clocks}
use Rattle.bus_bounds.proofs.BoundLaws.{short_more, long_more}
use Rattle.bus_margins.specs.Times.{least_time, most_time}

pub least_time_more : (bounds : Bounds) (a b : ℕ) → bounds.clocks ≤ most_clocks → a ≤ b → least_time bounds a ≤ least_time bounds b
least_time_more bounds a b h l = short_more bounds (500 * a) (500 * b) h (omega arith)

pub most_time_more : (bounds : Bounds) (a b : ℕ) → bounds.clocks ≤ most_clocks → a ≤ b → most_time bounds a ≤ most_time bounds b
most_time_more bounds a b h l = long_more bounds (500 * a) (500 * b) h (omega arith)
