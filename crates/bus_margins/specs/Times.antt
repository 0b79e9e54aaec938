-- How long what a table says in bit times lasts within bounds, in nanoseconds: a bit time has 500.
use Rattle.std.specs.Prelude.{ℕ, ◌+◌, ◌*◌}
use Rattle.bus_bounds.specs.Bounds.{Bounds, error, short, long}

-- How long a timer, or a message, of so many bit times lasts at least, and at most.
abbrev pub least_time : Bounds → ℕ → ℕ
least_time bounds bits = short bounds (500 * bits)

abbrev pub most_time : Bounds → ℕ → ℕ
most_time bounds bits = long bounds (500 * bits)

-- Within a message nobody hears so many quiet nanoseconds in a row: four bit times are quiet between two wordstrings.
abbrev pub drop_of : Bounds → ℕ
drop_of bounds = 2001 + error bounds 2000 + bounds.delay
