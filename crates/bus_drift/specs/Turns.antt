-- Turns of a periodic bus, told by number: whose each is, and how long it takes from one to another. Turn n is of sender n modulo the
-- number of senders.
use Rattle.std.specs.Prelude.{ℕ, suc, ◌+◌, ◌-◌, ◌%◌, get_or}
use Rattle.bus_clocks.specs.Buses.{Bus, sum_below}
use Rattle.bus_clocks.specs.Entries.{Entry}
use Rattle.bus_clocks.specs.Courses.{Course}

-- Whose turn n is: 0, 1, .. senders - 1, 0, ..
abbrev pub who : Bus → ℕ → ℕ
who bus n = n % bus.senders

-- The sum of the values of f from i on, and before j.
abbrev pub between : (ℕ → ℕ) → ℕ → ℕ → ℕ
between f i j = sum_below (λ l. f (i + l)) (j - i)

-- From the start of turn n to that of the next one, where that waits for nothing but turn n, it takes at most so long,
abbrev pub longest_step : Bus → ℕ → ℕ
longest_step bus n = bus.longest (who bus n) + bus.delay + bus.tg_long (who bus (suc n))

-- and at least so long.
abbrev pub shortest_step : Bus → ℕ → ℕ
shortest_step bus n = bus.shortest (who bus n) + bus.tg_short (who bus (suc n))

-- From the start of turn i to that of turn j, where each waits for the one before it alone, it takes at most so long,
abbrev pub slowest : Bus → ℕ → ℕ → ℕ
slowest bus i j = between (longest_step bus) i j

-- and at least so long.
abbrev pub fastest : Bus → ℕ → ℕ → ℕ
fastest bus i j = between (shortest_step bus) i j

-- The n-th transmission of a course, from 0 on; where it has none, an empty one.
abbrev pub turn : Course → ℕ → Entry
turn c n = get_or c.list n (record { moment = 0; sender = 0; length = 0 })
