-- What the terminals of a bus have heard, where a list of transmissions is all that was sent.
--   quiet     how long the bus was quiet before the settled start, in bit times
--   moment    a number of bit times from the settled start; bit time t lies between the moments t and t + 1
--   place     a moment counted from the beginning of the past, so `quiet` more
use Rattle.std.specs.Prelude.{ℕ, zero, suc, ◌+◌, Bool, false, ◌&&◌, ◌==◌, nat_lt, List, [], ◌∷◌, ◌++◌, replicate, filter, fold, Option}
use Rattle.std.specs.Prelude.{Some, None}
use Rattle.bus_strings.specs.Messages.{Entry}
use Rattle.bus_strings.specs.Transmissions.{carrier}

-- The past at moment t: the quiet before the settled start, and then the carrier of each bit time up to t.
abbrev pub past : ℕ → List Entry → ℕ → List Bool
past quiet list zero = replicate quiet false
past quiet list (suc t) = past quiet list t ++ carrier list t ∷ []

-- The transmissions of the terminal with this number that start before moment t.
abbrev pub own : List Entry → ℕ → ℕ → List Entry
own list number t = filter (λ x. x.terminal == number && nat_lt x.moment t) list

-- The place in the past at which the last of these starts.
abbrev pub last_place : ℕ → List Entry → Option ℕ
last_place quiet list = fold (λ _ x. Some (quiet + x.moment)) None list
