-- How far the transmissions before the last one reach: one running number, in place of a look at each of them.
use Rattle.std.specs.Prelude.{◌≡◌, ℕ, nat_lt, List}
use Rattle.bus_strings.specs.Messages.{Entry}
use Rattle.bus_trace.specs.States.{ends_behind, earlier}

-- One of them ends behind a moment exactly where the moment is below this number: it is the greatest of their ends.
abbrev pub IsReach : List Entry → ℕ → Type 0
IsReach list reach = (moment : ℕ) → ends_behind moment (earlier list) ≡ nat_lt moment reach
