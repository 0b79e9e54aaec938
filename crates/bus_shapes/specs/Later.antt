-- When a terminal starts that should have started before.
use Rattle.std.specs.Prelude.{ℕ, ◌-◌, Bool, ◌&&◌, ◌==◌, nat_lt, List, Option}
use Rattle.std.specs.List.{find}
use Rattle.std.specs.Option.{option_map}
use Rattle.bus_strings.specs.Messages.{Entry}

-- Whether a transmission is of this terminal and begins behind a moment.
abbrev pub starts_behind : ℕ → ℕ → Entry → Bool
starts_behind moment terminal x = x.terminal == terminal && nat_lt moment x.moment

-- How many bit times behind a moment this terminal starts next, where it does.
abbrev pub later : ℕ → ℕ → List Entry → Option ℕ
later moment terminal list = option_map (λ (x : Entry). x.moment - moment) (find (starts_behind moment terminal) list)
