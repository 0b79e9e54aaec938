-- How the numbers of a sender go on with one more start.
use Rattle.std.specs.Prelude.{ℕ, ◌-◌, min, max, List, slice_get, Option, Some, None}
use Rattle.std.specs.Option.{option_map_or}
use Rattle.bus_strings.specs.Messages.{Entry}
use Rattle.bus_findings.specs.declared.watch.Last.{Last}

abbrev pub lesser : Option ℕ → ℕ → ℕ
lesser None n = n
lesser (Some least) n = min least n

abbrev pub greater : Option ℕ → ℕ → ℕ
greater None n = n
greater (Some most) n = max most n

abbrev pub with_least : Option ℕ → Option ℕ → Option ℕ
with_least so_far None = None
with_least so_far (Some n) = Some (lesser so_far n)

abbrev pub with_most : Option ℕ → Option ℕ → Option ℕ
with_most so_far None = None
with_most so_far (Some n) = Some (greater so_far n)

-- The moment of the transmission at a place.
abbrev pub moment_at : List Entry → ℕ → ℕ
moment_at list k = option_map_or (λ x. x.moment) (slice_get list k) 0

-- How far the transmission at place i stands from the last start.
abbrev pub apart_from : List Entry → Option Last → ℕ → Option ℕ
apart_from list None i = None
apart_from list (Some last) i = Some (moment_at list i - moment_at list last.place)
