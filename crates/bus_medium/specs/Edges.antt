-- How many wordstrings a list has: the pulses of its transmissions, each of which has two edges.
use Rattle.std.specs.Prelude.{ℕ, List, length}
use Rattle.std.specs.List.{sum_by}
use Rattle.bus_strings.specs.Messages.{Entry}

-- The wordstrings sent.
unfoldable pub strings_sent : List Entry → ℕ
strings_sent list = sum_by (λ x. length x.message) list
