-- Where senders stand, by their numbers.
use Rattle.std.specs.Prelude.{◌≡◌, ℕ, ◌<◌, ◌==◌, List, Option, None, position, slice_index_or}
use Rattle.bus_table.specs.Tables.{Sender}

-- For each number that a `u8` can be, the place of the sender with it.
abbrev pub ArePlaces : List Sender → List (Option ℕ) → Type 0
ArePlaces senders places =
    (number : ℕ) → number < 256 → slice_index_or places number None ≡ position (λ sender. sender.number == number) senders
