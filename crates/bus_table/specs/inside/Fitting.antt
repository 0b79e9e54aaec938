-- Items that fit.
use Rattle.std.specs.Prelude.{ℕ, Bool, false, List}
use Rattle.std.specs.Option.{option_map_or}
use Rattle.bus_strings.specs.Items.{Item}
use Rattle.bus_table.specs.Fits.{has_shape, sender_of}
use Rattle.bus_table.specs.Tables.{Sender}

-- Whether an item has a sender, whose lines ask for its shape.
abbrev pub is_fit : List Sender → Item → Bool
is_fit senders item = option_map_or (λ sender. has_shape sender.sends item.strings) (sender_of senders item.terminal) false
