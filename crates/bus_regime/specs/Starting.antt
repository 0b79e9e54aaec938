-- Which aperiodic tables start themselves: without delays, and as long as messages are left, their order comes about whenever their
-- terminals are powered up. And which of the others may never find it, since senders that start at once do so for ever.
use Rattle.std.specs.Prelude.{◌+◌, Bool, nat_le}
use Rattle.std.specs.List.{list_all}
use Rattle.bus_table.specs.Lengths.{shortest, longest}
use Rattle.bus_table.specs.Tables.{Table}
use Rattle.bus_table.specs.Timers.{greatest_gap}

-- Whether the table starts itself: no transmit interval outlasts what a sender waits and sends at least from one start to the next.
abbrev pub starts_itself : Table → Bool
starts_itself table = list_all (λ sender. nat_le table.ti (table.sg + sender.tg + shortest sender)) table.senders

-- Whether its senders never part, once they all start at once: the transmit interval is no shorter than any message, a synchronization gap
-- and the greatest terminal gap together. Each then waits for its interval alone, and so they start at once again.
abbrev pub never_parts : Table → Bool
never_parts table = list_all (λ sender. nat_le (table.sg + greatest_gap table.senders + longest sender) table.ti) table.senders
