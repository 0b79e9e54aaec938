-- For which delays it is known, by proof, from which interval on some offsets bear them.
use Rattle.std.specs.Prelude.{ℕ, ◌+◌, Bool, ◌||◌, ◌==◌, nat_le, nat_lt, length}
use Rattle.std.specs.List.{list_all}
use Rattle.bus_table.specs.Tables.{Table}

-- Each terminal gap and d are below the synchronization gap.
abbrev pub none_reach : ℕ → Table → Bool
none_reach d table = list_all (λ sender. nat_lt (sender.tg + d) table.sg) table.senders

-- Each terminal gap and d are as long as the synchronization gap.
abbrev pub all_reach : ℕ → Table → Bool
all_reach d table = list_all (λ sender. nat_le table.sg (sender.tg + d)) table.senders

-- The least interval for d is proved to be the least in which any offsets bear d: of two senders for every d, of more where none or all of
-- them reach the synchronization gap.
abbrev pub is_known : ℕ → Table → Bool
is_known d table = length table.senders == 2 || (none_reach d table || all_reach d table)
