-- What a valid table has, as facts.
use Rattle.std.specs.Prelude.{◌≡◌, ℕ, ◌<◌, ◌≤◌, true, ◌==◌, nat_eq, length, map}
use Rattle.std.specs.List.{IsDistinct, AllByRecursion}
use Rattle.bus_strings.specs.Limits.{most_terminal}
use Rattle.bus_table.specs.declared.mode.Mode.{Mode}
use Rattle.bus_table.specs.declared.mode.Mode.TheVariants.{Aperiodic, Periodic}
use Rattle.bus_table.specs.Tables.{Sender, Table}
use Rattle.bus_table.specs.Ranges.{is_sender}

-- What governs the offset of a sender: none in aperiodic mode, below the transmit interval in periodic mode.
abbrev pub FitsMode : Mode → ℕ → ℕ → Type 0
FitsMode Aperiodic ti at = at ≡ 0
FitsMode Periodic ti at = at < ti

-- A sender of a valid table.
pub record SenderFacts (table : Table) (sender : Sender) : Type 0 where
  pub in_range : is_sender sender ≡ true
  pub number_least : 1 ≤ sender.number
  pub number_most : sender.number ≤ most_terminal
  pub tg_least : 8 ≤ sender.tg
  pub tg_most : sender.tg ≤ 256
  pub tg_short : sender.tg < table.sg
  pub mode : FitsMode table.mode table.ti sender.at

-- A valid table.
pub record TableFacts (table : Table) : Type 0 where
  pub ti_least : 1000 ≤ table.ti
  pub ti_most : table.ti ≤ 128000
  pub sg_least : 9 ≤ table.sg
  pub sg_most : table.sg ≤ 1024
  pub some : 0 < length table.senders
  pub few : length table.senders ≤ most_terminal
  pub numbers : IsDistinct nat_eq (map (λ sender. sender.number) table.senders)
  pub gaps : IsDistinct (λ a b. a.tg == b.tg) table.senders
  pub senders : AllByRecursion (SenderFacts table) table.senders
