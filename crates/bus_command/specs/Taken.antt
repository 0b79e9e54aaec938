-- What the commands take from their sources.
use Rattle.std.specs.Prelude.{◌≡◌, ◌≤◌, List, length, Vec, IsTrue}
use Rattle.std.specs.List.{AllByRecursion}
use Rattle.std.specs.declared.alloc.Global.{Global}
use Rattle.bus_strings.specs.Items.{Item}
use Rattle.bus_table.specs.Tables.{Table, Hand}
use Rattle.bus_table.specs.Hands.{hands_of, are_hands}
use Rattle.bus_command.specs.Readers.{text_limit}

-- The hands that items give the senders of a table.
abbrev pub AreHandsOf : Table → Vec Hand Global → List Item → Type 0
AreHandsOf table hands items = hands.items ≡ hands_of table items

-- One hand for each sender, whose messages fit, and no more messages than a text has bytes.
pub record AreReady (table : Table) (hands : List Hand) : Type 0 where
  pub fit : IsTrue (are_hands table.senders hands)
  pub few : AllByRecursion (λ hand. length hand.messages ≤ text_limit) hands
