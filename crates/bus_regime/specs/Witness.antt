-- The witness of a table, by this project's profile: the messages that tell a refused table. With the shortest messages the cycles of an
-- aperiodic table are shortest; with the longest messages the gaps of a periodic table are narrowest. Of two rounds the second shows it.
use Rattle.std.specs.Prelude.{List, ◌++◌, map}
use Rattle.bus_strings.specs.Items.{Item}
use Rattle.bus_table.specs.Filling.{filling_item}
use Rattle.bus_table.specs.Tables.{Table}

-- One filling message of each sender, in the order of the table.
abbrev pub filling_round : Table → List Item
filling_round table = map (filling_item table.mode) table.senders

-- Two such rounds.
abbrev pub witness_of : Table → List Item
witness_of table = filling_round table ++ filling_round table
