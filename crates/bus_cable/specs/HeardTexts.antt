-- The heard text: what each terminal of a table hears of a list on a cable, terminal by terminal.
use Rattle.std.specs.Prelude.{ℕ, Bool, List, ◌++◌, map, codes, decimal, if◌then◌else◌}
use Rattle.std.specs.List.{flat_map}
use Rattle.bus_strings.specs.Messages.{Entry}
use Rattle.bus_table.specs.Tables.{Table}
use Rattle.bus_medium.specs.Delays.{Delays}
use Rattle.bus_cable.specs.Hearing.{hearings}

-- `C` where a transmission is garbled, else `-`, and the end of the line.
abbrev pub mark_text : Bool → List ℕ
mark_text garbled = if garbled then codes " C\n" else codes " -\n"

-- `HT m n c`: at moment m the terminal hears a transmission of terminal n begin.
abbrev pub hearing_line : Entry × Bool → List ℕ
hearing_line marked = codes "HT " ++ decimal marked.0.moment ++ codes " " ++ decimal marked.0.terminal ++ mark_text marked.1

-- `TERMINAL n`, and what that terminal hears of others.
abbrev pub terminal_text : Delays → List Entry → ℕ → List ℕ
terminal_text delay list number = codes "TERMINAL " ++ decimal number ++ codes "\n" ++ flat_map hearing_line (hearings delay list number)

-- The terminals of a table: its senders in table order, then its listeners.
abbrev pub terminals : Table → List ℕ
terminals table = map (λ sender. sender.number) table.senders ++ map (λ listener. listener.number) table.listeners

-- The one text of what the terminals of a table hear of a list with these delays: `HEARD 1`, each terminal, and `END`.
abbrev pub heard_text : Table → Delays → List Entry → List ℕ
heard_text table delay list = codes "HEARD 1\n" ++ flat_map (terminal_text delay list) (terminals table) ++ codes "END\n"
