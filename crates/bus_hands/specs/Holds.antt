-- What hands hold, as the HOLD lines of a trace.
use Rattle.std.specs.Prelude.{ℕ, ◌==◌, List, length, Option}
use Rattle.std.specs.List.{find, filter_map, range_with_len}
use Rattle.std.specs.Option.{option_map}
use Rattle.bus_strings.specs.Limits.{most_terminal}
use Rattle.bus_table.specs.Tables.{Hand}
use Rattle.bus_trace.specs.declared.hold.Hold.{Hold}

-- The number of a hand's terminal and how many messages it has.
abbrev pub hold_of_hand : Hand → Hold
hold_of_hand hand = record { terminal = hand.terminal; count = length hand.messages }

-- The hold of the hand of the terminal with a number, where there is one.
abbrev pub hand_hold : List Hand → ℕ → Option Hold
hand_hold hands number = option_map hold_of_hand (find (λ hand. hand.terminal == number) hands)

-- The holds of hands, by rising number.
unfoldable pub hand_holds : List Hand → List Hold
hand_holds hands = filter_map (hand_hold hands) (range_with_len 1 most_terminal)
