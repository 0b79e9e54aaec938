-- What a drill finds: the closed schedule of the input that a number makes, which is accepted.
use Rattle.std.specs.Prelude.{ℕ, List, ◌++◌, codes, length, decimal}
use Rattle.bus_strings.specs.Messages.{Entry}
use Rattle.bus_table.specs.Hands.{hands_of}
use Rattle.bus_table.specs.Tables.{Hand}
use Rattle.bus_schedule.specs.Closed.{closed, closed_end}
use Rattle.bus_audit.specs.Breaches.{garbled_count}
use Rattle.bus_filter.specs.ReceivedTexts.{received_count}
use Rattle.bus_vectors.specs.Made.{sender_count, round_count, made_table, made_items}

-- The hands of a number's senders.
abbrev pub drill_hands : ℕ → List Hand
drill_hands number = hands_of (made_table number) (made_items number)

-- What they do, which is the closed schedule.
abbrev pub drill_list : ℕ → List Entry
drill_list number = closed (made_table number) (drill_hands number)

-- `DRILL N senders K rounds R messages m end e collided c received x`
abbrev pub figures : (number senders rounds messages end collided received : ℕ) → List ℕ
figures number senders rounds messages end collided received =
    codes "DRILL " ++ decimal number ++ (codes " senders " ++ decimal senders) ++ (codes " rounds " ++ decimal rounds)
    ++ (codes " messages " ++ decimal messages) ++ (codes " end " ++ decimal end) ++ (codes " collided " ++ decimal collided)
    ++ (codes " received " ++ decimal received) ++ codes "\n"

-- The line of the drill of a number.
abbrev pub drill_line : ℕ → List ℕ
drill_line number =
    figures number (sender_count number) (round_count number) (length (drill_list number))
    (closed_end (made_table number) (drill_hands number)) (garbled_count (drill_list number))
    (received_count (made_table number) (drill_list number))
