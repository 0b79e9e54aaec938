-- What is claimed of a drill.
use Rattle.std.specs.Prelude.{ℕ, length}
use Rattle.bus_schedule.specs.Closed.{closed_end}
use Rattle.bus_audit.specs.Breaches.{garbled_count}
use Rattle.bus_filter.specs.ReceivedTexts.{received_count}
use Rattle.bus_vectors.specs.Made.{sender_count, round_count, made_table}
use Rattle.bus_tool.specs.Drills.{drill_hands, drill_list}
use Rattle.bus_tool.specs.Replies.{Reply, TheDrill}

-- What is answered of the drill of a number: how many senders and rounds it has, how many messages, when it ends, how many of them are
-- garbled, and how many received lines there are.
abbrev pub drill_reply : ℕ → Reply
drill_reply number =
    TheDrill number (sender_count number) (round_count number) (length (drill_list number))
    (closed_end (made_table number) (drill_hands number)) (garbled_count (drill_list number))
    (received_count (made_table number) (drill_list number))
