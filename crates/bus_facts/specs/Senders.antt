-- The senders of a table, and the wordstrings of their messages.
--   pace   of an accepted table: the verdict's greatest distance of two starts, and the tolerance
use Rattle.std.specs.Prelude.{ℕ, suc, ◌+◌, List, [], ◌∷◌, map, codes, Option, Some, None}
use Rattle.std.specs.Option.{option_map}
use Rattle.serde_json.specs.Data.{Data, null, number, string, object, member, no_members}
use Rattle.serde_json.specs.Find.{of_integer}
use Rattle.bus_text.specs.Digits.{hexadecimal, hex_digit}
use Rattle.bus_table.specs.declared.line.SendLine.{SendLine}
use Rattle.bus_table.specs.declared.mode.Mode.{Mode}
use Rattle.bus_table.specs.declared.mode.Mode.TheVariants.{Aperiodic, Periodic}
use Rattle.bus_table.specs.Lengths.{shortest, longest}
use Rattle.bus_table.specs.Tables.{Sender, Table}
use Rattle.bus_table.specs.Turns.{turn_order}
use Rattle.bus_regime.specs.Gaps.{Gap, gaps, width}
use Rattle.bus_reach.specs.Latency.{longest_wait, latency}
use Rattle.bus_facts.specs.declared.pace.Pace.{Pace}
use Rattle.bus_facts.specs.Takes.{taken_by_value}
use Rattle.bus_facts.specs.Values.{count, count_or_null, delayed, list}

-- The longest wait from one start of a sender to its next; null of a refused table.
abbrev pub wait_value : Table → Option Pace → Data
wait_value table None = null
wait_value table (Some pace) = delayed (option_map (longest_wait table pace.most) pace.tolerance) (longest_wait table pace.most 0)

-- The latency of data on the line at this place of a sender, from 0; null of a refused table.
abbrev pub latency_value : Table → Option Pace → Sender → ℕ → Data
latency_value table None sender place = null
latency_value table (Some pace) sender place =
    delayed (option_map (λ d. latency table pace.most d sender place) pace.tolerance) (latency table pace.most 0 sender place)

-- A wordstring, by its label and extension as a table text writes them, with the bounds of its data words, and who takes it.
abbrev pub send_value : Data → Data → SendLine → Data
send_value latency taken_by line =
    object (member (codes "ext") (string (hex_digit line.ext ∷ []))
    (member (codes "label") (string (hexadecimal 3 line.label))
    (member (codes "latency") latency
    (member (codes "least") (count line.least)
    (member (codes "most") (count line.most)
    (member (codes "taken_by") taken_by no_members))))))

-- The wordstrings on these lines of a sender, of which the first stands at this place.
abbrev pub send_values : Table → Option Pace → Sender → ℕ → List SendLine → List Data
send_values table pace sender place [] = []
send_values table pace sender place (line ∷ lines) =
    send_value (latency_value table pace sender place) (taken_by_value table sender.number line) line ∷ send_values table pace sender (suc place) lines

-- A sender, whose offset it has in periodic mode alone, behind this gap.
abbrev pub sender_value : Table → Option Pace → Option ℕ → (gap : Data) → Sender → Data
sender_value table pace at gap sender =
    object (member (codes "at") (count_or_null at)
    (member (codes "gap") gap
    (member (codes "longest") (count (longest sender))
    (member (codes "number") (count sender.number)
    (member (codes "sends") (list (send_values table pace sender 0 sender.sends))
    (member (codes "shortest") (count (shortest sender))
    (member (codes "tg") (count sender.tg)
    (member (codes "wait") (wait_value table pace) no_members))))))))

-- Senders that speak in turn: before a cycle the synchronization gap comes before the terminal gap of the first.
abbrev pub turn_values : Table → Option Pace → (before : ℕ) → List Sender → List Data
turn_values table pace before [] = []
turn_values table pace before (sender ∷ order) =
    sender_value table pace None (count (before + sender.tg)) sender ∷ turn_values table pace 0 order

-- A sender that starts at its offset, behind this gap, which is below 0 where it is an overlap.
abbrev pub offset_value : Table → Option Pace → Gap → Data
offset_value table pace gap = sender_value table pace (Some gap.sender.at) (number (of_integer (width gap))) gap.sender

-- The senders of a table of this mode, in turn order.
abbrev pub sender_values_in : Mode → Table → Option Pace → List Data
sender_values_in Aperiodic table pace = turn_values table pace table.sg (turn_order table)
sender_values_in Periodic table pace = map (offset_value table pace) (gaps table)

-- The senders of a table, in turn order.
abbrev pub senders_value : Table → Option Pace → Data
senders_value table pace = list (sender_values_in table.mode table pace)
