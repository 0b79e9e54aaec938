-- The ranges of the numbers of a table, as tests.
use Rattle.std.specs.Prelude.{ℕ, Bool, true, ◌&&◌, nat_lt, nat_le, List, length, Option, Some, None, if◌then◌else◌}
use Rattle.std.specs.Int.{is_in_range}
use Rattle.std.specs.List.{list_all}
use Rattle.std.specs.Option.{option_map_or}
use Rattle.bus_strings.specs.Limits.{most_terminal, most_strings, most_words}
use Rattle.bus_table.specs.Tables.{SendLine, TakeLine, Sender, Listener}

-- A value, where a test takes it.
abbrev pub kept : {X : Type 0} → (X → Bool) → X → Option X
kept test value = if test value then Some value else None

-- A terminal number.
abbrev pub is_number : ℕ → Bool
is_number n = is_in_range 1 most_terminal n

-- The least and the greatest transmit interval, in bit times.
abbrev pub least_ti : ℕ
least_ti = 1000

abbrev pub most_ti : ℕ
most_ti = 128000

-- The least and the greatest synchronization gap, in bit times.
abbrev pub least_sg : ℕ
least_sg = 9

abbrev pub most_sg : ℕ
most_sg = 1024

-- The least and the greatest terminal gap, in bit times.
abbrev pub least_tg : ℕ
least_tg = 8

abbrev pub most_tg : ℕ
most_tg = 256

-- A transmit interval.
abbrev pub is_ti : ℕ → Bool
is_ti n = is_in_range least_ti most_ti n

-- A synchronization gap.
abbrev pub is_sg : ℕ → Bool
is_sg n = is_in_range least_sg most_sg n

-- A terminal gap.
abbrev pub is_tg : ℕ → Bool
is_tg n = is_in_range least_tg most_tg n

-- An offset, which is below the greatest transmit interval.
abbrev pub is_offset : ℕ → Bool
is_offset n = nat_lt n most_ti

-- A label: twelve bits.
abbrev pub is_label : ℕ → Bool
is_label n = nat_lt n 4096

-- An extension: four bits.
abbrev pub is_ext : ℕ → Bool
is_ext n = nat_lt n 16

-- A SEND line: no more data words than a wordstring may have, and the least not above the most.
abbrev pub is_send_line : SendLine → Bool
is_send_line line = is_label line.label && (is_ext line.ext && (nat_le line.least line.most && nat_le line.most most_words))

-- A TAKE line: at least one data word, from a place that a wordstring can have.
abbrev pub is_take_line : TakeLine → Bool
is_take_line line =
    is_label line.label
    && (option_map_or is_ext line.ext true && (nat_lt line.first most_words && is_in_range 1 most_words line.count))

-- The most TAKE lines of a terminal.
abbrev pub most_takes : ℕ
most_takes = 64

-- The TAKE lines of a terminal.
abbrev pub are_take_lines : List TakeLine → Bool
are_take_lines takes = nat_le (length takes) most_takes && list_all is_take_line takes

-- The SEND lines of a terminal.
abbrev pub are_send_lines : List SendLine → Bool
are_send_lines sends = is_in_range 1 most_strings (length sends) && list_all is_send_line sends

-- A sender of which each number is in its range.
abbrev pub is_sender : Sender → Bool
is_sender sender =
    is_number sender.number
    && (is_tg sender.tg && (is_offset sender.at && (are_send_lines sender.sends && are_take_lines sender.takes)))

-- A listener of which each number is in its range.
abbrev pub is_listener : Listener → Bool
is_listener listener = is_number listener.number && are_take_lines listener.takes
