-- What a picture says in words: of a table, of a moment and of a transmission.
use Rattle.std.specs.Prelude.{ℕ, ◌-◌, ◌*◌, ◌/◌, ◌%◌, Bool, true, false, List, [], ◌++◌, length, codes, decimal}
use Rattle.bus_table.specs.declared.mode.Mode.{Mode}
use Rattle.bus_table.specs.Tables.{Table}
use Rattle.bus_table.specs.Text.{mode_word}
use Rattle.bus_pen.specs.Numbers.{counted, parted}
pub use Rattle.bus_shapes.specs.declared.sent.Sent.{Sent}

-- ---- a table
-- A mode, the transmit interval, the synchronization gap, and how many senders there are.
abbrev pub summary_words : Mode → ℕ → ℕ → ℕ → List ℕ
summary_words mode ti sg senders =
    mode_word mode ++ codes " TI " ++ parted (decimal ti) ++ codes " SG " ++ parted (decimal sg) ++ codes ", "
    ++ counted senders (codes "sender")

-- The same of a table.
abbrev pub table_words : Table → List ℕ
table_words table = summary_words table.mode table.ti table.sg (length table.senders)

-- ---- a transmission
-- A moment in microseconds, with one decimal: a bit time is half of one.
abbrev pub decimal_microseconds : ℕ → List ℕ
decimal_microseconds t = decimal (t / 2) ++ codes "." ++ decimal (t % 2 * 5)

-- Whether it is garbled, in words.
abbrev pub garbled_words : Bool → List ℕ
garbled_words true = codes ", garbled"
garbled_words false = []

-- Who sends what when, and whether it is garbled.
abbrev pub sent_words : Sent → List ℕ
sent_words sent =
    codes "T" ++ decimal sent.terminal ++ codes " message " ++ decimal sent.number ++ codes ": moments " ++ decimal sent.moment
    ++ codes " to " ++ decimal sent.end ++ codes ", " ++ decimal (sent.end - sent.moment) ++ codes " bit times, "
    ++ decimal_microseconds sent.moment ++ codes " to " ++ decimal_microseconds sent.end ++ codes " microseconds"
    ++ garbled_words sent.garbled
