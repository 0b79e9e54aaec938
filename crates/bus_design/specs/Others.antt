-- Other tables of the same senders in the same order: all but their gaps and the transmit interval is told by the given one.
use Rattle.std.specs.Prelude.{◌≡◌, ℕ, List, [], ◌∷◌, map, length, IsTrue}
use Rattle.bus_table.specs.declared.mode.Mode.TheVariants.{Aperiodic}
use Rattle.bus_table.specs.Lengths.{shortest, longest}
use Rattle.bus_table.specs.Tables.{Sender, Table}
use Rattle.bus_table.specs.Ranges.{least_ti}
use Rattle.bus_table.specs.Turns.{turn_order}
use Rattle.bus_table.specs.Valid.{is_valid}
use Rattle.bus_gaps.specs.declared.speaker.Speaker.{Speaker}

-- A sender with another terminal gap.
abbrev pub at_gap : ℕ → Sender → Sender
at_gap tg sender = record { number = sender.number; tg = tg; at = sender.at; sends = sender.sends; takes = sender.takes }

-- Senders with these terminal gaps, one for each.
abbrev pub with_gaps : List Sender → List ℕ → List Sender
with_gaps [] gaps = []
with_gaps (a ∷ senders) [] = []
with_gaps (a ∷ senders) (x ∷ gaps) = at_gap x a ∷ with_gaps senders gaps

-- Another valid aperiodic table, whose senders are those of the given one in the same turn order, with these terminal gaps.
pub record IsAnother (table other : Table) (gaps : List ℕ) : Type 0 where
  pub valid : IsTrue (is_valid other)
  pub mode : other.mode ≡ Aperiodic
  pub count : length gaps ≡ length (turn_order table)
  pub order : turn_order other ≡ with_gaps (turn_order table) gaps

-- The terminal gaps of a table, in the order of its senders.
abbrev pub gaps_of : Table → List ℕ
gaps_of table = map (λ sender. sender.tg) table.senders

-- The table that is made with these gaps: the same senders in turn order and the same listeners, at the least transmit interval.
abbrev pub made_table : Table → ℕ → List ℕ → Table
made_table table sg gaps =
    record { mode = Aperiodic; ti = least_ti; sg = sg; senders = with_gaps (turn_order table) gaps; listeners = table.listeners }

-- How long the senders of a table speak, in turn order.
abbrev pub speaker_of : Sender → Speaker
speaker_of sender = record { shortest = shortest sender; longest = longest sender }

abbrev pub speakers_of : Table → List Speaker
speakers_of table = map speaker_of (turn_order table)
