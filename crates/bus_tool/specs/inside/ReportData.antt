-- The report of a table as the JSON value that is written.
use Rattle.std.specs.Prelude.{◌≡◌, ℕ, true, List, map, codes, String, string_bytes}
use Rattle.std.specs.declared.alloc.Global.{Global}
use Rattle.serde_json.specs.Data.{Data, number, unsigned, string, array, object, no_members, member}
use Rattle.serde_json.specs.View.{items_of}
use Rattle.bus_table.specs.Lengths.{shortest, longest}
use Rattle.bus_table.specs.Tables.{Sender, Table}
use Rattle.bus_table.specs.Turns.{turn_order}
use Rattle.bus_regime.specs.Lines.{verdict_words}
use Rattle.bus_table.specs.Text.{mode_word}
use Rattle.bus_regime.specs.Verdicts.{verdict_of}
use Rattle.bus_regime.specs.declared.table_verdict.TableVerdict.{TableVerdict}
use Rattle.bus_tool.specs.inside.Escapes.{are_plain}

-- A number.
abbrev pub count_data : ℕ → Data
count_data n = number (unsigned n)

-- A sender.
abbrev pub sender_data : Sender → Data
sender_data sender =
    object (member (codes "at") (count_data sender.at)
    (member (codes "longest") (count_data (longest sender))
    (member (codes "number") (count_data sender.number)
    (member (codes "shortest") (count_data (shortest sender))
    (member (codes "tg") (count_data sender.tg) no_members)))))

-- These senders, a verdict's words, and the numbers of a table.
abbrev pub data_of : (line mode : List ℕ) → List Sender → (sg ti : ℕ) → Data
data_of line mode senders sg ti =
    object (member (codes "line") (string line)
    (member (codes "mode") (string mode)
    (member (codes "senders") (array (items_of (map sender_data senders)))
    (member (codes "sg") (count_data sg)
    (member (codes "ti") (count_data ti) no_members)))))

-- The report of a table.
abbrev pub report_data : Table → Data
report_data table = data_of (verdict_words (verdict_of table)) (mode_word table.mode) (turn_order table) table.sg table.ti

-- The words of a verdict stand in a JSON string as they are.
abbrev pub ArePlainWords : TableVerdict → Type 0
ArePlainWords verdict = are_plain (verdict_words verdict) ≡ true

-- The line of a verdict, without its line feed.
pub record IsLine (verdict : TableVerdict) (line : String Global) : Type 0 where
  pub words : string_bytes line ≡ verdict_words verdict
  pub plain : ArePlainWords verdict
