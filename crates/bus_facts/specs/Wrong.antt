-- Why a text gives no valid table.
use Rattle.std.specs.Prelude.{ℕ, Bool, false, List, [], ◌∷◌, map, codes, Option, Some, None}
use Rattle.std.specs.List.{filter}
use Rattle.serde_json.specs.Data.{Data, null, boolean, string, object, member, no_members}
use Rattle.bus_text.specs.Digits.{hex_digit, hexadecimal}
use Rattle.bus_text.specs.declared.reason.Reason.{Reason}
use Rattle.bus_text.specs.Reasons.{reason_word}
use Rattle.bus_table.specs.declared.error.WholeReason.{WholeReason}
use Rattle.bus_table.specs.declared.error.WholeReason.TheVariants.{NoSender, NumberTwice, GapTwice, GapNotShort, PairTwice, OffsetRange}
use Rattle.bus_table.specs.declared.keyword.Keyword.{Keyword}
use Rattle.bus_table.specs.Drafts.{may_end}
use Rattle.bus_table.specs.Forms.{all_keywords, word_of}
use Rattle.bus_table.specs.Stops.{Stop, may_stand, fitting, spent}
use Rattle.bus_facts.specs.Values.{count, list}

-- ---- a text that is refused
-- The keywords of the lines that may stand where a line is refused: its own, where a line of that may stand, else each that may.
abbrev pub standing : Stop → Option Keyword → List Keyword
standing stop (Some keyword) = keyword ∷ []
standing stop None = filter (may_stand stop) all_keywords

-- Whether the text may end there instead.
abbrev pub may_end_at : Stop → Option Keyword → Bool
may_end_at stop (Some keyword) = false
may_end_at stop None = may_end stop.stage

-- A keyword.
abbrev pub keyword_value : Keyword → Data
keyword_value keyword = string (word_of keyword)

-- What may stand at a stop.
abbrev pub standing_value : Stop → Data
standing_value stop = list (map keyword_value (standing stop (fitting stop)))

-- The keyword of a line that is one too many of its kind; null where it isn't refused for that.
abbrev pub spent_value : Option Keyword → Data
spent_value (Some keyword) = keyword_value keyword
spent_value None = null

-- Which line is refused and why, and what may stand there.
abbrev pub text_value : (line : ℕ) → Reason → Stop → Data
text_value line reason stop =
    object (member (codes "keywords") (standing_value stop)
    (member (codes "kind") (string (codes "text"))
    (member (codes "line") (count line)
    (member (codes "may_end") (boolean (may_end_at stop (fitting stop)))
    (member (codes "reason") (string (reason_word reason))
    (member (codes "spent") (spent_value (spent stop)) no_members))))))

-- ---- a table that is wrong as a whole
-- A reason alone.
abbrev pub bare_value : List ℕ → Data
bare_value reason = object (member (codes "kind") (string (codes "table")) (member (codes "reason") (string reason) no_members))

-- A reason, and the terminal in question.
abbrev pub terminal_value : List ℕ → ℕ → Data
terminal_value reason terminal =
    object (member (codes "kind") (string (codes "table"))
    (member (codes "reason") (string reason)
    (member (codes "terminal") (count terminal) no_members)))

-- The label and extension that two SEND lines have.
abbrev pub pair_value : (label ext : ℕ) → Data
pair_value label ext =
    object (member (codes "ext") (string (hex_digit ext ∷ []))
    (member (codes "kind") (string (codes "table"))
    (member (codes "label") (string (hexadecimal 3 label))
    (member (codes "reason") (string (codes "PairTwice")) no_members))))

-- Why the table is wrong.
abbrev pub whole_value : WholeReason → Data
whole_value NoSender = bare_value (codes "NoSender")
whole_value (NumberTwice terminal) = terminal_value (codes "NumberTwice") terminal
whole_value (GapTwice terminal) = terminal_value (codes "GapTwice") terminal
whole_value (GapNotShort terminal) = terminal_value (codes "GapNotShort") terminal
whole_value (PairTwice label ext) = pair_value label ext
whole_value (OffsetRange terminal) = terminal_value (codes "OffsetRange") terminal
