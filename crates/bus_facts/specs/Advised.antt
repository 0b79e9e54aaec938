-- Advices: what to change, by the word with which `explain` begins the advice, and to what.
use Rattle.std.specs.Prelude.{ℕ, List, map, codes}
use Rattle.serde_json.specs.Data.{Data, string, object, member, no_members}
use Rattle.bus_advice.specs.declared.advice.Advice.{Advice}
use Rattle.bus_advice.specs.declared.advice.Advice.TheVariants.{Interval, Synchronization, Gap, Least, Plan, AsPeriodic, Start}
use Rattle.bus_facts.specs.Values.{count, list}

-- One number of the table.
abbrev pub table_change : List ℕ → ℕ → Data
table_change word to = object (member (codes "change") (string word) (member (codes "to") (count to) no_members))

-- The terminal gap of a terminal.
abbrev pub gap_change : (terminal to : ℕ) → Data
gap_change terminal to =
    object (member (codes "change") (string (codes "TG"))
    (member (codes "terminal") (count terminal)
    (member (codes "to") (count to) no_members)))

-- The least number of data words on a SEND line of a terminal, counted from 1.
abbrev pub least_change : (terminal line to : ℕ) → Data
least_change terminal line to =
    object (member (codes "change") (string (codes "LEAST"))
    (member (codes "line") (count line)
    (member (codes "terminal") (count terminal)
    (member (codes "to") (count to) no_members))))

-- An advice.
abbrev pub advice_value : Advice → Data
advice_value (Interval ti) = table_change (codes "TI") ti
advice_value (Synchronization sg) = table_change (codes "SG") sg
advice_value (Gap terminal tg) = gap_change terminal tg
advice_value (Least terminal line least) = least_change terminal line least
advice_value (Plan ti) = table_change (codes "PLAN") ti
advice_value (AsPeriodic ti) = table_change (codes "PERIODIC") ti
advice_value (Start ti) = table_change (codes "START") ti

-- Advices in their order.
abbrev pub advices_value : List Advice → Data
advices_value advices = list (map advice_value advices)
