-- Whether a table starts itself, and with what transmit intervals it does.
use Rattle.std.specs.Prelude.{ℕ, Bool, codes, Option, Some, None, if◌then◌else◌}
use Rattle.serde_json.specs.Data.{Data, null, boolean, object, member, no_members}
use Rattle.bus_table.specs.declared.mode.Mode.{Mode}
use Rattle.bus_table.specs.declared.mode.Mode.TheVariants.{Aperiodic, Periodic}
use Rattle.bus_table.specs.Ranges.{least_ti, most_ti}
use Rattle.bus_table.specs.Tables.{Table}
use Rattle.bus_advice.specs.Changes.{with_interval}
use Rattle.bus_reach.specs.Bearing.{greatest_to}
use Rattle.bus_regime.specs.Starting.{starts_itself}
use Rattle.bus_facts.specs.Values.{count_or_null}

-- Whether a table would start itself with this transmit interval.
abbrev pub starts_with : Table → ℕ → Bool
starts_with table ti = starts_itself (with_interval ti table)

-- The greatest transmit interval with which it would; none where it wouldn't with the least.
unfoldable pub greatest_start : Table → Option ℕ
greatest_start table = if starts_with table least_ti then Some (greatest_to (starts_with table) most_ti) else None

-- What is told of the start of a table of this mode; nothing in periodic mode, in which none starts itself.
abbrev pub start_value_in : Mode → Table → Data
start_value_in Aperiodic table =
    object (member (codes "greatest_ti") (count_or_null (greatest_start table))
    (member (codes "itself") (boolean (starts_itself table)) no_members))
start_value_in Periodic table = null

-- What is told of the start of a table.
abbrev pub start_value : Table → Data
start_value table = start_value_in table.mode table
