-- From which transmit interval on there is room for a plan, in closed form.
use Rattle.std.specs.Prelude.{ℕ, max, nat_le, Option}
use Rattle.bus_table.specs.Ranges.{kept, most_ti}
use Rattle.bus_table.specs.Tables.{Table}
use Rattle.bus_plan.specs.Plans.{least_interval}

-- The least interval of a table, or its transmit interval where that is greater, unless no transmit interval is as great.
abbrev pub roomy_interval : Table → Option ℕ
roomy_interval table = kept (λ n. nat_le n most_ti) (max (least_interval table) table.ti)
