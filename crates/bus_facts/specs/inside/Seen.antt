-- What contracts see of what is told of a table.
use Rattle.std.specs.Prelude.{◌≡◌, Bool, false, [], codes}
use Rattle.serde_json.specs.Data.{Data, Members, boolean, null, member, no_members}
use Rattle.serde_json.specs.View.{view}
use Rattle.bus_table.specs.Tables.{Table}
use Rattle.bus_regime.specs.Verdicts.{verdict_of, is_accepted}
use Rattle.bus_advice.specs.Advices.{advices_of}
use Rattle.bus_facts.specs.Advised.{advices_value}
use Rattle.bus_facts.specs.Values.{list}
use Rattle.bus_facts.specs.Starts.{start_value}
use Rattle.bus_facts.specs.Verdicts.{verdict_value}
use Rattle.bus_facts.specs.declared.table.Figures.{Figures}
use Rattle.bus_facts.specs.declared.table.Heads.{Heads}
use Rattle.bus_facts.specs.Facts as facts

-- The figures of a table, each as its JSON value.
abbrev pub seen : Figures → facts.Figures
seen figures = record {
  cycle = view figures.cycle;
  load = view figures.load;
  margins = view figures.margins;
  spare = view figures.spare;
  tolerance = view figures.tolerance;
  senders = view figures.senders;
  takes = view figures.takes;
}

-- The members that are told of a table before its mode.
abbrev pub first_members : Bool → (advices cycle load margins : Data) → Members
first_members accepted advices cycle load margins =
    member (codes "accepted") (boolean accepted)
    (member (codes "advices") advices
    (member (codes "cycle") cycle
    (member (codes "error") null
    (member (codes "load") load
    (member (codes "margins") margins no_members)))))

-- Those that are told of a text that gives no valid table.
abbrev pub error_front : Data → Members
error_front error =
    member (codes "accepted") (boolean false)
    (member (codes "advices") (list [])
    (member (codes "cycle") null
    (member (codes "error") error
    (member (codes "load") null
    (member (codes "margins") null no_members)))))

-- What stands beside them is the table's.
pub record AreHeadsOf (table : Table) (heads : Heads) : Type 0 where
  pub accepts : heads.accepted ≡ is_accepted (verdict_of table)
  pub mode : heads.mode ≡ table.mode
  pub sg : heads.sg ≡ table.sg
  pub ti : heads.ti ≡ table.ti
  pub advices : view heads.advices ≡ advices_value (advices_of table)
  pub start : view heads.start ≡ start_value table
  pub verdict : view heads.verdict ≡ verdict_value (verdict_of table)
