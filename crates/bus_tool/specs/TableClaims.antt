-- What is claimed of `check`: what its status tells of a table.
use Rattle.std.specs.Prelude.{◌≡◌, IsTrue}
use Rattle.bus_table.specs.Hands.{are_hands}
use Rattle.bus_table.specs.Tables.{Table}
use Rattle.bus_schedule.specs.Closed.{closed}
use Rattle.bus_schedule.specs.Even.{are_even}
use Rattle.bus_schedule.specs.Settled.{Fails, IsSettled, witness_hands}
use Rattle.bus_command.specs.declared.status.Status.{Status}
use Rattle.bus_command.specs.declared.status.Status.TheVariants.{Done, Refused}

-- The hands of a table's witness fit its senders and are even, and the table fails with them.
pub record FailsWithWitness (table : Table) : Type 0 where
  pub fit : IsTrue (are_hands table.senders (witness_hands table))
  pub even : IsTrue (are_even table (witness_hands table))
  pub fails : Fails table (witness_hands table) (closed table (witness_hands table))

-- What the status tells of a table:
--   settled     Done comes only for a settled table
--   unsettled   Refused comes only for one that isn't
--   witness     which then fails with the hands of its witness
pub record TellsSettled (table : Table) (status : Status) : Type 0 where
  pub settled : status ≡ Done → IsSettled table
  pub unsettled : status ≡ Refused → IsSettled table → ⊥
  pub witness : status ≡ Refused → FailsWithWitness table
