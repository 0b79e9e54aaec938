-- What is claimed of `facts`: what its numbers mean.
use Rattle.std.specs.Prelude.{◌≡◌, ℕ, false, IsTrue, List, Err}
use Rattle.std.specs.List.{list_all}
use Rattle.bus_text.specs.Refusals.{Refusal}
use Rattle.bus_table.specs.declared.mode.Mode.TheVariants.{Aperiodic}
use Rattle.bus_table.specs.GoingOn.{GoesOnAsTold}
use Rattle.bus_table.specs.Reading.{text_reading}
use Rattle.bus_table.specs.Tables.{Table}
use Rattle.bus_table.specs.Valid.{is_valid}
use Rattle.bus_regime.specs.Verdicts.{verdict_of, is_accepted}
use Rattle.bus_reach.specs.Bearing.{bears}
use Rattle.bus_reach.specs.LatencyLaws.{AperiodicAreInTime, PeriodicAreInTime}
use Rattle.bus_reach.specs.Limits.{limits_of, is_borne}
use Rattle.bus_margins_periodic.specs.Sentences.{drifting}
use Rattle.bus_tool.specs.ExplainClaims.{ExplainsAccepted, AdvisesRefused, TellsTakes}
use Rattle.bus_tool.specs.MarginsClaims.{TellsMargins}

-- What the facts of a text tell of a valid table:
--   accepted           of an accepted one, what `explain` tells of it
--   rules              it bears exactly the delays that each of its rules bears
--   in_time            data which just miss a start have been received within the latency that is told, in aperiodic mode
--   periodic_in_time   and in periodic mode
--   drifting           an aperiodic one keeps order as its level says where oscillators are off by up to 50 millionths
--   refused            of a refused one, what `explain` advises
--   takes              what its TAKE lines are told to receive
--   unread             what is listed as what may stand at a refused line is exactly what goes on
pub record TellsFacts (text : List ℕ) : Type 0 where
  pub accepted : (table : Table) → IsTrue (is_valid table) → IsTrue (is_accepted (verdict_of table)) → ExplainsAccepted table
  pub rules : (table : Table) (d : ℕ) → IsTrue (is_valid table) → IsTrue (is_accepted (verdict_of table))
      → bears table d ≡ list_all (is_borne d) (limits_of table)
  pub in_time : AperiodicAreInTime
  pub periodic_in_time : PeriodicAreInTime
  pub drifting : (table : Table) → IsTrue (is_valid table) → IsTrue (is_accepted (verdict_of table)) → table.mode ≡ Aperiodic
      → TellsMargins drifting table
  pub refused : (table : Table) → IsTrue (is_valid table) → is_accepted (verdict_of table) ≡ false → AdvisesRefused table
  pub takes : (table : Table) → IsTrue (is_valid table) → TellsTakes table
  pub unread : (refusal : Refusal) → text_reading text ≡ Err refusal → GoesOnAsTold text refusal.line
