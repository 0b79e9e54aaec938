-- What the texts of some replies tell, where that is more than the reply of which they are. These are laws of texts, which hold of any
-- program that writes them.
use Rattle.std.specs.Prelude.{◌≡◌, ℕ, IsTrue, List, []}
use Rattle.bus_strings.specs.Messages.{Entry}
use Rattle.bus_table.specs.Tables.{Table}
use Rattle.bus_table.specs.declared.mode.Mode.TheVariants.{Aperiodic, Periodic}
use Rattle.bus_trace.specs.Traces.{Recording}
use Rattle.bus_regime.specs.Verdicts.{verdict_of, is_accepted}
use Rattle.bus_filter.specs.ReceivedTexts.{received_text}
use Rattle.bus_cable.specs.Cables.{Cable, delays_on}
use Rattle.bus_cable.specs.HeardTexts.{heard_text}
use Rattle.bus_cable_plan.specs.Answers.{plan_for_of, plan_best_of}
use Rattle.bus_bounds.specs.Bounds.{Bounds}
use Rattle.bus_made.specs.declared.order.Order.{Order}
use Rattle.bus_made.specs.Answers.{answer_of as design_answer}
use Rattle.bus_tool.specs.DesignClaims.{StandsWhereMade}
use Rattle.bus_tool.specs.Answering.{receipts_text, hearings_text, reply_text}
use Rattle.bus_tool.specs.Asked.{Asked, Tolerance, Design, PlanFor, PlanBest, Wave}
use Rattle.bus_tool.specs.CablePlanClaims.{StandsWherePlanned}
use Rattle.bus_tool.specs.Replies.{receipts_of, hearings_of}
use Rattle.bus_tool.specs.ToleranceClaims.{TellsStart, tolerance_reply}
use Rattle.bus_tool.specs.WaveClaims.{HasAWaveText}

-- Of what a call asks for, and of any list:
--   tolerance   the last word of an accepted table's line tells whether the table starts itself
--   plan_for    the text of a plan stands for it
--   plan_best   so does that of a best plan
--   design      and that of a made table
--   wave        a spaced trace has one wave text, and the trace of a run is read from its own
--   received    what all terminals receive is written as the received text
--   heard       what all terminals hear is written as the heard text
pub record Spellings (Asks : Asked → Type 0) : Type 0 where
  pub tolerance : (table : Table) → Asks (Tolerance table) → IsTrue (is_accepted (verdict_of table))
      → TellsStart table (reply_text (tolerance_reply (verdict_of table) table))
  pub plan_for : (d : ℕ) (table : Table) → Asks (PlanFor d table) → table.mode ≡ Periodic → StandsWherePlanned (plan_for_of d table)
  pub plan_best : (table : Table) → Asks (PlanBest table) → table.mode ≡ Periodic → StandsWherePlanned (plan_best_of table)
  pub design : (bounds : Bounds) (order : Order) (table : Table) → Asks (Design bounds order table) → table.mode ≡ Aperiodic
      → StandsWhereMade (design_answer bounds order [] table)
  pub wave : (table : Table) (trace : Recording) → Asks (Wave table trace) → HasAWaveText table trace
  pub received : (table : Table) (list : List Entry) → receipts_text (receipts_of table list) ≡ received_text table list
  pub heard : (table : Table) (cable : Cable) (list : List Entry)
      → hearings_text (hearings_of table (delays_on cable) list) ≡ heard_text table (delays_on cable) list
