-- What is claimed of `plan`.
use Rattle.std.specs.Prelude.{◌≡◌, ◌<◌, ◌≤◌, nat_lt, true, false, IsTrue}
use Rattle.std.proofs.Common.{arith, refl, ap, ◌∙◌, subst, cond}
use Rattle.std.proofs.lemmas.Bool.Decides.{nat_tests}
use Rattle.bus_table.specs.declared.mode.Mode.TheVariants.{Periodic}
use Rattle.bus_table.specs.Canonical.{table_text}
use Rattle.bus_table.specs.Tables.{Table}
use Rattle.bus_table.specs.Text.{IsTableText}
use Rattle.bus_table.specs.Valid.{is_valid}
use Rattle.bus_plan.specs.declared.planning.PlanAnswer.{PlanAnswer}
use Rattle.bus_plan.specs.declared.planning.PlanAnswer.TheVariants.{Planned, Infeasible}
use Rattle.bus_plan.specs.Answers.{plan_of}
use Rattle.bus_plan.specs.Laws.{PlannedIsAccepted, ShortIsRefused}
use Rattle.bus_plan.specs.Plans.{least_interval, planned_table}
use Rattle.std.specs.Prelude.{codes}
use Rattle.bus_command.specs.Claims.{IsOfTable}
use Rattle.bus_command.specs.Outside.{Call}
use Rattle.bus_tool.specs.Acts.{Acts}
use Rattle.bus_tool.specs.Answering.{Answers, IsTextOf, Stands, reply_text}
use Rattle.bus_tool.specs.Due.{plan_outcome}
use Rattle.bus_tool.specs.Forms.{Plan}
use Rattle.bus_tool.specs.PlanClaims.{AnswersPlan}
use Rattle.bus_tool.specs.PlanTexts.{plan_text}
use Rattle.bus_tool.specs.Refusals.{Outcome, status_of}
use Rattle.bus_tool.specs.Replies.{Is, Reply, TheTable, NoOffsets}
use Rattle.bus_tool.proofs.GroupClaims.{ReadLaws, table_comes}
use Rattle.bus_tool.proofs.ReplyLemmas.{is_text}

-- the laws by which a plan is what it should be
pub record PlanLaws : Type 0 where
  pub texts : ReadLaws
  pub text_stands : (table : Table) → IsTrue (is_valid table) → IsTableText table (table_text table)
  pub accepted : PlannedIsAccepted
  pub refused : ShortIsRefused

-- the reply to the planner's answer
answered_as : PlanLaws → (call : Call) (outcome : Outcome) (table : Table) (answer : PlanAnswer) (reply : Reply) → Acts call outcome
    → IsOfTable (codes "plan") table call → table.mode ≡ Periodic → plan_of table ≡ answer → Stands reply → plan_text answer ≡ reply_text reply
    → Answers call (status_of outcome) (status_of (plan_outcome answer)) (Is reply)
answered_as laws call outcome table answer reply acts h periodic is stands same =
    subst (λ p. Answers call (status_of outcome) (status_of (plan_outcome p)) (Is reply)) is
    (table_comes laws.texts Plan (codes "plan") call outcome table (IsTextOf (Is reply)) (λ path. refl) periodic
    (λ text it. is_text reply (plan_text (plan_of table)) text stands (ap plan_text is ∙ same) it) acts h)

-- what the planner answers
is_planned : (table : Table) → least_interval table ≤ table.ti → plan_of table ≡ Planned (planned_table table)
is_planned table h =
    let no_short : nat_lt table.ti (least_interval table) ≡ false = grind (arith, nat_tests, h) in
    ap (λ b. cond b (Infeasible (least_interval table) table.ti) (Planned (planned_table table))) no_short

is_infeasible : (table : Table) → table.ti < least_interval table → plan_of table ≡ Infeasible (least_interval table) table.ti
is_infeasible table h =
    let short : nat_lt table.ti (least_interval table) ≡ true = grind (arith, nat_tests, h) in
    ap (λ b. cond b (Infeasible (least_interval table) table.ti) (Planned (planned_table table))) short

pub plan_claim : PlanLaws → (call : Call) (outcome : Outcome) (table : Table) → Acts call outcome → IsOfTable (codes "plan") table call
    → table.mode ≡ Periodic → AnswersPlan (Answers call (status_of outcome)) table
plan_claim laws call outcome table acts h periodic = record {
  planned = λ enough.
      answered_as laws call outcome table (Planned (planned_table table)) (TheTable (planned_table table)) acts h periodic (is_planned table enough)
      (laws.text_stands (planned_table table) (laws.accepted table h.table_told.valid periodic enough).0) refl;
  valid = λ enough. (laws.accepted table h.table_told.valid periodic enough).0;
  accepted = λ enough. (laws.accepted table h.table_told.valid periodic enough).1;
  infeasible = λ short.
      answered_as laws call outcome table (Infeasible (least_interval table) table.ti) (NoOffsets (least_interval table) table.ti) acts h periodic
      (is_infeasible table short) tt refl;
  refused = λ short offsets. laws.refused table offsets h.table_told.valid periodic short;
}
