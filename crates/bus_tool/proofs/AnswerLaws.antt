-- At which stage the answers come, and which of them are answers.
use Rattle.std.specs.Prelude.{◌≡◌, ℕ, ◌≤◌, nat_lt, true, false, Bool, List, [], Option, Some, None, IfSome, Result, Ok, Err}
use Rattle.std.proofs.Common.{arith, refl, sym, ap, subst, cond}
use Rattle.std.proofs.lemmas.Bool.Decides.{nat_tests}
use Rattle.bus_table.specs.Tables.{Table, Hand}
use Rattle.bus_audit.specs.declared.answer.AuditAnswer.{AuditAnswer}
use Rattle.bus_audit.specs.declared.answer.AuditAnswer.TheVariants.{Lawful, Breach}
use Rattle.bus_dropout.specs.DropOut.{last_cycle, drop_end}
use Rattle.bus_margins.specs.declared.level.Level.{Level}
use Rattle.bus_margins.specs.declared.level.Level.TheVariants.{Any, Common, Neither}
use Rattle.bus_margins.specs.Rooms.{level_of}
use Rattle.bus_bounds.specs.Bounds.{Bounds}
use Rattle.bus_margins_periodic.specs.declared.level.Level.{Level as TurnsLevel}
use Rattle.bus_margins_periodic.specs.declared.level.Level.TheVariants.{Turns, Leads, Neither as Unkept}
use Rattle.bus_margins_periodic.specs.Margins.{level_of as turns_level}
use Rattle.bus_table.specs.declared.mode.Mode.{Mode}
use Rattle.bus_table.specs.declared.mode.Mode.TheVariants.{Aperiodic, Periodic}
use Rattle.bus_plan.specs.Answers.{plan_of}
use Rattle.bus_cable_plan.specs.declared.planning.CablePlan.{CablePlan}
use Rattle.bus_made.specs.declared.answer.Answer.{Answer as MadeAnswer}
use Rattle.bus_made.specs.declared.answer.Answer.TheVariants.{Made, Infeasible as NotMade, Late}
use Rattle.bus_made.specs.Answers.{answer_of as design_answer}
use Rattle.bus_cable_plan.specs.declared.planning.CablePlan.TheVariants.{Planned as CablePlanned, Infeasible as NoneBears, Undecided}
use Rattle.bus_plan.specs.declared.planning.PlanAnswer.{PlanAnswer}
use Rattle.bus_plan.specs.declared.planning.PlanAnswer.TheVariants.{Planned, Infeasible}
use Rattle.bus_regime.specs.Verdicts.{verdict_of, is_accepted}
use Rattle.bus_regime.specs.declared.table_verdict.TableVerdict.{TableVerdict}
use Rattle.bus_regime.specs.declared.table_verdict.TableVerdict.TheVariants.{Accept, ShortCycle, SmallGap, NoSync}
use Rattle.bus_schedule.specs.Closed.{closed_end}
use Rattle.bus_schedule.specs.Limits.{longest_end}
use Rattle.bus_schedule.specs.Uneven.{uneven_of}
use Rattle.bus_schedule.specs.declared.uneven.Uneven.{Uneven as UnevenHands}
use Rattle.bus_command.specs.declared.outcome.Outcome.TheVariants.{Done}
use Rattle.bus_command.specs.Kinds.{Answer, kind_of, stage_of}
use Rattle.bus_command.specs.Stages.{stage_in}
use Rattle.bus_command.proofs.StageLaws.{stage_with, then_stage}
use Rattle.bus_tool.specs.Due.{verdict_outcome, plan_outcome, cable_plan_of, cable_plan_outcome, design_outcome, level_outcome, turns_outcome, outcome_in, margins_outcome, audit_outcome, findings_outcome, table_answer, messages_answer}
use Rattle.bus_tool.specs.Due.{even_due, accepted_due, short_due, last_due, may_run, can_run, can_schedule, may_drop, can_drop}
use Rattle.bus_tool.specs.Forms.{TableCommand, Check, Tolerance, Tidy, Report, Witness, Plan, PlanFor, Margins, Design, MessagesCommand, Observe, Run, Drop, Schedule}
use Rattle.bus_tool.specs.Refusals.{Outcome, refuse, NotAccepted, ShortLast, TooLong}

-- ---- the answers
pub written_verdict : (verdict : TableVerdict) → kind_of (verdict_outcome verdict) ≡ Answer
written_verdict (Accept mode least most) = refl
written_verdict (ShortCycle least ti) = refl
written_verdict (SmallGap terminal gap needed) = refl
written_verdict (NoSync terminal gap needed) = refl

pub written_plan : (answer : PlanAnswer) → kind_of (plan_outcome answer) ≡ Answer
written_plan (Planned table) = refl
written_plan (Infeasible least ti) = refl

pub written_cable_plan : (answer : CablePlan) → kind_of (cable_plan_outcome answer) ≡ Answer
written_cable_plan (CablePlanned table) = refl
written_cable_plan (NoneBears least ti) = refl
written_cable_plan (Undecided least ti) = refl

written_level : (level : Level) → kind_of (level_outcome level) ≡ Answer
written_level Any = refl
written_level Common = refl
written_level Neither = refl

written_turns : (level : TurnsLevel) → kind_of (turns_outcome level) ≡ Answer
written_turns Turns = refl
written_turns Leads = refl
written_turns Unkept = refl

written_in : (mode : Mode) (bounds : Bounds) (table : Table) → kind_of (outcome_in mode bounds table) ≡ Answer
written_in Aperiodic bounds table = written_level (level_of bounds table)
written_in Periodic bounds table = written_turns (turns_level bounds table)

pub written_margins : (verdict : TableVerdict) (bounds : Bounds) (table : Table) → kind_of (margins_outcome verdict bounds table) ≡ Answer
written_margins (Accept mode least most) bounds table = written_in table.mode bounds table
written_margins (ShortCycle least ti) bounds table = refl
written_margins (SmallGap terminal gap needed) bounds table = refl
written_margins (NoSync terminal gap needed) bounds table = refl

pub written_design : (answer : MadeAnswer) → kind_of (design_outcome answer) ≡ Answer
written_design (Made made) = refl
written_design (NotMade terminal blame) = refl
written_design (Late lack) = refl

pub written_audit : (answer : AuditAnswer) → kind_of (audit_outcome answer) ≡ Answer
written_audit (Lawful collided) = refl
written_audit (Breach moment terminal kind) = refl

pub written_findings : (fault : Bool) → kind_of (findings_outcome fault) ≡ Answer
written_findings true = refl
written_findings false = refl

pub table_answered : (command : TableCommand) (table : Table) → kind_of (table_answer command table) ≡ Answer
table_answered Check table = written_verdict (verdict_of table)
table_answered Tolerance table = written_verdict (verdict_of table)
table_answered Tidy table = refl
table_answered Report table = written_verdict (verdict_of table)
table_answered Witness table = refl
table_answered Plan table = written_plan (plan_of table)
table_answered (PlanFor delay) table = written_cable_plan (cable_plan_of delay table)
table_answered (Margins bounds) table = written_margins (verdict_of table) bounds table
table_answered (Design bounds order) table = written_design (design_answer bounds order [] table)

-- ---- their stages
pub answer_late : (o : Outcome) → kind_of o ≡ Answer → 2 ≤ stage_of (kind_of o)
answer_late o h = subst (λ k. 2 ≤ stage_of k) (sym h) (omega arith)

pub table_late : (command : TableCommand) (table : Table) → 2 ≤ stage_of (kind_of (table_answer command table))
table_late command table = answer_late (table_answer command table) (table_answered command table)

even_stage : (found : Option UnevenHands) → 3 ≤ stage_in (even_due found)
even_stage None = omega arith
even_stage (Some uneven) = omega arith

accepted_stage : (verdict : TableVerdict) → 3 ≤ stage_in (accepted_due verdict)
accepted_stage verdict = elim (is_accepted verdict) as (λ b. 3 ≤ stage_in {Y = Unit {0}} (cond b (Ok tt) (Err (refuse (NotAccepted verdict))))) [ true ↦ omega arith | false ↦ omega arith ]

short_stage : (end : ℕ) → 3 ≤ stage_in (short_due end)
short_stage end = elim (nat_lt longest_end end) as (λ b. 3 ≤ stage_in {Y = Unit {0}} (cond b (Err (refuse (TooLong end))) (Ok tt))) [ true ↦ omega arith | false ↦ omega arith ]

last_stage : (last : Option ℕ) (ti : ℕ) → 3 ≤ stage_in (last_due last ti)
last_stage None ti = omega arith
last_stage (Some least) ti = elim (nat_lt least ti) as (λ b. 3 ≤ stage_in {Y = Unit {0}} (cond b (Err (refuse (ShortLast least ti))) (Ok tt))) [ true ↦ omega arith | false ↦ omega arith ]

run_stage : (table : Table) (hands : List Hand) → 3 ≤ stage_in (can_run table hands)
run_stage table hands =
    then_stage 3 (may_run table hands) (λ _. short_due (closed_end table hands))
    (then_stage 3 (even_due (uneven_of table hands)) (λ _. accepted_due (verdict_of table)) (even_stage (uneven_of table hands)) (λ _. accepted_stage (verdict_of table)))
    (λ _. short_stage (closed_end table hands))

schedule_stage : (table : Table) (hands : List Hand) → 3 ≤ stage_in (can_schedule table hands)
schedule_stage table hands =
    then_stage 3 (even_due (uneven_of table hands)) (λ _. short_due (closed_end table hands)) (even_stage (uneven_of table hands)) (λ _. short_stage (closed_end table hands))

drop_stage : (table : Table) (hands : List Hand) → 3 ≤ stage_in (can_drop table hands)
drop_stage table hands =
    then_stage 3 (may_drop table hands) (λ _. short_due (drop_end table hands))
    (then_stage 3 (accepted_due (verdict_of table)) (λ _. last_due (last_cycle table hands) table.ti) (accepted_stage (verdict_of table)) (λ _. last_stage (last_cycle table hands) table.ti))
    (λ _. short_stage (drop_end table hands))

abbrev pub done_with : Unit {0} → Outcome
done_with u = Done

pub done_late : (u : Unit {0}) → 2 ≤ stage_of (kind_of (done_with u))
done_late u = omega arith

pub messages_late : (command : MessagesCommand) (table : Table) (hands : List Hand) → 2 ≤ stage_of (kind_of (messages_answer command table hands))
messages_late (Observe horizon) table hands = omega arith
messages_late Run table hands = stage_with 2 done_with (omega arith) done_late (can_run table hands) (let s = run_stage table hands in omega (arith, s))
messages_late Drop table hands = stage_with 2 done_with (omega arith) done_late (can_drop table hands) (let s = drop_stage table hands in omega (arith, s))
messages_late Schedule table hands = stage_with 2 done_with (omega arith) done_late (can_schedule table hands) (let s = schedule_stage table hands in omega (arith, s))

-- ---- ends of schedules
pub short_end : (end : ℕ) → end ≤ longest_end → short_due end ≡ Ok tt
short_end end h = let b : nat_lt longest_end end ≡ false = grind (arith, nat_tests, h) in ap (λ b. cond b (Err (refuse (TooLong end))) (Ok tt)) b

-- a last cycle that is long enough
pub long_last : (last : Option ℕ) (ti : ℕ) → IfSome last (λ least. ti ≤ least) → last_due last ti ≡ Ok tt
long_last None ti h = refl
long_last (Some least) ti h = let b : nat_lt least ti ≡ false = grind (arith, nat_tests, h) in ap (λ b. cond b (Err (refuse (ShortLast least ti))) (Ok tt)) b

pub last_long : (last : Option ℕ) (ti : ℕ) → last_due last ti ≡ Ok tt → IfSome last (λ least. ti ≤ least)
last_long None ti h = tt
last_long (Some least) ti h = by_test (nat_lt least ti) refl h
  where
    by_test : (b : Bool) → nat_lt least ti ≡ b → (let r : Result (Unit {0}) Outcome = cond b (Err (refuse (ShortLast least ti))) (Ok tt) in r) ≡ Ok tt → ti ≤ least
    by_test true e k = absurd cc
    by_test false e k = grind (arith, nat_tests, e)
