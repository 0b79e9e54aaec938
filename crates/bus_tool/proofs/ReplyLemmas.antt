-- A text that is answered is the text of a reply.
use Rattle.std.specs.Prelude.{◌≡◌, ℕ, Bool, true, false, ◌&&◌, not, List, [], ◌∷◌, ◌++◌, map, codes, Result, Ok, Err}
use Rattle.std.specs.List.{flat_map}
use Rattle.std.proofs.Common.{refl, ap, ◌∙◌, subst, inl, inr, cond}
use Rattle.bus_strings.specs.Messages.{Entry}
use Rattle.bus_table.specs.Tables.{Table}
use Rattle.bus_table.specs.declared.error.TableError.{TableError}
use Rattle.bus_table.specs.declared.mode.Mode.{Mode}
use Rattle.bus_table.specs.declared.mode.Mode.TheVariants.{Aperiodic, Periodic}
use Rattle.bus_trace.specs.Traces.{Recording, trace_text}
use Rattle.bus_regime.specs.Verdicts.{verdict_of, is_accepted}
use Rattle.bus_regime.specs.declared.table_verdict.TableVerdict.{TableVerdict}
use Rattle.bus_regime.specs.declared.table_verdict.TableVerdict.TheVariants.{Accept, ShortCycle, SmallGap, NoSync}
use Rattle.bus_bounds.specs.Bounds.{Bounds}
use Rattle.bus_cable.specs.Cables.{Cable, delays_on}
use Rattle.bus_cable.specs.HeardTexts.{terminal_text, terminals, heard_text}
use Rattle.bus_cable_plan.specs.declared.planning.CablePlan.{CablePlan}
use Rattle.bus_cable_plan.specs.declared.planning.CablePlan.TheVariants.{Planned, Infeasible, Undecided}
use Rattle.bus_diagnosis.specs.Diagnoses.{is_right, diagnosis_of}
use Rattle.bus_facts.specs.Facts.{is_accepting}
use Rattle.bus_filter.specs.Received.{Taker, takers}
use Rattle.bus_filter.specs.ReceivedTexts.{taker_text, received_text}
use Rattle.bus_margins.specs.Rooms.{level_of}
use Rattle.bus_margins.specs.declared.level.Level.{Level}
use Rattle.bus_margins.specs.declared.level.Level.TheVariants.{Any, Common, Neither}
use Rattle.bus_margins_periodic.specs.Margins.{level_of as turns_level}
use Rattle.bus_margins_periodic.specs.declared.level.Level.{Level as TurnsLevel}
use Rattle.bus_margins_periodic.specs.declared.level.Level.TheVariants.{Turns, Leads, Neither as Unkept}
use Rattle.bus_medium.specs.Delays.{Delays}
use Rattle.bus_command.specs.Claims as command
use Rattle.bus_command.specs.Outside.{Call}
use Rattle.bus_command.specs.declared.outcome.Outcome.TheVariants.{Done, Answered}
use Rattle.bus_command.specs.declared.status.Status.{Status}
use Rattle.bus_tool.specs.Answering.{Answers, IsTextOf, Stands, receipt_text, receipts_text, heard_by_text, hearings_text, reply_text}
use Rattle.bus_made.specs.declared.answer.Answer.{Answer as MadeAnswer}
use Rattle.bus_made.specs.declared.answer.Answer.TheVariants.{Made, Infeasible as NotMade, Late}
use Rattle.bus_made.specs.Texts.{answer_text as design_text}
use Rattle.bus_tool.specs.DesignClaims.{StandsWhereMade, design_reply, is_made}
use Rattle.bus_tool.specs.CablePlanClaims.{StandsWherePlanned, is_planned, plan_reply}
use Rattle.bus_tool.specs.Diagnosing.{given_beside}
use Rattle.bus_tool.specs.DiagnosisClaims.{is_given_right}
use Rattle.bus_tool.specs.Due.{verdict_outcome, margins_outcome, outcome_in, level_outcome, turns_outcome, findings_outcome, design_outcome, cable_plan_outcome, text_outcome}
use Rattle.bus_tool.specs.MarginsClaims.{has_level, has_margins, is_level, is_turns_level, margins_reply}
use Rattle.bus_tool.specs.MarginsTexts.{margins_answer}
use Rattle.bus_tool.specs.PlanTexts.{cable_plan_text}
use Rattle.bus_tool.specs.Refusals.{status_of}
use Rattle.bus_tool.specs.Replies.{Is, Reply, TheRun, OnTheCable, receipt_of, receipts_of, hearing_of, hearings_of, yes_or_no}
use Rattle.bus_tool.specs.Texts.{run_text, on_cable_text}
use Rattle.bus_tool.specs.ToleranceClaims.{tolerance_reply}
use Rattle.bus_tool.specs.Tolerances.{tolerance_text}

-- ---- a reply for a text
pub is_text : (reply : Reply) (written text : List ℕ) → Stands reply → written ≡ reply_text reply → text ≡ written → IsTextOf (Is reply) text
is_text reply written text stands same is = record { reply = reply; is = refl; stands = stands; text_is = is ∙ same }

pub replies : (call : Call) (status answer : Status) (reply : Reply) (written : List ℕ) → Stands reply → written ≡ reply_text reply
    → command.Answers answer (λ text. text ≡ written) call status → Answers call status answer (Is reply)
replies call status answer reply written stands same (inl told) =
    inl (told.0, (told.1.0, is_text reply written told.1.0 stands same told.1.1, told.1.2))
replies call status answer reply written stands same (inr none) = inr none

-- the same status, said in another way
pub with_status : (call : Call) (status answer other : Status) (IsReply : Reply → Type 0) → answer ≡ other → Answers call status answer IsReply
    → Answers call status other IsReply
with_status call status answer other IsReply same given = subst (λ a. Answers call status a IsReply) same given

-- ---- the status of a yes or a no
pub verdict_status : (v : TableVerdict) → status_of (verdict_outcome v) ≡ yes_or_no (is_accepted v)
verdict_status (Accept mode least most) = refl
verdict_status (ShortCycle least ti) = refl
verdict_status (SmallGap terminal gap needed) = refl
verdict_status (NoSync terminal gap needed) = refl

level_status : (level : Level) → status_of (level_outcome level) ≡ yes_or_no (is_level level)
level_status Any = refl
level_status Common = refl
level_status Neither = refl

turns_status : (level : TurnsLevel) → status_of (turns_outcome level) ≡ yes_or_no (is_turns_level level)
turns_status Turns = refl
turns_status Leads = refl
turns_status Unkept = refl

mode_status : (mode : Mode) (bounds : Bounds) (table : Table) → status_of (outcome_in mode bounds table) ≡ yes_or_no (has_level mode bounds table)
mode_status Aperiodic bounds table = level_status (level_of bounds table)
mode_status Periodic bounds table = turns_status (turns_level bounds table)

pub margins_status : (v : TableVerdict) (bounds : Bounds) (table : Table) → status_of (margins_outcome v bounds table) ≡ yes_or_no (has_margins v bounds table)
margins_status (Accept mode least most) bounds table = mode_status table.mode bounds table
margins_status (ShortCycle least ti) bounds table = refl
margins_status (SmallGap terminal gap needed) bounds table = refl
margins_status (NoSync terminal gap needed) bounds table = refl

pub plan_status : (plan : CablePlan) → status_of (cable_plan_outcome plan) ≡ yes_or_no (is_planned plan)
plan_status (Planned table) = refl
plan_status (Infeasible least ti) = refl
plan_status (Undecided least ti) = refl

pub design_status : (answer : MadeAnswer) → status_of (design_outcome answer) ≡ yes_or_no (is_made answer)
design_status (Made made) = refl
design_status (NotMade terminal blame) = refl
design_status (Late lack) = refl

pub findings_status : (fault : Bool) → status_of (findings_outcome fault) ≡ yes_or_no (not fault)
findings_status true = refl
findings_status false = refl

pub text_status : (given : Result Table TableError) → status_of (text_outcome given) ≡ yes_or_no (is_accepting given)
text_status (Ok table) = verdict_status (verdict_of table)
text_status (Err error) = refl

right_status : (accepted right : Bool) → status_of (cond accepted (cond right Done Answered) Answered) ≡ yes_or_no (accepted && right)
right_status true true = refl
right_status true false = refl
right_status false right = refl

pub beside_status : (given : Result Table TableError) (text : List ℕ) → status_of (given_beside given text) ≡ yes_or_no (is_given_right given text)
beside_status (Ok table) text = right_status (is_accepted (verdict_of table)) (is_right (diagnosis_of table text))
beside_status (Err error) text = refl

-- ---- the text of a reply
pub tolerance_same : (v : TableVerdict) (table : Table) → tolerance_text v table ≡ reply_text (tolerance_reply v table)
tolerance_same (Accept mode least most) table = refl
tolerance_same (ShortCycle least ti) table = refl
tolerance_same (SmallGap terminal gap needed) table = refl
tolerance_same (NoSync terminal gap needed) table = refl

pub tolerance_stands : (v : TableVerdict) (table : Table) → Stands (tolerance_reply v table)
tolerance_stands (Accept mode least most) table = tt
tolerance_stands (ShortCycle least ti) table = tt
tolerance_stands (SmallGap terminal gap needed) table = tt
tolerance_stands (NoSync terminal gap needed) table = tt

pub margins_same : (v : TableVerdict) (bounds : Bounds) (table : Table) → margins_answer v bounds table ≡ reply_text (margins_reply v bounds table)
margins_same (Accept mode least most) bounds table = refl
margins_same (ShortCycle least ti) bounds table = refl
margins_same (SmallGap terminal gap needed) bounds table = refl
margins_same (NoSync terminal gap needed) bounds table = refl

pub margins_stands : (v : TableVerdict) (bounds : Bounds) (table : Table) → Stands (margins_reply v bounds table)
margins_stands (Accept mode least most) bounds table = tt
margins_stands (ShortCycle least ti) bounds table = tt
margins_stands (SmallGap terminal gap needed) bounds table = tt
margins_stands (NoSync terminal gap needed) bounds table = tt

pub plan_same : (plan : CablePlan) → cable_plan_text plan ≡ reply_text (plan_reply plan)
plan_same (Planned table) = refl
plan_same (Infeasible least ti) = refl
plan_same (Undecided least ti) = refl

pub plan_stands : (plan : CablePlan) → StandsWherePlanned plan → Stands (plan_reply plan)
plan_stands (Planned table) stands = stands
plan_stands (Infeasible least ti) stands = tt
plan_stands (Undecided least ti) stands = tt

pub design_same : (answer : MadeAnswer) → design_text answer ≡ reply_text (design_reply answer)
design_same (Made made) = refl
design_same (NotMade terminal blame) = refl
design_same (Late lack) = refl

pub design_stands : (answer : MadeAnswer) → StandsWhereMade answer → Stands (design_reply answer)
design_stands (Made made) stands = stands
design_stands (NotMade terminal blame) stands = tt
design_stands (Late lack) stands = tt

-- what is received, terminal by terminal
received_each : (list : List Entry) (all : List Taker) → flat_map (taker_text list) all ≡ flat_map receipt_text (map (receipt_of list) all)
received_each list [] = refl
received_each list (taker ∷ all) = ap (λ rest. taker_text list taker ++ rest) (received_each list all)

pub received_same : (table : Table) (list : List Entry) → received_text table list ≡ receipts_text (receipts_of table list)
received_same table list = ap (λ each. codes "RECEIVED 1\n" ++ each ++ codes "END\n") (received_each list (takers table))

pub run_same : (table : Table) (trace : Recording) → run_text table trace ≡ reply_text (TheRun trace (receipts_of table trace.list))
run_same table trace = ap (λ behind. trace_text trace ++ behind) (received_same table trace.list)

-- what is heard, terminal by terminal
heard_each : (delay : Delays) (list : List Entry) (all : List ℕ)
    → flat_map (terminal_text delay list) all ≡ flat_map heard_by_text (map (hearing_of delay list) all)
heard_each delay list [] = refl
heard_each delay list (number ∷ all) = ap (λ rest. terminal_text delay list number ++ rest) (heard_each delay list all)

pub heard_same : (table : Table) (cable : Cable) (list : List Entry)
    → heard_text table (delays_on cable) list ≡ hearings_text (hearings_of table (delays_on cable) list)
heard_same table cable list = ap (λ each. codes "HEARD 1\n" ++ each ++ codes "END\n") (heard_each (delays_on cable) list (terminals table))

pub on_cable_same : (table : Table) (cable : Cable) (trace : Recording)
    → on_cable_text table cable trace ≡ reply_text (OnTheCable trace (hearings_of table (delays_on cable) trace.list))
on_cable_same table cable trace = ap (λ behind. trace_text trace ++ behind) (heard_same table cable trace.list)
