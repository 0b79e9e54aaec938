-- A call that acts as it should keeps what `tool` promises.
use Rattle.std.specs.Prelude.{◌≡◌, ℕ, ◌≤◌, true, ◌&&◌, nat_le, IsTrue, List, [], ◌∷◌, codes, Some, None}
use Rattle.std.proofs.Common.{arith, refl, sym, ap, ◌∙◌, cond}
use Rattle.std.proofs.lemmas.Bool.Decides.{nat_tests}
use Rattle.bus_text.specs.Numbers.{IsDecimal, is_plain_decimal, decimal_value}
use Rattle.bus_table.specs.Tables.{Table}
use Rattle.bus_trace.specs.Traces.{Recording}
use Rattle.bus_audit.specs.Breaches.{TheAnswer, answer_of}
use Rattle.bus_audit.specs.declared.answer.AuditAnswer.{AuditAnswer}
use Rattle.bus_audit.specs.declared.answer.AuditAnswer.TheVariants.{Lawful, Breach}
use Rattle.bus_audit.specs.Meaning.{LawfulIsRight}
use Rattle.bus_medium.specs.LawfulLaws.{OneListOfATable}
use Rattle.bus_regime.specs.Verdicts.{verdict_of, is_accepted}
use Rattle.bus_regime.specs.Witness.{witness_of}
use Rattle.bus_schedule.specs.Laws.{TheSettledAreAccepted, TheRefusedFail, WitnessesAreEven, EvenHandsAgree}
use Rattle.bus_vectors.specs.Made.{most_number}
use Rattle.bus_vote.specs.VoteLaws.{VotedAreWritten, ListsAreFixedByTwo, RunsAreVoted}
use Rattle.bus_command.specs.declared.about.About.{About}
use Rattle.bus_command.specs.declared.about.About.TheVariants.{Help, Version}
use Rattle.bus_command.specs.About.{IsAbout, about_word}
use Rattle.bus_command.specs.Claims.{IsOfTable, IsOfTraced}
use Rattle.bus_command.specs.Kinds.{Answer, kind_of}
use Rattle.bus_command.specs.Outside.{Call}
use Rattle.bus_command.specs.Readers.{no_source}
use Rattle.bus_command.specs.declared.outcome.Outcome.TheVariants.{Done}
use Rattle.bus_command.specs.declared.status.Status.{Status}
use Rattle.bus_command.specs.declared.status.Status.TheVariants as status
use Rattle.bus_command.proofs.ClaimLemmas.{answers, does_of, room_of, told_itself}
use Rattle.bus_command.proofs.LawTypes.{FittingItemsGiveHands}
use Rattle.bus_tool.specs.Acts.{tool_program, Acts}
use Rattle.bus_tool.specs.Answering.{Answers, IsTextOf, Stands, reply_text}
use Rattle.bus_tool.specs.Asking.{IsDrillOf}
use Rattle.bus_tool.specs.DrillClaims.{drill_reply}
use Rattle.bus_tool.specs.Drills.{drill_line}
use Rattle.bus_tool.specs.Itself.{itself_text}
use Rattle.bus_tool.specs.Due.{audit_outcome, table_answer, trace_answer}
use Rattle.bus_tool.specs.Forms.{Drill, OnItself, OnTable, OnTrace, TableCommand, TraceCommand, Check, Tolerance, Witness, Tidy, Report, Receive, Audit, Vote, form_of, form_with, no_options, two_words, table_mode}
use Rattle.bus_tool.proofs.FormLemmas.{decimal_plain, of_plain}
use Rattle.bus_tool.specs.inside.Acting.{IsOfMode}
use Rattle.bus_tool.specs.Keeping.{Keeps, Spells}
use Rattle.bus_tool.specs.Replies.{Is, Reply, TheVerdict, TheMessages, TheTable, TheReport, TheReceipts, TheAudit, TheVotes, OfItself, receipts_of, yes_or_no}
use Rattle.bus_tool.specs.Refusals.{Outcome, ends_of, status_of}
use Rattle.bus_tool.specs.TableClaims.{TellsSettled}
use Rattle.bus_tool.specs.Texts.{table_answer_text, trace_answer_text}
use Rattle.bus_tool.specs.TraceClaims.{IsFinding, TellsVotes, is_lawful}
use Rattle.bus_tool.proofs.AnswerLaws.{written_audit}
use Rattle.bus_tool.proofs.CableClaim.{CableClaimLaws, cable_claim}
use Rattle.bus_tool.proofs.CheckClaim.{told_settled}
use Rattle.bus_tool.proofs.ExplainLemmas.{ExplainLaws, explain_claim}
use Rattle.bus_tool.proofs.DiagnoseLemmas.{DiagnosisLaws, diagnosis_claim}
use Rattle.bus_tool.proofs.FactsLemmas.{FactsLaws, facts_claim}
use Rattle.bus_tool.proofs.DropClaim.{drop_claim}
use Rattle.bus_tool.proofs.FindingsClaim.{FindingsLaws, findings_claim}
use Rattle.bus_tool.proofs.GroupClaims.{table_comes, trace_comes}
use Rattle.bus_tool.proofs.MarginsClaim.{MarginsLaws, margins_claim}
use Rattle.bus_tool.proofs.ObserveClaim.{observe_claim}
use Rattle.bus_tool.proofs.DesignClaim.{DesignLaws, design_claim, design_stands}
use Rattle.bus_tool.proofs.CablePlanClaim.{CablePlanLaws, plan_for_claim, plan_for_stands, plan_best_claim, plan_best_stands}
use Rattle.bus_tool.proofs.PlanClaim.{PlanLaws, plan_claim}
use Rattle.bus_tool.proofs.RunClaim.{run_claim}
use Rattle.bus_tool.proofs.ScheduleClaim.{ScheduleLaws, schedule_claim}
use Rattle.bus_tool.proofs.ReplyLemmas.{heard_same, is_text, received_same, replies, tolerance_same, tolerance_stands, verdict_status, with_status}
use Rattle.bus_tool.proofs.ToleranceClaim.{start_told, tells}
use Rattle.bus_tool.specs.ToleranceClaims.{TellsTolerance, tolerance_reply}
use Rattle.bus_tool.proofs.WaveClaim.{WaveLaws, has_a_wave_text, wave_claim, unwave_claim}

-- the laws by which it does
pub record PromiseLaws : Type 0 where
  pub plan : PlanLaws
  pub cable_plan : CablePlanLaws
  pub design : DesignLaws
  pub wave : WaveLaws
  pub exact : TheSettledAreAccepted
  pub fails : TheRefusedFail
  pub even : WitnessesAreEven
  pub give_hands : FittingItemsGiveHands
  pub one_list : OneListOfATable
  pub even_agree : EvenHandsAgree
  pub answer : TheAnswer
  pub right : LawfulIsRight
  pub written : VotedAreWritten
  pub two : ListsAreFixedByTwo
  pub voted : RunsAreVoted
  pub explained : ExplainLaws
  pub diagnosed : DiagnosisLaws
  pub facts : FactsLaws
  pub margins : MarginsLaws
  pub findings : FindingsLaws
  pub cables : CableClaimLaws
  pub scheduled : ScheduleLaws

-- ---- `drill`
drill_form : (word : List ℕ) (number : ℕ) → IsDecimal word number → number ≤ most_number → two_words (codes "drill") word no_options ≡ Some (Drill number)
drill_form word number d within =
    let plain : is_plain_decimal word ≡ true = d.plain in
    let low : nat_le (decimal_value word) most_number ≡ true = grind (arith, nat_tests, d.value) in
    ap (λ b. cond (b && nat_le (decimal_value word) most_number) (Some (Drill (decimal_value word))) None) plain
    ∙ ap (λ b. cond b (Some (Drill (decimal_value word))) None) low ∙ ap (λ n. Some (Drill n)) d.value

drill_claim : (call : Call) (outcome : Outcome) (number : ℕ) → Acts call outcome → IsDrillOf number call
    → Answers call (status_of outcome) status.Done (Is (drill_reply number))
drill_claim call outcome number acts h =
    let does = does_of tool_program call outcome (Drill number) (of_plain (codes "drill") h.form.word [] call.words h.form.form (refl, (decimal_plain h.form.word h.form.spelled.plain, tt))
    ∙ drill_form h.form.word number h.form.spelled h.form.within) acts in
    let due : Outcome = Done in
    answers ends_of no_source due outcome _ (IsTextOf (Is (drill_reply number))) call refl
    (λ text is. is_text (drill_reply number) (drill_line number) text tt refl is) does.due does.text does.counts does.out_count h.undisturbed

-- ---- `--help` and `--version`
itself_form : (about : About) (words : List (List ℕ)) → words ≡ about_word about ∷ [] → form_of words ≡ Some (OnItself about)
itself_form Help words h = ap form_of h
itself_form Version words h = ap form_of h

itself_claim : (call : Call) (outcome : Outcome) (about : About) → Acts call outcome → IsAbout about call
    → Answers call (status_of outcome) status.Done (Is (OfItself about)) × (status_of outcome ≡ status.Done)
itself_claim call outcome about acts h =
    let form = itself_form about call.words h.form in
    let does = does_of tool_program call outcome (OnItself about) form acts in
    let due : Outcome = Done in
    let told = answers ends_of no_source due outcome _ (λ text. text ≡ itself_text about) call refl (λ text is. is) does.due does.text does.counts
    does.out_count h.undisturbed in (
      replies call (status_of outcome) status.Done (OfItself about) (itself_text about) tt refl told,
      (told_itself ends_of outcome (itself_text about) call does.due (room_of tool_program call outcome (OnItself about) form acts refl) told).done,
    )

-- ---- a command on a table, or on a table and a trace, by its reply
table_replies : PromiseLaws → (command : TableCommand) (word : List ℕ) (call : Call) (outcome : Outcome) (table : Table) (answer : Status) (reply : Reply)
    → ((path : List ℕ) → form_with (word ∷ path ∷ []) no_options ≡ Some (OnTable command)) → IsOfMode (table_mode command) table
    → status_of (table_answer command table) ≡ answer → Stands reply → table_answer_text command table ≡ reply_text reply
    → Acts call outcome → IsOfTable word table call → Answers call (status_of outcome) answer (Is reply)
table_replies laws command word call outcome table answer reply words mode same stands written acts h =
    with_status call (status_of outcome) (status_of (table_answer command table)) answer (Is reply) same
    (table_comes laws.plan.texts command word call outcome table (IsTextOf (Is reply)) words mode
    (λ text is. is_text reply (table_answer_text command table) text stands written is) acts h)

trace_replies : PromiseLaws → (command : TraceCommand) (word : List ℕ) (call : Call) (outcome : Outcome) (table : Table) (trace : Recording) (reply : Reply)
    → ((a b : List ℕ) → form_with (word ∷ a ∷ b ∷ []) no_options ≡ Some (OnTrace command)) → kind_of (trace_answer command table trace) ≡ Answer
    → Stands reply → trace_answer_text command table trace ≡ reply_text reply → Acts call outcome → IsOfTraced word [] table trace call
    → Answers call (status_of outcome) (status_of (trace_answer command table trace)) (Is reply)
trace_replies laws command word call outcome table trace reply words answer_is stands written acts h =
    replies call (status_of outcome) (status_of (trace_answer command table trace)) reply (trace_answer_text command table trace) stands written
    (trace_comes laws.plan.texts command word call outcome table trace words answer_is acts h)

-- ---- the commands with laws of their own
check_claim : PromiseLaws → (call : Call) (outcome : Outcome) (table : Table) → Acts call outcome → IsOfTable (codes "check") table call
    → Answers call (status_of outcome) (yes_or_no (is_accepted (verdict_of table))) (Is (TheVerdict (verdict_of table)))
    × TellsSettled table (status_of outcome)
check_claim laws call outcome table acts h =
    let reply = TheVerdict (verdict_of table) in
    let gives = table_replies laws Check (codes "check") call outcome table _ reply (λ path. refl) tt (verdict_status (verdict_of table)) tt refl acts h in
    (gives, told_settled laws.exact laws.fails laws.even table call (status_of outcome) (Is reply) h.table_told.valid gives)

tolerance_claim : PromiseLaws → (call : Call) (outcome : Outcome) (table : Table) → Acts call outcome → IsOfTable (codes "tolerance") table call
    → Answers call (status_of outcome) (yes_or_no (is_accepted (verdict_of table))) (Is (tolerance_reply (verdict_of table) table))
    × (IsTrue (is_accepted (verdict_of table)) → TellsTolerance table)
tolerance_claim laws call outcome table acts h = (
  table_replies laws Tolerance (codes "tolerance") call outcome table _ (tolerance_reply (verdict_of table) table) (λ path. refl) tt
      (verdict_status (verdict_of table)) (tolerance_stands (verdict_of table) table) (tolerance_same (verdict_of table) table) acts h,
  λ accepted. tells laws.explained.reach table h.table_told.valid accepted,
)

lawful_status : (answer : AuditAnswer) → status_of (audit_outcome answer) ≡ yes_or_no (is_lawful answer)
lawful_status (Lawful collided) = refl
lawful_status (Breach moment terminal kind) = refl

audit_claim : PromiseLaws → (call : Call) (outcome : Outcome) (table : Table) (trace : Recording) → Acts call outcome
    → IsOfTraced (codes "audit") [] table trace call
    → (answer : AuditAnswer) × IsFinding table trace answer × Answers call (status_of outcome) (yes_or_no (is_lawful answer)) (Is (TheAudit answer))
audit_claim laws call outcome table trace acts h =
    let is = h.trace_told.stands.text.trace in
    let answer = answer_of table trace in (
      answer,
      record { first = laws.answer table trace h.table_told.valid is; right = laws.right table trace h.table_told.valid is },
      with_status call (status_of outcome) (status_of (audit_outcome answer)) _ (Is (TheAudit answer)) (lawful_status answer)
          (trace_replies laws Audit (codes "audit") call outcome table trace (TheAudit answer) (λ a b. refl) (written_audit answer) tt refl acts h),
    )

vote_claim : PromiseLaws → (call : Call) (outcome : Outcome) (table : Table) (trace : Recording) → Acts call outcome
    → IsOfTraced (codes "vote") [] table trace call
    → Answers call (status_of outcome) status.Done (Is (TheVotes table trace.list)) × TellsVotes table trace.list
vote_claim laws call outcome table trace acts h = (
  trace_replies laws Vote (codes "vote") call outcome table trace (TheVotes table trace.list) (λ a b. refl) refl tt refl acts h,
  record {
    written = laws.written trace.list;
    fixed = laws.two trace.list;
    voted = laws.voted table trace.list h.table_told.valid;
  },
)

-- ---- all of them
pub keeps : PromiseLaws → (call : Call) (outcome : Outcome) → Acts call outcome → Keeps call (status_of outcome)
keeps laws call outcome acts = record {
  check = λ table h. check_claim laws call outcome table acts h;
  tolerance = λ table h. tolerance_claim laws call outcome table acts h;
  margins = λ bounds table h. margins_claim laws.plan.texts laws.margins call outcome bounds table acts h;
  design = λ bounds order table h mode. design_claim laws.plan.texts laws.design call outcome bounds order table acts h mode;
  witness = λ table h. table_replies laws Witness (codes "witness") call outcome table _ (TheMessages (witness_of table)) (λ path. refl) tt refl tt refl acts h;
  tidy = λ table h.
      table_replies laws Tidy (codes "tidy") call outcome table _ (TheTable table) (λ path. refl) tt refl (laws.plan.text_stands table h.table_told.valid) refl acts h;
  plan = λ table h periodic. plan_claim laws.plan call outcome table acts h periodic;
  plan_for = λ d table h periodic. plan_for_claim laws.plan.texts laws.cable_plan call outcome d table acts h periodic;
  plan_best = λ table h periodic. plan_best_claim laws.plan.texts laws.cable_plan call outcome table acts h periodic;
  report = λ table h.
      table_replies laws Report (codes "report") call outcome table _ (TheReport table) (λ path. refl) tt (verdict_status (verdict_of table)) tt refl acts h;
  drill = λ number h. drill_claim call outcome number acts h;
  observe = λ table items horizon h. observe_claim laws.plan.texts laws.give_hands laws.one_list call outcome table items horizon acts h;
  run = λ table items h accepted even short. run_claim laws.plan.texts laws.give_hands laws.even_agree call outcome table items acts h accepted even short;
  drop = λ table items h aperiodic accepted long short.
      drop_claim laws.plan.texts laws.give_hands call outcome table items acts h aperiodic accepted long short;
  schedule = λ table items h even short. schedule_claim laws.plan.texts laws.scheduled call outcome table items acts h even short;
  receive = λ table trace h.
      trace_replies laws Receive (codes "receive") call outcome table trace (TheReceipts (receipts_of table trace.list)) (λ a b. refl) refl tt
      (received_same table trace.list) acts h;
  audit = λ table trace h. audit_claim laws call outcome table trace acts h;
  diagnose = λ bounds table trace h. findings_claim laws.plan.texts laws.findings call outcome bounds table trace acts h;
  vote = λ table trace h. vote_claim laws call outcome table trace acts h;
  wave = λ table trace h. wave_claim laws.wave call outcome table trace acts h;
  unwave = λ table trace h. unwave_claim laws.wave call outcome table trace acts h;
  explain = λ text h. explain_claim laws.explained call outcome text acts h;
  explain_beside = λ table text h. diagnosis_claim laws.diagnosed call outcome table text acts h;
  facts = λ text h. facts_claim laws.explained laws.facts call outcome text acts h;
  cable = λ table cable items horizon h. cable_claim laws.cables call outcome table cable items horizon acts h;
  itself = λ about h. itself_claim call outcome about acts h;
}

-- ---- and what their texts tell
pub spells : CablePlanLaws → DesignLaws → WaveLaws → (call : Call) → Spells call
spells plans designs waves call = record {
  tolerance = λ table h accepted. start_told table accepted;
  plan_for = λ d table h periodic. plan_for_stands plans call d table h periodic;
  plan_best = λ table h periodic. plan_best_stands plans call table h periodic;
  design = λ bounds order table h mode. design_stands designs call bounds order table h mode;
  wave = λ table trace h. has_a_wave_text waves call table trace h;
  received = λ table list. sym (received_same table list);
  heard = λ table cable list. sym (heard_same table cable list);
}
