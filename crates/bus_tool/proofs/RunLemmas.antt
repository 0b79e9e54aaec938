-- The trace of a run.
use Rattle.std.specs.Prelude.{◌≡◌, ℕ, ◌≤◌, List, Result, Ok, Err, IsErrAnd}
use Rattle.std.specs.List.{AllByRecursion}
use Rattle.std.proofs.Common.{arith, refl, sym, ap, ◌∙◌, subst}
use Rattle.std.proofs.lemmas.Result.{err_from_is_err_and}
use Rattle.bus_outer.proofs.WriteLaws.{writes_then, writes_cut}
use Rattle.bus_text.specs.AllOf.{◌>>=◌}
use Rattle.bus_strings.specs.Messages.{Entry}
use Rattle.bus_strings.specs.Transmissions.{IsTransmission}
use Rattle.bus_table.specs.Tables.{Table, Hand}
use Rattle.bus_filter.specs.ReceivedTexts.{received_text}
use Rattle.bus_medium.specs.Lawful.{IsLawful}
use Rattle.bus_medium.specs.Timings.{quiet_of, stations_of}
use Rattle.bus_outer.specs.Sinks.{WritesText}
use Rattle.bus_outer.specs.declared.sink.Sink.{Ghosts as SinkGhosts}
use Rattle.bus_outer.specs.declared.sink.WriteFault.{WriteFault as Fault}
use Rattle.bus_schedule.specs.Closed.{closed_end}
use Rattle.bus_schedule.specs.Limits.{longest_end}
use Rattle.bus_schedule.specs.Runs.{IsRun}
use Rattle.bus_trace.specs.Traces.{Recording, IsTrace, trace_text}
use Rattle.bus_trace.specs.declared.hold.Hold.{Hold}
use Rattle.bus_command.specs.Stages.{Gives}
use Rattle.bus_command.proofs.FewHands.{AreFew}
use Rattle.bus_tool.specs.Due.{short_due, may_run, can_run}
use Rattle.bus_hands.specs.Holds.{hand_holds}
use Rattle.bus_tool.specs.Texts.{IsRunRecording, run_text}
use Rattle.bus_tool.proofs.AnswerLaws.{short_end}
use Rattle.bus_tool.proofs.TraceLemmas.{observed_is_trace}

pub can_be_run : (table : Table) (hands : List Hand) → may_run table hands ≡ Ok tt → closed_end table hands ≤ longest_end → can_run table hands ≡ Ok tt
can_be_run table hands may short = ap (λ d. d >>= λ _. short_due (closed_end table hands)) may ∙ short_end (closed_end table hands) short

pub run_is_trace : (table : Table) (hands : List Hand) (end : ℕ) (holds : List Hold) (list : List Entry) → end ≡ closed_end table hands → closed_end table hands ≤ longest_end → AreFew hands → holds ≡ hand_holds hands → IsRun table hands list → AllByRecursion IsTransmission list → IsTrace (record { horizon = end; holds = holds; list = list })
run_is_trace table hands end holds list e short few same run ranged =
    observed_is_trace table hands end holds list (omega arith) few same (subst (λ n. IsLawful (quiet_of table) (stations_of table hands) n list) (sym e) run.lawful) ranged

pub run_gives : (table : Table) (hands : List Hand) (end : ℕ) (holds : List Hold) (list : List Entry) (recording : Recording) → may_run table hands ≡ Ok tt → closed_end table hands ≤ longest_end → end ≡ closed_end table hands → holds ≡ hand_holds hands → IsRun table hands list
    → recording ≡ record { horizon = end; holds = holds; list = list } → Gives (λ trace _. IsRunRecording table hands trace) (Ok recording) (can_run table hands)
run_gives table hands end holds list recording may short e same run is =
    (tt, can_be_run table hands may short, subst (IsRunRecording table hands) (sym is) (record { horizon = e; holds = same; run = run }))

-- ---- its text
-- a trace that was written, and what is received of it behind
pub run_written : {K : Type 0} (ghosts : SinkGhosts K) (a b c : K) (u : Unit {0}) (result : Result (Unit {0}) Fault) (table : Table) (trace : Recording) (list : List Entry) → list ≡ trace.list
    → WritesText {E = Fault} ghosts.held ghosts.faults a b (Ok u) (trace_text trace) → WritesText ghosts.held ghosts.faults b c result (received_text table list) → WritesText ghosts.held ghosts.faults a c result (run_text table trace)
run_written ghosts a b c u result table trace list same w v =
    writes_then ghosts.held ghosts.faults a b c u result (trace_text trace) (received_text table trace.list) w (subst (λ l. WritesText ghosts.held ghosts.faults b c result (received_text table l)) same v)

-- a trace that was written in part
pub run_cut : {K : Type 0} (ghosts : SinkGhosts K) (a b : K) (e : Fault) (result : Result (Unit {0}) Fault) (table : Table) (trace : Recording)
    → WritesText {T = Unit {0}} ghosts.held ghosts.faults a b (Err e) (trace_text trace) → IsErrAnd result (λ came. came ≡ e) → WritesText ghosts.held ghosts.faults a b result (run_text table trace)
run_cut ghosts a b e result table trace w h =
    let came = err_from_is_err_and result h in
    let cut : Result (Unit {0}) Fault = Err e in
    subst (λ r. WritesText ghosts.held ghosts.faults a b r (run_text table trace)) (sym (came.1 ∙ ap Err came.2))
    (writes_cut ghosts.held ghosts.faults a b e cut (trace_text trace) (received_text table trace.list) w refl)
