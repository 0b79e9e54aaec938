-- What the commands on a table and a trace answer: at which stage, and that a refusal has its cause. A new one has a line in each table.
use Rattle.std.specs.Prelude.{◌≡◌, ℕ, ◌≤◌, Bool, true, false, List, Result, Ok, Err}
use Rattle.std.proofs.Common.{arith, refl}
use Rattle.bus_table.specs.Tables.{Table}
use Rattle.bus_audit.specs.Breaches.{answer_of}
use Rattle.bus_audit.specs.declared.answer.AuditAnswer.{AuditAnswer}
use Rattle.bus_audit.specs.declared.answer.AuditAnswer.TheVariants.{Lawful, Breach}
use Rattle.bus_trace.specs.Traces.{Recording}
use Rattle.bus_wave.specs.Spacing.{spaced_of}
use Rattle.bus_wave.specs.declared.fault.WaveFault.{WaveFault}
use Rattle.bus_command.specs.Causes.{RefusesTexts}
use Rattle.bus_command.specs.Due.{traced_due, any_trace}
use Rattle.bus_command.specs.Kinds.{kind_of, stage_of}
use Rattle.bus_command.specs.declared.inputs.Traced.{Traced}
use Rattle.bus_command.proofs.ReadLemmas.{CauseLaws, table_valid, read_trace, traced_read}
use Rattle.bus_findings.specs.Terminals.{has_fault}
use Rattle.bus_tool.specs.Causes.{Cause, EndIs, IsNoEnd}
use Rattle.bus_tool.specs.Due.{audit_outcome, findings_outcome, spaced_outcome, trace_answer, traced_answer}
use Rattle.bus_tool.specs.Forms.{TraceCommand, Receive, Audit, Vote, Wave, Diagnose}
use Rattle.bus_tool.specs.Refusals.{ToolRefusal}
use Rattle.bus_tool.proofs.AnswerLaws.{answer_late, written_audit, written_findings}

-- ---- at which stage
spaced_late : (r : Result (Unit {0}) WaveFault) → 2 ≤ stage_of (kind_of (spaced_outcome r))
spaced_late (Ok u) = omega arith
spaced_late (Err fault) = omega arith

pub trace_late : (command : TraceCommand) (table : Table) (trace : Recording) → 2 ≤ stage_of (kind_of (trace_answer command table trace))
trace_late Receive table trace = omega arith
trace_late Audit table trace = answer_late (audit_outcome (answer_of table trace)) (written_audit (answer_of table trace))
trace_late Vote table trace = omega arith
trace_late Wave table trace = spaced_late (spaced_of table trace)
trace_late (Diagnose bounds) table trace = answer_late (findings_outcome (has_fault bounds table trace)) (written_findings (has_fault bounds table trace))

-- ---- for which cause
audit_cause : (IsEnd : EndIs) (first second : List ℕ) (answer : AuditAnswer) → RefusesTexts (Cause IsEnd) (audit_outcome answer) first second
audit_cause IsEnd first second (Lawful collided) = tt
audit_cause IsEnd first second (Breach moment terminal kind) = tt

findings_cause : (IsEnd : EndIs) (first second : List ℕ) (fault : Bool) → RefusesTexts (Cause IsEnd) (findings_outcome fault) first second
findings_cause IsEnd first second true = tt
findings_cause IsEnd first second false = tt

spaced_cause : CauseLaws → (IsEnd : EndIs) (first second : List ℕ) (traced : Traced) (r : Result (Unit {0}) WaveFault)
    → traced_due {R = ToolRefusal} first second ≡ Ok traced → spaced_of traced.table traced.trace ≡ r → RefusesTexts (Cause IsEnd) (spaced_outcome r) first second
spaced_cause laws IsEnd first second traced (Ok u) h e = tt
spaced_cause laws IsEnd first second traced (Err fault) h e =
    let read = traced_read {R = ToolRefusal} any_trace first second traced h in
    record {
      table = traced.table;
      trace = traced.trace;
      table_is = table_valid {R = ToolRefusal} laws first traced.table read.table_is;
      trace_stands = read_trace {R = ToolRefusal} laws.trace_only second traced.trace read.trace_is;
      why = e;
    }

pub trace_answer_cause : CauseLaws → (command : TraceCommand) (first second : List ℕ) (traced : Traced) → traced_due {R = ToolRefusal} first second ≡ Ok traced
    → RefusesTexts (Cause IsNoEnd) (traced_answer command traced) first second
trace_answer_cause laws Receive first second traced h = tt
trace_answer_cause laws Audit first second traced h = audit_cause IsNoEnd first second (answer_of traced.table traced.trace)
trace_answer_cause laws Vote first second traced h = tt
trace_answer_cause laws Wave first second traced h = spaced_cause laws IsNoEnd first second traced (spaced_of traced.table traced.trace) h refl
trace_answer_cause laws (Diagnose bounds) first second traced h = findings_cause IsNoEnd first second (has_fault bounds traced.table traced.trace)
