-- What bytes read as that were taken of a trace text which is refused.
use Rattle.std.specs.Prelude.{◌≡◌, ℕ, ◌≤◌, List, ◌++◌, length, Option, Err}
use Rattle.std.proofs.Common.{arith, sym, ap, ◌∙◌}
use Rattle.bus_trace.specs.declared.fault.TraceError.TheVariants.{Text}
use Rattle.bus_trace.specs.declared.reason.TraceReason.{TraceReason}
use Rattle.bus_trace.specs.declared.reason.TraceReason.TheVariants.{Ended}
use Rattle.bus_trace.specs.Limits.{trace_limit}
use Rattle.bus_trace.specs.Reading.{Gave, Refuses, ByLine, CutOff}
use Rattle.bus_trace.specs.Runs.{Going, Refused, behind, begin, run, ended_by, reading, ◌>>-◌}
use Rattle.bus_trace.specs.States.{State}
use Rattle.bus_trace.proofs.Feeds.{due_within}
use Rattle.bus_trace.proofs.Runs.{run-append, run-line}
use Rattle.bus_trace.proofs.PieceLaws.{offends_refused}

-- behind whole lines
after : (before : State) (lines more : List ℕ) → Gave lines before → run begin (lines ++ more) ≡ run (behind before) more
after before lines more g = run-append begin lines more ∙ ap (λ o. o >>- λ n. run n more) g.run

pub refused_reads : (taken : List ℕ) (left : Option (List ℕ)) (byte : ℕ) (reason : TraceReason) → Refuses taken left byte reason
    → length taken ≤ trace_limit → reading trace_limit taken ≡ Err (Text byte reason)
refused_reads taken left byte reason (ByLine offends) short =
    ap ended_by (due_within taken (Refused byte reason) short (offends_refused taken byte reason offends))
refused_reads taken left byte reason (CutOff at is few end why) short =
    ap ended_by (due_within taken (Going (record { state = at.before; line = at.line })) short
    (ap (run begin) is ∙ after at.before at.lines at.line at.gave ∙ run-line (behind at.before) at.line at.feedless (omega (arith, few))))
    ∙ ap (λ n. Err (Text n Ended)) (ap length (sym at.gave.text) ∙ sym at.place) ∙ ap (λ r. Err (Text byte r)) (sym why)
