-- What is told of a file is what is found in it, so it means as much of the bus that was recorded.
use Rattle.std.proofs.Common.{◌≡◌, ◌+◌, List, Some, arith, sym, subst, ◌∙◌}
use Rattle.bus_strings.specs.Messages.{Entry}
use Rattle.bus_table.specs.Tables.{Sender, Table}
use Rattle.bus_trace.specs.Traces.{Recording}
use Rattle.bus_bounds.specs.Bounds.{Bounds}
use Rattle.bus_recording.specs.FileAmounts.{FileAmountsAreTrue, FileGapIsTrue}
use Rattle.bus_recording.specs.Findings.{IsEarlyByGap, IsEarlyBySync, IsLate}
use Rattle.bus_recording.specs.Seen.{Seen, IsIn, IsNext}
use Rattle.bus_findings.specs.declared.judgement.Judgement.{Judgement}
use Rattle.bus_findings.specs.declared.judgement.Late.{Late}
use Rattle.bus_findings.specs.Files.{StandsInFile}
use Rattle.bus_findings.specs.Judging.{judgement_of, last_start}
use Rattle.bus_findings.specs.Laws.{IsOfSender}
use Rattle.bus_findings.specs.Meanings.{FileAmountsAreMeant, FileGapIsMeant}
use Rattle.bus_findings.specs.Recorded.{seen, recorded, monitor_of, timers_of}
use Rattle.bus_findings.proofs.SeenLemmas.{is_recorded}
use Rattle.bus_findings.proofs.SenderLemmas.{found_number}
use Rattle.bus_findings.proofs.JustLemmas.{next_is, amounts_told, gap_told, late_told}

-- the sender has its number on the bus
numbered : (bounds : Bounds) (table : Table) (trace : Recording) (sender : Sender) (s : StandsInFile bounds table trace sender) (x : Entry)
    → IsOfSender table trace sender x → x.terminal ≡ s.name s.terminal
numbered bounds table trace sender s x is = sym (found_number table.senders x.terminal sender is.sender_is) ∙ sym s.named

-- a start that is told to be late is so
late_so : (bounds : Bounds) (table : Table) (trace : Recording) (sender : Sender) (x : Entry) (o : Seen) (late : Late) → IsOfSender table trace sender x
    → last_start (recorded bounds trace.list) x.terminal x.moment ≡ Some o → (judgement_of bounds table trace.list x).late ≡ Some late
    → IsLate (timers_of bounds table sender) (monitor_of bounds table) late.amount (recorded bounds trace.list) o (seen bounds x)
late_so bounds table trace sender x o late is last told =
    let w = late_told bounds table trace sender x o late is last told in
    let due : w.0 + late.amount ≡ x.moment = w.1.amount in
    record { due = w.0; early = omega (arith, due); over = w.1.since.over.over }

pub file_amounts_meant : FileAmountsAreTrue → FileAmountsAreMeant
file_amounts_meant law bounds table trace sender s x o t apart is last =
    let timers = timers_of bounds table sender in
    let monitor = monitor_of bounds table in
    let found : Judgement = judgement_of bounds table trace.list x in
    let told = amounts_told bounds table trace sender x o is last in
    let m = law s.course s.terminal s.away s.reach s.drop s.bit s.start s.end s.longest s.arrives s.noted s.file monitor s.name timers o (seen bounds x)
    s.some s.placed s.near s.noted_so s.told apart s.names
    (subst (λ (l : List Seen). IsNext l o (seen bounds x)) (sym s.is_trace) (next_is bounds trace x o t is.there last)) (numbered bounds table trace sender s x is) in (
      m.0,
      m.1,
      m.2,
      m.3,
      record {
        row = m.4.row;
        interval = λ some. m.4.interval found.interval (told.interval.so some);
        terminal_gap = λ some.
            m.4.gap found.terminal_gap
            (subst (λ (l : List Seen). IsEarlyByGap timers monitor found.terminal_gap l (seen bounds x)) (sym s.is_trace) (told.terminal_gap.so some));
        sync_gap = λ some.
            m.4.sync found.sync_gap some
            (subst (λ (l : List Seen). IsEarlyBySync timers monitor found.sync_gap l o (seen bounds x)) (sym s.is_trace) (told.sync_gap.so some));
        late = λ late e.
            m.4.late late.amount
            (subst (λ (l : List Seen). IsLate timers monitor late.amount l o (seen bounds x)) (sym s.is_trace) (late_so bounds table trace sender x o late is last e));
      },
    )

pub file_gap_meant : FileGapIsTrue → FileGapIsMeant
file_gap_meant law bounds table trace sender s x t apart is some =
    let timers = timers_of bounds table sender in
    let monitor = monitor_of bounds table in
    let found : Judgement = judgement_of bounds table trace.list x in
    law s.course s.terminal s.away s.reach s.drop s.bit s.start s.end s.longest s.arrives s.noted s.file monitor s.name timers found.terminal_gap (seen bounds x)
    s.some s.placed s.near s.noted_so s.told apart s.names
    (subst (λ (l : List Seen). IsIn (seen bounds x) l) (sym s.is_trace) (is_recorded bounds trace.list x is.there)) (numbered bounds table trace sender s x is)
    (subst (λ (l : List Seen). IsEarlyByGap timers monitor found.terminal_gap l (seen bounds x)) (sym s.is_trace) ((gap_told bounds table trace sender x is).so some))
