-- What is claimed of `wave` and `unwave`.
use Rattle.std.specs.Prelude.{◌≡◌, List, Result, Ok, Err, ◌∷◌, [], codes}
use Rattle.std.proofs.Common.{refl, ap, ◌∙◌, subst}
use Rattle.bus_table.specs.Tables.{Table, Hand}
use Rattle.bus_trace.specs.Traces.{Recording, trace_text}
use Rattle.bus_wave.specs.WaveLaws.{IsWaveTrace, SpacedPasses, SpacedHaveTexts, WavesReadBack, WavesTell, RunsAreSpaced, RunsAreWaveTraces}
use Rattle.bus_wave.specs.declared.fault.WaveFault.{WaveFault}
use Rattle.bus_wave.specs.Spacing.{IsSpaced, spaced_of}
use Rattle.bus_wave.specs.WaveTexts.{wave_text}
use Rattle.std.specs.Prelude.{codes, []}
use Rattle.bus_command.specs.Claims.{IsOfTraced}
use Rattle.bus_command.specs.Due.{table_refusal_of, with_trace}
use Rattle.bus_command.specs.Kinds.{kind_of}
use Rattle.bus_command.specs.Outside.{Call}
use Rattle.bus_command.specs.Readers.{entire, two_sources}
use Rattle.bus_command.specs.Stages.{MayReplace}
use Rattle.bus_command.specs.declared.outcome.Outcome.TheVariants.{Done, Answered, Usage, TableText, TableWhole, MessagesText, Unfit, TraceText, Own, ReadFault, WriteFault, NoMemory, TooLarge}
use Rattle.bus_command.specs.declared.refusal.Place.TheVariants.{First, Second, Both}
use Rattle.bus_command.specs.declared.status.Status.TheVariants as status
use Rattle.bus_command.proofs.ClaimLemmas.{claimed, does_of, at_two}
use Rattle.bus_command.proofs.ReadLemmas.{traced_told}
use Rattle.bus_command.proofs.ToldLemmas.{table_told}
use Rattle.bus_tool.specs.Acts.{tool_program, Acts}
use Rattle.bus_tool.specs.Answering.{Answers, IsTextOf}
use Rattle.bus_tool.specs.Asking.{IsUnwaveOf}
use Rattle.bus_tool.specs.Due.{spaced_outcome, unwave_answer, unwave_due, wave_trace_due}
use Rattle.bus_tool.specs.Forms.{Unwave, Wave, entire_wave}
use Rattle.bus_tool.proofs.FormLemmas.{of_plain}
use Rattle.bus_tool.specs.Refusals.{Outcome, ToolRefusal, ends_of, status_of, refuse, Unspaced}
use Rattle.bus_tool.specs.Replies.{Is, TheTrace, TheWave}
use Rattle.bus_tool.specs.Texts.{IsUnwavedText}
use Rattle.bus_tool.specs.WaveClaims.{IsTraceOfRun, HasAWave, HasAWaveText}
use Rattle.bus_tool.proofs.GroupClaims.{ReadLaws, trace_comes, trace_stands}
use Rattle.bus_tool.proofs.ReplyLemmas.{is_text, replies}
use Rattle.bus_tool.proofs.WaveLemmas.{wave_told}

-- the laws of waves
pub record WaveLaws : Type 0 where
  pub texts : ReadLaws
  pub passes : SpacedPasses
  pub one : SpacedHaveTexts
  pub back : WavesReadBack
  pub tell : WavesTell
  pub runs : RunsAreSpaced
  pub read : RunsAreWaveTraces

-- what the laws say of the trace of a run
run_is_read : WaveLaws → (call : Call) (table : Table) (trace : Recording) → IsOfTraced (codes "wave") [] table trace call → (hands : List Hand)
    → IsTraceOfRun table hands trace → IsWaveTrace table trace
run_is_read laws call table trace h hands run =
    laws.read table hands trace h.table_told.valid run.accepted run.even h.trace_told.stands.text.trace
    (record { list = run.ran.run.closed; horizon = run.ran.horizon; holds = run.ran.holds })

has_a_wave : WaveLaws → (call : Call) (table : Table) (trace : Recording) → IsOfTraced (codes "wave") [] table trace call → HasAWave table trace
has_a_wave laws call table trace h = record {
  closed = λ hands run. laws.runs table hands trace h.table_told.valid run.accepted run.even run.list run.horizon;
  read = run_is_read laws call table trace h;
  tells = λ other is told same. laws.tell table trace other h.table_told.valid is told same;
}

pub has_a_wave_text : WaveLaws → (call : Call) (table : Table) (trace : Recording) → IsOfTraced (codes "wave") [] table trace call → HasAWaveText table trace
has_a_wave_text laws call table trace h = record {
  one = λ spaced. laws.one table trace h.table_told.valid h.trace_told.stands.text.trace spaced;
  back = λ hands run.
      let is = run_is_read laws call table trace h hands run in
      laws.back table trace (wave_text trace) h.table_told.valid is
      (laws.one table trace h.table_told.valid h.trace_told.stands.text.trace is.spaced).is;
}

-- a trace that isn't spaced isn't answered with Done
own_done : (fault : WaveFault) (o : Outcome) → (let due : Outcome = refuse (Unspaced fault) in due) ≡ o → status_of o ≡ status.Done → ⊥
own_done fault o same h = (let k : status_of (refuse (Unspaced fault)) ≡ status.Done = ap status_of same ∙ h in cc)

refused_done : (fault : WaveFault) (o : Outcome) → MayReplace (refuse (Unspaced fault)) o → status_of o ≡ status.Done → ⊥
refused_done fault Done stands h = cc
refused_done fault Answered stands h = cc
refused_done fault Usage stands h = cc
refused_done fault (TableText line reason) stands h = cc
refused_done fault (TableWhole reason) stands h = cc
refused_done fault (MessagesText line reason) stands h = cc
refused_done fault (Unfit error) stands h = cc
refused_done fault (TraceText byte reason) stands h = cc
refused_done fault (Own First why) stands h = own_done fault (Own First why) stands h
refused_done fault (Own Second why) stands h = own_done fault (Own Second why) stands h
refused_done fault (Own Both why) stands h = own_done fault (Own Both why) stands h
refused_done fault (ReadFault source) stands h = cc
refused_done fault WriteFault stands h = cc
refused_done fault NoMemory stands h = cc
refused_done fault (TooLarge source) stands h = cc

-- Done comes of a spaced trace alone
spaced_by : WaveLaws → (table : Table) (trace : Recording) (outcome : Outcome) (r : Result (Unit {0}) WaveFault) → spaced_of table trace ≡ r
    → MayReplace (spaced_outcome r) outcome → status_of outcome ≡ status.Done → IsSpaced table trace
spaced_by laws table trace outcome (Ok u) e stands done = (laws.passes table trace).0 e
spaced_by laws table trace outcome (Err fault) e stands done = absurd (refused_done fault outcome stands done)

done_spaced : WaveLaws → (call : Call) (outcome : Outcome) (table : Table) (trace : Recording) → Acts call outcome
    → IsOfTraced (codes "wave") [] table trace call → status_of outcome ≡ status.Done → IsSpaced table trace
done_spaced laws call outcome table trace acts h done =
    spaced_by laws table trace outcome (spaced_of table trace) refl
    (trace_stands laws.texts Wave (codes "wave") call outcome table trace (λ a b. refl) acts h) done

pub wave_claim : WaveLaws → (call : Call) (outcome : Outcome) (table : Table) (trace : Recording) → Acts call outcome
    → IsOfTraced (codes "wave") [] table trace call
    → (IsSpaced table trace → Answers call (status_of outcome) status.Done (Is (TheWave trace)))
    × (status_of outcome ≡ status.Done → IsSpaced table trace) × HasAWave table trace
wave_claim laws call outcome table trace acts h = (
  λ spaced.
      let passes = (laws.passes table trace).1 spaced in
      subst (λ r. Answers call (status_of outcome) (status_of (spaced_outcome r)) (Is (TheWave trace))) passes
      (replies call (status_of outcome) _ (TheWave trace) _ tt refl
      (trace_comes laws.texts Wave (codes "wave") call outcome table trace (λ a b. refl) (ap (λ r. kind_of (spaced_outcome r)) passes) acts h)),
  done_spaced laws call outcome table trace acts h,
  has_a_wave laws call table trace h,
)

pub unwave_claim : WaveLaws → (call : Call) (outcome : Outcome) (table : Table) (trace : Recording) → Acts call outcome → IsUnwaveOf table trace call
    → Answers call (status_of outcome) status.Done (Is (TheTrace trace))
unwave_claim laws call outcome table trace acts h =
    let first = h.table_told.text in
    let second = h.wave_told.text in
    let before = call.before.sources in
    let due : unwave_due first second ≡ Ok (with_trace table trace) = traced_told {R = ToolRefusal} wave_trace_due table trace first second
    (table_told {R = ToolRefusal} laws.texts.table_again table before.first h.table_told)
    (wave_told laws.back table trace second h.table_told.valid h.wave_told.trace_is h.wave_told.stands h.wave_told.short) in
    claimed ends_of unwave_answer IsUnwavedText (two_sources entire entire_wave) table_refusal_of unwave_due first second (with_trace table trace)
    (IsTextOf (Is (TheTrace trace))) call outcome (at_two entire entire_wave before first second h.table_told.told h.wave_told.told) due refl
    (λ text is. is_text (TheTrace trace) (trace_text trace) text h.wave_told.trace_is.trace refl is) (does_of tool_program call outcome Unwave (of_plain (codes "unwave") h.form.first (h.form.second ∷ []) call.words h.form.form h.form.plain) acts) h.undisturbed
