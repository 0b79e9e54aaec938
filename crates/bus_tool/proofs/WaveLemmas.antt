-- The trace of a wave that is taken, what is due of it, and the cause where it is refused.
use Rattle.std.specs.Prelude.{◌≡◌, ℕ, ◌≤◌, IsTrue, List, length, Vec, Result, Ok, Err, IsErrAnd}
use Rattle.std.specs.declared.alloc.Global.{Global}
use Rattle.std.proofs.Common.{arith, refl, sym, ap, ◌∙◌, subst}
use Rattle.std.proofs.lemmas.Result.{err_from_is_err_and}
use Rattle.bus_text.specs.AllOf.{◌>>=◌}
use Rattle.bus_table.specs.Tables.{Table}
use Rattle.bus_table.specs.Valid.{is_valid}
use Rattle.bus_trace.specs.Traces.{Recording}
use Rattle.bus_text.specs.Gives.{Fails}
use Rattle.bus_wave.specs.Reading.{WaveRefusal, wave_reading}
use Rattle.bus_wave.specs.WaveLaws.{IsWaveTrace, WavesReadBack}
use Rattle.bus_wave.specs.WaveTexts.{IsWaveText}
use Rattle.bus_text.specs.declared.error.TextError.{TextError}
use Rattle.bus_wave.specs.declared.fault.WaveReason.{WaveReason}
use Rattle.bus_text.specs.declared.error.TextError.TheVariants.{Text, Memory}
use Rattle.bus_command.specs.Causes.{IsValidText, RefusesTexts}
use Rattle.bus_command.specs.Due.{text_within}
use Rattle.bus_command.specs.Kinds.{kind_of}
use Rattle.bus_command.specs.Outside.{Seen}
use Rattle.bus_command.specs.Stages.{stage_in, Gives}
use Rattle.bus_command.specs.Steps.{IsText, Same, StopsAt, Takes}
use Rattle.bus_command.proofs.ReadLemmas.{refuse_text, stage_at}
use Rattle.bus_command.proofs.TakeLemmas.{RefusesAt, takes_then, takes_none}
use Rattle.bus_command.proofs.TextLemmas.{short_text}
use Rattle.bus_tool.specs.Causes.{Cause, EndIs}
use Rattle.bus_tool.specs.Due.{wave_or_refusal, wave_trace_due}
use Rattle.bus_tool.specs.inside.Refused.{wave_refusal}
use Rattle.bus_tool.specs.Forms.{entire_wave, wave_limit}
use Rattle.bus_tool.specs.Refusals.{Outcome, ToolRefusal, refuse, WaveText}

-- ---- a wave
-- it is read
pub wave_taken : (old new : Seen) (table : Table) (text : Vec ℕ Global) (bytes : List ℕ) (trace : Recording)
    → Takes IsText 2 entire_wave (text_within {R = ToolRefusal} wave_limit 2) old new (Ok text) → bytes ≡ text.items → wave_reading table bytes ≡ Ok trace
    → Takes Same 2 entire_wave (wave_trace_due table) old new (Ok trace)
wave_taken old new table text bytes trace t same h =
    takes_then IsText Same 2 entire_wave (text_within {R = ToolRefusal} wave_limit 2) (λ whole. wave_or_refusal (wave_reading table whole)) old new text (Ok trace) t
    (λ whole read. (trace, ap wave_or_refusal (ap (wave_reading table) (sym (same ∙ read)) ∙ h), refl)) tt

wave_late : (r : Result Recording WaveRefusal) → 2 ≤ stage_in (wave_or_refusal r)
wave_late (Ok trace) = omega arith
wave_late (Err refusal) = omega arith

-- it is refused
wave_fails : (e : TextError WaveReason) (table : Table) (text : List ℕ) → Fails e (wave_reading table text)
    → Gives {X = Recording} {Y = Recording} Same (Err (wave_refusal e)) (wave_or_refusal (wave_reading table text))
wave_fails (Text line reason) table text h = ap wave_or_refusal h
wave_fails Memory table text h = (let late = wave_late (wave_reading table text) in omega (arith, late))

wave_refuses_at : (e : TextError WaveReason) → RefusesAt 2 (kind_of (wave_refusal e))
wave_refuses_at (Text line reason) = refl
wave_refuses_at Memory = tt

pub wave_refused : (old new : Seen) (table : Table) (text : Vec ℕ Global) (bytes : List ℕ) (e : TextError WaveReason) (r : Result Recording Outcome)
    → Takes IsText 2 entire_wave (text_within {R = ToolRefusal} wave_limit 2) old new (Ok text) → bytes ≡ text.items → Fails e (wave_reading table bytes)
    → IsErrAnd r (λ o. o ≡ wave_refusal e) → Takes Same 2 entire_wave (wave_trace_due table) old new r
wave_refused old new table text bytes e r t same fails h =
    let came = err_from_is_err_and r h in
    subst (Takes Same 2 entire_wave (wave_trace_due table) old new) (sym (came.1 ∙ ap Err came.2))
    (takes_then IsText Same 2 entire_wave (text_within {R = ToolRefusal} wave_limit 2) (λ whole. wave_or_refusal (wave_reading table whole)) old new text (Err (wave_refusal e)) t
    (λ whole read. wave_fails e table whole (subst (λ b. Fails e (wave_reading table b)) (same ∙ read) fails)) (wave_refuses_at e))

-- no text was read
pub wave_none : (old new : Seen) (table : Table) (o : Outcome) (r : Result Recording Outcome) → IsErrAnd r (λ came. came ≡ o)
    → Takes {X = Vec ℕ Global} IsText 2 entire_wave (text_within {R = ToolRefusal} wave_limit 2) old new (Err o)
    → Takes Same 2 entire_wave (wave_trace_due table) old new r
wave_none old new table o r h t =
    let came = err_from_is_err_and r h in
    subst (Takes Same 2 entire_wave (wave_trace_due table) old new) (sym (came.1 ∙ ap Err came.2))
    (takes_none IsText Same 2 entire_wave (text_within {R = ToolRefusal} wave_limit 2) (λ whole. wave_or_refusal (wave_reading table whole)) old new o (omega arith)
    (λ whole. wave_late (wave_reading table whole)) t)

-- ---- what is due of it
reading_stops : (r : Result Recording WaveRefusal) (o : Outcome) → wave_or_refusal r ≡ Err o → StopsAt 2 (kind_of o)
reading_stops (Ok trace) o h = absurd cc
reading_stops (Err refusal) o h = (let e : refuse (WaveText refusal.line refusal.reason) ≡ o = cc in subst (λ (o : Outcome). StopsAt 2 (kind_of o)) e refl)

pub wave_stops : (table : Table) (text : List ℕ) (o : Outcome) → wave_trace_due table text ≡ Err o → StopsAt 2 (kind_of o)
wave_stops table text o h =
    refuse_text (λ (o : Outcome). StopsAt 2 (kind_of o)) wave_limit 2 text (λ whole. wave_or_refusal (wave_reading table whole)) o refl
    (reading_stops (wave_reading table text) o) h

pub wave_stage : (table : Table) (text : List ℕ) → 2 ≤ stage_in (wave_trace_due table text)
wave_stage table text = stage_at 2 (wave_trace_due table text) (omega arith) (λ o h. wave_stops table text o h)

-- one that is told
pub wave_told : WavesReadBack → (table : Table) (trace : Recording) (text : List ℕ) → IsTrue (is_valid table) → IsWaveTrace table trace
    → IsWaveText trace text → length text ≤ wave_limit → wave_trace_due table text ≡ Ok trace
wave_told back table trace text valid is stands short =
    ap (λ r. r >>= λ whole. wave_or_refusal (wave_reading table whole)) (short_text {R = ToolRefusal} wave_limit 2 text short)
    ∙ ap wave_or_refusal (back table trace text valid is stands)

-- one that is refused has its cause
reading_cause : WavesReadBack → (IsEnd : EndIs) (first second : List ℕ) (table : Table) (o : Outcome) (r : Result Recording WaveRefusal)
    → IsValidText table first → wave_reading table second ≡ r → wave_or_refusal r ≡ Err o → RefusesTexts (Cause IsEnd) o first second
reading_cause back IsEnd first second table o (Ok trace) valid e h = absurd cc
reading_cause back IsEnd first second table o (Err refusal) valid e h =
    let same : refuse (WaveText refusal.line refusal.reason) ≡ o = cc in
    subst (λ (o : Outcome). RefusesTexts (Cause IsEnd) o first second) same
    (record { table = table; table_is = valid; none = λ trace is stands. (let k = back table trace second valid.valid is stands in cc) })

pub wave_cause : WavesReadBack → (IsEnd : EndIs) (first second : List ℕ) (table : Table) (o : Outcome) → IsValidText table first
    → wave_trace_due table second ≡ Err o → RefusesTexts (Cause IsEnd) o first second
wave_cause back IsEnd first second table o valid h =
    refuse_text (λ (o : Outcome). RefusesTexts (Cause IsEnd) o first second) wave_limit 2 second (λ whole. wave_or_refusal (wave_reading table whole)) o tt
    (reading_cause back IsEnd first second table o (wave_reading table second) valid refl) h
