-- What is made of a table text and a trace text.
use Rattle.std.specs.Prelude.{◌≡◌, ℕ, ◌≤◌, List, [], Option, IfSome, Result, Ok, Err, IsErrAnd}
use Rattle.std.proofs.Common.{arith, refl, sym, ap, ◌∙◌, subst, inl, inr, append-nil}
use Rattle.std.proofs.lemmas.Result.{err_from_is_err_and}
use Rattle.bus_text.specs.AllOf.{◌>>=◌}
use Rattle.bus_table.specs.Tables.{Table}
use Rattle.bus_trace.specs.declared.fault.TraceError.{TraceError}
use Rattle.bus_trace.specs.declared.fault.TraceError.TheVariants.{Text, ReadFault, TooLarge, Memory}
use Rattle.bus_trace.specs.Traces.{Recording, IsTrace, text_in}
use Rattle.bus_trace.specs.Limits.{trace_limit}
use Rattle.bus_trace.specs.Runs.{reading, ended_by}
use Rattle.bus_trace.specs.TraceLaws.{ReadsBack}
use Rattle.bus_trace.specs.Reading.{TakesTrace, ReadGives, CountsReading}
use Rattle.bus_command.specs.declared.inputs.Traced.{Traced}
use Rattle.bus_command.specs.declared.outcome.Outcome.{Outcome}
use Rattle.bus_command.specs.Kinds.{kind_of}
use Rattle.bus_command.specs.Stages.{stage_in}
use Rattle.bus_command.specs.Outside.{Seen, both}
use Rattle.bus_command.specs.Readers.{Reader, Trace, entire, two_sources}
use Rattle.bus_command.specs.Steps.{Takes, Same, Prepares}
use Rattle.bus_command.specs.Due.{table_due, table_refusal_of, trace_refusal, trace_or_refusal, trace_due, with_trace, traced_by}
use Rattle.bus_command.proofs.RefusedReads.{refused_reads}
use Rattle.bus_command.proofs.StageLaws.{if_map, some_map, some_all, told_or, then_stage, stop_early, stop_low, gives_on}
use Rattle.bus_command.proofs.TakeLemmas.{takes_then}
use Rattle.bus_command.proofs.PrepareLaws.{prepares_none, prepares_both}

pub reading_stage : (R : Type 0) (r : Result Recording TraceError) → 2 ≤ stage_in (trace_or_refusal {R = R} r)
reading_stage R (Ok trace) = omega arith
reading_stage R (Err (Text byte reason)) = omega arith
reading_stage R (Err ReadFault) = omega arith
reading_stage R (Err TooLarge) = omega arith
reading_stage R (Err Memory) = omega arith

-- so it comes no earlier
pub trace_stage : (R : Type 0) (table : Table) (text : List ℕ) → 2 ≤ stage_in (trace_due {R = R} text)
trace_stage R table text = reading_stage R (reading trace_limit text)

-- ---- the second text
-- what a trace text that was taken reads as
trace_text_reads : ReadsBack → (old new : Option (List ℕ)) (trace : Recording) → IsTrace trace → (t : TakesTrace old new (Ok trace))
    → reading trace_limit (text_in t.format trace) ≡ Ok trace
trace_text_reads back old new trace is t =
    ap (reading trace_limit) (sym (append-nil (text_in t.format trace))) ∙ back trace_limit t.format trace [] is t.short

pub trace_taken : {R : Type 0} → ReadsBack → (old new : Seen) (trace : Recording) → IsTrace trace → TakesTrace old.bytes new.bytes (Ok trace)
    → IfSome old.bytes (λ stream. ReadGives (Ok trace) (reading trace_limit stream)) → new.faults ≡ old.faults
    → Takes {R = R} Same 2 Trace trace_due old new (Ok trace)
trace_taken back old new trace is t g counts = record {
  gives = told_or old.bytes _ (text_in t.format trace) (trace, ap trace_or_refusal (trace_text_reads back old.bytes new.bytes trace is t), refl)
      (if_map old.bytes _ _ (λ stream is. (trace, ap trace_or_refusal is, refl)) g);
  reads = inl (trace, t);
  stops = tt;
  counts = counts;
}

pub trace_refused : {R : Type 0} (old new : Seen) (e : TraceError) → TakesTrace old.bytes new.bytes (Err e)
    → IfSome old.bytes (λ stream. ReadGives (Err e) (reading trace_limit stream)) → CountsReading old.faults new.faults (Err e)
    → Takes {R = R} {X = Recording} Same 2 Trace trace_due old new (Err (trace_refusal e))
trace_refused old new (Text byte reason) t g counts = record {
  gives = told_or old.bytes _ t.bytes (ap trace_or_refusal (refused_reads t.bytes new.bytes byte reason t.known.0 t.known.1))
      (if_map old.bytes _ _ (λ stream is. ap trace_or_refusal is) g);
  reads = inr (byte, reason, t);
  stops = refl;
  counts = counts;
}
trace_refused {R} old new ReadFault t g counts = record {
  gives = some_all old.bytes _ (λ stream. reading_stage R (reading trace_limit stream));
  reads = t;
  stops = refl;
  counts = counts;
}
trace_refused old new TooLarge t g counts = record {
  gives = told_or old.bytes _ t.bytes (ap trace_or_refusal (ap ended_by t.known.0.decided))
      (if_map old.bytes _ _ (λ stream is. ap trace_or_refusal is) g);
  reads = t;
  stops = refl;
  counts = counts;
}
trace_refused {R} old new Memory t g counts = record {
  gives = some_all old.bytes _ (λ stream. let s = reading_stage R (reading trace_limit stream) in omega arith);
  reads = (t.bytes, t.came, t.known);
  stops = tt;
  counts = counts;
}

pub trace_fails : {R : Type 0} (old new : Seen) (e : TraceError) (r : Result Recording (Outcome R)) → TakesTrace old.bytes new.bytes (Err e)
    → IfSome old.bytes (λ stream. ReadGives (Err e) (reading trace_limit stream)) → CountsReading old.faults new.faults (Err e)
    → IsErrAnd r (λ o. o ≡ trace_refusal e) → Takes Same 2 Trace trace_due old new r
trace_fails old new e r t g counts h =
    let came = err_from_is_err_and r h in
    subst (Takes Same 2 Trace trace_due old new) (sym (came.1 ∙ ap Err came.2)) (trace_refused old new e t g counts)

-- ---- both texts
-- a table, and a trace that is made of the second text
module _ {R : Type 0} (two : Reader) (made : Table → List ℕ → Result Recording (Outcome R)) (late : (table : Table) (text : List ℕ) → 2 ≤ stage_in (made table text)) where
  abbrev both_made : Table → List ℕ → Result Traced (Outcome R)
  both_made table text = made table text >>= λ trace. Ok (with_trace table trace)

  both_stage : (table : Table) (text : List ℕ) → 2 ≤ stage_in (both_made table text)
  both_stage table text = then_stage 2 (made table text) (λ trace. Ok (with_trace table trace)) (late table text) (λ trace. omega arith)

  pub table_none : (old new second : Seen) (o : Outcome R) (r : Result Traced (Outcome R)) → IsErrAnd r (λ came. came ≡ o) → Takes {X = Table} Same 1 entire table_due old new (Err o)
      → Prepares Same (two_sources entire two) table_refusal_of (traced_by made) (both old second) (both new second) r
  table_none old new second o r h t =
      let came = err_from_is_err_and r h in
      subst (Prepares Same (two_sources entire two) table_refusal_of (traced_by made) (both old second) (both new second)) (sym (came.1 ∙ ap Err came.2))
      (prepares_none Same Same entire two table_due both_made old new second o both_stage t)

  pub both_taken : (old new old' new' : Seen) (table : Table) (trace : Recording) → Takes {R = R} Same 1 entire table_due old new (Ok table) → Takes Same 2 two (made table) old' new' (Ok trace)
      → Prepares Same (two_sources entire two) table_refusal_of (traced_by made) (both old old') (both new new') (Ok (record { table = table; trace = trace }))
  both_taken old new old' new' table trace t u =
      let taken : Traced = record { table = table; trace = trace } in
      prepares_both Same Same entire two table_due both_made old new old' new' table table (Ok taken) (λ z is. sym is) t
      (takes_then Same Same 2 two (made table) (λ trace. Ok (with_trace table trace)) old' new' trace (Ok taken) u (λ read same. (with_trace table read, refl, ap (with_trace table) same)) tt)

  pub trace_none : (old new old' new' : Seen) (table : Table) (o : Outcome R) (r : Result Traced (Outcome R)) → IsErrAnd r (λ came. came ≡ o) → Takes {R = R} Same 1 entire table_due old new (Ok table) → Takes {X = Recording} Same 2 two (made table) old' new' (Err o)
      → Prepares Same (two_sources entire two) table_refusal_of (traced_by made) (both old old') (both new new') r
  trace_none old new old' new' table o r h t u =
      let came = err_from_is_err_and r h in
      subst (Prepares Same (two_sources entire two) table_refusal_of (traced_by made) (both old old') (both new new')) (sym (came.1 ∙ ap Err came.2))
      (prepares_both Same Same entire two table_due both_made old new old' new' table table (Err o) (λ z is. sym is) t
      (record { gives = some_map old'.bytes _ _ (λ text g. gives_on (kind_of o) o (made table text) (with_trace table) (stop_early 2 (kind_of o) u.stops) (stop_low 2 (kind_of o) (omega arith) u.stops) g) u.gives; reads = u.reads; stops = u.stops; counts = u.counts }))
