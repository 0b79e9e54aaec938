-- What is made of a table text, a trace text, and what stands behind that.
use Rattle.std.specs.Prelude.{◌≡◌, ℕ, ◌≤◌, Bool, true, false, List, [], ◌++◌, length, drop, Option, Some, None, IfSome, Result, Ok, Err, IsErrAnd, ◌⊎◌}
use Rattle.std.proofs.Common.{arith, refl, sym, ap, ◌∙◌, subst, inl, inr, append_assoc}
use Rattle.std.proofs.Math.Seq.{drop-append_seam}
use Rattle.std.proofs.lemmas.Result.{err_from_is_err_and}
use Rattle.bus_outer.specs.Faults.{Fails}
use Rattle.bus_outer.specs.Sources.{Taken}
use Rattle.bus_outer.proofs.WriteLaws.{taken_on}
use Rattle.bus_text.specs.AllOf.{◌>>=◌}
use Rattle.bus_text.proofs.AllOfLaws.{bind_ok}
use Rattle.bus_table.specs.Tables.{Table}
use Rattle.bus_trace.specs.declared.format.Format.{Format}
use Rattle.bus_trace.specs.declared.format.Format.TheVariants.{One, Two}
use Rattle.bus_trace.specs.declared.fault.TraceError.{TraceError}
use Rattle.bus_trace.specs.declared.fault.TraceError.TheVariants.{Text, ReadFault as NotRead, TooLarge, Memory}
use Rattle.bus_trace.specs.Traces.{Recording, IsTrace, HoldsTrace, text_in}
use Rattle.bus_trace.specs.Limits.{trace_limit}
use Rattle.bus_trace.specs.Runs.{reading}
use Rattle.bus_trace.specs.TraceLaws.{ReadsBack}
use Rattle.bus_trace.specs.Reading.{TakesTrace, ReadGives, CountsReading}
use Rattle.bus_command.specs.declared.recorded.Followed.{Followed}
use Rattle.bus_command.specs.declared.recorded.Recorded.{Recorded}
use Rattle.bus_command.specs.declared.outcome.Outcome.{Outcome}
use Rattle.bus_command.specs.declared.outcome.Outcome.TheVariants.{ReadFault}
use Rattle.bus_command.specs.Heard.{behind, format_of, garbled_in}
use Rattle.bus_command.specs.Kinds.{kind_of}
use Rattle.bus_command.specs.Stages.{stage_in}
use Rattle.bus_command.specs.Outside.{Seen, both}
use Rattle.bus_command.specs.Readers.{ForKnown, ReadsBy, Broken, Judged, reader_of, by_recorded, entire}
use Rattle.bus_command.specs.Steps.{Takes, Same, Prepares, stopped_at}
use Rattle.bus_command.specs.Due.{table_due, table_refusal_of, trace_refusal, trace_or_refusal, trace_due, garbled_where, with_garbled, followed_due, with_followed, recorded_due}
use Rattle.bus_command.specs.inside.Looking.{LooksBehind, PullFault}
use Rattle.bus_command.proofs.StageLaws.{some_map, some_all, then_stage, stop_early, stop_low, gives_on}
use Rattle.bus_command.proofs.TakeLemmas.{takes_then}
use Rattle.bus_command.proofs.TracedLemmas.{reading_stage, trace_refused}
use Rattle.bus_command.proofs.PrepareLaws.{prepares_none, prepares_both}
use Rattle.bus_command.proofs.LineLemmas.{rest_of, rest_is}
use Rattle.bus_command.proofs.ReadLemmas.{bind_err}

-- ---- what stands behind a trace text
format_is : (format : Format) (trace : Recording) (rest : List ℕ) → format_of (text_in format trace ++ rest) ≡ format
format_is One trace rest = refl
format_is Two trace rest = refl

pub behind_is : (format : Format) (trace : Recording) (rest : List ℕ) → behind trace (text_in format trace ++ rest) ≡ rest
behind_is format trace rest =
    ap (λ f. drop (length (text_in f trace)) (text_in format trace ++ rest)) (format_is format trace rest) ∙ drop-append_seam (text_in format trace) rest

-- the trace and what is behind it are due of a text of both
abbrev IsBehind : Bool → List ℕ → Option ℕ → Type 0
IsBehind true rest garbled = garbled_in rest ≡ garbled
IsBehind false rest garbled = garbled ≡ None

garbled_is : (hears : Bool) (format : Format) (trace : Recording) (rest : List ℕ) (garbled : Option ℕ) → IsBehind hears rest garbled
    → garbled_where hears trace (text_in format trace ++ rest) ≡ garbled
garbled_is true format trace rest garbled h = ap garbled_in (behind_is format trace rest) ∙ h
garbled_is false format trace rest garbled h = sym h

pub followed_made : {R : Type 0} → ReadsBack → (hears : Bool) (format : Format) (trace : Recording) (rest : List ℕ) (garbled : Option ℕ) → IsTrace trace
    → length (text_in format trace) ≤ trace_limit → IsBehind hears rest garbled
    → followed_due {R = R} hears (text_in format trace ++ rest) ≡ Ok (with_garbled trace garbled)
followed_made back hears format trace rest garbled is short h =
    let text = text_in format trace ++ rest in
    ap (λ r. trace_or_refusal r >>= λ t. Ok (with_garbled t (garbled_where hears t text))) (back trace_limit format trace rest is short)
    ∙ ap (λ g. Ok (with_garbled trace g)) (garbled_is hears format trace rest garbled h)

-- ---- the second text
-- of a source whose bytes are told, what came and what is left
told_is : (old new : Option (List ℕ)) (bytes rest : List ℕ) (P : List ℕ → Type 0) → Taken old new bytes → IfSome new (λ text. text ≡ rest) → P (bytes ++ rest)
    → ForKnown old P
told_is old None bytes rest P came left p = subst (λ o. ForKnown o P) (sym came) (bytes ++ rest, p)
told_is old (Some text) bytes rest P came left p = subst (λ o. ForKnown o P) (sym came) (subst (λ t. P (bytes ++ t)) (sym left) p)

-- what was looked at behind the trace
record Behind (hears : Bool) (between new : Option (List ℕ)) (garbled : Option ℕ) : Type 0 where
  bytes : List ℕ
  rest : List ℕ
  came : Taken between new bytes
  left : IfSome new (λ text. text ≡ rest)
  is : IsBehind hears (bytes ++ rest) garbled

nothing_taken : (old new : Option (List ℕ)) → new ≡ old → Taken old new []
nothing_taken old None same = sym same
nothing_taken old (Some text) same = sym same

answer_is : (answer : Option ℕ) → (let a : Result (Option ℕ) PullFault = Ok answer in a) ≡ Ok None → answer ≡ None
answer_is answer h = cc

looked : (hears : Bool) (between new : Option (List ℕ)) (garbled : Option ℕ) → LooksBehind hears between new (Ok garbled) → Behind hears between new garbled
looked true between new garbled h = record { bytes = h.bytes; rest = h.rest; came = h.came; left = h.left; is = h.known.1 }
looked false between new garbled h = record {
  bytes = [];
  rest = rest_of new;
  came = nothing_taken between new h.0;
  left = rest_is new;
  is = answer_is garbled h.1;
}

behind_read : (hears : Bool) (trace : Recording) (old between new : Seen) (garbled : Option ℕ) → TakesTrace old.bytes between.bytes (Ok trace)
    → LooksBehind hears between.bytes new.bytes (Ok garbled) → ReadsBy (reader_of hears) Judged old new
behind_read true trace old between new garbled t h = inl (record {
  trace = trace;
  between = between.bytes;
  first = t;
  behind = record { bytes = h.bytes; rest = h.rest; came = h.came; left = h.left; known = h.known.0 };
})
behind_read false trace old between new garbled t h = inl (trace, subst (λ b. TakesTrace old.bytes b (Ok trace)) (sym h.0) t)

pub followed_taken : {R : Type 0} → ReadsBack → (hears : Bool) (old between new : Seen) (trace : Recording) (garbled : Option ℕ) → IsTrace trace
    → TakesTrace old.bytes between.bytes (Ok trace) → LooksBehind hears between.bytes new.bytes (Ok garbled)
    → between.faults ≡ old.faults → new.faults ≡ between.faults
    → Takes {R = R} Same 2 (reader_of hears) (followed_due hears) old new (Ok (record { trace = trace; garbled = garbled }))
followed_taken {R} back hears old between new trace garbled is t h same again =
    let b = looked hears between.bytes new.bytes garbled h in
    let text = text_in t.format trace in
    record {
      gives = told_is old.bytes new.bytes (text ++ b.bytes) b.rest _ (taken_on old.bytes between.bytes new.bytes text b.bytes t.came b.came) b.left (
        with_garbled trace garbled,
        ap (followed_due {R = R} hears) (append_assoc text b.bytes b.rest) ∙ followed_made {R = R} back hears t.format trace (b.bytes ++ b.rest) garbled is t.short b.is,
        refl,
      );
      reads = behind_read hears trace old between new garbled t h;
      stops = tt;
      counts = again ∙ same;
    }

-- ---- where there is none
followed_stage : (R : Type 0) (hears : Bool) (text : List ℕ) → 2 ≤ stage_in (followed_due {R = R} hears text)
followed_stage R hears text =
    then_stage 2 (trace_due {R = R} text) (λ trace. Ok (with_garbled trace (garbled_where hears trace text))) (reading_stage R (reading trace_limit text)) (λ trace. omega arith)

refused_reads : (hears : Bool) (R : Type 0) (old new : Seen) (e : TraceError) → TakesTrace old.bytes new.bytes (Err e)
    → ReadsBy (reader_of hears) (stopped_at (kind_of (trace_refusal {R = R} e))) old new
refused_reads true R old new (Text byte reason) t = inr (byte, reason, t)
refused_reads true R old new NotRead t = inl t
refused_reads true R old new TooLarge t = t
refused_reads true R old new Memory t = (t.bytes, t.came, omega (arith, t.known))
refused_reads false R old new (Text byte reason) t = inr (byte, reason, t)
refused_reads false R old new NotRead t = t
refused_reads false R old new TooLarge t = t
refused_reads false R old new Memory t = (t.bytes, t.came, t.known)

pub followed_refused : {R : Type 0} (hears : Bool) (old new : Seen) (e : TraceError) (r : Result Followed (Outcome R)) → TakesTrace old.bytes new.bytes (Err e)
    → IfSome old.bytes (λ stream. ReadGives (Err e) (reading trace_limit stream)) → CountsReading old.faults new.faults (Err e)
    → IsErrAnd r (λ o. o ≡ trace_refusal e) → Takes Same 2 (reader_of hears) (followed_due hears) old new r
followed_refused {R} hears old new e r t g counts h =
    let came = err_from_is_err_and r h in
    let o : Outcome R = trace_refusal e in
    let u = trace_refused {R = R} old new e t g counts in
    subst (Takes Same 2 (reader_of hears) (followed_due hears) old new) (sym (came.1 ∙ ap Err came.2))
    (record {
      gives = some_map old.bytes _ _
          (λ text k. gives_on (kind_of o) o (trace_due text) (λ trace. with_garbled trace (garbled_where hears trace text)) (stop_early 2 (kind_of o) u.stops)
          (stop_low 2 (kind_of o) (omega arith) u.stops) k) u.gives;
      reads = refused_reads hears R old new e t;
      stops = u.stops;
      counts = u.counts;
    })

-- a pull behind the trace failed
breaks_off : (hears : Bool) (trace : Recording) (old between new : Seen) (fault : PullFault) → TakesTrace old.bytes between.bytes (Ok trace)
    → LooksBehind hears between.bytes new.bytes (Err fault) → ReadsBy (reader_of hears) Broken old new
breaks_off true trace old between new fault t h = inr (record {
  trace = trace;
  between = between.bytes;
  first = t;
  behind = record { bytes = h.bytes; rest = h.rest; came = h.came; left = h.left; known = h.known };
})
breaks_off false trace old between new fault t h = absurd (let no = h.1 in cc)

pub followed_broken : {R : Type 0} (hears : Bool) (old between new : Seen) (trace : Recording) (fault : PullFault)
    → TakesTrace old.bytes between.bytes (Ok trace) → LooksBehind hears between.bytes new.bytes (Err fault)
    → between.faults ≡ old.faults → Fails between.faults new.faults
    → Takes {R = R} {X = Followed} Same 2 (reader_of hears) (followed_due hears) old new (Err (ReadFault 2))
followed_broken {R} hears old between new trace fault t h same fails = record {
  gives = some_all old.bytes _ (λ text. followed_stage R hears text);
  reads = breaks_off hears trace old between new fault t h;
  stops = refl;
  counts = subst (λ n. Fails n new.faults) same fails;
}

-- ---- both texts
module _ (R : Type 0) (hears : Bool) where
  abbrev both_made : Table → List ℕ → Result Recorded (Outcome R)
  both_made table text = followed_due hears text >>= λ followed. Ok (with_followed table followed)

  both_stage : (table : Table) (text : List ℕ) → 2 ≤ stage_in (both_made table text)
  both_stage table text = then_stage 2 (followed_due {R = R} hears text) (λ followed. Ok (with_followed table followed)) (followed_stage R hears text) (λ followed. omega arith)

  pub no_table : (old new second : Seen) (o : Outcome R) (r : Result Recorded (Outcome R)) → IsErrAnd r (λ came. came ≡ o)
      → Takes {X = Table} Same 1 entire table_due old new (Err o)
      → Prepares Same (by_recorded hears) table_refusal_of (recorded_due hears) (both old second) (both new second) r
  no_table old new second o r h t =
      let came = err_from_is_err_and r h in
      subst (Prepares Same (by_recorded hears) table_refusal_of (recorded_due hears) (both old second) (both new second)) (sym (came.1 ∙ ap Err came.2))
      (prepares_none Same Same entire (reader_of hears) table_due both_made old new second o both_stage t)

  pub none_followed : (old new old' new' : Seen) (table : Table) (o : Outcome R) (r : Result Recorded (Outcome R)) → IsErrAnd r (λ came. came ≡ o)
      → Takes {R = R} Same 1 entire table_due old new (Ok table) → Takes {X = Followed} Same 2 (reader_of hears) (followed_due hears) old' new' (Err o)
      → Prepares Same (by_recorded hears) table_refusal_of (recorded_due hears) (both old old') (both new new') r
  none_followed old new old' new' table o r h t u =
      let came = err_from_is_err_and r h in
      subst (Prepares Same (by_recorded hears) table_refusal_of (recorded_due hears) (both old old') (both new new')) (sym (came.1 ∙ ap Err came.2))
      (prepares_both Same Same entire (reader_of hears) table_due both_made old new old' new' table table (Err o) (λ z is. sym is) t
      (record {
        gives = some_map old'.bytes _ _
            (λ text g. gives_on (kind_of o) o (followed_due hears text) (with_followed table) (stop_early 2 (kind_of o) u.stops)
            (stop_low 2 (kind_of o) (omega arith) u.stops) g) u.gives;
        reads = u.reads;
        stops = u.stops;
        counts = u.counts;
      }))

  pub all_taken : (old new old' new' : Seen) (table : Table) (followed : Followed) → Takes {R = R} Same 1 entire table_due old new (Ok table)
      → Takes {R = R} Same 2 (reader_of hears) (followed_due hears) old' new' (Ok followed)
      → Prepares {R = R} Same (by_recorded hears) table_refusal_of (recorded_due hears) (both old old') (both new new')
      (Ok (record { table = table; trace = followed.trace; garbled = followed.garbled }))
  all_taken old new old' new' table followed t u =
      let taken : Recorded = with_followed table followed in
      prepares_both Same Same entire (reader_of hears) table_due both_made old new old' new' table table (Ok taken) (λ z is. sym is) t
      (takes_then Same Same 2 (reader_of hears) (followed_due hears) (λ followed. Ok (with_followed table followed)) old' new' followed (Ok taken) u
      (λ read same. (with_followed table read, refl, ap (with_followed table) same)) tt)

-- ---- what is due of both texts
-- it is of a table and of a trace
pub record RecordedRead (R : Type 0) (first second : List ℕ) (recorded : Recorded) : Type 0 where
  pub table_is : table_due {R = R} first ≡ Ok recorded.table
  pub trace_is : trace_due {R = R} second ≡ Ok recorded.trace

followed_ok : {R : Type 0} (hears : Bool) (text : List ℕ) (followed : Followed) → followed_due {R = R} hears text ≡ Ok followed → trace_due {R = R} text ≡ Ok followed.trace
followed_ok {R} hears text followed h =
    let one = bind_ok (trace_due {R = R} text) (λ trace. Ok (with_garbled trace (garbled_where hears trace text))) followed h in
    let same : with_garbled one.0 (garbled_where hears one.0 text) ≡ followed = (let k = one.2 in cc) in
    subst (λ (f : Followed). trace_due {R = R} text ≡ Ok f.trace) same one.1

pub recorded_read : {R : Type 0} (hears : Bool) (first second : List ℕ) (recorded : Recorded) → recorded_due {R = R} hears first second ≡ Ok recorded
    → RecordedRead R first second recorded
recorded_read {R} hears first second recorded h =
    let one = bind_ok (table_due {R = R} first) (λ table. followed_due hears second >>= λ followed. Ok (with_followed table followed)) recorded h in
    let two = bind_ok (followed_due {R = R} hears second) (λ followed. Ok (with_followed one.0 followed)) recorded one.2 in
    let same : with_followed one.0 two.0 ≡ recorded = (let k = two.2 in cc) in
    subst (RecordedRead R first second) same (record { table_is = one.1; trace_is = followed_ok {R = R} hears second two.0 two.1 })

-- the refusal of the first text, or of the second behind a table
pub recorded_stop : {R : Type 0} (hears : Bool) (first second : List ℕ) (o : Outcome R) → recorded_due hears first second ≡ Err o
    → (table_due first ≡ Err o) ⊎ (trace_due second ≡ Err o)
recorded_stop {R} hears first second o h = elim (bind_err (table_due first) (λ table. followed_due hears second >>= λ followed. Ok (with_followed table followed)) o h) [
  | inl e ↦ inl e
  | inr w ↦ elim (bind_err (followed_due hears second) (λ followed. Ok (with_followed w.0 followed)) o w.2) [
    | inl e ↦ elim (bind_err (trace_due second) (λ trace. Ok (with_garbled trace (garbled_where hears trace second))) o e) [ inl e ↦ inr e | inr v ↦ absurd (let k = v.2 in cc) ]
    | inr v ↦ absurd (let k = v.2 in cc)
  ]
]

-- both texts that are told
pub recorded_told : {R : Type 0} (hears : Bool) (table : Table) (trace : Recording) (first second : List ℕ) → table_due {R = R} first ≡ Ok table
    → trace_due {R = R} second ≡ Ok trace
    → recorded_due {R = R} hears first second ≡ Ok (with_followed table (with_garbled trace (garbled_where hears trace second)))
recorded_told {R} hears table trace first second h k =
    ap (λ r. r >>= λ table. followed_due hears second >>= λ followed. Ok (with_followed table followed)) h
    ∙ ap (λ r. r >>= (λ trace. Ok (with_garbled trace (garbled_where hears trace second))) >>= λ followed. Ok (with_followed table followed)) k

-- where it is known what stands behind the trace
pub rest_behind : (stream : List ℕ) (trace : Recording) (h : HoldsTrace trace_limit stream trace) → behind trace stream ≡ h.rest
rest_behind stream trace h =
    ap (behind trace) (h.parts ∙ ap (λ front. front ++ h.rest) h.text.text_is) ∙ behind_is h.text.format trace h.rest
