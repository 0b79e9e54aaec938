-- What is due of the texts, by what they read as, and the cause of each refusal.
use Rattle.std.specs.Prelude.{◌≡◌, ℕ, ◌≤◌, nat_lt, true, false, ◌⊎◌, List, ◌++◌, length, Result, Ok, Err}
use Rattle.std.proofs.Common.{arith, refl, sym, ap, ◌∙◌, subst, cond, inl, inr}
use Rattle.bus_text.specs.AllOf.{◌>>=◌}
use Rattle.bus_text.proofs.AllOfLaws.{bind_ok}
use Rattle.bus_text.specs.Refusals.{Refusal}
use Rattle.bus_strings.specs.Items.{Item}
use Rattle.bus_strings.specs.Reading.{messages_reading}
use Rattle.bus_table.specs.declared.error.TableError.{TableError}
use Rattle.bus_table.specs.declared.error.TableError.TheVariants.{Text, Whole, Memory}
use Rattle.bus_table.specs.declared.fit.FitError.{FitError}
use Rattle.bus_table.specs.Tables.{Table}
use Rattle.bus_table.specs.Fits.{items_fit}
use Rattle.bus_table.specs.Reading.{answer_of}
use Rattle.bus_trace.specs.declared.fault.TraceError.{TraceError}
use Rattle.bus_trace.specs.declared.fault.TraceError.TheVariants as trace
use Rattle.bus_trace.specs.Limits.{trace_limit}
use Rattle.bus_trace.specs.Runs.{reading}
use Rattle.bus_trace.specs.TraceLaws.{ReadsBack, ReadsOnlyTraces}
use Rattle.bus_trace.specs.Traces.{Recording, HoldsTrace}
use Rattle.bus_command.specs.Causes.{IsValidText, RefusesTexts}
use Rattle.bus_command.specs.declared.inputs.Traced.{Traced}
use Rattle.bus_command.specs.declared.outcome.Outcome.{Outcome}
use Rattle.bus_command.specs.declared.outcome.Outcome.TheVariants.{MessagesText, Unfit, TooLarge}
use Rattle.bus_command.specs.Due.{text_within, table_refusal, table_or_refusal, table_due, items_or_refusal, fitting_or_refusal, items_due}
use Rattle.bus_command.specs.Due.{Inputs, with_items, inputs_by, trace_refusal, trace_or_refusal, trace_due, with_trace, traced_by}
use Rattle.bus_command.specs.Kinds.{Kind, NoForm, NotRead, TooMuch, Wrong, Late, NotWritten, NoRoom, Answer, kind_of, is_answer}
use Rattle.bus_command.specs.Readers.{text_limit}
use Rattle.bus_command.specs.Stages.{stage_in}
use Rattle.bus_command.specs.Steps.{StopsAt}
use Rattle.bus_command.proofs.LawTypes.{ReadsATable, RefusesATable, TextReadsAsItsItems, ReadsItems}
use Rattle.bus_command.proofs.StageLaws.{stop_stage}

-- the laws by which each refusal has its cause
pub record CauseLaws : Type 0 where
  pub reads_table : ReadsATable
  pub refuses_table : RefusesATable
  pub items_again : TextReadsAsItsItems
  pub reads_items : ReadsItems
  pub trace_back : ReadsBack
  pub trace_only : ReadsOnlyTraces

-- what was read, where the outcome isn't that the text is too large
pub read_text : {R Y : Type 0} (limit number : ℕ) (text : List ℕ) (f : List ℕ → Result Y (Outcome R)) (y : Y)
    → (text_within limit number text >>= f) ≡ Ok y → f text ≡ Ok y
read_text {R} limit number text f y h =
    elim (nat_lt limit (length text)) as (λ b. (cond b (Err (TooLarge number)) (Ok text) >>= f) ≡ Ok y → f text ≡ Ok y) [ true ↦ λ k. absurd cc | false ↦ λ k. k ] h

-- a text is too large, or what is made of it is refused
pub refuse_text : {R Y : Type 0} (P : Outcome R → Type 0) (limit number : ℕ) (text : List ℕ) (f : List ℕ → Result Y (Outcome R)) (o : Outcome R)
    → P (TooLarge number) → (f text ≡ Err o → P o) → (text_within limit number text >>= f) ≡ Err o → P o
refuse_text P limit number text f o large other h =
    elim (nat_lt limit (length text)) as (λ b. (cond b (Err (TooLarge number)) (Ok text) >>= f) ≡ Err o → P o) [
      | true ↦ λ k. (let e : TooLarge number ≡ o = cc in subst P e large)
      | false ↦ other
    ] h

-- the first step stopped, or the second
pub bind_err : {A B E : Type 0} (r : Result A E) (f : A → Result B E) (e : E) → (r >>= f) ≡ Err e → (r ≡ Err e) ⊎ ((x : A) × (r ≡ Ok x) × (f x ≡ Err e))
bind_err (Ok x) f e h = inr (x, refl, h)
bind_err (Err d) f e h = (let same : d ≡ e = cc in inl (ap Err same))

-- ---- the first text
ok_table : {R : Type 0} (r : Result Table TableError) (table : Table) → table_or_refusal {R = R} r ≡ Ok table → r ≡ Ok table
ok_table (Ok t) table h = (let e : t ≡ table = cc in ap Ok e)
ok_table (Err error) table h = absurd cc

pub table_read : {R : Type 0} (text : List ℕ) (table : Table) → table_due {R = R} text ≡ Ok table → answer_of text ≡ Ok table
table_read {R} text table h = ok_table {R = R} (answer_of text) table (read_text text_limit 1 text (λ whole. table_or_refusal (answer_of whole)) table h)

pub table_valid : {R : Type 0} → CauseLaws → (text : List ℕ) (table : Table) → table_due {R = R} text ≡ Ok table → IsValidText table text
table_valid {R} laws text table h = (let w = laws.reads_table text table (table_read {R = R} text table h) in record { stands = w.0; valid = w.1 })

-- it is refused at its own source
refusal_stops : (R : Type 0) (error : TableError) → StopsAt 1 (kind_of (table_refusal {R = R} error))
refusal_stops R (Text line reason) = refl
refusal_stops R (Whole reason) = refl
refusal_stops R Memory = tt

error_stops : {R : Type 0} (r : Result Table TableError) (o : Outcome R) → table_or_refusal r ≡ Err o → StopsAt 1 (kind_of o)
error_stops (Ok t) o h = absurd cc
error_stops {R} (Err error) o h = (let e : table_refusal error ≡ o = cc in subst (λ o. StopsAt 1 (kind_of o)) e (refusal_stops R error))

pub table_stops : {R : Type 0} (text : List ℕ) (o : Outcome R) → table_due text ≡ Err o → StopsAt 1 (kind_of o)
table_stops text o h =
    refuse_text (λ o. StopsAt 1 (kind_of o)) text_limit 1 text (λ whole. table_or_refusal (answer_of whole)) o refl (error_stops (answer_of text) o) h

-- and has its cause
error_cause : {R : Type 0} → CauseLaws → (Cause : R → List ℕ → List ℕ → Type 0) (first second : List ℕ) (error : TableError)
    → answer_of first ≡ Err error → RefusesTexts Cause (table_refusal error) first second
error_cause laws Cause first second (Text line reason) h = laws.refuses_table first (Text line reason) h
error_cause laws Cause first second (Whole reason) h = (let w = laws.refuses_table first (Whole reason) h in record { table = w.0; stands = w.1; why = w.2 })
error_cause laws Cause first second Memory h = tt

answer_cause : {R : Type 0} → CauseLaws → (Cause : R → List ℕ → List ℕ → Type 0) (first second : List ℕ) (o : Outcome R) (r : Result Table TableError)
    → answer_of first ≡ r → table_or_refusal r ≡ Err o → RefusesTexts Cause o first second
answer_cause laws Cause first second o (Ok t) e h = absurd cc
answer_cause laws Cause first second o (Err error) e h =
    let same : table_refusal error ≡ o = cc in
    subst (λ o. RefusesTexts Cause o first second) same (error_cause laws Cause first second error e)

pub table_cause : {R : Type 0} → CauseLaws → (Cause : R → List ℕ → List ℕ → Type 0) (first second : List ℕ) (o : Outcome R) → table_due first ≡ Err o
    → RefusesTexts Cause o first second
table_cause laws Cause first second o h =
    refuse_text (λ o. RefusesTexts Cause o first second) text_limit 1 first (λ whole. table_or_refusal (answer_of whole)) o tt
    (answer_cause laws Cause first second o (answer_of first) refl) h

-- ---- the second text, where it is one of messages
-- the messages text, and whether the items fit
pub record ItemsRead (table : Table) (text : List ℕ) (items : List Item) (fit : Result (Unit {0}) FitError) : Type 0 where
  pub read : messages_reading text ≡ Ok items
  pub fits : items_fit table items ≡ fit

abbrev made_items : {R : Type 0} → Table → Result (List Item) Refusal → Result (List Item) (Outcome R)
made_items table reading = items_or_refusal reading >>= λ items. fitting_or_refusal (items_fit table items) items

fit_ok : {R : Type 0} (fit : Result (Unit {0}) FitError) (given items : List Item) → fitting_or_refusal {R = R} fit given ≡ Ok items
    → (given ≡ items) × (fit ≡ Ok tt)
fit_ok (Ok u) given items h = (cc, refl)
fit_ok (Err error) given items h = absurd cc

made_ok : {R : Type 0} (table : Table) (reading : Result (List Item) Refusal) (items : List Item) → made_items {R = R} table reading ≡ Ok items
    → (reading ≡ Ok items) × (items_fit table items ≡ Ok tt)
made_ok {R} table (Ok given) items h = (let f = fit_ok {R = R} (items_fit table given) given items h in (ap Ok f.0, ap (items_fit table) (sym f.0) ∙ f.1))
made_ok table (Err refusal) items h = absurd cc

pub items_read : {R : Type 0} (table : Table) (text : List ℕ) (items : List Item) → items_due {R = R} table text ≡ Ok items → ItemsRead table text items (Ok tt)
items_read {R} table text items h =
    let made = made_ok {R = R} table (messages_reading text) items (read_text text_limit 2 text (λ whole. made_items table (messages_reading whole)) items h) in
    record { read = made.0; fits = made.1 }

-- it is refused at its own source
fit_stops : {R : Type 0} (fit : Result (Unit {0}) FitError) (given : List Item) (o : Outcome R) → fitting_or_refusal fit given ≡ Err o → StopsAt 2 (kind_of o)
fit_stops (Ok u) given o h = absurd cc
fit_stops {R} (Err e) given o h = (let k : Unfit e ≡ o = cc in subst (λ (o : Outcome R). StopsAt 2 (kind_of o)) k refl)

made_stops : {R : Type 0} (table : Table) (reading : Result (List Item) Refusal) (o : Outcome R) → made_items table reading ≡ Err o → StopsAt 2 (kind_of o)
made_stops table (Ok given) o h = fit_stops (items_fit table given) given o h
made_stops {R} table (Err refusal) o h =
    (let k : MessagesText refusal.line refusal.reason ≡ o = cc in subst (λ (o : Outcome R). StopsAt 2 (kind_of o)) k refl)

pub items_stop : {R : Type 0} (table : Table) (text : List ℕ) (o : Outcome R) → items_due table text ≡ Err o → StopsAt 2 (kind_of o)
items_stop table text o h =
    refuse_text (λ o. StopsAt 2 (kind_of o)) text_limit 2 text (λ whole. made_items table (messages_reading whole)) o refl
    (made_stops table (messages_reading text) o) h

-- and has its cause
fit_cause : {R : Type 0} → CauseLaws → (Cause : R → List ℕ → List ℕ → Type 0) (first second : List ℕ) (table : Table) (o : Outcome R) (given : List Item)
    (fit : Result (Unit {0}) FitError) → IsValidText table first → messages_reading second ≡ Ok given → items_fit table given ≡ fit
    → fitting_or_refusal fit given ≡ Err o → RefusesTexts Cause o first second
fit_cause laws Cause first second table o given (Ok u) valid read e h = absurd cc
fit_cause {R} laws Cause first second table o given (Err error) valid read e h =
    let k : Unfit error ≡ o = cc in
    subst (λ (o : Outcome R). RefusesTexts Cause o first second) k
    (record { table = table; items = given; table_is = valid; items_stand = laws.reads_items second given read; why = e })

made_cause : {R : Type 0} → CauseLaws → (Cause : R → List ℕ → List ℕ → Type 0) (first second : List ℕ) (table : Table) (o : Outcome R)
    (reading : Result (List Item) Refusal) → IsValidText table first → messages_reading second ≡ reading → made_items table reading ≡ Err o
    → RefusesTexts Cause o first second
made_cause laws Cause first second table o (Ok given) valid e h =
    fit_cause laws Cause first second table o given (items_fit table given) valid e refl h
made_cause {R} laws Cause first second table o (Err refusal) valid e h =
    let k : MessagesText refusal.line refusal.reason ≡ o = cc in
    subst (λ (o : Outcome R). RefusesTexts Cause o first second) k (λ items stands. (let again = laws.items_again second items stands in cc))

pub items_cause : {R : Type 0} → CauseLaws → (Cause : R → List ℕ → List ℕ → Type 0) (first second : List ℕ) (table : Table) (o : Outcome R)
    → IsValidText table first → items_due table second ≡ Err o → RefusesTexts Cause o first second
items_cause laws Cause first second table o valid h =
    refuse_text (λ o. RefusesTexts Cause o first second) text_limit 2 second (λ whole. made_items table (messages_reading whole)) o tt
    (made_cause laws Cause first second table o (messages_reading second) valid refl) h

-- so it comes no earlier
pub stage_at : {R Y : Type 0} (number : ℕ) (due : Result Y (Outcome R)) → number ≤ 3 → ((o : Outcome R) → due ≡ Err o → StopsAt number (kind_of o))
    → number ≤ stage_in due
stage_at number (Ok y) low stops = low
stage_at number (Err o) low stops = stop_stage number (kind_of o) low (stops o refl)

pub items_stage : (R : Type 0) (table : Table) (text : List ℕ) → 2 ≤ stage_in (items_due {R = R} table text)
items_stage R table text = stage_at {R = R} 2 (items_due table text) (omega arith) (λ o h. items_stop table text o h)

-- ---- the second text, where it is a trace
error_stops_two : (R : Type 0) (e : TraceError) → StopsAt 2 (kind_of (trace_refusal {R = R} e))
error_stops_two R (trace.Text byte reason) = refl
error_stops_two R trace.ReadFault = refl
error_stops_two R trace.TooLarge = refl
error_stops_two R trace.Memory = tt

reading_stops : {R : Type 0} (r : Result Recording TraceError) (o : Outcome R) → trace_or_refusal r ≡ Err o → StopsAt 2 (kind_of o)
reading_stops (Ok trace) o h = absurd cc
reading_stops {R} (Err error) o h = (let e : trace_refusal error ≡ o = cc in subst (λ o. StopsAt 2 (kind_of o)) e (error_stops_two R error))

pub trace_stops : {R : Type 0} (text : List ℕ) (o : Outcome R) → trace_due text ≡ Err o → StopsAt 2 (kind_of o)
trace_stops text o h = reading_stops (reading trace_limit text) o h

-- a trace that stands at the front is due
pub held_reading : ReadsBack → (stream : List ℕ) (trace : Recording) → HoldsTrace trace_limit stream trace → reading trace_limit stream ≡ Ok trace
held_reading back stream trace h =
    ap (reading trace_limit) (h.parts ∙ ap (λ front. front ++ h.rest) h.text.text_is) ∙ back trace_limit h.text.format trace h.rest h.text.trace
    (subst (λ front. length front ≤ trace_limit) h.text.text_is h.short)

pub held_trace : {R : Type 0} → ReadsBack → (stream : List ℕ) (trace : Recording) → HoldsTrace trace_limit stream trace → trace_due {R = R} stream ≡ Ok trace
held_trace back stream trace h = ap trace_or_refusal (held_reading back stream trace h)

-- what is due stands at the front
reading_ok : {R : Type 0} (r : Result Recording TraceError) (trace : Recording) → trace_or_refusal {R = R} r ≡ Ok trace → r ≡ Ok trace
reading_ok (Ok t) trace h = (let e : t ≡ trace = cc in ap Ok e)
reading_ok (Err error) trace h = absurd cc

pub read_trace : {R : Type 0} → ReadsOnlyTraces → (stream : List ℕ) (trace : Recording) → trace_due {R = R} stream ≡ Ok trace → HoldsTrace trace_limit stream trace
read_trace {R} only stream trace h = only trace_limit stream trace (reading_ok {R = R} (reading trace_limit stream) trace h)

-- a trace that is refused has its cause
trace_error_cause : {R : Type 0} → CauseLaws → (Cause : R → List ℕ → List ℕ → Type 0) (first second : List ℕ) (e : TraceError)
    → reading trace_limit second ≡ Err e → RefusesTexts Cause (trace_refusal e) first second
trace_error_cause laws Cause first second (trace.Text byte reason) h = λ trace stands. (let held = held_reading laws.trace_back second trace stands in cc)
trace_error_cause laws Cause first second trace.ReadFault h = tt
trace_error_cause laws Cause first second trace.TooLarge h = tt
trace_error_cause laws Cause first second trace.Memory h = tt

reading_cause : {R : Type 0} → CauseLaws → (Cause : R → List ℕ → List ℕ → Type 0) (first second : List ℕ) (o : Outcome R) (r : Result Recording TraceError)
    → reading trace_limit second ≡ r → trace_or_refusal r ≡ Err o → RefusesTexts Cause o first second
reading_cause laws Cause first second o (Ok trace) e h = absurd cc
reading_cause laws Cause first second o (Err error) e h =
    let same : trace_refusal error ≡ o = cc in
    subst (λ o. RefusesTexts Cause o first second) same (trace_error_cause laws Cause first second error e)

pub trace_cause : {R : Type 0} → CauseLaws → (Cause : R → List ℕ → List ℕ → Type 0) (first second : List ℕ) (o : Outcome R) → trace_due second ≡ Err o
    → RefusesTexts Cause o first second
trace_cause laws Cause first second o h = reading_cause laws Cause first second o (reading trace_limit second) refl h

-- ---- both texts
-- a table and the items
pub record InputsRead {R : Type 0} (made : List ℕ → Result Table (Outcome R)) (first second : List ℕ) (inputs : Inputs) : Type 0 where
  pub table_is : made first ≡ Ok inputs.table
  pub items_are : items_due {R = R} inputs.table second ≡ Ok inputs.items

module _ {R : Type 0} (made : List ℕ → Result Table (Outcome R)) where
  pub inputs_read : (first second : List ℕ) (inputs : Inputs) → inputs_by made first second ≡ Ok inputs → InputsRead made first second inputs
  inputs_read first second inputs h =
      let one = bind_ok (made first) (λ table. items_due table second >>= λ items. Ok (with_items table items)) inputs h in
      let two = bind_ok (items_due one.0 second) (λ items. Ok (with_items one.0 items)) inputs one.2 in
      let same : with_items one.0 two.0 ≡ inputs = (let k = two.2 in cc) in
      subst (InputsRead made first second) same (record { table_is = one.1; items_are = two.1 })

  -- the refusal of the first text, or of the second behind a table
  pub inputs_stop : (first second : List ℕ) (o : Outcome R) → inputs_by made first second ≡ Err o
      → (made first ≡ Err o) ⊎ ((table : Table) × (made first ≡ Ok table) × (items_due table second ≡ Err o))
  inputs_stop first second o h = elim (bind_err (made first) (λ table. items_due table second >>= λ items. Ok (with_items table items)) o h) [
    | inl e ↦ inl e
    | inr w ↦ inr (w.0, w.1, elim (bind_err (items_due w.0 second) (λ items. Ok (with_items w.0 items)) o w.2) [ inl e ↦ e | inr v ↦ absurd (let k = v.2 in cc) ])
  ]

  pub inputs_told : (table : Table) (items : List Item) (first second : List ℕ) → made first ≡ Ok table → items_due {R = R} table second ≡ Ok items
      → inputs_by made first second ≡ Ok (with_items table items)
  inputs_told table items first second h k =
      ap (λ r. r >>= λ table. items_due table second >>= λ items. Ok (with_items table items)) h ∙ ap (λ r. r >>= λ items. Ok (with_items table items)) k

-- a table, and the trace that is made of the second text
pub record TracedRead {R : Type 0} (made : Table → List ℕ → Result Recording (Outcome R)) (first second : List ℕ) (traced : Traced) : Type 0 where
  pub table_is : table_due {R = R} first ≡ Ok traced.table
  pub trace_is : made traced.table second ≡ Ok traced.trace

module _ {R : Type 0} (made : Table → List ℕ → Result Recording (Outcome R)) where
  pub traced_read : (first second : List ℕ) (traced : Traced) → traced_by made first second ≡ Ok traced → TracedRead made first second traced
  traced_read first second traced h =
      let one = bind_ok (table_due first) (λ table. made table second >>= λ trace. Ok (with_trace table trace)) traced h in
      let two = bind_ok (made one.0 second) (λ trace. Ok (with_trace one.0 trace)) traced one.2 in
      let same : with_trace one.0 two.0 ≡ traced = (let k = two.2 in cc) in
      subst (TracedRead made first second) same (record { table_is = one.1; trace_is = two.1 })

  -- the refusal of the first text, or of the second behind a table
  pub traced_stop : (first second : List ℕ) (o : Outcome R) → traced_by made first second ≡ Err o
      → (table_due first ≡ Err o) ⊎ ((table : Table) × (table_due {R = R} first ≡ Ok table) × (made table second ≡ Err o))
  traced_stop first second o h = elim (bind_err (table_due first) (λ table. made table second >>= λ trace. Ok (with_trace table trace)) o h) [
    | inl e ↦ inl e
    | inr w ↦ inr (w.0, w.1, elim (bind_err (made w.0 second) (λ trace. Ok (with_trace w.0 trace)) o w.2) [ inl e ↦ e | inr v ↦ absurd (let k = v.2 in cc) ])
  ]

  -- both texts that are told
  pub traced_told : (table : Table) (trace : Recording) (first second : List ℕ) → table_due {R = R} first ≡ Ok table → made table second ≡ Ok trace
      → traced_by made first second ≡ Ok (with_trace table trace)
  traced_told table trace first second h k =
      ap (λ r. r >>= λ table. made table second >>= λ trace. Ok (with_trace table trace)) h ∙ ap (λ r. r >>= λ trace. Ok (with_trace table trace)) k

-- ---- no refusal is an answer
pub stop_unwritten : (number : ℕ) (k : Kind) → StopsAt number k → is_answer k ≡ false
stop_unwritten number NoForm h = refl
stop_unwritten number (NotRead source) h = refl
stop_unwritten number (TooMuch source) h = refl
stop_unwritten number (Wrong source) h = refl
stop_unwritten number Late h = refl
stop_unwritten number NotWritten h = refl
stop_unwritten number NoRoom h = refl
stop_unwritten number Answer h = absurd h
