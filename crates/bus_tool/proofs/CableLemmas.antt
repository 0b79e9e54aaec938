-- A table and a cable that are taken, what is due of them, and the cause where they are refused.
use Rattle.std.specs.Prelude.{◌≡◌, ◌⊎◌, ℕ, ◌≤◌, false, List, length, Vec, Result, Ok, Err, IsErrAnd, IfErr}
use Rattle.std.specs.declared.alloc.Global.{Global}
use Rattle.std.proofs.Common.{arith, refl, sym, ap, ◌∙◌, subst, inl, inr}
use Rattle.std.proofs.lemmas.Result.{err_from_is_err_and}
use Rattle.bus_text.specs.AllOf.{◌>>=◌}
use Rattle.bus_text.specs.Refusals.{Refusal}
use Rattle.bus_strings.specs.Items.{Item}
use Rattle.bus_table.specs.Tables.{Table}
use Rattle.bus_table.specs.Fits.{items_fit}
use Rattle.bus_table.specs.declared.fit.FitError.{FitError}
use Rattle.bus_cable.specs.Cables.{Cable}
use Rattle.bus_text.specs.Gives.{Fails}
use Rattle.bus_cable.specs.Grammar.{IsCableText}
use Rattle.bus_cable.specs.Reading.{cable_reading}
use Rattle.bus_text.specs.declared.error.TextError.{TextError}
use Rattle.bus_text.specs.declared.reason.Reason.{Reason}
use Rattle.bus_text.specs.declared.error.TextError.TheVariants.{Text, Memory}
use Rattle.bus_command.specs.Causes.{IsValidText, RefusesTexts}
use Rattle.bus_command.specs.Due.{text_within, table_due, table_refusal_of}
use Rattle.bus_command.specs.Kinds.{kind_of, is_answer}
use Rattle.bus_command.specs.Outside.{Seen, both}
use Rattle.bus_command.specs.Readers.{entire, text_limit, two_sources}
use Rattle.bus_command.specs.Stages.{stage_in, Gives}
use Rattle.bus_command.specs.Steps.{IsText, Same, StopsAt, Takes, Prepares}
use Rattle.bus_command.specs.declared.outcome.Outcome.TheVariants.{NoMemory}
use Rattle.bus_command.proofs.PrepareLaws.{prepares_none, prepares_both}
use Rattle.bus_command.proofs.ReadLemmas.{CauseLaws, bind_err, read_text, refuse_text, stage_at, table_stops, table_cause, table_valid, stop_unwritten}
use Rattle.bus_command.proofs.StageLaws.{some_map, then_stage, stop_early, stop_low, gives_on}
use Rattle.bus_command.proofs.TakeLemmas.{RefusesAt, takes_then, takes_none}
use Rattle.bus_command.proofs.TextLemmas.{short_text}
use Rattle.bus_text.proofs.AllOfLaws.{bind_ok}
use Rattle.std.specs.List.{AllByRecursion}
use Rattle.bus_outer.proofs.WriteLaws.{writes_then, writes_cut}
use Rattle.bus_outer.specs.Sinks.{WritesText}
use Rattle.bus_outer.specs.declared.sink.Sink.{Ghosts as SinkGhosts}
use Rattle.bus_outer.specs.declared.sink.WriteFault.{WriteFault as Fault}
use Rattle.bus_strings.specs.Limits.{horizon_limit}
use Rattle.bus_strings.specs.Messages.{Entry}
use Rattle.bus_strings.specs.Transmissions.{IsTransmission}
use Rattle.bus_table.specs.Tables.{Hand}
use Rattle.bus_medium.specs.CableLawful.{IsLawfulOnCable}
use Rattle.bus_medium.specs.Timings.{quiet_of, stations_of}
use Rattle.bus_cable.specs.Cables.{delays_on, wakes_on}
use Rattle.bus_cable.specs.HeardTexts.{heard_text}
use Rattle.bus_trace.specs.Traces.{Recording, IsTrace, IsHold, AscendAbove, trace_text}
use Rattle.bus_trace.specs.declared.hold.Hold.{Hold}
use Rattle.bus_command.specs.declared.outcome.Outcome.TheVariants.{Done}
use Rattle.bus_command.proofs.DoLaws.{Agrees}
use Rattle.bus_command.proofs.FewHands.{AreFew}
use Rattle.bus_tool.specs.Due.{cable_answer}
use Rattle.bus_hands.specs.Holds.{hand_holds}
use Rattle.bus_tool.specs.Texts.{IsCableAnswerText, IsOnCableText, on_cable_text}
use Rattle.bus_tool.proofs.HoldLemmas.{holds_ascend, holds_ranged}
use Rattle.bus_tool.proofs.TraceLemmas.{below}
use Rattle.bus_tool.specs.Causes.{Cause, EndIs}
use Rattle.bus_tool.specs.Due.{CableRead, CableInputs, cable_hands, with_cable, cable_or_refusal, cable_text_due, fitting_on_cable}
use Rattle.bus_tool.specs.Due.{cable_read_due, cable_due}
use Rattle.bus_tool.specs.inside.Refused.{cable_refusal}
use Rattle.bus_tool.specs.Refusals.{Outcome, ToolRefusal, refuse, CableText, CableUnfit}
use Rattle.bus_tool.specs.declared.inputs.OnCable.{OnCable}
use Rattle.bus_tool.specs.declared.inputs.Wired.{Wired}
use Rattle.bus_tool.specs.inside.TakenCable.{IsUndealt, IsWired, IsTakenOnCable}

-- ---- a cable text
-- it is read
pub text_taken : (old new : Seen) (text : Vec ℕ Global) (bytes : List ℕ) (read : CableRead)
    → Takes IsText 2 entire (text_within {R = ToolRefusal} text_limit 2) old new (Ok text) → bytes ≡ text.items → cable_reading bytes ≡ Ok read
    → Takes Same 2 entire cable_text_due old new (Ok read)
text_taken old new text bytes read t same h =
    takes_then IsText Same 2 entire (text_within {R = ToolRefusal} text_limit 2) (λ whole. cable_or_refusal (cable_reading whole)) old new text (Ok read) t
    (λ whole is. (read, ap cable_or_refusal (ap cable_reading (sym (same ∙ is)) ∙ h), refl)) tt

text_late : (r : Result CableRead Refusal) → 2 ≤ stage_in (cable_or_refusal r)
text_late (Ok read) = omega arith
text_late (Err refusal) = omega arith

-- it is refused
text_fails : (e : TextError Reason) (text : List ℕ) → Fails e (cable_reading text) → Gives {X = CableRead} {Y = CableRead} Same (Err (cable_refusal e)) (cable_or_refusal (cable_reading text))
text_fails (Text line reason) text h = ap cable_or_refusal h
text_fails Memory text h = (let late = text_late (cable_reading text) in omega (arith, late))

text_refuses_at : (e : TextError Reason) → RefusesAt 2 (kind_of (cable_refusal e))
text_refuses_at (Text line reason) = refl
text_refuses_at Memory = tt

pub text_refused : (old new : Seen) (text : Vec ℕ Global) (bytes : List ℕ) (e : TextError Reason) (r : Result CableRead Outcome)
    → Takes IsText 2 entire (text_within {R = ToolRefusal} text_limit 2) old new (Ok text) → bytes ≡ text.items → Fails e (cable_reading bytes)
    → r ≡ Err (cable_refusal e) → Takes Same 2 entire cable_text_due old new r
text_refused old new text bytes e r t same fails is =
    subst (Takes Same 2 entire cable_text_due old new) (sym is)
    (takes_then IsText Same 2 entire (text_within {R = ToolRefusal} text_limit 2) (λ whole. cable_or_refusal (cable_reading whole)) old new text (Err (cable_refusal e)) t
    (λ whole read. text_fails e whole (subst (λ b. Fails e (cable_reading b)) (same ∙ read) fails)) (text_refuses_at e))

-- no text was read
pub text_none : (old new : Seen) (o : Outcome) (r : Result CableRead Outcome) → IsErrAnd r (λ came. came ≡ o)
    → Takes {X = Vec ℕ Global} IsText 2 entire (text_within {R = ToolRefusal} text_limit 2) old new (Err o) → Takes Same 2 entire cable_text_due old new r
text_none old new o r h t =
    let came = err_from_is_err_and r h in
    subst (Takes Same 2 entire cable_text_due old new) (sym (came.1 ∙ ap Err came.2))
    (takes_none IsText Same 2 entire (text_within {R = ToolRefusal} text_limit 2) (λ whole. cable_or_refusal (cable_reading whole)) old new o (omega arith)
    (λ whole. text_late (cable_reading whole)) t)

-- ---- the hands
fit_late : (fit : Result (Unit {0}) FitError) (read : CableRead) → 2 ≤ stage_in (fitting_on_cable fit read)
fit_late (Ok u) read = omega arith
fit_late (Err error) read = omega arith

pub undealt_at : (o : Outcome) → IsUndealt o → RefusesAt 2 (kind_of o)
undealt_at o (inl none) = subst (λ (o : Outcome). RefusesAt 2 (kind_of o)) (sym none) tt
undealt_at o (inr unfit) = subst (λ (o : Outcome). RefusesAt 2 (kind_of o)) (sym unfit.1) refl

undealt_all : (r : Result Wired Outcome) → IfErr r IsUndealt → IfErr r (λ o. RefusesAt 2 (kind_of o))
undealt_all (Ok wired) h = tt
undealt_all (Err o) h = undealt_at o h

-- items that fit are dealt
pub dealt_gives : (table : Table) (read : CableRead) (wired : Wired) → items_fit table read.1 ≡ Ok tt → IsWired table wired read
    → Gives (IsWired table) (Ok wired) (fitting_on_cable (items_fit table read.1) read)
dealt_gives table read wired fit is = (read, ap (λ f. fitting_on_cable f read) fit, is)

pub unfit_gives : (table : Table) (read : CableRead) (error : FitError) → items_fit table read.1 ≡ Err error
    → Gives {X = Wired} (IsWired table) (Err (refuse (CableUnfit error))) (fitting_on_cable (items_fit table read.1) read)
unfit_gives table read error fit = ap (λ f. fitting_on_cable f read) fit

pub roomless_gives : (table : Table) (read : CableRead) → (let none : Outcome = NoMemory in Gives {X = Wired} (IsWired table) (Err none) (fitting_on_cable (items_fit table read.1) read))
roomless_gives table read = (let late = fit_late (items_fit table read.1) read in omega (arith, late))

pub wired_taken : (old new : Seen) (table : Table) (read : CableRead) (r : Result Wired Outcome) → Takes Same 2 entire cable_text_due old new (Ok read)
    → Gives (IsWired table) r (fitting_on_cable (items_fit table read.1) read) → IfErr r IsUndealt → Takes (IsWired table) 2 entire (cable_read_due table) old new r
wired_taken old new table read r t g at =
    takes_then Same (IsWired table) 2 entire cable_text_due (λ y. fitting_on_cable (items_fit table y.1) y) old new read r t
    (λ y same. subst (λ (y : CableRead). Gives (IsWired table) r (fitting_on_cable (items_fit table y.1) y)) same g) (undealt_all r at)

pub wired_none : (old new : Seen) (table : Table) (o : Outcome) (r : Result Wired Outcome) → IsErrAnd r (λ came. came ≡ o)
    → Takes {X = CableRead} Same 2 entire cable_text_due old new (Err o) → Takes (IsWired table) 2 entire (cable_read_due table) old new r
wired_none old new table o r h t =
    let came = err_from_is_err_and r h in
    subst (Takes (IsWired table) 2 entire (cable_read_due table) old new) (sym (came.1 ∙ ap Err came.2))
    (takes_none Same (IsWired table) 2 entire cable_text_due (λ y. fitting_on_cable (items_fit table y.1) y) old new o (omega arith) (λ y. fit_late (items_fit table y.1) y) t)

-- ---- what is due of the second text
reading_stops : (r : Result CableRead Refusal) (o : Outcome) → cable_or_refusal r ≡ Err o → StopsAt 2 (kind_of o)
reading_stops (Ok read) o h = absurd cc
reading_stops (Err refusal) o h = (let e : refuse (CableText refusal.line refusal.reason) ≡ o = cc in subst (λ (o : Outcome). StopsAt 2 (kind_of o)) e refl)

fit_stops : (fit : Result (Unit {0}) FitError) (read : CableRead) (o : Outcome) → fitting_on_cable fit read ≡ Err o → StopsAt 2 (kind_of o)
fit_stops (Ok u) read o h = absurd cc
fit_stops (Err error) read o h = (let e : refuse (CableUnfit error) ≡ o = cc in subst (λ (o : Outcome). StopsAt 2 (kind_of o)) e refl)

text_stops : (text : List ℕ) (o : Outcome) → cable_text_due text ≡ Err o → StopsAt 2 (kind_of o)
text_stops text o h =
    refuse_text (λ (o : Outcome). StopsAt 2 (kind_of o)) text_limit 2 text (λ whole. cable_or_refusal (cable_reading whole)) o refl (reading_stops (cable_reading text) o) h

pub read_stops : (table : Table) (text : List ℕ) (o : Outcome) → cable_read_due table text ≡ Err o → StopsAt 2 (kind_of o)
read_stops table text o h = elim (bind_err (cable_text_due text) (λ read. fitting_on_cable (items_fit table read.1) read) o h) [
  | inl e ↦ text_stops text o e
  | inr w ↦ fit_stops (items_fit table w.0.1) w.0 o w.2
]

read_stage : (table : Table) (text : List ℕ) → 2 ≤ stage_in (cable_read_due table text)
read_stage table text = stage_at 2 (cable_read_due table text) (omega arith) (λ o h. read_stops table text o h)

-- what was read
reading_ok : (r : Result CableRead Refusal) (read : CableRead) → cable_or_refusal r ≡ Ok read → r ≡ Ok read
reading_ok (Ok given) read h = (let e : given ≡ read = cc in ap Ok e)
reading_ok (Err refusal) read h = absurd cc

text_read : (text : List ℕ) (read : CableRead) → cable_text_due text ≡ Ok read → cable_reading text ≡ Ok read
text_read text read h = reading_ok (cable_reading text) read (read_text text_limit 2 text (λ whole. cable_or_refusal (cable_reading whole)) read h)

fit_ok : (fit : Result (Unit {0}) FitError) (given read : CableRead) → fitting_on_cable fit given ≡ Ok read → (given ≡ read) × (fit ≡ Ok tt)
fit_ok (Ok u) given read h = (cc, refl)
fit_ok (Err error) given read h = absurd cc

pub record CableIsRead (table : Table) (text : List ℕ) (read : CableRead) : Type 0 where
  pub read_is : cable_reading text ≡ Ok read
  pub fits : items_fit table read.1 ≡ Ok tt

pub cable_read : (table : Table) (text : List ℕ) (read : CableRead) → cable_read_due table text ≡ Ok read → CableIsRead table text read
cable_read table text read h =
    let a = bind_ok (cable_text_due text) (λ y. fitting_on_cable (items_fit table y.1) y) read h in
    let f = fit_ok (items_fit table a.0.1) a.0 read a.2 in
    record { read_is = text_read text a.0 a.1 ∙ ap Ok f.0; fits = ap (λ (y : CableRead). items_fit table y.1) (sym f.0) ∙ f.1 }

-- ---- both texts
abbrev both_made : Table → List ℕ → Result CableInputs Outcome
both_made table text = cable_read_due table text >>= λ read. Ok (with_cable table read)

both_stage : (table : Table) (text : List ℕ) → 2 ≤ stage_in (both_made table text)
both_stage table text = then_stage 2 (cable_read_due table text) (λ read. Ok (with_cable table read)) (read_stage table text) (λ read. omega arith)

pub table_none : (old new second : Seen) (o : Outcome) (r : Result OnCable Outcome) → IsErrAnd r (λ came. came ≡ o) → Takes {X = Table} Same 1 entire table_due old new (Err o)
    → Prepares IsTakenOnCable (two_sources entire entire) table_refusal_of cable_due (both old second) (both new second) r
table_none old new second o r h t =
    let came = err_from_is_err_and r h in
    subst (Prepares IsTakenOnCable (two_sources entire entire) table_refusal_of cable_due (both old second) (both new second)) (sym (came.1 ∙ ap Err came.2))
    (prepares_none Same IsTakenOnCable entire entire table_due both_made old new second o both_stage t)

pub both_taken : (old new old' new' : Seen) (table : Table) (wired : Wired) → Takes {R = ToolRefusal} Same 1 entire table_due old new (Ok table)
    → Takes (IsWired table) 2 entire (cable_read_due table) old' new' (Ok wired)
    → Prepares IsTakenOnCable (two_sources entire entire) table_refusal_of cable_due (both old old') (both new new') (Ok (record { table = table; cable = wired.cable; hands = wired.hands }))
both_taken old new old' new' table wired t u =
    let taken : OnCable = record { table = table; cable = wired.cable; hands = wired.hands } in
    prepares_both Same IsTakenOnCable entire entire table_due both_made old new old' new' table table (Ok taken) (λ z is. sym is) t
    (takes_then (IsWired table) IsTakenOnCable 2 entire (cable_read_due table) (λ read. Ok (with_cable table read)) old' new' wired (Ok taken) u
    (λ read is. (with_cable table read, refl, record { table = refl; cable = is.cable; hands = is.hands })) tt)

pub wired_stopped : (old new old' new' : Seen) (table : Table) (o : Outcome) (r : Result OnCable Outcome) → IsErrAnd r (λ came. came ≡ o)
    → Takes {R = ToolRefusal} Same 1 entire table_due old new (Ok table) → Takes {X = Wired} (IsWired table) 2 entire (cable_read_due table) old' new' (Err o)
    → Prepares IsTakenOnCable (two_sources entire entire) table_refusal_of cable_due (both old old') (both new new') r
wired_stopped old new old' new' table o r h t u =
    let came = err_from_is_err_and r h in
    subst (Prepares IsTakenOnCable (two_sources entire entire) table_refusal_of cable_due (both old old') (both new new')) (sym (came.1 ∙ ap Err came.2))
    (prepares_both Same IsTakenOnCable entire entire table_due both_made old new old' new' table table (Err o) (λ z is. sym is) t
    (record { gives = some_map old'.bytes _ _ (λ text g. gives_on (kind_of o) o (cable_read_due table text) (with_cable table) (stop_early 2 (kind_of o) u.stops) (stop_low 2 (kind_of o) (omega arith) u.stops) g) u.gives; reads = u.reads; stops = u.stops; counts = u.counts }))

-- what was read of both
pub record BothAreRead (first second : List ℕ) (inputs : CableInputs) : Type 0 where
  pub table_is : table_due {R = ToolRefusal} first ≡ Ok inputs.table
  pub cable_is : CableIsRead inputs.table second (inputs.cable, inputs.items)

pub both_read : (first second : List ℕ) (inputs : CableInputs) → cable_due first second ≡ Ok inputs → BothAreRead first second inputs
both_read first second inputs h =
    let a = bind_ok (table_due first) (λ table. both_made table second) inputs h in
    let b = bind_ok (cable_read_due a.0 second) (λ read. Ok (with_cable a.0 read)) inputs a.2 in
    let same : with_cable a.0 b.0 ≡ inputs = (let k : Ok (with_cable a.0 b.0) ≡ Ok inputs = b.2 in cc) in
    subst (BothAreRead first second) same (record { table_is = a.1; cable_is = cable_read a.0 second b.0 b.1 })

-- it stopped at the first text or at the second
pub both_stop : (first second : List ℕ) (o : Outcome) → cable_due first second ≡ Err o
    → (table_due {R = ToolRefusal} first ≡ Err o) ⊎ ((table : Table) × (table_due {R = ToolRefusal} first ≡ Ok table) × (cable_read_due table second ≡ Err o))
both_stop first second o h = elim (bind_err (table_due first) (λ table. both_made table second) o h) [
  | inl e ↦ inl e
  | inr w ↦ elim (bind_err (cable_read_due w.0 second) (λ read. Ok (with_cable w.0 read)) o w.2) [
    | inl e ↦ inr (w.0, w.1, e)
    | inr v ↦ absurd (let k : Ok (with_cable w.0 v.0) ≡ Err o = v.2 in cc)
  ]
]

pub cable_unwritten : (first second : List ℕ) (o : Outcome) → cable_due first second ≡ Err o → is_answer (kind_of o) ≡ false
cable_unwritten first second o h = elim (both_stop first second o h) [
  | inl e ↦ stop_unwritten 1 (kind_of o) (table_stops first o e)
  | inr w ↦ stop_unwritten 2 (kind_of o) (read_stops w.0 second o w.2)
]

-- ---- causes
-- the laws by which a cable text reads as its cable and items, and stands for what is read
pub record CableLaws : Type 0 where
  pub again : (text : List ℕ) (cable : Cable) (items : List Item) → IsCableText cable items text → cable_reading text ≡ Ok (cable, items)
  pub found : (text : List ℕ) (cable : Cable) (items : List Item) → cable_reading text ≡ Ok (cable, items) → IsCableText cable items text

reading_cause : CableLaws → (IsEnd : EndIs) (first second : List ℕ) (o : Outcome) (r : Result CableRead Refusal) → cable_reading second ≡ r → cable_or_refusal r ≡ Err o
    → RefusesTexts (Cause IsEnd) o first second
reading_cause laws IsEnd first second o (Ok read) e h = absurd cc
reading_cause laws IsEnd first second o (Err refusal) e h =
    let same : refuse (CableText refusal.line refusal.reason) ≡ o = cc in
    subst (λ (o : Outcome). RefusesTexts (Cause IsEnd) o first second) same (λ cable items stands. (let k = laws.again second cable items stands in cc))

fit_cause : CableLaws → (IsEnd : EndIs) (first second : List ℕ) (table : Table) (o : Outcome) (read : CableRead) (fit : Result (Unit {0}) FitError) → IsValidText table first
    → cable_reading second ≡ Ok read → items_fit table read.1 ≡ fit → fitting_on_cable fit read ≡ Err o → RefusesTexts (Cause IsEnd) o first second
fit_cause laws IsEnd first second table o read (Ok u) valid is e h = absurd cc
fit_cause laws IsEnd first second table o read (Err error) valid is e h =
    let same : refuse (CableUnfit error) ≡ o = cc in
    subst (λ (o : Outcome). RefusesTexts (Cause IsEnd) o first second) same
    (record { table = table; cable = read.0; items = read.1; table_is = valid; cable_stands = laws.found second read.0 read.1 is; why = e })

read_cause : CableLaws → (IsEnd : EndIs) (first second : List ℕ) (table : Table) (o : Outcome) → IsValidText table first → cable_read_due table second ≡ Err o
    → RefusesTexts (Cause IsEnd) o first second
read_cause laws IsEnd first second table o valid h = elim (bind_err (cable_text_due second) (λ read. fitting_on_cable (items_fit table read.1) read) o h) [
  | inl e ↦
      refuse_text (λ (o : Outcome). RefusesTexts (Cause IsEnd) o first second) text_limit 2 second (λ whole. cable_or_refusal (cable_reading whole)) o tt
      (reading_cause laws IsEnd first second o (cable_reading second) refl) e
  | inr w ↦ fit_cause laws IsEnd first second table o w.0 (items_fit table w.0.1) valid (text_read second w.0 w.1) refl w.2
]

pub cable_cause : CauseLaws → CableLaws → (IsEnd : EndIs) (first second : List ℕ) (o : Outcome) → cable_due first second ≡ Err o → RefusesTexts (Cause IsEnd) o first second
cable_cause texts laws IsEnd first second o h = elim (both_stop first second o h) [
  | inl e ↦ table_cause texts (Cause IsEnd) first second o e
  | inr w ↦ read_cause laws IsEnd first second w.0 o (table_valid {R = ToolRefusal} texts first w.0 w.1) w.2
]

-- ---- texts that are told
pub read_told : CableLaws → (table : Table) (cable : Cable) (items : List Item) (text : List ℕ) → IsCableText cable items text → items_fit table items ≡ Ok tt
    → length text ≤ text_limit → cable_read_due table text ≡ Ok (cable, items)
read_told laws table cable items text stands fit short =
    ap (λ r. (r >>= λ whole. cable_or_refusal (cable_reading whole)) >>= λ read. fitting_on_cable (items_fit table read.1) read) (short_text {R = ToolRefusal} text_limit 2 text short)
    ∙ ap (λ r. cable_or_refusal r >>= λ read. fitting_on_cable (items_fit table read.1) read) (laws.again text cable items stands)
    ∙ ap (λ f. fitting_on_cable f (cable, items)) fit

pub both_told : (table : Table) (cable : Cable) (items : List Item) (first second : List ℕ) → table_due {R = ToolRefusal} first ≡ Ok table
    → cable_read_due table second ≡ Ok (cable, items) → cable_due first second ≡ Ok (record { table = table; cable = cable; items = items })
both_told table cable items first second t c =
    ap (λ r. r >>= λ table. both_made table second) t ∙ ap (λ r. r >>= λ read. Ok (with_cable table read)) c

-- ---- what was taken, and its text
pub cable_agrees : (horizon : ℕ) (on : OnCable) → Agrees IsTakenOnCable cable_answer (IsCableAnswerText horizon) on Done (IsOnCableText horizon on.table on.cable on.hands.items)
cable_agrees horizon on = record {
  answers = λ inputs are. refl;
  texts = λ inputs are text is.
      subst (λ (t : Table). IsOnCableText horizon t inputs.cable (cable_hands inputs) text) are.table
      (subst (λ (c : Cable). IsOnCableText horizon on.table c (cable_hands inputs) text) are.cable
      (subst (λ (h : List Hand). IsOnCableText horizon on.table on.cable h text) are.hands is));
}

pub on_cable_is_trace : (table : Table) (cable : Cable) (hands : List Hand) (horizon : ℕ) (holds : List Hold) (list : List Entry) → horizon ≤ horizon_limit → AreFew hands → holds ≡ hand_holds hands
    → IsLawfulOnCable (quiet_of table) (delays_on cable) (wakes_on cable) (stations_of table hands) horizon list → AllByRecursion IsTransmission list
    → IsTrace (record { horizon = horizon; holds = holds; list = list })
on_cable_is_trace table cable hands horizon holds list within few same lawful ranged = record {
  horizon = within;
  holds = subst (AllByRecursion IsHold) (sym same) (holds_ranged hands few);
  terminals = subst (AscendAbove 0) (sym same) (holds_ascend hands);
  list = below horizon list (λ x i. (lawful.sent x i).0) ranged;
  order = lawful.ordered;
}

-- a trace that was written, and what is heard of it behind
pub cable_written : {K : Type 0} (ghosts : SinkGhosts K) (a b c : K) (u : Unit {0}) (result : Result (Unit {0}) Fault) (table : Table) (cable : Cable) (trace : Recording) (list : List Entry) → list ≡ trace.list
    → WritesText {E = Fault} ghosts.held ghosts.faults a b (Ok u) (trace_text trace) → WritesText ghosts.held ghosts.faults b c result (heard_text table (delays_on cable) list)
    → WritesText ghosts.held ghosts.faults a c result (on_cable_text table cable trace)
cable_written ghosts a b c u result table cable trace list same w v =
    writes_then ghosts.held ghosts.faults a b c u result (trace_text trace) (heard_text table (delays_on cable) trace.list) w
    (subst (λ l. WritesText ghosts.held ghosts.faults b c result (heard_text table (delays_on cable) l)) same v)

-- a trace that was written in part
pub cable_cut : {K : Type 0} (ghosts : SinkGhosts K) (a b : K) (e : Fault) (result : Result (Unit {0}) Fault) (table : Table) (cable : Cable) (trace : Recording)
    → WritesText {T = Unit {0}} ghosts.held ghosts.faults a b (Err e) (trace_text trace) → IsErrAnd result (λ came. came ≡ e) → WritesText ghosts.held ghosts.faults a b result (on_cable_text table cable trace)
cable_cut ghosts a b e result table cable trace w h =
    let came = err_from_is_err_and result h in
    let cut : Result (Unit {0}) Fault = Err e in
    subst (λ r. WritesText ghosts.held ghosts.faults a b r (on_cable_text table cable trace)) (sym (came.1 ∙ ap Err came.2))
    (writes_cut ghosts.held ghosts.faults a b e cut (trace_text trace) (heard_text table (delays_on cable) trace.list) w refl)
