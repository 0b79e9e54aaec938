-- What is due of two texts of which one stands beside the other, and what is claimed of them.
use Rattle.std.specs.Prelude.{◌≡◌, ℕ, ◌≤◌, Bool, true, false, nat_lt, IsErrAnd, IsTrue, List, length, Result, Ok, Err, Vec, codes, ◌∷◌, []}
use Rattle.std.specs.declared.alloc.Global.{Global}
use Rattle.std.proofs.Common.{arith, cond, refl, sym, ap, ◌∙◌, subst}
use Rattle.std.proofs.lemmas.Result.{err_from_is_err_and}
use Rattle.bus_text.specs.AllOf.{◌>>=◌}
use Rattle.bus_outer.specs.Sinks.{WritesText}
use Rattle.bus_outer.specs.declared.sink.Sink.{Ghosts as SinkGhosts}
use Rattle.bus_outer.specs.declared.sink.WriteFault.{WriteFault as Fault}
use Rattle.bus_table.specs.declared.error.TableError.{TableError}
use Rattle.bus_table.specs.Reading.{answer_of}
use Rattle.bus_table.specs.Tables.{Table}
use Rattle.bus_table.specs.Valid.{is_valid}
use Rattle.bus_regime.specs.declared.table_verdict.TableVerdict.{TableVerdict}
use Rattle.bus_regime.specs.declared.table_verdict.TableVerdict.TheVariants.{Accept, ShortCycle, SmallGap, NoSync}
use Rattle.bus_regime.specs.Verdicts.{verdict_of, is_accepted}
use Rattle.bus_trace.specs.Limits.{trace_limit}
use Rattle.bus_diagnosis.specs.declared.diagnosis.Diagnosis.{Diagnosis}
use Rattle.bus_diagnosis.specs.Diagnoses.{is_right, diagnosis_of}
use Rattle.bus_diagnosis.specs.Laws.{RightMessagesRun, NamedItemIsFirst, BorneCablesAreOrderly, WholeTracesAreTraces}
use Rattle.bus_diagnosis.specs.Sentences.{diagnosis_text}
use Rattle.bus_command.specs.Acts.{Ends, IsBehind, written}
use Rattle.bus_command.specs.Causes.{RefusesTexts}
use Rattle.bus_command.specs.Due.{outcome_with, text_due, text_within}
use Rattle.bus_command.specs.Kinds.{Kind, NoForm, NotRead, TooMuch, Wrong, Late, NotWritten, NoRoom, Answer, kind_of, stage_of, is_answer}
use Rattle.bus_command.specs.Outside.{Call, Seen, both, sink_seen}
use Rattle.bus_command.specs.Readers.{entire, one_source, two_sources, text_limit}
use Rattle.bus_command.specs.Stages.{refusal_in, stage_in}
use Rattle.bus_command.specs.Steps.{IsText, Takes, Prepares}
use Rattle.bus_command.specs.declared.outcome.Outcome.TheVariants.{Done, Answered, TooLarge}
use Rattle.bus_command.proofs.ClaimLemmas.{claimed, does_of, at_two}
use Rattle.bus_command.proofs.DoLaws.{Agrees, answered}
use Rattle.bus_command.proofs.PrepareLaws.{prepares_none, prepares_both}
use Rattle.bus_command.proofs.TakeLemmas.{takes_then, takes_none}
use Rattle.bus_command.proofs.TextLemmas.{short_text}
use Rattle.bus_tool.specs.Acts.{tool_program, Acts}
use Rattle.bus_tool.specs.Causes.{Cause, EndIs}
use Rattle.bus_tool.specs.Diagnosing.{Beside, beside, beside_due, beside_answer, beside_told, diagnosis_outcome, given_beside, given_told, table_beside, table_told, IsToldBeside}
use Rattle.bus_tool.specs.Answering.{Answers, IsTextOf}
use Rattle.bus_tool.specs.Asking.{IsDiagnosisOf}
use Rattle.bus_tool.specs.DiagnosisClaims.{TellsBeside, is_right_beside}
use Rattle.bus_tool.specs.Replies.{Is, TheDiagnosis, yes_or_no}
use Rattle.bus_tool.proofs.ReplyLemmas.{beside_status, is_text, with_status}
use Rattle.bus_tool.specs.Due.{verdict_outcome}
use Rattle.bus_tool.specs.Explanations.{table_explained}
use Rattle.bus_tool.specs.Forms.{ExplainBeside, entire_beside}
use Rattle.bus_tool.proofs.FormLemmas.{of_plain}
use Rattle.bus_tool.specs.Refusals.{Outcome, ToolRefusal, ends_of, status_of}
use Rattle.bus_tool.specs.declared.beside.Texts.{Texts}
use Rattle.bus_tool.specs.inside.TakenBeside.{AreTaken}

-- ---- the answer
-- an answer is written of each diagnosis, each table and each text
found_written : (found : Diagnosis) → kind_of (diagnosis_outcome found) ≡ Answer
found_written found = by (is_right found) where
  by : (b : Bool) → (let outcome : Outcome = cond b Done Answered in kind_of outcome ≡ Answer)
  by true = refl
  by false = refl

pub found_late : (found : Diagnosis) → 2 ≤ stage_of (kind_of (diagnosis_outcome found))
found_late found = subst (λ k. 2 ≤ stage_of k) (sym (found_written found)) (omega arith)

table_written : (table : Table) (text : List ℕ) → kind_of (table_beside table text) ≡ Answer
table_written table text = by (is_accepted (verdict_of table)) where
  by : (b : Bool) → kind_of (cond b (diagnosis_outcome (diagnosis_of table text)) Answered) ≡ Answer
  by true = found_written (diagnosis_of table text)
  by false = refl

given_written : (answer : Result Table TableError) (text : List ℕ) → kind_of (given_beside answer text) ≡ Answer
given_written (Ok table) text = table_written table text
given_written (Err error) text = refl

pub beside_written : (texts : Beside) → kind_of (beside_answer texts) ≡ Answer
beside_written texts = given_written (answer_of texts.table) texts.text

pub beside_late : (texts : Beside) → 2 ≤ stage_of (kind_of (beside_answer texts))
beside_late texts = subst (λ k. 2 ≤ stage_of k) (sym (beside_written texts)) (omega arith)

-- what `explain T` did is done of both texts
wider : (k : Kind) → IsBehind (one_source entire) k → IsBehind (two_sources entire entire_beside) k
wider NoForm h = h
wider (NotRead source) h = h
wider (TooMuch source) h = h
wider (Wrong source) h = absurd (let none = h.1 in cc)
wider Late h = h
wider NotWritten h = h
wider NoRoom h = h
wider Answer h = h

widened : (due : Outcome) (IsIt : List ℕ → Type 0) (old new : Seen) (o : Outcome) → Ends (one_source entire) due IsIt old new o
    → Ends (two_sources entire entire_beside) due IsIt old new o
widened due IsIt old new o e = record { stands = e.stands; text = e.text; count = e.count; behind = wider (kind_of o) e.behind }

-- what is found is written
pub found_ends : {K : Type 0} (ghosts : SinkGhosts K) (found is : Diagnosis) (old new : K) (result : Result (Unit {0}) Fault) (due o : Outcome) → found ≡ is
    → due ≡ diagnosis_outcome found → WritesText ghosts.held ghosts.faults old new result (diagnosis_text found) → o ≡ written result due
    → Ends (two_sources entire entire_beside) (diagnosis_outcome is) (λ text. text ≡ diagnosis_text is) (sink_seen ghosts old) (sink_seen ghosts new) o
found_ends ghosts found is old new result due o same answer writes came =
    subst (λ (d : Diagnosis). Ends (two_sources entire entire_beside) (diagnosis_outcome d) (λ text. text ≡ diagnosis_text d) (sink_seen ghosts old) (sink_seen ghosts new) o) same
    (answered (two_sources entire entire_beside) (diagnosis_outcome found) (λ text. text ≡ diagnosis_text found) ghosts old new (diagnosis_text found) result o
    (found_written found) refl writes (came ∙ ap (written result) answer))

pub accepted_ends : {K : Type 0} (ghosts : SinkGhosts K) (table : Table) (text : List ℕ) (old new : K) (o : Outcome) → is_accepted (verdict_of table) ≡ true
    → Ends (two_sources entire entire_beside) (diagnosis_outcome (diagnosis_of table text)) (λ told. told ≡ diagnosis_text (diagnosis_of table text))
    (sink_seen ghosts old) (sink_seen ghosts new) o
    → Ends (two_sources entire entire_beside) (table_beside table text) (λ told. told ≡ table_told table text) (sink_seen ghosts old) (sink_seen ghosts new) o
accepted_ends ghosts table text old new o accepted e =
    subst (λ (b : Bool). Ends (two_sources entire entire_beside) (cond b (diagnosis_outcome (diagnosis_of table text)) Answered)
    (λ told. told ≡ cond b (diagnosis_text (diagnosis_of table text)) (table_explained table)) (sink_seen ghosts old) (sink_seen ghosts new) o) (sym accepted) e

refused_answer : (verdict : TableVerdict) → is_accepted verdict ≡ false → verdict_outcome verdict ≡ Answered
refused_answer (Accept mode least most) h = absurd cc
refused_answer (ShortCycle least ti) h = refl
refused_answer (SmallGap terminal gap needed) h = refl
refused_answer (NoSync terminal gap needed) h = refl

pub refused_ends : {K : Type 0} (ghosts : SinkGhosts K) (table : Table) (text : List ℕ) (old new : K) (o : Outcome) → is_accepted (verdict_of table) ≡ false
    → Ends (one_source entire) (verdict_outcome (verdict_of table)) (λ told. told ≡ table_explained table) (sink_seen ghosts old) (sink_seen ghosts new) o
    → Ends (two_sources entire entire_beside) (table_beside table text) (λ told. told ≡ table_told table text) (sink_seen ghosts old) (sink_seen ghosts new) o
refused_ends ghosts table text old new o refused e =
    subst (λ (b : Bool). Ends (two_sources entire entire_beside) (cond b (diagnosis_outcome (diagnosis_of table text)) Answered)
    (λ told. told ≡ cond b (diagnosis_text (diagnosis_of table text)) (table_explained table)) (sink_seen ghosts old) (sink_seen ghosts new) o) (sym refused)
    (subst (λ (due : Outcome). Ends (two_sources entire entire_beside) due (λ told. told ≡ table_explained table) (sink_seen ghosts old) (sink_seen ghosts new) o)
    (refused_answer (verdict_of table) refused)
    (widened (verdict_outcome (verdict_of table)) (λ told. told ≡ table_explained table) (sink_seen ghosts old) (sink_seen ghosts new) o e))

-- what is done of what the first text gives is done of both
pub given_ends : {K : Type 0} (ghosts : SinkGhosts K) (texts : Beside) (answer : Result Table TableError) (old new : K) (o : Outcome) → answer_of texts.table ≡ answer
    → Ends (two_sources entire entire_beside) (given_beside answer texts.text) (λ told. told ≡ given_told answer texts) (sink_seen ghosts old) (sink_seen ghosts new) o
    → Ends (two_sources entire entire_beside) (beside_answer texts) (λ told. told ≡ beside_told texts) (sink_seen ghosts old) (sink_seen ghosts new) o
given_ends ghosts texts answer old new o is e =
    subst (λ (a : Result Table TableError). Ends (two_sources entire entire_beside) (given_beside a texts.text) (λ told. told ≡ given_told a texts) (sink_seen ghosts old) (sink_seen ghosts new) o)
    (sym is) e

pub unread_ends : {K : Type 0} (ghosts : SinkGhosts K) (texts : Beside) (error : TableError) (told : List ℕ) (old new : K) (o : Outcome)
    → answer_of texts.table ≡ Err error → told ≡ given_told (Err error) texts
    → Ends (one_source entire) Answered (λ text. text ≡ told) (sink_seen ghosts old) (sink_seen ghosts new) o
    → Ends (two_sources entire entire_beside) (beside_answer texts) (λ text. text ≡ beside_told texts) (sink_seen ghosts old) (sink_seen ghosts new) o
unread_ends ghosts texts error told old new o is same e =
    given_ends ghosts texts (Err error) old new o is
    (subst (λ (t : List ℕ). Ends (two_sources entire entire_beside) Answered (λ text. text ≡ t) (sink_seen ghosts old) (sink_seen ghosts new) o) same
    (widened Answered (λ text. text ≡ told) (sink_seen ghosts old) (sink_seen ghosts new) o e))

-- ---- what is taken
abbrev next : List ℕ → List ℕ → Result Beside Outcome
next table text = text_within trace_limit 2 text >>= λ whole. Ok (beside table whole)

next_late : (table text : List ℕ) → 2 ≤ stage_in (next table text)
next_late table text = by (nat_lt trace_limit (length text)) where
  sized : Bool → Result (List ℕ) Outcome
  sized b = cond b (Err (TooLarge 2)) (Ok text)

  by : (b : Bool) → 2 ≤ stage_in (sized b >>= λ whole. Ok (beside table whole))
  by true = omega arith
  by false = omega arith

pub first_none : (old new second : Seen) (o : Outcome) (r : Result Texts Outcome) → IsErrAnd r (λ came. came ≡ o)
    → Takes {X = Vec ℕ Global} IsText 1 entire (text_due {R = ToolRefusal} 1) old new (Err o)
    → Prepares AreTaken (two_sources entire entire_beside) (λ text. refusal_in (text_due 1 text)) beside_due (both old second) (both new second) r
first_none old new second o r h t =
    let came = err_from_is_err_and r h in
    subst (Prepares AreTaken (two_sources entire entire_beside) (λ text. refusal_in (text_due 1 text)) beside_due (both old second) (both new second)) (sym (came.1 ∙ ap Err came.2))
    (prepares_none IsText AreTaken entire entire_beside (text_due 1) next old new second o next_late t)

pub second_none : (old new old' new' : Seen) (table : Vec ℕ Global) (o : Outcome) (r : Result Texts Outcome) → IsErrAnd r (λ came. came ≡ o)
    → Takes IsText 1 entire (text_due {R = ToolRefusal} 1) old new (Ok table)
    → Takes {X = Vec ℕ Global} IsText 2 entire_beside (text_within {R = ToolRefusal} trace_limit 2) old' new' (Err o)
    → Prepares AreTaken (two_sources entire entire_beside) (λ text. refusal_in (text_due 1 text)) beside_due (both old old') (both new new') r
second_none old new old' new' table o r h t u =
    let came = err_from_is_err_and r h in
    subst (Prepares AreTaken (two_sources entire entire_beside) (λ text. refusal_in (text_due 1 text)) beside_due (both old old') (both new new')) (sym (came.1 ∙ ap Err came.2))
    (prepares_both IsText AreTaken entire entire_beside (text_due 1) next old new old' new' table table.items (Err o) (λ z is. sym is) t
    (takes_none IsText AreTaken 2 entire_beside (text_within trace_limit 2) (λ whole. Ok (beside table.items whole)) old' new' o (omega arith) (λ whole. omega arith) u))

pub both_taken : (old new old' new' : Seen) (table text : Vec ℕ Global) → Takes IsText 1 entire (text_due {R = ToolRefusal} 1) old new (Ok table)
    → Takes IsText 2 entire_beside (text_within {R = ToolRefusal} trace_limit 2) old' new' (Ok text)
    → Prepares AreTaken (two_sources entire entire_beside) (λ t. refusal_in (text_due 1 t)) beside_due (both old old') (both new new')
    (Ok (record { table = table; text = text }))
both_taken old new old' new' table text t u =
    let taken : Texts = record { table = table; text = text } in
    prepares_both IsText AreTaken entire entire_beside (text_due 1) next old new old' new' table table.items (Ok taken) (λ z is. sym is) t
    (takes_then IsText AreTaken 2 entire_beside (text_within trace_limit 2) (λ whole. Ok (beside table.items whole)) old' new' text (Ok taken) u
    (λ whole is. (beside table.items whole, refl, record { table = refl; text = is })) tt)

-- what was read is the texts
pub texts_agree : (taken : Texts) (table text : List ℕ) → taken.table.items ≡ table → taken.text.items ≡ text
    → Agrees AreTaken beside_answer IsToldBeside taken (beside_answer (beside table text)) (λ told. told ≡ beside_told (beside table text))
texts_agree taken table text e f = record {
  answers = λ y is. ap beside_answer (same y is);
  texts = λ y is told shown. shown ∙ ap beside_told (sym (same y is));
} where
  same : (y : Beside) → AreTaken taken y → y ≡ beside table text
  same y is = ap (λ t. beside t y.text) (sym is.table ∙ e) ∙ ap (beside table) (sym is.text ∙ f)

-- ---- its cause
given_cause : (IsEnd : EndIs) (answer : Result Table TableError) (text first second : List ℕ) → RefusesTexts (Cause IsEnd) (given_beside answer text) first second
given_cause IsEnd (Err error) text first second = tt
given_cause IsEnd (Ok table) text first second = by (is_accepted (verdict_of table)) where
  found : (b : Bool) → (let outcome : Outcome = cond b Done Answered in RefusesTexts (Cause IsEnd) outcome first second)
  found true = tt
  found false = tt

  by : (b : Bool) → RefusesTexts (Cause IsEnd) (cond b (diagnosis_outcome (diagnosis_of table text)) Answered) first second
  by true = found (is_right (diagnosis_of table text))
  by false = tt

-- what is due of both texts, where each is too large or not
abbrev sized : Bool → Bool → List ℕ → List ℕ → Result Beside Outcome
sized a b first second = cond a (Err (TooLarge 1)) (Ok first) >>= λ table. cond b (Err (TooLarge 2)) (Ok second) >>= λ text. Ok (beside table text)

pub beside_cause : (IsEnd : EndIs) (first second : List ℕ) (o : Outcome) → outcome_with beside_answer (beside_due first second) ≡ o → RefusesTexts (Cause IsEnd) o first second
beside_cause IsEnd first second o h =
    subst (λ o. RefusesTexts (Cause IsEnd) o first second) h (by (nat_lt text_limit (length first)) (nat_lt trace_limit (length second))) where
      by : (a b : Bool) → RefusesTexts (Cause IsEnd) (outcome_with beside_answer (sized a b first second)) first second
      by true b = tt
      by false true = tt
      by false false = given_cause IsEnd (answer_of first) second first second

-- only their sizes are refused
pub beside_unwritten : (first second : List ℕ) (o : Outcome) → beside_due first second ≡ Err o → is_answer (kind_of o) ≡ false
beside_unwritten first second o h = by (nat_lt text_limit (length first)) (nat_lt trace_limit (length second)) h where
  by : (a b : Bool) → sized a b first second ≡ Err o → is_answer (kind_of o) ≡ false
  by true b q = (let same : TooLarge 1 ≡ o = cc in ap (λ o. is_answer (kind_of o)) (sym same))
  by false true q = (let same : TooLarge 2 ≡ o = cc in ap (λ o. is_answer (kind_of o)) (sym same))
  by false false q = absurd cc

-- ---- what is claimed of it
pub record DiagnosisLaws : Type 0 where
  pub runs : RightMessagesRun
  pub first : NamedItemIsFirst
  pub turns : BorneCablesAreOrderly
  pub traces : WholeTracesAreTraces

pub diagnosis_claim : DiagnosisLaws → (call : Call) (outcome : Outcome) (table text : List ℕ) → Acts call outcome → IsDiagnosisOf table text call
    → Answers call (status_of outcome) (yes_or_no (is_right_beside table text)) (Is (TheDiagnosis table text))
    × ((valid : Table) → IsTrue (is_valid valid) → IsTrue (is_accepted (verdict_of valid)) → TellsBeside valid text)
diagnosis_claim laws call outcome table text acts h =
    let first = short_text {R = ToolRefusal} text_limit 1 table h.table_short in
    let second = short_text {R = ToolRefusal} trace_limit 2 text h.text_short in
    let due : beside_due table text ≡ Ok (beside table text) =
    ap (λ (r : Result (List ℕ) Outcome). r >>= λ t. text_within trace_limit 2 text >>= λ s. Ok (beside t s)) first
    ∙ ap (λ (r : Result (List ℕ) Outcome). r >>= λ s. Ok (beside table s)) second in (
      with_status call (status_of outcome) _ _ (Is (TheDiagnosis table text)) (beside_status (answer_of table) text)
          (claimed ends_of beside_answer IsToldBeside (two_sources entire entire_beside) (λ t. refusal_in (text_due 1 t)) beside_due table text (beside table text)
          (IsTextOf (Is (TheDiagnosis table text))) call outcome (at_two entire entire_beside call.before.sources table text h.table_told h.text_told) due
          (beside_written (beside table text)) (λ written is. is_text (TheDiagnosis table text) (beside_told (beside table text)) written tt refl is)
          (does_of tool_program call outcome ExplainBeside (of_plain (codes "explain") h.form.first (h.form.second ∷ []) call.words h.form.form h.form.plain) acts) h.undisturbed),
      (λ valid is accepted. record {
        runs = λ rounds senders end found. laws.runs valid text rounds senders end is found;
        unfit = λ unfit found. laws.first valid text unfit found;
        turns = λ rounds senders reach found borne. laws.turns valid text rounds senders reach is accepted found borne;
        trace = λ count horizon end found. laws.traces valid text count horizon end found;
      }),
    )
