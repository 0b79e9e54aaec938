-- What is due of a text that is explained, and that nothing of it is refused but its size.
use Rattle.std.specs.Prelude.{◌≡◌, ℕ, ◌≤◌, Bool, true, false, nat_lt, IsTrue, List, length, Result, Ok, Err, Vec, [], codes}
use Rattle.std.specs.declared.alloc.Global.{Global}
use Rattle.std.proofs.Common.{arith, cond, refl, sym, ap, ◌∙◌, subst}
use Rattle.bus_table.specs.declared.error.TableError.{TableError}
use Rattle.bus_strings.specs.Members.{In}
use Rattle.bus_table.specs.GoingOn.{WhatMayStandGoesOn}
use Rattle.bus_table.specs.Reading.{answer_of}
use Rattle.bus_table.specs.Tables.{Table}
use Rattle.bus_table.specs.Valid.{is_valid}
use Rattle.bus_table.specs.declared.mode.Mode.{Mode}
use Rattle.bus_table.specs.declared.mode.Mode.TheVariants.{Aperiodic, Periodic}
use Rattle.bus_reach.specs.Colliding.{SomeNeverPart}
use Rattle.bus_regime.specs.Gaps.{Gap, gaps}
use Rattle.bus_regime.specs.Starting.{starts_itself}
use Rattle.bus_regime.specs.Verdicts.{verdict_of, is_accepted}
use Rattle.std.proofs.lemmas.Bool.{and_parts}
use Rattle.bus_schedule.specs.Laws.{AcceptedIsClosed, GapsAreLeft, ShortCyclesStartEarly}
use Rattle.bus_regime.specs.declared.table_verdict.TableVerdict.{TableVerdict}
use Rattle.bus_regime.specs.declared.table_verdict.TableVerdict.TheVariants.{Accept, ShortCycle, SmallGap, NoSync}
use Rattle.bus_advice.specs.declared.advice.Advice.TheVariants.{Start}
use Rattle.bus_advice.specs.Advices.{works}
use Rattle.bus_advice.specs.Changes.{with_interval}
use Rattle.bus_advice.specs.Laws.{AdvicesWork, NoneMissing, NoStartMissing, StartWorks}
use Rattle.bus_explain.specs.Accepted.{IsAcceptedWith}
use Rattle.bus_explain.specs.Figures.{spare}
use Rattle.bus_explain.specs.Laws.{GapsAreTold, IsSpare, LoadIsOfLongestCycle, SpareIsFall, SpareIsRise}
use Rattle.bus_facts.specs.Facts.{is_accepting}
use Rattle.bus_outer.specs.declared.sink.Sink.{Ghosts as SinkGhosts}
use Rattle.bus_command.specs.declared.outcome.Outcome.TheVariants.{Answered, TooLarge}
use Rattle.bus_command.specs.Acts.{Ends}
use Rattle.bus_command.specs.Causes.{RefusesTexts}
use Rattle.bus_command.specs.Due.{outcome_with, text_due}
use Rattle.bus_command.specs.Kinds.{Answer, kind_of, stage_of, is_answer}
use Rattle.bus_command.specs.Outside.{Call, sink_seen}
use Rattle.bus_command.specs.Readers.{entire, one_source, text_limit}
use Rattle.bus_command.specs.Stages.{refusal_in}
use Rattle.bus_command.specs.Steps.{IsText}
use Rattle.bus_command.proofs.ClaimLemmas.{claimed, does_of, at_one}
use Rattle.bus_command.proofs.DoLaws.{Agrees}
use Rattle.bus_command.proofs.TextLemmas.{short_text}
use Rattle.bus_tool.specs.Acts.{tool_program, Acts}
use Rattle.bus_tool.specs.Causes.{Cause, EndIs}
use Rattle.bus_tool.specs.Due.{text_outcome, verdict_outcome, explain_answer}
use Rattle.bus_tool.specs.Answering.{Answers, IsTextOf}
use Rattle.bus_tool.specs.Asking.{IsOfText}
use Rattle.bus_feeds.specs.FeedLaws.{UnfedGivesNothing, EachLineIsFed, EachFeedGives}
use Rattle.bus_tool.specs.ExplainClaims.{ExplainsAccepted, AdvisesRefused, ExplainsText, StartsBehind, TellsTakes}
use Rattle.bus_tool.specs.Replies.{Is, TheExplanation, yes_or_no}
use Rattle.bus_tool.specs.Explanations.{answer_explained, explanation, refused_as, table_explained, verdict_explained}
use Rattle.bus_tool.specs.Forms.{Explain}
use Rattle.bus_tool.proofs.FormLemmas.{of_plain}
use Rattle.bus_tool.specs.Refusals.{Outcome, ToolRefusal, ends_of, status_of}
use Rattle.bus_tool.specs.Texts.{IsExplanation}
use Rattle.bus_tool.proofs.AnswerLaws.{written_verdict}
use Rattle.bus_bounds.specs.Bounds.{AreBounds}
use Rattle.bus_cable_plan.specs.Meaning.{MostBorneIsRight}
use Rattle.bus_margins_periodic.specs.Sentences.{drifting}
use Rattle.bus_tool.specs.ToleranceClaims.{SettlesFromAnyStart}
use Rattle.bus_tool.proofs.BorneLemmas.{TurnsLaws, tells_turns}
use Rattle.bus_tool.proofs.MarginsClaim.{MarginsLaws, tells_margins}
use Rattle.bus_tool.proofs.ReplyLemmas.{is_text, text_status, with_status}
use Rattle.bus_tool.proofs.ToleranceClaim.{ToleranceLaws, starts_from, tells}

-- an answer is written of each text
written_text : (answer : Result Table TableError) → kind_of (text_outcome answer) ≡ Answer
written_text (Ok table) = written_verdict (verdict_of table)
written_text (Err error) = refl

pub explained : (text : List ℕ) → kind_of (explain_answer text) ≡ Answer
explained text = written_text (answer_of text)

pub explain_late : (text : List ℕ) → 2 ≤ stage_of (kind_of (explain_answer text))
explain_late text = subst (λ k. 2 ≤ stage_of k) (sym (explained text)) (omega arith)

-- what was read is the text
pub text_agrees : (read : Vec ℕ Global) (text : List ℕ) → read.items ≡ text
    → Agrees IsText explain_answer IsExplanation read (explain_answer text) (λ written. written ≡ explanation text)
text_agrees read text same = record {
  answers = λ y is. ap explain_answer (sym is ∙ same);
  texts = λ y is written shown. shown ∙ ap explanation (sym same ∙ is);
}

-- what is done of a verdict is done of the table that has it
pub table_ends : {K : Type 0} (ghosts : SinkGhosts K) (table : Table) (verdict : TableVerdict) (old new : K) (o : Outcome) → verdict ≡ verdict_of table
    → Ends (one_source entire) (verdict_outcome verdict) (λ text. text ≡ verdict_explained verdict table) (sink_seen ghosts old) (sink_seen ghosts new) o
    → Ends (one_source entire) (verdict_outcome (verdict_of table)) (λ text. text ≡ table_explained table) (sink_seen ghosts old) (sink_seen ghosts new) o
table_ends ghosts table verdict old new o is ends =
    subst (λ (v : TableVerdict). Ends (one_source entire) (verdict_outcome v) (λ text. text ≡ verdict_explained v table) (sink_seen ghosts old) (sink_seen ghosts new) o)
    is ends

-- and of a refusing one
pub refused_ends : {K : Type 0} (ghosts : SinkGhosts K) (table : Table) (verdict : TableVerdict) (old new : K) (o : Outcome) → verdict ≡ verdict_of table
    → is_accepted verdict ≡ false
    → Ends (one_source entire) Answered (λ text. text ≡ refused_as verdict table) (sink_seen ghosts old) (sink_seen ghosts new) o
    → Ends (one_source entire) (verdict_outcome (verdict_of table)) (λ text. text ≡ table_explained table) (sink_seen ghosts old) (sink_seen ghosts new) o
refused_ends ghosts table (Accept mode least most) old new o is no' ends = absurd cc
refused_ends ghosts table (ShortCycle least ti) old new o is no' ends = table_ends ghosts table (ShortCycle least ti) old new o is ends
refused_ends ghosts table (SmallGap terminal gap needed) old new o is no' ends = table_ends ghosts table (SmallGap terminal gap needed) old new o is ends
refused_ends ghosts table (NoSync terminal gap needed) old new o is no' ends = table_ends ghosts table (NoSync terminal gap needed) old new o is ends

-- what is done of what a text gives is done of the text
pub answer_ends : {K : Type 0} (ghosts : SinkGhosts K) (text : List ℕ) (answer : Result Table TableError) (old new : K) (o : Outcome) → answer_of text ≡ answer
    → Ends (one_source entire) (text_outcome answer) (λ written. written ≡ answer_explained answer text) (sink_seen ghosts old) (sink_seen ghosts new) o
    → Ends (one_source entire) (explain_answer text) (λ written. written ≡ explanation text) (sink_seen ghosts old) (sink_seen ghosts new) o
answer_ends ghosts text answer old new o is ends =
    subst (λ (a : Result Table TableError). Ends (one_source entire) (text_outcome a) (λ written. written ≡ answer_explained a text) (sink_seen ghosts old) (sink_seen ghosts new) o)
    (sym is) ends

-- ---- its cause
verdict_cause : (IsEnd : EndIs) (verdict : TableVerdict) (first second : List ℕ) → RefusesTexts (Cause IsEnd) (verdict_outcome verdict) first second
verdict_cause IsEnd (Accept mode least most) first second = tt
verdict_cause IsEnd (ShortCycle least ti) first second = tt
verdict_cause IsEnd (SmallGap terminal gap needed) first second = tt
verdict_cause IsEnd (NoSync terminal gap needed) first second = tt

answer_cause : (IsEnd : EndIs) (answer : Result Table TableError) (first second : List ℕ) → RefusesTexts (Cause IsEnd) (text_outcome answer) first second
answer_cause IsEnd (Ok table) first second = verdict_cause IsEnd (verdict_of table) first second
answer_cause IsEnd (Err error) first second = tt

pub explain_cause : (IsEnd : EndIs) (first second : List ℕ) (o : Outcome) → outcome_with explain_answer (text_due 1 first) ≡ o → RefusesTexts (Cause IsEnd) o first second
explain_cause IsEnd first second o h =
    subst (λ o. RefusesTexts (Cause IsEnd) o first second) h
    (elim (nat_lt text_limit (length first)) as (λ b. RefusesTexts (Cause IsEnd) (outcome_with explain_answer (cond b (Err (TooLarge 1)) (Ok first))) first second) [
      | true ↦ tt
      | false ↦ answer_cause IsEnd (answer_of first) first second
    ])

-- only its size is refused
large_only : (b : Bool) (first : List ℕ) (o : Outcome) → cond b (Err (TooLarge 1)) (Ok first) ≡ Err o → is_answer (kind_of o) ≡ false
large_only true first o h = (let same : TooLarge 1 ≡ o = cc in ap (λ o. is_answer (kind_of o)) (sym same))
large_only false first o h = absurd cc

pub size_unwritten : (first : List ℕ) (o : Outcome) → text_due 1 first ≡ Err o → is_answer (kind_of o) ≡ false
size_unwritten first o h = large_only (nat_lt text_limit (length first)) first o h

-- ---- what is claimed of it
pub record ExplainLaws : Type 0 where
  pub works : AdvicesWork
  pub whole : NoneMissing
  pub started : NoStartMissing
  pub never : SomeNeverPart
  pub rise : SpareIsRise
  pub fall : SpareIsFall
  pub load : LoadIsOfLongestCycle
  pub gaps : GapsAreTold
  pub left : GapsAreLeft
  pub runs : AcceptedIsClosed
  pub early : ShortCyclesStartEarly
  pub stops : WhatMayStandGoesOn
  pub unfed : UnfedGivesNothing
  pub fed : EachLineIsFed
  pub gives : EachFeedGives
  pub drift : TurnsLaws
  pub margins : MarginsLaws
  pub offsets : MostBorneIsRight
  pub reach : ToleranceLaws

-- a sender starts behind the gap that is told of it
behind : ExplainLaws → (table : Table) (gap : Gap) → IsTrue (is_valid table) → table.mode ≡ Periodic → IsTrue (is_accepted (verdict_of table)) → In gap (gaps table)
    → StartsBehind table gap
behind laws table gap valid mode accepted i =
    let told = (laws.gaps table valid mode accepted).1 gap i in
    let lasts = told.lasts in record {
      told = told;
      left = λ hands k x y even first second number.
          let left = laws.left table hands k x y gap valid mode even first second i number in omega (arith, left, lasts);
    }

spare_in : ExplainLaws → (mode : Mode) (table : Table) (least most : ℕ) → table.mode ≡ mode → IsTrue (is_valid table) → IsAcceptedWith table least most
    → IsSpare mode table (spare table least)
spare_in laws Aperiodic table least most is valid accepted = laws.rise table least most is accepted
spare_in laws Periodic table least most is valid accepted = laws.fall table least most valid is accepted

-- with the interval of an advice to start the table is one of which order comes about
settles_with : ExplainLaws → (table : Table) (ti : ℕ) → StartWorks table ti → SettlesFromAnyStart (with_interval ti table)
settles_with laws table ti start =
    let both = and_parts (works (with_interval ti table)) (starts_itself (with_interval ti table)) start.helps in
    let valid = (and_parts (is_valid (with_interval ti table)) _ both.0).0 in
    starts_from laws.reach (with_interval ti table) valid (start.aperiodic, both.1)

pub drifting_range : AreBounds drifting
drifting_range = record { delay = omega arith; jitter = omega arith; clocks = omega arith }

pub tells_accepted : ExplainLaws → (table : Table) → IsTrue (is_valid table) → IsTrue (is_accepted (verdict_of table)) → ExplainsAccepted table
tells_accepted laws table valid accepted = record {
  runs = λ hands even. laws.runs table hands valid accepted even;
  spare = λ least most is. spare_in laws table.mode table least most refl valid is;
  load = λ least most is. laws.load table least most valid is;
  gaps = λ mode gap i. behind laws table gap valid mode accepted i;
  tolerance = tells laws.reach table valid accepted;
  offsets = λ mode d is. laws.offsets d table valid mode is;
  keeping = λ mode. tells_margins laws.margins drifting table drifting_range (record { valid = valid; mode = mode });
  drifting = λ mode. tells_turns laws.drift drifting table (record { range = drifting_range; valid = valid; mode = mode });
  collides = λ mode never. laws.never table valid mode never;
  work = λ advice is. laws.works table advice valid is;
  settles = λ ti is. settles_with laws table ti (laws.works table (Start ti) valid is);
  whole = laws.started table valid accepted;
}

pub tells_refused : ExplainLaws → (table : Table) → IsTrue (is_valid table) → is_accepted (verdict_of table) ≡ false → AdvisesRefused table
tells_refused laws table valid refused = record {
  early = λ mode. laws.early table valid mode refused;
  work = λ advice is. laws.works table advice valid is;
  whole = laws.whole table valid refused;
}

pub tells_takes : ExplainLaws → (table : Table) → TellsTakes table
tells_takes laws table = record {
  nothing = λ list number take fit unfed. laws.unfed table list number take fit unfed;
  words = λ list taker line fit i. laws.fed table list taker line fit i;
  gives = laws.gives;
}

pub explain_claim : ExplainLaws → (call : Call) (outcome : Outcome) (text : List ℕ) → Acts call outcome → IsOfText (codes "explain") text call
    → Answers call (status_of outcome) (yes_or_no (is_accepting (answer_of text))) (Is (TheExplanation text)) × ExplainsText text
explain_claim laws call outcome text acts h = (
  with_status call (status_of outcome) _ _ (Is (TheExplanation text)) (text_status (answer_of text))
      (claimed ends_of explain_answer IsExplanation (one_source entire) (λ first. refusal_in (text_due 1 first)) (λ a b. text_due 1 a)
      text [] text (IsTextOf (Is (TheExplanation text))) call outcome (at_one entire call.before.sources text h.told)
      (short_text {R = ToolRefusal} text_limit 1 text h.short) (explained text)
      (λ written is. is_text (TheExplanation text) (explanation text) written tt refl is)
      (does_of tool_program call outcome Explain (of_plain (codes "explain") h.form.path [] call.words h.form.form h.form.plain) acts) h.undisturbed),
  record {
    accepted = λ table valid accepted. tells_accepted laws table valid accepted;
    refused = λ table valid refused. tells_refused laws table valid refused;
    takes = λ table valid. tells_takes laws table;
    unread = λ refusal is. laws.stops text refusal is;
  },
)
