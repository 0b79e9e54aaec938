-- What is due of a text whose facts are told, and what is claimed of them.
use Rattle.std.specs.Prelude.{◌≡◌, ℕ, Bool, List, Result, Ok, Err, Vec, [], codes}
use Rattle.std.specs.declared.alloc.Global.{Global}
use Rattle.std.proofs.Common.{cond, refl, sym, ap, ◌∙◌}
use Rattle.bus_table.specs.declared.error.TableError.{TableError}
use Rattle.bus_table.specs.Reading.{answer_of}
use Rattle.bus_table.specs.Tables.{Table}
use Rattle.bus_regime.specs.Verdicts.{verdict_of, is_accepted}
use Rattle.bus_regime.specs.declared.table_verdict.TableVerdict.{TableVerdict}
use Rattle.bus_regime.specs.declared.table_verdict.TableVerdict.TheVariants.{Accept, ShortCycle, SmallGap, NoSync}
use Rattle.bus_reach.specs.LatencyLaws.{AperiodicAreInTime, PeriodicAreInTime}
use Rattle.bus_reach.specs.Limits.{LimitsTellBearing}
use Rattle.bus_facts.specs.Facts.{facts_text, is_accepting}
use Rattle.bus_margins_periodic.specs.Sentences.{drifting}
use Rattle.bus_command.specs.declared.outcome.Outcome.TheVariants.{Answered, Done}
use Rattle.bus_command.specs.Due.{text_due}
use Rattle.bus_command.specs.Outside.{Call}
use Rattle.bus_command.specs.Readers.{entire, one_source, text_limit}
use Rattle.bus_command.specs.Stages.{refusal_in}
use Rattle.bus_command.specs.Steps.{IsText}
use Rattle.bus_command.proofs.ClaimLemmas.{claimed, does_of, at_one}
use Rattle.bus_command.proofs.DoLaws.{Agrees}
use Rattle.bus_command.proofs.TextLemmas.{short_text}
use Rattle.bus_tool.specs.Acts.{tool_program, Acts}
use Rattle.bus_tool.specs.Due.{text_outcome, verdict_outcome, explain_answer}
use Rattle.bus_tool.specs.Answering.{Answers, IsTextOf}
use Rattle.bus_tool.specs.Asking.{IsOfText}
use Rattle.bus_tool.specs.FactsClaims.{TellsFacts}
use Rattle.bus_tool.specs.Forms.{Facts}
use Rattle.bus_tool.proofs.FormLemmas.{of_plain}
use Rattle.bus_tool.specs.Refusals.{Outcome, ToolRefusal, ends_of, status_of}
use Rattle.bus_tool.specs.Replies.{Is, TheFacts, yes_or_no}
use Rattle.bus_tool.specs.Texts.{AreFacts}
use Rattle.bus_tool.proofs.ExplainLemmas.{ExplainLaws, drifting_range, explained, tells_accepted, tells_refused, tells_takes}
use Rattle.bus_tool.proofs.MarginsClaim.{tells_margins}
use Rattle.bus_tool.proofs.ReplyLemmas.{is_text, text_status, with_status}

verdict_is : (verdict : TableVerdict) → cond (is_accepted verdict) Done Answered ≡ verdict_outcome verdict
verdict_is (Accept mode least most) = refl
verdict_is (ShortCycle least ti) = refl
verdict_is (SmallGap terminal gap needed) = refl
verdict_is (NoSync terminal gap needed) = refl

answer_is : (answer : Result Table TableError) → cond (is_accepting answer) Done Answered ≡ text_outcome answer
answer_is (Ok table) = verdict_is (verdict_of table)
answer_is (Err error) = refl

-- the outcome by whether a table is accepted
pub outcome_is : (answer : Result Table TableError) (accepted : Bool) → accepted ≡ is_accepting answer → cond accepted Done Answered ≡ text_outcome answer
outcome_is answer accepted is = ap (λ b. cond b Done Answered) is ∙ answer_is answer

-- what was read is the text
pub facts_agree : (read : Vec ℕ Global) (text : List ℕ) → read.items ≡ text
    → Agrees IsText explain_answer AreFacts read (explain_answer text) (λ written. written ≡ facts_text text)
facts_agree read text same = record {
  answers = λ y is. ap explain_answer (sym is ∙ same);
  texts = λ y is written shown. shown ∙ ap facts_text (sym same ∙ is);
}

-- the laws of the numbers that `explain` doesn't tell
pub record FactsLaws : Type 0 where
  pub limits : LimitsTellBearing
  pub in_time : AperiodicAreInTime
  pub periodic_in_time : PeriodicAreInTime

tells : ExplainLaws → FactsLaws → (text : List ℕ) → TellsFacts text
tells laws facts text = record {
  accepted = λ table valid accepted. tells_accepted laws table valid accepted;
  rules = λ table d valid accepted. facts.limits table d valid accepted;
  in_time = facts.in_time;
  periodic_in_time = facts.periodic_in_time;
  drifting = λ table valid accepted mode. tells_margins laws.margins drifting table drifting_range (record { valid = valid; mode = mode });
  refused = λ table valid refused. tells_refused laws table valid refused;
  takes = λ table valid. tells_takes laws table;
  unread = λ refusal is. laws.stops text refusal is;
}

pub facts_claim : ExplainLaws → FactsLaws → (call : Call) (outcome : Outcome) (text : List ℕ) → Acts call outcome → IsOfText (codes "facts") text call
    → Answers call (status_of outcome) (yes_or_no (is_accepting (answer_of text))) (Is (TheFacts text)) × TellsFacts text
facts_claim laws facts call outcome text acts h = (
  with_status call (status_of outcome) _ _ (Is (TheFacts text)) (text_status (answer_of text))
      (claimed ends_of explain_answer AreFacts (one_source entire) (λ first. refusal_in (text_due 1 first)) (λ a b. text_due 1 a)
      text [] text (IsTextOf (Is (TheFacts text))) call outcome (at_one entire call.before.sources text h.told)
      (short_text {R = ToolRefusal} text_limit 1 text h.short) (explained text) (λ written is. is_text (TheFacts text) (facts_text text) written tt refl is)
      (does_of tool_program call outcome Facts (of_plain (codes "facts") h.form.path [] call.words h.form.form h.form.plain) acts) h.undisturbed),
  tells laws facts text,
)
