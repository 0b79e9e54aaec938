-- What is due of a text whose page is written, and that nothing of it is refused but its size.
use Rattle.std.specs.Prelude.{◌≡◌, ℕ, ◌≤◌, Bool, true, false, nat_lt, List, length, Result, Ok, Err, Vec, Option}
use Rattle.std.specs.declared.alloc.Global.{Global}
use Rattle.std.proofs.Common.{arith, cond, refl, sym, ap, ◌∙◌, subst}
use Rattle.bus_bounds.specs.Bounds.{Bounds}
use Rattle.bus_table.specs.declared.error.TableError.{TableError}
use Rattle.bus_table.specs.Reading.{answer_of}
use Rattle.bus_table.specs.Tables.{Table}
use Rattle.bus_regime.specs.Verdicts.{is_accepted, verdict_of}
use Rattle.bus_outer.specs.declared.sink.Sink.{Ghosts as SinkGhosts}
use Rattle.bus_command.specs.declared.outcome.Outcome.TheVariants.{TooLarge}
use Rattle.bus_command.specs.Acts.{Ends}
use Rattle.bus_command.specs.Causes.{RefusesTexts}
use Rattle.bus_command.specs.Due.{outcome_with, text_due}
use Rattle.bus_command.specs.Kinds.{Answer, kind_of, stage_of}
use Rattle.bus_command.specs.Outside.{sink_seen}
use Rattle.bus_command.specs.Readers.{entire, one_source, text_limit}
use Rattle.bus_command.specs.Steps.{IsText}
use Rattle.bus_command.proofs.DoLaws.{Agrees}
use Rattle.bus_page.specs.Pages.{answer_page}
use Rattle.bus_view.specs.Commands.{Cause}
use Rattle.bus_view.specs.Due.{IsPage, accepted_outcome, page, page_answer, text_outcome}
use Rattle.bus_view.specs.Itself.{version_text}
use Rattle.bus_view.specs.Refusals.{Outcome}

-- an answer is written of each text
pub accepted_answers : (accepted : Bool) → kind_of (accepted_outcome accepted) ≡ Answer
accepted_answers true = refl
accepted_answers false = refl

pub accepted_late : (accepted : Bool) → 2 ≤ stage_of (kind_of (accepted_outcome accepted))
accepted_late accepted = subst (λ k. 2 ≤ stage_of k) (sym (accepted_answers accepted)) (omega arith)

text_answers : (answer : Result Table TableError) → kind_of (text_outcome answer) ≡ Answer
text_answers (Ok table) = accepted_answers (is_accepted (verdict_of table))
text_answers (Err error) = refl

pub page_answers : (text : List ℕ) → kind_of (page_answer text) ≡ Answer
page_answers text = text_answers (answer_of text)

pub page_late : (text : List ℕ) → 2 ≤ stage_of (kind_of (page_answer text))
page_late text = subst (λ k. 2 ≤ stage_of k) (sym (page_answers text)) (omega arith)

-- what was read is the text
pub page_agrees : (asked : Option Bounds) (read : Vec ℕ Global) (text : List ℕ) → read.items ≡ text
    → Agrees IsText page_answer (IsPage asked) read (page_answer text) (λ written. written ≡ page asked text)
page_agrees asked read text same = record {
  answers = λ y is. ap page_answer (sym is ∙ same);
  texts = λ y is written shown. shown ∙ ap (page asked) (sym same ∙ is);
}

-- what is done of what a text gives is done of the text
pub answer_ends : {K : Type 0} (ghosts : SinkGhosts K) (asked : Option Bounds) (text : List ℕ) (answer : Result Table TableError) (old new : K) (o : Outcome)
    → answer_of text ≡ answer
    → Ends (one_source entire) (text_outcome answer) (λ written. written ≡ answer_page version_text text asked answer) (sink_seen ghosts old) (sink_seen ghosts new) o
    → Ends (one_source entire) (page_answer text) (λ written. written ≡ page asked text) (sink_seen ghosts old) (sink_seen ghosts new) o
answer_ends ghosts asked text answer old new o is ends =
    subst (λ (a : Result Table TableError). Ends (one_source entire) (text_outcome a) (λ written. written ≡ answer_page version_text text asked a) (sink_seen ghosts old) (sink_seen ghosts new) o)
    (sym is) ends

-- ---- its cause
accepted_cause : (accepted : Bool) (first second : List ℕ) → RefusesTexts Cause (accepted_outcome accepted) first second
accepted_cause true first second = tt
accepted_cause false first second = tt

answer_cause : (answer : Result Table TableError) (first second : List ℕ) → RefusesTexts Cause (text_outcome answer) first second
answer_cause (Ok table) first second = accepted_cause (is_accepted (verdict_of table)) first second
answer_cause (Err error) first second = tt

pub page_cause : (first second : List ℕ) (o : Outcome) → outcome_with page_answer (text_due 1 first) ≡ o → RefusesTexts Cause o first second
page_cause first second o h =
    subst (λ o. RefusesTexts Cause o first second) h
    (elim (nat_lt text_limit (length first)) as (λ b. RefusesTexts Cause (outcome_with page_answer (cond b (Err (TooLarge 1)) (Ok first))) first second) [
      | true ↦ tt
      | false ↦ answer_cause (answer_of first) first second
    ])
