-- What is due of a table and a trace, and its cause where it refuses them.
use Rattle.std.specs.Prelude.{◌≡◌, ℕ, ◌≤◌, Bool, false, List, Option, Some, None, Result, Ok, Err}
use Rattle.std.proofs.Common.{arith, refl, sym, ap, subst, inl, inr}
use Rattle.bus_dump.specs.Doubled.{doubled}
use Rattle.bus_view.proofs.PageLaws.{page_cause}
use Rattle.bus_command.specs.Causes.{RefusesTexts}
use Rattle.bus_command.specs.Due.{recorded_due, outcome_with}
use Rattle.bus_command.specs.Kinds.{kind_of, stage_of}
use Rattle.bus_command.specs.Steps.{Same}
use Rattle.bus_command.specs.declared.recorded.Recorded.{Recorded}
use Rattle.bus_command.proofs.ActLaws.{DueHasCause}
use Rattle.bus_command.proofs.DoLaws.{Agrees}
use Rattle.bus_command.proofs.ReadLemmas.{CauseLaws, table_cause, table_valid, trace_cause, read_trace}
use Rattle.bus_command.proofs.FollowedLemmas.{recorded_read, recorded_stop}
use Rattle.bus_view.specs.Acts.{view_program}
use Rattle.bus_view.specs.Commands.{Cause}
use Rattle.bus_view.specs.Due.{single_outcome, view_answer, recorded_answer, IsOfView, IsView}
use Rattle.bus_view.specs.Forms.{OnTrace, OnItself, Page, View, Dump, SaveFile, Painted, Judged, hears}
use Rattle.bus_view.specs.Refusals.{Doubled, Outcome}

single_late : (entry : Option ℕ) → 2 ≤ stage_of (kind_of (single_outcome entry))
single_late None = omega arith
single_late (Some entry) = omega arith

pub recorded_late : (view : View) (recorded : Recorded) → 2 ≤ stage_of (kind_of (recorded_answer view recorded))
recorded_late (Dump dump window) recorded = single_late (doubled recorded.trace.list)
recorded_late (SaveFile window) recorded = omega arith
recorded_late (Painted picture window) recorded = omega arith
recorded_late (Judged picture bounds window) recorded = omega arith

pub recorded_agree : (view : View) (recorded : Recorded)
    → Agrees Same (recorded_answer view) (IsView view) recorded (view_answer view recorded.table recorded.trace)
    (IsOfView view recorded.table recorded.trace recorded.garbled)
recorded_agree view recorded = record {
  answers = λ y same. ap (recorded_answer view) (sym same);
  texts = λ y same text is. subst (λ (r : Recorded). IsOfView view r.table r.trace r.garbled text) same is;
}

-- ---- causes
single_cause : CauseLaws → (hears : Bool) (first second : List ℕ) (recorded : Recorded) (entry : Option ℕ)
    → recorded_due {R = Doubled} hears first second ≡ Ok recorded
    → doubled recorded.trace.list ≡ entry → RefusesTexts Cause (single_outcome entry) first second
single_cause laws hears first second recorded None h e = tt
single_cause laws hears first second recorded (Some entry) h e =
    let read = recorded_read {R = Doubled} hears first second recorded h in
    record {
      table = recorded.table;
      trace = recorded.trace;
      table_is = table_valid {R = Doubled} laws first recorded.table read.table_is;
      trace_stands = read_trace {R = Doubled} laws.trace_only second recorded.trace read.trace_is;
      why = e;
    }

answer_cause : CauseLaws → (view : View) (first second : List ℕ) (recorded : Recorded)
    → recorded_due {R = Doubled} (hears view) first second ≡ Ok recorded → RefusesTexts Cause (recorded_answer view recorded) first second
answer_cause laws (Dump dump window) first second recorded h = single_cause laws false first second recorded (doubled recorded.trace.list) h refl
answer_cause laws (SaveFile window) first second recorded h = tt
answer_cause laws (Painted picture window) first second recorded h = tt
answer_cause laws (Judged picture bounds window) first second recorded h = tt

taken_cause : CauseLaws → (hears : Bool) (first second : List ℕ) (o : Outcome) → recorded_due hears first second ≡ Err o
    → RefusesTexts Cause o first second
taken_cause laws hears first second o h = elim (recorded_stop {R = Doubled} hears first second o h) [
  | inl e ↦ table_cause laws Cause first second o e
  | inr e ↦ trace_cause laws Cause first second o e
]

due_cause : CauseLaws → (view : View) (first second : List ℕ) (o : Outcome) (due : Result Recorded Outcome)
    → recorded_due (hears view) first second ≡ due → outcome_with (recorded_answer view) due ≡ o → RefusesTexts Cause o first second
due_cause laws view first second o (Ok recorded) e h =
    subst (λ o. RefusesTexts Cause o first second) h (answer_cause laws view first second recorded e)
due_cause laws view first second o (Err r) e h =
    subst (λ o. RefusesTexts Cause o first second) h (taken_cause laws (hears view) first second r e)

pub due_has_cause : CauseLaws → DueHasCause view_program
due_has_cause laws (OnTrace view) first second o h = due_cause laws view first second o (recorded_due (hears view) first second) refl h
due_has_cause laws (OnItself about) first second o h = subst (λ o. RefusesTexts Cause o first second) h tt
due_has_cause laws (Page asked) first second o h = page_cause first second o h
