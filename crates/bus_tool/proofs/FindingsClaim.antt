-- What is claimed of what is found in a recording.
use Rattle.std.specs.Prelude.{◌≡◌, not, false, ◌∷◌, codes, Some, None}
use Rattle.std.proofs.Common.{ap, ◌∙◌, cond, refl, subst, sym}
use Rattle.bus_bounds.specs.Bounds.{Bounds}
use Rattle.bus_table.specs.Tables.{Table}
use Rattle.bus_trace.specs.Traces.{Recording, IsTrace}
use Rattle.bus_findings.specs.Laws.{KeepersAreUnblamed, AmountsAreTold, FilesAreUnblamed, CourseFilesAreUnblamed, GoodFileHasNoFault, CourseFileHasNoFault}
use Rattle.bus_findings.specs.Meanings.{FileAmountsAreMeant, FileGapIsMeant}
use Rattle.bus_findings.specs.Terminals.{has_fault}
use Rattle.bus_recording_lawful.specs.Faultless.{LawfulHasNoFault}
use Rattle.bus_command.specs.Outside.{Call}
use Rattle.bus_tool.specs.Acts.{Acts}
use Rattle.bus_tool.specs.Answering.{Answers}
use Rattle.bus_tool.specs.Asking.{IsDiagnoseOf}
use Rattle.bus_tool.specs.FindingsClaims.{AreTrue, TellsFindings}
use Rattle.bus_tool.specs.Forms.{OnTrace, Diagnose, diagnose_by, form_of, near_bounds_of}
use Rattle.bus_tool.proofs.FormLemmas.{front_three, with_options}
use Rattle.bus_tool.specs.Refusals.{Outcome, status_of}
use Rattle.bus_tool.specs.Replies.{Is, TheFindings, yes_or_no}
use Rattle.bus_tool.proofs.AnswerLaws.{written_findings}
use Rattle.bus_tool.proofs.GroupClaims.{ReadLaws, trace_answers}
use Rattle.bus_tool.proofs.ReplyLemmas.{findings_status, replies, with_status}

-- the laws by which it holds
pub record FindingsLaws : Type 0 where
  pub unblamed : KeepersAreUnblamed
  pub files : FilesAreUnblamed
  pub courses : CourseFilesAreUnblamed
  pub keepers : GoodFileHasNoFault
  pub senders : CourseFileHasNoFault
  pub lawful : LawfulHasNoFault
  pub amounts : AmountsAreTold
  pub meaning : AreTrue
  pub ticks : FileAmountsAreMeant
  pub gap : FileGapIsMeant

-- ---- the words
diagnose_form : (bounds : Bounds) (table : Table) (trace : Recording) (call : Call) → IsDiagnoseOf bounds table trace call
    → form_of call.words ≡ Some (OnTrace (Diagnose bounds))
diagnose_form bounds table trace call h =
    let form = h.traced.form in
    with_options (codes "diagnose") form.first (form.second ∷ h.behind) call.words (record { plain = 3; options = h.options }) form.form h.given.line
    ∙ front_three (codes "diagnose") form.first form.second h.behind h.options
    ∙ ap (λ b. cond b (diagnose_by (near_bounds_of h.options)) None) h.given.taken ∙ ap diagnose_by h.asked

-- ---- the claim
tells : FindingsLaws → (call : Call) (bounds : Bounds) (table : Table) (trace : Recording) → IsDiagnoseOf bounds table trace call
    → TellsFindings bounds table trace
tells laws call bounds table trace h =
    let is_trace : IsTrace trace = h.traced.trace_told.stands.text.trace in
    record {
      unblamed = λ sender x keeps of. laws.unblamed bounds table trace sender x is_trace keeps of;
      files = λ sender x keeps of. laws.files bounds table trace sender x is_trace keeps of;
      courses = λ sender x sends of. laws.courses bounds table trace sender x is_trace sends of;
      keepers = laws.keepers bounds table trace is_trace;
      senders = laws.senders bounds table trace is_trace;
      lawful = λ collided exact answer.
          subst (λ (b : Bounds). has_fault b table trace ≡ false) (sym exact)
          (laws.lawful table trace h.traced.table_told.valid is_trace answer.0);
      amounts = λ sender x o of last. laws.amounts bounds table trace sender x o of last;
      meaning = laws.meaning;
      ticks = λ sender s x o. laws.ticks bounds table trace sender s x o is_trace;
      gap = λ sender s x. laws.gap bounds table trace sender s x is_trace;
    }

pub findings_claim : ReadLaws → FindingsLaws → (call : Call) (outcome : Outcome) (bounds : Bounds) (table : Table) (trace : Recording) → Acts call outcome
    → IsDiagnoseOf bounds table trace call
    → Answers call (status_of outcome) (yes_or_no (not (has_fault bounds table trace))) (Is (TheFindings bounds table trace))
    × TellsFindings bounds table trace
findings_claim texts laws call outcome bounds table trace acts h = (
  with_status call (status_of outcome) _ _ (Is (TheFindings bounds table trace)) (findings_status (has_fault bounds table trace))
      (replies call (status_of outcome) _ (TheFindings bounds table trace) _ tt refl
      (trace_answers texts (Diagnose bounds) (codes "diagnose") h.behind call outcome table trace
      (diagnose_form bounds table trace call h) (written_findings (has_fault bounds table trace)) acts h.traced)),
  tells laws call bounds table trace h,
)
