-- A call of its form.
use Rattle.std.specs.Prelude.{◌≡◌, ℕ, List, Some, IfSome, IfNone, IsNone}
use Rattle.std.proofs.Common.{sym, subst}
use Rattle.bus_command.specs.declared.outcome.Outcome.{Outcome}
use Rattle.bus_command.specs.declared.outcome.Outcome.TheVariants.{Own, ReadFault, WriteFault, NoMemory}
use Rattle.bus_command.specs.declared.refusal.Place.TheVariants.{First, Second, Both}
use Rattle.bus_command.specs.Acts.{Program, DoesForm, HasCause, HasRoom, Acts}
use Rattle.bus_command.specs.Causes.{RefusesTexts}
use Rattle.bus_command.specs.Outside.{Call, Outside}
use Rattle.bus_command.specs.Readers.{known}
use Rattle.bus_command.specs.Stages.{MayReplace}
use Rattle.bus_command.proofs.PrepareLaws.{both_map}

some_is : {Form : Type 0} (form : Form) → IsNone (Some form) → ⊥
some_is form h = cc

-- each outcome that is due has its cause
abbrev pub DueHasCause : {R Form : Type 0} → Program R Form → Type 0
DueHasCause {R} {Form} program = (form : Form) (first second : List ℕ) (outcome : Outcome R) → (program.command form).due first second ≡ outcome
    → RefusesTexts (program.command form).Cause outcome first second

-- and so has one that stands for it
stands_cause : {R Form : Type 0} (program : Program R Form) → DueHasCause program → (form : Form) (first second : List ℕ) (o : Outcome R)
    → MayReplace ((program.command form).due first second) o → RefusesTexts (program.command form).Cause o first second
stands_cause program laws form first second (ReadFault source) h = tt
stands_cause program laws form first second WriteFault h = tt
stands_cause program laws form first second NoMemory h = tt
stands_cause program laws form first second (Own First why) h = laws form first second (Own First why) h
stands_cause program laws form first second (Own Second why) h = laws form first second (Own Second why) h
stands_cause program laws form first second (Own Both why) h = laws form first second (Own Both why) h
stands_cause program laws form first second o h = laws form first second o h

pub does_cause : {R Form : Type 0} (program : Program R Form) → DueHasCause program → (form : Form) (before after : Outside) (o : Outcome R)
    → DoesForm program form before after o → HasCause program form before o
does_cause program laws form before after o does =
    both_map (known (program.command form).named.first before.sources.first) (known (program.command form).named.second before.sources.second)
    (λ first second. MayReplace ((program.command form).due first second) o) (RefusesTexts (program.command form).Cause o)
    (λ first second h. stands_cause program laws form first second o h) does.due

pub acts_form : {R Form : Type 0} (program : Program R Form) → DueHasCause program → (call : Call) (outcome : Outcome R) (form : Form)
    → Some form ≡ program.form_of call.words → DoesForm program form call.before call.after outcome
    → HasRoom program form outcome → Acts program call outcome
acts_form program laws call outcome form is does room = record {
  usage = (λ e. absurd (does.form e), λ none. absurd (some_is form (subst IsNone (sym is) none)));
  nothing = subst (λ f. IfNone f (call.after ≡ call.before)) is tt;
  does = subst (λ f. IfSome f (λ form. DoesForm program form call.before call.after outcome)) is does;
  caused = subst (λ f. IfSome f (λ form. HasCause program form call.before outcome)) is (does_cause program laws form call.before call.after outcome does);
  room = subst (λ f. IfSome f (λ form. HasRoom program form outcome)) is room;
}
