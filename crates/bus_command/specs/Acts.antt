-- What a call does to the outside: which outcome it comes to, and what its sources and sinks then hold.
use Rattle.std.specs.Prelude.{◌≡◌, ◌≢◌, ◌↔◌, ℕ, Bool, true, false, List, [], Option, IfSome, IfNone, IsNone, IsSome}
use Rattle.std.specs.Prelude.{Result, Ok, Err, String}
use Rattle.std.specs.declared.alloc.Global.{Global}
use Rattle.bus_outer.specs.Sinks.{Written, WritesText}
use Rattle.bus_outer.specs.declared.sink.Sink.{Ghosts as SinkGhosts}
use Rattle.bus_outer.specs.declared.sink.WriteFault.{WriteFault as Fault}
use Rattle.bus_outer.specs.declared.source.Source.{Ghosts as SourceGhosts}
use Rattle.bus_command.specs.declared.outcome.Outcome.{Outcome}
use Rattle.bus_command.specs.declared.outcome.Outcome.TheVariants.{NoMemory, Usage, WriteFault}
use Rattle.bus_command.specs.declared.status.Status.{Status}
use Rattle.bus_command.specs.Causes.{RefusesTexts}
use Rattle.bus_command.specs.Commands.{Command}
use Rattle.bus_command.specs.Kinds.{Kind, Point, AtWords, AtSource, BehindBoth, Anywhere, Held, Kept, Begun, Whole, kind_of, row_of}
use Rattle.bus_command.specs.Outcomes.{status_of, fault_line}
use Rattle.bus_command.specs.Stages.{MayReplace}
use Rattle.bus_command.specs.Outside.{Seen, Outside, Call, call}
use Rattle.bus_command.specs.Readers.{Named, known, ForTexts, Reads, reach, SourceCounts, OutCounts}
use Rattle.bus_command.specs.Steps.{IsRefused}

-- All of a text is written.
abbrev pub Holds : (List ℕ → Type 0) → Option (List ℕ) → Option (List ℕ) → Type 0
Holds IsTheText old new = (text : List ℕ) × IsTheText text × Written old new [] text

-- A beginning of a text is written.
abbrev pub Begins : (List ℕ → Type 0) → Option (List ℕ) → Option (List ℕ) → Type 0
Begins IsTheText old new = (text : List ℕ) × IsTheText text × (rest : List ℕ) × Written old new rest text

-- What `out` holds of a text.
abbrev pub LeavesHeld : Held → (List ℕ → Type 0) → Option (List ℕ) → Option (List ℕ) → Type 0
LeavesHeld Kept IsTheText old new = new ≡ old
LeavesHeld Begun IsTheText old new = Begins IsTheText old new
LeavesHeld Whole IsTheText old new = Holds IsTheText old new

-- All of a text where the answer is written, a beginning of one after a failed write, else what it held.
abbrev pub Leaves : Kind → (List ℕ → Type 0) → Option (List ℕ) → Option (List ℕ) → Type 0
Leaves kind IsTheText old new = LeavesHeld (row_of kind).out IsTheText old new

-- What a command comes to whose answer was written so.
abbrev pub written : {R : Type 0} → Result (Unit {0}) Fault → Outcome R → Outcome R
written (Ok u) reply = reply
written (Err fault) reply = WriteFault

-- ---- behind the texts
-- A point at which a command may stop that has taken its texts: at the second one, by a rule of the command's own, or behind them.
abbrev pub IsPointBehind : Named → Point → Type 0
IsPointBehind named AtWords = ⊥
IsPointBehind named (AtSource source) = (source ≡ 2) × IsSome named.second
IsPointBehind named BehindBoth = Unit {0}
IsPointBehind named Anywhere = Unit {0}

-- The same, where it may at all.
abbrev pub IsBehindIf : Bool → Named → Point → Type 0
IsBehindIf false named point = ⊥
IsBehindIf true named point = IsPointBehind named point

-- A kind to which it may come.
abbrev pub IsBehind : Named → Kind → Type 0
IsBehind named kind = IsBehindIf (row_of kind).behind named (row_of kind).point

-- What a command did that has taken what it needs of its sources, where this outcome is due of it:
--   stands   it came to that outcome, or to one in its place
--   text     what `out` then holds
--   count    the count of `out` rose exactly where it couldn't be written
--   behind   nothing that was taken is refused any more, unless by a rule of the command's own for the second text
pub record Ends {R : Type 0} (named : Named) (due : Outcome R) (IsText : List ℕ → Type 0) (old new : Seen) (outcome : Outcome R)
    : Type 0 where
  pub stands : MayReplace due outcome
  pub text : Leaves (kind_of outcome) IsText old.bytes new.bytes
  pub count : OutCounts old new (kind_of outcome)
  pub behind : IsBehind named (kind_of outcome)

-- ---- the whole command
-- What a command did that names these sources:
--   due             the outcome that is due of the texts that they tell, or one in its place; where one tells nothing, of some text
--   text            what `out` then holds: the command's text of these, or a beginning of it
--   first, second   how far each source was read; one that isn't named wasn't pulled
--   order           where the first text is refused, so is the command, and the second source wasn't pulled
--   counts          a count of faults of a source rose exactly where this couldn't be read
--   out_count       that of `out`, exactly where it couldn't be written
--   form            the words are a form
pub record Does {R : Type 0} (named : Named) (refusing : List ℕ → Option (Outcome R)) (due_of : List ℕ → List ℕ → Outcome R)
    (IsTextOfBoth : List ℕ → List ℕ → List ℕ → Type 0) (before after : Outside) (outcome : Outcome R) : Type 0 where
  pub due : ForTexts named before.sources (λ first second. MayReplace (due_of first second) outcome)
  pub text : Leaves (kind_of outcome) (λ text. ForTexts named before.sources (λ first second. IsTextOfBoth first second text))
      before.out.bytes after.out.bytes
  pub first : Reads named.first (reach 1 (kind_of outcome)) before.sources.first after.sources.first
  pub second : Reads named.second (reach 2 (kind_of outcome)) before.sources.second after.sources.second
  pub order : IfSome (known named.first before.sources.first)
      (λ text. IfSome (refusing text) (λ refusal. IsRefused refusal outcome before.sources after.sources))
  pub counts : SourceCounts named before.sources after.sources (kind_of outcome)
  pub out_count : OutCounts before.out after.out (kind_of outcome)
  pub form : outcome ≢ Usage

-- What a program is that has forms of its own, and refuses of its own what `R` says:
--   form_of   the form of these words
--   command   the command of a form
--   ends      how the program ends with such a refusal
--   line      its line on `err`
pub record Program (R Form : Type 0) : Type 1 where
  pub form_of : List (List ℕ) → Option Form
  pub command : Form → Command R
  pub ends : R → Status
  pub line : R → List ℕ

-- What the command of a form did.
abbrev pub DoesForm : {R Form : Type 0} → Program R Form → Form → Outside → Outside → Outcome R → Type 0
DoesForm program form before after outcome =
    Does (program.command form).named (program.command form).refusing (program.command form).due (program.command form).IsText before after
    outcome

-- An outcome that refuses a text has its cause in the texts that the sources tell; where one tells nothing, in some text.
abbrev pub HasCause : {R Form : Type 0} → Program R Form → Form → Outside → Outcome R → Type 0
HasCause program form before outcome =
    ForTexts (program.command form).named before.sources (RefusesTexts (program.command form).Cause outcome)

-- A form that takes no memory doesn't come to want of it.
abbrev pub HasRoom : {R Form : Type 0} → Program R Form → Form → Outcome R → Type 0
HasRoom program form outcome = (program.command form).memory ≡ false → outcome ≢ NoMemory

-- What a call of a program did:
--   usage     Usage comes exactly where the words are no form
--   nothing   and then nothing outside is touched
--   does      else it did what the form asks for
--   caused    an outcome that refuses a text has its cause
--   room      it came to want of memory only where the form may
pub record Acts {R Form : Type 0} (program : Program R Form) (call : Call) (outcome : Outcome R) : Type 0 where
  pub usage : (outcome ≡ Usage) ↔ IsNone (program.form_of call.words)
  pub nothing : IfNone (program.form_of call.words) (call.after ≡ call.before)
  pub does : IfSome (program.form_of call.words) (λ form. DoesForm program form call.before call.after outcome)
  pub caused : IfSome (program.form_of call.words) (λ form. HasCause program form call.before outcome)
  pub room : IfSome (program.form_of call.words) (λ form. HasRoom program form outcome)

-- What `err` holds: this line, or a beginning of it where the count of `err` rose.
abbrev pub TellsLine : {K : Type 0} → (K → Option (List ℕ)) → (K → ℕ) → K → K → List ℕ → Type 0
TellsLine held faults old new line = (answer : Result (Unit {0}) Fault) × WritesText held faults old new answer line

-- What a call came to: an outcome that it acts by, the line of that outcome on `err`, and its status.
abbrev pub Comes : {R Form E : Type 0} → Program R Form → SinkGhosts E → Call → E → E → Status → Type 0
Comes {R} program err call old new status =
    (outcome : Outcome R) × Acts program call outcome
    × TellsLine err.held err.faults old new (fault_line program.ends program.line outcome) × (status ≡ status_of program.ends outcome)

-- What the call of these words came to, between two sources, a sink and the sink of its line before and after.
abbrev pub ComesOf :
    {R Form S K E : Type 0} → Program R Form → SourceGhosts S → SinkGhosts K → SinkGhosts E → List (String Global)
    → S → S → K → E → S → S → K → E → Status → Type 0
ComesOf program source sink err words first second out told later_first later_second later_out later_told status =
    Comes program err (call source sink words first second out later_first later_second later_out) told later_told status
