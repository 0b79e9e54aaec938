-- How the program ends with an outcome, and the line that says why.
use Rattle.std.specs.Prelude.{ℕ, Bool, List, [], ◌∷◌, ◌++◌, codes, Option, Some, None, if◌then◌else◌}
use Rattle.std.specs.Fmt.{decimal}
use Rattle.bus_text.specs.Reasons.{reason_word}
use Rattle.bus_table.specs.Reasons.{fit_words, whole_words}
use Rattle.bus_trace.specs.Reasons.{trace_reason_word}
use Rattle.bus_command.specs.declared.status.Status.{Status}
use Rattle.bus_command.specs.declared.status.Status.TheVariants as status
use Rattle.bus_command.specs.declared.outcome.Outcome.{Outcome}
use Rattle.bus_command.specs.declared.outcome.Outcome.TheVariants.{Done, Answered, Usage, TableText, TableWhole, MessagesText}
use Rattle.bus_command.specs.declared.outcome.Outcome.TheVariants.{Unfit, TraceText}
use Rattle.bus_command.specs.declared.outcome.Outcome.TheVariants.{Own, ReadFault, WriteFault, NoMemory, TooLarge}
use Rattle.bus_command.specs.Kinds.{kind_of, is_answer}
use Rattle.bus_command.specs.Statuses.{number_of}

-- How the program ends, where a refusal of its own ends so.
abbrev pub status_of : {R : Type 0} → (R → Status) → Outcome R → Status
status_of own Done = status.Done
status_of own Answered = status.Refused
status_of own Usage = status.Usage
status_of own (TableText line reason) = status.TableRefused
status_of own (TableWhole reason) = status.TableRefused
status_of own (MessagesText line reason) = status.InputRefused
status_of own (Unfit error) = status.InputRefused
status_of own (TraceText byte reason) = status.InputRefused
status_of own (Own place why) = own why
status_of own (ReadFault source) = status.ReadFault
status_of own WriteFault = status.WriteFault
status_of own NoMemory = status.NoMemory
status_of own (TooLarge source) = status.TooLarge

-- What a fault line says behind the status; an answer has none, and a refusal of the program's own has a line of its own.
abbrev pub fault_words : {R : Type 0} → Outcome R → List ℕ
fault_words Done = []
fault_words Answered = []
fault_words Usage = codes "usage"
fault_words (TableText line reason) = codes "table line " ++ decimal line ++ 32 ∷ [] ++ reason_word reason
fault_words (TableWhole reason) = codes "table " ++ whole_words reason
fault_words (MessagesText line reason) = codes "messages line " ++ decimal line ++ 32 ∷ [] ++ reason_word reason
fault_words (Unfit error) = codes "messages item " ++ fit_words error
fault_words (TraceText byte reason) = codes "trace byte " ++ decimal byte ++ 32 ∷ [] ++ trace_reason_word reason
fault_words (Own place why) = []
fault_words (ReadFault source) = codes "read " ++ decimal source
fault_words WriteFault = codes "write"
fault_words NoMemory = codes "memory"
fault_words (TooLarge source) = codes "large " ++ decimal source

-- The front of a fault line: the number with which the process ends.
abbrev pub error_head : Status → List ℕ
error_head status = codes "ERROR " ++ decimal (number_of status) ++ 32 ∷ []

-- A fault line: that number, and why.
abbrev pub error_line : Status → List ℕ → List ℕ
error_line status words = error_head status ++ words ++ 10 ∷ []

-- Whether the answer is written.
abbrev pub is_written : {R : Type 0} → Outcome R → Bool
is_written outcome = is_answer (kind_of outcome)

-- What the program refuses of its own, where this is what the command came to.
abbrev pub own_of : {R : Type 0} → Outcome R → Option R
own_of Done = None
own_of Answered = None
own_of Usage = None
own_of (TableText line reason) = None
own_of (TableWhole reason) = None
own_of (MessagesText line reason) = None
own_of (Unfit error) = None
own_of (TraceText byte reason) = None
own_of (Own place why) = Some why
own_of (ReadFault source) = None
own_of WriteFault = None
own_of NoMemory = None
own_of (TooLarge source) = None

-- The line of an outcome that is no refusal of the program's own; none where the answer is written.
abbrev pub plain_line : {R : Type 0} → (R → Status) → Outcome R → List ℕ
plain_line own outcome = if is_written outcome then [] else error_line (status_of own outcome) (fault_words outcome)

-- That of a refusal of the program's own, or the outcome's.
abbrev pub line_with : {R : Type 0} → (R → Status) → (R → List ℕ) → Option R → Outcome R → List ℕ
line_with own line None outcome = plain_line own outcome
line_with own line (Some why) outcome = line why

-- The line of an outcome, where a refusal of the program's own ends so and has this line.
abbrev pub fault_line : {R : Type 0} → (R → Status) → (R → List ℕ) → Outcome R → List ℕ
fault_line own line outcome = line_with own line (own_of outcome) outcome
