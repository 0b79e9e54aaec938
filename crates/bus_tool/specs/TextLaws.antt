-- What follows of what the commands write.
use Rattle.std.specs.Prelude.{◌≡◌, ◌≤◌, ◌++◌, ℕ, true, IsTrue, IsOk, List, Ok, length}
use Rattle.bus_strings.specs.Items.{Item}
use Rattle.bus_strings.specs.Members.{In}
use Rattle.bus_table.specs.Tables.{Table, Hand}
use Rattle.bus_table.specs.Fits.{items_fit}
use Rattle.bus_table.specs.Hands.{hands_of}
use Rattle.bus_table.specs.Valid.{is_valid}
use Rattle.bus_trace.specs.declared.hold.Hold.{Hold}
use Rattle.bus_trace.specs.Limits.{trace_limit}
use Rattle.bus_trace.specs.Runs.{reading}
use Rattle.bus_trace.specs.Traces.{Recording, IsTrace, AscendAbove, trace_text}
use Rattle.bus_audit.specs.declared.answer.AuditAnswer.{AuditAnswer}
use Rattle.bus_audit.specs.declared.answer.AuditAnswer.TheVariants.{Lawful}
use Rattle.bus_command.specs.Outcomes.{is_written}
use Rattle.bus_tool.specs.Commands.{due, IsCommandText}
use Rattle.bus_hands.specs.Holds.{hand_holds, hold_of_hand}
use Rattle.bus_tool.specs.Forms.{Receive}
use Rattle.bus_tool.specs.Texts.{IsObserved, IsRunRecording, IsDropRecording, run_text, trace_answer_text}
use Rattle.bus_tool.specs.TraceClaims.{IsFinding}

-- A command writes one text at most.
abbrev pub OneCommandText : Type 0
OneCommandText = (words : List (List ℕ)) (first second text other : List ℕ)
    → IsCommandText words first second text → IsCommandText words first second other → other ≡ text

-- It has a text, where an answer is due.
abbrev pub AnswersHaveTexts : Type 0
AnswersHaveTexts = (words : List (List ℕ)) (first second : List ℕ)
    → is_written (due words first second) ≡ true → (text : List ℕ) × IsCommandText words first second text

-- One hold for each hand, by rising number.
pub record HoldEachHand (hands : List Hand) : Type 0 where
  pub each : (hand : Hand) → In hand hands → In (hold_of_hand hand) (hand_holds hands)
  pub only : (hold : Hold) → In hold (hand_holds hands) → (hand : Hand) × In hand hands × (hold ≡ hold_of_hand hand)
  pub rising : AscendAbove 0 (hand_holds hands)

-- Each sender of a valid table has one hold.
abbrev pub SendersHaveHolds : Type 0
SendersHaveHolds = (table : Table) (items : List Item) → IsTrue (is_valid table) → HoldEachHand (hands_of table items)

-- An audit finds nothing against a trace.
abbrev pub IsFoundLawful : Table → Recording → Type 0
IsFoundLawful table trace = (answer : AuditAnswer) → IsFinding table trace answer → (collided : ℕ) × (answer ≡ Lawful collided)

-- Nor against what is observed of a valid table and of items that fit it, whatever collides.
abbrev pub ObservedIsFoundLawful : Type 0
ObservedIsFoundLawful = (table : Table) (items : List Item) (horizon : ℕ) (trace : Recording) → IsTrue (is_valid table)
    → IsOk (items_fit table items) → IsTrace trace → IsObserved table (hands_of table items) horizon trace → IsFoundLawful table trace

-- Nor against a run.
abbrev pub RunIsFoundLawful : Type 0
RunIsFoundLawful = (table : Table) (items : List Item) (trace : Recording) → IsTrue (is_valid table) → IsOk (items_fit table items)
    → IsTrace trace → IsRunRecording table (hands_of table items) trace → IsFoundLawful table trace

-- Nor against a run whose senders fall silent.
abbrev pub DropIsFoundLawful : Type 0
DropIsFoundLawful = (table : Table) (items : List Item) (trace : Recording) → IsTrue (is_valid table) → IsOk (items_fit table items)
    → IsTrace trace → IsDropRecording table (hands_of table items) trace → IsFoundLawful table trace

-- A command that reads the text of a run, of this trace, reads that trace, and none of what follows it; and what follows it there is what
-- `receive` writes of the trace.
pub record IsReceivedBehind (table : Table) (trace : Recording) : Type 0 where
  pub reads : reading trace_limit (run_text table trace) ≡ Ok trace
  pub behind : run_text table trace ≡ trace_text trace ++ trace_answer_text Receive table trace

-- So it is of every trace whose text is within the limit.
abbrev pub RunIsReceivedBehind : Type 0
RunIsReceivedBehind = (table : Table) (trace : Recording) → IsTrace trace → length (trace_text trace) ≤ trace_limit
    → IsReceivedBehind table trace
