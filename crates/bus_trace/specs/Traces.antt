-- Traces as plain numbers and lists, and the one text of each in each format.
--   recording   what a contract sees of a `Trace`: up to which moment the bus was looked at (the horizon), how many messages
--               each terminal held (the holds), and what was sent (the list)
--   entry       what a contract sees of a `Transmission` (`bus_strings`, `Messages`)
--   line        a line of the text, by its fields: one space stands between two fields, and a line feed behind each line
--   format      the form of the text: in format 2 each transmission is closed by a line with its end and a mark, in format 1 it isn't
-- Numbers are plain decimals, a word is its word text. A trace has one text in each format, and `IsTraceText` is the grammar.
use Rattle.std.specs.Prelude.{◌≡◌, ◌≤◌, ◌<◌, ℕ, Bool, true, false, List, [], ◌∷◌, ◌++◌, length, codes, map, decimal}
use Rattle.std.specs.List.{flat_map, zip, AllByRecursion}
use Rattle.bus_text.specs.Canonical.{spelled_lines}
use Rattle.bus_words.specs.Words.{label_word, data_word}
use Rattle.bus_words.specs.WordTexts.{word_text}
use Rattle.bus_strings.specs.Limits.{horizon_limit, most_terminal}
use Rattle.bus_strings.specs.Messages.{Wordstring, Entry, IsMessage}
use Rattle.bus_strings.specs.Transmissions.{IsAscending, end_of, marks}
use Rattle.bus_trace.specs.declared.format.Format.{Format}
use Rattle.bus_trace.specs.declared.format.Format.TheVariants.{One, Two}
use Rattle.bus_trace.specs.declared.hold.Hold.{Hold}
use Rattle.bus_trace.specs.Limits.{most_count}

-- The horizon, the holds and the list of a trace, right or not.
pub record Recording : Type 0 where
  pub horizon : ℕ
  pub holds : List Hold
  pub list : List Entry

-- ---- what holds of each trace
-- The terminals of holds ascend strictly, from above this number.
abbrev pub AscendAbove : ℕ → List Hold → Type 0
AscendAbove least [] = Unit {0}
AscendAbove least (hold ∷ holds) = (least < hold.terminal) × AscendAbove hold.terminal holds

-- A hold is of a terminal in its range, and its count fits its type.
pub record IsHold (hold : Hold) : Type 0 where
  pub positive : 1 ≤ hold.terminal
  pub low : hold.terminal ≤ most_terminal
  pub count : hold.count ≤ most_count

-- A transmission is right, and starts below the horizon.
pub record IsBelow (horizon : ℕ) (x : Entry) : Type 0 where
  pub moment : x.moment < horizon
  pub positive : 1 ≤ x.terminal
  pub low : x.terminal ≤ most_terminal
  pub message : IsMessage x.message

-- The horizon is within its limit; the holds ascend strictly by terminal; the list ascends strictly by moment, then terminal, and
-- all of it lies below the horizon.
pub record IsTrace (t : Recording) : Type 0 where
  pub horizon : t.horizon ≤ horizon_limit
  pub holds : AllByRecursion IsHold t.holds
  pub terminals : AscendAbove 0 t.holds
  pub list : AllByRecursion (IsBelow t.horizon) t.list
  pub order : IsAscending t.list

-- ---- the lines
-- A line is its fields.
abbrev pub Line : Type 0
Line = List (List ℕ)

-- The number of a format.
abbrev pub format_text : Format → List ℕ
format_text One = codes "1"
format_text Two = codes "2"

-- `TRACE f`, the number of the format, is the first line.
abbrev pub head_line : Format → Line
head_line format = codes "TRACE" ∷ format_text format ∷ []

-- `HORIZON h`: the bus was looked at up to moment h.
abbrev pub horizon_line : ℕ → Line
horizon_line h = codes "HORIZON" ∷ decimal h ∷ []

-- `HOLD n c`: terminal n held c messages.
abbrev pub hold_line : Hold → Line
hold_line hold = codes "HOLD" ∷ decimal hold.terminal ∷ decimal hold.count ∷ []

-- `TX m n`: terminal n starts at moment m.
abbrev pub begin_line : ℕ → ℕ → Line
begin_line moment terminal = codes "TX" ∷ decimal moment ∷ decimal terminal ∷ []

-- The words of a wordstring are its label word, and the data words.
abbrev pub word_fields : Wordstring → List (List ℕ)
word_fields string = word_text (label_word string.label string.ext) ∷ map (λ value. word_text (data_word value)) string.words

-- `WS w w ..`: one wordstring.
abbrev pub string_line : Wordstring → Line
string_line string = codes "WS" ∷ word_fields string

-- A transmission has its TX line, and a WS line for each wordstring.
abbrev pub entry_lines : Entry → List Line
entry_lines x = begin_line x.moment x.terminal ∷ map string_line x.message

-- The mark of a transmission: `C` where it is garbled, else `-`.
abbrev pub mark_text : Bool → List ℕ
mark_text true = codes "C"
mark_text false = codes "-"

-- `TE e c`: the transmission has ended at moment e, and c is its mark.
abbrev pub ended_line : ℕ → Bool → Line
ended_line e mark = codes "TE" ∷ decimal e ∷ mark_text mark ∷ []

-- The TE line of a transmission.
abbrev pub close_line : Entry → Bool → Line
close_line x mark = ended_line (end_of x) mark

-- The lines of a transmission of format 2, given its mark.
abbrev pub marked_lines : Entry × Bool → List Line
marked_lines marked = entry_lines marked.0 ++ close_line marked.0 marked.1 ∷ []

-- The lines of all transmissions. In format 2 each has its mark: whether it is garbled in the whole list.
abbrev pub list_lines : Format → List Entry → List Line
list_lines One list = flat_map entry_lines list
list_lines Two list = flat_map marked_lines (zip list (marks list))

-- `END` is the last line.
abbrev pub end_line : Line
end_line = codes "END" ∷ []

-- The lines of a trace before its transmissions.
abbrev pub opening_lines : Format → ℕ → List Hold → List Line
opening_lines format horizon holds = head_line format ∷ horizon_line horizon ∷ map hold_line holds

-- The lines of a trace.
abbrev pub trace_lines : Format → Recording → List Line
trace_lines format t = (opening_lines format t.horizon t.holds ++ list_lines format t.list) ++ end_line ∷ []

-- ---- the text
-- The one text of a trace in a format.
abbrev pub text_in : Format → Recording → List ℕ
text_in format t = spelled_lines (trace_lines format t)

-- The text that is written of a trace: that of format 2.
abbrev pub trace_text : Recording → List ℕ
trace_text t = text_in Two t

-- The grammar: these bytes are the text of this trace in one of the formats.
pub record IsTraceText (t : Recording) (text : List ℕ) : Type 0 where
  pub format : Format
  pub trace : IsTrace t
  pub text_is : text ≡ text_in format t

-- A front of a stream, of no more bytes than the limit, is the text of this trace.
pub record HoldsTrace (limit : ℕ) (stream : List ℕ) (t : Recording) : Type 0 where
  pub front : List ℕ
  pub rest : List ℕ
  pub parts : stream ≡ front ++ rest
  pub short : length front ≤ limit
  pub text : IsTraceText t front
