-- What the lines of a trace text have given so far, and what one line more gives.
--   position   which line was read last, as far as the next one depends on it
--   state      the position, the format, the values read and the mark of the last transmission that was closed; a TX line alone stands
--              in the position, until its first WS line comes
--   hit        of the last transmission: an earlier one ends behind its moment
--   met        of the last transmission: the next one begins before its end
-- A transmission is garbled exactly where it is hit or met. Whether it is met shows only at the line behind its TE line, so a wrong mark
-- is told there at the latest.
--   step       the state after one line more, or the reason for which that line is refused: the first of its form's rows that applies
-- A line is split at each single space, so a doubled, leading or trailing space makes an empty field.
use Rattle.std.specs.Prelude.{ℕ, ◌+◌, Bool, true, false, not, ◌&&◌, ◌||◌, ◌==◌, nat_lt, if◌then◌else◌}
use Rattle.std.specs.Prelude.{List, [], ◌∷◌, ◌++◌, length, codes, Option, Some, None, Result, Ok, Err, slice_index_or, drop}
use Rattle.std.specs.List.{slice_split, flat_map, list_any}
use Rattle.std.specs.Int.{is_in_range}
use Rattle.std.specs.Str.{bytes_eq}
pub use Rattle.bus_text.specs.Lasts.{of_last}
use Rattle.bus_text.specs.Numbers.{is_plain_decimal, decimal_value}
use Rattle.bus_text.specs.Refusals.{first_of, unless}
use Rattle.bus_text.specs.Canonical.{spelled_lines}
use Rattle.bus_strings.specs.Limits.{horizon_limit, most_terminal, most_strings}
use Rattle.bus_strings.specs.Messages.{Wordstring, Entry}
use Rattle.bus_strings.specs.Transmissions.{end_of}
use Rattle.bus_trace.specs.declared.format.Format.{Format}
use Rattle.bus_trace.specs.declared.format.Format.TheVariants.{One, Two}
use Rattle.bus_trace.specs.declared.hold.Hold.{Hold}
use Rattle.bus_trace.specs.declared.keyword.Keyword.{Keyword}
use Rattle.bus_trace.specs.declared.keyword.Keyword.TheVariants as keyword
use Rattle.bus_trace.specs.declared.position.Position.{Position}
use Rattle.bus_trace.specs.declared.position.Position.TheVariants.{Start, Headed, Holding, Begun, Stringing, Closed, Ended}
use Rattle.bus_trace.specs.declared.reason.TraceReason.{TraceReason}
use Rattle.bus_trace.specs.declared.reason.TraceReason.TheVariants as reason
use Rattle.bus_trace.specs.Limits.{most_count, most_fields}
use Rattle.bus_trace.specs.Traces.{Recording, Line, format_text, head_line, begin_line, entry_lines, close_line}
use Rattle.bus_trace.specs.Traces.{end_line, opening_lines}
use Rattle.bus_trace.specs.WordFields.{are_spelled, have_parity, string_of}

-- What the lines so far have given.
pub record State : Type 0 where
  pub position : Position
  pub format : Format
  pub mark : Bool
  pub horizon : ℕ
  pub holds : List Hold
  pub list : List Entry

-- No line was read.
abbrev pub start : State
start = record { position = Start; format = One; mark = false; horizon = 0; holds = []; list = [] }

-- The trace that was read.
abbrev pub recorded : State → Recording
recorded s = record { horizon = s.horizon; holds = s.holds; list = s.list }

-- ---- transmissions and their ends
-- Whether some transmission of the list ends behind a moment.
abbrev pub ends_behind : ℕ → List Entry → Bool
ends_behind moment list = list_any (λ y. nat_lt moment (end_of y)) list

-- All transmissions but the last.
abbrev pub earlier : List Entry → List Entry
earlier [] = []
earlier (last ∷ []) = []
earlier (first ∷ next ∷ others) = first ∷ earlier (next ∷ others)

-- The moment of the last transmission, or 0.
abbrev pub last_moment : List Entry → ℕ
last_moment list = of_last (λ x. x.moment) list

-- The terminal of the last transmission, or 0.
abbrev pub last_sender : List Entry → ℕ
last_sender list = of_last (λ x. x.terminal) list

-- The moment at which the last transmission has ended, or 0.
abbrev pub last_end : List Entry → ℕ
last_end list = of_last end_of list

-- How many wordstrings the last transmission has, or 0.
abbrev pub last_count : List Entry → ℕ
last_count list = of_last (λ x. length x.message) list

-- Whether the last transmission is hit: an earlier one ends behind its moment.
abbrev pub is_hit : List Entry → Bool
is_hit list = ends_behind (last_moment list) (earlier list)

-- ---- the text of what was read
-- The TE line of the last transmission, where it has come.
abbrev pub closing : Entry → Option Bool → List Line
closing x None = []
closing x (Some mark) = close_line x mark ∷ []

-- The lines of transmissions behind those before: the mark of each is told by those before and the next, that of the last is given.
abbrev pub told_lines : List Entry → Option Bool → List Entry → List Line
told_lines before mark [] = []
told_lines before mark (x ∷ []) = entry_lines x ++ closing x mark
told_lines before mark (x ∷ y ∷ ys) =
    (entry_lines x ++ close_line x (ends_behind x.moment before || nat_lt y.moment (end_of x)) ∷ [])
    ++ told_lines (before ++ x ∷ []) mark (y ∷ ys)

-- The lines of the transmissions read so far; the TE line of the last one has come with this mark, or not yet.
abbrev pub lines_so_far : Format → Option Bool → List Entry → List Line
lines_so_far One mark list = flat_map entry_lines list
lines_so_far Two mark list = told_lines [] mark list

-- The lines of the values of a state; the TE line of its last transmission has come with this mark, or not yet.
abbrev pub body_lines : Option Bool → State → List Line
body_lines mark s = opening_lines s.format s.horizon s.holds ++ lines_so_far s.format mark s.list

-- The lines up to a position, with the values of a state.
abbrev pub lines_at : Position → State → List Line
lines_at Start s = []
lines_at Headed s = head_line s.format ∷ []
lines_at (Begun moment terminal) s = body_lines (Some s.mark) s ++ begin_line moment terminal ∷ []
lines_at Stringing s = body_lines None s
lines_at Ended s = body_lines (Some s.mark) s ++ end_line ∷ []
lines_at position s = body_lines (Some s.mark) s

-- The lines that gave this state.
abbrev pub lines_of : State → List Line
lines_of s = lines_at s.position s

-- The text of the lines that gave this state.
unfoldable pub text_of : State → List ℕ
text_of s = spelled_lines (lines_of s)

-- ---- keywords
-- The keyword that a field is.
abbrev pub keyword_of : List ℕ → Option Keyword
keyword_of field =
    if bytes_eq field (codes "TRACE") then Some keyword.Trace
    else if bytes_eq field (codes "HORIZON") then Some keyword.Horizon
    else if bytes_eq field (codes "HOLD") then Some keyword.Hold
    else if bytes_eq field (codes "TX") then Some keyword.Tx
    else if bytes_eq field (codes "WS") then Some keyword.Ws
    else if bytes_eq field (codes "TE") then Some keyword.Te
    else if bytes_eq field (codes "END") then Some keyword.End
    else None

-- Whether transmissions have marks in this format, each in a TE line.
abbrev pub is_marked : Format → Bool
is_marked One = false
is_marked Two = true

-- Whether the keyword may stand behind a WS line, whose transmission has so many of them.
abbrev pub may_follow_string : Format → ℕ → Keyword → Bool
may_follow_string format count keyword.Tx = not (is_marked format)
may_follow_string format count keyword.Ws = nat_lt count most_strings
may_follow_string format count keyword.Te = is_marked format
may_follow_string format count keyword.End = not (is_marked format)
may_follow_string format count k = false

-- TRACE comes first, HORIZON behind it, then the HOLD lines; behind these and behind each transmission come TX or END; behind TX comes
-- WS. In format 2 a transmission ends with its TE line.
abbrev pub may_follow : Position → Format → ℕ → Keyword → Bool
may_follow Start format count keyword.Trace = true
may_follow Headed format count keyword.Horizon = true
may_follow Holding format count keyword.Hold = true
may_follow Holding format count keyword.Tx = true
may_follow Holding format count keyword.End = true
may_follow (Begun moment terminal) format count keyword.Ws = true
may_follow Stringing format count k = may_follow_string format count k
may_follow Closed format count keyword.Tx = true
may_follow Closed format count keyword.End = true
may_follow position format count k = false

-- Whether the last line was END.
abbrev pub is_ended : Position → Bool
is_ended Ended = true
is_ended position = false

-- Whether the last line was a TE line.
abbrev pub is_closed : Position → Bool
is_closed Closed = true
is_closed position = false

-- ---- marks
-- Whether a field is a mark.
abbrev pub is_mark : List ℕ → Bool
is_mark field = bytes_eq field (codes "C") || bytes_eq field (codes "-")

-- The mark that a field is: whether the transmission is garbled.
abbrev pub mark_of : List ℕ → Bool
mark_of field = bytes_eq field (codes "C")

-- Whether a mark is wrong at its own TE line: it is `-` and the transmission is hit; or it is `C`, the transmission isn't hit, and none
-- can come behind it that begins before its end.
abbrev pub starts_wrong : Bool → Bool → Bool → Bool
starts_wrong false hit final = hit
starts_wrong true hit final = not hit && final

-- Whether a mark shows wrong at the line behind its TE line: it is `C`, and the transmission is neither hit nor met; or it is `-`, and
-- the transmission is met.
abbrev pub turns_wrong : Bool → Bool → Bool → Bool
turns_wrong true hit met = not (hit || met)
turns_wrong false hit met = met

-- Whether no transmission can come behind the last: it begins at the last moment below the horizon, and has the greatest terminal.
abbrev pub is_final : ℕ → List Entry → Bool
is_final horizon list = (last_moment list + 1 == horizon) && (last_sender list == most_terminal)

-- Whether the last transmission is closed, and its mark shows wrong at a line that meets it or not.
abbrev pub is_refuted : State → Bool → Bool
is_refuted s met = is_closed s.position && turns_wrong s.mark (is_hit s.list) met

-- ---- one line more
-- Whether a byte is a space.
abbrev pub is_space : ℕ → Bool
is_space b = b == 32

-- The fields of a line are what stands between single spaces.
abbrev pub spaced_fields : List ℕ → List (List ℕ)
spaced_fields line = slice_split is_space line

-- The field with this number, from 0, or an empty one.
abbrev pub field : List (List ℕ) → ℕ → List ℕ
field fields k = slice_index_or fields k []

-- Whether the field with this number is a plain decimal.
abbrev pub is_number : List (List ℕ) → ℕ → Bool
is_number fields k = is_plain_decimal (field fields k)

-- What the plain decimal with this number writes.
abbrev pub number : List (List ℕ) → ℕ → ℕ
number fields k = decimal_value (field fields k)

-- The terminal of the last hold, or 0.
abbrev pub last_terminal : List Hold → ℕ
last_terminal holds = of_last (λ hold. hold.terminal) holds

-- Whether a moment and a terminal ascend behind a transmission.
abbrev pub comes_after : Entry → ℕ → ℕ → Bool
comes_after x moment terminal = nat_lt x.moment moment || (x.moment == moment && nat_lt x.terminal terminal)

-- Whether a moment and a terminal ascend behind a list.
abbrev pub is_after : List Entry → ℕ → ℕ → Bool
is_after [] moment terminal = true
is_after (last ∷ []) moment terminal = comes_after last moment terminal
is_after (first ∷ next ∷ others) moment terminal = is_after (next ∷ others) moment terminal

-- The last transmission has one wordstring more.
abbrev pub with_string : Wordstring → List Entry → List Entry
with_string string [] = []
with_string string (last ∷ []) = record last { message = last.message ++ string ∷ [] } ∷ []
with_string string (first ∷ next ∷ others) = first ∷ with_string string (next ∷ others)

-- A WS line behind a TX line makes its transmission; behind another WS line it adds to the last one.
abbrev pub more_list : Position → Wordstring → List Entry → List Entry
more_list (Begun moment terminal) string list = list ++ record { moment = moment; terminal = terminal; message = string ∷ [] } ∷ []
more_list position string list = with_string string list

-- The format that a field is the number of.
abbrev pub format_of : List ℕ → Option Format
format_of field =
    if bytes_eq field (format_text One) then Some One
    else if bytes_eq field (format_text Two) then Some Two
    else None

-- The state behind a TRACE line of a format, if it is one.
abbrev pub headed : State → Option Format → Result State TraceReason
headed s None = Err reason.Fields
headed s (Some format) = Ok (record s { position = Headed; format = format })

-- A TRACE line: it has two fields, and the second is the number of a format.
unfoldable pub head_step : State → List (List ℕ) → Result State TraceReason
head_step s fields = if length fields == 2 then headed s (format_of (field fields 1)) else Err reason.Fields

-- A HORIZON line, by its rows: a test, and the reason that stands for it.
unfoldable pub horizon_step : State → List (List ℕ) → Result State TraceReason
horizon_step s fields =
    unless (first_of (
    (not (length fields == 2), reason.Fields)
    ∷ (not (is_number fields 1), reason.Spelling)
    ∷ (not (is_in_range 0 horizon_limit (number fields 1)), reason.Range)
    ∷ []))
    (record s { position = Holding; horizon = number fields 1 })

-- A HOLD line.
unfoldable pub hold_step : State → List (List ℕ) → Result State TraceReason
hold_step s fields =
    let hold : Hold = record { terminal = number fields 1; count = number fields 2 } in
    unless (first_of (
    (not (length fields == 3), reason.Fields)
    ∷ (not (is_number fields 1 && is_number fields 2), reason.Spelling)
    ∷ (not (is_in_range 1 most_terminal (number fields 1) && is_in_range 0 most_count (number fields 2)), reason.Range)
    ∷ (not (nat_lt (last_terminal s.holds) (number fields 1)), reason.Order)
    ∷ []))
    (record s { position = Holding; holds = s.holds ++ hold ∷ [] })

-- A TX line. It meets the transmission before where it begins before that one's end.
unfoldable pub begin_step : State → List (List ℕ) → Result State TraceReason
begin_step s fields =
    unless (first_of (
    (not (length fields == 3), reason.Fields)
    ∷ (not (is_number fields 1 && is_number fields 2), reason.Spelling)
    ∷ (not (nat_lt (number fields 1) s.horizon && is_in_range 1 most_terminal (number fields 2)), reason.Range)
    ∷ (not (is_after s.list (number fields 1) (number fields 2)), reason.Order)
    ∷ (is_refuted s (nat_lt (number fields 1) (last_end s.list)), reason.Mark)
    ∷ []))
    (record s { position = Begun (number fields 1) (number fields 2) })

-- A WS line.
unfoldable pub string_step : State → List (List ℕ) → Result State TraceReason
string_step s fields =
    let words = drop 1 fields in
    unless (first_of (
    (not (is_in_range 2 most_fields (length fields)), reason.Fields)
    ∷ (not (are_spelled words), reason.Spelling)
    ∷ (not (have_parity words), reason.Parity)
    ∷ []))
    (record s { position = Stringing; list = more_list s.position (string_of words) s.list })

-- A TE line.
unfoldable pub close_step : State → List (List ℕ) → Result State TraceReason
close_step s fields =
    let mark = mark_of (field fields 2) in
    unless (first_of (
    (not (length fields == 3), reason.Fields)
    ∷ (not (is_number fields 1 && is_mark (field fields 2)), reason.Spelling)
    ∷ (not (number fields 1 == last_end s.list), reason.Mark)
    ∷ (starts_wrong mark (is_hit s.list) (is_final s.horizon s.list), reason.Mark)
    ∷ []))
    (record s { position = Closed; mark = mark })

-- An END line. It meets no transmission.
unfoldable pub end_step : State → List (List ℕ) → Result State TraceReason
end_step s fields =
    unless (first_of ((not (length fields == 1), reason.Fields) ∷ (is_refuted s false, reason.Mark) ∷ []))
    (record s { position = Ended })

-- A line of the form that a keyword begins.
abbrev pub form_step : Keyword → State → List (List ℕ) → Result State TraceReason
form_step keyword.Trace s fields = head_step s fields
form_step keyword.Horizon s fields = horizon_step s fields
form_step keyword.Hold s fields = hold_step s fields
form_step keyword.Tx s fields = begin_step s fields
form_step keyword.Ws s fields = string_step s fields
form_step keyword.Te s fields = close_step s fields
form_step keyword.End s fields = end_step s fields

-- A line whose first field is a keyword, or none.
abbrev pub keyword_step : Option Keyword → State → List (List ℕ) → Result State TraceReason
keyword_step None s fields = Err reason.Keyword
keyword_step (Some k) s fields =
    if may_follow s.position s.format (last_count s.list) k then form_step k s fields else Err reason.Keyword

-- A line by its fields.
abbrev pub fields_step : State → List (List ℕ) → Result State TraceReason
fields_step s fields = keyword_step (keyword_of (field fields 0)) s fields

-- The state after a line, which is given without its line feed, or why it is refused.
unfoldable pub step : State → List ℕ → Result State TraceReason
step s line = fields_step s (spaced_fields line)
