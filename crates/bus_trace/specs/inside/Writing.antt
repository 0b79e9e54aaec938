-- The text of a trace as it is put, field by field. That this is the text of the trace is `put_is` of `proofs/WriteTexts`.
use Rattle.std.specs.Prelude.{ℕ, Bool, List, false, ◌++◌, codes, decimal}
use Rattle.std.specs.List.{flat_map, zip}
use Rattle.bus_words.specs.declared.word.Word.{Word}
use Rattle.bus_words.specs.Words.{label_word, data_word}
use Rattle.bus_words.specs.WordTexts.{word_text}
use Rattle.bus_strings.specs.Messages.{Wordstring, Entry}
use Rattle.bus_strings.specs.Transmissions.{end_of, marks}
use Rattle.bus_trace.specs.declared.format.Format.TheVariants.{Two}
use Rattle.bus_trace.specs.declared.hold.Hold.{Hold}
use Rattle.bus_trace.specs.Traces.{Recording, format_text, mark_text}

-- A word behind its space.
abbrev pub word_put : Word → List ℕ
word_put word = codes " " ++ word_text word

-- Data words, each behind its space.
abbrev pub data_put : List ℕ → List ℕ
data_put words = flat_map (λ value. word_put (data_word value)) words

-- A label word behind its keyword.
abbrev pub label_put : Word → List ℕ
label_put word = codes "WS " ++ word_text word

-- A WS line.
abbrev pub string_put : Wordstring → List ℕ
string_put string = label_put (label_word string.label string.ext) ++ data_put string.words ++ codes "\n"

-- A line of a keyword, its space included, and two numbers.
abbrev pub pair_put : List ℕ → ℕ → ℕ → List ℕ
pair_put keyword first second = keyword ++ decimal first ++ codes " " ++ decimal second ++ codes "\n"

-- A HOLD line.
abbrev pub hold_put : Hold → List ℕ
hold_put hold = pair_put (codes "HOLD ") hold.terminal hold.count

-- The end of a TE line: its mark behind a space, and the line feed.
abbrev pub mark_put : Bool → List ℕ
mark_put mark = codes " " ++ mark_text mark ++ codes "\n"

-- A TE line.
abbrev pub close_put : Entry → Bool → List ℕ
close_put x mark = codes "TE " ++ decimal (end_of x) ++ mark_put mark

-- The lines of a transmission with its mark.
abbrev pub entry_put : Entry × Bool → List ℕ
entry_put marked = pair_put
    (codes "TX ") marked.0.moment marked.0.terminal ++ flat_map string_put marked.0.message ++ close_put marked.0 marked.1

-- The first line.
abbrev pub head_put : List ℕ
head_put = codes "TRACE" ++ codes " " ++ format_text Two ++ codes "\n"

-- The first two lines.
abbrev pub horizon_put : ℕ → List ℕ
horizon_put horizon = head_put ++ codes "HORIZON " ++ decimal horizon ++ codes "\n"

-- The first lines, up to the transmissions.
abbrev pub opening_put : Recording → List ℕ
opening_put t = horizon_put t.horizon ++ flat_map hold_put t.holds

-- The lines of all transmissions.
abbrev pub list_put : List Entry → List ℕ
list_put list = flat_map entry_put (zip list (marks list))

-- The lines of transmissions of which none is garbled.
abbrev pub clear_put : List Entry → List ℕ
clear_put list = flat_map (λ x. entry_put (x, false)) list

-- The text of a trace.
abbrev pub trace_put : Recording → List ℕ
trace_put t = opening_put t ++ list_put t.list ++ codes "END\n"
