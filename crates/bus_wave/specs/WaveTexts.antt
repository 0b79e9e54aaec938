-- The wave text of a trace: the one text of its form whose lines stand for the wave.
--   line    `Q n`, so many quiet bit times, or `W x`, the 40 half bits of a word as ten hexadecimal digits in capitals
-- The first line is `WAVE 1` and the last one `END`. One space stands between two fields, and a line feed behind each line.
use Rattle.std.specs.Prelude.{◌≡◌, ℕ, ◌-◌, ◌≤◌, zero, suc, Bool, true, false, List, [], ◌∷◌, ◌++◌, length, codes, map, decimal, Some}
use Rattle.std.specs.List.{flat_map}
use Rattle.bus_text.specs.Canonical.{spelled_lines}
use Rattle.bus_strings.specs.Limits.{inner_gap}
use Rattle.bus_strings.specs.Messages.{Wordstring, Message, Entry, words_of}
use Rattle.bus_strings.specs.Transmissions.{end_of}
use Rattle.bus_trace.specs.Traces.{Recording}
use Rattle.bus_wave.specs.Code.{digits_of}
use Rattle.bus_wave.specs.Waves.{Half, quiet, word_halves, wave}

-- A line between the first and the last: quiet bit times, or the half bits of a word.
pub data WaveLine : Type 0 where
  Quiet : ℕ → WaveLine
  Halves : List Bool → WaveLine

-- ---- what lines stand for
-- The wave of a line.
abbrev pub line_wave : WaveLine → List Half
line_wave (Quiet n) = quiet n
line_wave (Halves halves) = map Some halves

-- The wave of lines, one behind the other.
abbrev pub lines_wave : List WaveLine → List Half
lines_wave lines = flat_map line_wave lines

-- Each Q line has at least one bit time and each W line forty half bits; no Q line stands behind a Q line, nor first, where one stands
-- before these lines (`behind`).
abbrev pub AreLines : Bool → List WaveLine → Type 0
AreLines behind [] = Unit {0}
AreLines behind (Quiet n ∷ lines) = (behind ≡ false) × (1 ≤ n) × AreLines true lines
AreLines behind (Halves halves ∷ lines) = (length halves ≡ 40) × AreLines false lines

-- ---- how lines are written
-- The fields of a line.
abbrev pub line_fields : WaveLine → List (List ℕ)
line_fields (Quiet n) = codes "Q" ∷ decimal n ∷ []
line_fields (Halves halves) = codes "W" ∷ digits_of halves ∷ []

-- The fields of the first line.
abbrev pub head_fields : List (List ℕ)
head_fields = codes "WAVE" ∷ codes "1" ∷ []

-- The fields of the last line.
abbrev pub end_fields : List (List ℕ)
end_fields = codes "END" ∷ []

-- The text of lines.
abbrev pub text_of : List WaveLine → List ℕ
text_of lines = spelled_lines (head_fields ∷ (map line_fields lines ++ end_fields ∷ []))

-- ---- the grammar
-- These bytes are a text of this form, and its lines stand for the wave of this trace.
pub record IsWaveText (t : Recording) (text : List ℕ) : Type 0 where
  pub lines : List WaveLine
  pub right : AreLines false lines
  pub stand : lines_wave lines ≡ wave t
  pub text_is : text ≡ text_of lines

-- ---- the lines of a trace whose transmissions stand one behind the other
-- So many quiet bit times: one line, or none where there are none.
abbrev pub quiet_lines : ℕ → List WaveLine
quiet_lines zero = []
quiet_lines (suc n) = Quiet (suc n) ∷ []

-- A line for each word of a wordstring.
abbrev pub string_lines : Wordstring → List WaveLine
string_lines string = map (λ word. Halves (word_halves word)) (words_of string)

-- The lines of a message: those of its wordstrings, and one for the inner gap between two of them.
abbrev pub message_lines : Message → List WaveLine
message_lines [] = []
message_lines (string ∷ strings) = string_lines string ++ flat_map (λ next. Quiet inner_gap ∷ string_lines next) strings

-- Where the last transmission ends, or `from` where there is none.
abbrev pub last_end : ℕ → List Entry → ℕ
last_end from [] = from
last_end from (x ∷ xs) = last_end (end_of x) xs

-- The lines of transmissions, each behind the quiet before it; the first counts from `from`.
abbrev pub laid : ℕ → List Entry → List WaveLine
laid from [] = []
laid from (x ∷ xs) = (quiet_lines (x.moment - from) ++ message_lines x.message) ++ laid (end_of x) xs

-- The lines of transmissions, and the quiet behind the last of them up to a horizon.
abbrev pub lines_up_to : ℕ → List Entry → List WaveLine
lines_up_to horizon list = laid 0 list ++ quiet_lines (horizon - last_end 0 list)

-- The text that is written of a trace.
abbrev pub wave_text : Recording → List ℕ
wave_text t = text_of (lines_up_to t.horizon t.list)
