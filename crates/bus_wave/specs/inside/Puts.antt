-- The wave text of a trace as it is put, line by line. That this is its text is `put_is` of `proofs/WriteTexts`.
use Rattle.std.specs.Prelude.{ℕ, zero, suc, ◌-◌, List, [], ◌∷◌, ◌++◌, codes, decimal}
use Rattle.std.specs.List.{flat_map}
use Rattle.bus_words.specs.declared.word.Word.{Word}
use Rattle.bus_words.specs.Words.{label_word, data_word}
use Rattle.bus_strings.specs.Limits.{inner_gap}
use Rattle.bus_strings.specs.Messages.{Wordstring, Message, Entry}
use Rattle.bus_strings.specs.Transmissions.{end_of}
use Rattle.bus_wave.specs.Code.{digits_of}
use Rattle.bus_wave.specs.Waves.{word_halves}
use Rattle.bus_wave.specs.WaveTexts.{last_end}

-- A W line.
abbrev pub word_put : Word → List ℕ
word_put word = codes "W " ++ digits_of (word_halves word) ++ codes "\n"

-- A W line for each data word.
abbrev pub data_put : List ℕ → List ℕ
data_put words = flat_map (λ value. word_put (data_word value)) words

-- The lines of a wordstring.
abbrev pub string_put : Wordstring → List ℕ
string_put string = word_put (label_word string.label string.ext) ++ data_put string.words

-- A Q line.
abbrev pub silence_put : ℕ → List ℕ
silence_put n = codes "Q " ++ decimal n ++ codes "\n"

-- A Q line, where there is quiet.
abbrev pub quiet_put : ℕ → List ℕ
quiet_put zero = []
quiet_put (suc n) = silence_put (suc n)

-- The lines of a further wordstring, behind the inner gap.
abbrev pub next_put : Wordstring → List ℕ
next_put string = silence_put inner_gap ++ string_put string

-- The lines of a message.
abbrev pub message_put : Message → List ℕ
message_put [] = []
message_put (string ∷ strings) = string_put string ++ flat_map next_put strings

-- The lines of a transmission, behind the quiet since a moment.
abbrev pub entry_put : ℕ → Entry → List ℕ
entry_put from x = quiet_put (x.moment - from) ++ message_put x.message

-- The lines of transmissions, the first counting from `from`.
abbrev pub list_put : ℕ → List Entry → List ℕ
list_put from [] = []
list_put from (x ∷ xs) = entry_put from x ++ list_put (end_of x) xs

-- The text of transmissions up to a horizon.
abbrev pub text_put : ℕ → List Entry → List ℕ
text_put horizon list = codes "WAVE 1\n" ++ list_put 0 list ++ quiet_put (horizon - last_end 0 list) ++ codes "END\n"
