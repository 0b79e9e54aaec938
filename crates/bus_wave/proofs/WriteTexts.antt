-- What is put is the text of the trace.
use Rattle.std.proofs.Common.{arith, ◌≡◌, ℕ, zero, suc, ◌-◌, ◌<◌, List, [], ◌∷◌, ◌++◌, codes, map, refl, sym, ap, ◌∙◌}
use Rattle.std.proofs.Common.{append_assoc, append-nil}
use Rattle.std.specs.List.{flat_map}
use Rattle.bus_text.specs.Canonical.{spelled_line, spelled_lines}
use Rattle.bus_words.specs.declared.word.Word.{Word}
use Rattle.bus_words.specs.Words.{label_word, data_word}
use Rattle.bus_strings.specs.Limits.{inner_gap}
use Rattle.bus_strings.specs.Messages.{Wordstring, Message, Entry, words_of}
use Rattle.bus_strings.specs.Transmissions.{end_of}
use Rattle.bus_trace.specs.Traces.{Recording}
use Rattle.bus_wave.specs.inside.Puts.{word_put, data_put, string_put, silence_put, quiet_put, next_put, message_put, entry_put, list_put, text_put}
use Rattle.bus_wave.specs.Waves.{word_halves}
use Rattle.bus_wave.specs.WaveTexts.{WaveLine, Quiet, Halves, line_fields, end_fields, text_of, quiet_lines, string_lines}
use Rattle.bus_wave.specs.WaveTexts.{message_lines, last_end, laid, lines_up_to, wave_text}

-- the text of lines
abbrev pub spelled : List WaveLine → List ℕ
spelled lines = spelled_lines (map line_fields lines)

spelled_append : (ls ms : List WaveLine) → spelled (ls ++ ms) ≡ spelled ls ++ spelled ms
spelled_append [] ms = refl
spelled_append (l ∷ ls) ms = ap (λ t. spelled_line (line_fields l) ++ t) (spelled_append ls ms) ∙ sym (append_assoc (spelled_line (line_fields l)) (spelled ls) (spelled ms))

words_put : (words : List Word) → spelled (map (λ word. Halves (word_halves word)) words) ≡ flat_map word_put words
words_put [] = refl
words_put (word ∷ words) = ap (λ t. word_put word ++ t) (words_put words)

data_is : (words : List ℕ) → flat_map word_put (map data_word words) ≡ data_put words
data_is [] = refl
data_is (word ∷ words) = ap (λ t. word_put (data_word word) ++ t) (data_is words)

string_is : (string : Wordstring) → spelled (string_lines string) ≡ string_put string
string_is string =
    words_put (words_of string) ∙ ap (λ t. word_put (label_word string.label string.ext) ++ t) (data_is string.words)

quiet_is : (n : ℕ) → spelled (quiet_lines n) ≡ quiet_put n
quiet_is zero = refl
quiet_is (suc n) = append-nil (silence_put (suc n))

next_is : (strings : List Wordstring) → spelled (flat_map (λ next. Quiet inner_gap ∷ string_lines next) strings) ≡ flat_map next_put strings
next_is [] = refl
next_is (string ∷ strings) =
    spelled_append (Quiet inner_gap ∷ string_lines string) (flat_map (λ next. Quiet inner_gap ∷ string_lines next) strings)
    ∙ ap (λ t. (silence_put inner_gap ++ t) ++ spelled (flat_map (λ next. Quiet inner_gap ∷ string_lines next) strings)) (string_is string)
    ∙ ap (λ t. next_put string ++ t) (next_is strings)

message_is : (message : Message) → spelled (message_lines message) ≡ message_put message
message_is [] = refl
message_is (string ∷ strings) =
    spelled_append (string_lines string) (flat_map (λ next. Quiet inner_gap ∷ string_lines next) strings)
    ∙ ap (λ t. t ++ spelled (flat_map (λ next. Quiet inner_gap ∷ string_lines next) strings)) (string_is string)
    ∙ ap (λ t. string_put string ++ t) (next_is strings)

list_is : (from : ℕ) (list : List Entry) → spelled (laid from list) ≡ list_put from list
list_is from [] = refl
list_is from (x ∷ xs) =
    spelled_append (quiet_lines (x.moment - from) ++ message_lines x.message) (laid (end_of x) xs)
    ∙ ap (λ t. t ++ spelled (laid (end_of x) xs)) (spelled_append (quiet_lines (x.moment - from)) (message_lines x.message))
    ∙ ap (λ t. (t ++ spelled (message_lines x.message)) ++ spelled (laid (end_of x) xs)) (quiet_is (x.moment - from))
    ∙ ap (λ t. (quiet_put (x.moment - from) ++ t) ++ spelled (laid (end_of x) xs)) (message_is x.message)
    ∙ ap (λ t. entry_put from x ++ t) (list_is (end_of x) xs)

-- a text by its lines
pub text_is : (lines : List WaveLine) → text_of lines ≡ codes "WAVE 1\n" ++ (spelled lines ++ codes "END\n")
text_is lines = ap (λ t. codes "WAVE 1\n" ++ t) (ends lines) where
  ends : (ls : List WaveLine) → spelled_lines (map line_fields ls ++ end_fields ∷ []) ≡ spelled ls ++ codes "END\n"
  ends [] = refl
  ends (l ∷ ls) = ap (λ t. spelled_line (line_fields l) ++ t) (ends ls) ∙ sym (append_assoc (spelled_line (line_fields l)) (spelled ls) (codes "END\n"))

pub put_is : (horizon : ℕ) (list : List Entry) → text_put horizon list ≡ text_of (lines_up_to horizon list)
put_is horizon list =
    let end : ℕ = last_end 0 list in
    let quiet : List ℕ = quiet_put (horizon - end) in
    let lines : spelled (lines_up_to horizon list) ≡ list_put 0 list ++ quiet =
    spelled_append (laid 0 list) (quiet_lines (horizon - end)) ∙ ap (λ t. t ++ spelled (quiet_lines (horizon - end))) (list_is 0 list) ∙ ap (λ t. list_put 0 list ++ t) (quiet_is (horizon - end)) in
    ap (λ t. t ++ codes "END\n") (append_assoc (codes "WAVE 1\n") (list_put 0 list) quiet)
    ∙ append_assoc (codes "WAVE 1\n") (list_put 0 list ++ quiet) (codes "END\n")
    ∙ sym (text_is (lines_up_to horizon list) ∙ ap (λ t. codes "WAVE 1\n" ++ (t ++ codes "END\n")) lines)

-- the same, of the parts that were read of the trace
pub put_as_read : (t : Recording) (horizon end : ℕ) (list : List Entry) → horizon ≡ t.horizon → list ≡ t.list → end ≡ last_end 0 list
    → codes "WAVE 1\n" ++ list_put 0 list ++ quiet_put (horizon - end) ++ codes "END\n" ≡ wave_text t
put_as_read t horizon end list a b c =
    ap (λ n. codes "WAVE 1\n" ++ list_put 0 list ++ quiet_put (horizon - n) ++ codes "END\n") c
    ∙ ap (λ n. text_put n list) a ∙ ap (text_put t.horizon) b ∙ put_is t.horizon t.list

-- ---- one more
pub list_push : (from : ℕ) (list : List Entry) (x : Entry) → list_put from (list ++ x ∷ []) ≡ list_put from list ++ entry_put (last_end from list) x
list_push from [] x = append-nil (entry_put from x)
list_push from (y ∷ ys) x =
    ap (λ t. entry_put from y ++ t) (list_push (end_of y) ys x) ∙ sym (append_assoc (entry_put from y) (list_put (end_of y) ys) (entry_put (last_end (end_of y) ys) x))

pub last_end_push : (from : ℕ) (list : List Entry) (x : Entry) → last_end from (list ++ x ∷ []) ≡ end_of x
last_end_push from [] x = refl
last_end_push from (y ∷ ys) x = last_end_push (end_of y) ys x

-- a Q line, where there is quiet
pub some_put : (n : ℕ) → 0 < n → silence_put n ≡ quiet_put n
some_put zero h = absurd (omega (arith, h))
some_put (suc n) h = refl

pub none_put : (n : ℕ) → n ≡ 0 → quiet_put n ≡ []
none_put zero h = refl
none_put (suc n) h = absurd (omega (arith, h))
