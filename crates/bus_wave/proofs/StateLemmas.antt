-- States stand for the lines that gave them.
use Rattle.std.proofs.Common.{arith, ◌≡◌, ℕ, zero, suc, ◌+◌, ◌-◌, ◌*◌, ◌/◌, ◌%◌, ◌<◌, ◌≤◌, List, [], ◌∷◌, ◌++◌}
use Rattle.std.proofs.Common.{length, map, refl, sym, ap, ◌∙◌, append_assoc, append-nil, length-append}
use Rattle.std.specs.List.{flat_map}
use Rattle.std.proofs.lemmas.Grind.{flat_map-append}
use Rattle.std.proofs.lemmas.List.{map-append}
use Rattle.std.proofs.lemmas.List.Sums.{sum_by-cons, sum_by-append}
use Rattle.bus_words.specs.declared.word.Kind.TheVariants.{Label}
use Rattle.bus_words.specs.declared.word.Word.{Word}
use Rattle.bus_words.specs.Words.{label_word, data_word}
use Rattle.bus_strings.specs.Limits.{word_bits, inner_gap}
use Rattle.bus_strings.specs.Messages.{Wordstring, Message, Entry, word_count, bits}
use Rattle.bus_strings.specs.Transmissions.{end_of}
use Rattle.bus_table.specs.declared.line.SendLine.{SendLine}
use Rattle.bus_wave.specs.Judging.{Phase, Opened, Silent, Saying, Waiting, Closed, State, string_of, with_string}
use Rattle.bus_wave.specs.Spacing.{least_gap, AreApart}
use Rattle.bus_wave.specs.Waves.{word_halves}
use Rattle.bus_wave.specs.WaveTexts.{WaveLine, Quiet, Halves, quiet_lines, string_lines, message_lines, last_end, laid, lines_up_to}

-- ---- the lines of a state
-- the transmissions of a state, with the one under way
abbrev pub open_of : Phase → List Entry → List Entry
open_of Opened list = list
open_of (Silent free) list = list
open_of (Saying x line words left) list = list ++ with_string x (string_of line words) ∷ []
open_of (Waiting x next left) list = list ++ x ∷ []
open_of Closed list = list

-- the lines that gave a state
abbrev pub lines_of : State → List WaveLine
lines_of s = lines_up_to s.at (open_of s.phase s.list)

-- the moment from which on the next transmission may start
abbrev pub earliest : ℕ → List Entry → ℕ
earliest from [] = from
earliest from (x ∷ xs) = earliest (end_of x + least_gap) xs

-- ---- how long
pub bits_one : (string : Wordstring) → bits (string ∷ []) ≡ word_bits * word_count string
bits_one string = omega (arith, sum_by-cons word_count string [])

pub bits_push : (message : Message) (string : Wordstring) → 0 < length message
    → bits (message ++ string ∷ []) ≡ bits message + inner_gap + word_bits * word_count string
bits_push message string some =
    omega (
      arith,
      sum_by-append word_count message (string ∷ []),
      sum_by-cons word_count string [],
      length-append message (string ∷ []),
    )

pub bits_word : (message : Message) (line : SendLine) (words : List ℕ) (value : ℕ)
    → bits (message ++ string_of line (words ++ value ∷ []) ∷ []) ≡ bits (message ++ string_of line words ∷ []) + word_bits
bits_word message line words value =
    omega (
      arith,
      sum_by-append word_count message (string_of line words ∷ []),
      sum_by-append word_count message (string_of line (words ++ value ∷ []) ∷ []),
      sum_by-cons word_count (string_of line words) [],
      sum_by-cons word_count (string_of line (words ++ value ∷ [])) [],
      length-append message (string_of line words ∷ []),
      length-append message (string_of line (words ++ value ∷ []) ∷ []),
      length-append words (value ∷ []),
    )

-- ---- one more transmission
pub laid_push : (from : ℕ) (list : List Entry) (x : Entry)
    → laid from (list ++ x ∷ []) ≡ laid from list ++ (quiet_lines (x.moment - last_end from list) ++ message_lines x.message)
laid_push from [] x = append-nil (quiet_lines (x.moment - from) ++ message_lines x.message)
laid_push from (y ∷ ys) x =
    ap (λ ls. (quiet_lines (y.moment - from) ++ message_lines y.message) ++ ls) (laid_push (end_of y) ys x)
    ∙ sym (append_assoc (quiet_lines (y.moment - from) ++ message_lines y.message) (laid (end_of y) ys) (quiet_lines (x.moment - last_end (end_of y) ys) ++ message_lines x.message))

pub last_push : (from : ℕ) (list : List Entry) (x : Entry) → last_end from (list ++ x ∷ []) ≡ end_of x
last_push from [] x = refl
last_push from (y ∷ ys) x = last_push (end_of y) ys x

pub earliest_push : (from : ℕ) (list : List Entry) (x : Entry) → earliest from (list ++ x ∷ []) ≡ end_of x + least_gap
earliest_push from [] x = refl
earliest_push from (y ∷ ys) x = earliest_push (end_of y + least_gap) ys x

pub apart_push : (from at now : ℕ) (list : List Entry) (x : Entry) → AreApart from at list → at ≤ now → earliest from list ≤ x.moment → end_of x ≤ now
    → AreApart from now (list ++ x ∷ [])
apart_push from at now [] x a low early ends = (early, ends, tt)
apart_push from at now (y ∷ ys) x a low early ends =
    (a.0, omega (arith, a.1), apart_push (end_of y + least_gap) at now ys x a.2 low early ends)

pub apart_later : (from at now : ℕ) (list : List Entry) → AreApart from at list → at ≤ now → AreApart from now list
apart_later from at now [] a low = tt
apart_later from at now (y ∷ ys) a low = (a.0, omega (arith, a.1), apart_later (end_of y + least_gap) at now ys a.2 low)

-- ---- quiet behind them
pub quiet_some : (n : ℕ) → 1 ≤ n → quiet_lines n ≡ Quiet n ∷ []
quiet_some zero h = absurd (omega (arith, h))
quiet_some (suc n) h = refl

pub full_lines : (at : ℕ) (list : List Entry) → last_end 0 list ≡ at → lines_up_to at list ≡ laid 0 list
full_lines at list e =
    let none : at - last_end 0 list ≡ 0 = omega (arith, e) in
    ap (λ n. laid 0 list ++ quiet_lines n) none ∙ append-nil (laid 0 list)

pub more_lines : (at n : ℕ) (list : List Entry) → last_end 0 list ≡ at → 1 ≤ n → lines_up_to (at + n) list ≡ laid 0 list ++ Quiet n ∷ []
more_lines at n list e some =
    let count : at + n - last_end 0 list ≡ n = omega (arith, e) in
    ap (λ k. laid 0 list ++ quiet_lines k) count ∙ ap (λ ls. laid 0 list ++ ls) (quiet_some n some)

-- a Q line behind the end of the last transmission
pub quiet_more : (at n : ℕ) (list : List Entry) → last_end 0 list ≡ at → 1 ≤ n → lines_up_to (at + n) list ≡ lines_up_to at list ++ Quiet n ∷ []
quiet_more at n list e some = more_lines at n list e some ∙ ap (λ ls. ls ++ Quiet n ∷ []) (sym (full_lines at list e))

-- ---- words behind them
abbrev pub sent : Word → WaveLine
sent word = Halves (word_halves word)

pub string_push : (line : SendLine) (words : List ℕ) (value : ℕ)
    → string_lines (string_of line (words ++ value ∷ [])) ≡ string_lines (string_of line words) ++ sent (data_word value) ∷ []
string_push line words value =
    ap (λ ws. sent (label_word line.label line.ext) ∷ map sent ws) (map-append data_word words (value ∷ []))
    ∙ ap (λ ls. sent (label_word line.label line.ext) ∷ ls) (map-append sent (map data_word words) (data_word value ∷ []))

pub message_push : (message : Message) (string : Wordstring) → 0 < length message
    → message_lines (message ++ string ∷ []) ≡ message_lines message ++ (Quiet inner_gap ∷ string_lines string)
message_push [] string some = absurd (omega (arith, some))
message_push (first ∷ others) string some =
    let next : Wordstring → List WaveLine = λ s. Quiet inner_gap ∷ string_lines s in
    ap (λ ls. string_lines first ++ ls) (flat_map-append next others (string ∷ []) ∙ ap (λ ls. flat_map next others ++ ls) (append-nil (next string)))
    ∙ sym (append_assoc (string_lines first) (flat_map next others) (next string))

pub word_push : (message : Message) (line : SendLine) (words : List ℕ) (value : ℕ)
    → message_lines (message ++ string_of line (words ++ value ∷ []) ∷ []) ≡ message_lines (message ++ string_of line words ∷ []) ++ sent (data_word value) ∷ []
word_push [] line words value =
    append-nil (string_lines (string_of line (words ++ value ∷ []))) ∙ string_push line words value
    ∙ ap (λ ls. ls ++ sent (data_word value) ∷ []) (sym (append-nil (string_lines (string_of line words))))
word_push (first ∷ others) line words value =
    let message : Message = first ∷ others in
    message_push message (string_of line (words ++ value ∷ [])) (omega arith)
    ∙ ap (λ ls. message_lines message ++ (Quiet inner_gap ∷ ls)) (string_push line words value)
    ∙ sym (append_assoc (message_lines message) (Quiet inner_gap ∷ string_lines (string_of line words)) (sent (data_word value) ∷ []))
    ∙ ap (λ ls. ls ++ sent (data_word value) ∷ []) (sym (message_push message (string_of line words) (omega arith)))

-- a label word that is that of a line
pub label_is : (line : SendLine) (value : ℕ) → value / 16 ≡ line.label → value % 16 ≡ line.ext
    → label_word line.label line.ext ≡ (let word : Word = record { kind = Label; value = value } in word)
label_is line value e f =
    let same : 16 * line.label + line.ext ≡ value = omega (arith, e, f) in
    ap (λ v. (let word : Word = record { kind = Label; value = v } in word)) same

-- ---- a state's lines and one more
-- the label word of a message that begins
pub begin_lines : (at : ℕ) (list : List Entry) (terminal : ℕ) (line : SendLine) (word : Word) → label_word line.label line.ext ≡ word
    → lines_of (record { at = at + word_bits; list = list; phase = Saying (record { moment = at; terminal = terminal; message = [] }) line [] [] })
    ≡ lines_up_to at list ++ sent word ∷ []
begin_lines at list terminal line word same =
    let x : Entry = record { moment = at; terminal = terminal; message = string_of line [] ∷ [] } in
    let ends : last_end 0 (list ++ x ∷ []) ≡ at + word_bits = omega (arith, last_push 0 list x, bits_one (string_of line [])) in
    full_lines (at + word_bits) (list ++ x ∷ []) ends
    ∙ laid_push 0 list x
    ∙ sym (append_assoc (laid 0 list) (quiet_lines (at - last_end 0 list)) (message_lines x.message))
    ∙ ap (λ w. lines_up_to at list ++ sent w ∷ []) same

-- the label word of a further wordstring
pub next_lines : (at : ℕ) (list : List Entry) (x : Entry) (line : SendLine) (word : Word) → label_word line.label line.ext ≡ word
    → 0 < length x.message → at ≡ end_of x + inner_gap
    → lines_up_to (at + word_bits) (list ++ with_string x (string_of line []) ∷ []) ≡ lines_up_to at (list ++ x ∷ []) ++ sent word ∷ []
next_lines at list x line word same some now =
    let y : Entry = with_string x (string_of line []) in
    let before : List WaveLine = quiet_lines (x.moment - last_end 0 list) in
    let ends : last_end 0 (list ++ y ∷ []) ≡ at + word_bits = omega (arith, last_push 0 list y, bits_push x.message (string_of line []) some, now) in
    let old : lines_up_to at (list ++ x ∷ []) ≡ laid 0 (list ++ x ∷ []) ++ Quiet inner_gap ∷ [] =
    ap (λ n. lines_up_to n (list ++ x ∷ [])) now ∙ more_lines (end_of x) inner_gap (list ++ x ∷ []) (last_push 0 list x) (omega arith) in
    full_lines (at + word_bits) (list ++ y ∷ []) ends
    ∙ laid_push 0 list y
    ∙ ap (λ ls. laid 0 list ++ (before ++ ls)) (message_push x.message (string_of line []) some)
    ∙ ap (λ w. laid 0 list ++ (before ++ (message_lines x.message ++ (Quiet inner_gap ∷ sent w ∷ [])))) same
    ∙ ap (λ ls. laid 0 list ++ ls) (sym (append_assoc before (message_lines x.message) (Quiet inner_gap ∷ sent word ∷ [])))
    ∙ sym (append_assoc (laid 0 list) (before ++ message_lines x.message) (Quiet inner_gap ∷ sent word ∷ []))
    ∙ ap (λ ls. ls ++ (Quiet inner_gap ∷ sent word ∷ [])) (sym (laid_push 0 list x))
    ∙ sym (append_assoc (laid 0 (list ++ x ∷ [])) (Quiet inner_gap ∷ []) (sent word ∷ []))
    ∙ ap (λ ls. ls ++ sent word ∷ []) (sym old)

-- a data word
pub data_lines : (at : ℕ) (list : List Entry) (x : Entry) (line : SendLine) (words : List ℕ) (value : ℕ)
    → at ≡ end_of (with_string x (string_of line words))
    → lines_up_to (at + word_bits) (list ++ with_string x (string_of line (words ++ value ∷ [])) ∷ [])
    ≡ lines_up_to at (list ++ with_string x (string_of line words) ∷ []) ++ sent (data_word value) ∷ []
data_lines at list x line words value now =
    let y : Entry = with_string x (string_of line words) in
    let z : Entry = with_string x (string_of line (words ++ value ∷ [])) in
    let before : List WaveLine = quiet_lines (x.moment - last_end 0 list) in
    let ends : last_end 0 (list ++ z ∷ []) ≡ at + word_bits = omega (arith, last_push 0 list z, bits_word x.message line words value, now) in
    full_lines (at + word_bits) (list ++ z ∷ []) ends
    ∙ laid_push 0 list z
    ∙ ap (λ ls. laid 0 list ++ (before ++ ls)) (word_push x.message line words value)
    ∙ ap (λ ls. laid 0 list ++ ls) (sym (append_assoc before (message_lines y.message) (sent (data_word value) ∷ [])))
    ∙ sym (append_assoc (laid 0 list) (before ++ message_lines y.message) (sent (data_word value) ∷ []))
    ∙ ap (λ ls. ls ++ sent (data_word value) ∷ []) (sym (laid_push 0 list y) ∙ sym (full_lines at (list ++ y ∷ []) (last_push 0 list y ∙ sym now)))
