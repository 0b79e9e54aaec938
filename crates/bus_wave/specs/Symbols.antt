-- What a line of a wave text says by itself, or why it says nothing. Its fields are those of a line of a trace text: it is split at each
-- single space, so a doubled, leading or trailing space makes an empty field.
--   symbol   quiet bit times, a word, or the end
use Rattle.std.specs.Prelude.{ℕ, Bool, not, ◌&&◌, ◌==◌, List, [], ◌∷◌, length, codes, Option, Some, None}
use Rattle.std.specs.Prelude.{Result, Ok, Err, slice_index_or, if◌then◌else◌}
use Rattle.std.specs.List.{list_all}
use Rattle.bus_text.specs.Digits.{is_capital_digit}
use Rattle.bus_text.specs.Fields.{is_at}
use Rattle.bus_text.specs.Headers.{is_format_one}
use Rattle.bus_text.specs.Numbers.{is_plain_decimal, decimal_value}
use Rattle.bus_text.specs.Refusals.{first_of, unless}
use Rattle.bus_words.specs.declared.word.FramedWord.{FramedWord}
use Rattle.bus_words.specs.declared.word.Word.{Word}
use Rattle.bus_words.specs.declared.word.WordError.{WordError}
use Rattle.bus_words.specs.Words.{unframe}
use Rattle.bus_wave.specs.declared.fault.WaveReason.{WaveReason}
use Rattle.bus_wave.specs.declared.fault.WaveReason.TheVariants.{Keyword, Fields, Spelling, Code, Parity}
use Rattle.bus_wave.specs.declared.symbol.Symbol.{Symbol}
use Rattle.bus_wave.specs.declared.symbol.Symbol.TheVariants.{Quiet, Sent, End}
use Rattle.bus_wave.specs.Code.{halves_of, frame_of}

-- Why the first line is refused.
abbrev pub head_refusal : List (List ℕ) → Option WaveReason
head_refusal fields = first_of
    ((not (is_at fields 0 (codes "WAVE")), Keyword)
    ∷ (not (is_format_one fields), Fields)
    ∷ [])

-- What the first line reads as.
unfoldable pub head_reading : List (List ℕ) → Result (Unit {0}) WaveReason
head_reading fields = unless (head_refusal fields) tt

-- Ten hexadecimal digits in capitals.
abbrev pub are_digits : List ℕ → Bool
are_digits field = length field == 10 && list_all is_capital_digit field

-- The word of a frame, unless its parity bit is another than its value's.
abbrev pub parity_checked : Result Word WordError → Result Symbol WaveReason
parity_checked (Ok word) = Ok (Sent word)
parity_checked (Err error) = Err Parity

-- The word that half bits are the code of, if they are.
abbrev pub coded : Option FramedWord → Result Symbol WaveReason
coded None = Err Code
coded (Some frame) = parity_checked (unframe frame)

-- What the second field of a W line reads as.
abbrev pub word_reading : List ℕ → Result Symbol WaveReason
word_reading field = if are_digits field then coded (frame_of (halves_of field)) else Err Spelling

-- What the second field of a Q line reads as.
abbrev pub quiet_reading : List ℕ → Result Symbol WaveReason
quiet_reading field = if is_plain_decimal field then Ok (Quiet (decimal_value field)) else Err Spelling

-- What a line reads as that has two fields, and needs that.
abbrev pub second_reading : (List ℕ → Result Symbol WaveReason) → List (List ℕ) → Result Symbol WaveReason
second_reading read fields = if length fields == 2 then read (slice_index_or fields 1 []) else Err Fields

-- What a further line reads as.
unfoldable pub symbol_reading : List (List ℕ) → Result Symbol WaveReason
symbol_reading fields =
    if is_at fields 0 (codes "W") then second_reading word_reading fields
    else if is_at fields 0 (codes "Q") then second_reading quiet_reading fields
    else if is_at fields 0 (codes "END") then (if length fields == 1 then Ok End else Err Fields)
    else Err Keyword
