-- The wave of a trace: what the bus carries in each half bit time.
--   half    what the bus carries in a half bit time: quiet, 0 or 1
--   wave    a half for each half bit time, from the first
use Rattle.std.specs.Prelude.{ℕ, ◌-◌, ◌*◌, nat_lt, Bool, List, [], ◌∷◌, ◌++◌, map, get_or, replicate, Option, Some, None, if◌then◌else◌}
use Rattle.std.specs.List.{flat_map, range_with_len}
use Rattle.std.specs.Option.{option_or}
use Rattle.bus_words.specs.declared.word.Word.{Word}
use Rattle.bus_words.specs.Words.{frame}
use Rattle.bus_strings.specs.Limits.{inner_gap}
use Rattle.bus_strings.specs.Messages.{Wordstring, Message, Entry, words_of}
use Rattle.bus_trace.specs.Traces.{Recording}
use Rattle.bus_wave.specs.Code.{frame_halves}

-- Quiet, or a half bit.
abbrev pub Half : Type 0
Half = Option Bool

-- So many quiet bit times.
abbrev pub quiet : ℕ → List Half
quiet n = replicate (2 * n) None

-- The half bits of a word with its parity bit.
abbrev pub word_halves : Word → List Bool
word_halves word = frame_halves (frame word)

-- The wave of a wordstring: that of its words.
abbrev pub string_wave : Wordstring → List Half
string_wave string = map Some (flat_map word_halves (words_of string))

-- The wave of a message: that of its wordstrings, and quiet for the inner gap between two of them.
abbrev pub message_wave : Message → List Half
message_wave [] = []
message_wave (string ∷ strings) = string_wave string ++ flat_map (λ next. quiet inner_gap ++ string_wave next) strings

-- What a transmission carries at a half bit time of the bus: quiet before its moment and behind its end.
abbrev pub half_of : Entry → ℕ → Half
half_of x time = if nat_lt time (2 * x.moment) then None else get_or (message_wave x.message) (time - 2 * x.moment) None

-- What the bus carries at a half bit time: what the first transmission carries that isn't quiet then.
abbrev pub half_at : List Entry → ℕ → Half
half_at [] time = None
half_at (x ∷ xs) time = option_or (half_of x time) (half_at xs time)

-- The wave of a trace: a half for each half bit time below twice its horizon.
unfoldable pub wave : Recording → List Half
wave t = map (half_at t.list) (range_with_len 0 (2 * t.horizon))
