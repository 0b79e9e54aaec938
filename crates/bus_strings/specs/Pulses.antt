-- The pulses of a message: each wordstring is one, and between two of them the message is quiet.
-- Bit times of a message and its pulses are counted from 0, the message's first bit time.
use Rattle.std.specs.Prelude.{ℕ, ◌+◌, ◌*◌, Bool, ◌&&◌, nat_lt, nat_le, length, take, slice_get}
use Rattle.std.specs.List.{sum_by, list_any, range_with_len}
use Rattle.std.specs.Option.{option_map_or}
use Rattle.bus_strings.specs.Limits.{word_bits, inner_gap}
use Rattle.bus_strings.specs.Messages.{Message, word_count}

-- Pulse k begins behind the words of the wordstrings before it, and the quiet behind each of these.
abbrev pub pulse_start : Message → ℕ → ℕ
pulse_start message k = word_bits * sum_by word_count (take k message) + inner_gap * k

-- Pulse k lasts as long as the words of its wordstring.
abbrev pub pulse_length : Message → ℕ → ℕ
pulse_length message k = option_map_or (λ string. word_bits * word_count string) (slice_get message k) 0

-- Whether pulse k covers bit time d.
abbrev pub is_covered : Message → ℕ → ℕ → Bool
is_covered message d k = nat_le (pulse_start message k) d && nat_lt d (pulse_start message k + pulse_length message k)

-- Whether some pulse covers bit time d.
abbrev pub is_on : Message → ℕ → Bool
is_on message d = list_any (is_covered message d) (range_with_len 0 (length message))
