-- How old data are at most when they have been received: those that just miss a start of their sender go with its next message, and are
-- received when the last word of their wordstring has been heard.
--
--   |-message-|............longest wait...........|-message: wordstring|-more-|
--   ^ the data are there                                               |-delay-|
--
--   most   the verdict's: without delays two starts of a sender are at most so far apart
--   d      no terminal hears another later than that
use Rattle.std.specs.Prelude.{ℕ, ◌+◌, ◌*◌, List, take}
use Rattle.bus_strings.specs.Limits.{word_bits, inner_gap}
use Rattle.bus_table.specs.declared.line.SendLine.{SendLine}
use Rattle.bus_table.specs.declared.mode.Mode.{Mode}
use Rattle.bus_table.specs.declared.mode.Mode.TheVariants.{Aperiodic, Periodic}
use Rattle.bus_table.specs.Lengths.{words_at_most}
use Rattle.bus_table.specs.Tables.{Sender, Table}
use Rattle.bus_reach.specs.Runs.{cycle_delay}

-- How far apart two starts of a sender are at most, in this mode: delays add to an aperiodic cycle alone.
abbrev pub wait_in : Mode → Table → (most d : ℕ) → ℕ
wait_in Aperiodic table most d = most + cycle_delay table d
wait_in Periodic table most d = most

-- The longest wait from one start of a sender to its next.
abbrev pub longest_wait : Table → (most d : ℕ) → ℕ
longest_wait table most d = wait_in table.mode table most d

-- How long behind its start the longest message of these lines ends the wordstring on the line at this place, from 0.
abbrev pub string_end : List SendLine → ℕ → ℕ
string_end sends place = word_bits * words_at_most (take (place + 1) sends) + inner_gap * place

-- The latency of data on the line at this place of a sender.
abbrev pub latency : Table → (most d : ℕ) → Sender → ℕ → ℕ
latency table most d sender place = longest_wait table most d + string_end sender.sends place + d
