use Rattle.std.specs.List.{count_by}
use Rattle.bus_strings.specs.Transmissions.{pulses}
use Rattle.bus_dump.specs.Seen.{seen_at}
use Rattle.bus_dump.specs.Signals.{words}
use Rattle.bus_dump.proofs.NumberLemmas.{bit_pulse, word_number}
use Rattle.bus_dump.proofs.WordLemmas.{word_floating, word_unknown, words_seen}
use Rattle.bus_dump.proofs.laws.word_is_told.Goals as goal

pub returns-clause-word : goal.returns-clause-word
returns-clause-word c dump breach table list t = record {
  floating = word_floating (words (seen_at list t)) (count_by (pulses t) list) (words_seen list t);
  number = λ x bit i e one. word_number list t x bit i e one;
  unknown = word_unknown (words (seen_at list t)) (count_by (pulses t) list) (words_seen list t);
}

pub returns-clause-bits : goal.returns-clause-bits
returns-clause-bits c = bit_pulse
