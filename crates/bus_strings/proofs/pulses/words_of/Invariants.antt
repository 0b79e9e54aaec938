use Rattle.std.proofs.Common.{◌≡◌, ◌*◌, ◌≤◌, take, sum_by}
use Rattle.bus_strings.specs.Messages.{word_count}
use Rattle.bus_strings.proofs.pulses.words_of.Given as goal

abbrev pub invariant-loop-string : goal.invariant-loop-string
invariant-loop-string l = record {
  value : l.words ≡ sum_by word_count (take l.string-index l.strings);
  least : l.string-index ≤ l.words;
  most : l.words ≤ 257 * l.string-index;
}
