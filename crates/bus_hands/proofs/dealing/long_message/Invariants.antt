use Rattle.std.proofs.Common.{◌≡◌, ◌≤◌, true, ◌++◌, length, drop}
use Rattle.std.specs.Vec.Iter.{into_iter_items}
use Rattle.bus_strings.specs.Items.{numbers}
use Rattle.bus_table.specs.Fits.{has_shape}
use Rattle.bus_table.specs.Hands.{message_of}
use Rattle.bus_hands.proofs.dealing.long_message.Given as goal

abbrev pub invariant-loop-words : goal.invariant-loop-words
invariant-loop-words l = record {
  within : l.k ≤ length l.sends;
  count : length l.wordstrings.items ≡ l.k;
  shape : has_shape (drop l.k l.sends) (numbers (into_iter_items l.words-iterator)) ≡ true;
  made : l.wordstrings.items ++ message_of (drop l.k l.sends) (numbers (into_iter_items l.words-iterator)) ≡ message_of l.sends (numbers l.fn.strings.items);
}
