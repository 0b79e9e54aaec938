use Rattle.std.proofs.Common.{◌≡◌, ◌≤◌, ℕ, List, length}
use Rattle.bus_strings.specs.inside.Building.{with_strings}
use Rattle.bus_strings.proofs.item.take_words.Given as goal

abbrev pub invariant-loop-word : goal.invariant-loop-word
invariant-loop-word l = record {
  taken : (whole : List (List ℕ)) → with_strings whole l.words.items l.fields ≡ with_strings whole l.fn.words.items l.fn.fields;
  fewer : length l.fields ≤ length l.fn.fields;
}

abbrev pub decreases-loop-word : goal.decreases-loop-word
decreases-loop-word l = length l.fields
