-- The transmissions of a list, as pictures tell of them.
use Rattle.std.specs.Prelude.{◌≡◌, ℕ, ◌+◌, ◌≤◌, Bool, ◌==◌, List, [], ◌∷◌, length, take, drop, slice_index_or}
use Rattle.std.specs.List.{count_by}
use Rattle.bus_strings.specs.Limits.{most_terminal}
use Rattle.bus_strings.specs.Marking.{greatest_end}
use Rattle.bus_strings.specs.Messages.{Entry}
use Rattle.bus_strings.specs.Transmissions.{IsByMoment, end_of, garbled, marks}
use Rattle.bus_shapes.specs.Sayings.{Sent}

-- Whether a transmission is of a terminal.
abbrev pub is_of : ℕ → Entry → Bool
is_of terminal x = x.terminal == terminal

-- What is told of entry k of a list, given the entry.
abbrev pub sent_of : List Entry → ℕ → Entry → Sent
sent_of list k x = record {
  at = k;
  terminal = x.terminal;
  number = count_by (is_of x.terminal) (take (k + 1) list);
  moment = x.moment;
  end = end_of x;
  before = greatest_end (take k list);
  garbled = garbled list k;
}

-- What is told of these entries of a list, of which the first is entry k.
abbrev pub sents_from : List Entry → ℕ → List Entry → List Sent
sents_from list k [] = []
sents_from list k (x ∷ xs) = sent_of list k x ∷ sents_from list (k + 1) xs

-- What is told of a list.
abbrev pub sents : List Entry → List Sent
sents list = sents_from list 0 list

-- What a walk keeps that has told of the first `at` entries: when these have ended, how many of them each terminal has, and which of the
-- others are garbled.
pub record IsTelling (list : List Entry) (at before : ℕ) (counts : List ℕ) (left : List Bool) : Type 0 where
  pub order : IsByMoment list
  pub within : at ≤ length list
  pub ends : before ≡ greatest_end (take at list)
  pub counted : (n : ℕ) → n ≤ most_terminal → slice_index_or counts n 0 ≡ count_by (is_of n) (take at list)
  pub marks : left ≡ drop at (marks list)
