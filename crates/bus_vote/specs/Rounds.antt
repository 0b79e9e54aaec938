-- What the channels of a label have in the rounds of a list of transmissions.
--   round   of a sender: the number of one of its transmissions, from 0, garbled ones counted too
use Rattle.std.specs.Prelude.{ℕ, Bool, ◌&&◌, ◌==◌, List, length, slice_get, Option, None, if◌then◌else◌}
use Rattle.std.specs.List.{filter, find, range_with_len, zip}
use Rattle.std.specs.Option.{option_and_then, option_map}
use Rattle.bus_strings.specs.Messages.{Wordstring, Message, Entry}
use Rattle.bus_strings.specs.Transmissions.{marks}
use Rattle.bus_vote.specs.Labels.{Channel, VotedLabel}
use Rattle.bus_vote.specs.Votes.{two_are_present, votes}

-- Whether a transmission, which is marked where it is garbled, is of a terminal.
abbrev pub is_of : ℕ → Entry × Bool → Bool
is_of terminal marked = marked.0.terminal == terminal

-- The transmissions of a terminal, in order, each marked where it is garbled.
abbrev pub sent_by : ℕ → List Entry → List (Entry × Bool)
sent_by terminal list = filter (is_of terminal) (zip list (marks list))

-- Whether a wordstring has a label and an extension.
abbrev pub is_named : ℕ → ℕ → Wordstring → Bool
is_named label ext string = string.label == label && string.ext == ext

-- The data words of the first wordstring of a message with a label and an extension.
abbrev pub words_in : ℕ → ℕ → Message → Option (List ℕ)
words_in label ext message = option_map (λ (string : Wordstring). string.words) (find (is_named label ext) message)

-- What a transmission gives of them: none where it is garbled.
abbrev pub words_of : ℕ → ℕ → Entry × Bool → Option (List ℕ)
words_of label ext marked = if marked.1 then None else words_in label ext marked.0.message

-- The words of a channel of a label in a round.
abbrev pub channel_words : List Entry → ℕ → Channel → ℕ → Option (List ℕ)
channel_words list label channel round = option_and_then (words_of label channel.ext) (slice_get (sent_by channel.terminal list) round)

-- The words of the first channel of a voted label in a round.
abbrev pub first_words : List Entry → VotedLabel → ℕ → Option (List ℕ)
first_words list voted round = channel_words list voted.label voted.first round

-- The words of its second channel.
abbrev pub second_words : List Entry → VotedLabel → ℕ → Option (List ℕ)
second_words list voted round = channel_words list voted.label voted.second round

-- The words of its third channel.
abbrev pub third_words : List Entry → VotedLabel → ℕ → Option (List ℕ)
third_words list voted round = channel_words list voted.label voted.third round

-- Whether a round of a voted label is voted: at least two of its channels have words there.
abbrev pub is_voted : List Entry → VotedLabel → ℕ → Bool
is_voted list voted round = two_are_present (first_words list voted round) (second_words list voted round) (third_words list voted round)

-- The vote of a round.
abbrev pub round_votes : List Entry → VotedLabel → ℕ → List (Option ℕ)
round_votes list voted round = votes (first_words list voted round) (second_words list voted round) (third_words list voted round)

-- The voted rounds, in order. A list has no more rounds than transmissions.
abbrev pub voted_rounds : List Entry → VotedLabel → List ℕ
voted_rounds list voted = filter (is_voted list voted) (range_with_len 0 (length list))
