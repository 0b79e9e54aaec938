-- The text of the votes as it is put. That it is the text is proved in `proofs/`.
use Rattle.std.specs.Prelude.{ℕ, List, [], Option, if◌then◌else◌}
use Rattle.std.specs.Option.{option_map_or}
use Rattle.bus_strings.specs.Messages.{Entry}
use Rattle.bus_table.specs.Tables.{Table}
use Rattle.bus_vote.specs.Labels.{VotedLabel, channels, voted}
use Rattle.bus_vote.specs.Rounds.{first_words, second_words, third_words}
use Rattle.bus_vote.specs.VoteTexts.{place_text, round_text, label_text}
use Rattle.bus_vote.specs.Votes.{two_are_present, vote_at, votes}

-- The vote of three lists at a place.
abbrev pub place_put : Option (List ℕ) → Option (List ℕ) → Option (List ℕ) → ℕ → List ℕ
place_put a b c place = place_text (vote_at a b c place)

-- The line of a round with these lists, where it is voted.
abbrev pub words_put : ℕ → Option (List ℕ) → Option (List ℕ) → Option (List ℕ) → List ℕ
words_put round a b c = if two_are_present a b c then round_text round (votes a b c) else []

-- The line of a round of a voted label, where it is voted.
abbrev pub round_put : List Entry → VotedLabel → ℕ → List ℕ
round_put list voted round = words_put round (first_words list voted round) (second_words list voted round) (third_words list voted round)

-- A label, where it is voted on.
abbrev pub label_put : Table → List Entry → ℕ → List ℕ
label_put table list label = option_map_or (label_text list) (voted label (channels table label)) []
