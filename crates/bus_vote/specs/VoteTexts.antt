-- The text of the votes of a table and a list of transmissions: each voted label, and each of its voted rounds.
use Rattle.std.specs.Prelude.{ℕ, List, ◌++◌, codes, decimal, Option, Some, None}
use Rattle.std.specs.List.{flat_map}
use Rattle.bus_text.specs.Digits.{hexadecimal}
use Rattle.bus_strings.specs.Messages.{Entry}
use Rattle.bus_table.specs.Tables.{Table}
use Rattle.bus_vote.specs.Labels.{VotedLabel, voted_labels}
use Rattle.bus_vote.specs.Rounds.{voted_rounds, round_votes}

-- A place: four hexadecimal digits in capitals, or `----` where it is undecided.
abbrev pub place_text : Option ℕ → List ℕ
place_text (Some word) = codes " " ++ hexadecimal 4 word
place_text None = codes " ----"

-- `V k w ..`: the vote of round k.
abbrev pub round_text : ℕ → List (Option ℕ) → List ℕ
round_text round places = codes "V " ++ decimal round ++ flat_map place_text places ++ codes "\n"

-- `LABEL l n n n`: a voted label, and the senders of its channels.
abbrev pub label_line : VotedLabel → List ℕ
label_line voted =
    codes "LABEL " ++ hexadecimal 3 voted.label ++ codes " " ++ decimal voted.first.terminal ++ codes " "
    ++ decimal voted.second.terminal ++ codes " " ++ decimal voted.third.terminal ++ codes "\n"

-- A voted label and its rounds.
abbrev pub label_text : List Entry → VotedLabel → List ℕ
label_text list voted = label_line voted ++ flat_map (λ round. round_text round (round_votes list voted round)) (voted_rounds list voted)

-- The one text of the votes: `VOTE 1`, each voted label in ascending order, and `END`.
abbrev pub votes_text : Table → List Entry → List ℕ
votes_text table list = codes "VOTE 1\n" ++ flat_map (label_text list) (voted_labels table) ++ codes "END\n"
