-- What follows of the definitions of votes. `laws` says that each of these holds.
use Rattle.std.specs.Prelude.{◌≡◌, ◌<◌, ℕ, IsTrue, List, Some, map, Option}
use Rattle.bus_strings.specs.Members.{In}
use Rattle.bus_strings.specs.Messages.{Entry}
use Rattle.bus_table.specs.Tables.{Table, Hand}
use Rattle.bus_table.specs.Valid.{is_valid}
use Rattle.bus_regime.specs.Verdicts.{verdict_of, is_accepted}
use Rattle.bus_schedule.specs.Even.{are_even, message_in, rounds}
use Rattle.bus_schedule.specs.Closed.{closed}
use Rattle.bus_vote.specs.Labels.{Channel, VotedLabel, voted_labels}
use Rattle.bus_vote.specs.Rounds.{words_in, channel_words, first_words, second_words, third_words, is_voted, round_votes, voted_rounds}
use Rattle.bus_vote.specs.Votes.{TwoAre, votes}

-- Where two lists are present and equal, the vote is that list, of its length, with no place undecided, whatever the third is.
abbrev pub TwoFixTheVote : Type 0
TwoFixTheVote = (words : List ℕ) (a b c : Option (List ℕ)) → TwoAre words a b c → votes a b c ≡ map Some words

-- Two channels of a voted label that have the same words in a round of a list fix its vote there, whatever the third has.
abbrev pub IsFixedByTwo : List Entry → Type 0
IsFixedByTwo list =
    (voted : VotedLabel) (round : ℕ) (words : List ℕ)
    → TwoAre words (first_words list voted round) (second_words list voted round) (third_words list voted round)
    → round_votes list voted round ≡ map Some words

-- A round in which two channels of a voted label have words is one of those that are written: there are no more rounds than transmissions.
abbrev pub IsWrittenWhereVoted : List Entry → Type 0
IsWrittenWhereVoted list =
    (voted : VotedLabel) (round : ℕ) → IsTrue (is_voted list voted round) → In round (voted_rounds list voted)

-- It is so of every list.
abbrev pub VotedAreWritten : Type 0
VotedAreWritten = (list : List Entry) → IsWrittenWhereVoted list

-- Two channels fix the vote in every list.
abbrev pub ListsAreFixedByTwo : Type 0
ListsAreFixedByTwo = (list : List Entry) → IsFixedByTwo list

-- The words that the message of a round in the hand of a channel's sender has for the channel.
abbrev pub hand_words : List Hand → ℕ → Channel → ℕ → Option (List ℕ)
hand_words hands label channel round = words_in label channel.ext (message_in hands channel.terminal round)

-- In a round of a list a channel has the words of its sender's hand.
pub record Brings (hands : List Hand) (list : List Entry) (label : ℕ) (channel : Channel) (round : ℕ) : Type 0 where
  pub words : List ℕ
  pub sent : hand_words hands label channel round ≡ Some words
  pub had : channel_words list label channel round ≡ Some words

-- A round of a voted label is voted, and each of its channels has the words of its sender's hand; so two hands that are alike there fix
-- the vote.
pub record IsVotedFrom (hands : List Hand) (list : List Entry) (voted : VotedLabel) (round : ℕ) : Type 0 where
  pub is_voted : IsTrue (is_voted list voted round)
  pub first : Brings hands list voted.label voted.first round
  pub second : Brings hands list voted.label voted.second round
  pub third : Brings hands list voted.label voted.third round
  pub fixed : (words : List ℕ) → TwoAre words (hand_words hands voted.label voted.first round)
      (hand_words hands voted.label voted.second round) (hand_words hands voted.label voted.third round)
      → round_votes list voted round ≡ map Some words

-- Where a list is the closed schedule of even hands of an accepted table, every round of a voted label below the number of messages is
-- voted, from the words of the messages of that round in the three hands.
abbrev pub IsVotedInRuns : Table → List Entry → Type 0
IsVotedInRuns table list =
    (hands : List Hand) (voted : VotedLabel) (round : ℕ) → IsTrue (is_accepted (verdict_of table)) → IsTrue (are_even table hands)
    → list ≡ closed table hands → In voted (voted_labels table) → round < rounds hands → IsVotedFrom hands list voted round

-- The same of every valid table and every list.
abbrev pub RunsAreVoted : Type 0
RunsAreVoted = (table : Table) (list : List Entry) → IsTrue (is_valid table) → IsVotedInRuns table list
