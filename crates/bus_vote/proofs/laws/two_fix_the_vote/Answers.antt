use Rattle.bus_vote.specs.Rounds.{first_words, second_words, third_words}
use Rattle.bus_vote.proofs.VotingLemmas.{votes_of_two}
use Rattle.bus_vote.proofs.WrittenLemmas.{voted_is_written}
use Rattle.bus_vote.proofs.laws.two_fix_the_vote.Goals as goal

pub returns : goal.returns
returns c = record {
  votes = votes_of_two;
  rounds = λ list voted round words two.
      votes_of_two words (first_words list voted round) (second_words list voted round) (third_words list voted round) two;
  written = voted_is_written;
}
