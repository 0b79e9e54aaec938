use Rattle.std.proofs.Common.{ℕ, List, Option, ◌∙◌}
use Rattle.std.specs.Option.{option_copied}
use Rattle.bus_vote.proofs.VotingLemmas.{vote_is, vote_of_two}
use Rattle.bus_vote.proofs.voting.vote.Goals as goal

pub returns-clause-fixed : goal.returns-clause-fixed
returns-clause-fixed c =
    let a : Option (List ℕ) = option_copied c.args.a in
    let b : Option (List ℕ) = option_copied c.args.b in
    let d : Option (List ℕ) = option_copied c.args.c in
    let value = vote_is a b d c.args.place c.word_at-a.result c.word_at-b.result c.word_at-c.result c.majority.result
    c.word_at-a.ensures c.word_at-b.ensures c.word_at-c.ensures c.majority.ensures in
    λ words two. value ∙ vote_of_two words a b d c.args.place two c.requires.within
