use Rattle.std.proofs.Common.{ℕ, List, Option, ◌≡◌, arith}
use Rattle.std.specs.Option.{option_copied}
use Rattle.bus_vote.specs.Votes.{width}
use Rattle.bus_vote.proofs.VotingLemmas.{width_is, within_width, width_of_two}
use Rattle.bus_vote.proofs.voting.width.Goals as goal

pub returns-clause-value : goal.returns-clause-value
returns-clause-value c =
    let a : Option (List ℕ) = option_copied c.args.a in
    let b : Option (List ℕ) = option_copied c.args.b in
    let d : Option (List ℕ) = option_copied c.args.c in
    omega (arith, width_is a b d, c.word_count-a.ensures, c.word_count-b.ensures, c.word_count-c.ensures)

pub returns-clause-places : goal.returns-clause-places
returns-clause-places c =
    let a : Option (List ℕ) = option_copied c.args.a in
    let b : Option (List ℕ) = option_copied c.args.b in
    let d : Option (List ℕ) = option_copied c.args.c in
    let value : c.max-2.result ≡ width a b d = omega (arith, width_is a b d, c.word_count-a.ensures, c.word_count-b.ensures, c.word_count-c.ensures) in
    λ place. within_width a b d c.max-2.result place value

pub returns-clause-fixed : goal.returns-clause-fixed
returns-clause-fixed c =
    let a : Option (List ℕ) = option_copied c.args.a in
    let b : Option (List ℕ) = option_copied c.args.b in
    let d : Option (List ℕ) = option_copied c.args.c in
    let value : c.max-2.result ≡ width a b d = omega (arith, width_is a b d, c.word_count-a.ensures, c.word_count-b.ensures, c.word_count-c.ensures) in
    λ words two. omega (arith, value, width_of_two words a b d two)
