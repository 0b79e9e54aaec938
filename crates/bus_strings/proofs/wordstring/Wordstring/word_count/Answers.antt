use Rattle.std.proofs.Common.{arith, length, ap, subst}
use Rattle.std.proofs.lemmas.List.{length-take}
use Rattle.bus_strings.specs.Messages.{Wordstring}
use Rattle.bus_strings.specs.inside.Kept.{kept_string, IsKept}
use Rattle.bus_strings.proofs.wordstring.Wordstring.word_count.Goals as goal

pub returns-in-Short-clause-value : goal.returns-in-Short-clause-value
returns-in-Short-clause-value c =
    let kept = subst IsKept c.in-Short.is c.self.invariant in
    let long = ap (λ k. length (kept_string k).words) c.in-Short.is in
    omega (arith, length-take c.in-Short.count c.in-Short.words, kept.0, kept.1, long, c.from.ensures, ap (λ (s : Wordstring). length s.words) c.self.view_is)
