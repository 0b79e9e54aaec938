use Rattle.std.proofs.Common.{subst}
use Rattle.bus_strings.specs.inside.Kept.{IsKept}
use Rattle.bus_strings.proofs.wordstring.Wordstring.words.Goals as goal

pub shared_ref_as_front-result : goal.shared_ref_as_front-result
shared_ref_as_front-result c = (subst IsKept c.in-Short.is c.self.invariant).1
