use Rattle.bus_pen.proofs.ScaleLemmas.{place_rises, place_within}
use Rattle.bus_pen.proofs.laws.places_keep_order.Goals as goal

pub returns-clause-rise : goal.returns-clause-rise
returns-clause-rise c = place_rises

pub returns-clause-within : goal.returns-clause-within
returns-clause-within c = place_within
