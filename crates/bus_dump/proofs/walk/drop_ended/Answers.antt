use Rattle.std.proofs.Common.{rules, tests}
use Rattle.arrayvec.proofs.ArrayVecLemmas.{filter-from_retain}
use Rattle.bus_dump.specs.inside.Walks.{ends_after}
use Rattle.bus_dump.proofs.walk.drop_ended.Goals as goal

pub returns : goal.returns
returns c = filter-from_retain _ (ends_after c.args.t) _ (λ x b f y r. search (rules, tests)) _ _ c.retain.ensures.filtered
