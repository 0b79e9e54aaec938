use Rattle.std.proofs.Common.{sym, ◌∙◌}
use Rattle.bus_dump.proofs.WalkLemmas.{walk_stands}
use Rattle.bus_dump.proofs.walk.Walk.begin_all.Goals as goal

pub returns-clause-stands : goal.returns-clause-stands
returns-clause-stands c =
    let kept = c.loop-self.invariant in
    walk_stands c.loop-self.self.list.now c.args.t c.loop-self.self kept.walkable kept.reaches (sym c.begins.ensures.value ∙ c.loop-self-test.false)
