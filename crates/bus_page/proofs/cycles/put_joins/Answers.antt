use Rattle.std.proofs.Common.{List, ℕ, sym, subst, arith}
use Rattle.bus_strings.proofs.ListLaws.{flat_map-next}
use Rattle.bus_outer.specs.Texts.{Adds}
use Rattle.bus_outer.proofs.TextLaws.{◌▸◌}
use Rattle.bus_page.specs.Cycles.{join_text}
use Rattle.std.proofs.lemmas.Grind.{common_steps}
use Rattle.bus_page.proofs.cycles.put_joins.Goals as goal

pub loop-turn-preserved : goal.loop-turn-preserved
loop-turn-preserved g c =
    let next = flat_map-next (join_text c.args.scale.now) c.args.turns.now c.loop-turn.turn-index _ c.loop-turn-test.true in
    subst (λ (t : List ℕ). Adds g.K.Sink.held g.K.Sink.faults c.args.sink.now c.put_join.new.sink c.args.text.now c.put_join.new.text t) (sym next)
    (c.loop-turn.invariant ▸ c.put_join.ensures)

pub returns : goal.returns
returns g c = grind (arith, common_steps)
