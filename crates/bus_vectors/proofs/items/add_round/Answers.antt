use Rattle.bus_vectors.specs.Made.{made_item}
use Rattle.bus_vectors.proofs.ItemLemmas.{items_next}
use Rattle.bus_vectors.proofs.items.add_round.Goals as goal

pub loop-i-preserved : goal.loop-i-preserved
loop-i-preserved c =
    items_next (made_item c.args.number c.args.round) c.loop-i.i c.in_ok-item.field-0 c.args.items.now.items c.loop-i.items.items
    c.push.new.self.items c.loop-i.invariant.0 c.in_ok-push.ensures.items c.in_ok-item.ensures c.loop-i.invariant.1
