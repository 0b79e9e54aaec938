use Rattle.std.proofs.Common.{sym, ◌∙◌}
use Rattle.bus_cable.specs.Cables.{place_on}
use Rattle.bus_diagnosis.proofs.ReachLemmas.{next_pairs}
use Rattle.bus_diagnosis.proofs.reach.farthest_pair.Goals as goal

pub loop-sender-preserved : goal.loop-sender-preserved
loop-sender-preserved c =
    sym (next_pairs c.args.table.now (place_on c.args.cable.now) c.loop-sender.found c.with_senders-found.result c.with_listeners-found.result
    c.senders-sender-items.result.now c.senders.result.now c.listeners.result.now c.loop-sender.sender-index c.sender-item.result c.number.result
    c.number-in-loop-sender.result c.senders-sender-items.ensures.value c.senders.ensures.value c.listeners.ensures.value c.loop-sender-test.true
    c.sender-item.is c.number.ensures.value c.number-in-loop-sender.ensures.value c.with_senders-found.ensures c.with_listeners-found.ensures)
    ∙ c.loop-sender.invariant
