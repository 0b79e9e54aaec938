use Rattle.bus_vectors.specs.Made.{made_sender}
use Rattle.bus_vectors.proofs.TableLemmas.{mapped_next}
use Rattle.bus_vectors.proofs.tables.senders.Goals as goal

pub loop-i-preserved : goal.loop-i-preserved
loop-i-preserved c =
    mapped_next made_sender c.loop-i.i c.in_ok-sender.field-0 c.loop-i.senders.items c.push.new.self.items c.loop-i.invariant.0
    c.in_ok-push.ensures.items c.in_ok-sender.ensures c.loop-i.invariant.1
