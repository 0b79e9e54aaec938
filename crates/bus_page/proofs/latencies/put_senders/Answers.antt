use Rattle.std.proofs.Common.{List, ℕ, arith, sym, subst}
use Rattle.bus_strings.proofs.ListLaws.{flat_map-take}
use Rattle.bus_table.specs.Tables.{Sender}
use Rattle.bus_outer.specs.Texts.{Adds}
use Rattle.bus_outer.proofs.TextLaws.{◌▸◌}
use Rattle.bus_page.specs.Latencies.{sender_rows}
use Rattle.bus_page.proofs.OrderLemmas.{all_lines}
use Rattle.bus_page.proofs.latencies.put_senders.Goals as goal

pub loop-k-preserved : goal.loop-k-preserved
loop-k-preserved g c =
    let form = sender_rows c.args.table.now c.args.most c.args.tolerance in
    let one : Sender = c.index-senders-k.result in
    let next = flat_map-take form c.args.senders.now c.loop-k.k one c.loop-k-test.true c.index-senders-k.is in
    subst (λ (t : List ℕ). Adds g.K.Sink.held g.K.Sink.faults c.args.sink.now c.put_sender.new.sink c.args.text.now c.put_sender.new.text t) (sym next)
    (c.loop-k.invariant ▸ c.put_sender.ensures)

pub returns : goal.returns
returns g c =
    let form = sender_rows c.args.table.now c.args.most c.args.tolerance in
    let all = all_lines form c.args.senders.now c.loop-k.k (omega (arith, c.loop-k-test.false, c.loop-k.auto.k-end)) in
    subst (λ (t : List ℕ). Adds g.K.Sink.held g.K.Sink.faults c.args.sink.now c.loop-k.sink c.args.text.now c.loop-k.text t) all c.loop-k.invariant
