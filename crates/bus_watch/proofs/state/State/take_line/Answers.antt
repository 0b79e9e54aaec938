use Rattle.bus_stream.specs.Items.{item_of}
use Rattle.bus_watch.proofs.ItemLemmas.{item_fits}
use Rattle.bus_watch.proofs.LineLemmas.{puts_refused}
use Rattle.bus_watch.proofs.state.State.take_line.Goals as goal

pub take_item-requires-clause-item : goal.take_item-requires-clause-item
take_item-requires-clause-item g c = item_fits c.args.line.now c.in-Ok.item c.in-Ok.ensures

pub returns-in-Err-clause-puts : goal.returns-in-Err-clause-puts
returns-in-Err-clause-puts g c =
    puts_refused (Unit {0}) g.K.Sink.held g.K.Sink.faults c.args.sink.now c.args.text.now c.args.setting.now.bounds c.args.setting.now.table.now
    c.args.self.now c.args.self.now c.args.number (item_of c.args.line.now) c.in-Err.fault c.in-Err.ensures
