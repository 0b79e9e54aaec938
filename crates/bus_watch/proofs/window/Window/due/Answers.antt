use Rattle.std.proofs.Common.{[], get_or}
use Rattle.std.proofs.lemmas.Option.{slice_get-get_or}
use Rattle.bus_table.specs.Tables.{Sender}
use Rattle.bus_watch.proofs.DueLemmas.{due_low, within_from}
use Rattle.bus_watch.proofs.window.Window.due.Goals as goal

pub returns-clause-within : goal.returns-clause-within
returns-clause-within c =
    let live = c.args.self.now.live in
    let none : Sender = record { number = 0; tg = 0; at = 0; sends = []; takes = [] } in
    let s : Sender = get_or live.table.senders c.args.place none in
    let at = slice_get-get_or live.table.senders c.args.place none c.requires.here in
    within_from c.args.self.now.base c.args.bit c.due.result c.requires.begun
    (due_low c.findings_are_exact.ensures.due live.bounds live.table live.list s _ c.due.result (c.due.ensures s at))
