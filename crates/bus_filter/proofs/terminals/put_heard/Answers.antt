use Rattle.std.proofs.Common.{List, ℕ, subst, sym}
use Rattle.std.specs.List.{zip}
use Rattle.bus_outer.specs.Texts.{Adds}
use Rattle.bus_outer.proofs.TextLaws.{adds_nothing}
use Rattle.bus_strings.specs.Transmissions.{marks}
use Rattle.bus_filter.specs.Received.{Taker}
use Rattle.bus_filter.proofs.PutLemmas.{empty, takes_nothing}
use Rattle.bus_filter.proofs.terminals.put_heard.Goals as goal

pub returns-then-is_empty-clause-text : goal.returns-then-is_empty-clause-text
returns-then-is_empty-clause-text g c =
    let taker : Taker = record { number = c.args.number; takes = c.args.takes.now } in
    subst (λ (t : List ℕ). Adds g.K.Sink.held g.K.Sink.faults c.args.sink.now c.args.sink.now c.args.text.now c.args.text.now t)
    (sym (takes_nothing taker (zip c.args.list.now (marks c.args.list.now)) (empty c.args.takes.now c.is_empty.result c.is_empty.ensures c.if-is_empty.true)))
    (adds_nothing g.K.Sink.held g.K.Sink.faults c.args.sink.now c.args.text.now)
