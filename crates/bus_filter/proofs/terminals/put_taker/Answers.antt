use Rattle.std.proofs.Common.{List, ℕ, ◌++◌, codes, ap, subst}
use Rattle.std.specs.Fmt.{decimal}
use Rattle.bus_outer.specs.Texts.{Adds}
use Rattle.bus_outer.proofs.TextLaws.{◌▸◌}
use Rattle.bus_filter.specs.Received.{Taker}
use Rattle.bus_filter.proofs.PutLemmas.{list_is}
use Rattle.bus_filter.proofs.terminals.put_taker.Goals as goal

pub returns-clause-text : goal.returns-clause-text
returns-clause-text g c =
    let taker : Taker = record { number = c.args.number; takes = c.args.takes.now } in
    let e = ap (λ t. codes "TERMINAL " ++ decimal c.args.number ++ codes "\n" ++ t) (list_is c.args.list.now taker) in
    subst (λ (t : List ℕ). Adds g.K.Sink.held g.K.Sink.faults c.args.sink.now c.put_heard.new.sink c.args.text.now c.put_heard.new.text t) e
    (c.put.ensures ▸ c.put_number.ensures ▸ c.put_byte.ensures ▸ c.put_heard.ensures.text)
