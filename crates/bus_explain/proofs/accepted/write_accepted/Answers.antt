use Rattle.std.proofs.Common.{subst}
use Rattle.bus_outer.specs.Texts.{Adds}
use Rattle.bus_outer.proofs.TextLaws.{◌▸◌, ends_text}
use Rattle.bus_table.specs.declared.mode.Mode.{Mode}
use Rattle.bus_explain.specs.Senders.{senders_text}
use Rattle.bus_explain.proofs.accepted.write_accepted.Goals as goal

pub put_before-requires : goal.put_before-requires
put_before-requires g c = c.requires

pub returns : goal.returns
returns g c =
    let senders = subst (λ (m : Mode). Adds g.K.Sink.held g.K.Sink.faults c.put_before.new.sink c.put_senders.new.sink c.put_before.new.text
    c.put_senders.new.text (senders_text m c.args.table.now c.args.most)) c.mode.ensures.value c.put_senders.ensures in
    ends_text g.K.Sink.held g.K.Sink.faults c.args.sink.now c.put_behind.new.sink c.finish.new.sink c.new-text.result c.put_behind.new.text
    c.finish.result _ c.finish.ensures (c.put_before.ensures ▸ senders ▸ c.put_behind.ensures) c.new-text.ensures
