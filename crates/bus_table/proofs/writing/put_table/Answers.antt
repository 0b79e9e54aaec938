use Rattle.std.proofs.Common.{subst, List, ℕ}
use Rattle.bus_outer.specs.Texts.{Adds}
use Rattle.bus_outer.proofs.TextLaws.{◌▸◌}
use Rattle.bus_table.proofs.CanonicalLemmas.{put_as_read}
use Rattle.bus_table.proofs.writing.put_table.Goals as goal

pub returns : goal.returns
returns g c =
    let e = put_as_read c.args.table.now c.mode.result c.mode-2.result c.ti.result c.sg.result c.senders.result.now c.listeners.result.now c.mode.ensures.value c.mode-2.ensures.value c.ti.ensures.value c.sg.ensures.value c.senders.ensures.value c.listeners.ensures.value in
    subst (λ (t : List ℕ). Adds g.K.Sink.held g.K.Sink.faults c.args.sink.now c.put_listeners.new.sink c.args.text.now c.put_listeners.new.text t) e
    (c.put_head.ensures ▸ c.put_senders.ensures ▸ c.put_listeners.ensures)
