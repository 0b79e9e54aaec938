use Rattle.std.proofs.Common.{List, ℕ, subst}
use Rattle.bus_outer.specs.Texts.{Adds}
use Rattle.bus_shapes.proofs.SayingLemmas.{same_summary}
use Rattle.bus_shapes.proofs.frame.put_table.Goals as goal

pub returns : goal.returns
returns g c =
    subst (λ (t : List ℕ). Adds g.K.Sink.held g.K.Sink.faults c.args.sink.now c.put_summary.new.sink c.args.text.now c.put_summary.new.text t)
    (same_summary c.mode.result c.args.table.now.mode c.ti-ti.result c.args.table.now.ti c.sg-sg.result c.args.table.now.sg c.sender_count-senders.result _
    c.mode.ensures.value c.ti-ti.ensures.value c.sg-sg.ensures.value c.sender_count-senders.ensures)
    c.put_summary.ensures
