use Rattle.std.proofs.Common.{List, ℕ, ◌+◌, ◌*◌, ◌++◌, arith, ap, sym, subst, take, ◌∙◌}
use Rattle.bus_table.specs.Tables.{Sender}
use Rattle.bus_outer.specs.Texts.{Adds}
use Rattle.bus_outer.proofs.TextLaws.{◌▸◌}
use Rattle.bus_page.specs.Rows.{rows}
use Rattle.bus_page.specs.Waits.{sender_text}
use Rattle.bus_page.proofs.RowLemmas.{all_rows, rows_more}
use Rattle.bus_page.proofs.waits.put_rows.Goals as goal

pub loop-k-preserved : goal.loop-k-preserved
loop-k-preserved g c =
    let form = sender_text c.args.scale.now c.args.most c.args.greatest in
    let all : List Sender = c.args.senders.now in
    let k = c.loop-k.k in
    let one : Sender = c.index-senders-k.result in
    let next = rows_more form 210 40 all k one c.loop-k.top c.loop-k-test.true c.loop-k.invariant.top
    ∙ ap (λ (sender : Sender). rows form 210 40 (take k all) ++ form c.loop-k.top sender) (sym c.index-senders-k.is) in
    record {
      text = subst (λ (t : List ℕ). Adds g.K.Sink.held g.K.Sink.faults c.args.sink.now c.put_sender.new.sink c.args.text.now c.put_sender.new.text t) (sym next)
          (c.loop-k.invariant.text ▸ c.put_sender.ensures);
      top = omega (arith, c.loop-k.invariant.top);
    }

pub returns : goal.returns
returns g c =
    let form = sender_text c.args.scale.now c.args.most c.args.greatest in
    let all = all_rows form 210 40 c.args.senders.now c.loop-k.k (omega (arith, c.loop-k-test.false)) in
    subst (λ (t : List ℕ). Adds g.K.Sink.held g.K.Sink.faults c.args.sink.now c.loop-k.sink c.args.text.now c.loop-k.text t) all c.loop-k.invariant.text
