use Rattle.std.proofs.Common.{List, ℕ, ◌∷◌, ◌++◌, [], take, ap, sym, ◌∙◌, subst, arith}
use Rattle.std.proofs.lemmas.List.{take_more}
use Rattle.bus_outer.specs.Texts.{Adds}
use Rattle.bus_outer.proofs.TextLaws.{◌▸◌}
use Rattle.bus_strings.proofs.ListLaws.{flat_map-more}
use Rattle.bus_table.specs.Tables.{Sender}
use Rattle.bus_table.specs.declared.line.TakeLine.{TakeLine}
use Rattle.bus_filter.specs.ReceivedTexts.{taker_text}
use Rattle.bus_filter.specs.inside.Putting.{sender_put}
use Rattle.std.proofs.lemmas.Grind.{common_steps}
use Rattle.bus_filter.proofs.terminals.put_senders.Goals as goal

pub loop-sender-preserved : goal.loop-sender-preserved
loop-sender-preserved g c =
    let list = c.args.list.now in
    let sender = c.sender-item.result in
    let own = ap (λ (n : ℕ). taker_text list (record { number = n; takes = c.takes.result.now })) c.number.ensures.value
    ∙ ap (λ (takes : List TakeLine). taker_text list (record { number = sender.number; takes = takes })) c.takes.ensures.value in
    let next = take_more c.args.senders.now c.loop-sender.sender-index sender c.loop-sender-test.true
    ∙ ap (λ (s : Sender). take c.loop-sender.sender-index c.args.senders.now ++ s ∷ []) (sym c.sender-item.is) in
    record {
      spans = c.put_taker.ensures.spans;
      text = subst (λ (t : List ℕ). Adds g.K.Sink.held g.K.Sink.faults c.args.sink.now c.put_taker.new.sink c.args.text.now c.put_taker.new.text t)
          (flat_map-more (sender_put list) (take c.loop-sender.sender-index c.args.senders.now) _ sender next)
          (c.loop-sender.invariant.text ▸ subst (λ (t : List ℕ). Adds g.K.Sink.held g.K.Sink.faults c.loop-sender.sink c.put_taker.new.sink c.loop-sender.text c.put_taker.new.text t) own
          c.put_taker.ensures.text);
    }

pub returns : goal.returns
returns g c = grind (arith, common_steps)
