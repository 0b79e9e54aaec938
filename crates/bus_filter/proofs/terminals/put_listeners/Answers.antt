use Rattle.std.proofs.Common.{List, ℕ, ◌∷◌, ◌++◌, [], take, ap, sym, ◌∙◌, subst, arith}
use Rattle.std.proofs.lemmas.List.{take_more}
use Rattle.bus_outer.specs.Texts.{Adds}
use Rattle.bus_outer.proofs.TextLaws.{◌▸◌}
use Rattle.bus_strings.proofs.ListLaws.{flat_map-more}
use Rattle.bus_table.specs.Tables.{Listener}
use Rattle.bus_table.specs.declared.line.TakeLine.{TakeLine}
use Rattle.bus_filter.specs.ReceivedTexts.{taker_text}
use Rattle.bus_filter.specs.inside.Putting.{listener_put}
use Rattle.std.proofs.lemmas.Grind.{common_steps}
use Rattle.bus_filter.proofs.terminals.put_listeners.Goals as goal

pub loop-listener-preserved : goal.loop-listener-preserved
loop-listener-preserved g c =
    let list = c.args.list.now in
    let listener = c.listener-item.result in
    let own = ap (λ (n : ℕ). taker_text list (record { number = n; takes = c.takes.result.now })) c.number.ensures.value
    ∙ ap (λ (takes : List TakeLine). taker_text list (record { number = listener.number; takes = takes })) c.takes.ensures.value in
    let next = take_more c.args.listeners.now c.loop-listener.listener-index listener c.loop-listener-test.true
    ∙ ap (λ (s : Listener). take c.loop-listener.listener-index c.args.listeners.now ++ s ∷ []) (sym c.listener-item.is) in
    record {
      spans = c.put_taker.ensures.spans;
      text = subst (λ (t : List ℕ). Adds g.K.Sink.held g.K.Sink.faults c.args.sink.now c.put_taker.new.sink c.args.text.now c.put_taker.new.text t)
          (flat_map-more (listener_put list) (take c.loop-listener.listener-index c.args.listeners.now) _ listener next)
          (c.loop-listener.invariant.text ▸ subst (λ (t : List ℕ). Adds g.K.Sink.held g.K.Sink.faults c.loop-listener.sink c.put_taker.new.sink c.loop-listener.text c.put_taker.new.text t) own
          c.put_taker.ensures.text);
    }

pub returns : goal.returns
returns g c = grind (arith, common_steps)
