use Rattle.std.proofs.Common.{List, [], ℕ, ap, ◌∙◌, subst}
use Rattle.bus_outer.specs.Texts.{Adds}
use Rattle.bus_outer.proofs.TextLaws.{◌▸◌}
use Rattle.bus_say.specs.Sentences.{said}
use Rattle.bus_explain.specs.Starts.{advice_wording}
use Rattle.bus_explain.proofs.starts.put_waiting.Goals as goal

pub returns : goal.returns
returns g c =
    subst (λ (t : List ℕ). Adds g.K.Sink.held g.K.Sink.faults c.args.sink.now c.say.new.sink c.args.text.now c.say.new.text (said t []))
    c.start_wording.ensures c.say.ensures
    ▸ subst (λ (t : List ℕ). Adds g.K.Sink.held g.K.Sink.faults c.say.new.sink c.say-2.new.sink c.say.new.text c.say-2.new.text (said t []))
    (c.advice_wording.ensures ∙ ap advice_wording c.is_empty.ensures) c.say-2.ensures
    ▸ c.put_lines.ensures
