use Rattle.std.proofs.Common.{List, [], ◌∷◌, ℕ, subst}
use Rattle.bus_outer.specs.Texts.{Adds}
use Rattle.bus_outer.proofs.TextLaws.{◌▸◌}
use Rattle.bus_say.specs.Sentences.{said}
use Rattle.bus_diagnosis.proofs.sentences.put_refused.Goals as goal

pub returns : goal.returns
returns g c =
    subst (λ (t : List ℕ). Adds g.K.Sink.held g.K.Sink.faults c.args.sink.now c.say.new.sink c.args.text.now c.say.new.text (said t (c.args.line ∷ [])))
    c.line_wording.ensures c.say.ensures
    ▸ subst (Adds g.K.Sink.held g.K.Sink.faults c.say.new.sink c.put.new.sink c.say.new.text c.put.new.self) c.reason_text.ensures c.put.ensures
    ▸ c.put_forms.ensures
