use Rattle.std.proofs.Common.{List, ℕ, [], ap, ◌∙◌, subst}
use Rattle.bus_outer.specs.Texts.{Adds}
use Rattle.bus_say.specs.Sentences.{said}
use Rattle.bus_margins.specs.Rooms.{level_of}
use Rattle.bus_explain.specs.Beyond.{level_wording}
use Rattle.bus_explain.proofs.beyond.put_level.Goals as goal

pub returns : goal.returns
returns g c =
    subst (λ (t : List ℕ). Adds g.K.Sink.held g.K.Sink.faults c.args.sink.now c.say.new.sink c.args.text.now c.say.new.text (said t []))
    (c.level_wording.ensures ∙ ap level_wording (c.level_of-level.ensures ∙ ap (λ b. level_of b c.args.table.now) c.drifting.ensures)) c.say.ensures
