use Rattle.std.proofs.Common.{List, [], ℕ, ap, ◌∙◌, subst}
use Rattle.bus_outer.specs.Texts.{Adds}
use Rattle.bus_outer.proofs.TextLaws.{◌▸◌}
use Rattle.bus_say.specs.Sentences.{said}
use Rattle.bus_explain.specs.Unread.{end_wording}
use Rattle.bus_explain.proofs.unread.put_any.Goals as goal

pub returns : goal.returns
returns g c =
    c.say.ensures ▸ c.put_forms.ensures
    ▸ subst (λ (t : List ℕ). Adds g.K.Sink.held g.K.Sink.faults c.put_forms.new.sink c.say-2.new.sink c.put_forms.new.text c.say-2.new.text (said t []))
    (c.end_wording.ensures ∙ ap end_wording c.may_end.ensures) c.say-2.ensures
