use Rattle.std.proofs.Common.{List, ℕ, ap, subst}
use Rattle.bus_outer.specs.Texts.{Adds}
use Rattle.bus_outer.proofs.TextLaws.{◌▸◌}
use Rattle.bus_table.specs.declared.mode.Mode.{Mode}
use Rattle.bus_explain.specs.Forms.{form_text}
use Rattle.bus_explain.proofs.unread.put_one.Goals as goal

pub returns : goal.returns
returns g c =
    c.say.ensures
    ▸ subst (λ (t : List ℕ). Adds g.K.Sink.held g.K.Sink.faults c.say.new.sink c.put_form.new.sink c.say.new.text c.put_form.new.text t)
    (ap (λ (mode : Mode). form_text mode c.args.keyword) c.mode.ensures) c.put_form.ensures
