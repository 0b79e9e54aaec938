use Rattle.std.proofs.Common.{Bool, subst}
use Rattle.bus_outer.specs.Texts.{Adds}
use Rattle.bus_page.specs.Bars.{told_text}
use Rattle.bus_page.proofs.bars.put_bars.Goals as goal

pub returns : goal.returns
returns g c =
    subst (λ (none : Bool). Adds g.K.Sink.held g.K.Sink.faults c.args.sink.now c.put_told.new.sink c.args.text.now c.put_told.new.text
    (told_text none c.args.tolerance c.args.limits.now)) c.is_empty.ensures c.put_told.ensures
