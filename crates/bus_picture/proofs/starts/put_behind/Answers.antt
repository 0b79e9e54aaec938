use Rattle.std.proofs.Common.{subst}
use Rattle.bus_outer.specs.Texts.{Adds}
use Rattle.bus_outer.proofs.TextLaws.{◌▸◌}
use Rattle.bus_picture.specs.Gaps.{Gap}
use Rattle.bus_picture.specs.Timers.{terminal_gap}
use Rattle.bus_picture.proofs.starts.put_behind.Goals as goal

pub returns : goal.returns
returns g c =
    subst (λ (gap : Gap). Adds g.K.Sink.held g.K.Sink.faults c.args.sink.now c.put_terminal_gap.new.sink c.args.text.now c.put_terminal_gap.new.text
    (terminal_gap c.args.scale.now c.args.timings.top gap)) c.gap_from-gap.ensures c.put_terminal_gap.ensures
    ▸ c.put_last.ensures
