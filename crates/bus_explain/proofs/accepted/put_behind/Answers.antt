use Rattle.std.proofs.Common.{◌++◌, subst}
use Rattle.bus_outer.specs.Texts.{Adds}
use Rattle.bus_outer.proofs.TextLaws.{◌▸◌}
use Rattle.bus_table.specs.declared.mode.Mode.{Mode}
use Rattle.bus_explain.specs.Accepted.{tolerance_line}
use Rattle.bus_explain.specs.Starts.{start_text}
use Rattle.bus_explain.proofs.accepted.put_behind.Goals as goal

pub put_start-requires : goal.put_start-requires
put_start-requires g c = c.mode-mode.ensures.value

pub returns : goal.returns
returns g c =
    subst (λ (m : Mode). Adds g.K.Sink.held g.K.Sink.faults c.args.sink.now c.put_start.new.sink c.args.text.now c.put_start.new.text
    (tolerance_line m c.args.tolerance ++ start_text m c.args.table.now c.args.advices.now)) c.mode-mode.ensures.value
    (c.put_tolerance.ensures ▸ c.put_start.ensures)
