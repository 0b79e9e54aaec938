use Rattle.std.proofs.Common.{◌≡◌, ◌++◌, ap, subst, ◌∙◌}
use Rattle.bus_outer.specs.Texts.{Adds}
use Rattle.bus_outer.proofs.TextLaws.{◌▸◌}
use Rattle.bus_strings.specs.Messages.{Entry}
use Rattle.bus_picture.specs.Gaps.{Gap}
use Rattle.bus_picture.specs.inside.Starting.{heard_gap, line_text, own_text}
use Rattle.bus_picture.proofs.starts.take.Goals as goal

pub returns-clause-adds : goal.returns-clause-adds
returns-clause-adds g c =
    let moment : c.x.inside.moment ≡ c.args.x.now.moment = ap (λ (e : Entry). e.moment) c.x.view_is in
    subst (λ (gap : Gap). Adds g.K.Sink.held g.K.Sink.faults c.args.sink.now c.put_own.new.sink c.args.text.now c.put_own.new.text
    (line_text c.args.scale.now c.args.timings c.args.hearing.first gap ++ own_text c.args.scale.now c.args.timings c.args.last gap c.args.x.now))
    (c.gap_from-gap.ensures ∙ ap (heard_gap c.args.timings c.args.hearing.before) moment)
    (c.put_line.ensures ▸ c.put_own.ensures.adds)
