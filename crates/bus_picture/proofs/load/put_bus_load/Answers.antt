use Rattle.std.proofs.Common.{ℕ, ◌+◌, ◌++◌, subst}
use Rattle.bus_outer.specs.Texts.{Adds}
use Rattle.bus_outer.proofs.TextLaws.{◌▸◌}
use Rattle.bus_picture.specs.Loads.{load_heading, load_text, tail_heading}
use Rattle.bus_picture.proofs.load.put_bus_load.Goals as goal

pub returns : goal.returns
returns g c =
    subst (λ (bits : ℕ). Adds g.K.Sink.held g.K.Sink.faults c.args.sink.now c.put_load.new.sink c.args.text.now c.put_load.new.text
    (load_heading c.args.scale.now c.args.list.now ++ tail_heading c.args.scale.now c.args.list.now ++ load_text c.args.scale.now (1170 + 200) bits)) c.bus_bits-bits.ensures.value
    (c.put_load_heading.ensures ▸ c.put_tail.ensures ▸ c.put_load.ensures)
