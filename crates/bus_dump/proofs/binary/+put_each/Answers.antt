use Rattle.std.proofs.Common.{List, ℕ, ◌<◌, subst, arith}
use Rattle.bus_outer.specs.Texts.{Adds}
use Rattle.bus_outer.proofs.TextLaws.{◌▸◌}
use Rattle.bus_dump.proofs.BinaryLemmas.{digits_more}
use Rattle.bus_dump.proofs.binary.+put_each.Goals as goal

pub returns : goal.returns
returns g t c =
    let some : 0 < c.args.number = omega arith in
    subst (λ (t : List ℕ). Adds g.K.Sink.held g.K.Sink.faults c.args.sink.now c.put_byte.new.sink c.args.text.now c.put_byte.new.self t)
    (digits_more c.args.number c.digit.result some c.digit.ensures)
    (c.put_each.ensures ▸ c.put_byte.ensures)
