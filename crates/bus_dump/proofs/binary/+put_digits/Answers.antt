use Rattle.std.proofs.Common.{List, ℕ, ◌≤◌, subst, arith}
use Rattle.bus_outer.specs.Texts.{Adds}
use Rattle.bus_outer.proofs.TextLaws.{◌▸◌}
use Rattle.bus_dump.proofs.BinaryLemmas.{digits_four}
use Rattle.bus_dump.proofs.binary.+put_digits.Goals as goal

pub returns : goal.returns
returns g t c =
    let some : 16 ≤ c.args.number = omega arith in
    subst (λ (t : List ℕ). Adds g.K.Sink.held g.K.Sink.faults c.args.sink.now c.put.new.sink c.args.text.now c.put.new.self t)
    (digits_four c.args.number c.digit.result c.digit-2.result c.digit-3.result c.digit-4.result some
    c.digit.ensures c.digit-2.ensures c.digit-3.ensures c.digit-4.ensures)
    (c.put_digits.ensures ▸ c.put.ensures)
