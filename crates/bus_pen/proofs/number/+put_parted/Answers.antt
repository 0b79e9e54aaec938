use Rattle.std.proofs.Common.{List, ℕ, arith, sym, subst}
use Rattle.bus_outer.specs.Texts.{Adds}
use Rattle.bus_outer.proofs.TextLaws.{◌▸◌}
use Rattle.bus_pen.proofs.PartedLemmas.{parted_more, parted_small}
use Rattle.bus_pen.proofs.number.+put_parted.Goals as goal

pub returns-then-number-lt1000 : goal.returns-then-number-lt1000
returns-then-number-lt1000 g t c =
    subst (λ (t : List ℕ). Adds g.K.Sink.held g.K.Sink.faults c.args.sink.now c.put_number.new.sink c.args.text.now c.put_number.new.self t)
    (sym (parted_small c.args.number c.if-number-lt1000.true)) c.put_number.ensures

pub returns : goal.returns
returns g t c =
    subst (λ (t : List ℕ). Adds g.K.Sink.held g.K.Sink.faults c.args.sink.now c.put_three.new.sink c.args.text.now c.put_three.new.text t)
    (parted_more c.args.number c.if-number-lt1000.false (omega arith))
    (c.put_parted.ensures ▸ c.put.ensures ▸ c.put_three.ensures)
