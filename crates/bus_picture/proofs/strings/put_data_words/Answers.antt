use Rattle.std.proofs.Common.{ℕ, subst}
use Rattle.std.specs.Prelude.{codes}
use Rattle.bus_outer.specs.Texts.{Adds}
use Rattle.bus_pen.specs.Numbers.{counted}
use Rattle.bus_picture.proofs.strings.put_data_words.Goals as goal

pub returns : goal.returns
returns g c =
    subst (λ (n : ℕ). Adds g.K.Sink.held g.K.Sink.faults c.args.sink.now c.put_counted.new.sink c.args.text.now c.put_counted.new.text
    (counted n (codes "data word"))) c.data_count-count.ensures c.put_counted.ensures
