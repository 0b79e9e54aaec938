use Rattle.std.proofs.Common.{ℕ, subst}
use Rattle.bus_outer.specs.Texts.{Adds}
use Rattle.bus_picture.specs.Loads.{load_words}
use Rattle.bus_picture.proofs.load.put_share_to.Goals as goal

pub returns : goal.returns
returns g c =
    subst (λ (bits : ℕ). Adds g.K.Sink.held g.K.Sink.faults c.args.sink.now c.put_load_words.new.sink c.args.text.now c.put_load_words.new.text
    (load_words c.args.scale.now bits)) c.bus_bits-bits.ensures.value c.put_load_words.ensures
