use Rattle.std.proofs.Common.{◌*◌, List, ℕ, subst}
use Rattle.bus_outer.specs.Texts.{Adds}
use Rattle.bus_outer.proofs.TextLaws.{◌▸◌}
use Rattle.bus_filter.proofs.WordLemmas.{two_parts}
use Rattle.bus_filter.proofs.writing.put_words.Goals as goal

pub returns : goal.returns
returns g c =
    subst (λ (t : List ℕ). Adds g.K.Sink.held g.K.Sink.faults c.args.sink.now c.put_each.new.sink c.args.text.now c.put_each.new.text t)
    (two_parts c.args.words.now (4 * c.count_fours-fours.result))
    (c.put_fours.ensures ▸ c.put_each.ensures)
