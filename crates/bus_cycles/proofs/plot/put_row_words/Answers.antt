use Rattle.std.proofs.Common.{ℕ, ◌++◌, codes, subst}
use Rattle.std.specs.Prelude.{decimal}
use Rattle.bus_outer.specs.Texts.{Adds}
use Rattle.bus_outer.proofs.TextLaws.{◌▸◌}
use Rattle.bus_pen.specs.Numbers.{parted}
use Rattle.bus_cycles.specs.CyclesTexts.{last_ends_words, next_words}
use Rattle.bus_cycles.proofs.plot.put_row_words.Goals as goal

pub returns : goal.returns
returns g c =
    let survey = c.args.survey.now in
    subst (λ (n : ℕ). Adds g.K.Sink.held g.K.Sink.faults c.args.sink.now c.put_last_ends.new.sink c.args.text.now c.put_last_ends.new.text
    (codes "a row for each cycle, from its begin: " ++ parted (decimal n) ++ codes " of " ++ parted (decimal survey.count) ++ next_words survey.next ++ last_ends_words survey)) c.min.ensures
    (c.put.ensures ▸ c.put_parted.ensures ▸ c.put-2.ensures ▸ c.put_parted-2.ensures ▸ c.put_next.ensures ▸ c.put_last_ends.ensures)
