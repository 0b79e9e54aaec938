use Rattle.std.proofs.Common.{List, ℕ, ◌++◌, ◌+◌, ◌-◌, ◌*◌, ◌/◌, ap, codes, subst, ◌∙◌}
use Rattle.std.specs.Prelude.{decimal}
use Rattle.bus_outer.specs.Texts.{Adds}
use Rattle.bus_outer.proofs.TextLaws.{◌▸◌}
use Rattle.bus_say.specs.Times.{time_text}
use Rattle.bus_page.specs.Messages.{terminal_name}
use Rattle.bus_page.specs.Intervals.{synced_words}
use Rattle.bus_page.proofs.interval.put_gap_words.Goals as goal

pub returns : goal.returns
returns g c =
    let text : ℕ → List ℕ = λ n. codes "gap before " ++ terminal_name c.args.slot.number ++ codes ": " ++ time_text n ++ synced_words c.args.slot.synced c.args.slot.number in
    subst (λ (t : List ℕ). Adds g.K.Sink.held g.K.Sink.faults c.args.sink.now c.put_synced.new.sink c.args.text.now c.put_synced.new.text t)
    (ap (λ (x : ℕ). text x) (c.saturating_sub.ensures))
    (c.put.ensures ▸ c.put_terminal.ensures ▸ c.put-2.ensures ▸ c.put_time.ensures ▸ c.put_synced.ensures)
