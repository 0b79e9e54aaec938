use Rattle.std.proofs.Common.{List, ℕ, ◌++◌, ◌+◌, ◌-◌, ◌*◌, ◌/◌, ap, codes, subst, ◌∙◌}
use Rattle.std.specs.Prelude.{decimal}
use Rattle.bus_outer.specs.Texts.{Adds}
use Rattle.bus_outer.proofs.TextLaws.{◌▸◌}
use Rattle.bus_say.specs.Times.{time_text}
use Rattle.bus_reach.specs.Latency.{latency}
use Rattle.bus_page.specs.Latencies.{delayed_words, next_field}
use Rattle.bus_page.proofs.latencies.put_latency.Goals as goal

pub returns : goal.returns
returns g c =
    let text : ℕ → List ℕ = λ n. time_text n ++ next_field ++ delayed_words c.args.table.now c.args.most c.args.tolerance c.args.sender.now c.args.place in
    subst (λ (t : List ℕ). Adds g.K.Sink.held g.K.Sink.faults c.args.sink.now c.put_delayed.new.sink c.args.text.now c.put_delayed.new.text t)
    (ap (λ (x : ℕ). text x) (c.latency.ensures))
    (c.put_time.ensures ▸ c.put_next.ensures ▸ c.put_delayed.ensures)
