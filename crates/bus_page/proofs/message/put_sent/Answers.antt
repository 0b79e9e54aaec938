use Rattle.std.proofs.Common.{List, ℕ, ◌++◌, ◌+◌, ◌-◌, ◌*◌, ◌/◌, ap, codes, subst, ◌∙◌}
use Rattle.std.specs.Prelude.{decimal}
use Rattle.bus_outer.specs.Texts.{Adds}
use Rattle.bus_outer.proofs.TextLaws.{◌▸◌}
use Rattle.bus_say.specs.Times.{time_text}
use Rattle.bus_page.specs.Messages.{moments_words, terminal_name}
use Rattle.bus_page.proofs.message.put_sent.Goals as goal

pub returns : goal.returns
returns g c =
    let text : ℕ → List ℕ = λ n. terminal_name c.args.number ++ codes ": " ++ time_text n ++ moments_words c.args.stretch in
    subst (λ (t : List ℕ). Adds g.K.Sink.held g.K.Sink.faults c.args.sink.now c.put_moments.new.sink c.args.text.now c.put_moments.new.text t)
    (ap (λ (x : ℕ). text x) (c.saturating_sub.ensures))
    (c.put_terminal.ensures ▸ c.put.ensures ▸ c.put_time.ensures ▸ c.put_moments.ensures)
