use Rattle.std.proofs.Common.{List, ℕ, ◌++◌, ◌+◌, ◌-◌, ◌*◌, ◌/◌, ap, codes, subst, ◌∙◌}
use Rattle.std.specs.Prelude.{decimal}
use Rattle.bus_outer.specs.Texts.{Adds}
use Rattle.bus_outer.proofs.TextLaws.{◌▸◌}
use Rattle.std.proofs.Common.{[], ◌∷◌}
use Rattle.bus_text.specs.Digits.{hex_digit, hexadecimal}
use Rattle.bus_page.specs.Messages.{terminal_name}
use Rattle.bus_page.specs.Latencies.{next_field}
use Rattle.bus_page.proofs.latencies.put_label.Goals as goal

pub returns : goal.returns
returns g c =
    let text : List ℕ → ℕ → List ℕ = λ a b. a ++ codes " " ++ b ∷ [] ++ next_field ++ terminal_name c.args.number in
    subst (λ (t : List ℕ). Adds g.K.Sink.held g.K.Sink.faults c.args.sink.now c.put_terminal.new.sink c.args.text.now c.put_terminal.new.text t)
    (ap (λ (x : List ℕ). text x c.hex_digit.result) (c.three_digits.ensures ∙ ap (hexadecimal 3) c.value.ensures.value)
    ∙ ap (λ (x : ℕ). text (hexadecimal 3 c.args.line.now.label) x) (c.hex_digit.ensures ∙ ap hex_digit c.value-2.ensures.value))
    (c.put.ensures ▸ c.put-2.ensures ▸ c.put_byte.ensures ▸ c.put_next.ensures ▸ c.put_terminal.ensures)
