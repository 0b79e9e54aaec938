use Rattle.std.proofs.Common.{List, ℕ, ◌++◌, codes, ap, subst, ◌∙◌}
use Rattle.std.specs.Fmt.{decimal}
use Rattle.bus_outer.specs.Texts.{Adds}
use Rattle.bus_outer.proofs.TextLaws.{◌▸◌}
use Rattle.bus_text.specs.Digits.{hexadecimal}
use Rattle.bus_vote.proofs.writing.put_label_line.Goals as goal

pub returns : goal.returns
returns g c =
    let v = c.args.voted.now in
    let text : List ℕ → List ℕ = λ label. codes "LABEL " ++ label ++ codes " " ++ decimal v.first.terminal ++ codes " " ++ decimal v.second.terminal ++ codes " "
    ++ decimal v.third.terminal ++ codes "\n" in
    subst (λ (t : List ℕ). Adds g.K.Sink.held g.K.Sink.faults c.args.sink.now c.put_byte-4.new.sink c.args.text.now c.put_byte-4.new.self t)
    (ap text (c.three_digits.ensures ∙ ap (hexadecimal 3) c.value.ensures.value))
    (c.put.ensures ▸ c.put-2.ensures ▸ c.put_byte.ensures ▸ c.put_number.ensures ▸ c.put_byte-2.ensures ▸ c.put_number-2.ensures ▸ c.put_byte-3.ensures
    ▸ c.put_number-3.ensures ▸ c.put_byte-4.ensures)
