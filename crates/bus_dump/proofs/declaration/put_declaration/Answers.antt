use Rattle.bus_outer.proofs.TextLaws.{◌▸◌}
use Rattle.std.proofs.Common.{List, ℕ, ◌++◌, codes, subst, ap, ◌∙◌}
use Rattle.bus_outer.specs.Texts.{Adds}
use Rattle.bus_dump.specs.DumpTexts.{id_text, name_text, width_text}
use Rattle.bus_dump.proofs.declaration.put_declaration.Goals as goal

pub returns : goal.returns
returns g c =
    let signal = c.args.signal in
    let text : List ℕ → List ℕ → List ℕ = λ width bits. codes "$var wire " ++ width ++ id_text signal ++ codes " " ++ name_text signal ++ bits ++ codes " $end\n" in
    subst (λ (t : List ℕ). Adds g.K.Sink.held g.K.Sink.faults c.args.sink.now c.put-4.new.sink c.args.text.now c.put-4.new.self t)
    (ap (λ w. text w c.bits_of.result.now) c.width_of.ensures ∙ ap (text (width_text signal)) c.bits_of.ensures)
    (c.put.ensures ▸ c.put-2.ensures ▸ c.put_id.ensures ▸ c.put_byte.ensures ▸ c.put_name.ensures ▸ c.put-3.ensures ▸ c.put-4.ensures)
