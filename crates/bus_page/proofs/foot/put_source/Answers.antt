use Rattle.std.proofs.Common.{List, ℕ, ◌++◌, ◌+◌, ◌-◌, ◌*◌, ◌/◌, ap, codes, subst, ◌∙◌}
use Rattle.std.specs.Prelude.{decimal}
use Rattle.bus_outer.specs.Texts.{Adds}
use Rattle.bus_outer.proofs.TextLaws.{◌▸◌}
use Rattle.bus_page.specs.Feet.{checksum_figure, length_figure, program_figure}
use Rattle.bus_page.specs.Heads.{section_text}
use Rattle.bus_page.proofs.foot.put_source.Goals as goal

pub returns : goal.returns
returns g c =
    let text : List ℕ → List ℕ = λ a. section_text (codes "What stands behind this page") ++ codes "<dl>\n" ++ program_figure c.args.program.now ++ length_figure c.args.bytes.now ++ checksum_figure c.args.bytes.now ++ codes "</dl>\n" ++ a in
    subst (λ (t : List ℕ). Adds g.K.Sink.held g.K.Sink.faults c.args.sink.now c.put-3.new.sink c.args.text.now c.put-3.new.self t)
    (ap text c.build.ensures)
    (c.put_section.ensures ▸ c.put.ensures ▸ c.put_program.ensures ▸ c.put_length.ensures ▸ c.put_checksum.ensures ▸ c.put-2.ensures ▸ c.put-3.ensures)
