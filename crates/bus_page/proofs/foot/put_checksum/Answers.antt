use Rattle.std.proofs.Common.{List, ℕ, ◌++◌, ◌+◌, ◌-◌, ◌*◌, ◌/◌, ap, codes, subst, ◌∙◌}
use Rattle.std.specs.Prelude.{decimal}
use Rattle.bus_outer.specs.Texts.{Adds}
use Rattle.bus_outer.proofs.TextLaws.{◌▸◌}
use Rattle.bus_page.specs.Checksums.{checksum}
use Rattle.bus_page.specs.Feet.{eight_digits}
use Rattle.bus_page.specs.Heads.{figure}
use Rattle.bus_page.proofs.foot.put_checksum.Goals as goal

pub returns : goal.returns
returns g c =
    let text : ℕ → List ℕ = λ n. figure (codes "CRC-32 of its bytes") (eight_digits n) in
    subst (λ (t : List ℕ). Adds g.K.Sink.held g.K.Sink.faults c.args.sink.now c.end_figure.new.sink c.args.text.now c.end_figure.new.text t)
    (ap (λ (x : ℕ). text x) (c.checksum.ensures))
    (c.begin_figure.ensures ▸ c.put_eight.ensures ▸ c.end_figure.ensures)
