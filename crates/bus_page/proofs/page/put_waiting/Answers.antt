use Rattle.std.proofs.Common.{List, ℕ, ◌++◌, ◌+◌, ◌-◌, ◌*◌, ◌/◌, ap, codes, subst, ◌∙◌}
use Rattle.std.specs.Prelude.{decimal}
use Rattle.bus_outer.specs.Texts.{Adds}
use Rattle.bus_outer.proofs.TextLaws.{◌▸◌}
use Rattle.bus_table.specs.Tables.{Sender}
use Rattle.bus_page.specs.Waits.{waits_legend, waits_text}
use Rattle.bus_page.specs.Heads.{section_text}
use Rattle.bus_page.proofs.AcceptLemmas.{most_of}
use Rattle.std.proofs.Common.{◌≤◌, arith, length}
use Rattle.bus_table.proofs.ValidLaws.{valid_facts}
use Rattle.bus_page.proofs.page.put_waiting.Goals as goal

pub returns : goal.returns
returns g c =
    let text : List Sender → List ℕ = λ l. section_text (codes "How long data wait: those that just miss a start, until their message is sent, without delays") ++ waits_legend c.args.figures.now.most ++ waits_text c.args.figures.now.most l in
    subst (λ (t : List ℕ). Adds g.K.Sink.held g.K.Sink.faults c.args.sink.now c.put_waits.new.sink c.args.text.now c.put_waits.new.text t)
    (ap (λ (x : List Sender). text x) (c.senders.ensures.value))
    (c.put_section.ensures ▸ c.put_waits_legend.ensures ▸ c.put_waits.ensures)

pub put_waits-requires-clause-few : goal.put_waits-requires-clause-few
put_waits-requires-clause-few g c =
    let few : length c.args.table.now.senders ≤ 128 = (valid_facts c.args.table.now c.senders.ensures.valid).few in
    omega (arith, few, ap length c.senders.ensures.value)

pub put_waits-requires-clause-some : goal.put_waits-requires-clause-some
put_waits-requires-clause-some g c =
    (most_of c.args.table.now c.args.figures.now.least c.args.figures.now.most c.senders.ensures.valid c.requires.accepted).some

pub put_waits-requires-clause-most : goal.put_waits-requires-clause-most
put_waits-requires-clause-most g c =
    (most_of c.args.table.now c.args.figures.now.least c.args.figures.now.most c.senders.ensures.valid c.requires.accepted).short
