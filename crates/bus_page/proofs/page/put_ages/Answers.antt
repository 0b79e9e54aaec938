use Rattle.std.proofs.Common.{List, ℕ, ◌++◌, ◌+◌, ◌-◌, ◌*◌, ◌/◌, ap, codes, subst, ◌∙◌}
use Rattle.std.specs.Prelude.{decimal}
use Rattle.bus_outer.specs.Texts.{Adds}
use Rattle.bus_outer.proofs.TextLaws.{◌▸◌}
use Rattle.std.specs.Prelude.{Option}
use Rattle.bus_reach.specs.Bearing.{tolerance_of}
use Rattle.bus_page.specs.Latencies.{latencies_text}
use Rattle.bus_page.specs.Heads.{section_text}
use Rattle.bus_page.proofs.AcceptLemmas.{most_of, slow_tolerance}
use Rattle.std.specs.Prelude.{IfSome}
use Rattle.std.proofs.Common.{◌≤◌, ◌^◌, sym}
use Rattle.bus_page.proofs.page.put_ages.Goals as goal

pub returns : goal.returns
returns g c =
    let text : Option ℕ → List ℕ = λ d. section_text (codes "How old data are at most when they have been received") ++ latencies_text c.args.table.now c.args.figures.now.most d in
    subst (λ (t : List ℕ). Adds g.K.Sink.held g.K.Sink.faults c.args.sink.now c.put_latencies.new.sink c.args.text.now c.put_latencies.new.text t)
    (ap (λ (x : Option ℕ). text x) (c.requires.tolerance))
    (c.put_section.ensures ▸ c.put_latencies.ensures)

pub put_latencies-requires-clause-most : goal.put_latencies-requires-clause-most
put_latencies-requires-clause-most g c =
    (most_of c.args.table.now c.args.figures.now.least c.args.figures.now.most c.table_is_valid.ensures c.requires.accepted).short

pub put_latencies-requires-clause-slow : goal.put_latencies-requires-clause-slow
put_latencies-requires-clause-slow g c =
    subst (λ (d : Option ℕ). IfSome d (λ n. n ≤ 2 ^ 40)) (sym c.requires.tolerance) (slow_tolerance c.args.table.now c.table_is_valid.ensures)
