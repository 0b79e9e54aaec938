use Rattle.std.proofs.Common.{List, ℕ, ◌++◌, ◌+◌, ◌-◌, ◌*◌, ◌/◌, ap, codes, subst, ◌∙◌}
use Rattle.std.specs.Prelude.{decimal}
use Rattle.bus_outer.specs.Texts.{Adds}
use Rattle.bus_outer.proofs.TextLaws.{◌▸◌}
use Rattle.std.specs.Prelude.{Option}
use Rattle.bus_reach.specs.Bearing.{tolerance_of}
use Rattle.bus_reach.specs.Limits.{limits_of}
use Rattle.bus_reach.specs.declared.limit.Limit.{Limit}
use Rattle.bus_page.specs.Bars.{bars_text}
use Rattle.bus_page.specs.Heads.{section_text}
use Rattle.bus_page.proofs.AcceptLemmas.{few_limits}
use Rattle.std.proofs.Common.{◌≤◌, length, sym}
use Rattle.bus_page.proofs.page.put_limits.Goals as goal

pub returns : goal.returns
returns g c =
    let text : Option ℕ → List Limit → List ℕ = λ d l. section_text (codes "Which rule limits the tolerance") ++ bars_text d l in
    subst (λ (t : List ℕ). Adds g.K.Sink.held g.K.Sink.faults c.args.sink.now c.put_bars.new.sink c.args.text.now c.put_bars.new.text t)
    (ap (λ (x : Option ℕ). text x c.deref.result.now) (c.requires.tolerance)
    ∙ ap (λ (x : List Limit). text (tolerance_of c.args.table.now) x) (c.deref.ensures.value ∙ c.requires.limits))
    (c.put_section.ensures ▸ c.put_bars.ensures)

pub put_bars-requires : goal.put_bars-requires
put_bars-requires g c =
    subst (λ (l : List Limit). length l ≤ 1000) (sym (c.deref.ensures.value ∙ c.requires.limits)) (few_limits c.args.table.now c.table_is_valid.ensures)
