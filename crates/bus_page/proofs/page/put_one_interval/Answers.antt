use Rattle.std.proofs.Common.{List, ℕ, ◌++◌, ◌≤◌, arith, ap, sym, codes, subst, ◌∙◌}
use Rattle.bus_outer.specs.Texts.{Adds}
use Rattle.bus_outer.proofs.TextLaws.{◌▸◌}
use Rattle.bus_table.specs.declared.mode.Mode.{Mode}
use Rattle.bus_page.specs.Pages.{cycle_picture}
use Rattle.bus_page.specs.Heads.{section_text}
use Rattle.bus_page.specs.Intervals.{interval_text}
use Rattle.bus_page.specs.Slots.{begin_of, slots_of}
use Rattle.bus_page.specs.declared.slot.Slot.{Slot}
use Rattle.bus_table.proofs.ValidLaws.{valid_facts}
use Rattle.bus_page.proofs.page.put_one_interval.Goals as goal

pub returns : goal.returns
returns g c =
    let text : ℕ → ℕ → List Slot → List ℕ = λ b i l. section_text (codes "One interval, with longest messages") ++ interval_text b i l in
    subst (λ (t : List ℕ). Adds g.K.Sink.held g.K.Sink.faults c.args.sink.now c.put_interval.new.sink c.args.text.now c.put_interval.new.text t)
    (ap (λ (x : ℕ). text x c.from-ti.result c.deref.result.now) (c.begin_of-begin.ensures.value)
    ∙ ap (λ (x : ℕ). text (begin_of c.args.table.now) x c.deref.result.now) (c.from-ti.ensures ∙ c.ti.ensures.value)
    ∙ ap (λ (x : List Slot). text (begin_of c.args.table.now) c.args.table.now.ti x) (c.deref.ensures.value ∙ c.requires.own.slots)
    ∙ ap (λ (m : Mode). cycle_picture m c.args.table.now c.args.figures.now.least c.args.figures.now.most) (sym c.requires.mode))
    (c.put_section.ensures ▸ c.put_interval.ensures)

pub put_interval-requires-clause-some : goal.put_interval-requires-clause-some
put_interval-requires-clause-some g c =
    let least : 1000 ≤ c.args.table.now.ti = (valid_facts c.args.table.now c.ti.ensures.valid).ti_least in
    omega (arith, least, c.from-ti.ensures, c.ti.ensures.value)

pub put_interval-requires-clause-ti : goal.put_interval-requires-clause-ti
put_interval-requires-clause-ti g c =
    let most : c.args.table.now.ti ≤ 128000 = (valid_facts c.args.table.now c.ti.ensures.valid).ti_most in
    omega (arith, most, c.from-ti.ensures, c.ti.ensures.value)
