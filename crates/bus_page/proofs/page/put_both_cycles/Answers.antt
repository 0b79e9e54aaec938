use Rattle.std.proofs.Common.{List, ℕ, ◌++◌, ◌≤◌, arith, ap, sym, codes, subst, ◌∙◌}
use Rattle.bus_outer.specs.Texts.{Adds}
use Rattle.bus_outer.proofs.TextLaws.{◌▸◌}
use Rattle.bus_table.specs.declared.mode.Mode.{Mode}
use Rattle.bus_page.specs.Pages.{cycle_picture}
use Rattle.bus_page.specs.Heads.{section_text}
use Rattle.bus_page.specs.Cycles.{cycles_text}
use Rattle.bus_page.specs.Turns.{turns_of}
use Rattle.bus_page.specs.declared.turn.Turn.{Turn}
use Rattle.bus_page.proofs.AcceptLemmas.{most_of}
use Rattle.bus_page.proofs.page.put_both_cycles.Goals as goal

pub returns : goal.returns
returns g c =
    let text : ℕ → ℕ → List Turn → List ℕ = λ i s l. section_text (codes "The shortest and the longest cycle, on one axis") ++ cycles_text (record { ti = i; sg = s; least = c.args.figures.now.least; most = c.args.figures.now.most }) l in
    subst (λ (t : List ℕ). Adds g.K.Sink.held g.K.Sink.faults c.args.sink.now c.put_cycles.new.sink c.args.text.now c.put_cycles.new.text t)
    (ap (λ (x : ℕ). text x c.from-2.result c.deref.result.now) (c.from.ensures ∙ c.ti.ensures.value)
    ∙ ap (λ (x : ℕ). text c.args.table.now.ti x c.deref.result.now) (c.from-2.ensures ∙ c.sg.ensures.value)
    ∙ ap (λ (x : List Turn). text c.args.table.now.ti c.args.table.now.sg x) (c.deref.ensures.value ∙ c.requires.own.turns)
    ∙ ap (λ (m : Mode). cycle_picture m c.args.table.now c.args.figures.now.least c.args.figures.now.most) (sym c.requires.mode))
    (c.put_section.ensures ▸ c.put_cycles.ensures)

pub put_cycles-requires : goal.put_cycles-requires
put_cycles-requires g c =
    let most = most_of c.args.table.now c.args.figures.now.least c.args.figures.now.most c.ti.ensures.valid c.requires.own.accepted in
    record { some = most.some; short = most.short }
