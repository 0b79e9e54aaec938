use Rattle.std.proofs.Common.{List, ℕ, ap, sym, ◌∙◌, subst}
use Rattle.bus_outer.specs.Sinks.{WritesText}
use Rattle.bus_regime.specs.Verdicts.{verdict_of}
use Rattle.bus_regime.specs.declared.table_verdict.TableVerdict.{TableVerdict}
use Rattle.bus_page.specs.Findings.{AreFigures, AreFindings, IsRefusalOf}
use Rattle.bus_page.specs.Pages.{table_page, page_with, refused_page}
use Rattle.bus_page.proofs.PageLemmas.{refused_is}
use Rattle.bus_page.proofs.page.write_page.Goals as goal

pub returns-in-Accepted : goal.returns-in-Accepted
unfolding table_page
returns-in-Accepted g c =
    let table = c.args.table.now in
    let own : AreFigures table c.in-Accepted.figures = subst (AreFindings table) c.in-Accepted.is c.requires in
    subst (λ (t : List ℕ). WritesText g.K.Sink.held g.K.Sink.faults c.args.sink.now c.write_accepted_page.new.sink c.write_accepted_page.result t)
    (ap (λ (v : TableVerdict). page_with c.args.program.now c.args.bytes.now c.args.asked.now v table) (sym own.accepted.1)) c.write_accepted_page.ensures

pub returns-in-Refused : goal.returns-in-Refused
unfolding table_page
returns-in-Refused g c =
    let table = c.args.table.now in
    let program = c.args.program.now in
    let bytes = c.args.bytes.now in
    let own : IsRefusalOf table c.in-Refused.refusal = subst (AreFindings table) c.in-Refused.is c.requires in
    subst (λ (t : List ℕ). WritesText g.K.Sink.held g.K.Sink.faults c.args.sink.now c.write_refused_page.new.sink c.write_refused_page.result t)
    (ap (λ (v : TableVerdict). refused_page program bytes v table) own.verdict ∙ refused_is program bytes c.args.asked.now (verdict_of table) table own.refused)
    c.write_refused_page.ensures
