use Rattle.std.proofs.Common.{◌≡◌, false, sym, ap, ◌∙◌}
use Rattle.bus_regime.specs.Verdicts.{verdict_of, is_accepted}
use Rattle.bus_tool.proofs.DiagnoseLemmas.{accepted_ends, refused_ends}
use Rattle.bus_tool.proofs.beside.diagnose_table.Goals as goal

pub diagnose_text-requires-clause-accepted : goal.diagnose_text-requires-clause-accepted
diagnose_text-requires-clause-accepted g c =
    ap is_accepted (sym c.verdict.ensures) ∙ sym c.is_accepted.ensures ∙ c.if-is_accepted.true

pub returns-then-is_accepted : goal.returns-then-is_accepted
returns-then-is_accepted g c =
    accepted_ends g.K.Sink c.args.table.now c.args.text.now c.args.out.now c.diagnose_text.new.out c.diagnose_text.result
    (ap is_accepted (sym c.verdict.ensures) ∙ sym c.is_accepted.ensures ∙ c.if-is_accepted.true) c.diagnose_text.ensures

pub returns-else-is_accepted : goal.returns-else-is_accepted
returns-else-is_accepted g c =
    let refused : is_accepted (verdict_of c.args.table.now) ≡ false = ap is_accepted (sym c.verdict.ensures) ∙ sym c.is_accepted.ensures ∙ c.if-is_accepted.false in
    refused_ends g.K.Sink c.args.table.now c.args.text.now c.args.out.now c.explain_table.new.out c.explain_table.result refused c.explain_table.ensures
