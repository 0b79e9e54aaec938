use Rattle.std.proofs.Common.{sym, ap, ◌∙◌}
use Rattle.bus_regime.specs.Verdicts.{is_accepted}
use Rattle.bus_tool.proofs.ExplainLemmas.{table_ends, refused_ends}
use Rattle.bus_tool.proofs.explain.explain_table.Goals as goal

pub explain_accepted-requires-clause-own : goal.explain_accepted-requires-clause-own
explain_accepted-requires-clause-own g c = sym c.in-Accept.is ∙ c.verdict-verdict.ensures

pub explain_accepted-requires-clause-accepted : goal.explain_accepted-requires-clause-accepted
explain_accepted-requires-clause-accepted g c = (_, sym c.verdict-verdict.ensures ∙ c.in-Accept.is)

pub explain_refused-requires-clause-own : goal.explain_refused-requires-clause-own
explain_refused-requires-clause-own g c = c.verdict-verdict.ensures

pub explain_refused-requires-clause-refused : goal.explain_refused-requires-clause-refused
explain_refused-requires-clause-refused g c = ap is_accepted c.in-ShortCycle.is

pub returns-in-Accept : goal.returns-in-Accept
returns-in-Accept g c =
    table_ends g.K.Sink c.args.table.now _ c.args.out.now c.explain_accepted.new.out c.explain_accepted.result (sym c.in-Accept.is ∙ c.verdict-verdict.ensures)
    c.explain_accepted.ensures

pub returns-in-ShortCycle : goal.returns-in-ShortCycle
returns-in-ShortCycle g c =
    refused_ends g.K.Sink c.args.table.now c.verdict-verdict.result c.args.out.now c.explain_refused.new.out c.explain_refused.result c.verdict-verdict.ensures
    (ap is_accepted c.in-ShortCycle.is) c.explain_refused.ensures

pub returns-in-SmallGap : goal.returns-in-SmallGap
returns-in-SmallGap g c =
    refused_ends g.K.Sink c.args.table.now c.verdict-verdict.result c.args.out.now c.explain_refused-in-SmallGap.new.out c.explain_refused-in-SmallGap.result c.verdict-verdict.ensures
    (ap is_accepted c.in-SmallGap.is) c.explain_refused-in-SmallGap.ensures

pub returns-in-NoSync : goal.returns-in-NoSync
returns-in-NoSync g c =
    refused_ends g.K.Sink c.args.table.now c.verdict-verdict.result c.args.out.now c.explain_refused-in-NoSync.new.out c.explain_refused-in-NoSync.result c.verdict-verdict.ensures
    (ap is_accepted c.in-NoSync.is) c.explain_refused-in-NoSync.ensures
