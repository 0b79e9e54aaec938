use Rattle.std.proofs.Common.{arith, ap, ◌∙◌}
use Rattle.serde_json.specs.Data.{depth}
use Rattle.serde_json.specs.Written.{has_float}
use Rattle.bus_facts.proofs.Plain.{plain_table}
use Rattle.bus_facts.proofs.telling.table_facts.Goals as goal

pub line_of-requires-clause-whole : goal.line_of-requires-clause-whole
line_of-requires-clause-whole c = ap has_float c.in_ok-value.ensures ∙ (plain_table c.args.table.now).whole

pub line_of-requires-clause-deep : goal.line_of-requires-clause-deep
line_of-requires-clause-deep c = omega (arith, ap depth c.in_ok-value.ensures, (plain_table c.args.table.now).deep)
