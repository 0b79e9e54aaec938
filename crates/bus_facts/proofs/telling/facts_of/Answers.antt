use Rattle.std.proofs.Common.{arith, ap, ◌∙◌}
use Rattle.serde_json.specs.Data.{depth}
use Rattle.serde_json.specs.Written.{has_float}
use Rattle.bus_facts.proofs.Plain.{plain_facts}
use Rattle.bus_facts.proofs.telling.facts_of.Goals as goal

pub line_of-requires-clause-whole : goal.line_of-requires-clause-whole
line_of-requires-clause-whole c =
    ap has_float (c.in_ok-value-in-Err.ensures.value c.args.text.now c.in-Err.ensures.error c.in-Err.ensures.stop) ∙ (plain_facts c.args.text.now).whole

pub line_of-requires-clause-deep : goal.line_of-requires-clause-deep
line_of-requires-clause-deep c =
    omega (arith, ap depth (c.in_ok-value-in-Err.ensures.value c.args.text.now c.in-Err.ensures.error c.in-Err.ensures.stop), (plain_facts c.args.text.now).deep)
