use Rattle.bus_table.proofs.ValidLaws.{valid_facts}
use Rattle.bus_plan.proofs.Moved.{short_refused}
use Rattle.bus_plan.proofs.laws.short_is_refused.Goals as goal

pub returns : goal.returns
returns c = λ table offsets valid periodic short. short_refused table offsets periodic (valid_facts table valid).some short
