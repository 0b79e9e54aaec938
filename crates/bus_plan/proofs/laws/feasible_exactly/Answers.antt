use Rattle.std.proofs.Common.{◌<◌}
use Rattle.std.proofs.lemmas.List.{length-map}
use Rattle.bus_table.specs.Tables.{Sender}
use Rattle.bus_table.proofs.ValidLaws.{valid_facts}
use Rattle.bus_plan.specs.Plans.{planned_order, planned, offset_in, planned_offsets}
use Rattle.bus_plan.proofs.Moved.{accepted_long}
use Rattle.bus_plan.proofs.Outcome.{planned_offsets_below, planned_good}
use Rattle.bus_plan.proofs.Steps.{all_of}
use Rattle.bus_plan.proofs.laws.feasible_exactly.Goals as goal

pub returns : goal.returns
returns c = λ table valid periodic. (
  (λ h. (
    planned_offsets table,
    record {
      count = length-map table.senders (λ (s : Sender). offset_in (planned table.sg (planned_order table.senders)) s.number);
      below = all_of (λ at. at < table.ti) (planned_offsets table) (planned_offsets_below table valid h);
      accepted = (planned_good table valid periodic h).1;
    },
  )),
  (λ w. accepted_long table w.0 periodic (valid_facts table valid).some w.1.accepted),
)
