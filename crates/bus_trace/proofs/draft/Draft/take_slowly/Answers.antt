use Rattle.std.proofs.Common.{arith, length, ap}
use Rattle.std.proofs.lemmas.List.{length-map}
use Rattle.std.proofs.lemmas.List.Splits.{length-slice_split}
use Rattle.bus_trace.specs.States.{is_space}
use Rattle.bus_trace.proofs.draft.Draft.take_slowly.Goals as goal

pub take_fields-requires-clause-some : goal.take_fields-requires-clause-some
take_fields-requires-clause-some c =
    omega (
      arith,
      ap length c.in_ok-fields.ensures,
      length-map c.in_ok-fields.fields.items (λ f. f.now),
      length-slice_split is_space c.args.line.now,
      ap length c.deref.ensures.value,
    )
