use Rattle.std.proofs.Common.{arith, length, ap}
use Rattle.std.proofs.lemmas.List.{length-map}
use Rattle.std.proofs.lemmas.List.Splits.{length-slice_split}
use Rattle.bus_trace.specs.States.{is_space}
use Rattle.bus_stream.proofs.item.read_item.Goals as goal

pub by_fields-requires : goal.by_fields-requires
by_fields-requires c =
    omega (
      arith,
      ap length c.in_ok-fields.ensures,
      length-map c.in_ok-fields.fields.items (λ f. f.now),
      length-slice_split is_space c.args.line.now,
      ap length c.deref.ensures.value,
    )
