use Rattle.std.proofs.Common.{subst, ◌≡◌, ℕ, List}
use Rattle.std.specs.Prelude.{IfOk}
use Rattle.bus_cable_plan.proofs.Steps.{offsets_told}
use Rattle.bus_cable_plan.proofs.laying.offsets_in_order.Goals as goal

pub returns : goal.returns
returns c =
    let same = offsets_told c.args.d c.args.table.now c.shape_of-shape.result c.needed.result c.left_over-left.result.share c.left_over-left.result.rest
    c.offsets_by_number-offsets.result c.shape_of-shape.ensures.value c.needed.ensures.value c.left_over-left.ensures.share
    c.left_over-left.ensures.rest c.offsets_by_number-offsets.ensures c.table_is_valid.ensures in
    subst (λ (l : List ℕ). IfOk c.in_table_order.result (λ made. made.items ≡ l)) same c.in_table_order.ensures
