use Rattle.std.proofs.Common.{◌≡◌, ℕ, ◌+◌, List, ◌∷◌, length, sym, subst, ap, arith, ◌∙◌}
use Rattle.std.specs.List.{AllByRecursion}
use Rattle.bus_shapes.specs.declared.sent.Sent.{Sent}
use Rattle.bus_cycles.specs.Dues.{begins_of}
use Rattle.bus_cycles.specs.inside.Beginning.{Begins}
use Rattle.bus_cycles.specs.inside.Bounds.{IsSent}
use Rattle.bus_cycles.specs.Rows.{Extent, rows_of}
use Rattle.bus_cycles.proofs.BeginLemmas.{begins_first, begins_new}
use Rattle.bus_cycles.proofs.begins.begins_from.Goals as goal

pub loop-sent-init : goal.loop-sent-init
loop-sent-init c =
    let cycle = c.args.cycle.now in
    let first = c.args.first.now in
    let whole = begins_of (rows_of cycle (first ∷ c.args.left)) in
    let same : c.args.left ≡ c.into_iter-sent-iterator.result = cc in
    let place : c.row_at-row.result.place ≡ 0 = ap (λ (e : Extent). e.place) c.row_at-row.ensures.value in
    record {
      told = subst (λ (l : List ℕ). Begins cycle whole l c.row_at-row.result c.into_iter-sent-iterator.result) (sym c.new-begins.ensures)
          (subst (λ (l : List Sent). Begins cycle whole _ c.row_at-row.result l) same (begins_first cycle c.row_at-row.result first c.args.left c.row_at-row.ensures.value));
      long = omega (arith, place, ap length c.new-begins.ensures);
      each = subst (AllByRecursion IsSent) same c.requires.each;
      few = omega (arith, c.requires.few, place, ap length same);
    }

pub loop-sent-preserved-then-is_new : goal.loop-sent-preserved-then-is_new
loop-sent-preserved-then-is_new c =
    let cycle = c.args.cycle.now in
    let whole = begins_of (rows_of cycle (c.args.first.now ∷ c.args.left)) in
    let place : c.row_at-row-then-is_new.result.place ≡ c.loop-sent.row.place + 1 = ap (λ (e : Extent). e.place) c.row_at-row-then-is_new.ensures.value in
    record {
      told = begins_new cycle whole c.loop-sent.begins.items c.add_begin.new.begins.items c.loop-sent.row c.row_at-row-then-is_new.result c.in-Some.sent c.next.new.self
          (subst (λ (l : List Sent). Begins cycle whole c.loop-sent.begins.items c.loop-sent.row l) c.in-Some.ensures.steps c.loop-sent.invariant.told)
          (sym c.is_new.ensures ∙ c.if-is_new.true) c.add_begin.ensures.items c.row_at-row-then-is_new.ensures.value;
      long = omega (arith, place, c.add_begin.ensures.long);
      each = (subst (AllByRecursion IsSent) c.in-Some.ensures.steps c.loop-sent.invariant.each).1;
      few = omega (arith, c.loop-sent.invariant.few, place, ap length c.in-Some.ensures.steps);
    }
