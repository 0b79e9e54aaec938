use Rattle.std.proofs.Common.{◌≡◌, ◌+◌, List, ◌∷◌, length, sym, subst, ap, arith, ◌∙◌}
use Rattle.std.specs.List.{AllByRecursion}
use Rattle.bus_shapes.specs.declared.sent.Sent.{Sent}
use Rattle.bus_cycles.specs.Faults.{any_marked}
use Rattle.bus_cycles.specs.inside.Bounds.{IsSent}
use Rattle.bus_cycles.specs.inside.Seeking.{Seeks}
use Rattle.bus_cycles.specs.Rows.{Extent, rows_of}
use Rattle.bus_cycles.proofs.BeginLemmas.{seeks_more, seeks_new}
use Rattle.std.proofs.lemmas.Grind.{common_steps}
use Rattle.bus_cycles.proofs.marked.any_marked_from.Goals as goal

pub loop-sent-preserved-then-is_new : goal.loop-sent-preserved-then-is_new
loop-sent-preserved-then-is_new c =
    let cycle = c.args.cycle.now in
    let found = c.args.judgements.now in
    let whole = any_marked found (rows_of cycle (c.args.first.now ∷ c.args.left)) in
    let place : c.row_at-row-then-is_new.result.place ≡ c.loop-sent.row.place + 1 = ap (λ (e : Extent). e.place) c.row_at-row-then-is_new.ensures.value in
    record {
      seeks = seeks_new cycle found whole c.loop-sent.marked c.marked_with-marked.result c.loop-sent.any c.has_fault-any-then-is_new.result c.loop-sent.row
          c.row_at-row-then-is_new.result c.in-Some.sent c.next.new.self
          (subst (λ (l : List Sent). Seeks cycle found whole c.loop-sent.marked c.loop-sent.any c.loop-sent.row l) c.in-Some.ensures.steps c.loop-sent.invariant.seeks)
          (sym c.is_new.ensures ∙ c.if-is_new.true) c.marked_with-marked.ensures c.row_at-row-then-is_new.ensures.value c.has_fault-any-then-is_new.ensures;
      each = (subst (AllByRecursion IsSent) c.in-Some.ensures.steps c.loop-sent.invariant.each).1;
      few = omega (arith, c.loop-sent.invariant.few, place, ap length c.in-Some.ensures.steps);
    }

pub loop-sent-preserved : goal.loop-sent-preserved
loop-sent-preserved c =
    let cycle = c.args.cycle.now in
    let found = c.args.judgements.now in
    let whole = any_marked found (rows_of cycle (c.args.first.now ∷ c.args.left)) in
    record {
      seeks = seeks_more cycle found whole c.loop-sent.marked c.loop-sent.any c.any_with-any.result c.loop-sent.row c.with-row.result c.in-Some.sent c.next.new.self
          (subst (λ (l : List Sent). Seeks cycle found whole c.loop-sent.marked c.loop-sent.any c.loop-sent.row l) c.in-Some.ensures.steps c.loop-sent.invariant.seeks)
          (sym c.is_new.ensures ∙ c.if-is_new.false) c.with-row.ensures.value c.any_with-any.ensures;
      each = (subst (AllByRecursion IsSent) c.in-Some.ensures.steps c.loop-sent.invariant.each).1;
      few = omega (arith, c.loop-sent.invariant.few, c.with-row.ensures.place, ap length c.in-Some.ensures.steps);
    }

pub returns : goal.returns
returns c = grind (arith, common_steps)
