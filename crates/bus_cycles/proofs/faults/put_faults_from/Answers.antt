use Rattle.std.proofs.Common.{◌≡◌, List, ◌∷◌, length, subst, ap, arith}
use Rattle.std.specs.List.{AllByRecursion}
use Rattle.bus_shapes.specs.declared.sent.Sent.{Sent}
use Rattle.bus_cycles.specs.Faults.{faults_of}
use Rattle.bus_cycles.specs.inside.Bounds.{IsSent}
use Rattle.bus_cycles.specs.inside.Marking.{Marks}
use Rattle.bus_cycles.specs.Rows.{Extent, rows_of}
use Rattle.bus_cycles.proofs.FaultLemmas.{marks_end, marks_first, marks_next}
use Rattle.bus_cycles.proofs.faults.put_faults_from.Goals as goal

pub put_next-requires-clause-sent : goal.put_next-requires-clause-sent
put_next-requires-clause-sent g c = (subst (AllByRecursion IsSent) c.in-Some.ensures.steps c.loop-sent.invariant.each).0

pub put_next-requires-clause-few : goal.put_next-requires-clause-few
put_next-requires-clause-few g c = omega (arith, c.loop-sent.invariant.few, ap length c.in-Some.ensures.steps)

pub loop-sent-init : goal.loop-sent-init
loop-sent-init g c =
    let page = c.args.page.now in
    let found = c.args.judgements.now in
    let first = c.args.first.now in
    let same : c.args.left ≡ c.into_iter-sent-iterator.result = cc in
    let place : c.row_at-row.result.place ≡ 0 = ap (λ (e : Extent). e.place) c.row_at-row.ensures.value in
    record {
      marks = subst (λ (l : List Sent). Marks g.K.Sink.held g.K.Sink.faults c.args.sink.now c.put_fault.new.sink c.args.text.now c.put_fault.new.text page found
          (faults_of page found (rows_of page.cycle (first ∷ c.args.left))) c.row_at-row.result c.has_fault-any.result l) same
          (marks_first g.K.Sink.held g.K.Sink.faults c.args.sink.now c.put_fault.new.sink c.args.text.now c.put_fault.new.text page found c.row_at-row.result
          c.has_fault-any.result first c.args.left c.row_at-row.ensures.value c.has_fault-any.ensures c.put_fault.ensures);
      each = subst (AllByRecursion IsSent) same c.requires.each;
      few = omega (arith, c.requires.few, ap length same);
    }

pub loop-sent-preserved : goal.loop-sent-preserved
loop-sent-preserved g c =
    let page = c.args.page.now in
    let found = c.args.judgements.now in
    let whole = faults_of page found (rows_of page.cycle (c.args.first.now ∷ c.args.left)) in
    record {
      marks = marks_next g.K.Sink.held g.K.Sink.faults c.args.sink.now c.loop-sent.sink c.put_next.new.sink c.args.text.now c.loop-sent.text c.put_next.new.text
          page found whole c.loop-sent.row c.put_next.new.row c.loop-sent.any c.put_next.new.any c.in-Some.sent c.next.new.self
          (subst (λ (l : List Sent). Marks g.K.Sink.held g.K.Sink.faults c.args.sink.now c.loop-sent.sink c.args.text.now c.loop-sent.text page found whole c.loop-sent.row c.loop-sent.any l)
          c.in-Some.ensures.steps c.loop-sent.invariant.marks) c.put_next.ensures.adds c.put_next.ensures.keeps;
      each = (subst (AllByRecursion IsSent) c.in-Some.ensures.steps c.loop-sent.invariant.each).1;
      few = omega (arith, c.loop-sent.invariant.few, c.put_next.ensures.place, ap length c.in-Some.ensures.steps);
    }

pub returns : goal.returns
returns g c =
    let page = c.args.page.now in
    let found = c.args.judgements.now in
    marks_end g.K.Sink.held g.K.Sink.faults c.args.sink.now c.loop-sent.sink c.put_word.new.sink c.args.text.now c.loop-sent.text c.put_word.new.text page found
    (faults_of page found (rows_of page.cycle (c.args.first.now ∷ c.args.left))) c.loop-sent.row c.loop-sent.any c.loop-sent.sent-iterator
    c.loop-sent.invariant.marks c.in-None.ensures.steps.0 c.put_word.ensures
