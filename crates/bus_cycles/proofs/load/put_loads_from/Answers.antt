use Rattle.std.proofs.Common.{◌≡◌, List, ◌∷◌, length, subst, ap, arith}
use Rattle.std.specs.List.{AllByRecursion}
use Rattle.bus_shapes.specs.declared.sent.Sent.{Sent}
use Rattle.bus_cycles.specs.inside.Loading.{Loads}
use Rattle.bus_cycles.specs.Loads.{loads_text}
use Rattle.bus_cycles.specs.Rows.{Extent, rows_of}
use Rattle.bus_cycles.specs.inside.Bounds.{IsSent}
use Rattle.bus_cycles.proofs.LoadLemmas.{loads_end, loads_first, loads_next}
use Rattle.bus_cycles.proofs.load.put_loads_from.Goals as goal

pub put_next-requires-clause-sent : goal.put_next-requires-clause-sent
put_next-requires-clause-sent g c = (subst (AllByRecursion IsSent) c.in-Some.ensures.steps c.loop-sent.invariant.each).0

pub put_next-requires-clause-place : goal.put_next-requires-clause-place
put_next-requires-clause-place g c = omega (arith, c.loop-sent.invariant.few, ap length c.in-Some.ensures.steps)

pub loop-sent-init : goal.loop-sent-init
loop-sent-init g c =
    let page = c.args.page.now in
    let first = c.args.first.now in
    let same : c.args.left ≡ c.into_iter-sent-iterator.result = cc in
    let place : c.row_at-row.result.place ≡ 0 = ap (λ (e : Extent). e.place) c.row_at-row.ensures.value in
    record {
      loads = λ list is.
          subst (λ (l : List Sent). Loads g.K.Sink.held g.K.Sink.faults c.args.sink.now c.args.sink.now c.args.text.now c.args.text.now page list
          (loads_text page list (rows_of page.cycle (first ∷ c.args.left))) c.row_at-row.result l) same
          (loads_first g.K.Sink.held g.K.Sink.faults c.args.sink.now c.args.text.now page list c.row_at-row.result first c.args.left c.row_at-row.ensures.value);
      each = subst (AllByRecursion IsSent) same c.requires.each;
      few = omega (arith, c.requires.few, ap length same);
      low = c.row_at-row.ensures.low;
      begin = c.row_at-row.ensures.begin;
    }

pub loop-sent-preserved : goal.loop-sent-preserved
loop-sent-preserved g c =
    let page = c.args.page.now in
    record {
      loads = λ list is.
          let whole = loads_text page list (rows_of page.cycle (c.args.first.now ∷ c.args.left)) in
          loads_next g.K.Sink.held g.K.Sink.faults c.args.sink.now c.loop-sent.sink c.put_next.new.sink c.args.text.now c.loop-sent.text c.put_next.new.text page list whole
          c.loop-sent.row c.put_next.new.row c.in-Some.sent c.next.new.self
          (subst (λ (l : List Sent). Loads g.K.Sink.held g.K.Sink.faults c.args.sink.now c.loop-sent.sink c.args.text.now c.loop-sent.text page list whole c.loop-sent.row l)
          c.in-Some.ensures.steps (c.loop-sent.invariant.loads list is)) (λ was e. c.put_next.ensures.adds was list e is) c.put_next.ensures.keeps;
      each = (subst (AllByRecursion IsSent) c.in-Some.ensures.steps c.loop-sent.invariant.each).1;
      few = omega (arith, c.loop-sent.invariant.few, c.put_next.ensures.place, ap length c.in-Some.ensures.steps);
      low = c.put_next.ensures.low;
      begin = c.put_next.ensures.begin;
    }

pub returns : goal.returns
returns g c list is =
    let page = c.args.page.now in
    loads_end g.K.Sink.held g.K.Sink.faults c.args.sink.now c.loop-sent.sink c.put_load.new.sink c.args.text.now c.loop-sent.text c.put_load.new.text page list
    (loads_text page list (rows_of page.cycle (c.args.first.now ∷ c.args.left))) c.loop-sent.row c.loop-sent.sent-iterator (c.loop-sent.invariant.loads list is)
    c.in-None.ensures.steps.0 (c.put_load.ensures list is)
