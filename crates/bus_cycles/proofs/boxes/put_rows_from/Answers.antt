use Rattle.std.proofs.Common.{◌≡◌, List, [], ◌∷◌, length, subst, ap, arith}
use Rattle.std.specs.List.{AllByRecursion}
use Rattle.bus_shapes.specs.declared.sent.Sent.{Sent}
use Rattle.bus_cycles.specs.inside.Drawing.{Draws}
use Rattle.bus_cycles.specs.Rows.{Extent, rows_of}
use Rattle.bus_cycles.specs.RowTexts.{walk_text}
use Rattle.bus_cycles.specs.inside.Bounds.{IsSent}
use Rattle.bus_cycles.proofs.DrawLemmas.{draws_end, draws_first, draws_next, reaches_none}
use Rattle.bus_cycles.proofs.boxes.put_rows_from.Goals as goal

pub put_next-requires-clause-sent : goal.put_next-requires-clause-sent
put_next-requires-clause-sent g c = (subst (AllByRecursion IsSent) c.in-Some.ensures.steps c.loop-sent.invariant.each).0

pub put_next-requires-clause-few : goal.put_next-requires-clause-few
put_next-requires-clause-few g c = omega (arith, c.loop-sent.invariant.few, ap length c.in-Some.ensures.steps)

pub loop-sent-init : goal.loop-sent-init
loop-sent-init g c =
    let page = c.args.page.now in
    let garbled = c.args.garbled in
    let whole = walk_text page garbled (rows_of page.cycle (c.args.first.now ∷ c.args.left)) in
    let same : c.args.left ≡ c.into_iter-sent-iterator.result = cc in
    let place : c.row_at-row.result.place ≡ 0 = ap (λ (e : Extent). e.place) c.row_at-row.ensures.value in
    record {
      draws = subst (λ (l : List Sent). Draws g.K.Sink.held g.K.Sink.faults c.args.sink.now c.put_behind.new.sink c.args.text.now c.put_behind.new.text page garbled whole
          c.row_at-row.result c.put_behind.new.edges l) same (draws_first g.K.Sink.held g.K.Sink.faults c.args.sink.now c.put_behind.new.sink c.args.text.now c.put_behind.new.text page garbled c.row_at-row.result
          c.put_behind.new.edges c.args.first.now c.args.left c.row_at-row.ensures.value (c.put_behind.ensures.adds [] (reaches_none page c.row_at-row.result.begin))
          (c.put_behind.ensures.keeps [] (reaches_none page c.row_at-row.result.begin)));
      each = subst (AllByRecursion IsSent) same c.requires.each;
      few = omega (arith, c.requires.few, ap length same);
      begin = c.row_at-row.ensures.begin;
      low = c.row_at-row.ensures.low;
    }

pub loop-sent-preserved : goal.loop-sent-preserved
loop-sent-preserved g c =
    let page = c.args.page.now in
    let garbled = c.args.garbled in
    let whole = walk_text page garbled (rows_of page.cycle (c.args.first.now ∷ c.args.left)) in
    record {
      draws = draws_next g.K.Sink.held g.K.Sink.faults c.args.sink.now c.loop-sent.sink c.put_next.new.sink c.args.text.now c.loop-sent.text c.put_next.new.text page garbled whole
          c.loop-sent.row c.put_next.new.row c.loop-sent.edges c.put_next.new.edges c.in-Some.sent c.next.new.self
          (subst (λ (l : List Sent). Draws g.K.Sink.held g.K.Sink.faults c.args.sink.now c.loop-sent.sink c.args.text.now c.loop-sent.text page garbled whole c.loop-sent.row c.loop-sent.edges l)
          c.in-Some.ensures.steps c.loop-sent.invariant.draws) c.put_next.ensures.adds c.put_next.ensures.keeps;
      each = (subst (AllByRecursion IsSent) c.in-Some.ensures.steps c.loop-sent.invariant.each).1;
      few = omega (arith, c.loop-sent.invariant.few, c.put_next.ensures.place, ap length c.in-Some.ensures.steps);
      begin = c.put_next.ensures.begin;
      low = c.put_next.ensures.low;
    }

pub returns : goal.returns
returns g c =
    let page = c.args.page.now in
    let garbled = c.args.garbled in
    draws_end g.K.Sink.held g.K.Sink.faults c.args.sink.now c.loop-sent.sink c.put_ending.new.sink c.args.text.now c.loop-sent.text c.put_ending.new.text page garbled
    (walk_text page garbled (rows_of page.cycle (c.args.first.now ∷ c.args.left))) c.loop-sent.row c.loop-sent.edges c.loop-sent.sent-iterator c.loop-sent.invariant.draws
    c.in-None.ensures.steps.0 c.put_ending.ensures
