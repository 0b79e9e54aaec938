use Rattle.std.proofs.Common.{List, ℕ, Bool, subst, take}
use Rattle.std.specs.List.{flat_map, zip}
use Rattle.bus_outer.specs.Texts.{Adds}
use Rattle.bus_outer.proofs.TextLaws.{◌▸◌, adds_nothing}
use Rattle.bus_strings.specs.Messages.{Entry}
use Rattle.bus_strings.specs.Transmissions.{marks}
use Rattle.bus_filter.specs.Received.{Taker}
use Rattle.bus_filter.specs.inside.Putting.{marked_put}
use Rattle.bus_strings.proofs.ListLaws.{flat_map-more}
use Rattle.bus_strings.proofs.MarkLaws.{next_marked, all_marked}
use Rattle.bus_filter.proofs.writing.put_list.Goals as goal

pub loop-x-init : goal.loop-x-init
loop-x-init g c = record { left = c.new-marks.ensures; adds = adds_nothing g.K.Sink.held g.K.Sink.faults c.args.sink.now c.args.text.now }

pub loop-x-preserved : goal.loop-x-preserved
loop-x-preserved g c =
    let taker : Taker = record { number = c.args.number; takes = c.args.takes.now } in
    let list : List Entry = c.args.list.now in
    let n = next_marked list c.loop-x.x-index c.x-item.result c.loop-x.marks c.next.new.self c.next.result c.eq-garbled.result
    c.x-item.is c.loop-x-test.true c.loop-x.invariant.left c.next.ensures.steps c.eq-garbled.ensures in
    record {
      left = n.1;
      adds = subst (λ (t : List ℕ). Adds g.K.Sink.held g.K.Sink.faults c.args.sink.now c.put_keyed.new.sink c.args.text.now c.put_keyed.new.text t)
          (flat_map-more (marked_put taker) (take c.loop-x.x-index (zip list (marks list))) _ (c.x-item.result, c.eq-garbled.result) n.0)
          (c.loop-x.invariant.adds ▸ c.put_keyed.ensures c.eq-garbled.result c.key.ensures.value);
    }

pub returns : goal.returns
returns g c =
    let taker : Taker = record { number = c.args.number; takes = c.args.takes.now } in
    subst (λ (pairs : List (Entry × Bool)). Adds g.K.Sink.held g.K.Sink.faults c.args.sink.now c.loop-x.sink c.args.text.now c.loop-x.text (flat_map (marked_put taker) pairs))
    (all_marked c.args.list.now c.loop-x.x-index c.loop-x-test.false) c.loop-x.invariant.adds
