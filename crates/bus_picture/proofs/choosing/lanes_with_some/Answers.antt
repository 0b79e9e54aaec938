use Rattle.std.proofs.Common.{Bool, arith, ap, ◌∙◌}
use Rattle.std.specs.List.{filter}
use Rattle.std.proofs.lemmas.List.{take_all}
use Rattle.bus_dump.specs.declared.lane.Lane.{Lane}
use Rattle.bus_picture.specs.Lanes.{has_some}
use Rattle.bus_picture.proofs.LaneLemmas.{kept_more}
use Rattle.bus_picture.proofs.choosing.lanes_with_some.Goals as goal

pub loop-k-preserved : goal.loop-k-preserved
loop-k-preserved c =
    let test : Lane → Bool = has_some c.args.scale.now c.args.told.now c.args.list.now in
    let i = c.loop-k.invariant in
    record {
      items = kept_more test c.args.lanes.now c.loop-k.k _ c.loop-k.some.items c.add_lane.new.lanes.items c.loop-k-test.true i.items c.add_lane.ensures.items;
      count = omega (arith, i.count, c.add_lane.ensures.few);
    }

pub returns : goal.returns
returns c =
    c.loop-k.invariant.items
    ∙ ap (filter (has_some c.args.scale.now c.args.told.now c.args.list.now)) (take_all c.loop-k.k c.args.lanes.now (omega arith))
