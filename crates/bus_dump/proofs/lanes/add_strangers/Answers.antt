use Rattle.std.proofs.Common.{◌≡◌, ◌+◌, ◌++◌, arith, map, refl, ap, ◌∙◌}
use Rattle.std.specs.List.{filter, range_with_len}
use Rattle.bus_dump.specs.Lanes.{is_stranger, stranger_lane}
use Rattle.bus_dump.proofs.LaneLemmas.{stranger_more}
use Rattle.bus_dump.proofs.lanes.add_strangers.Goals as goal

pub loop-before-preserved : goal.loop-before-preserved
loop-before-preserved c =
    let i = c.loop-before.invariant in
    record {
      items = stranger_more stranger_lane (is_stranger c.args.table.now c.args.list.now) c.loop-before.before (c.loop-before.before + 1) c.args.lanes.now.items
          c.loop-before.lanes.items c.add_stranger.new.lanes.items refl i.items
          (c.add_stranger.ensures.items c.args.list.now (c.sending_of-sending.ensures (c.loop-before.before + 1) (omega arith)));
      count = omega (arith, i.count, c.add_stranger.ensures.few);
    }

pub returns : goal.returns
returns c =
    let all : c.loop-before.before ≡ 128 = omega arith in
    c.loop-before.invariant.items
    ∙ ap (λ n. c.args.lanes.now.items ++ map stranger_lane (filter (is_stranger c.args.table.now c.args.list.now) (range_with_len 1 n))) all
