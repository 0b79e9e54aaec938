use Rattle.std.proofs.Common.{◌+◌, map, ap, ◌∙◌}
use Rattle.std.proofs.lemmas.List.{take_all}
use Rattle.bus_dump.specs.inside.SenderTimers.{tells_at}
use Rattle.bus_dump.proofs.AllTimerLemmas.{no_timers, low_at, each_more}
use Rattle.bus_dump.proofs.all_timers.tell_all.Goals as goal

pub tells-requires : goal.tells-requires
tells-requires c = low_at c.args.all_timers.now c.loop-sender_timers.sender_timers-index no_timers c.loop-sender_timers-test.true c.requires.low

pub loop-sender_timers-preserved : goal.loop-sender_timers-preserved
loop-sender_timers-preserved c =
    let i = c.loop-sender_timers.invariant in
    record {
      items = each_more (tells_at c.args.place) c.args.all_timers.now c.loop-sender_timers.sender_timers-index c.loop-sender_timers.timers.items c.push.new.self.items _ no_timers c.loop-sender_timers-test.true i.items c.push.ensures.items c.tells.ensures;
      count = c.push.ensures.len ∙ ap (λ n. n + 1) i.count;
    }

pub returns : goal.returns
returns c = c.loop-sender_timers.invariant.items ∙ ap (map (tells_at c.args.place)) (take_all c.loop-sender_timers.sender_timers-index c.args.all_timers.now c.loop-sender_timers-test.false)
