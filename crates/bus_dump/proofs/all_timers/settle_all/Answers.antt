use Rattle.std.proofs.Common.{◌<◌, ◌≤◌, ◌+◌, length, map, arith, ap, ◌∙◌}
use Rattle.std.proofs.lemmas.List.{take_all}
use Rattle.bus_dump.specs.inside.TimerWalks.{settled}
use Rattle.bus_dump.proofs.AllTimerLemmas.{all_sound, settled_more}
use Rattle.bus_dump.proofs.all_timers.settle_all.Goals as goal

pub loop-k-preserved : goal.loop-k-preserved
loop-k-preserved c =
    let i = c.loop-k.invariant in
    let within : c.loop-k.k < length c.args.table.now.senders = omega (arith, c.sender_count-k-end.ensures.value) in
    record {
      items = settled_more c.args.table.now c.loop-k.all_timers.items c.push.new.self.items c.settled.result c.loop-k.k within i.items c.push.ensures.items c.settled.ensures;
      count = c.push.ensures.len ∙ ap (λ n. n + 1) i.count;
    }

pub returns-clause-items : goal.returns-clause-items
returns-clause-items c =
    let all : length c.args.table.now.senders ≤ c.loop-k.k = omega (arith, c.sender_count-k-end.ensures.value) in
    c.loop-k.invariant.items ∙ ap (map (settled c.args.table.now)) (take_all c.loop-k.k c.args.table.now.senders all)

pub returns-clause-sound : goal.returns-clause-sound
returns-clause-sound c = all_sound c.args.table.now c.sender_count-k-end.ensures.valid
