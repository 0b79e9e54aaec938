use Rattle.std.proofs.Common.{◌≡◌, ◌≤◌, ◌<◌, length, get_or, arith, ap}
use Rattle.bus_table.proofs.ValidLaws.{valid_facts}
use Rattle.bus_schedule.proofs.PlaceLemmas.{place_more, places_whole}
use Rattle.bus_schedule.proofs.order.turn_places.Goals as goal

pub bounds-found-turn : goal.bounds-found-turn
bounds-found-turn c =
    let few : length c.args.table.now.senders ≤ 128 = (valid_facts c.args.table.now c.senders-count.ensures.valid).few in
    let same : length c.senders-count.result.now ≡ length c.args.table.now.senders = ap length c.senders-count.ensures.value in
    omega (arith, c.loop-turn-test.true)

pub loop-turn-preserved : goal.loop-turn-preserved
loop-turn-preserved c =
    let same : length c.senders-count.result.now ≡ length c.args.table.now.senders = ap length c.senders-count.ensures.value in
    let less : c.loop-turn.turn < length c.args.table.now.senders = omega (arith, c.loop-turn-test.true) in
    place_more c.args.table.now c.loop-turn.turn (get_or c.turn_places-found.result c.loop-turn.turn 0) c.loop-turn.places.items c.push.new.self.items less
    (c.turn_places-found.ensures c.loop-turn.turn less).same c.in_ok-push.ensures.items c.loop-turn.invariant

pub returns : goal.returns
returns c = places_whole c.args.table.now c.loop-turn.places.items c.loop-turn.turn (omega (arith, c.loop-turn-test.false, ap length c.senders-count.ensures.value)) c.loop-turn.invariant
