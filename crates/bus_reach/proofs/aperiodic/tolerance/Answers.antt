use Rattle.std.proofs.Common.{◌≡◌, ◌∙◌, ◌<◌, ◌≤◌, ◌+◌, ◌*◌, ◌↔◌, arith, subst}
use Rattle.bus_table.proofs.ValidLaws.{valid_facts}
use Rattle.bus_reach.specs.Tolerance.{leaves_room}
use Rattle.bus_reach.proofs.RoomLemmas.{IsRoom, clears, room_more, room_whole, room_of_sender}
use Rattle.bus_reach.proofs.ToleranceLemmas.{least_of_three, read_facts, tolerance_whole}
use Rattle.bus_reach.proofs.aperiodic.tolerance.Goals as goal

pub room_between-requires : goal.room_between-requires
room_between-requires c =
    let facts = read_facts c.args.table.now c.senders-senders.result.now c.loop-a.a-index c.a-item.result (valid_facts c.args.table.now c.senders-senders.ensures.valid) c.senders-senders.ensures.value
    (omega (arith, c.loop-a-test.true)) c.a-item.is in
    omega (arith, facts.tg_short, c.from-gap.ensures, c.tg.ensures.value, c.from-sg.ensures, c.sg.ensures.value)

pub loop-a-preserved : goal.loop-a-preserved
loop-a-preserved c =
    let gap : c.from-gap.result ≡ c.a-item.result.tg = c.from-gap.ensures ∙ c.tg.ensures.value in
    room_more (λ d b. leaves_room d c.from-sg.result c.senders-senders.result.now b) c.senders-senders.result.now c.loop-a.a-index c.a-item.result 256 c.loop-a.room c.room_above-room.result
    (omega (arith, c.loop-a-test.true)) c.a-item.is c.loop-a.invariant
    (room_of_sender c.from-sg.result c.senders-senders.result.now c.a-item.result c.loop-a.room c.room_between.result c.min-in-loop-a.result c.room_above-room.result
    (λ d. subst (λ n. (d ≤ c.room_between.result) ↔ (n + 2 * d < c.from-sg.result)) gap (c.room_between.ensures d))
    (least_of_three c.loop-a.room c.from-gap.result c.a-item.result.tg c.room_between.result c.min.result c.min-in-loop-a.result gap c.min.ensures c.min-in-loop-a.ensures)
    (subst (λ n. IsRoom (clears n) c.senders-senders.result.now c.min-in-loop-a.result c.room_above-room.result) gap c.room_above-room.ensures))

pub returns-clause-greatest : goal.returns-clause-greatest
returns-clause-greatest c =
    tolerance_whole c.args.table.now c.senders-senders.result.now c.from-sg.result c.loop-a.room (valid_facts c.args.table.now c.senders-senders.ensures.valid) c.senders-senders.ensures.value
    (c.from-sg.ensures ∙ c.sg.ensures.value) c.if-senders-eq1.false
    (room_whole (λ d b. leaves_room d c.from-sg.result c.senders-senders.result.now b) c.senders-senders.result.now c.loop-a.a-index 256 c.loop-a.room (omega (arith, c.loop-a-test.false)) c.loop-a.invariant)
