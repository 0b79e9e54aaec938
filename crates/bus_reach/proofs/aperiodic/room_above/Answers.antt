use Rattle.std.proofs.Common.{◌≡◌, ◌∙◌, ◌<◌, ◌≤◌, ◌+◌, ◌*◌, ◌↔◌, arith, subst, sym}
use Rattle.bus_reach.proofs.RoomLemmas.{IsRoomOf, clears, room_more, room_whole, room_shorter, room_longer}
use Rattle.bus_reach.proofs.ToleranceLemmas.{least_of_two}
use Rattle.bus_reach.proofs.aperiodic.room_above.Goals as goal
use Rattle.bus_reach.proofs.aperiodic.room_above.Goals.{then-gap-other, else-gap-other}

pub loop-b-preserved : goal.loop-b-preserved
loop-b-preserved c =
    let other : c.from-other.result ≡ c.b-item.result.tg = c.from-other.ensures ∙ c.tg.ensures.value in
    room_more (clears c.args.gap) c.args.senders.now c.loop-b.b-index c.b-item.result c.args.most c.loop-b.room c.if-gap-other.room (omega (arith, c.loop-b-test.true)) c.b-item.is c.loop-b.invariant
    (elim c.if-gap-other.branch [
      | then-gap-other w ↦
          subst (IsRoomOf (clears c.args.gap) c.b-item.result c.loop-b.room) (sym w.room-is)
          (room_longer c.args.gap c.b-item.result c.loop-b.room w.room_between.result w.min-room.result (omega (arith, w.if-gap-other.true, other))
          (λ d. subst (λ n. (d ≤ w.room_between.result) ↔ (c.args.gap + 2 * d < n)) other (w.room_between.ensures d))
          (least_of_two c.loop-b.room w.room_between.result w.min-room.result w.min-room.ensures))
      | else-gap-other w ↦
          subst (IsRoomOf (clears c.args.gap) c.b-item.result c.loop-b.room) (sym w.room-is)
          (room_shorter c.args.gap c.b-item.result c.loop-b.room (omega (arith, w.if-gap-other.false, other)))
    ])

pub returns : goal.returns
returns c = room_whole (clears c.args.gap) c.args.senders.now c.loop-b.b-index c.args.most c.loop-b.room (omega (arith, c.loop-b-test.false)) c.loop-b.invariant
