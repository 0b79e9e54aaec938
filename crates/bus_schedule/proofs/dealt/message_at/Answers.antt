use Rattle.std.proofs.Common.{arith, ap}
use Rattle.bus_table.specs.Tables.{Hand}
use Rattle.bus_schedule.proofs.EvenLemmas.{sender_at, hand_within, message_there, message_at}
use Rattle.bus_schedule.proofs.dealt.message_at.Goals as goal

pub bounds-hands-place : goal.bounds-hands-place
bounds-hands-place c =
    let s = sender_at c.args.table.now.senders c.args.place c.requires.place in
    hand_within c.args.table.now c.args.hands.now c.args.place s.0 c.senders.ensures.valid c.requires.even s.1

pub index-requires : goal.index-requires
index-requires c =
    let s = sender_at c.args.table.now.senders c.args.place c.requires.place in
    let there = message_there c.args.table.now c.args.hands.now c.args.place c.args.round s.0 c.index-hands-place.result c.hand.inside.messages.items c.senders.ensures.valid c.requires.even c.requires.round s.1
    c.index-hands-place.is (ap (λ (h : Hand). h.messages) c.hand.view_is) in
    omega (arith, there, c.hand.inside.messages.ok.0)

pub returns : goal.returns
returns c = λ sender at.
    message_at c.args.table.now c.args.hands.now c.args.place c.args.round sender c.index-hands-place.result c.hand.inside.messages.items c.index.result.now c.senders.ensures.valid c.requires.even c.requires.round at
    c.index-hands-place.is (ap (λ (h : Hand). h.messages) c.hand.view_is) c.index.ensures
